-- An agent that starts again from what was saved.
use Rattle.std.proofs.Common.{◌≡◌, ℕ, false, List, [], Option, Some, None, Result, Ok, Err, sym, ap, ◌∙◌, subst}
use Rattle.ivy_base.specs.Naming.{head_key_of}
use Rattle.wire_model.specs.Xdr.{IsAny}
use Rattle.log_model.specs.Vector.{Vector}
use Rattle.log_model.specs.View.{View}
use Rattle.turn_model.specs.Basis.{nothing_held}
use Rattle.ivy_io.specs.Keepers.{GivesKept, KeeperState}
use Rattle.replay_engine.specs.Engines.{Engine, holding}
use Rattle.agent_model.specs.Agent as model
use Rattle.log_model.specs.Signing.{Signing}
use Rattle.agent_model.specs.Agent.{joined, own_key}
use Rattle.agent_model.specs.SavedBytes.{IsKept}
use Rattle.agent_saves.specs.Saves.{AreSavedOf, IsCounted}
use Rattle.ivy_agent.specs.Holders.{Holder, IsSound, Stands, agent_of}
use Rattle.ivy_agent.specs.Saves.{saved_of}
use Rattle.ivy_agent.specs.Restarting.{HasStayed, Keeps, KeepsSome, Restarts, Restores}
use Rattle.ivy_agent.specs.declared.saving.Kept.{Kept}
use Rattle.ivy_agent.specs.declared.fault.RestartFault.{RestartFault}
use Rattle.ivy_agent.specs.declared.fault.RestartFault.TheVariants as fault
use Rattle.ivy_agent.proofs.Dropped.{stands_with_nothing}

-- ---- what a keeper gives

given : (o : Option (Option (List ℕ))) (bytes : List ℕ) → GivesKept o (Ok bytes) → Keeps o (Some bytes)
given None bytes h = tt
given (Some kept) bytes h = h

given_some : (o : Option (Option (List ℕ))) (bytes : List ℕ) → GivesKept o (Ok bytes) → KeepsSome o
given_some None bytes h = tt
given_some (Some kept) bytes h = λ none. let e : Some bytes ≡ None = sym h ∙ none in cc e

-- ---- what starts again

module _ {S : Type 0} (signs : Signing S) (IsWhole : S → Type 0) where
  -- without the word of the signer's own, and without the length of its bytes
  any_kept : (k : model.Kept S) → IsKept signs (IsCounted IsWhole signs.saved) k → IsKept signs IsAny k
  any_kept k h = record { signer = tt; some = h.some; few = h.few; floor = h.floor; view = h.view; posts = h.posts; snapshot = h.snapshot }

  pub whole_saved : (bytes : List ℕ) (k : model.Kept S) → AreSavedOf signs (IsCounted IsWhole signs.saved) bytes k → AreSavedOf signs IsWhole bytes k
  whole_saved bytes k h = record {
    kept = record { signer = h.kept.signer.0; some = h.kept.some; few = h.kept.few; floor = h.kept.floor; view = h.kept.view; posts = h.kept.posts; snapshot = h.kept.snapshot };
    spelled = h.spelled;
  }

  module _ (k : Kept S) (saved : model.Kept S) (is : saved_of k ≡ saved) (nothing : Engine) (nothing_is : holding nothing ≡ nothing_held) where
    stands : (o : Option View) → Stands signs (agent_of k nothing k.snapshot false) o
    stands None = record { nothing = nothing_is }
    stands (Some view) = let h = stands_with_nothing signs k nothing false nothing_is view in record { closed = h.closed; bounds = h.bounds; base = h.base; front = h.front }

    pub restored_sound : (front : Vector) → k.log ≡ head_key_of (own_key signs saved.signer) → front ≡ [] → IsKept signs (IsCounted IsWhole signs.saved) saved → IsSound signs (agent_of k nothing k.snapshot false) k.log front
    restored_sound front log_is front_is kept = record {
      its_log = log_is ∙ ap (λ (s : model.Kept S). head_key_of (own_key signs s.signer)) (sym is);
      its_front = front_is ∙ sym (ap joined nothing_is);
      kept = subst (λ (s : model.Kept S). IsKept signs IsAny s) (sym is) (any_kept saved kept);
      stands = stands k.view;
    }

  -- ---- from a keeper's bytes

  module _ {K : Type 0} (kept : K → Option (Option (List ℕ))) (faults : K → ℕ) (before left : K) (bytes : List ℕ) (stays : kept left ≡ kept before) (unfailed : faults left ≡ faults before)
      (gives : GivesKept (kept before) (Ok bytes)) where
    stayed : (after : K) → after ≡ left → HasStayed kept faults before after
    stayed after is = record { kept_still = ap kept is ∙ stays; unfailed = ap faults is ∙ unfailed }

    pub restarts : (r : Result (Holder K S) (K × RestartFault)) → Restores signs IsWhole left bytes r → Restarts signs IsWhole kept faults before r
    restarts (Ok h) t = (
      t.0,
      t.1.kept,
      subst (λ (b : List ℕ). Keeps (kept before) (Some b)) t.1.spelled (given (kept before) bytes gives),
      ap (λ (x : Holder K S). x.agent) t.2,
      stayed h.keeper (ap (λ (x : Holder K S). x.keeper) t.2),
    )
    restarts (Err (after, fault.Malformed)) t = (bytes, t.0, given (kept before) bytes gives, stayed after t.1)
    restarts (Err (after, fault.Memory)) t = (given_some (kept before) bytes gives, stayed after t)
    restarts (Err (after, fault.Nothing)) t = absurd t
    restarts (Err (after, fault.Keeper)) t = absurd t

-- ---- in place

-- what a keeper in memory was told to keep
pub kept_there : {S : Type 0} (before : Holder KeeperState S) (a : model.Agent S) (keeper : KeeperState) (bytes : List ℕ) → record { agent = a; keeper = keeper } ≡ before → Some bytes ≡ keeper.kept → before.keeper.kept ≡ Some bytes
kept_there before a keeper bytes is told = ap (λ (h : Holder KeeperState _). h.keeper.kept) (sym is) ∙ sym told
