-- An agent that drops what it held.
use Rattle.std.proofs.Common.{◌≡◌, ℕ, ◌≤◌, Bool, List, [], Option, Some, None, sym, ap, ◌∙◌, subst, arith}
use Rattle.std.specs.Prelude.{IfSome}
use Rattle.ivy_base.specs.declared.key.Key.{Key}
use Rattle.wire_model.specs.Xdr.{IsAny}
use Rattle.log_model.specs.Vector.{Vector}
use Rattle.log_model.specs.View.{View}
use Rattle.turn_model.specs.Basis.{Holding, nothing_held}
use Rattle.turn_taking.specs.Taking.{IsWithin}
use Rattle.replay_engine.specs.Engines.{Engine, holding}
use Rattle.log_model.specs.Signing.{Signing}
use Rattle.agent_model.specs.Agent.{Agent, joined, own_key}
use Rattle.agent_model.specs.Standing.{Standing, begun_again_in}
use Rattle.ivy_agent.specs.Holders.{Holder, IsSound, Stands, StandsIn, agent_of}
use Rattle.ivy_agent.specs.Entering.{IsTakenIn, kept_in}
use Rattle.ivy_agent.specs.Turns.{dropping}
use Rattle.ivy_agent.specs.declared.saving.Kept.{Kept}
use Rattle.ivy_agent.proofs.Entered.{kept_there}
use Rattle.ivy_agent.proofs.Going.{none_closed}
use Rattle.ivy_agent.proofs.Trees.{bounds_at_first}

none_below : (n : ℕ) → 0 ≤ n
none_below n = omega arith

module _ {S : Type 0} (signs : Signing S) (k : Kept S) (nothing : Engine) (has_failed : Bool) (is : holding nothing ≡ nothing_held) where
  nothing_within : (view : View) → IsWithin view (own_key signs k.signer) k.floor []
  nothing_within view = record { named = tt; own_log = none_below _ }

  -- in a view it stands
  pub stands_with_nothing : (view : View) → StandsIn signs (agent_of k nothing None has_failed) view
  stands_with_nothing view = subst (λ (h : Holding). StandsIn signs (record (agent_of k nothing None has_failed) { holding = h }) view) (sym is) (record {
    closed = none_closed view [];
    bounds = bounds_at_first;
    base = nothing_within view;
    front = nothing_within view;
  })

  stands_then : (o : Option View) → Stands signs (agent_of k nothing None has_failed) o
  stands_then None = record { nothing = is }
  stands_then (Some view) = stands_with_nothing view

  module _ (e : Engine) (to_load : Option Key) where
    pub dropped_sound : (front empty : Vector) → IsSound signs (agent_of k e to_load has_failed) k.log front → empty ≡ [] → IsSound signs (agent_of k nothing None has_failed) k.log empty
    dropped_sound front empty sound empty_is = record {
      its_log = sound.its_log;
      its_front = empty_is ∙ sym (ap joined is);
      kept = sound.kept;
      stands = stands_then k.view;
    }

    pub dropped_is : {K : Type 0} (keeper : K) (before : Holder K S) → record { agent = agent_of k e to_load has_failed; keeper = keeper } ≡ before
        → record { agent = agent_of k nothing None has_failed; keeper = keeper } ≡ record before { agent = dropping before.agent }
    dropped_is keeper before same = subst (λ (b : Holder _ S). record { agent = agent_of k nothing None has_failed; keeper = keeper } ≡ record b { agent = dropping b.agent }) same (λ i. record {
      agent = record (agent_of k e to_load has_failed) { holding = is i; to_load = None };
      keeper = keeper;
    })

-- one that entered a view holds nothing
module _ {K S : Type 0} (signs : Signing S) (saves : K → List ℕ → Bool → K → Type 0) (view : View) (before : Holder K S) (k : Kept S) (e : Engine) (to_load : Option Key) (has_failed : Bool) (keeper : K)
    (is : record { agent = agent_of k e to_load has_failed; keeper = keeper } ≡ before) (front : Vector) (sound : IsSound signs (agent_of k e to_load has_failed) k.log front) (taken : IsTakenIn signs view before.agent) where
  pub entered_sound : (now : Kept S) (nothing : Engine) (empty : Vector) → now ≡ kept_in view k → holding nothing ≡ nothing_held → empty ≡ [] → IsSound signs (agent_of now nothing None has_failed) now.log empty
  entered_sound now nothing empty now_is nothing_is empty_is = subst (λ (x : Kept S). IsSound signs (agent_of x nothing None has_failed) x.log empty) (sym now_is) (record {
    its_log = sound.its_log;
    its_front = empty_is ∙ sym (ap joined nothing_is);
    kept = kept_there signs IsAny saves view (agent_of k e to_load has_failed) sound.kept (subst (λ (h : Holder K S). IsTakenIn signs view h.agent) (sym is) taken) tt;
    stands = stands_with_nothing signs (kept_in view k) nothing has_failed nothing_is view;
  })

-- what a session is given that begins again then
pub dropped_standing : {S : Type 0} (signs : Signing S) (a : Agent S) (s t : Standing) (o : Option View) → IfSome o (λ view. s ≡ begun_again_in signs a view) → t ≡ record s { held = []; edges = [] } → IfSome o (λ view. t ≡ begun_again_in signs (dropping a) view)
dropped_standing signs a s t None is t_is = tt
dropped_standing signs a s t (Some view) is t_is = t_is ∙ ap (λ (x : Standing). record x { held = []; edges = [] }) is
