-- Records that were written and saved.
use Rattle.std.proofs.Common.{◌≡◌, ℕ, Bool, true, false, List, Option, Some, None, Result, Ok, Err, refl, sym, ap, ◌∙◌, subst}
use Rattle.std.specs.Prelude.{IfSome}
use Rattle.ivy_base.specs.declared.operation.Op.{Op}
use Rattle.log_model.specs.Vector.{Vector, join}
use Rattle.log_model.specs.View.{View}
use Rattle.log_records.specs.Records.{records_of}
use Rattle.nfs_model.specs.Changing.{finish}
use Rattle.replay_engine.specs.Rows.{IsRow}
use Rattle.turn_model.specs.Basis.{Holding, kept_tree}
use Rattle.tree_model.specs.Tree.{Tree}
use Rattle.turn_model.specs.Turn.{Asked}
use Rattle.replay_engine.specs.Places.{AreBehind}
use Rattle.replay_engine.specs.Engines.{Engine, holding, taken_in, undone}
use Rattle.log_model.specs.Signing.{Signing}
use Rattle.agent_model.specs.SavedBytes.{kept_bytes}
use Rattle.agent_model.specs.Turning.{with_held}
use Rattle.ivy_agent.specs.Saves.{saved_of, IsWholeAfter}
use Rattle.ivy_agent.specs.Drafts.{kept_with}
use Rattle.ivy_agent.specs.Outcomes.{Gives, kept_to}
use Rattle.ivy_agent.specs.Writing.{HasWritten, lost_reply, written_reply}
use Rattle.ivy_agent.specs.declared.saving.Kept.{Kept}
use Rattle.ivy_agent.specs.declared.drafts.Draft.{Draft}
use Rattle.log_fetch.specs.declared.turned.Turned.{Turned}
use Rattle.ivy_agent.specs.declared.saving.SaveFault.{SaveFault}
use Rattle.ivy_agent.specs.declared.saving.SaveFault.TheVariants as fault
use Rattle.ivy_agent.specs.declared.writing.Done.{Done}
use Rattle.ivy_agent.specs.declared.writing.Lost.{Lost}
use Rattle.ivy_agent.proofs.Appending.{held_above}

-- what is shown after a save
abbrev pub shown : Turned → Vector → Done
shown turned front = record { turned = turned; front = front; has_failed = false }

module _ {K S : Type 0} (signs : Signing S) (IsWhole : S → Type 0) (saves : K → List ℕ → Bool → K → Type 0) (asked : Asked) (ops : List Op) (k k_after : Kept S) (e e_after : Engine) (front : Vector) (keeper keeper_after : K) (applied : ℕ) (d : Draft S) (turned : Turned)
    (row : IsRow e.held) (new_row : IsRow (records_of d.records.items)) (after : AreBehind e.held (records_of d.records.items)) (taken : e_after ≡ taken_in e (records_of d.records.items))
    (whole : IsWhole d.next.signer) (saved : saves keeper (kept_bytes signs (saved_of (kept_with k d.next))) false keeper_after) (kept : k_after ≡ kept_with k d.next) where
  same : holding e_after ≡ with_held (holding e) (records_of d.records.items)
  same = ap holding taken ∙ held_above e (records_of d.records.items) row new_row after

  pub has_written : (o : Option View)
      → IfSome o (λ view. Gives (finish (kept_tree (holding (undone e_after))) (kept_tree (holding e_after)) view asked.caller asked.args ops) (kept_with k d.next) d.front applied turned)
      → IfSome o (λ view. HasWritten signs IsWhole saves view asked ops k (holding e) front keeper applied d k_after (holding e_after) keeper_after (shown turned d.front))
  has_written None given = tt
  has_written (Some view) given = record {
    whole = whole;
    saved = saved;
    kept = kept;
    held = same;
    its_front = refl;
    given =
        let before : kept_tree (holding (undone e_after)) ≡ kept_tree (holding e) = ap (λ (x : Engine). kept_tree (holding (undone x))) taken in
        let now : kept_tree (holding e_after) ≡ kept_tree (with_held (holding e) (records_of d.records.items)) = ap kept_tree same in
        subst (λ (x : Kept S). Gives (written_reply view asked ops (holding e) (records_of d.records.items)) x d.front applied turned) (sym kept)
        (subst (λ (t : Tree). Gives (finish (kept_tree (holding e)) t view asked.caller asked.args ops) (kept_with k d.next) d.front applied turned) now
        (subst (λ (t : Tree). Gives (finish t (kept_tree (holding e_after)) view asked.caller asked.args ops) (kept_with k d.next) d.front applied turned) before given));
  }

-- what holds anyhow holds where the keeper was asked
pub unless_memory : {A P : Type 0} (r : Result A SaveFault) → P → IsWholeAfter P r
unless_memory (Ok a) p = p
unless_memory (Err fault.Keeper) p = p
unless_memory (Err fault.Memory) p = tt

-- what is given where the save failed
abbrev pub unsaved : Turned → Vector → Done
unsaved turned front = record { turned = turned; front = front; has_failed = true }

module _ {K S : Type 0} (signs : Signing S) (IsWhole : S → Type 0) (saves : K → List ℕ → Bool → K → Type 0) (asked : Asked) (ops : List Op) (k k_between k_after : Kept S) (h h_after : Holding) (front : Vector) (keeper keeper_after : K) (applied : ℕ) (d : Draft S) (lost : Lost) (turned : Turned)
    (whole : IsWhole d.next.signer) (saved : saves keeper (kept_bytes signs (saved_of (kept_with k d.next))) true keeper_after) (same : k_between ≡ k) (stood : k_after ≡ record k_between { floor = lost.floor })
    (floor : lost.floor ≡ join k.floor front) (held : h_after ≡ h) (given : Gives (lost_reply asked) (kept_to k front) front applied lost.turned) (told : turned ≡ lost.turned) where
  stands : k_after ≡ kept_to k front
  stands = stood ∙ (λ i. record (same i) { floor = floor i })

  pub was_lost : (o : Option View) → IfSome o (λ view. HasWritten signs IsWhole saves view asked ops k h front keeper applied d k_after h_after keeper_after (unsaved turned front))
  was_lost None = tt
  was_lost (Some view) = record {
    whole = whole;
    saved = saved;
    kept = stands;
    held = held;
    its_front = refl;
    given =
        subst (λ (x : Kept S). Gives (lost_reply asked) x front applied turned) (sym stands)
        (subst (λ (t : Turned). Gives (lost_reply asked) (kept_to k front) front applied t) (sym told) given);
  }
