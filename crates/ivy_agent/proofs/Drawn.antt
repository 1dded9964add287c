-- What was committed was drafted so.
use Rattle.std.proofs.Common.{◌≡◌, ℕ, ◌+◌, Bool, List, length, Option, Some, None, Result, Ok, Err, sym, ap, ◌∙◌, subst}
use Rattle.std.specs.Prelude.{IfSome, IfOk}
use Rattle.std.proofs.lemmas.List.{length-map}
use Rattle.ivy_base.specs.declared.operation.Moment.{Moment}
use Rattle.ivy_base.specs.declared.operation.Op.{Op}
use Rattle.log_model.specs.Vector.{Vector}
use Rattle.log_model.specs.View.{View}
use Rattle.log_records.specs.Records.{record_of, records_of}
use Rattle.turn_model.specs.Basis.{Holding}
use Rattle.turn_model.specs.Turn.{Asked}
use Rattle.log_model.specs.Signing.{Signing}
use Rattle.ivy_agent.specs.Drafts.{IsDraft}
use Rattle.ivy_agent.specs.Writing.{HasWritten, WritesDraft}
use Rattle.ivy_agent.specs.declared.saving.Kept.{Kept}
use Rattle.ivy_agent.specs.declared.drafts.Draft.{Draft}
use Rattle.ivy_agent.specs.declared.writing.Done.{Done}

module _ {K S : Type 0} (signs : Signing S) (IsWhole : S → Type 0) (saves : K → List ℕ → Bool → K → Type 0) (asked : Asked) (now : Moment) (ops : List Op) (k k_after : Kept S) (h h_after : Holding) (front : Vector) (keeper keeper_after : K) (applied all : ℕ) (d : Draft S)
    (is_draft : IsDraft signs k front now ops d) (count : all ≡ applied + length d.records.items) where
  counted : all ≡ applied + length (records_of d.records.items)
  counted = count ∙ ap (λ (n : ℕ). applied + n) (sym (length-map d.records.items record_of))

  drawn_in : (o : Option View) (done : Done) → IfSome o (λ view. HasWritten signs IsWhole saves view asked ops k h front keeper all d k_after h_after keeper_after done) → IfSome o (λ view. WritesDraft signs IsWhole saves view asked now ops k h front keeper applied k_after h_after keeper_after done)
  drawn_in None done h' = tt
  drawn_in (Some view) done h' = record {
    draft = d;
    is_draft = is_draft;
    written = subst (λ (n : ℕ). HasWritten signs IsWhole saves view asked ops k h front keeper n d k_after h_after keeper_after done) counted h';
  }

  pub drawn : {E : Type 0} (r : Result Done E) (o : Option View) → IfOk r (λ done. IfSome o (λ view. HasWritten signs IsWhole saves view asked ops k h front keeper all d k_after h_after keeper_after done))
      → IfOk r (λ done. IfSome o (λ view. WritesDraft signs IsWhole saves view asked now ops k h front keeper applied k_after h_after keeper_after done))
  drawn (Ok done) o given = drawn_in o done given
  drawn (Err e) o given = tt
