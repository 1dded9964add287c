-- What is answered on what an engine took in.
use Rattle.std.proofs.Common.{◌≡◌, ℕ, Bool, List, ◌++◌, length, Option, Some, None, sym, ap, ◌∙◌, subst}
use Rattle.std.specs.Prelude.{IfSome}
use Rattle.std.proofs.lemmas.List.{length-map}
use Rattle.ivy_base.specs.declared.operation.Moment.{Moment}
use Rattle.log_model.specs.Replay.{in_order}
use Rattle.log_model.specs.Vector.{Vector}
use Rattle.log_model.specs.View.{View}
use Rattle.log_records.specs.declared.record.Record.{Record}
use Rattle.log_records.specs.Records.{record_of, records_of}
use Rattle.replay_engine.specs.Rows.{IsRow}
use Rattle.turn_model.specs.Basis.{Holding}
use Rattle.turn_model.specs.Turn.{Asked}
use Rattle.turn_model.specs.Work.{applied_between, applied_for}
use Rattle.replay_engine.specs.Engines.{Engine, holding, taken_in}
use Rattle.replay_engine.specs.Places.{AreNew, first_place}
use Rattle.replay_engine.proofs.Placed.{taken_row}
use Rattle.log_model.specs.Signing.{Signing}
use Rattle.turn_laws.specs.Taking.{with_new}
use Rattle.ivy_agent.specs.Answering.{Answers}
use Rattle.ivy_agent.specs.declared.saving.Kept.{Kept}
use Rattle.ivy_agent.specs.declared.writing.Done.{Done}
use Rattle.ivy_agent.proofs.Applied.{applied_is_between}

module _ (e e_with : Engine) (new : List Record) (row : IsRow e.held) (new_row : IsRow (records_of new)) (taken : e_with ≡ taken_in e (records_of new)) where
  pub row_with : IsRow e_with.held
  row_with = subst (λ (x : Engine). IsRow x.held) (sym taken) (taken_row e.held (records_of new) row new_row)

  module _ (are_new : AreNew e.held (records_of new)) (applied : ℕ) (count : applied ≡ applied_for (length e.held) (length new) (first_place e.held (records_of new))) where
    pub count_is : applied ≡ applied_between e.held (in_order (e.held ++ records_of new))
    count_is = count ∙ ap (λ (n : ℕ). applied_for (length e.held) n (first_place e.held (records_of new))) (sym (length-map new record_of)) ∙ applied_is_between e.held (records_of new) row new_row are_new

    pub answered_with : {K S : Type 0} (signs : Signing S) (IsWhole : S → Type 0) (saves : K → List ℕ → Bool → K → Type 0) (asked : Asked) (now : Moment) (k : Kept S) (has_failed : Bool) (front : Vector) (keeper : K) (k_after : Kept S) (h_after : Holding) (keeper_after : K) (done : Done) (o : Option View)
        → IfSome o (λ view. Answers signs IsWhole saves view asked now k has_failed (holding e_with) front keeper applied k_after h_after keeper_after done)
        → IfSome o (λ view. Answers signs IsWhole saves view asked now k has_failed (with_new (holding e) (records_of new)) front keeper (applied_between e.held (in_order (e.held ++ records_of new))) k_after h_after keeper_after done)
    answered_with signs IsWhole saves asked now k has_failed front keeper k_after h_after keeper_after done None a = tt
    answered_with signs IsWhole saves asked now k has_failed front keeper k_after h_after keeper_after done (Some view) a =
        subst (λ (n : ℕ). Answers signs IsWhole saves view asked now k has_failed (with_new (holding e) (records_of new)) front keeper n k_after h_after keeper_after done) count_is
        (subst (λ (x : Engine). Answers signs IsWhole saves view asked now k has_failed (holding x) front keeper applied k_after h_after keeper_after done) taken a)
