-- What is answered on what a turn took.
use Rattle.std.proofs.Common.{◌≡◌, ℕ, ◌≤◌, Bool, List, Option, Some, None, ap, subst, arith}
use Rattle.std.specs.Prelude.{IfSome, IsSomeAnd}
use Rattle.ivy_base.specs.declared.key.Key.{Key}
use Rattle.ivy_base.specs.declared.operation.Moment.{Moment}
use Rattle.ivy_base.specs.Naming.{head_key_of}
use Rattle.log_model.specs.Record.{Record}
use Rattle.log_model.specs.Spelling.{most_records}
use Rattle.log_model.specs.Vector.{Vector, seq_of}
use Rattle.log_model.specs.View.{View, IsView}
use Rattle.log_records.specs.Batches.{Batch}
use Rattle.replay_engine.specs.Rows.{IsRow}
use Rattle.turn_model.specs.Basis.{Holding}
use Rattle.turn_model.specs.Turn.{Asked}
use Rattle.turn_model.specs.Work.{applied_between}
use Rattle.turn_taking.specs.Taking.{IsWithin}
use Rattle.version_vectors.specs.Vectors.{IsVector}
use Rattle.replay_engine.specs.Places.{AreNew}
use Rattle.nfs_laws.specs.Lengths.{AnswersFit, FinishesFit, PlansFit}
use Rattle.log_model.specs.Signing.{Signing}
use Rattle.agent_model.specs.Agent.{joined, own_key}
use Rattle.turn_laws.specs.Taking.{TakesNew, refresh_with, with_new}
use Rattle.ivy_agent.specs.Answering.{Answers, MayGoOn}
use Rattle.ivy_agent.specs.Taking.{MayTakeFrom, TakesAndAnswers}
use Rattle.ivy_agent.specs.declared.saving.Kept.{Kept}
use Rattle.ivy_agent.specs.declared.writing.Done.{Done}
use Rattle.ivy_agent.proofs.Short.{answered_short}
use Rattle.ivy_agent.proofs.News.{are_new, may_go_on, row_new, row_of_closed}

pub row_held : {S : Type 0} (signs : Signing S) (k : Kept S) (h : Holding) (b : Batch) (o : Option View) → IsSomeAnd o (λ view. MayTakeFrom view (own_key signs k.signer) k.floor h b) → IsRow h.held
row_held signs k h b None may = absurd may
row_held signs k h b (Some view) may = row_of_closed view h.basis.front h.held may.closed

module _ {S : Type 0} (signs : Signing S) (k : Kept S) (h : Holding) (b : Batch) (new : List Record) (front : Vector) where
  abbrev TakesIn : Option View → Type 0
  TakesIn o = IfSome o (λ view. TakesNew view (own_key signs k.signer) k.floor h (refresh_with b None) new × (front ≡ joined (with_new h new)) × IsWithin view (own_key signs k.signer) k.floor front)

  abbrev MayFrom : Option View → Type 0
  MayFrom o = IsSomeAnd o (λ view. MayTakeFrom view (own_key signs k.signer) k.floor h b)

  pub may_answer : (o : Option View) → TakesIn o → MayFrom o → IsSomeAnd o IsView → IsSomeAnd o (λ view. MayGoOn view (own_key signs k.signer) k.floor front (with_new h new))
  may_answer None t may well = absurd well
  may_answer (Some view) t may well = may_go_on view (own_key signs k.signer) k.floor h (refresh_with b None) new t.0 front well t.2 may.begun may.bounds

  pub row_taken : (o : Option View) → TakesIn o → MayFrom o → IsRow new
  row_taken None t may = absurd may
  row_taken (Some view) t may = row_new view (own_key signs k.signer) k.floor h (refresh_with b None) new t.0

  pub new_taken : (o : Option View) → TakesIn o → MayFrom o → AreNew h.held new
  new_taken None t may = absurd may
  new_taken (Some view) t may = are_new view (own_key signs k.signer) k.floor h (refresh_with b None) new t.0 (row_of_closed view h.basis.front h.held may.closed)

  pub front_taken : (o : Option View) → TakesIn o → MayFrom o → front ≡ joined (with_new h new)
  front_taken None t may = absurd may
  front_taken (Some view) t may = t.1

  pub few_taken : (o : Option View) → TakesIn o → MayFrom o → k.log ≡ head_key_of (own_key signs k.signer) → seq_of front k.log ≤ most_records
  few_taken None t may log = absurd may
  few_taken (Some view) t may log =
      let low = t.2.own_log in
      let few = may.few in
      let same : seq_of front k.log ≡ seq_of front (head_key_of (own_key signs k.signer)) = ap (λ (l : Key). seq_of front l) log in
      omega (arith, low, few, same)

  module _ {K : Type 0} (IsWhole : S → Type 0) (saves : K → List ℕ → Bool → K → Type 0) (asked : Asked) (now : Moment) (has_failed : Bool) (keeper : K) (k_after : Kept S) (h_after : Holding) (keeper_after : K) (done : Done) where
    pub turned : AnswersFit → PlansFit → FinishesFit → (o : Option View) → TakesIn o → MayFrom o → IsSomeAnd o IsView → IsVector h.basis.front → IsVector front
        → IfSome o (λ view. Answers signs IsWhole saves view asked now k has_failed (with_new h new) front keeper (applied_between h.held (with_new h new).held) k_after h_after keeper_after done)
        → IfSome o (λ view. TakesAndAnswers signs IsWhole saves view b asked now k has_failed h keeper k_after h_after keeper_after done)
    turned answers plans finishes None t may well base whole a = tt
    turned answers plans finishes (Some view) t may well base whole a = record {
      new = new;
      takes = t.0;
      inside = subst (λ (f : Vector). IsWithin view (own_key signs k.signer) k.floor f) t.1 t.2;
      base = base;
      front = subst IsVector t.1 whole;
      short = answered_short answers plans finishes signs IsWhole saves view asked now k has_failed (with_new h new) front keeper (applied_between h.held (with_new h new).held) k_after h_after keeper_after done
          (may_go_on view (own_key signs k.signer) k.floor h (refresh_with b None) new t.0 front well t.2 may.begun may.bounds).bounds a;
      answers = subst (λ (f : Vector). Answers signs IsWhole saves view asked now k has_failed (with_new h new) f keeper (applied_between h.held (with_new h new).held) k_after h_after keeper_after done) t.1 a;
    }
