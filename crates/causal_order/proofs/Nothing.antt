-- Where no chain was fetched, what is held is itself the largest closed part.
use Rattle.std.proofs.Common.{◌≡◌, ℕ, arith, ⊎_elim, inl, List, [], ◌∷◌, ◌++◌, length, map, true, nat_eq, sym, ◌∙◌, ap, subst, Contains}
use Rattle.std.proofs.lemmas.Bool.{eqb-true}
use Rattle.std.proofs.lemmas.List.{append-nil}
use Rattle.log_model.specs.View.{View}
use Rattle.log_model.specs.Vector.{Vector}
use Rattle.log_model.specs.Record.{Record}
use Rattle.log_model.specs.Replay.{in_order}
use Rattle.log_model.proofs.Lists.{in_nothing}
use Rattle.log_model.proofs.Sets.{ascending_in_order}
use Rattle.log_records.specs.declared.record.Record as kept
use Rattle.log_records.specs.declared.batch.Chain.{Chain}
use Rattle.log_records.specs.Records.{records_of}
use Rattle.causal_order.specs.Over.{IsClosed, IsClosedPart}
use Rattle.causal_order.specs.Available.{IsAvailable, IsNewPart}

module _ (view : View) (front : Vector) (held : List Record) (closed : IsClosed view front held) where
  is_held : (r : Record) → IsAvailable view front held [] r → Contains held r
  is_held r hand = ⊎_elim (λ c. c) (λ chain. absurd (in_nothing chain.0 chain.1)) hand

  held_is_part : IsClosedPart view front (IsAvailable view front held []) held
  held_is_part = record {
    part = λ r c. inl c;
    closed = closed;
    largest = λ t within is_closed r c. is_held r (within r c);
  }

  same : in_order (held ++ []) ≡ held
  same = ap in_order (append-nil held) ∙ ascending_in_order held closed.ascending

  nothing_new_of_none : IsNewPart view front held [] []
  nothing_new_of_none = record {
    ascending = tt;
    fresh = tt;
    within = tt;
    largest = subst (IsClosedPart view front (IsAvailable view front held [])) (sym same) held_is_part;
  }

  pub nothing_new : (chains : List Chain) (out : List kept.Record) (len : ℕ) → len ≡ length chains → nat_eq len 0 ≡ true → out ≡ [] → IsNewPart view front held (map (λ (c : Chain). records_of c.records) chains) (records_of out)
  nothing_new [] out len sized none nothing = subst (λ (rs : List kept.Record). IsNewPart view front held [] (records_of rs)) (sym nothing) nothing_new_of_none
  nothing_new (c ∷ cs) out len sized none nothing = absurd (let is_zero = eqb-true len 0 none in omega arith)
