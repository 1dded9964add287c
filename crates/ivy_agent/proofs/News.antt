-- What holds of the new records that a turn takes.
use Rattle.std.proofs.Common.{◌≡◌, ◌≤◌, not, List, [], ◌∷◌, ◌++◌, refl, sym, subst, Contains}
use Rattle.std.specs.Prelude.{IsTrue}
use Rattle.std.specs.List.{AllByRecursion}
use Rattle.std.specs.Ordering.{is_eq}
use Rattle.std.specs.declared.cmp.Ordering.{Ordering}
use Rattle.std.specs.declared.cmp.Ordering.TheVariants.{Less, Equal, Greater}
use Rattle.ivy_base.specs.declared.key.PubKey.{PubKey}
use Rattle.ivy_base.specs.Naming.{head_key_of}
use Rattle.log_model.specs.Rank.{record_cmp}
use Rattle.log_model.specs.Record.{Record}
use Rattle.log_model.specs.Replay.{in_order, with_record}
use Rattle.log_model.specs.Spelling.{HasSpelling, OperationFits}
use Rattle.log_model.specs.Vector.{Vector, seq_of}
use Rattle.log_model.specs.View.{View, IsView}
use Rattle.log_model.proofs.Lists.{each, each_from}
use Rattle.log_model.proofs.Sets.{with_old}
use Rattle.replay_engine.specs.Rows.{IsRow, union}
use Rattle.replay_engine.proofs.Unions.{union_in_order}
use Rattle.causal_order.specs.Over.{IsClosed}
use Rattle.causal_order.proofs.Ends.{one_of_rank, tied_back}
use Rattle.turn_model.specs.Basis.{Holding, kept_tree}
use Rattle.turn_taking.specs.Taking.{IsWithin}
use Rattle.turn_taking.proofs.HeldFront.{good_in}
use Rattle.replay_engine.specs.Places.{AreNew}
use Rattle.agent_model.specs.Standing.{Refresh}
use Rattle.turn_laws.specs.Taking.{TakesNew, with_new}
use Rattle.ivy_agent.specs.Answering.{MayGoOn}
use Rattle.ivy_agent.specs.Bounds.{HasBounds}
use Rattle.ivy_agent.proofs.Trees.{bounds_replayed}

held_in : (s new : List Record) (q : Record) → Contains s q → Contains (union s new) q
held_in s [] q c = c
held_in s (r ∷ new) q c = held_in (with_record s r) new q (with_old s r q c)

pub row_of_closed : (view : View) (base : Vector) (s : List Record) → IsClosed view base s → IsRow s
row_of_closed view base s closed = record { ascending = closed.ascending; spelled = each_from HasSpelling s (λ r c. (good_in view base s closed r c).spelled) }

module _ (view : View) (own : PubKey) (floor : Vector) (h : Holding) (brought : Refresh) (new : List Record) (takes : TakesNew view own floor h brought new) where
  pub closed_with : IsClosed view h.basis.front (in_order (h.held ++ new))
  closed_with = takes.part.largest.closed

  within : (r : Record) → Contains new r → Contains (in_order (h.held ++ new)) r
  within r c = each (λ x. Contains (in_order (h.held ++ new)) x) new r takes.part.within c

  pub row_new : IsRow new
  row_new = record {
    ascending = takes.part.ascending;
    spelled = each_from HasSpelling new (λ r c. (good_in view h.basis.front (in_order (h.held ++ new)) closed_with r (within r c)).spelled);
  }

  module _ (row : IsRow h.held) where
    stays : (q : Record) → Contains h.held q → Contains (in_order (h.held ++ new)) q
    stays q c = subst (λ (l : List Record). Contains l q) (sym (union_in_order h.held new row.ascending)) (held_in h.held new q c)

    differs : (r q : Record) → Contains new r → Contains h.held q → (o : Ordering) → record_cmp r q ≡ o → IsTrue (not (is_eq o))
    differs r q c d Less e = refl
    differs r q c d Equal e =
        let same = one_of_rank (in_order (h.held ++ new)) closed_with.ascending r q (within r c) (stays q d) e (tied_back r q e) in
        absurd (each (λ x. Contains h.held x → ⊥) new r takes.part.fresh c (subst (λ (x : Record). Contains h.held x) (sym same) d))
    differs r q c d Greater e = refl

    pub are_new : AreNew h.held new
    are_new = each_from (λ r. AllByRecursion (λ q. IsTrue (not (is_eq (record_cmp r q)))) h.held) new
        (λ r c. each_from (λ q. IsTrue (not (is_eq (record_cmp r q)))) h.held (λ q d. differs r q c d (record_cmp r q) refl))

  pub bounds_with : HasBounds h.basis.tree → HasBounds (kept_tree (with_new h new))
  bounds_with bounds = bounds_replayed h.basis.tree (in_order (h.held ++ new)) bounds
      (each_from (λ r. OperationFits r.op) (in_order (h.held ++ new)) (λ r c. (good_in view h.basis.front (in_order (h.held ++ new)) closed_with r c).spelled.operation))

  pub may_go_on : (front : Vector) → IsView view → IsWithin view own floor front → 1 ≤ seq_of floor (head_key_of own) → HasBounds h.basis.tree → MayGoOn view own floor front (with_new h new)
  may_go_on front well inside begun bounds = record { well = well; named = inside.named; begun = begun; bounds = bounds_with bounds }
