-- The pass from step to step, and its end.
use Rattle.std.proofs.Common.{◌≡◌, inl, inr, ℕ, zero, suc, ◌<◌, List, [], ◌∷◌, length, get_or, set, map, sym, ap, ◌∙◌, subst, arith, None, Contains}
use Rattle.std.specs.Prelude.{option_map}
use Rattle.std.specs.List.{All}
use Rattle.std.proofs.lemmas.List.Elements.{All-contains}
use Rattle.log_model.specs.Record.{Record}
use Rattle.log_model.proofs.Lists.{in_nothing}
use Rattle.version_vectors.specs.Ranks.{rank_of}
use Rattle.log_records.specs.declared.record.Record as kept
use Rattle.log_records.specs.Records.{records_of}
use Rattle.causal_order.specs.Passing.{IsLeft, IsTaken}
use Rattle.causal_order.specs.Available.{IsAvailable, IsNewPart}
use Rattle.causal_order.specs.declared.base.Base.{Base}
use Rattle.causal_order.specs.declared.log.Log.{Log}
use Rattle.causal_order.specs.Kept.{IsKept, AreKept, IsNext, IsSeenAt, HaveNone, IsGoing, left_in, known_of, queue_of, first_rank}
use Rattle.causal_order.proofs.Ends.{is_new_part}
use Rattle.causal_order.proofs.Meeting.{from_map}
use Rattle.causal_order.proofs.Advancing.{taken_state, taken_kept, taken_owners, left_state, left_kept, left_owners}

pub are_kept : (base : Base) (Available : Record → Type 0) (logs : List Log) (taken : List kept.Record) → IsGoing base Available logs taken → AreKept base.view.now base.front.now (known_of base taken) logs
are_kept base Available logs taken g = record { kept = g.kept; owners = g.owners; passed = g.passing.passed }

pub goes_on : (base : Base) (Available : Record → Type 0) (logs : List Log) (taken : List kept.Record) (after : List Log) (more : List kept.Record) (i : ℕ) → IsNext logs i → IsGoing base Available logs taken → IsSeenAt base logs taken after more i → IsGoing base Available after more
goes_on base Available logs taken after more i n g (inl s) = record {
  kept = taken_kept Available base taken logs i n g.kept g.owners g.passing after more s;
  owners = taken_owners Available base taken logs i n g.kept g.owners g.passing after more s;
  passing = taken_state Available base taken logs i n g.kept g.owners g.passing after more s;
}
goes_on base Available logs taken after more i n g (inr s) = record {
  kept = left_kept Available base taken logs i n g.kept g.owners g.passing after more s;
  owners = left_owners Available base taken logs i n g.kept g.owners g.passing after more s;
  passing = left_state Available base taken logs i n g.kept g.owners g.passing after more s;
}

-- each step sees a record more
fewer : (logs : List Log) (i : ℕ) (old new : Log) → i < length logs → get_or logs i old ≡ old → length new.queue.items < length old.queue.items → left_in (set logs i new) < left_in logs
fewer [] i old new h e less = absurd (omega (arith, h))
fewer (x ∷ logs) zero old new h e less = let same : length x.queue.items ≡ length old.queue.items = ap (λ (l : Log). length l.queue.items) e in omega (arith, same, less)
fewer (x ∷ logs) (suc i) old new h e less = let rest = fewer logs i old new (omega (arith, h)) e less in omega (arith, rest)

pub sees_more : (base : Base) (logs : List Log) (taken : List kept.Record) (after : List Log) (more : List kept.Record) (i : ℕ) → IsNext logs i → IsSeenAt base logs taken after more i → left_in after < left_in logs
sees_more base logs taken after more i n (inl s) =
    let size : length s.old.queue.items ≡ suc (length s.new.queue.items) = ap length s.advanced.queue in
    subst (λ (a : List Log). left_in a < left_in logs) (sym s.set) (fewer logs i s.old s.new n.1.0.within s.stands (omega (arith, size)))
sees_more base logs taken after more i n (inr s) =
    let size : length s.old.queue.items ≡ suc (length s.queue.0) = ap length s.queue.1 in
    let none : length s.new.queue.items ≡ 0 = ap length s.cleared.queue in
    subst (λ (a : List Log). left_in a < left_in logs) (sym s.set) (fewer logs i s.old s.new n.1.0.within s.stands (omega (arith, size, none)))

-- where no log has a next record, none is left
none_left : (base : Base) (taken : List kept.Record) (logs : List Log) → All (IsKept base.front.now (known_of base taken)) logs → HaveNone logs → (q : Record) → IsLeft (map queue_of logs) q → ⊥
none_left base taken logs kept none q left =
    let w = from_map queue_of logs left.queue left.stands in
    let no_rank = sym (All-contains (IsKept base.front.now (known_of base taken)) logs w.0 kept w.1).next ∙ ap (option_map rank_of) (All-contains (λ (l : Log). l.next ≡ None) logs w.0 none w.1) in
    by (records_of w.0.queue.items) no_rank (subst (λ k. Contains k.left q) (sym w.2) left.left)
  where
    by : (rs : List Record) → first_rank rs ≡ None → Contains rs q → ⊥
    by [] e c = in_nothing q c
    by (r ∷ rs) e c = cc

pub is_whole : (base : Base) (chains : List (List Record)) (logs : List Log) (taken : List kept.Record) → IsGoing base (IsAvailable base.view.now base.front.now (records_of base.held.now) chains) logs taken → HaveNone logs
    → IsNewPart base.view.now base.front.now (records_of base.held.now) chains (records_of taken)
is_whole base chains logs taken g none = is_new_part base.view.now base.front.now (records_of base.held.now) chains (records_of taken) (map queue_of logs) g.passing (none_left base taken logs g.kept none)

-- the state as the pass begins
pub begins : (base : Base) (chains chains_too : List (List Record)) (logs_made logs : List Log) (taken : List kept.Record) → chains_too ≡ chains → logs ≡ logs_made → taken ≡ []
    → AreKept base.view.now base.front.now (known_of base []) logs_made
    → IsTaken base.view.now base.front.now (IsAvailable base.view.now base.front.now (records_of base.held.now) chains_too) (known_of base []) [] (map queue_of logs_made)
    → IsGoing base (IsAvailable base.view.now base.front.now (records_of base.held.now) chains) logs taken
begins base chains chains_too logs_made logs taken same is none begun passing =
    subst (λ (ls : List Log). IsGoing base (IsAvailable base.view.now base.front.now (records_of base.held.now) chains) ls taken) (sym is)
    (subst (λ (t : List kept.Record). IsGoing base (IsAvailable base.view.now base.front.now (records_of base.held.now) chains) logs_made t) (sym none)
    (record {
      kept = begun.kept;
      owners = begun.owners;
      passing = subst (λ (cs : List (List Record)). IsTaken base.view.now base.front.now (IsAvailable base.view.now base.front.now (records_of base.held.now) cs) (known_of base []) [] (map queue_of logs_made)) same passing;
    }))
