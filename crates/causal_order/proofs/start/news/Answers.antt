use Rattle.std.proofs.Common.{◌≡◌, ◌+◌, ◌<◌, ◌≤◌, ℕ, sym, ◌∙◌, subst, arith}
use Rattle.log_model.specs.Closed.{log_of}
use Rattle.log_records.specs.Records.{records_of}
use Rattle.causal_order.specs.Available.{above, held_to}
use Rattle.causal_order.proofs.Places.{base_is, places_count}
use Rattle.causal_order.proofs.Starts.{all_new, let_go, none_new}
use Rattle.causal_order.proofs.start.news.Goals as goal

pub returns-then-from-held_to : goal.returns-then-from-held_to
returns-then-from-held_to c =
    let held = records_of c.args.base.now.held.now in
    let front = c.args.base.now.front.now in
    let log = c.args.log.now in
    let base = base_is front held log c.requires.kept in
    let count = places_count held log.places.items (log_of log.owner held) c.requires.kept.places in
    let n : c.from.result + c.len.result ≡ held_to front held log.owner = omega (arith, base, count, c.from.ensures, c.len.ensures) in
    let above_n : c.from.result + c.len.result < c.in-Some.first.now.seq = omega (arith, c.if-from-held_to.true, c.from-in-Some.ensures) in
    sym (subst (λ (k : ℕ). above k (records_of c.args.records.items) ≡ records_of c.old.queue.items) n
    (c.old.invariant.same ∙ all_new c.args.base.now.view.now (c.from.result + c.len.result) c.old.queue.items c.in-Some.first.now c.in-Some.ensures.lookup above_n c.old.invariant.onward))

pub returns-in_default : goal.returns-in_default
returns-in_default c =
    let held = records_of c.args.base.now.held.now in
    let front = c.args.base.now.front.now in
    let log = c.args.log.now in
    let base = base_is front held log c.requires.kept in
    let count = places_count held log.places.items (log_of log.owner held) c.requires.kept.places in
    let n : c.from.result + c.len.result ≡ held_to front held log.owner = omega (arith, base, count, c.from.ensures, c.len.ensures) in
    let item = c.in_default.ensures.item in
    sym (subst (λ (k : ℕ). above k (records_of c.args.records.items) ≡ records_of c.old.queue.items) n
    (c.old.invariant.same ∙ none_new (c.from.result + c.len.result) c.old.queue.items item.3))

pub old-preserved-else-from-held_to : goal.old-preserved-else-from-held_to
old-preserved-else-from-held_to c =
    let n = c.from.result + c.len.result in
    let le : c.in-Some.first.now.seq ≤ n = omega (arith, c.if-from-held_to.false, c.from-in-Some.ensures) in
    let rest = let_go c.args.base.now.view.now n c.old.queue.items c.pop_front.new.self.items c.pop_front.result c.in-Some.first.now c.pop_front.ensures.items c.in-Some.ensures.lookup le c.old.invariant.onward in
    record { same = c.old.invariant.same ∙ rest.0; onward = rest.1 }
