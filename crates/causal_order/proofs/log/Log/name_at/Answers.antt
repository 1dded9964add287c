use Rattle.std.proofs.Common.{◌≡◌, ◌<◌, ℕ, ◌+◌, length, Some, sym, ap, ◌∙◌, subst, arith}
use Rattle.log_model.specs.Record.{Record}
use Rattle.log_model.specs.Vector.{stamp_at}
use Rattle.log_model.specs.Closed.{log_of}
use Rattle.log_records.specs.Records.{record_of}
use Rattle.causal_order.specs.Kept.{IsAt, known_of}
use Rattle.causal_order.proofs.Passes.{start}
use Rattle.causal_order.proofs.Places.{some_at, place_holds, places_count, named_by_next, newest_at, one_at, known_length}
use Rattle.causal_order.proofs.log.Log.name_at.Goals as goal

pub record_at-requires : goal.record_at-requires
record_at-requires c =
    let known = known_of c.args.base.now c.args.taken.now in
    let log = log_of c.args.self.now.owner known in
    let count = places_count known c.args.self.now.places.items log c.requires.kept.places in
    let w = some_at log (c.args.i + 1) (omega (arith, count, c.if-i-len.true, c.len.ensures)) in
    let at = (place_holds known c.args.self.now.places.items log (c.args.i + 1) c.index.result.now w.0 c.requires.kept.places w.1).within in
    let size = known_length c.args.base.now c.args.taken.now in
    subst (λ (k : ℕ). k < length c.args.base.now.held.now + length c.args.taken.now) (sym c.index.ensures) (omega (arith, at, size))

pub returns-then-i-len : goal.returns-then-i-len
returns-then-i-len c = λ r at.
    let known = known_of c.args.base.now c.args.taken.now in
    let log = log_of c.args.self.now.owner known in
    let count = places_count known c.args.self.now.places.items log c.requires.kept.places in
    let w = some_at log (c.args.i + 1) (omega (arith, count, c.if-i-len.true, c.len.ensures)) in
    let there = place_holds known c.args.self.now.places.items log (c.args.i + 1) c.index.result.now w.0 c.requires.kept.places w.1 in
    let same : record_of c.record_at.result.now ≡ w.0 = one_at known c.index.result.now (record_of c.record_at.result.now) w.0 c.record_at.ensures (subst (λ (k : ℕ). IsAt known k w.0) (sym c.index.ensures) there) in
    ap (λ k. Some k) (ap (λ (x : Record). x.prev) same ∙ named_by_next c.args.base.now.view.now c.args.self.now.owner (start c.args.base.now.view.now c.args.base.now.front.now c.args.self.now.owner) log c.args.i (c.args.i + 1) r w.0 (omega arith) c.requires.chain at w.1)

pub returns-else-i-len : goal.returns-else-i-len
returns-else-i-len c = λ r at.
    let known = known_of c.args.base.now c.args.taken.now in
    let log = log_of c.args.self.now.owner known in
    let count = places_count known c.args.self.now.places.items log c.requires.kept.places in
    let within = at.within in
    c.requires.kept.tip ∙ newest_at (stamp_at c.args.base.now.front.now c.args.self.now.key) log c.args.i r (omega (arith, count, c.if-i-len.false, c.len.ensures, within)) at
