use Rattle.std.proofs.Common.{◌≡◌, ap, ◌∙◌, arith}
use mathlib.Core.Option.{some}
use Rattle.value_gate.specs.Passes.{parts_of}
use Rattle.value_gate.proofs.Gathering.{ends, is_there, is_whole}
use Rattle.value_gate.proofs.gate.Gate.close.Goals as goal

pub unwrap-value-requires : goal.unwrap-value-requires
unwrap-value-requires g c =
    let whole : parts_of c.args.passes.items ≡ 4294967296 = omega (arith, c.sum_of_parts-is_whole.ensures, ap (λ l. parts_of l) c.as_slice.ensures.value, c.if-not-is_whole.false) in
    let end = ends c.args.passes.items c.pop.new.self.items c.in-Some.first c.in-Some.ensures.items g.A.Sequential.stands c.args.self.opening c.self.inside.table.shared.key.value c.gather-seat.result.id c.gather-seat.result.me.0
    _ _ c.gather-seat.ensures.gathered whole (ap (λ x. x.opening) c.self.view_is) c.close_with-closed.ensures.values.2 in
    is_there g.A.Sequential.stands c.args.self.opening c.gather-seat.result.me.0 _ _ c.take.result end c.take.ensures.value

pub returns-clause-closed : goal.returns-clause-closed
returns-clause-closed g c =
    let whole : parts_of c.args.passes.items ≡ 4294967296 = omega (arith, c.sum_of_parts-is_whole.ensures, ap (λ l. parts_of l) c.as_slice.ensures.value, c.if-not-is_whole.false) in
    let end = ends c.args.passes.items c.pop.new.self.items c.in-Some.first c.in-Some.ensures.items g.A.Sequential.stands c.args.self.opening c.self.inside.table.shared.key.value c.gather-seat.result.id c.gather-seat.result.me.0
    _ _ c.gather-seat.ensures.gathered whole (ap (λ x. x.opening) c.self.view_is) c.close_with-closed.ensures.values.2 in (
      whole,
      is_whole c.args.passes.items c.pop.new.self.items c.in-Some.first c.in-Some.ensures.items g.A.Sequential.stands c.args.self.opening c.gather-seat.result.me.0 _ _ c.gather-seat.ensures.gathered end
          c.unwrap-value.result c.word-turns.result (c.take.ensures.value ∙ ap (λ x. some x) c.unwrap-value.ensures) c.word-turns.ensures,
    )
