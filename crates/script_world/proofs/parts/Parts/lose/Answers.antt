use Rattle.std.proofs.Common.{◌≡◌, ◌&&◌, true, nat_lt, nat_le, sym, subst, rules}
use Rattle.script_world.specs.PartsState.{HasParts}
use Rattle.script_world.proofs.Faulting.{loses}
use Rattle.script_world.proofs.parts.Parts.lose.Goals as goal

pub returns : goal.returns
returns c = λ w has.
    let inside : (nat_lt 0 c.args.count && nat_le c.args.count 1000000) ≡ true = search rules in
    loses w _ (subst (HasParts w) (sym c.self.view_is) has) c.args.count c.lose.new.self c.new.result.items inside c.in_ok-lose.ensures.lost c.new.ensures.items
