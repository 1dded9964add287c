use Rattle.std.proofs.Common.{rules, ◌≡◌, [], sym, subst}
use Rattle.value_gate.proofs.Ends.{opens, first_is_pass}
use Rattle.value_gate.proofs.gate.Gate.make.Goals as goal

pub new-requires : goal.new-requires
new-requires g c =
    let key = c.of-opening.result.value in
    let value : key ≡ c.args.value = c.of-opening.ensures in
    opens g.A.Sequential.stands key _ (search rules) (subst (λ x. g.A.Sequential.stands x [] x) (sym value) c.requires)

pub invariant_of-result-in-Ok : goal.invariant_of-result-in-Ok
invariant_of-result-in-Ok g c =
    let key = c.of-opening.result.value in
    let value : key ≡ c.args.value = c.of-opening.ensures in
    first_is_pass g.A.Sequential.stands key c.in-Ok.seat.me c.in-Ok.ensures.ok.4 (subst (λ x. g.A.Sequential.stands x [] x) (sym value) c.requires)
