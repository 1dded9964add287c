use Rattle.std.proofs.Common.{◌∙◌}
use Rattle.turn_taking.proofs.NameLemmas.{below_first, looked_up}
use Rattle.turn_taking.proofs.names.Names.name_of.Goals as goal

pub returns-in_err-at : goal.returns-in_err-at
returns-in_err-at c = λ rs is. c.from_residual.ensures ∙ below_first c.args.self.now rs c.args.number is c.in_err-at.ensures

pub returns : goal.returns
returns c = λ rs is.
    c.copied.ensures ∙ looked_up c.args.self.now rs c.args.number is c.as_slice.result.now c.in_ok-at.at c.get.result c.as_slice.ensures.value c.in_ok-at.ensures.0 c.in_ok-at.ensures.1 c.get.ensures.lookup.0 c.get.ensures.lookup.1
