use Rattle.std.proofs.Common.{Some, None, sym, ◌∙◌}
use Rattle.script_model.specs.declared.command.Shown.TheVariants as shown
use Rattle.command_lines.proofs.ReadLemmas.{made_of_node, seen}
use Rattle.command_lines.proofs.shows.holds.Goals as goal

pub returns-in_default : goal.returns-in_default
returns-in_default c = made_of_node shown.Holds (seen c.args.words.now) None (sym c.in_default.is ∙ c.in_ok-node.ensures)

pub returns : goal.returns
returns c = made_of_node shown.Holds (seen c.args.words.now) (Some c.in-Some.node) (sym c.in-Some.is ∙ c.in_ok-node.ensures)
