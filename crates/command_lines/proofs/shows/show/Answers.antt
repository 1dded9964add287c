use Rattle.std.proofs.Common.{Some, None, sym, ◌∙◌}
use Rattle.command_lines.proofs.ReadLemmas.{made_to_show, seen}
use Rattle.command_lines.proofs.shows.show.Goals as goal

pub returns-in_default : goal.returns-in_default
returns-in_default c = made_to_show c.args.word.now (seen c.args.words.now) None (sym c.in_default.is ∙ c.in_ok-shown.ensures)

pub returns : goal.returns
returns c = made_to_show c.args.word.now (seen c.args.words.now) (Some c.in-Some.shown) (sym c.in-Some.is ∙ c.in_ok-shown.ensures)
