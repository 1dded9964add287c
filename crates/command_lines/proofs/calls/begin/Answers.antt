use Rattle.std.proofs.Common.{rules, sym}
use Rattle.command_lines.proofs.ReadLemmas.{too_few_to_open}
use Rattle.command_lines.proofs.calls.begin.Goals as goal

pub returns-in_default : goal.returns-in_default
returns-in_default c = sym (too_few_to_open c.args.words.now (search rules))
