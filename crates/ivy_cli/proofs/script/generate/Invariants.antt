use Rattle.std.proofs.Common.{◌≡◌, ◌*◌}
use Rattle.ivy_cli.specs.Generator.{state}
use Rattle.ivy_cli.proofs.GeneratorLemmas.{script_before}
use Rattle.ivy_cli.proofs.script.generate.Given as goal

abbrev pub invariant-calls : goal.invariant-calls
invariant-calls l = record { draws : l.draws ≡ state l.seed (3 * l.before); script : l.script.items ≡ script_before l.seed l.before }
