use Rattle.ivy_cli.proofs.ForkLemmas.{fork_told, none_told}
use Rattle.ivy_cli.proofs.forking.shown_by.Goals as goal

pub returns-in-Ok : goal.returns-in-Ok
returns-in-Ok c = fork_told c.args.bytes.now c.in-Ok.forked c.spell.result c.in-Ok.ensures.ok c.spell.ensures

pub returns-in_ok-shows_none-in-Err : goal.returns-in_ok-shows_none-in-Err
returns-in_ok-shows_none-in-Err c = none_told c.args.bytes.now c.as_slice.result.now c.in-Err.fault c.copy_of.result c.in-Err.ensures.err c.in_ok-shows_none-in-Err.ensures c.as_slice.ensures c.copy_of.ensures
