use Rattle.std.proofs.Common.{sym, ◌∙◌}
use Rattle.agent_saves.proofs.ViewReading.{not_empty, refused_block}
use Rattle.agent_saves.proofs.view.view_of.Goals as goal

pub returns-in-Err-clause-err : goal.returns-in-Err-clause-err
returns-in-Err-clause-err c =
    rw c.fault_of_view.ensures (refused_block c.args.block.now c.in-Err.fault (not_empty c.args.block.now (sym c.is_empty.ensures ∙ c.if-is_empty.false)) c.in-Err.ensures.err)
