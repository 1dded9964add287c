use Rattle.std.proofs.lemmas.Result.{err_from_is_err_and}
use Rattle.block_parts.proofs.Tested.{ended}
use Rattle.agent_saves.proofs.PartReading.{more_behind, refused_whole, whole_bytes}
use Rattle.agent_saves.proofs.parts.read_whole.Goals as goal

pub returns-in_err-parts-clause-err : goal.returns-in_err-parts-clause-err
returns-in_err-parts-clause-err c =
    let p = err_from_is_err_and c.from_residual.result c.from_residual.ensures.1 in
    rw (p.1, p.2) (refused_whole c.args.bytes.now _ (rw c.new-reader.ensures at c.in_err-parts.ensures.err))

pub returns-in_err-finish-clause-err : goal.returns-in_err-finish-clause-err
returns-in_err-finish-clause-err c =
    let p = err_from_is_err_and c.from_residual-in_err-finish.result c.from_residual-in_err-finish.ensures.1 in
    rw (p.1, p.2) (more_behind (rw c.new-reader.ensures at c.in_ok-parts.ensures.ok) (ended _ _ c.in_err-finish.ensures.err))

pub returns-clause-bytes : goal.returns-clause-bytes
returns-clause-bytes c = whole_bytes (rw c.new-reader.ensures at c.in_ok-parts.ensures.ok) c.in_ok-finish.ensures.ok
