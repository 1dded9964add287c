use Rattle.wire_model.proofs.Dependent.{on_err}
use Rattle.snapshot_model.proofs.OneBlock.{one_list}
use Rattle.block_parts.proofs.Tested.{ended}
use Rattle.snapshot_blocks.proofs.Wholes.{says_whole, says_nothing, more_behind}
use Rattle.snapshot_blocks.proofs.ListReading.{no_tag, no_names_behind, list_front}
use Rattle.snapshot_blocks.proofs.list.read_whole.Goals as goal

pub returns-in_err-read_tag-clause-err : goal.returns-in_err-read_tag-clause-err
returns-in_err-read_tag-clause-err c = on_err c.from_residual.result (says_nothing (no_tag c.args.level (rw c.new-reader.ensures at c.in_err-read_tag.ensures.err)))

pub returns-in_err-names-clause-err : goal.returns-in_err-names-clause-err
returns-in_err-names-clause-err c =
    on_err c.from_residual-in_err-names.result (says_nothing (no_names_behind c.args.level (rw c.new-reader.ensures at c.in_ok-read_tag.ensures.ok) c.in_err-names.ensures.err))

pub returns-in_err-finish-clause-err : goal.returns-in_err-finish-clause-err
returns-in_err-finish-clause-err c =
    on_err c.from_residual-in_err-finish.result
    (more_behind (one_list c.args.level) (list_front c.args.level (rw c.new-reader.ensures at c.in_ok-read_tag.ensures.ok) c.in_ok-names.ensures.ok) (ended _ _ c.in_err-finish.ensures.err))

pub returns-clause-ok : goal.returns-clause-ok
returns-clause-ok c = says_whole (list_front c.args.level (rw c.new-reader.ensures at c.in_ok-read_tag.ensures.ok) c.in_ok-names.ensures.ok) c.in_ok-finish.ensures.ok
