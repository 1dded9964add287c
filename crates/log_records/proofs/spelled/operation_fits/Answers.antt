use Rattle.log_records.proofs.Fitting.{inode_fits, no_inode_fits, write_fits, link_fits, unlink_fits, rename_fits, no_rename_fits, prepare_fits, cancel_fits, set_fits, end_fits}
use Rattle.log_records.proofs.spelled.operation_fits.Goals as goal

pub returns-then-is_mode : goal.returns-then-is_mode
returns-then-is_mode c = inode_fits c.in-Inode.is c.check_block.ensures (c.is_mode.ensures.0 c.if-is_mode.true) c.check_word.ensures c.check_word-in-Inode.ensures c.as_slice.ensures c.is_target.ensures

pub returns-else-is_mode : goal.returns-else-is_mode
returns-else-is_mode c = no_inode_fits c.in-Inode.is c.if-is_mode.false c.is_mode.ensures

pub returns-in-Write : goal.returns-in-Write
returns-in-Write c = write_fits c.in-Write.is c.check_block-in-Write.ensures c.as_slice-in-Write.ensures c.is_written.ensures

pub returns-in-Link : goal.returns-in-Link
returns-in-Link c = link_fits c.in-Link.is c.check_block-in-Link.ensures c.is_place.ensures

pub returns-in-Unlink : goal.returns-in-Unlink
returns-in-Unlink c = unlink_fits c.in-Unlink.is c.is_place-in-Unlink.ensures

pub returns-then-is_place : goal.returns-then-is_place
returns-then-is_place c = rename_fits c.in-Rename.is c.is_place-in-Rename.ensures c.if-is_place.true c.is_place-then-is_place.ensures

pub returns-else-is_place : goal.returns-else-is_place
returns-else-is_place c = no_rename_fits c.in-Rename.is c.if-is_place.false c.is_place-in-Rename.ensures

pub returns-in-Prepare : goal.returns-in-Prepare
returns-in-Prepare c = prepare_fits c.in-Prepare.is c.check_block-in-Prepare.ensures c.is_place-in-Prepare.ensures

pub returns-in-Cancel : goal.returns-in-Cancel
returns-in-Cancel c = cancel_fits c.in-Cancel.is c.check_word-in-Cancel.ensures

pub returns-in-SetAttrs : goal.returns-in-SetAttrs
returns-in-SetAttrs c = set_fits c.in-SetAttrs.is c.check_block-in-SetAttrs.ensures c.is_change.ensures

pub returns-in-End : goal.returns-in-End
returns-in-End c = end_fits c.in-End.is
