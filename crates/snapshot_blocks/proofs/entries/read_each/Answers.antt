use Rattle.std.proofs.Common.{arith, length-append}
use Rattle.std.proofs.lemmas.List.{map-append}
use Rattle.std.proofs.lemmas.Result.{err_from_is_err_and}
use Rattle.snapshot_blocks.proofs.EntryReading.{no_next_entry, more_entries}
use Rattle.snapshot_blocks.proofs.entries.read_each.Goals as goal

pub returns-in_err-read_entry-clause-err : goal.returns-in_err-read_entry-clause-err
returns-in_err-read_entry-clause-err c =
    let p = err_from_is_err_and c.from_residual-in_err-read_entry.result c.from_residual-in_err-read_entry.ensures.1 in
    rw (p.1, p.2) (no_next_entry c.entries.invariant.front (omega (arith, c.entries.invariant.count, c.entries-test.true)) c.in_err-read_entry.ensures.err)

pub entries-preserved : goal.entries-preserved
entries-preserved c = record {
  front = rw (c.in_ok-push.ensures.items, map-append) (more_entries c.entries.invariant.front c.in_ok-read_entry.ensures.ok);
  count = rw (c.in_ok-push.ensures.items, map-append, length-append) (omega (arith, c.entries.invariant.count));
}
