use Rattle.std.proofs.Common.{ℕ, ◌<◌, ◌/◌, length, List, subst, arith, length-append}
use Rattle.std.proofs.lemmas.List.{map-append}
use Rattle.std.proofs.lemmas.Result.{err_from_is_err_and}
use Rattle.version_vectors.proofs.EntriesReading.{too_few_bytes, no_next, out_of_order, more_entries}
use Rattle.version_vectors.proofs.reading.read_entries.Goals as goal

pub returns-then-rest-count-clause-err : goal.returns-then-rest-count-clause-err
returns-then-rest-count-clause-err c = too_few_bytes c.args.count c.args.reader.now (subst (λ (bytes : List ℕ). length bytes / 44 < c.args.count) c.rest.ensures c.if-rest-count.true)

pub returns-in_err-entry-clause-err : goal.returns-in_err-entry-clause-err
returns-in_err-entry-clause-err c =
    let p = err_from_is_err_and c.from_residual-in_err-entry.result c.from_residual-in_err-entry.ensures.1 in
    rw (p.1, p.2) (no_next c.entries.invariant.front (omega (arith, c.entries.invariant.count, c.entries-test.true)) c.in_err-entry.ensures.err)

pub returns-then-not-is_last-clause-err : goal.returns-then-not-is_last-clause-err
returns-then-not-is_last-clause-err c = out_of_order c.entries.invariant.front (omega (arith, c.entries.invariant.count, c.entries-test.true)) c.in_ok-entry.ensures.ok (rw (← c.as_slice.ensures.value) c.if-not-is_last.ensures)

pub entries-preserved : goal.entries-preserved
entries-preserved c = record {
  front = rw (c.in_ok-push.ensures.items, map-append) (more_entries c.entries.invariant.front c.in_ok-entry.ensures.ok (rw (← c.as_slice.ensures.value) c.if-not-is_last.ensures));
  count = rw (c.in_ok-push.ensures.items, map-append, length-append) (omega (arith, c.entries.invariant.count));
}
