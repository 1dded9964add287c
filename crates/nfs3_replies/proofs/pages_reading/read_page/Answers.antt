use Rattle.nfs3_replies.proofs.ReadPages.{no_entries, entry_more, entries_end, fewer_left}
use Rattle.nfs3_replies.proofs.pages_reading.read_page.Goals as goal

pub entries-init : goal.entries-init
entries-init c = rw c.new-entries.ensures.items (no_entries c.args.plus c.args.parts.now)

pub entries-preserved : goal.entries-preserved
entries-preserved c = rw c.in_ok-push.ensures.items (entry_more c.args.plus c.entries.invariant c.boolean.ensures.reads c.entries-test.true c.in_ok-entry.ensures)

pub entries-smaller : goal.entries-smaller
entries-smaller c = fewer_left c.args.plus c.boolean.ensures.reads c.entries-test.true (c.boolean.ensures.set c.entries-test.true) c.in_ok-entry.ensures

pub returns : goal.returns
returns c = rw c.of.ensures (entries_end c.args.plus c.entries.invariant c.boolean.ensures.reads c.entries-test.false)
