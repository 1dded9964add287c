use Rattle.nfs3_replies.proofs.ReadPages.{EntriesSoFar, left_length}
use Rattle.nfs3_replies.proofs.pages_reading.read_page.Given as goal

abbrev pub invariant-entries : goal.invariant-entries
invariant-entries l = EntriesSoFar l.plus l.initial.parts l.entries.items l.parts

abbrev pub decreases-entries : goal.decreases-entries
decreases-entries l = left_length l.parts
