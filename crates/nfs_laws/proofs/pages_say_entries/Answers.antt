use Rattle.nfs_laws.proofs.PageEntries.{plain_pages_say, plus_pages_say, pages_are_given}
use Rattle.nfs_laws.proofs.pages_say_entries.Goals as goal

pub returns-clause-plain : goal.returns-clause-plain
returns-clause-plain c = plain_pages_say

pub returns-clause-plus : goal.returns-clause-plus
returns-clause-plus c = plus_pages_say

pub returns-clause-given : goal.returns-clause-given
returns-clause-given c = pages_are_given
