use Rattle.std.proofs.Common.{take}
use Rattle.sha1.specs.Sha1.{Holds}
use Rattle.nfs3_reads.specs.Names.{names_bytes}
use Rattle.nfs3_reads.proofs.listing.verifier_of.Given as goal

-- the hasher holds the names so far
abbrev pub invariant-loop-name : goal.invariant-loop-name
invariant-loop-name l = Holds l.hasher (names_bytes (take l.name-index l.listing))
