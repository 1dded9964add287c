use Rattle.std.proofs.Common.{◌-◌, length, drop}
use Rattle.snapshot_model.specs.Spelling.{piece_made}
use Rattle.snapshot_store.specs.Listing.{IsListing}
use Rattle.snapshot_store.proofs.items.put_pieces.Given as goal

abbrev pub invariant-pieces : goal.invariant-pieces
invariant-pieces l = IsListing 8192 piece_made l.fn.blocks l.file.inode.body (drop l.start l.file.inode.body) l.blocks l.levels

abbrev pub decreases-pieces : goal.decreases-pieces
decreases-pieces l = length l.file.inode.body - l.start
