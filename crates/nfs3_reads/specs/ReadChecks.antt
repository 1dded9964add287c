-- The checks of a READ, which `read` of the definitions has in its own text (RFC 1813, section 3.3.6).
use Rattle.std.specs.Prelude.{◌||◌, not, List, [], ◌∷◌}
use Rattle.tree_model.specs.Tree.{Inode, file_kind}
use Rattle.wire_model.specs.Rpc.{Identity}
use Rattle.nfs_model.specs.declared.replies.NfsStatus.TheVariants as status
use Rattle.nfs_model.specs.Checks.{Check}
use Rattle.nfs_model.specs.Objects.{may_read, is_owner}

abbrev pub read_checks : Identity → Inode → List Check
read_checks who i = (not (file_kind i.kind), status.Inval) ∷ (not (may_read who i || is_owner who i), status.Acces) ∷ []
