-- A tree without what its inodes contain: the same names, and of each inode the kind alone.
use Rattle.std.specs.Prelude.{◌≡◌, [], map}
use Rattle.ivy_base.specs.declared.operation.Kind.{Kind}
use Rattle.tree_model.specs.Tree.{Tree, Inode, Attributes}

-- mode and owners 0, and the three times 0
abbrev pub blank : Attributes
blank = record {
  mode = 0;
  uid = 0;
  gid = 0;
  atime = record { sec = 0; nsec = 0 };
  mtime = record { sec = 0; nsec = 0 };
  ctime = record { sec = 0; nsec = 0 };
}

-- an inode of that kind, with nothing in it
abbrev pub bare_inode : Kind → Inode
bare_inode kind = record { kind = kind; attributes = blank; body = [] }

abbrev pub bare : Tree → Tree
bare t = record { names = t.names; inodes = map (λ e. (e.0, bare_inode e.1.kind)) t.inodes }

-- of each inode no more than its kind is known
abbrev pub IsBare : Tree → Type 0
IsBare t = bare t ≡ t
