-- The attributes that the definitions speak of.
use Rattle.tree_model.specs.Tree.{Attributes}
use Rattle.inode_replay.specs.declared.attr.Attr.{Attr}

abbrev pub attributes_of : Attr → Attributes
attributes_of a = record { mode = a.mode; uid = a.uid; gid = a.gid; atime = a.atime; mtime = a.mtime; ctime = a.ctime }
