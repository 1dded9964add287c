-- The object of the definitions that a live object of the program is.
use Rattle.nfs_model.specs.Objects.{Object}
use Rattle.nfs3_objects.specs.declared.object.LiveObject.{LiveObject}

abbrev pub seen : LiveObject → Object
seen o = record { number = o.number; inode = o.content.now.inode }
