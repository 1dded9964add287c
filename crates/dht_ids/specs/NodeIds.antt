-- The identifiers of nodes.
use Rattle.std.specs.Prelude.{ℕ, ◌++◌, codes}
use Rattle.std.specs.Fmt.{decimal}
use Rattle.ivy_base.specs.declared.key.Key.{Key}
use Rattle.ivy_base.specs.Naming.{digest}

-- the identifier of the node of that number: the SHA-1 of `node-` and the number in decimal
abbrev pub node_id_of : ℕ → Key
node_id_of number = digest (codes "node-" ++ decimal number)
