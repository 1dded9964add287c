use Rattle.std.proofs.Common.{◌≡◌, fold, take}
use Rattle.dhash_model.specs.Stores.{without}
use Rattle.ring_nodes.proofs.node.drop_all.Given as goal

-- without the keys so far
abbrev pub invariant-keys : goal.invariant-keys
invariant-keys l = l.store ≡ fold (λ blocks key. without key blocks) l.fn.store (take l.key-index l.keys)
