-- What holds of every store of blocks, what a put tells, and what is listed of a store.
use Rattle.std.specs.Prelude.{◌≡◌, ◌≤◌, Option, Some, None, Result, Ok, Err}
use Rattle.std.specs.List.Sorted.{IsStrictlySortedBy}
use Rattle.std.specs.Map.{keys_of}
use Rattle.ivy_base.specs.declared.key.Key.{Key}
use Rattle.ivy_base.specs.Naming.{key_cmp}
use Rattle.dht_ids.specs.declared.ask.StoreFault.{StoreFault}
use Rattle.dht_ids.specs.declared.post.Post.{Post}
use Rattle.dht_ids.specs.declared.post.PostKind.{PostKind}
use Rattle.dht_ids.specs.declared.post.PostKind.TheVariants as post
use Rattle.node_store.specs.declared.fault.PutFault.{PutFault}
use Rattle.node_store.specs.declared.fault.PutFault.TheVariants.{Refused, Memory}
use Rattle.dhash_model.specs.declared.kind.BlockKind.{BlockKind}
use Rattle.dhash_model.specs.declared.kind.BlockKind.TheVariants.{Content, Head}
use Rattle.dhash_model.specs.Stores.{Block, Blocks, bytes_held, store_capacity}

-- what holds of every store: the keys ascend, each once, and there are no more bytes than the capacity
pub record IsStore (blocks : Blocks) : Type 0 where
  pub ascending : IsStrictlySortedBy key_cmp (keys_of blocks)
  pub within : bytes_held blocks ≤ store_capacity

-- a put tells of that fault exactly; running out of memory comes only where there is none
abbrev pub Tells : Option StoreFault → Result Unit PutFault → Type 0
Tells found (Ok done) = found ≡ None
Tells found (Err (Refused fault)) = found ≡ Some fault
Tells found (Err Memory) = found ≡ None

abbrev pub post_kind : BlockKind → PostKind
post_kind Content = post.Block
post_kind Head = post.Head

abbrev pub post_of : Key × Block → Post
post_of held = record { key = held.0; bytes = held.1.bytes; kind = post_kind held.1.kind }
