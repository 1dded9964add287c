-- Which posts an acknowledgement is of, by what is known of them without a digest.
use Rattle.std.specs.Prelude.{Bool, ◌&&◌, List, cond}
use Rattle.std.specs.List.{list_any}
use Rattle.ivy_base.specs.declared.key.Key.{Key}
use Rattle.ivy_base.specs.Naming.{name}
use Rattle.tree_model.specs.Tree.{same_key}
use Rattle.dht_ids.specs.declared.post.Ack.{Ack}
use Rattle.dht_ids.specs.declared.post.Post.{Post}
use Rattle.agent_model.specs.Agent.{is_head}

-- the name of a head's block, and else the key, which is the block's name where the post has its name
abbrev pub known_name : Post → Key
known_name p = cond (is_head p.kind) (name p.bytes) p.key

-- one of the acknowledgements has the post's key and that name
abbrev pub is_known_settled : List Ack → Post → Bool
is_known_settled acks p = list_any (λ ack. same_key ack.key p.key && same_key ack.name (known_name p)) acks
