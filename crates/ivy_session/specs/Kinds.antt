-- What posts are.
use Rattle.std.specs.Prelude.{Bool}
use Rattle.dht_ids.specs.declared.post.PostKind.{PostKind}
use Rattle.dht_ids.specs.declared.post.PostKind.TheVariants as kind
use Rattle.agent_model.specs.Agent.{is_head}
use Rattle.agent_model.specs.Others.{is_block}
use Rattle.session_model.specs.Sessions.{is_log}

-- the kinds are one
abbrev pub is_kind : PostKind → PostKind → Bool
is_kind kind.Block other = is_block other
is_kind kind.Log other = is_log other
is_kind kind.Head other = is_head other
