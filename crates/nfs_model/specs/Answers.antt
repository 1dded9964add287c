-- How an answer about the object of a handle is made: the handle is looked at first, then the checks in their order.
use Rattle.std.specs.Prelude.{List, Option, Some, None, Result, Ok, Err}
use Rattle.nfs_model.specs.declared.replies.NfsStatus.{NfsStatus}
use Rattle.nfs_model.specs.declared.replies.Tail.{Tail}
use Rattle.nfs_model.specs.declared.replies.Reply.{Reply}
use Rattle.nfs_model.specs.declared.replies.Reply.TheVariants as reply
use Rattle.nfs_model.specs.Checks.{Check, first_failure}
use Rattle.nfs_model.specs.Objects.{Object}

-- the answer about the object of the handle, or the handle's fault with this tail
abbrev pub about : Result Object NfsStatus → Tail → (Object → Reply) → Reply
about (Err fault) none answer = reply.Refused fault none
about (Ok o) none answer = answer o

-- the answer where no check fails, or a refusal with this tail
abbrev pub unless : List Check → Tail → Reply → Reply
unless checks with answer = refused_or (first_failure checks) with answer
  where
    refused_or : Option NfsStatus → Tail → Reply → Reply
    refused_or None with answer = answer
    refused_or (Some fault) with answer = reply.Refused fault with
