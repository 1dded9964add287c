-- What comes of a call on what a turn took.
use Rattle.std.specs.Prelude.{◌≡◌, ℕ}
use Rattle.log_model.specs.Vector.{Vector, join}
use Rattle.nfs_model.specs.declared.replies.Reply.{Reply}
use Rattle.nfs_model.specs.Results.{result as bytes_of}
use Rattle.ivy_agent.specs.declared.saving.Kept.{Kept}
use Rattle.log_fetch.specs.declared.turned.Turned.{Turned}

-- what is kept, with what is held joined into its floor
abbrev pub kept_to : {S : Type 0} → Kept S → Vector → Kept S
kept_to k front = record k { floor = join k.floor front }

-- the reply's bytes, what is pending and how far all goes are given, and so many records were applied
pub record Gives {S : Type 0} (reply : Reply) (after : Kept S) (front : Vector) (applied : ℕ) (t : Turned) : Type 0 where
  pub bytes : t.reply ≡ bytes_of reply
  pub posts : t.posts ≡ after.pending
  pub its_front : t.front ≡ front
  pub count : t.applied ≡ applied
