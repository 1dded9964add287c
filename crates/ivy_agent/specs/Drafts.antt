-- What is to be kept of an agent once records are written.
use Rattle.std.specs.Prelude.{◌≡◌, ◌<◌, ◌^◌, List, [], ◌∷◌, ◌++◌, length, map}
use Rattle.std.specs.List.{All}
use Rattle.ivy_base.specs.declared.operation.Moment.{Moment}
use Rattle.ivy_base.specs.declared.operation.Op.{Op}
use Rattle.log_model.specs.Rank.{own_entry}
use Rattle.log_model.specs.Record.{Record}
use Rattle.log_model.specs.Vector.{Stamp, Vector, join}
use Rattle.log_records.specs.Records.{records_of}
use Rattle.ivy_agent.specs.Appended.{written_over}
use Rattle.ivy_agent.specs.Newest.{newest_stamp, with_newest}
use Rattle.dht_ids.specs.declared.post.Post.{Post}
use Rattle.log_model.specs.Signing.{Signing}
use Rattle.agent_model.specs.Agent.{head_post, own_key, record_post, with_posts}
use Rattle.agent_model.specs.SavedBytes.{AreOpaque}
use Rattle.ivy_agent.specs.declared.saving.Kept.{Kept}
use Rattle.ivy_agent.specs.declared.drafts.Next.{Next}
use Rattle.ivy_agent.specs.declared.drafts.Draft.{Draft}

-- what is kept, with what is next in place of what was
abbrev pub kept_with : {S : Type 0} → Kept S → Next S → Kept S
kept_with k n = record k { signer = n.signer; floor = n.floor; pending = n.pending }

-- These are the new signer and the new posts, once these records are written: the last of them has that number and that name.
pub record IsSigned {S : Type 0} (signs : Signing S) (k : Kept S) (written : List Record) (newest : Stamp) (signer : S)
    (pending : List Post) : Type 0 where
  pub next : signer ≡ signs.next k.signer
  pub same_key : signs.key signer ≡ signs.key k.signer
  pub posts : pending ≡ with_posts k.pending written (head_post signs k.signer newest)
  pub few : length pending < 2 ^ 32
  pub each : All (λ p. AreOpaque p.bytes) (map record_post written)
  pub head : AreOpaque (head_post signs k.signer newest).bytes

-- These are the records of some operations over the front, and what is next with them.
pub record IsDraft {S : Type 0} (signs : Signing S) (k : Kept S) (front : Vector) (now : Moment) (ops : List Op)
    (d : Draft S) : Type 0 where
  pub start : List Record
  pub last : Record
  pub written : written_over (own_key signs k.signer) now front ops ≡ start ++ last ∷ []
  pub records : records_of d.records.items ≡ start ++ last ∷ []
  pub signed : IsSigned signs k (start ++ last ∷ []) (own_entry last).1 d.next.signer d.next.pending
  pub its_front : d.front ≡ with_newest (own_key signs k.signer) (newest_stamp (written_over (own_key signs k.signer) now front ops)) front
  pub floor : d.next.floor ≡ join k.floor d.front
