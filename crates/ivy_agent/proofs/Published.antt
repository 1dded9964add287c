-- What is to be published once records are written has a spelling.
use Rattle.std.proofs.Common.{◌<◌, ◌≤◌, ◌^◌, not, inl, refl, List, [], ◌∷◌, ◌++◌, length, map, filter}
use Rattle.std.specs.List.{All, AllByRecursion}
use Rattle.std.proofs.lemmas.List.Elements.{All-contains}
use Rattle.log_model.specs.Record.{Record}
use Rattle.log_model.specs.Spelling.{HasSpelling, IsKey, longest_record}
use Rattle.log_model.specs.Vector.{Stamp}
use Rattle.log_model.proofs.Lists.{each, each_append, each_from}
use Rattle.dht_ids.specs.declared.post.Post.{Post}
use Rattle.log_model.specs.Signing.{Signing}
use Rattle.agent_model.specs.Agent.{head_post, is_head, own_key, record_post, with_posts}
use Rattle.agent_model.specs.SavedBytes.{AreOpaque, ArePostsSpelled, HasItsName}
use Rattle.ivy_agent.proofs.HeadKeys.{head_is_key}
use Rattle.ivy_agent.proofs.Records.{posts_are_named}
use Rattle.ivy_agent.proofs.Settled.{some_spelled}

abbrev IsPost : Post → Type 0
IsPost p = IsKey p.key × HasItsName p × AreOpaque p.bytes

each_written : (written : List Record) → AllByRecursion HasSpelling written → All (λ p. AreOpaque p.bytes) (map record_post written) → AllByRecursion IsPost (map record_post written)
each_written written h counted = each_from IsPost (map record_post written) (λ p c.
    let named = each (λ q. IsKey q.key × HasItsName q × (length q.bytes ≤ longest_record)) (map record_post written) p (posts_are_named written h) c in
    (named.0, named.1, All-contains (λ q. AreOpaque q.bytes) (map record_post written) p counted c))

-- those that were pending, of written records that have a spelling, and of a head that is short
pub posts_spelled : {S : Type 0} (signs : Signing S) (signer : S) (newest : Stamp) (pending : List Post) (written : List Record) → ArePostsSpelled pending → AllByRecursion HasSpelling written
    → All (λ p. AreOpaque p.bytes) (map record_post written) → AreOpaque (head_post signs signer newest).bytes → length (with_posts pending written (head_post signs signer newest)) < 2 ^ 32
    → ArePostsSpelled (with_posts pending written (head_post signs signer newest))
posts_spelled signs signer newest pending written before h counted head few = record {
  few = few;
  each = each_append IsPost (filter (λ p. not (is_head p.kind)) pending ++ map record_post written) (head_post signs signer newest ∷ [])
      (each_append IsPost (filter (λ p. not (is_head p.kind)) pending) (map record_post written) (some_spelled (λ p. not (is_head p.kind)) pending before).each (each_written written h counted))
      ((head_is_key (own_key signs signer), inl refl, head), tt);
}
