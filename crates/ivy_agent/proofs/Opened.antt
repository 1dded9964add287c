-- An agent's parts after the opening of its log.
use Rattle.std.proofs.Common.{◌≡◌, List, ℕ, [], ◌∷◌, inl, inr, refl, sym, ap, ◌∙◌, subst, arith, None}
use Rattle.ivy_base.specs.declared.key.Key.{Key}
use Rattle.ivy_base.specs.declared.key.PubKey.{PubKey}
use Rattle.ivy_base.specs.declared.operation.Moment.{Moment}
use Rattle.ivy_base.specs.Naming.{head_key_of, name}
use Rattle.log_model.specs.Chain.{opening}
use Rattle.log_model.specs.Vector.{Stamp}
use Rattle.log_model.specs.Spelling.{record_block}
use Rattle.snapshot_model.proofs.MadeLists.{is_key}
use Rattle.turn_model.specs.Basis.{nothing_held}
use Rattle.dht_ids.specs.declared.post.Post.{Post}
use Rattle.dht_ids.specs.declared.post.PostKind.TheVariants as kind
use Rattle.replay_engine.specs.Engines.{holding}
use Rattle.log_model.specs.Signing.{Signing}
use Rattle.agent_model.specs.Agent.{own_key, sealed}
use Rattle.agent_model.specs.SavedBytes.{ArePostsSpelled, AreOpaque}
use Rattle.ivy_agent.specs.Making.{IsOpening}
use Rattle.ivy_agent.specs.declared.opening.Opened.{Opened}
use Rattle.ivy_agent.proofs.HeadKeys.{head_is_key}

-- the first record's stamp under a name
abbrev pub first_stamp : Key → Stamp
first_stamp n = record { seq = 1; name = n }

-- the posts of the first record and of the head over it
abbrev pub first_posts : Key → Key → List ℕ → List ℕ → List Post
first_posts log n block head = record { key = n; bytes = block; kind = kind.Log } ∷ record { key = log; bytes = head; kind = kind.Head } ∷ []

module _ {S : Type 0} (signs : Signing S) (signer : S) (now : Moment) (o : Opened S) (block head : List ℕ) where
  abbrev own : PubKey
  own = own_key signs signer

  posts_spelled : AreOpaque block → AreOpaque head → ArePostsSpelled (first_posts (head_key_of own) (name block) block head)
  posts_spelled counted head_counted = record {
    few = omega arith;
    each = ((is_key block, inr refl, counted), ((head_is_key own, inl refl, head_counted), tt));
  }

  -- of the key and the names as they were told
  pub opened_with : (owner : PubKey) (log block_name : Key) → owner.0 ≡ signs.key signer → log ≡ head_key_of owner → block ≡ record_block (opening owner now) → block_name ≡ name block
      → head ≡ sealed signs signer (first_stamp block_name) → AreOpaque block → AreOpaque head → o.kept.signer ≡ signs.next signer → signs.key o.kept.signer ≡ signs.key signer
      → o.kept.log ≡ log → o.kept.view ≡ None → o.kept.floor ≡ (log, first_stamp block_name) ∷ [] → o.kept.pending ≡ first_posts log block_name block head → o.kept.snapshot ≡ None
      → holding o.engine ≡ nothing_held → o.front ≡ [] → IsOpening signs signer now o
  opened_with owner log block_name key_is log_told block_told name_told head_told counted head_counted next same log_is outside floor_is posts_are no_snapshot nothing front_is =
      let owner_is : owner ≡ own = (λ i. record { 0 = key_is i }) in
      let log_own : log ≡ head_key_of own = log_told ∙ ap head_key_of owner_is in
      let block_is : block ≡ record_block (opening own now) = block_told ∙ ap (λ (k : PubKey). record_block (opening k now)) owner_is in
      let named : o.kept.pending ≡ first_posts (head_key_of own) (name block) block head = posts_are ∙ (λ i. first_posts (log_own i) (name_told i) block head) in
      record {
        next = next;
        its_key = same;
        its_log = log_is ∙ log_own;
        outside = outside;
        its_floor = floor_is ∙ (λ i. (log_own i, first_stamp (name_told i)) ∷ []) ∙ ap (λ (b : List ℕ). (head_key_of own, first_stamp (name b)) ∷ []) block_is;
        posts = named
            ∙ ap (λ (h : List ℕ). first_posts (head_key_of own) (name block) block h) (head_told ∙ ap (λ (n : Key). sealed signs signer (first_stamp n)) name_told)
            ∙ ap (λ (b : List ℕ). first_posts (head_key_of own) (name b) b (sealed signs signer (first_stamp (name b)))) block_is;
        spelled = subst ArePostsSpelled (sym named) (posts_spelled counted head_counted);
        no_snapshot = no_snapshot;
        nothing = nothing;
        its_front = front_is;
      }
