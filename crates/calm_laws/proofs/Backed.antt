-- Of what an agent knows of its own log each record was put, or is still to be published; so it is of what its keeper holds, which is no less.
use Rattle.std.proofs.Common.{◌≡◌, inl, inr, ℕ, Bool, true, false, ◌&&◌, not, List, [], filter, refl, sym, ap, ◌∙◌, Contains}
use Rattle.std.specs.List.{AllByRecursion, list_any}
use Rattle.ivy_base.specs.declared.key.PubKey.{PubKey}
use Rattle.ivy_base.specs.Naming.{IsCollisionFree, head_key_of, name}
use Rattle.tree_model.proofs.Keys.{same_key_is}
use Rattle.log_model.specs.Record.{Record}
use Rattle.log_model.specs.Spelling.{record_block}
use Rattle.log_model.specs.Vector.{seq_of}
use Rattle.log_model.proofs.Lists.{each, each_from, from_filter, in_filter, who_passes}
use Rattle.ring_model.proofs.Lists.{all_weaker}
use Rattle.dht_ids.specs.declared.post.Ack.{Ack}
use Rattle.dht_ids.specs.declared.post.Post.{Post}
use Rattle.agent_model.specs.Agent.{is_head, record_post}
use Rattle.agent_model.specs.Others.{is_of, settled}
use Rattle.world_model.specs.Agents.{HssKept, own_hss_key, own_reach}
use Rattle.world_model.specs.World.{Participant}
use Rattle.world_laws.specs.Invariant.{IsKeptSo}
use Rattle.calm_laws.specs.Put.{IsPutOr, WasPut}
use Rattle.calm_laws.proofs.UpTo.{more_put_or, over_weaker}
use Rattle.calm_laws.proofs.Stages.{IsHeadPutOr, IsMet, WasAcked}

-- each own record among those known, and each after a head among the posts, was put, or is among the posts
pub record IsBackedBy (acked : List Post) (owner : PubKey) (known : List Record) (posts : List Post) : Type 0 where
  pub records : (one : Record) → Contains known one → one.owner ≡ owner → IsPutOr acked posts one
  pub heads : (h : Post) → Contains posts h → is_head h.kind ≡ true → IsHeadPutOr acked posts h

-- what would be loaded goes as far in the own log, and has no less to publish
pub record IsBackedKept (acked : List Post) (known : List Record) (p : Participant) (k : HssKept) : Type 0 where
  pub same_reach : seq_of k.floor (head_key_of (own_hss_key p.agent)) ≡ own_reach p.agent
  pub backed : IsBackedBy acked (own_hss_key p.agent) known k.pending

pub record IsBackedIn (met : List (List ℕ)) (acked : List Post) (p : Participant) (known : List Record) : Type 0 where
  pub agent : IsBackedBy acked (own_hss_key p.agent) known p.agent.pending
  pub pending : AllByRecursion (IsMet met) p.agent.pending
  pub fine : p.keeper.failing ≡ []
  pub keeper : IsKeptSo (IsBackedKept acked known) p

-- ---- more, and less that is known

pub heads_weaker : (acked more posts others : List Post) → ((one : Record) → IsPutOr acked posts one → IsPutOr more others one) → (h : Post) → IsHeadPutOr acked posts h → IsHeadPutOr more others h
heads_weaker acked more posts others weaker h over j is = over_weaker (IsPutOr acked posts) (IsPutOr more others) h.key j weaker (over j is)

pub backed_more : (acked more : List Post) → ((p : Post) → Contains acked p → Contains more p) → (owner : PubKey) (known fewer : List Record) (posts : List Post) → ((one : Record) → Contains fewer one → one.owner ≡ owner → Contains known one)
    → IsBackedBy acked owner known posts → IsBackedBy more owner fewer posts
backed_more acked more grows owner known fewer posts less h = record {
  records = λ one c mine. more_put_or acked more posts grows one (h.records one (less one c mine) mine);
  heads = λ p c is. heads_weaker acked more posts posts (more_put_or acked more posts grows) p (h.heads p c is);
}

pub in_more : (met now : List (List ℕ)) (acked more : List Post) (p : Participant) (known fewer : List Record) → ((b : List ℕ) → Contains met b → Contains now b) → ((q : Post) → Contains acked q → Contains more q)
    → ((one : Record) → Contains fewer one → one.owner ≡ own_hss_key p.agent → Contains known one) → IsBackedIn met acked p known → IsBackedIn now more p fewer
in_more met now acked more p known fewer meets grows less h = record {
  agent = backed_more acked more grows (own_hss_key p.agent) known fewer p.agent.pending less h.agent;
  pending = all_weaker (IsMet met) (IsMet now) p.agent.pending (λ q m. meets q.bytes m) h.pending;
  fine = h.fine;
  keeper = (
    h.keeper.0,
    h.keeper.1,
    h.keeper.2,
    record {
      same_reach = h.keeper.3.same_reach;
      backed = backed_more acked more grows (own_hss_key p.agent) known fewer h.keeper.0.pending less h.keeper.3.backed;
    },
  );
}

-- ---- settling

both_true : (a b : Bool) → (a && b) ≡ true → (a ≡ true) × (b ≡ true)
both_true true true e = (refl, refl)
both_true true false e = cc e
both_true false b e = cc e

module _ (met : List (List ℕ)) (apart : IsCollisionFree met) (acked : List Post) (put_met : (p : Post) → Contains acked p → Contains met p.bytes) (acks : List Ack) (acks_so : AllByRecursion (WasAcked acked) acks) where
  abbrev left : List Post → List Post
  left posts = filter (λ (p : Post). not (list_any (λ ack. is_of ack p) acks)) posts

  settled_or : (posts : List Post) → AllByRecursion (IsMet met) posts → (one : Record) → IsPutOr acked posts one → IsPutOr acked (left posts) one
  settled_or posts all_met one (inl put) = inl put
  settled_or posts all_met one (inr c) = by (list_any (λ ack. is_of ack (record_post one)) acks) refl
    where
      dropped : (ack : Ack) → Contains acks ack → is_of ack (record_post one) ≡ true → WasPut acked one
      dropped ack among of =
          let was = each (WasAcked acked) acks ack acks_so among in
          let same = both_true _ _ of in
          let key : was.0.key ≡ one.name = sym (ap (λ (a : Ack). a.key) was.2) ∙ same_key_is _ _ same.0 in
          let named : name was.0.bytes ≡ name (record_block one) = sym (ap (λ (a : Ack). a.name) was.2) ∙ same_key_is _ _ same.1 in
          (was.0, was.1, key, apart was.0.bytes (record_block one) (put_met was.0 was.1) (each (IsMet met) posts (record_post one) all_met c) named)

      by : (b : Bool) → list_any (λ ack. is_of ack (record_post one)) acks ≡ b → IsPutOr acked (left posts) one
      by true is = let who = who_passes (λ ack. is_of ack (record_post one)) acks is in inl (dropped who.0 who.1 who.2)
      by false is = inr (in_filter (λ (p : Post). not (list_any (λ ack. is_of ack p) acks)) posts (record_post one) c (ap not is))

  pub settled_by : (owner : PubKey) (known : List Record) (posts : List Post) → AllByRecursion (IsMet met) posts → IsBackedBy acked owner known posts → IsBackedBy acked owner known (left posts)
  settled_by owner known posts all_met h = record {
    records = λ one c mine. settled_or posts all_met one (h.records one c mine);
    heads = λ p c is. heads_weaker acked acked posts (left posts) (settled_or posts all_met) p (h.heads p (from_filter (λ (x : Post). not (list_any (λ ack. is_of ack x) acks)) posts p c).0 is);
  }

  pub settled_in : (p : Participant) (known : List Record) → IsBackedIn met acked p known → IsBackedIn met acked (record p { agent = settled p.agent acks }) known
  settled_in p known h = record {
    agent = settled_by (own_hss_key p.agent) known p.agent.pending h.pending h.agent;
    pending = each_from (IsMet met) (left p.agent.pending) (λ q c. each (IsMet met) p.agent.pending q h.pending (from_filter (λ (x : Post). not (list_any (λ ack. is_of ack x) acks)) p.agent.pending q c).0);
    fine = h.fine;
    keeper = (h.keeper.0, h.keeper.1, h.keeper.2, record { same_reach = h.keeper.3.same_reach; backed = h.keeper.3.backed });
  }
