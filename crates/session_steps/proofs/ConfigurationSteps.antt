-- A configuration whose session is one in code: what is available was taken, and it is in hand still.
use Rattle.std.proofs.Common.{◌≡◌, ℕ, Bool, true, false, cond, List, [], ◌∷◌, map, Option, Some, None, refl, sym, ap, ◌∙◌, subst}
use Rattle.std.specs.Str.{bytes_eq}
use Rattle.std.proofs.lemmas.Slice.Eq.{bytes_eq-Decides}
use Rattle.ivy_base.specs.declared.key.Key.{Key}
use Rattle.dhash_model.specs.Signed.{hss_judged}
use Rattle.dht_ids.specs.declared.ask.Answer.{Answer}
use Rattle.dht_ids.specs.declared.ask.Ask.{Ask}
use Rattle.dht_ids.specs.declared.judge.Judged.{Judged}
use Rattle.dht_ids.specs.declared.peer.Peer.{Peer}
use Rattle.dht_ids.specs.declared.post.Ack.{Ack}
use Rattle.dht_ids.specs.declared.post.Post.{Post}
use Rattle.dhash_client.specs.GetHead.{Judges}
use Rattle.session_model.specs.Sessions.{Cache, Hears, Said, Session, TakesAll, TakesSome, acknowledged, after_put}
use Rattle.session_model.specs.Executions.{Fails, LacksMemory}
use Rattle.session_model.specs.Executions.Fails.{fails as refresh_fails, goes_on as refresh_goes}
use Rattle.session_model.specs.Executions.LacksMemory.{lacks}
use Rattle.session_model.specs.Sessions.Hears.{gets_on, got, puts_on, puts}
use Rattle.ivy_session.specs.States.{SessionState}
use Rattle.ivy_session.specs.Stepping.{IsSameSession}
use Rattle.ivy_session.proofs.Staying.{all_some, some_same, taken_same}
use Rattle.ivy_session.proofs.Wanted.{as_ring as by_ring, as_ring_then as by_ring_then}
use Rattle.world_model.specs.World.{World, Participant, participant, with_participant}
use Rattle.world_model.specs.Steps.{Configuration, with_cache}
use Rattle.world_laws.specs.Invariant.{IsInHand, Invariant}
use Rattle.world_laws.proofs.Frames.{found_placed}
use Rattle.world_laws.proofs.TakingOn.{taking_keeps}
use Rattle.session_steps.specs.Configurations.{IsConfigurationOf, given_at, given_of}

-- ---- participants

-- of two with one name in the same place the later counts
pub twice_placed : (w : World) (p q : Participant) → p.name ≡ q.name → with_participant (with_participant w p) q ≡ with_participant w q
twice_placed w p q named = ap (λ (ps : List Participant). record w { participants = ps }) (each w.participants)
  where
    one : (o : Participant) (b : Bool) → bytes_eq o.name p.name ≡ b → cond (bytes_eq (cond b p o).name q.name) q (cond b p o) ≡ cond (bytes_eq o.name q.name) q o
    one o true e =
        let same : o.name ≡ q.name = (bytes_eq-Decides o.name p.name).0 e ∙ named in
        ap (λ (t : Bool). cond t q p) ((bytes_eq-Decides p.name q.name).1 named) ∙ sym (ap (λ (t : Bool). cond t q o) ((bytes_eq-Decides o.name q.name).1 same))
    one o false e = refl

    each : (ps : List Participant) → map (λ o. cond (bytes_eq o.name q.name) q o) (map (λ o. cond (bytes_eq o.name p.name) p o) ps) ≡ map (λ o. cond (bytes_eq o.name q.name) q o) ps
    each [] = refl
    each (o ∷ ps) = λ i. one o (bytes_eq o.name p.name) refl i ∷ each ps i

-- ---- what is said

pub put_gives : (said : Option Said) (p : Post) (posts : List Post) (acks : List Ack) (held : Bool) → given_at (after_put said p posts acks held) ≡ given_of said
put_gives said p posts acks true = refl
put_gives said p posts acks false = refl

pub hears_gives : {judged : Key → List ℕ → Option Judged} {r : ℕ} {s t : Session} {cache after : Cache} {node : Peer} {question : Ask} {given : Answer} → Hears judged r s cache node question given t after
    → given_at t.stage ≡ given_at s.stage
hears_gives (gets_on want wants next part) = refl
hears_gives (got want brought wants next whole) = refl
hears_gives (puts_on said p posts acks at next part) = refl
hears_gives (puts said p posts acks came at next whole) = put_gives said p posts acks (acknowledged came) ∙ sym (ap given_at at)

pub fails_gives : {s t : Session} → Fails s t → given_at t.stage ≡ given_at s.stage
fails_gives (refresh_fails notes given miss xid asked at refreshes asks) = sym (ap given_at at)
fails_gives (refresh_goes not) = refl

pub lacking_gives : {s t : Session} → LacksMemory s t → (given_at t.stage ≡ given_of None) × (given_at s.stage ≡ given_of None)
lacking_gives (lacks notes shown given end xid asked at refreshed asks rest front) = (refl, ap given_at at)

pub taken_gives : {judged : Key → List ℕ → Option Judged} {r : ℕ} {s t : Session} {cache after : Cache} → TakesAll judged r s cache t after → given_at t.stage ≡ given_at s.stage
taken_gives takes = ap (λ (u : Session). given_at u.stage) (taken_same takes)

pub some_gives : {judged : Key → List ℕ → Option Judged} {r : ℕ} {s t : Session} {cache after : Cache} → TakesSome judged r s cache t after → given_at t.stage ≡ given_at s.stage
some_gives takes = ap (λ (u : Session). given_at u.stage) (some_same takes)

-- ---- of a configuration

module _ {J : Type 0} (judges : Judges J) (c : Configuration) (r : ℕ) (p : Participant) (old : SessionState J) (is : IsConfigurationOf judges c r p old) where
  -- by the ring's judge and so many owners
  pub as_ring : (P : (Key → List ℕ → Option Judged) → ℕ → Type 0) → P (judges old.judge) old.replicas → P hss_judged r
  as_ring P h = by_ring judges hss_judged r c.session p.cache old is.judge is.replicas P h

  pub as_ring_then : (mid : SessionState J) → IsSameSession old mid → (P : (Key → List ℕ → Option Judged) → ℕ → Type 0) → P (judges mid.judge) mid.replicas → P hss_judged r
  as_ring_then mid same P h = by_ring_then judges hss_judged r c.session p.cache old is.judge is.replicas mid same P h

  module _ (keeps : Invariant (c.world, c.ghost_state)) (t : Session) (cache : Cache) (takes : TakesAll hss_judged r c.session p.cache t cache) where
    pub found_then : participant (with_participant c.world (record p { cache = cache })) t.by ≡ Some (record p { cache = cache })
    found_then = subst (λ (u : Session). participant (with_participant c.world (record p { cache = cache })) u.by ≡ Some (record p { cache = cache })) (sym (taken_same takes))
        (found_placed c.world keeps.apart c.session.by p is.is_by (record p { cache = cache }) refl)

    pub keeps_then : IsInHand c r → Invariant (with_participant c.world (record p { cache = cache }), c.ghost_state) × IsInHand (with_cache hss_judged r c p t cache) r
    keeps_then hand = taking_keeps c r p t cache keeps hand is.is_by (all_some takes)
