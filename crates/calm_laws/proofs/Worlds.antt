-- What holds of the worlds of a calm script, whoever lives: nodes hold what they may, and of each acknowledged post a live node holds it, or something newer.
use Rattle.std.proofs.Common.{◌≡◌, ℕ, true, List, [], ◌∷◌, find, Option, Some, None, sym, ap, ◌∙◌, subst, Contains}
use Rattle.std.specs.List.{AllByRecursion}
use Rattle.std.specs.Str.{bytes_eq}
use Rattle.ring_model.specs.Ring.{Links}
use Rattle.ring_model.proofs.Lists.{all_weaker}
use Rattle.dht_ids.specs.declared.peer.Peer.{Peer}
use Rattle.dht_ids.specs.declared.ask.AskKind.{AskKind}
use Rattle.dht_ids.specs.declared.ask.AskKind.TheVariants as kind
use Rattle.dht_ids.specs.declared.ask.Heard.{Heard}
use Rattle.dht_ids.specs.declared.post.Post.{Post}
use Rattle.ring_model.specs.Members.{first}
use Rattle.dhash_model.specs.Signed.{hss_judged}
use Rattle.log_model.proofs.Lists.{each}
use Rattle.script_driver.specs.Run.{Goes}
use Rattle.script_model.specs.declared.command.Command.{Command}
use Rattle.world_model.specs.World.{NamedSession, Participant, World}
use Rattle.world_model.specs.GhostState.{GhostState}
use Rattle.world_model.specs.Logs.{Played}
use Rattle.world_model.specs.Step.{Does}
use Rattle.world_model.specs.RingOf.{lives_in}
use Rattle.round_laws.proofs.Nodes.{Shape, lives_by, lives_shape}
use Rattle.calm_laws.specs.Calm.{IsQuiet, Joined, Since, Stopped}
use Rattle.calm_laws.proofs.CalmNodes.{IsRing}
use Rattle.calm_laws.proofs.CalmPuts.{IsHeldFor}
use Rattle.calm_laws.proofs.CalmStates.{ArePending, IsMore, more_posts, posts_at, same_more}
use Rattle.calm_laws.proofs.BlockKinds.{AreApart, of_more}
use Rattle.calm_laws.specs.Laws.{IsWithinLimit}
use Rattle.calm_laws.proofs.Holding.{AreOrderly}
use Rattle.calm_laws.proofs.Stretches.{AreTrue, IsAckHeld, IsPutTrueAt, IsStandingRing, IsTrueAt, Stretch, owner_lives}
use Rattle.calm_laws.proofs.States.{InStep, IsGood, kept_ring}
use Rattle.calm_laws.proofs.Commands.{command_goes}

-- ---- worlds of the same participants

pub more_nodes : (w v : World) → v.met ≡ w.met → v.participants ≡ w.participants → IsMore w v
more_nodes w v met ps = record {
  met = λ b h. subst (λ m. Contains m b) (sym met) h;
  left = λ b h. (h.0, h.1, subst (λ qs. find (λ (x : Participant). bytes_eq x.name h.0) qs ≡ Some h.1) (sym ps) h.2, h.3);
}

pub pending_same : (w v : World) → IsMore w v → v.participants ≡ w.participants → ArePending w → ArePending v
pending_same w v more ps h n q is = more_posts w v q.agent.pending more (h n q (subst (λ qs. find (λ (x : Participant). bytes_eq x.name n) qs ≡ Some q) ps is))

pub orderly_more : (w end v : World) → IsMore w end → AreOrderly w v → AreOrderly end v
orderly_more w end v more h id n e = let o = h id n e in record { kinds = λ key c f. of_more w end more key c.kind c.bytes (o.kinds key c f); sorted = o.sorted }

-- ---- states

-- a live node holds the post, or something newer
abbrev pub HasHolder : World → Post → Type 0
HasHolder w p = (m : Peer) × (lives_in w m ≡ true) × IsHeldFor w p m

pub record HoldsAll (w : World) (st : GhostState) : Type 0 where
  pub orderly : AreOrderly w w
  pub acked : AllByRecursion (HasHolder w) st.acked
  pub pending : ArePending w

abbrev pub stretch : (r : ℕ) (base : List Shape) (links : Peer → Links Peer) (start k : ℕ) → IsStandingRing r base links → (end : World) → AreApart end → Stretch
stretch r base links start k stands end apart = record { r = r; base = base; links = links; start = start; stops = k; stands = stands; end = end; apart = apart }

-- within a stretch, up to that world
pub record IsStanding (r k : ℕ) (w : World) (st : GhostState) : Type 0 where
  pub base : List Shape
  pub links : Peer → Links Peer
  pub start : ℕ
  pub stands : IsStandingRing r base links
  pub apart : AreApart w
  pub still : IsRing r base links start w
  pub good : IsGood (stretch r base links start k stands w apart) w st

abbrev pub IsState : ℕ → World → GhostState → Since → Type 0
IsState r w st (Stopped k) = IsStanding r k w st
IsState r w st Joined = HoldsAll w st

pub lives_same : (r : ℕ) (base : List Shape) (links : Peer → Links Peer) (start : ℕ) (w : World) → IsRing r base links start w → lives_in w ≡ lives_by base
lives_same r base links start w h = lives_shape w ∙ ap lives_by h.within.shapes

module _ (r k : ℕ) (w : Played) (s : IsStanding r k w.0 w.1) where
  abbrev pub on : Stretch
  on = stretch r s.base s.links s.start k s.stands w.0 s.apart

  pub acked_on : (p : Post) → Contains w.1.acked p → IsAckHeld on w.0 p
  acked_on p acked = each (IsAckHeld on w.0) w.1.acked p s.good.acked acked

pub to_holds : (r k : ℕ) (w : World) (st : GhostState) → IsStanding r k w st → HoldsAll w st
to_holds r k w st s =
    let on = stretch r s.base s.links s.start k s.stands w s.apart in
    record {
      orderly = s.good.orderly;
      acked = all_weaker (IsAckHeld on w) (HasHolder w) st.acked (λ p a. (a.owner, (λ i. lives_same r s.base s.links s.start w s.still i a.owner) ∙ owner_lives on p.key a.owner a.owns, a.holds)) s.good.acked;
      pending = s.good.pending;
    }

pub state_holds : (r : ℕ) (w : World) (st : GhostState) (since : Since) → IsState r w st since → HoldsAll w st
state_holds r w st (Stopped k) s = to_holds r k w st s
state_holds r w st Joined s = s

-- ---- a stretch that ends later

module _ (ring : Stretch) (end : World) (apart : AreApart end) (room : IsWithinLimit ring.end) (more : IsMore ring.end end) where
  abbrev onward : Stretch
  onward = record ring { end = end; apart = apart }

  put_onward : (w : World) (post : Option Post) (h : Heard) → IsPutTrueAt ring w post h → IsPutTrueAt onward w post h
  put_onward w None h t = t
  put_onward w (Some p) h t = λ made. let u = t made in record { answers = u.answers; held = u.held; takes = λ later fit live. u.takes room fit live }

  true_onward : (w : World) (post : Option Post) (k : AskKind) (h : Heard) → IsTrueAt ring w post k h → IsTrueAt onward w post k h
  true_onward w post kind.Route h t = t
  true_onward w post kind.Get h t = tt
  true_onward w post kind.PutBlock h t = put_onward w post h t
  true_onward w post kind.PutHead h t = put_onward w post h t

  heard_onward : (w : World) (post : Option Post) (trail : List Heard) → AreTrue ring w post trail → AreTrue onward w post trail
  heard_onward w post [] t = tt
  heard_onward w post (h ∷ trail) t = (true_onward w post h.kind h t.0, heard_onward w post trail t.1)

  pub good_onward : (w : World) (st : GhostState) → IsGood ring w st → IsGood onward w st
  good_onward w st g = record {
    orderly = orderly_more ring.end end w more g.orderly;
    acked = all_weaker (IsAckHeld ring w) (IsAckHeld onward w) st.acked (λ p a.
        let since = a.all room in
        record { owner = a.owner; owns = a.owns; holds = a.holds; all = λ later. record { before = since.before; ascending = since.ascending; members = since.members; few = since.few; held = since.held } }) g.acked;
    pending = g.pending;
    sessions = all_weaker (λ (s : NamedSession). InStep ring w s.session) (λ (s : NamedSession). InStep onward w s.session) w.sessions
        (λ s i. record { entries = i.entries; posts = i.posts; heard = heard_onward w (first (posts_at s.session.stage)) s.session.current i.heard }) g.sessions;
  }

-- ---- a line by which nodes change by asks alone

pub quiet_state : (r k : ℕ) (w next : Played) (c : Command) (output : List ℕ) → w.0.replicas ≡ Some r → IsQuiet c → Does hss_judged w c (Goes next output) → IsWithinLimit w.0 → AreApart next.0 → IsStanding r k w.0 w.1 → IsStanding r k next.0 next.1
quiet_state r k w next c output ringed quiet does room apart s =
    let before = stretch r s.base s.links s.start k s.stands w.0 s.apart in
    let on = stretch r s.base s.links s.start k s.stands next.0 apart in
    let goes = command_goes on w next c output ringed quiet does in
    record {
      base = s.base;
      links = s.links;
      start = s.start;
      stands = s.stands;
      apart = apart;
      still = kept_ring on w.0 next.0 goes.still s.still;
      good = goes.good (same_more next.0) s.still (good_onward before next.0 apart room goes.grows w.0 w.1 s.good);
    }
