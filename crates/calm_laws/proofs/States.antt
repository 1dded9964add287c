-- What holds of each world of a stretch: nodes hold what they may, live owners hold each acknowledged post, and what sessions were answered is true.
use Rattle.std.proofs.Common.{◌≡◌, List, [], ◌∷◌, Option, Some, None, sym, subst}
use Rattle.std.specs.List.{AllByRecursion}
use Rattle.ring_model.specs.Members.{first}
use Rattle.ring_model.proofs.Lists.{all_weaker}
use Rattle.dhash_model.specs.Signed.{hss_judged}
use Rattle.dht_ids.specs.Asked.{IsForData}
use Rattle.dht_ids.specs.declared.ask.Answer.{Answer}
use Rattle.dht_ids.specs.declared.ask.Ask.{Ask}
use Rattle.dht_ids.specs.declared.ask.AskKind.{AskKind}
use Rattle.dht_ids.specs.declared.ask.AskKind.TheVariants as kind
use Rattle.dht_ids.specs.declared.ask.Heard.{Heard}
use Rattle.dht_ids.specs.declared.peer.Peer.{Peer}
use Rattle.dht_ids.specs.declared.post.Post.{Post}
use Rattle.session_model.specs.Sessions.{Session}
use Rattle.world_model.specs.World.{NamedSession, World}
use Rattle.world_model.specs.GhostState.{GhostState}
use Rattle.world_model.specs.Fates.{FateOf}
use Rattle.world_model.specs.Steps.{Configuration}
use Rattle.calm_laws.proofs.CalmNodes.{HeldStays, KeepsRings, asked_rings}
use Rattle.calm_laws.proofs.CalmPuts.{entries_by, held_for}
use Rattle.calm_laws.proofs.CalmStates.{ArePending, IsMore, IsOwnPost, more_posts, more_then, posts_at, same_more}
use Rattle.calm_laws.proofs.BlockKinds.{FitsIn}
use Rattle.calm_laws.proofs.Holding.{AreOrderly, asked_holds}
use Rattle.calm_laws.proofs.Stretches.{AreTrue, IsAckHeld, IsPutTrueAt, IsRingOf, IsTrueAt, Stretch, ack_later, known}

module _ (ring : Stretch) where
  -- A session knows all nodes, and what it was answered in the get or put on its way is true.
  pub record InStep (w : World) (s : Session) : Type 0 where
    pub entries : s.entries ≡ entries_by ring.base
    pub posts : AllByRecursion (IsOwnPost w) (posts_at s.stage)
    pub heard : AreTrue ring w (first (posts_at s.stage)) s.current

  put_more : (w v : World) (post : Option Post) (h : Heard) → IsMore w v → HeldStays w v → IsPutTrueAt ring w post h → IsPutTrueAt ring v post h
  put_more w v None h more held t = t
  put_more w v (Some p) h more held t = λ made.
      let u = t made in
      record { answers = u.answers; held = λ e. (held_for w v p h.node more.met held (u.held e).0, (u.held e).1); takes = u.takes }

  more_true : (w v : World) (post : Option Post) (k : AskKind) (h : Heard) → IsMore w v → HeldStays w v → IsTrueAt ring w post k h → IsTrueAt ring v post k h
  more_true w v post kind.Route h more held t = t
  more_true w v post kind.Get h more held t = tt
  more_true w v post kind.PutBlock h more held t = put_more w v post h more held t
  more_true w v post kind.PutHead h more held t = put_more w v post h more held t

  no_put_true : (w : World) (post : Option Post) (k : AskKind) (h : Heard) → IsTrueAt ring w None k h → IsTrueAt ring w post k h
  no_put_true w post kind.Route h t = t
  no_put_true w post kind.Get h t = tt
  no_put_true w post kind.PutBlock h t = absurd t
  no_put_true w post kind.PutHead h t = absurd t

  -- where nothing was put
  pub no_puts_true : (w : World) (post : Option Post) (trail : List Heard) → AreTrue ring w None trail → AreTrue ring w post trail
  no_puts_true w post [] t = tt
  no_puts_true w post (h ∷ trail) t = (no_put_true w post h.kind h t.0, no_puts_true w post trail t.1)

  pub more_heard : (w v : World) (post : Option Post) (trail : List Heard) → IsMore w v → HeldStays w v → AreTrue ring w post trail → AreTrue ring v post trail
  more_heard w v post [] more held t = tt
  more_heard w v post (h ∷ trail) more held t = (more_true w v post h.kind h more held t.0, more_heard w v post trail more held t.1)

  pub still_in_step : (w v : World) (s : Session) → IsMore w v → HeldStays w v → InStep w s → InStep v s
  still_in_step w v s more held h = record {
    entries = h.entries;
    posts = more_posts w v (posts_at s.stage) more h.posts;
    heard = more_heard w v (first (posts_at s.stage)) s.current more held h.heard;
  }

  pub still_acked : (w v : World) (ps : List Post) → IsMore w v → HeldStays w v → AllByRecursion (IsAckHeld ring w) ps → AllByRecursion (IsAckHeld ring v) ps
  still_acked w v ps more held h = all_weaker (IsAckHeld ring w) (IsAckHeld ring v) ps (λ p a. ack_later ring w v p more.met held a) h

  pub record IsGood (w : World) (st : GhostState) : Type 0 where
    pub orderly : AreOrderly ring.end w
    pub acked : AllByRecursion (IsAckHeld ring w) st.acked
    pub pending : ArePending w
    pub sessions : AllByRecursion (λ s. InStep w s.session) w.sessions

  -- a later world, in which nodes hold what they held
  pub good_later : (w v : World) (st su : GhostState) → IsGood w st → IsMore w v → HeldStays w v → AreOrderly ring.end v → ArePending v → v.sessions ≡ w.sessions → AllByRecursion (IsAckHeld ring v) su.acked → IsGood v su
  good_later w v st su h more held orderly pending same acked = record {
    orderly = orderly;
    acked = acked;
    pending = pending;
    sessions = subst (λ l. AllByRecursion (λ (s : NamedSession). InStep v s.session) l) (sym same) (all_weaker _ _ w.sessions (λ s i. still_in_step w v s.session more held i) h.sessions);
  }

  -- ---- what goes on, up to the stretch's end

  pub record WorldGoes (w : World) (st : GhostState) (v : World) (su : GhostState) : Type 0 where
    pub grows : IsMore w v
    pub still : KeepsRings w v
    pub good : IsMore v ring.end → IsRingOf ring w → IsGood w st → IsGood v su

  pub record ConfigurationGoes (c next : Configuration) : Type 0 where
    pub grows : IsMore c.world next.world
    pub still : KeepsRings c.world next.world
    pub good : IsMore next.world ring.end → IsRingOf ring c.world → IsGood c.world c.ghost_state → InStep c.world c.session → IsGood next.world next.ghost_state × InStep next.world next.session

  pub kept_ring : (w v : World) → KeepsRings w v → IsRingOf ring w → IsRingOf ring v
  kept_ring w v keeps h = keeps ring.r ring.base ring.links ring.start (known ring) h

  pub configuration_stays : (c : Configuration) → ConfigurationGoes c c
  configuration_stays c = record { grows = same_more c.world; still = λ s b l t k h. h; good = λ up h i s. (i, s) }

  pub configuration_then : (c mid next : Configuration) → ConfigurationGoes c mid → ConfigurationGoes mid next → ConfigurationGoes c next
  configuration_then c mid next f k = record {
    grows = more_then c.world mid.world next.world f.grows k.grows;
    still = λ n b l t o h. k.still n b l t o (f.still n b l t o h);
    good = λ up h i s.
        let one = f.good (more_then mid.world next.world ring.end k.grows up) h i s in
        k.good up (kept_ring c.world mid.world f.still h) one.0 one.1;
  }

  -- an ask for data by which what is put fits
  pub record AskGoes (w next : World) : Type 0 where
    pub still : IsRingOf ring next
    pub orderly : AreOrderly ring.end next
    pub held : HeldStays w next

  pub ask_goes : (w next : World) (to : Peer) (question : Ask) (given : Answer) → IsForData question → FitsIn ring.end question → IsRingOf ring w → AreOrderly ring.end w → FateOf hss_judged w to question given next → AskGoes w next
  ask_goes w next to question given for_data fits h orderly fate =
      let on = asked_holds ring.end ring.apart for_data fits orderly fate in
      record { still = kept_ring w next (asked_rings w next to question given for_data fate) h; orderly = on.0; held = on.1 }
