-- Lines that change no node but by asks of sessions: the world goes on so.
use Rattle.std.proofs.Common.{◌≡◌, ⊎_elim, ℕ, false, List, [], ◌∷◌, map, find, Some, refl, sym, ap, ◌∙◌, subst, Contains, is_some}
use Rattle.std.specs.Prelude.{fold}
use Rattle.std.specs.List.{AllByRecursion}
use Rattle.std.specs.Str.{bytes_eq}
use Rattle.std.proofs.lemmas.Slice.Eq.{bytes_eq-Decides}
use Rattle.dhash_model.specs.Signed.{hss_judged}
use Rattle.dht_ids.specs.declared.peer.Peer.{Peer}
use Rattle.dht_ids.specs.declared.post.Post.{Post}
use Rattle.session_model.specs.Executions.{Begins}
use Rattle.session_model.specs.Executions.Begins.{alone, refreshes}
use Rattle.session_model.specs.Sessions.{Session}
use Rattle.world_model.specs.World.{NamedSession, Participant, World, entries, participant}
use Rattle.world_model.specs.GhostState.{GhostState, began_nothing}
use Rattle.world_model.specs.Steps.{Configuration, having_made}
use Rattle.world_model.specs.Logs.{Played, Publishes, to_publish, with_new_participant}
use Rattle.world_model.specs.Calls.{BeginsWith, Sending}
use Rattle.ring_model.proofs.Lists.{all_weaker}
use Rattle.world_laws.proofs.SignedAmong.{met_stays}
use Rattle.world_laws.proofs.WholePublishing.{each_published}
use Rattle.round_laws.proofs.Nodes.{at, made_by, made_shape}
use Rattle.calm_laws.proofs.CalmNodes.{HeldStays, IsHeld, IsRing, same_rings}
use Rattle.calm_laws.proofs.CalmPuts.{entries_by}
use Rattle.calm_laws.proofs.CalmStates.{ArePending, IsMore, IsOwnPost, made_own, more_posts, more_then, same_more}
use Rattle.world_laws.proofs.NewParticipant.{found_before}
use Rattle.calm_laws.proofs.Finding.{found_last, old_or_last}
use Rattle.calm_laws.proofs.Stretches.{IsAckHeld, IsRingOf, Stretch}
use Rattle.calm_laws.proofs.States.{InStep, IsGood, ConfigurationGoes, WorldGoes, good_later, kept_ring, still_acked, still_in_step}
use Rattle.calm_laws.proofs.Configurations.{runs_go}

-- ---- lists

module _ (ring : Stretch) where
  abbrev pub LineGoes : World → GhostState → World → GhostState → Type 0
  LineGoes w st v su = WorldGoes ring w st v su

  abbrev AreInStep : World → List NamedSession → Type 0
  AreInStep w ss = AllByRecursion (λ s. InStep ring w s.session) ss

  pub goes_then : (u v w : World) (st su so : GhostState) → LineGoes u st v su → LineGoes v su w so → LineGoes u st w so
  goes_then u v w st su so f g = record {
    grows = more_then u v w f.grows g.grows;
    still = λ n b l t k h. g.still n b l t k (f.still n b l t k h);
    good = λ up h k. g.good up (kept_ring ring u v f.still h) (f.good (more_then v w ring.end g.grows up) h k);
  }

  pub goes_nowhere : (w : World) (st : GhostState) → LineGoes w st w st
  goes_nowhere w st = record { grows = same_more w; still = λ n b l t k h. h; good = λ up h g. g }

  -- ---- lines that change no node and no participant

  held_same : (w v : World) → v.nodes ≡ w.nodes → HeldStays w v
  held_same w v n key kind least p i = subst (λ ns. IsHeld (record v { nodes = ns }) key kind least p) (sym n) i

  changed_more : (w v : World) → v.participants ≡ w.participants → ((b : List ℕ) → Contains w.met b → Contains v.met b) → IsMore w v
  changed_more w v ps grows = record { met = grows; left = λ b h. (h.0, h.1, subst (λ qs. find (λ (x : Participant). bytes_eq x.name h.0) qs ≡ Some h.1) (sym ps) h.2, h.3) }

  pub changes_go : (w v : World) (st su : GhostState) → v.nodes ≡ w.nodes → v.lost ≡ w.lost → v.asked ≡ w.asked → v.replicas ≡ w.replicas → v.participants ≡ w.participants → ((b : List ℕ) → Contains w.met b → Contains v.met b)
      → (IsRingOf ring w → AreInStep w w.sessions → AreInStep w v.sessions) → su.acked ≡ st.acked → LineGoes w st v su
  changes_go w v st su n l a o ps grows sess e = record {
    grows = more;
    still = same_rings w v n l a o;
    good = λ up h g. record {
      orderly = λ id m f. g.orderly id m (subst (λ ns. at ns id ≡ Some m) n f);
      acked = subst (AllByRecursion (IsAckHeld ring v)) (sym e) (still_acked ring w v st.acked more (held_same w v n) g.acked);
      pending = λ m q is. more_posts w v q.agent.pending more (g.pending m q (subst (λ qs. find (λ (x : Participant). bytes_eq x.name m) qs ≡ Some q) ps is));
      sessions = all_weaker _ _ v.sessions (λ s i. still_in_step ring w v s.session more (held_same w v n) i) (sess h g.sessions);
    };
  }
    where
      more : IsMore w v
      more = changed_more w v ps grows

  -- ---- a session within a line

  pub entries_are : (w : World) → IsRingOf ring w → entries w ≡ entries_by ring.base
  entries_are w h = ap (fold _ []) (made_shape w.nodes ∙ ap made_by h.within.shapes)

  -- from a world to a configuration, and from the configuration at its end to a world
  pub configuration_goes : (w : World) (st : GhostState) (c end : Configuration) → c.world ≡ w → c.ghost_state.acked ≡ st.acked → ConfigurationGoes ring c end → (IsRingOf ring w → IsGood ring w st → InStep ring w c.session) → LineGoes w st end.world end.ghost_state
  configuration_goes w st c end e a g step = record {
    grows = subst (λ v. IsMore v end.world) e g.grows;
    still = λ n b l t k h. g.still n b l t k (subst (IsRing n b l t) (sym e) h);
    good = λ up h k. (g.good up (subst (IsRingOf ring) (sym e) h)
        (subst (λ v. IsGood ring v c.ghost_state) (sym e) (record { orderly = k.orderly; acked = subst (AllByRecursion (IsAckHeld ring w)) (sym a) k.acked; pending = k.pending; sessions = k.sessions }))
        (subst (λ v. InStep ring v c.session) (sym e) (step h k))).0;
  }

  -- the same, where the line changes the configuration's world then, but none of its nodes and participants
  pub configuration_goes_to : (w : World) (st : GhostState) (c end : Configuration) (v : World) (su : GhostState) → c.world ≡ w → c.ghost_state.acked ≡ st.acked → ConfigurationGoes ring c end → (IsRingOf ring w → IsGood ring w st → InStep ring w c.session)
      → v.nodes ≡ end.world.nodes → v.lost ≡ end.world.lost → v.asked ≡ end.world.asked → v.replicas ≡ end.world.replicas → v.participants ≡ end.world.participants → ((b : List ℕ) → Contains end.world.met b → Contains v.met b)
      → (AreInStep end.world end.world.sessions → InStep ring end.world end.session → AreInStep end.world v.sessions) → su.acked ≡ end.ghost_state.acked → LineGoes w st v su
  configuration_goes_to w st c end v su e a g step n l k o ps grows sess f = record {
    grows = more_then w end.world v (configuration_goes w st c end e a g step).grows (changed_more end.world v ps grows);
    still = λ m b x t y h. same_rings end.world v n l k o m b x t y ((configuration_goes w st c end e a g step).still m b x t y h);
    good = λ up h good.
        let between = changed_more end.world v ps grows in
        let up_end = more_then end.world v ring.end between up in
        let both = g.good up_end (subst (IsRingOf ring) (sym e) h)
        (subst (λ x. IsGood ring x c.ghost_state) (sym e) (record { orderly = good.orderly; acked = subst (AllByRecursion (IsAckHeld ring w)) (sym a) good.acked; pending = good.pending; sessions = good.sessions }))
        (subst (λ x. InStep ring x c.session) (sym e) (step h good)) in
        (changes_go end.world v end.ghost_state su n l k o ps grows (λ i ss. sess ss both.1) f).good up (kept_ring ring c.world end.world g.still (subst (IsRingOf ring) (sym e) h)) both.0;
  }

  pub publishes_go : (w : Played) (p : Participant) (next : Played) → participant w.0 p.name ≡ Some p → Publishes hss_judged ring.r w p next → LineGoes w.0 w.1 next.0 next.1
  publishes_go w p next is published =
      subst (λ (v : Played). LineGoes w.0 w.1 v.0 v.1) (sym published.2)
      (configuration_goes w.0 w.1 (record { world = w.0; ghost_state = w.1; session = to_publish w.0 p; began = began_nothing }) published.0 refl refl (runs_go ring p.name published.1)
      (λ h g. record { entries = entries_are w.0 h; posts = each_published (IsOwnPost w.0) p.agent.pending (g.pending p.name p is); heard = tt }))

  begun_step : {by message : List ℕ} {es : List Peer} {standing : _} {t : Session} (w : World) → es ≡ entries_by ring.base → Begins by message es standing t → InStep ring w t
  begun_step w e (alone given is) = record { entries = e; posts = tt; heard = tt }
  begun_step w e (refreshes xid asked is) = record { entries = e; posts = tt; heard = tt }

  pub sent_step : (w : World) (s : Sending) (t : Session) → IsRingOf ring w → BeginsWith w s t → InStep ring w t
  sent_step w s t h begins = begun_step w (entries_are w h) begins

  -- ---- a participant comes

  pub new_participant_found : (w : Played) (p : Participant) → is_some (participant w.0 p.name) ≡ false → participant (with_new_participant w p).0 p.name ≡ Some p
  new_participant_found w p new = found_last (λ (x : Participant). bytes_eq x.name p.name) w.0.participants p new ((bytes_eq-Decides p.name p.name).1 refl)

  pub new_participant_goes : (w : Played) (p : Participant) (o : Participant) → p ≡ having_made o p.agent.pending → is_some (participant w.0 p.name) ≡ false → LineGoes w.0 w.1 (with_new_participant w p).0 (with_new_participant w p).1
  new_participant_goes w p o is new = record {
    grows = more;
    still = same_rings w.0 v refl refl refl refl;
    good = λ up h g. good_later ring w.0 v w.1 (with_new_participant w p).1 g more (λ key kind least m i. i) g.orderly (pending g.pending) refl (still_acked ring w.0 v w.1.acked more (λ key kind least m i. i) g.acked);
  }
    where
      v : World
      v = (with_new_participant w p).0

      more : IsMore w.0 v
      more = record {
        met = λ b h. met_stays w.0.met (map (λ (x : Post). x.bytes) p.agent.pending) b h;
        left = λ b h. (h.0, h.1, found_before (λ (x : Participant). bytes_eq x.name h.0) w.0.participants (p ∷ []) h.1 h.2, h.3);
      }

      found : participant v p.name ≡ Some p
      found = new_participant_found w p new

      own : AllByRecursion (IsOwnPost v) p.agent.pending
      own = made_own v p.name o w.0.met p.agent.pending (found ∙ ap (λ x. Some x) is) refl

      pending : ArePending w.0 → ArePending v
      pending h m q at = ⊎_elim
          (λ old. more_posts w.0 v q.agent.pending more (h m q old))
          (λ e. subst (λ (x : Participant). AllByRecursion (IsOwnPost v) x.agent.pending) e own)
          (old_or_last (λ (x : Participant). bytes_eq x.name m) w.0.participants p q at)
