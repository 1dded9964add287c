-- Where memory is there, a session that refreshes goes to its end, up to a clash of names, or to a turn that doesn't exist.
use Rattle.std.proofs.Common.{◌≡◌, inl, inr, ℕ, ◌+◌, List, [], map, Option, Some, refl, sym, ap, ◌∙◌, subst, arith, Contains}
use Rattle.std.specs.List.{AllByRecursion}
use Rattle.ivy_base.specs.Naming.{IsCollisionFree}
use Rattle.dhash_model.specs.Signed.{hss_judged}
use Rattle.log_model.proofs.Lists.{each}
use Rattle.nfs_model.specs.declared.replies.Reply.{Reply}
use Rattle.dht_ids.specs.declared.ask.Heard.{Heard}
use Rattle.dht_ids.specs.declared.post.Post.{Post}
use Rattle.ring_model.proofs.Lists.{all_weaker}
use Rattle.agent_model.specs.Standing.{Refresh}
use Rattle.agent_model.specs.Turning.{Answered, Behind, BelowTide, TurnEnd, Turns}
use Rattle.session_model.specs.Executions.{HasRefreshed}
use Rattle.session_model.specs.Refreshing.{Note}
use Rattle.session_model.specs.Replies.{said_of}
use Rattle.session_model.specs.Sessions.{Cache, Refreshing, Session, TakesAll, in_publishing_order, publishing}
use Rattle.world_model.specs.Agents.{HssAgent, HssKept, hss_signing}
use Rattle.world_model.specs.Steps.{Configuration, Steps, StepsOn, turning_of}
use Rattle.world_model.specs.Steps.RunsOut.{is_over}
use Rattle.world_model.specs.World.{Participant, named_bytes, participant, peer_of, with_participant}
use Rattle.world_laws.specs.Invariant.{IsAtStage, IsInHand, IsRefreshing, Invariant}
use Rattle.world_laws.specs.Laws.{GoesFully, HasMemoryAt, RefreshIsOver, SessionsGoFully}
use Rattle.world_laws.specs.Laws.GoesFully.{ends, clashes, goes_on, has_turn}
use Rattle.world_laws.specs.Laws.RefreshIsOver.{is_done, has_failed}
use Rattle.world_laws.proofs.Apart.{clash_is_decided}
use Rattle.world_laws.proofs.Bringing.{found_named}
use Rattle.world_laws.proofs.EachStep.{all_some}
use Rattle.world_laws.proofs.ExistingFates.{names_made, serves_so}
use Rattle.world_laws.proofs.ExistingPlans.{Names}
use Rattle.world_laws.proofs.ExistingPuts.{Ended, all_on, runs_out}
use Rattle.world_laws.proofs.FullGets.{reply_has_memory}
use Rattle.world_laws.proofs.FullRuns.{refresh_out}
use Rattle.world_laws.proofs.FullTurns.{had, refused}
use Rattle.world_laws.proofs.SessionLinesSteps.{step_leads, steps_on_lead}
use Rattle.world_laws.proofs.Taking.{HasTaken, takes_some_so}
use Rattle.world_laws.proofs.TakingOn.{taking_keeps}

module _ (r : ℕ) (name : List ℕ) where
  record IsWell (c : Configuration) : Type 0 where
    keeps : Invariant (c.world, c.ghost_state)
    hand : IsInHand c r
    ringed : c.world.replicas ≡ Some r
    named : c.session.by ≡ name

  by_name : {c next : Configuration} → IsWell c → Steps hss_judged r c.session.by c next → Steps hss_judged r name c next
  by_name {c} {next} well step = subst (λ (n : List ℕ). Steps hss_judged r n c next) well.named step

  well_then : (c next : Configuration) → IsWell c → Steps hss_judged r c.session.by c next → IsWell next
  well_then c next well step =
      let led = step_leads r c.session.by c next refl well.keeps well.hand well.ringed step in
      record { keeps = led.leaves.0; hand = led.leaves.1; ringed = led.same.replicas ∙ well.ringed; named = led.same.call.0 ∙ well.named }

  well_on : {count : ℕ} (c next : Configuration) → IsWell c → StepsOn hss_judged r c.session.by count c next → IsWell next
  well_on c next well steps =
      let led = steps_on_lead r c.session.by steps refl well.keeps well.hand well.ringed in
      record { keeps = led.leaves.0; hand = led.leaves.1; ringed = led.same.replicas ∙ well.ringed; named = led.same.call.0 ∙ well.named }

  -- after its turn the session publishes to the end
  publishes : (c : Configuration) → IsWell c → (xid : ℕ) (reply : Reply) (pending : List Post) → c.session.stage ≡ publishing (Some (said_of xid reply)) pending → GoesFully r name c
  publishes c well xid reply pending at =
      let g = well.hand.goes_on in
      let h = subst (IsAtStage c.world r c.session) at g.stage in
      let named : AllByRecursion (λ (x : Heard). Names (Contains (map peer_of c.world.nodes)) x.got) c.session.current =
      all_weaker _ _ c.session.current (λ (x : Heard) i. names_made c.world (map peer_of c.world.nodes) refl x.got i) g.heard in
      let end : Ended r c.session.by c.world c.session (Some (said_of xid reply)) =
      all_on r (map peer_of c.world.nodes) c.world.met c.session.by g.by (in_publishing_order pending) c.world c.session (Some (said_of xid reply)) []
      (record { serves = serves_so c.world c.ghost_state r well.keeps well.ringed; apart = well.keeps.apart; is_by = g.is_by }) at g.some_entry g.entries named h.1 h.2 in
      let runs = runs_out end.execution c.ghost_state c.began in
      subst (λ (n : List ℕ). GoesFully r n c) well.named (ends runs.1 (reply_has_memory end.session xid reply end.is_over))

  -- from where the refresh is done
  module _ (c : Configuration) (well : IsWell c) (p : Participant) (taken : Session) (cache : Cache) (notes : List Note) (given : Refresh) (is_p : participant c.world c.session.by ≡ Some p) (all : TakesAll hss_judged r c.session p.cache taken cache)
      (done : HasRefreshed taken notes given) (later : (next : Configuration) → IsWell next → next.session.stage ≡ Refreshing → c.session.starts ≡ 0 → next.session.starts ≡ 1 → GoesFully r name next) where
    has : HasTaken c.world.met c.session taken cache
    has = takes_some_so c.world.met (all_some all) well.hand.goes_on.pending (each _ c.world.participants p well.keeps.met.cached (found_named c.world.participants c.session.by p is_p).0)

    same_starts : taken.starts ≡ c.session.starts
    same_starts = ap (λ (x : Session). x.starts) has.is

    on : IsRefreshing r taken
    on = subst (IsAtStage (with_participant c.world (record p { cache = cache })) r taken) done.0 (taking_keeps c r p taken cache well.keeps well.hand is_p (all_some all)).1.goes_on.stage

    module _ (apart : IsCollisionFree (named_bytes c.world)) where
      turned : (end : TurnEnd) (after : HssAgent) (saving : Option HssKept) → Turns hss_signing given (turning_of c.world p taken.standing.view) on.asked end after saving
          → (next : Configuration) × Steps hss_judged r name c next × HasMemoryAt next.session × GoesFully r name next
      turned (Answered reply applied) after saving turn =
          let n = had c r p taken cache notes given on.xid on.asked well.keeps well.hand well.ringed apart is_p all done on.asks reply applied after saving turn in
          (n.0, by_name well n.1, n.2, publishes n.0 (well_then c n.0 well n.1) on.xid reply after.pending n.3)
      turned Behind after saving turn =
          let n = refused c r p taken cache notes given on.xid on.asked well.keeps well.hand well.ringed apart is_p all done on.asks Behind after saving turn tt in
          (n.0, by_name well n.1, n.2, later n.0 (well_then c n.0 well n.1) n.3 (sym same_starts ∙ n.4) (n.5 ∙ ap (λ (k : ℕ). k + 1) n.4))
      turned BelowTide after saving turn =
          let n = refused c r p taken cache notes given on.xid on.asked well.keeps well.hand well.ringed apart is_p all done on.asks BelowTide after saving turn tt in
          (n.0, by_name well n.1, n.2, later n.0 (well_then c n.0 well n.1) n.3 (sym same_starts ∙ n.4) (n.5 ∙ ap (λ (k : ℕ). k + 1) n.4))

    done_on : GoesFully r name c
    done_on = elim (clash_is_decided (named_bytes c.world)) [
      | inr clash ↦ clashes clash
      | inl apart ↦ has_turn p taken cache notes given on.xid on.asked (subst (λ (n : List ℕ). participant c.world n ≡ Some p) well.named is_p) all done on.asks (λ end after saving turn. (turned apart end after saving turn).0)
          (λ end after saving turn. let t = turned apart end after saving turn in (t.1, t.2)) (λ end after saving turn. (turned apart end after saving turn).3)
    ]

  refreshes_on : (c : Configuration) → IsWell c → c.session.stage ≡ Refreshing → ((next : Configuration) → IsWell next → next.session.stage ≡ Refreshing → c.session.starts ≡ 0 → next.session.starts ≡ 1 → GoesFully r name next) → GoesFully r name c
  refreshes_on c well refreshing later =
      let out = refresh_out c r well.keeps well.hand well.ringed refreshing in
      goes_on out.count (subst (λ (n : List ℕ). StepsOn hss_judged r n out.count c out.next) well.named out.steps) out.memory (by out.next (well_on c out.next well out.steps) out.memory out.over out.same_starts)
    where
      by : (next : Configuration) → IsWell next → HasMemoryAt next.session → RefreshIsOver r next → next.session.starts ≡ c.session.starts → GoesFully r name next
      by next well_next memory (has_failed said miss at missed) same = ends (is_over (Some said) at) memory
      by next well_next memory (is_done p taken cache notes given is_p all done) same = done_on next well_next p taken cache notes given is_p all done (λ then_c then_well at none one. later then_c then_well at (sym same ∙ none) one)

pub sessions_go_fully : SessionsGoFully
sessions_go_fully c r keeps hand ringed refreshing = refreshes_on r c.session.by c (record { keeps = keeps; hand = hand; ringed = ringed; named = refl }) refreshing
    (λ next well at none one. refreshes_on r c.session.by next well at (λ other also is first second. absurd (omega (arith, one, first))))
