-- A session in hand, at whatever stage, goes to its end with memory there, or names clash there; so it goes so many steps.
use Rattle.std.proofs.Common.{◌≡◌, ◌≢◌, ◌⊎◌, inl, inr, ℕ, zero, suc, List, Option, Some, None, refl, sym, ◌∙◌, subst}
use Rattle.ivy_base.specs.Naming.{HasClash, IsCollisionFree}
use Rattle.dhash_model.specs.Signed.{hss_judged}
use Rattle.dht_ids.specs.declared.post.Ack.{Ack}
use Rattle.dht_ids.specs.declared.post.Post.{Post}
use Rattle.turn_laws.specs.Laws.{HasRoom}
use Rattle.session_model.specs.Executions.Begins.{alone as begins_alone, refreshes as begins_refreshing}
use Rattle.session_model.specs.Replies.{said_bare, said_no_memory}
use Rattle.session_model.specs.Sessions.{Over, Publishing, Refreshing, Said, Session, Stage}
use Rattle.world_model.specs.Calls.{BeginsWith, Sending}
use Rattle.world_model.specs.Steps.{RunsOut, Configuration, StepsOn}
use Rattle.world_model.specs.Steps.RunsOut.{is_over as runs_over, more as runs_more}
use Rattle.world_model.specs.Steps.StepsOn.{is_over as steps_over, more as steps_more, none as steps_none}
use Rattle.world_model.specs.World.{Participant, World, named_bytes, participant}
use Rattle.world_laws.specs.FullRuns.{IsOfBytes, IsSaidWell}
use Rattle.world_laws.specs.Laws.{HasMemoryAt}
use Rattle.world_laws.proofs.Apart.{clash_is_decided}
use Rattle.world_laws.proofs.ExistingPuts.{runs_out}
use Rattle.world_laws.proofs.ExistingSessions.{EndsSo, publishing_ends, session_ends}
use Rattle.world_laws.proofs.FullEnds.{runs_behind, sessions_end_or_clash}
use Rattle.world_laws.proofs.OneSteps.{GoesWell, apart_then, over_steps, runs_names}
use Rattle.world_laws.proofs.SessionLinesSteps.{steps_on_lead}
use Rattle.world_laws.proofs.ShownReplies.{by_message_other, said_other}

-- ---- stages

same_said : (a b : Said) → Over (Some a) ≡ Over (Some b) → a ≡ b
same_said a b e = cc e

none_or_some : (a : Said) → Over None ≡ Over (Some a) → ⊥
none_or_some a e = cc e

refreshing_or_over : (a : Option Said) → Refreshing ≡ Over a → ⊥
refreshing_or_over a e = cc e

-- a session doesn't begin because memory ran out
pub begins_memory : (w : World) (s : Sending) (t : Session) → BeginsWith w s t → HasMemoryAt t
begins_memory w s _ (begins_alone given by) xid e = said_other (said_bare given) (by_message_other s.view s.message given by) xid (same_said (said_bare given) (said_no_memory xid) e)
begins_memory w s _ (begins_refreshing xid asked asks_it) number e = refreshing_or_over (Some (said_no_memory number)) e

-- memory runs out at the end only if it was at the beginning
abbrev pub LacksBefore : Configuration → Configuration → Type 0
LacksBefore c end = (xid : ℕ) → end.session.stage ≡ Over (Some (said_no_memory xid)) → c.session.stage ≡ Over (Some (said_no_memory xid))

pub clash_or_apart : (blocks : List (List ℕ)) → HasClash blocks → IsCollisionFree blocks → ⊥
clash_or_apart blocks clash apart = clash.4 (apart clash.0 clash.1 clash.2 clash.3 clash.5)

-- ---- to the end

-- it runs out, and memory is there at the end or names clash there
abbrev pub RunsWell : ℕ → Configuration → Type 0
RunsWell r c = (end : Configuration) × RunsOut hss_judged r c.session.by c end × (LacksBefore c end ⊎ HasClash (named_bytes end.world))

module _ (r : ℕ) (c : Configuration) (well : GoesWell r c) where
  -- from where names clash it runs out, and they clash there
  clashing : (count : ℕ) (next : Configuration) → StepsOn hss_judged r c.session.by count c next → HasClash (named_bytes next.world) → RunsWell r c
  clashing count next steps clash =
      let led = steps_on_lead r c.session.by steps refl well.keeps well.hand well.ringed in
      let then_well : GoesWell r next = record { keeps = led.leaves.0; hand = led.leaves.1; ringed = led.same.replicas ∙ well.ringed } in
      let ends : EndsSo r next.world next.session = session_ends next.world next.ghost_state r then_well.keeps then_well.ringed next.session then_well.hand.goes_on in
      let runs = runs_out ends.end.execution next.ghost_state next.began in
      let end : Configuration = record { world = ends.end.world; ghost_state = runs.0; session = ends.end.session; began = next.began } in (
        end,
        runs_behind r c.session.by steps (subst (λ (n : List ℕ). RunsOut hss_judged r n next end) led.same.call.0 runs.1),
        inr (elim (clash_is_decided (named_bytes end.world)) [
          | inl apart ↦ absurd (clash_or_apart (named_bytes next.world) clash (apart_then next.world end.world (runs_names r runs.1 refl then_well) apart))
          | inr also ↦ also
        ]),
      )

  pub configuration_runs : IsOfBytes c.session → ((p : Participant) → participant c.world c.session.by ≡ Some p → HasRoom p.agent) → RunsWell r c
  configuration_runs bytes room = by c.session.stage refl
    where
      ended : (said : Option Said) → c.session.stage ≡ Over said → RunsWell r c
      ended said at = (c, runs_over said at, inl (λ xid e. e))

      publishing : (said : Option Said) (posts : List Post) (acks : List Ack) → c.session.stage ≡ Publishing said posts acks → RunsWell r c
      publishing said posts acks at =
          let ends = publishing_ends c.world c.ghost_state r well.keeps well.ringed c.session well.hand.goes_on said posts acks at in
          let runs = runs_out ends.execution c.ghost_state c.began in
          let lacks : (o : Option Said) → IsSaidWell (Publishing o posts acks) → (xid : ℕ) → Over o ≡ Over (Some (said_no_memory xid)) → ⊥ = said_well posts acks in (
            record { world = ends.world; ghost_state = runs.0; session = ends.session; began = c.began },
            runs.1,
            inl (λ xid e. absurd (lacks said (subst IsSaidWell at bytes.said) xid (sym ends.is_over ∙ e))),
          )
        where
          said_well : (posts : List Post) (acks : List Ack) (o : Option Said) → IsSaidWell (Publishing o posts acks) → (xid : ℕ) → Over o ≡ Over (Some (said_no_memory xid)) → ⊥
          said_well posts acks None h xid e = none_or_some (said_no_memory xid) e
          said_well posts acks (Some said) h xid e = h.1 xid (same_said said (said_no_memory xid) e)

      refreshing : c.session.stage ≡ Refreshing → RunsWell r c
      refreshing at = elim (sessions_end_or_clash c r well.hand.goes_on.by well.keeps well.hand well.ringed at well.hand.goes_on.is_by bytes.message (room well.hand.goes_on.by well.hand.goes_on.is_by)) [
        | inl w ↦ (w.0, w.1, inl (λ xid e. absurd (w.2 xid e)))
        | inr w ↦ clashing w.0 w.1 w.2 w.3
      ]

      by : (stage : Stage) → c.session.stage ≡ stage → RunsWell r c
      by Refreshing at = refreshing at
      by (Publishing said posts acks) at = publishing said posts acks at
      by (Over said) at = ended said at

-- ---- so many steps

-- where it has come to after so many steps: its end, or it isn't over
record ComesTo (r : ℕ) (name : List ℕ) (count : ℕ) (c end : Configuration) : Type 0 where
  mid : Configuration
  steps : StepsOn hss_judged r name count c mid
  at : (mid ≡ end) ⊎ ((o : Option Said) → mid.session.stage ≢ Over o)

module _ (r : ℕ) (name : List ℕ) where
  comes_to : (count : ℕ) {c end : Configuration} → RunsOut hss_judged r name c end → ComesTo r name count c end
  comes_to zero {c} (runs_over said over) = record { mid = c; steps = steps_none; at = inl refl }
  comes_to zero {c} (runs_more step rest) = record { mid = c; steps = steps_none; at = inr (λ o over. over_steps r step o over) }
  comes_to (suc count) {c} (runs_over said over) = record { mid = c; steps = steps_over said over; at = inl refl }
  comes_to (suc count) (runs_more step rest) = (let later = comes_to count rest in record { mid = later.mid; steps = steps_more step later.steps; at = later.at })

-- so many steps, after which memory is there or names clash
abbrev pub StepsWell : ℕ → ℕ → Configuration → Type 0
StepsWell r count c = (next : Configuration) × StepsOn hss_judged r c.session.by count c next × (LacksBefore c next ⊎ HasClash (named_bytes next.world))

pub configuration_steps : (r count : ℕ) (c : Configuration) → RunsWell r c → StepsWell r count c
configuration_steps r count c runs = by (comes_to r c.session.by count runs.1)
  where
    by : ComesTo r c.session.by count c runs.0 → StepsWell r count c
    by to = (
      to.mid,
      to.steps,
      elim to.at [
        | inl is ↦ subst (λ (n : Configuration). LacksBefore c n ⊎ HasClash (named_bytes n.world)) (sym is) runs.2
        | inr on ↦ inl (λ xid e. absurd (on (Some (said_no_memory xid)) e))
      ],
    )
