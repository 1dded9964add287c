-- Where a refresh is done and its turn exists, the next step is there: the turn is had, or it was refused and the session begins again.
use Rattle.std.proofs.Common.{◌≡◌, inl, inr, ℕ, ◌+◌, Bool, List, ◌++◌, Option, Some, None, refl, sym, subst, arith}
use Rattle.std.proofs.lemmas.Bool.{cases_lt}
use Rattle.ivy_base.specs.declared.operation.Moment.{Moment}
use Rattle.ivy_base.specs.Naming.{IsCollisionFree}
use Rattle.dhash_model.specs.Signed.{hss_judged}
use Rattle.log_model.proofs.Lists.{each}
use Rattle.log_model.specs.Record.{Record}
use Rattle.log_model.specs.View.{View}
use Rattle.nfs_model.specs.declared.replies.Reply.{Reply}
use Rattle.turn_model.specs.Basis.{Holding}
use Rattle.turn_model.specs.Turn.{Asked}
use Rattle.agent_model.specs.Standing.{Refresh, begun_again_in}
use Rattle.agent_model.specs.Turning.{Answered, BelowTide, Behind, IsByDefinition, TurnEnd, Turns}
use Rattle.agent_model.specs.Turning.Turns.{behind, below, answers as turn_answers}
use Rattle.session_model.specs.Executions.{grounds_of, HasRefreshed, IsRefusal, answered_by_turn, anew, ended}
use Rattle.session_model.specs.Executions.TakesTurn.{answers, begins_again, gives_up}
use Rattle.session_model.specs.Refreshing.{Note}
use Rattle.session_model.specs.Replies.{Asks, said_no_memory, said_of}
use Rattle.session_model.specs.Sessions.{Cache, Refreshing, Session, TakesAll, publishing}
use Rattle.world_model.specs.Agents.{HssAgent, HssKept, hss_signing}
use Rattle.world_model.specs.GhostState.{known_of}
use Rattle.world_model.specs.Steps.{Configuration, Steps, turning_of, with_cache}
use Rattle.world_model.specs.Steps.Acts.{turns, is_refused}
use Rattle.world_model.specs.Steps.Steps.{acts}
use Rattle.world_model.specs.World.{Participant, named_bytes, participant}
use Rattle.world_laws.specs.Invariant.{IsInHand, Invariant}
use Rattle.world_laws.specs.Laws.{DoneRefreshesStep, HasMemoryAt}
use Rattle.world_laws.proofs.Bringing.{found_named, its_view, refresh_may_turn}
use Rattle.world_laws.proofs.EachStep.{all_some}
use Rattle.world_laws.proofs.Frames.{found_placed, same_keys}
use Rattle.world_laws.proofs.FullGets.{refreshing_has_memory}
use Rattle.world_laws.proofs.SecondTurns.{second_turn_is_answered}
use Rattle.world_laws.proofs.Taking.{HasTaken, takes_some_so}
use Rattle.world_laws.proofs.TakingOn.{taking_keeps}

same_reply : (a b : Reply) (n m : ℕ) → Answered a n ≡ Answered b m → a ≡ b
same_reply a b n m e = cc e

-- what was answered is what the definition says
record IsDefined (given : Refresh) (a : HssAgent) (view : View) (failing : Bool) (asked : Asked) (now : Moment) (reply : Reply) : Type 0 where
  h : Holding
  written : List Record
  defined : IsByDefinition hss_signing given (record { agent = a; view = view; now = now; fails = failing }) asked h written reply

is_defined : {given : Refresh} {a after : HssAgent} {view : View} {failing : Bool} {asked : Asked} {now : Moment} {end : TurnEnd} {saving : Option HssKept} (reply : Reply) (applied : ℕ) → Turns hss_signing given (record { agent = a; view = view; now = now; fails = failing }) asked end after saving
    → end ≡ Answered reply applied → IsDefined given a view failing asked now reply
is_defined reply applied (behind far) is = absurd (cc is)
is_defined reply applied (below near low) is = absurd (cc is)
is_defined {given = given} {a = a} {view = view} {failing = failing} {asked = asked} {now = now} reply applied (turn_answers h written answer after saving near over basis may becomes defined) is =
    subst (IsDefined given a view failing asked now) (same_reply answer reply _ applied is) (record { h = h; written = written; defined = defined })

module _ (c : Configuration) (r : ℕ) (p : Participant) (taken : Session) (cache : Cache) (notes : List Note) (given : Refresh) (xid : ℕ) (asked : Asked) (keeps : Invariant (c.world, c.ghost_state)) (hand : IsInHand c r) (ringed : c.world.replicas ≡ Some r)
    (apart : IsCollisionFree (named_bytes c.world)) (is_p : participant c.world c.session.by ≡ Some p) (all : TakesAll hss_judged r c.session p.cache taken cache) (done : HasRefreshed taken notes given)
    (asks : Asks taken.standing.view taken.message xid asked) where
  abbrev then_p : Participant
  then_p = record p { cache = cache }

  abbrev then_c : Configuration
  then_c = with_cache hss_judged r c p taken cache

  then_so : Invariant (then_c.world, then_c.ghost_state) × IsInHand then_c r
  then_so = taking_keeps c r p taken cache keeps hand is_p (all_some all)

  has : HasTaken c.world.met c.session taken cache
  has = takes_some_so c.world.met (all_some all) hand.goes_on.pending (each _ c.world.participants p keeps.met.cached (found_named c.world.participants c.session.by p is_p).0)

  found : participant then_c.world taken.by ≡ Some then_p
  found = subst (λ (u : Session). participant then_c.world u.by ≡ Some then_p) (sym has.is) (found_placed c.world keeps.apart c.session.by p is_p then_p refl)

  then_apart : IsCollisionFree (named_bytes then_c.world)
  then_apart = subst (λ (keys : List (List ℕ)). IsCollisionFree (c.world.met ++ keys)) (sym (same_keys c.world keeps.apart c.session.by p is_p then_p refl refl)) apart

  in_view : then_p.agent.view ≡ Some taken.standing.view
  in_view = its_view then_c r then_so.1 then_p found

  -- the session publishes what its turn's agent has to
  abbrev pub Had : Reply → HssAgent → Type 0
  Had reply after = (next : Configuration) × Steps hss_judged r c.session.by c next × HasMemoryAt next.session × (next.session.stage ≡ publishing (Some (said_of xid reply)) after.pending)

  -- it begins again, for the first time
  abbrev pub Anew : Type 0
  Anew = (next : Configuration) × Steps hss_judged r c.session.by c next × HasMemoryAt next.session × (next.session.stage ≡ Refreshing) × (taken.starts ≡ 0) × (next.session.starts ≡ taken.starts + 1)

  pub had : (reply : Reply) (applied : ℕ) (after : HssAgent) (saving : Option HssKept) → Turns hss_signing given (turning_of c.world p taken.standing.view) asked (Answered reply applied) after saving → Had reply after
  had reply applied after saving turn =
      let may = refresh_may_turn then_c then_p r notes given then_so.0 then_apart then_so.1 found done in
      let d = is_defined reply applied turn refl in
      let of = d.defined (grounds_of (named_bytes then_c.world) taken c.began.knew) (known_of c.ghost_state p.name) then_apart may.0 may.1 in (
        _,
        acts p taken cache _ is_p all (turns taken.standing.view reply applied after saving (answered_by_turn taken (said_of xid reply) notes after.pending) of.turned in_view
            (answers notes given xid asked reply applied after saving done asks turn) (sym of.replies)
            (λ tells. record { xid = xid; asked = asked; asks = asks; notes = notes; given = given; refreshed = done; taken = of.taken; is_turn = of.is_turn })),
        λ other e. cc e,
        refl,
      )

  pub refused : (end : TurnEnd) (after : HssAgent) (saving : Option HssKept) → Turns hss_signing given (turning_of c.world p taken.standing.view) asked end after saving → IsRefusal end → Anew
  refused end after saving turn refusal = elim (cases_lt taken.starts 2) [
    | inl few ↦ (
      _,
      acts p taken cache _ is_p all (is_refused taken.standing.view end after saving (anew taken (begun_again_in hss_signing after taken.standing.view)) in_view refusal (begins_again notes given xid asked end after saving done asks turn refusal few)),
      refreshing_has_memory (anew taken (begun_again_in hss_signing after taken.standing.view)) done.0,
      done.0,
      second_turn_is_answered then_c then_p r taken.standing.view end after saving (anew taken (begun_again_in hss_signing after taken.standing.view)) then_so.0 then_apart ringed then_so.1 found in_view
          (begins_again notes given xid asked end after saving done asks turn refusal few) refusal,
      refl,
    )
    | inr many ↦ (
        let first : taken.starts ≡ 0 = second_turn_is_answered then_c then_p r taken.standing.view end after saving (ended taken (said_no_memory xid) notes None) then_so.0 then_apart ringed then_so.1 found in_view
        (gives_up notes given xid asked end after saving done asks turn refusal many) refusal in
        absurd (omega (arith, first, many))
        )
  ]

pub done_refreshes_step : DoneRefreshesStep
done_refreshes_step c r p taken cache notes given xid asked Behind after saving keeps hand ringed apart is_p all done asks turn =
    let n = refused c r p taken cache notes given xid asked keeps hand ringed apart is_p all done asks Behind after saving turn tt in (n.0, n.1, n.2)
done_refreshes_step c r p taken cache notes given xid asked BelowTide after saving keeps hand ringed apart is_p all done asks turn =
    let n = refused c r p taken cache notes given xid asked keeps hand ringed apart is_p all done asks BelowTide after saving turn tt in (n.0, n.1, n.2)
done_refreshes_step c r p taken cache notes given xid asked (Answered reply applied) after saving keeps hand ringed apart is_p all done asks turn =
    let n = had c r p taken cache notes given xid asked keeps hand ringed apart is_p all done asks reply applied after saving turn in (n.0, n.1, n.2)
