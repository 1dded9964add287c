-- Lines that need no session, in the world with its open sessions: these stay shown.
use Rattle.std.proofs.Common.{◌≡◌, ℕ, false, ◌&&◌, ◌||◌, List, [], ◌∷◌, Option, Some, None, Ok, Err, refl, sym, ap, subst, nat_le}
use Rattle.std.specs.Prelude.{IfOk, ◌==◌, is_some, not}
use Rattle.std.specs.declared.result.Result.{Result}
use Rattle.script_driver.specs.declared.machine.Taken.{Taken}
use Rattle.script_driver.specs.declared.machine.Taken.TheVariants as taken
use Rattle.script_driver.specs.Run.{Outcome, Goes, Ends, Refuses, Exceeds}
use Rattle.world_model.specs.Logs.{Played, beside}
use Rattle.world_model.specs.Ring.{RingLine}
use Rattle.world_model.specs.Ring.RingLine.{exceeds, makes, refused}
use Rattle.world_model.specs.Step.{Untold}
use Rattle.world_model.specs.World.{World, NamedSession}
use Rattle.world_laws.specs.Invariant.{HasRing, Invariant}
use Rattle.script_world.specs.PartsState.{DoesIn, PartsState, PlaysIn}
use Rattle.script_machine.specs.WorldState.{AreOpenAs, KeepsAll, LineDoes, OpenState, WorldState}
use Rattle.script_machine.proofs.Opened.{moved}
use Rattle.script_machine.proofs.StayingRing.{Stays, StaysPlayed}

-- the world in code with these parts and these open sessions
abbrev pub state : PartsState → List OpenState → WorldState
state parts sessions = record { parts = parts; sessions = sessions }

module _ (opened : List OpenState) (before after : PartsState) where
  -- a line that the ghost state doesn't tell of
  module _ (Does : World → Outcome World → Type 0) where
    abbrev Line : Played → Outcome Played → Type 0
    Line w outcome = Untold w (Does w.0) outcome

    -- wherever its open sessions are shown in the world that it goes on to
    abbrev pub KeepsOpen : Type 0
    KeepsOpen = (w : Played) (next : World) (output : List ℕ) → KeepsAll w → Does w.0 (Goes next output) → next.sessions ≡ w.0.sessions → AreOpenAs w.0.replicas w.0.sessions opened → AreOpenAs next.replicas next.sessions opened

    untold_in : (how : Taken) → KeepsOpen → DoesIn Does before how after → LineDoes Line (state before opened) how (state after opened)
    untold_in (taken.Went output) keep does w shows keeps =
        let goes = does w.0 shows.parts in
        ((goes.0, w.1), (Goes goes.0 output.items, goes.1, refl), record { parts = goes.2.0; sessions = keep w goes.0 output.items keeps goes.1 goes.2.1 shows.sessions })
    untold_in taken.Ended keep does w shows keeps = (Ends, does w.0 shows.parts, refl)
    untold_in taken.Refused keep does w shows keeps = (Refuses, does w.0 shows.parts, refl)
    untold_in taken.Exceeded keep does w shows keeps = (Exceeds, does w.0 shows.parts, refl)

    stays_keep : ((w : World) (outcome : Outcome World) → Does w outcome → Stays w.replicas outcome) → KeepsOpen
    stays_keep stays w next output keeps does same are = moved next.replicas w.0.replicas next.sessions w.0.sessions opened (stays w.0 (Goes next output) does) same are

    pub untold_line : {E : Type 0} (result : Result Taken E) → ((w : World) (outcome : Outcome World) → Does w outcome → Stays w.replicas outcome) → IfOk result (λ how. DoesIn Does before how after)
        → IfOk result (λ how. LineDoes Line (state before opened) how (state after opened))
    untold_line (Ok how) stays does = untold_in how (stays_keep stays) does
    untold_line (Err e) stays does = tt

  -- a line that does what a function of the world says
  module _ (line : World → Outcome World) where
    abbrev ByLine : Played → Outcome Played → Type 0
    ByLine w outcome = outcome ≡ beside w.1 (line w.0)

    pub function_in : (how : Taken) → ((w : World) → Stays w.replicas (line w)) → DoesIn (λ w outcome. outcome ≡ line w) before how after → LineDoes ByLine (state before opened) how (state after opened)
    function_in (taken.Went output) stays does w shows keeps =
        let goes = does w.0 shows.parts in
        ((goes.0, w.1), ap (beside w.1) goes.1, record { parts = goes.2.0; sessions = moved goes.0.replicas w.0.replicas goes.0.sessions w.0.sessions opened (subst (Stays w.0.replicas) (sym goes.1) (stays w.0)) goes.2.1 shows.sessions })
    function_in taken.Ended stays does w shows keeps = ap (beside w.1) (does w.0 shows.parts)
    function_in taken.Refused stays does w shows keeps = ap (beside w.1) (does w.0 shows.parts)
    function_in taken.Exceeded stays does w shows keeps = ap (beside w.1) (does w.0 shows.parts)

    pub function_line : {E : Type 0} (result : Result Taken E) → ((w : World) → Stays w.replicas (line w)) → IfOk result (λ how. DoesIn (λ w outcome. outcome ≡ line w) before how after)
        → IfOk result (λ how. LineDoes ByLine (state before opened) how (state after opened))
    function_line (Ok how) stays does = function_in how stays does
    function_line (Err e) stays does = tt

  -- a line of worlds with their ghost states
  module _ (Does : Played → Outcome Played → Type 0) where
    played_in : (how : Taken) → ((w : Played) (outcome : Outcome Played) → Does w outcome → StaysPlayed w.0.replicas outcome) → PlaysIn Does before how after → LineDoes Does (state before opened) how (state after opened)
    played_in (taken.Went output) stays does w shows keeps =
        let goes = does w shows.parts in
        (goes.0, goes.1, record { parts = goes.2.0; sessions = moved goes.0.0.replicas w.0.replicas goes.0.0.sessions w.0.sessions opened (stays w (Goes goes.0 output.items) goes.1) goes.2.1 shows.sessions })
    played_in taken.Ended stays does w shows keeps = does w shows.parts
    played_in taken.Refused stays does w shows keeps = does w shows.parts
    played_in taken.Exceeded stays does w shows keeps = does w shows.parts

    pub played_line : {E : Type 0} (result : Result Taken E) → ((w : Played) (outcome : Outcome Played) → Does w outcome → StaysPlayed w.0.replicas outcome) → IfOk result (λ how. PlaysIn Does before how after)
        → IfOk result (λ how. LineDoes Does (state before opened) how (state after opened))
    played_line (Ok how) stays does = played_in how stays does
    played_line (Err e) stays does = tt

  -- ---- a ring that is made: before it there are no sessions

  none_open : (replicas other : Option ℕ) (sessions : List NamedSession) → sessions ≡ [] → AreOpenAs replicas sessions opened → AreOpenAs other sessions opened
  none_open replicas other sessions none are = rw none (by opened (subst (λ ss. AreOpenAs replicas ss opened) none are))
    where
      by : (os : List OpenState) → AreOpenAs replicas [] os → AreOpenAs other [] os
      by [] h = tt
      by (o ∷ os) h = h

  no_ring : (w : Played) (o : Option ℕ) (count r : ℕ) → HasRing w.0 o → (is_some o || not (nat_le 1 r && nat_le r 8) || count == 0) ≡ false → w.0.sessions ≡ []
  no_ring w None count r ring h = ring.2
  no_ring w (Some s) count r ring h = cc h

  -- where a ring is made there were none
  abbrev NoneBefore : Played → Outcome World → Type 0
  NoneBefore w (Goes next output) = w.0.sessions ≡ []
  NoneBefore w o = Unit {0}

  none_before : (w : Played) (count r : ℕ) (outcome : Outcome World) → Invariant w → RingLine w.0 count r outcome → NoneBefore w outcome
  none_before w count r _ keeps (refused h) = tt
  none_before w count r _ keeps (exceeds h g) = tt
  none_before w count r _ keeps (makes nodes h g settled) = no_ring w w.0.replicas count r keeps.ring h

  ring_keeps : (count r : ℕ) → KeepsOpen (λ w outcome. RingLine w count r outcome)
  ring_keeps count r w next output keeps line same are =
      subst (λ ss. AreOpenAs next.replicas ss opened) (sym same) (none_open w.0.replicas next.replicas w.0.sessions (none_before w count r (Goes next output) keeps.0 line) are)

  pub ring_line : {E : Type 0} (result : Result Taken E) (count r : ℕ) → IfOk result (λ how. DoesIn (λ w outcome. RingLine w count r outcome) before how after)
      → IfOk result (λ how. LineDoes (λ w outcome. Untold w (RingLine w.0 count r) outcome) (state before opened) how (state after opened))
  ring_line (Ok how) count r does = untold_in (λ w outcome. RingLine w count r outcome) how (ring_keeps count r) does
  ring_line (Err e) count r does = tt
