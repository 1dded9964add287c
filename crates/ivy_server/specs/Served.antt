-- What serving a link says: of the source and the sink, the mesh, the clock, and whoever takes the turns.
use Rattle.std.specs.Prelude.{◌≡◌, ℕ, ◌≤◌, List, [], ◌∷◌, ◌++◌, Option, option_map}
use Rattle.ivy_base.specs.declared.operation.Moment.{Moment}
use Rattle.ivy_io.specs.Causes.{Rose}
use Rattle.ivy_io.specs.Known.{IsAtEnd, onto, then}
use Rattle.log_fetch.specs.Standings.{asked_of, refresh_of}
use Rattle.nfs_model.specs.Results.{result as bytes_of}
use Rattle.dht_ids.specs.Asked.{longer}
use Rattle.dht_ids.specs.declared.ask.Heard.{Heard}
use Rattle.ivy_agent.specs.Calls.{Made}
use Rattle.server_model.specs.Acts.{Act, TurnAnswered, moments_of, trail_of, turns_of}
use Rattle.server_model.specs.Links.{Execution, Link}
use Rattle.server_model.specs.Takers.{Ring, Taker}
use Rattle.server_model.specs.declared.ended.Ended.{Ended}
use Rattle.server_model.specs.declared.ended.Ended.TheVariants as ended

-- ---- what a session touches

-- What the acts of a session leave a mark on: the turns that were made with the pass and the asks, each where they are told, and the clock.
pub record Marks (C : Type 0) : Type 0 where
  pub made : Option (List Made)
  pub trail : Option (List Heard)
  pub clock : C

-- a turn as it was made is that turn of the definitions
pub record IsTurn (m : Made) (t : TurnAnswered) : Type 0 where
  pub brought : refresh_of m.refresh ≡ t.turn.brought
  pub asked : asked_of m.asked ≡ t.turn.asked
  pub now : m.now ≡ t.turn.now
  pub reply : m.turned.reply ≡ bytes_of t.reply

-- these are those turns, in their order
pub data AreTurns : List Made → List TurnAnswered → Type 0 where
  none : AreTurns [] []
  more : {ms : List Made} {ts : List TurnAnswered} (m : Made) (t : TurnAnswered) → AreTurns ms ts → IsTurn m t
      → AreTurns (ms ++ m ∷ []) (ts ++ t ∷ [])

abbrev pub moment_of : ℕ × ℕ → Moment
moment_of m = record { sec = m.0; nsec = m.1 }

-- A clock that may give moments so gave these, one after the other.
pub data Gave {C : Type 0} (gives : C → ℕ × ℕ → C → Type 0) (clock : C) : List Moment → C → Type 0 where
  none : Gave gives clock [] clock
  more : {moments : List Moment} {between after : C} (m : ℕ × ℕ) → Gave gives clock moments between → gives between m after
      → Gave gives clock (moments ++ moment_of m ∷ []) after

-- The acts left these marks: their asks on the trail, their turns with the pass, and a moment of the clock for each turn, whatever it gave.
pub record Leave {C : Type 0} (gives : C → ℕ × ℕ → C → Type 0) (before : Marks C) (acts : List Act) (after : Marks C) : Type 0 where
  pub trail : after.trail ≡ longer before.trail (trail_of acts)
  pub moments : Gave gives before.clock (moments_of acts) after.clock
  pub made : List Made
  pub are_turns : AreTurns made (turns_of acts)
  pub told : after.made ≡ option_map (λ ms. ms ++ made) before.made

-- ---- what a link touches

-- What a link touches: the bytes left of the source and those held by the sink, where they are known, their counts of faults, the pass, and
-- what its sessions leave marks on.
pub record Surroundings (P C : Type 0) : Type 0 where
  pub left : Option (List ℕ)
  pub held : Option (List ℕ)
  pub reads : ℕ
  pub writes : ℕ
  pub pass : P
  pub marks : Marks C

-- Done and Cut come only at the source's end, ReadFault and WriteFault only where that count rose.
abbrev pub HasEndCause : {P C : Type 0} → Ended → Surroundings P C → Surroundings P C → Type 0
HasEndCause ended.Done before after = IsAtEnd after.left
HasEndCause ended.Cut before after = IsAtEnd after.left
HasEndCause ended.TooLong before after = Unit {0}
HasEndCause ended.NotACall before after = Unit {0}
HasEndCause ended.ReadFault before after = Rose before.reads after.reads
HasEndCause ended.WriteFault before after = Rose before.writes after.writes
HasEndCause ended.Memory before after = Unit {0}

-- By whom a link is served: who takes the turns, the mesh, and which moments the clock may give.
pub record Server (P C : Type 0) : Type 1 where
  pub taker : Taker P
  pub ring : Ring
  pub gives : C → ℕ × ℕ → C → Type 0

-- A link was served: its bytes were read and written, its acts left their marks, and it ended with cause.
pub record IsServed {P C : Type 0} (server : Server P C) (before after : Surroundings P C) (how : Ended) : Type 0 where
  pub execution : Execution
  pub link : Link server.taker server.ring before.pass execution how after.pass
  pub left : before.left ≡ onto execution.read after.left
  pub held : after.held ≡ then before.held execution.written
  pub marks : Leave server.gives before.marks execution.acts after.marks
  pub cause : HasEndCause how before after
  pub reads : before.reads ≤ after.reads
  pub writes : before.writes ≤ after.writes
