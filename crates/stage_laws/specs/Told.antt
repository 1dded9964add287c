-- What is told of open sessions and of turns, in each world that a script comes to.
use Rattle.std.specs.Prelude.{◌≡◌, ◌≢◌, ℕ, List, [], Contains, Ok, Some}
use Rattle.std.specs.List.{AllByRecursion}
use Rattle.ivy_base.specs.declared.key.Key.{Key}
use Rattle.dht_ids.specs.declared.ask.Heard.{Heard}
use Rattle.dht_ids.specs.declared.peer.Peer.{Peer}
use Rattle.dhash_model.specs.Signed.{hss_judged}
use Rattle.session_model.specs.Brought.{Brought, BlockOf, Part, WantedOfRing}
use Rattle.session_model.specs.Sessions.{Gets}
use Rattle.world_model.specs.Logs.{Played}
use Rattle.world_model.specs.GhostState.{HadTurn}
use Rattle.world_model.specs.World.{NamedSession}
use Rattle.world_laws.specs.Headline.{TurnHolds}

-- What came in is a block that was available, or what a whole get brought.
pub data CameIn (r : ℕ) (entries : List Peer) : Part → Type 0 where
  available : (key : Key) (bytes : List ℕ) → CameIn r entries (record { brought = BlockOf key (Ok bytes); asks = [] })
  by_get : (want : WantedOfRing) (brought : Brought) (asks : List Heard) → asks ≢ [] → Gets hss_judged r entries want asks brought
      → CameIn r entries (record { brought = brought; asks = asks })

-- So it is of all that an open session was brought.
abbrev pub PartsCameIn : Played → Type 0
PartsCameIn w = (r : ℕ) (s : NamedSession) → w.0.replicas ≡ Some r → Contains w.0.sessions s
    → AllByRecursion (CameIn r s.session.entries) s.session.parts

-- And each turn that was had is on the replay.
pub record IsTold (w : Played) : Type 0 where
  pub parts : PartsCameIn w
  pub turns : (h : HadTurn) → Contains w.1.turns h → TurnHolds h
