-- Lines that need no session leave as many owners of a key as there were.
use Rattle.std.proofs.Common.{◌≡◌, ℕ, Bool, true, false, ◌&&◌, List, Option, Some, None, refl, ap, ◌∙◌, nat_le, nat_lt}
use Rattle.ivy_base.specs.declared.key.Key.{Key}
use Rattle.ivy_base.specs.declared.key.PubKey.{PubKey}
use Rattle.dht_ids.specs.declared.ask.Answer.{Answer}
use Rattle.dht_ids.specs.declared.ask.Ask.{Ask}
use Rattle.dht_ids.specs.declared.judge.Judged.{Judged}
use Rattle.dht_ids.specs.declared.peer.Peer.{Peer}
use Rattle.dhash_model.specs.Stores.{Blocks, with_byte}
use Rattle.round_laws.proofs.Rounding.{leaves_the_rest}
use Rattle.script_driver.specs.Run.{Outcome, Goes, Ends, Refuses, Exceeds}
use Rattle.script_model.specs.declared.command.KeyWord.{KeyWord}
use Rattle.script_model.specs.declared.command.NodeWord.{NodeWord}
use Rattle.script_model.specs.declared.command.Shown.{Shown}
use Rattle.world_model.specs.Fates.{FateOf, Fates}
use Rattle.world_model.specs.Fates.FateOf.{lost as ask_lost, stopped as ask_stopped, answers as ask_answered}
use Rattle.world_model.specs.Fates.Fates.{none as no_asks, more as more_asks}
use Rattle.world_model.specs.Faults.{damage_by, damage_line, damaged_to, key_named, lose_line, node_named}
use Rattle.world_model.specs.Shows.{Shows}
use Rattle.world_model.specs.Logs.{Played, ViewLine, at_line, goes_if, keep_by, keep_line}
use Rattle.world_model.specs.Logs.ViewLine.{known as view_known, no_members, no_former, one_head_key, exceeds as view_exceeds, makes as view_makes}
use Rattle.world_model.specs.Nodes.{Node}
use Rattle.world_model.specs.Ring.{JoinLine, stop_line}
use Rattle.world_model.specs.Ring.JoinLine.{before_ring as join_before_ring, known as join_known, exceeds as join_exceeds, alone as join_alone, joins as join_joins, fails as join_fails}
use Rattle.world_model.specs.Rounds.{RoundLine}
use Rattle.world_model.specs.Rounds.RoundLine.{before_ring as round_before_ring, goes as round_goes}
use Rattle.world_model.specs.World.{World, Participant, participant, with_node}
use Rattle.world_laws.proofs.Shows.{shows_are_still}

-- where the line goes on, as many own a key
abbrev pub Stays : Option ℕ → Outcome World → Type 0
Stays before (Goes next output) = next.replicas ≡ before
Stays before Ends = Unit {0}
Stays before Refuses = Unit {0}
Stays before Exceeds = Unit {0}

-- the same of worlds with their ghost states
abbrev pub StaysPlayed : Option ℕ → Outcome Played → Type 0
StaysPlayed before (Goes next output) = next.0.replicas ≡ before
StaysPlayed before Ends = Unit {0}
StaysPlayed before Refuses = Unit {0}
StaysPlayed before Exceeds = Unit {0}

-- ---- by functions

goes_if_stays : (w next : World) (b : Bool) → next.replicas ≡ w.replicas → Stays w.replicas (goes_if b next)
goes_if_stays w next true same = same
goes_if_stays w next false same = tt

pub at_stays : (sec nsec : ℕ) (w : World) → Stays w.replicas (at_line w sec nsec)
at_stays sec nsec w = goes_if_stays w _ (nat_lt sec 4294967296 && nat_lt nsec 1000000000) refl

pub lose_stays : (count : ℕ) (w : World) → Stays w.replicas (lose_line w count)
lose_stays count w = goes_if_stays w _ (nat_lt 0 count && nat_le count 1000000) refl

pub stop_stays : (node : NodeWord) (w : World) → Stays w.replicas (stop_line w (node_named w node))
stop_stays node w = by (node_named w node)
  where
    by : (o : Option Node) → Stays w.replicas (stop_line w o)
    by None = tt
    by (Some n) = goes_if_stays w (with_node w (record n { is_live = false })) n.is_live refl

pub damage_stays : (node : NodeWord) (key : KeyWord) (offset byte : ℕ) (w : World) → Stays w.replicas (damage_line w node key offset byte)
damage_stays node key offset byte w = by (node_named w node) (key_named w key)
  where
    by_blocks : (n : Node) (k : Key) (o : Option Blocks) → Stays w.replicas (damaged_to w n k o)
    by_blocks n k None = tt
    by_blocks n k (Some blocks) = refl

    by : (o : Option Node) (k : Option Key) → Stays w.replicas (damage_by w o k offset byte)
    by (Some n) (Some k) = by_blocks n k (with_byte k offset byte n.blocks)
    by (Some n) None = tt
    by None k = tt

pub keep_stays : (log : List ℕ) (count : ℕ) (new : Bool) (w : World) → Stays w.replicas (keep_line w log count new)
keep_stays log count new w = by (participant w log)
  where
    by : (o : Option Participant) → Stays w.replicas (keep_by w o count new)
    by None = tt
    by (Some p) = goes_if_stays w _ (nat_lt 0 count) refl

pub show_stays : (s : Shown) (w : World) (outcome : Outcome World) → Shows w s outcome → Stays w.replicas outcome
show_stays s w = shows_are_still w s (Stays w.replicas) (λ text. refl) tt tt

-- ---- by asks

module _ {judged : Key → List ℕ → Option Judged} where
  fate_stays : {w next : World} {to : Peer} {question : Ask} {answer : Answer} → FateOf judged w to question answer next → next.replicas ≡ w.replicas
  fate_stays (ask_lost l) = refl
  fate_stays (ask_stopped n l is dead) = refl
  fate_stays (ask_answered n l is live) = refl

  fates_stay : {w next : World} {asks : List (Peer × (Ask × Answer))} → Fates judged w asks next → next.replicas ≡ w.replicas
  fates_stay no_asks = refl
  fates_stay (more_asks to question answer one rest) = fates_stay rest ∙ fate_stays one

  pub join_stays : {w : World} {number : ℕ} {o : Option ℕ} {outcome : Outcome World} → JoinLine judged w number o outcome → Stays w.replicas outcome
  join_stays join_before_ring = tt
  join_stays (join_known r h) = tt
  join_stays (join_exceeds r h g) = tt
  join_stays (join_alone r h room none) = refl
  join_stays (join_joins r through p ps next h room least looks) = fates_stay looks.fates
  join_stays (join_fails r through found next h room least looks nobody) = fates_stay looks.fates

  pub round_stays : {w : World} {o : Option ℕ} {outcome : Outcome World} → RoundLine judged w o outcome → Stays w.replicas outcome
  round_stays round_before_ring = tt
  round_stays {w = w} (round_goes r next is) = ap (λ (v : World). v.replicas) (leaves_the_rest judged r w next is).0

  pub view_stays : {w : Played} {name : List ℕ} {members former : Option (List PubKey)} {outcome : Outcome Played} → ViewLine judged w name members former outcome → StaysPlayed w.0.replicas outcome
  view_stays (view_known h) = tt
  view_stays no_members = tt
  view_stays no_former = tt
  view_stays (one_head_key members former h) = tt
  view_stays (view_exceeds members former h g large) = tt
  view_stays (view_makes members former r view next h g small ringed is put) = fates_stay put.fates
