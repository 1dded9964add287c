-- Lines by which a node joins or stops, or a round is made: participants and what was reported stay, and what nodes hold was held before.
use Rattle.std.proofs.Common.{◌≡◌, ◌⊎◌, inl, inr, ℕ, false, List, [], Option, Some, refl, sym, ap, subst, Contains}
use Rattle.std.specs.List.{AllByRecursion}
use Rattle.ivy_base.specs.declared.key.Key.{Key}
use Rattle.ring_model.specs.Members.{IsAmong}
use Rattle.ring_model.proofs.Lists.{all-among, all_from}
use Rattle.dhash_model.specs.Signed.{hss_judged}
use Rattle.log_model.proofs.Lists.{each, each_append, each_from}
use Rattle.dhash_model.specs.Stores.{Block}
use Rattle.dhash_model.specs.declared.kind.BlockKind.{BlockKind}
use Rattle.script_driver.specs.Run.{Outcome, Goes}
use Rattle.script_model.specs.declared.command.Command.{Command}
use Rattle.script_model.specs.declared.command.Command.TheVariants as command
use Rattle.world_model.specs.Faults.{node_named}
use Rattle.world_model.specs.Logs.{Played}
use Rattle.world_model.specs.Nodes.{Node}
use Rattle.world_model.specs.Ring.{JoinLine, stop_line}
use Rattle.world_model.specs.Ring.JoinLine.{before_ring as join_before_ring, known as join_known, exceeds as join_exceeds, alone as join_alone, joins as join_joins, fails as join_fails}
use Rattle.world_model.specs.Rounds.{RoundLine}
use Rattle.world_model.specs.Rounds.RoundLine.{before_ring as round_before_ring, goes as round_goes}
use Rattle.world_model.specs.Step.{Does}
use Rattle.world_model.specs.GhostState.{knowing_of}
use Rattle.world_model.specs.World.{World}
use Rattle.round_laws.proofs.Rounding.{leaves_the_rest}
use Rattle.calm_laws.specs.Calm.{IsCalm, IsQuiet, Since}
use Rattle.calm_laws.specs.Calm.IsCalm.{rounds, joins, stops, other}
use Rattle.world_laws.specs.Invariant.{Invariant}
use Rattle.world_laws.proofs.Lines.{named_among}
use Rattle.world_laws.proofs.NodeFates.{each_replaced}
use Rattle.world_laws.proofs.StoredBlocks.{to_sorted}
use Rattle.calm_laws.proofs.CalmRounds.{beside_goes}
use Rattle.world_laws.proofs.RingLines.{fates_rest}
use Rattle.calm_laws.proofs.Changes.{stop_is}
use Rattle.calm_laws.proofs.Rooms.{each_found}
use Rattle.calm_laws.proofs.Runs.{beside_ghost_state, stopped_node}
use Rattle.calm_laws.proofs.HeldHeads.{IsPutAs}
use Rattle.calm_laws.proofs.RoundPuts.{AllAreSo, AreSo, found_so, round_so, routes_so}
use Rattle.calm_laws.proofs.Stages.{IsEntryPut}
use Rattle.calm_laws.proofs.BackedWorlds.{IsBackedWorld, IsStagedIn, later_backed}

-- a line of a calm script changes the ring, or no node but by asks of sessions
abbrev pub ChangesRing : Command → Type 0
ChangesRing (command.Join number) = Unit {0}
ChangesRing (command.Stop node) = Unit {0}
ChangesRing command.Round = Unit {0}
ChangesRing _ = ⊥

pub calm_kind : {w : World} {r : ℕ} {since after : Since} {c : Command} → IsCalm w r since c after → IsQuiet c ⊎ ChangesRing c
calm_kind (rounds since none) = inr tt
calm_kind (joins number none) = inr tt
calm_kind (stops count node none short two) = inr tt
calm_kind (other count c quiet) = inl quiet

one_world : (a b : World) (x y : List ℕ) → Goes a x ≡ Goes b y → a ≡ b
one_world a b x y e = cc e

module _ (P : BlockKind → Key → List ℕ → Type 0) where
  -- nodes alone change, and what they hold stays so
  pub record ChangesNodes (w next : World) : Type 0 where
    pub participants : next.participants ≡ w.participants
    pub met : next.met ≡ w.met
    pub sessions : next.sessions ≡ w.sessions
    pub nodes : AllAreSo P w → AllAreSo P next

  round_changes : (w next : World) (o : Option ℕ) (out : Outcome World) (output : List ℕ) → RoundLine hss_judged w o out → out ≡ Goes next output → ChangesNodes w next
  round_changes w next _ _ output round_before_ring e = absurd cc
  round_changes w next _ _ output (round_goes r mid round) e =
      let rest = (leaves_the_rest hss_judged r w mid round).0 in
      subst (ChangesNodes w) (one_world mid next [] output e)
      (record { participants = ap (λ (v : World). v.participants) rest; met = ap (λ (v : World). v.met) rest; sessions = ap (λ (v : World). v.sessions) rest; nodes = round_so P round })

  join_changes : (w next : World) (number : ℕ) (o : Option ℕ) (out : Outcome World) (output : List ℕ) → JoinLine hss_judged w number o out → out ≡ Goes next output → ChangesNodes w next
  join_changes w next number _ _ output join_before_ring e = absurd cc
  join_changes w next number _ _ output (join_known r h) e = absurd cc
  join_changes w next number _ _ output (join_exceeds r h g) e = absurd cc
  join_changes w next number _ _ output (join_alone r h room none) e = subst (ChangesNodes w) (one_world _ next _ output e) (record {
    participants = refl;
    met = refl;
    sessions = refl;
    nodes = λ all. each_append (λ (n : Node). AreSo P n.blocks) w.nodes _ all (tt, tt);
  })
  join_changes w next number _ _ output (join_joins r through p ps mid h room least looks) e = subst (ChangesNodes w) (one_world _ next _ output e) (let same = fates_rest looks.fates in record {
    participants = ap (λ (v : World). v.participants) same;
    met = ap (λ (v : World). v.met) same;
    sessions = ap (λ (v : World). v.sessions) same;
    nodes = λ all. each_append (λ (n : Node). AreSo P n.blocks) mid.nodes _ (routes_so P _ looks.looks looks.fates all) (tt, tt);
  })
  join_changes w next number _ _ output (join_fails r through found mid h room least looks nobody) e = subst (ChangesNodes w) (one_world _ next _ output e) (let same = fates_rest looks.fates in record {
    participants = ap (λ (v : World). v.participants) same;
    met = ap (λ (v : World). v.met) same;
    sessions = ap (λ (v : World). v.sessions) same;
    nodes = λ all. routes_so P _ looks.looks looks.fates all;
  })

  stop_changes : (w next : World) (n : Node) (output : List ℕ) → IsAmong n w.nodes → stop_line w (Some n) ≡ Goes next output → ChangesNodes w next
  stop_changes w next n output among e =
      let is = stop_is w next n output e in
      record {
        participants = ap (λ (v : World). v.participants) is;
        met = ap (λ (v : World). v.met) is;
        sessions = ap (λ (v : World). v.sessions) is;
        nodes = λ all. subst (AllAreSo P) (sym is) (each_replaced (λ (m : Node). AreSo P m.blocks) (record n { is_live = false }) w.nodes (all-among (λ (m : Node). AreSo P m.blocks) n w.nodes all among) all);
      }

  pub ring_changes : (w next : Played) (output : List ℕ) (c : Command) → ChangesRing c → Does hss_judged w c (Goes next output) → ChangesNodes w.0 next.0 × (next.1 ≡ w.1)
  ring_changes w next output (command.Join number) is does =
      (join_changes w.0 next.0 number w.0.replicas does.0 output does.1 (beside_goes w.1 does.0 next output does.2), beside_ghost_state w.1 does.0 next output does.2)
  ring_changes w next output (command.Stop node) is does =
      let stop = beside_goes w.1 (stop_line w.0 (node_named w.0 node)) next output does in
      let n = stopped_node w.0 next.0 (node_named w.0 node) output stop in (
        stop_changes w.0 next.0 n.0 output (named_among w.0 node n.0 n.1) (subst (λ o. stop_line w.0 o ≡ Goes next.0 output) n.1 stop),
        beside_ghost_state w.1 (stop_line w.0 (node_named w.0 node)) next output does,
      )
  ring_changes w next output command.Round is does =
      (round_changes w.0 next.0 w.0.replicas does.0 output does.1 (beside_goes w.1 does.0 next output does.2), beside_ghost_state w.1 does.0 next output does.2)
  ring_changes w next output _ is does = absurd is

-- all is so then
pub ring_so : (w next : Played) (output : List ℕ) (c : Command) → Invariant w → ChangesRing c → Does hss_judged w c (Goes next output) → IsBackedWorld w.0 w.1 → IsBackedWorld next.0 next.1
ring_so w next output c keeps is does h = subst (IsBackedWorld next.0) (sym change.1)
    (later_backed w.0 next.0 w.1 w.1 (record { participants = change.0.participants; known = λ n. refl; met = λ b m. subst (λ l. Contains l b) (sym change.0.met) m; acked = λ p m. m })
    (λ n among key block found. subst (λ l. IsPutAs l w.1.acked block.kind key block.bytes) (sym change.0.met)
    (found_so (IsPutAs w.0.met w.1.acked) key n.blocks block (each (λ (m : Node). AreSo (IsPutAs w.0.met w.1.acked) m.blocks) next.0.nodes n (change.0.nodes before) among) found))
    (subst (AllByRecursion (IsStagedIn w.0 w.1)) (sym change.0.sessions) h.sessions)
    (λ p acked. subst (λ l. Contains l p.bytes) (sym change.0.met) (h.put_met p acked))
    (λ n. subst (λ l. AllByRecursion (IsEntryPut l w.1.acked) (knowing_of w.1 n).received) (sym change.0.met) (h.received n))
    h)
  where
    change : ChangesNodes (IsPutAs w.0.met w.1.acked) w.0 next.0 × (next.1 ≡ w.1)
    change = ring_changes (IsPutAs w.0.met w.1.acked) w next output c is does

    before : AllAreSo (IsPutAs w.0.met w.1.acked) w.0
    before = each_from (λ (n : Node). AreSo (IsPutAs w.0.met w.1.acked) n.blocks) w.0.nodes
        (λ n among. all_from (λ (e : Key × Block). IsPutAs w.0.met w.1.acked e.1.kind e.0 e.1.bytes) n.blocks (λ e i. h.nodes n among e.0 e.1 (each_found n.blocks (to_sorted n.blocks (each _ w.0.nodes n keeps.met.held among).0.ascending) e i)))
