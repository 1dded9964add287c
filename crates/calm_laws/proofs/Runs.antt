-- Calm scripts, line by line from the one that makes the ring.
use Rattle.std.proofs.Common.{◌≡◌, ℕ, ◌+◌, Bool, true, false, T, List, [], ◌∷◌, length, Option, Some, None, refl, sym, ap, ◌∙◌, subst, nat_lt}
use Rattle.std.specs.Prelude.{MatchBool, sum_by}
use Rattle.std.specs.List.{AllByRecursion}
use Rattle.std.specs.Option.{option_map_or}
use Rattle.std.specs.FinMap.Entries.{find as value_at, is_sorted}
use Rattle.std.proofs.lemmas.Bool.{ltb-false}
use Rattle.ivy_base.specs.Naming.{key_cmp}
use Rattle.ring_model.proofs.Lists.{all-among, none_some}
use Rattle.dht_ids.specs.declared.peer.Peer.{Peer}
use Rattle.dhash_model.specs.Signed.{hss_judged}
use Rattle.log_model.proofs.Lists.{in_nothing}
use Rattle.dhash_model.specs.Stores.{Blocks}
use Rattle.script_driver.specs.Run.{Outcome, Goes, Ends, Refuses, Exceeds}
use Rattle.script_model.specs.declared.command.Command.{Command}
use Rattle.script_model.specs.declared.command.Command.TheVariants as command
use Rattle.script_model.specs.Lines.{command_of}
use Rattle.world_model.specs.Nodes.{Node}
use Rattle.world_model.specs.World.{Participant, World, empty_world, node_at, participant, peer_of}
use Rattle.world_model.specs.GhostState.{GhostState, empty_ghost_state}
use Rattle.world_model.specs.Faults.{node_named}
use Rattle.world_model.specs.Logs.{Played, beside}
use Rattle.world_model.specs.Ring.{JoinLine, RingLine, stop_line}
use Rattle.world_model.specs.Rounds.{IsRoundOf}
use Rattle.world_model.specs.Step.{Does, MayDo, MayDoFirst, WithinLimit, most_bytes}
use Rattle.world_model.specs.RingOf.{lives_in}
use Rattle.round_laws.proofs.Nodes.{at, at_among, at_here}
use Rattle.round_laws.proofs.Holding.{node_is}
use Rattle.round_laws.proofs.Ringing.{ring_line_settles}
use Rattle.round_laws.proofs.Rounding.{shapes_of}
use Rattle.calm_laws.specs.Calm.{Calmly, IsCalm, IsCalmAt, Since, Stopped}
use Rattle.calm_laws.specs.Calm.Calmly.{none as calmly_none, more as calmly_more}
use Rattle.calm_laws.specs.Calm.IsCalm.{rounds, joins, stops, other}
use Rattle.world_laws.specs.Invariant.{HasRing, Invariant}
use Rattle.world_laws.proofs.AllLines.{does_line, goes_within}
use Rattle.calm_laws.proofs.CalmHeld.{apart_of, calmly_keeps, moment_keeps}
use Rattle.calm_laws.proofs.CalmRounds.{beside_goes, HasNodes, just_settled, round_line}
use Rattle.calm_laws.proofs.CalmRuns.{IsFirst, first_of, some_command}
use Rattle.calm_laws.proofs.CalmStates.{IsMore, more_then, same_more}
use Rattle.world_laws.proofs.EachLine.{each_line_keeps}
use Rattle.world_laws.proofs.Lines.{named_among}
use Rattle.world_laws.proofs.RingLines.{ring_lines_keep}
use Rattle.calm_laws.proofs.BlockKinds.{AreApart, fewer_apart}
use Rattle.calm_laws.specs.Laws.{IsWithinLimit}
use Rattle.calm_laws.proofs.Holding.{IsOrderly}
use Rattle.calm_laws.proofs.Commands.{command_goes}
use Rattle.calm_laws.proofs.Facts.{HasFacts, join_facts, quiet_facts, ring_in, round_facts, standing, stop_facts}
use Rattle.calm_laws.proofs.Worlds.{HoldsAll, IsStanding, IsState, quiet_state, state_holds, stretch}
use Rattle.calm_laws.proofs.Changes.{join_more, join_state, round_more, round_state, stop_more, stop_state}

-- ---- a line that goes on is within the limit

within_limit : (w next : Played) (output : List ℕ) (o : Option Command) → WithinLimit w o (Goes next output) → IsWithinLimit w.0
within_limit w next output o h = by (nat_lt most_bytes (sum_by (λ b. length b) w.0.met)) refl h
  where
    exceeds : Goes next output ≡ Exceeds → ⊥
    exceeds e = cc e

    by : (b : Bool) → nat_lt most_bytes (sum_by (λ b. length b) w.0.met) ≡ b → MatchBool b (Goes next output ≡ Exceeds) (MayDo w o (Goes next output)) → IsWithinLimit w.0
    by true e h = absurd (exceeds h)
    by false e h = ltb-false most_bytes (sum_by (λ b. length b) w.0.met) e

pub has_room : (w next : Played) (output : List ℕ) (o : Option Command) → MayDoFirst w o (Goes next output) → IsWithinLimit w.0
has_room w next output o h = within_limit w next output o (goes_within w next output o h)

-- ---- a line

pub beside_ghost_state : (st : GhostState) (o : Outcome World) (mid : Played) (output : List ℕ) → Goes mid output ≡ beside st o → mid.1 ≡ st
beside_ghost_state st (Goes next words) mid output e = by e
  where
    worlds : Goes mid output ≡ Goes (next, st) words → mid ≡ (next, st)
    worlds e = cc e

    by : Goes mid output ≡ Goes (next, st) words → mid.1 ≡ st
    by e = ap (λ (v : Played). v.1) (worlds e)
beside_ghost_state st Ends mid output e = absurd cc
beside_ghost_state st Refuses mid output e = absurd cc
beside_ghost_state st Exceeds mid output e = absurd cc

nothing_apart : AreApart empty_world
nothing_apart key b c content heads = in_nothing b content.0

-- the node that a line stops
pub stopped_node : (w next : World) (o : Option Node) (output : List ℕ) → stop_line w o ≡ Goes next output → (n : Node) × (o ≡ Some n)
stopped_node w next None output e = absurd (refused e)
  where
    refused : Refuses ≡ Goes next output → ⊥
    refused f = cc f
stopped_node w next (Some n) output e = (n, refl)

module _ (r : ℕ) (v mid : Played) (output : List ℕ) where
  the_round : {since : Since} → Does hss_judged v command.Round (Goes mid output) → HasFacts r v.0 since → IsRoundOf hss_judged r v.0 mid.0
  the_round does f = round_line r v.0 mid.0 v.0.replicas does.0 output does.1 f.has.replicas (beside_goes v.1 does.0 mid output does.2)

  the_join : {since : Since} (number : ℕ) → Does hss_judged v (command.Join number) (Goes mid output) → HasFacts r v.0 since → JoinLine hss_judged v.0 number (Some r) (Goes mid.0 output)
  the_join number does f = subst (λ o. JoinLine hss_judged v.0 number o (Goes mid.0 output)) f.has.replicas (subst (JoinLine hss_judged v.0 number v.0.replicas) (beside_goes v.1 does.0 mid output does.2) does.1)

  pub line_facts : {since between : Since} {c : Command} → IsCalm v.0 r since c between → Does hss_judged v c (Goes mid output) → HasFacts r v.0 since → HasFacts r mid.0 between × IsMore v.0 mid.0
  line_facts (rounds since none) does f = let x = the_round does f in (round_facts r v.0 mid.0 since f x, round_more r v.0 mid.0 v.1 since f x)
  line_facts (joins number none) does f = let line = the_join number does f in (join_facts r number v.0 mid.0 output f line, join_more r v.0 mid.0 v.1 (Stopped 0) number output f line)
  line_facts (stops count node none short two) does f =
      let stop = beside_goes v.1 (stop_line v.0 (node_named v.0 node)) mid output does in
      let n = stopped_node v.0 mid.0 (node_named v.0 node) output stop in
      let line : stop_line v.0 (Some n.0) ≡ Goes mid.0 output = subst (λ o. stop_line v.0 o ≡ Goes mid.0 output) n.1 stop in
      let among = named_among v.0 node n.0 n.1 in
      (stop_facts r count v.0 mid.0 n.0 output f short two among line, stop_more r count v.0 mid.0 v.1 n.0 output f short two among line)
  line_facts (other count c quiet) does f =
      let goes = command_goes (stretch r (shapes_of v.0) _ v.0.asked count (standing r count v.0 f) empty_world nothing_apart) v mid c output f.has.replicas quiet does in
      (quiet_facts r count v.0 mid.0 goes.still f, goes.grows)

  pub line_state : {since between : Since} {c : Command} → IsCalm v.0 r since c between → Does hss_judged v c (Goes mid output) → IsWithinLimit v.0 → AreApart mid.0 → HasFacts r v.0 since → IsState r v.0 v.1 since → IsState r mid.0 mid.1 between
  line_state (rounds since none) does room apart f s =
      let x = the_round does f in
      subst (λ st. IsStanding r 0 mid.0 st) (sym (beside_ghost_state v.1 does.0 mid output does.2)) (round_state r v.0 mid.0 v.1 since f x none room apart (state_holds r v.0 v.1 since s))
  line_state (joins number none) does room apart f s =
      subst (λ st. HoldsAll mid.0 st) (sym (beside_ghost_state v.1 does.0 mid output does.2)) (join_state r v.0 mid.0 v.1 (Stopped 0) number output f (the_join number does f) (state_holds r v.0 v.1 (Stopped 0) s))
  line_state (stops count node none short two) does room apart f s =
      let stop = beside_goes v.1 (stop_line v.0 (node_named v.0 node)) mid output does in
      let n = stopped_node v.0 mid.0 (node_named v.0 node) output stop in
      let line : stop_line v.0 (Some n.0) ≡ Goes mid.0 output = subst (λ o. stop_line v.0 o ≡ Goes mid.0 output) n.1 stop in
      subst (λ st. IsStanding r (count + 1) mid.0 st) (sym (beside_ghost_state v.1 (stop_line v.0 (node_named v.0 node)) mid output does))
      (stop_state r count v.0 mid.0 v.1 n.0 output f short two (named_among v.0 node n.0 n.1) line none room apart s)
  line_state (other count c quiet) does room apart f s = quiet_state r count v mid c output f.has.replicas quiet does room apart s

-- ---- runs

pub facts_on : (r : ℕ) {v w : Played} {since after : Since} {lines : List (List ℕ)} → Calmly r v since lines w after → HasFacts r v.0 since → HasFacts r w.0 after × IsMore v.0 w.0
facts_on r {v = v} calmly_none f = (f, same_more v.0)
facts_on r (calmly_more {w = v} {mid = mid} {next = next} {line = line} c output is calm step rest) f =
    let done = does_line v mid output (command_of line) step in
    let one = line_facts r v mid output calm (subst (λ d. Does hss_judged v d (Goes mid output)) (some_command done.0 c (sym done.1 ∙ is)) done.2) f in
    let later = facts_on r rest one.0 in
    (later.0, more_then v.0 mid.0 next.0 one.1 later.1)

states_on : (r : ℕ) {v w : Played} {since after : Since} {lines : List (List ℕ)} → Calmly r v since lines w after → AreApart w.0 → HasFacts r v.0 since → IsState r v.0 v.1 since → IsState r w.0 w.1 after
states_on r calmly_none apart f s = s
states_on r (calmly_more {w = v} {mid = mid} {next = next} {line = line} c output is calm step rest) apart f s =
    let done = does_line v mid output (command_of line) step in
    let does = subst (λ d. Does hss_judged v d (Goes mid output)) (some_command done.0 c (sym done.1 ∙ is)) done.2 in
    let one = line_facts r v mid output calm does f in
    let apart_mid = fewer_apart mid.0 next.0 (facts_on r rest one.0).1 apart in
    states_on r rest apart one.0 (line_state r v mid output calm does (has_room v mid output (command_of line) step) apart_mid f s)

-- ---- the line that makes the ring

nothing_held : (end : World) (n : Node) → n.blocks ≡ [] → IsOrderly end n
nothing_held end n none = record {
  kinds = λ key c e. absurd (none_some c (subst (λ (bs : Blocks). value_at key_cmp key bs ≡ Some c) none e));
  sorted = subst (λ (bs : Blocks). T (is_sorted key_cmp bs)) (sym none) tt;
}

module _ (r : ℕ) (w : Played) (since : Since) (lines : List (List ℕ)) (calm : IsCalmAt r w since lines) where
  abbrev pub fresh : World
  fresh = record empty_world { now = calm.fresh.0 }

  pub rings : RingLine fresh calm.count r (Goes calm.made [])
  rings = subst (λ (v : Played). RingLine v.0 calm.count r (Goes calm.made [])) calm.fresh.2 calm.rings

  pub calmly : Calmly r (calm.made, empty_ghost_state) (Stopped 0) lines w since
  calmly = subst (λ (v : Played). Calmly r (calm.made, v.1) (Stopped 0) lines w since) calm.fresh.2 calm.calmly

  start : IsFirst r fresh calm.made
  start = first_of fresh calm.made calm.count r rings

  pub first_keeps : Invariant (calm.made, empty_ghost_state)
  first_keeps = ring_lines_keep calm.count r (fresh, empty_ghost_state) (calm.made, empty_ghost_state) [] (moment_keeps calm.fresh.0 calm.fresh.1) (Goes calm.made [], rings, refl)

  first_lives : (z : Peer) × (lives_in calm.made z ≡ true)
  first_lives = by calm.made.nodes refl
    where
      some : (calm.made.nodes ≡ []) → ⊥
      some = let ring = first_keeps.ring in (subst (HasRing calm.made) (ap (λ (v : World). v.replicas) start.rest) ring).1

      by : (ns : List Node) → calm.made.nodes ≡ ns → (z : Peer) × (lives_in calm.made z ≡ true)
      by [] e = absurd (some e)
      by (n ∷ ns) e =
          let here : node_at calm.made (peer_of n).id ≡ Some n = ap (λ (l : List Node). at l (peer_of n).id) e ∙ at_here n ns (peer_of n).id refl in
          let live : AllByRecursion (λ (m : Node). m.is_live ≡ true) (n ∷ ns) = subst (AllByRecursion (λ (m : Node). m.is_live ≡ true)) e start.live in
          (peer_of n, ap (λ (o : Option Node). option_map_or (λ (m : Node). m.is_live) o false) (node_is calm.made (peer_of n) n here refl) ∙ live.0)

  pub first_facts : HasFacts r calm.made (Stopped 0)
  first_facts =
      let settles = ring_line_settles fresh calm.made calm.count r [] rings in
      let has : HasNodes r calm.made = record { nodes = settles.0; named = settles.4; few = settles.2; none_lost = ap (λ (v : World). v.lost) start.rest; replicas = ap (λ (v : World). v.replicas) start.rest } in
      record { has = has; is_since = just_settled r calm.made has settles.1; someone = first_lives.0; lives = first_lives.1 }

  pub first_state : AreApart calm.made → IsStanding r 0 calm.made empty_ghost_state
  first_state apart = record {
    base = shapes_of calm.made;
    links = _;
    start = calm.made.asked;
    stands = standing r 0 calm.made first_facts;
    apart = apart;
    still = ring_in r calm.made first_facts.has;
    good = record {
      orderly = λ id n e. nothing_held calm.made n (all-among (λ (m : Node). m.blocks ≡ []) n calm.made.nodes start.empty (at_among calm.made.nodes id n e));
      acked = tt;
      pending = λ n q is. absurd (no_participant n q (ap (λ (v : World). v.participants) start.rest) is);
      sessions = subst (AllByRecursion _) (sym (ap (λ (v : World). v.sessions) start.rest)) tt;
    };
  }
    where
      no_participant : (n : List ℕ) (q : Participant) → calm.made.participants ≡ [] → participant calm.made n ≡ Some q → ⊥
      no_participant n q e f = let g : participant (record calm.made { participants = [] }) n ≡ Some q = subst (λ ps. participant (record calm.made { participants = ps }) n ≡ Some q) e f in cc g

  -- ---- what holds at each line

  pub apart_at : AreApart w.0
  apart_at key b c content heads =
      apart_of w (calmly_keeps each_line_keeps r w since lines calm) calm.apart calm.no_key key b c content.0 content.1 heads.1 heads.2

  pub facts_at : HasFacts r w.0 since
  facts_at = (facts_on r calmly first_facts).0

  pub state_at : IsState r w.0 w.1 since
  state_at = states_on r calmly apart_at first_facts (first_state (fewer_apart calm.made w.0 (facts_on r calmly first_facts).1 apart_at))
