-- Where no names collide, and no more was met than a line may go on with, what is to be saved of a snapshot has a spelling.
use Rattle.std.proofs.Common.{◌≡◌, ◌⊎◌, inl, inr, ℕ, ◌+◌, Bool, true, false, cond, not, List, [], ◌∷◌, ◌++◌, length, map, filter, Option, Some, None, refl, sym, ap, ◌∙◌, subst, arith, length-append, Contains}
use Rattle.std.specs.Prelude.{IfSome, IsTrue, MatchBool, codes, nat_lt, sum_by}
use Rattle.std.specs.List.{AllByRecursion}
use Rattle.std.specs.FinMap.Entries.{find as value_at, is_sorted}
use Rattle.std.proofs.lemmas.Bool.{ltb-false}
use Rattle.hex.specs.Hex.{encode_lower, lower_digits}
use Rattle.hex.proofs.HexLemmas.{length-encode_with}
use Rattle.ivy_base.specs.declared.key.Key.{Key}
use Rattle.ivy_base.specs.Naming.{IsCollisionFree, key_cmp}
use Rattle.ivy_base.proofs.NameLemmas.{length-name}
use Rattle.tree_model.specs.Tree.{Inode, Tree}
use Rattle.tree_model.proofs.Applied.{records_make_sound_trees}
use Rattle.tree_model.proofs.Keys.{keys_total}
use Rattle.log_model.specs.Record.{Record}
use Rattle.log_model.specs.Replay.{effect, in_order, replay}
use Rattle.log_model.specs.Spelling.{IsKey, record_block}
use Rattle.log_model.specs.Standing.{StandsAmong}
use Rattle.log_model.specs.View.{View, IsView, is_named}
use Rattle.log_model.specs.ViewKeys.{HasKeys}
use Rattle.log_model.proofs.Lists.{each, each_append, each_from, from_filter}
use Rattle.turn_laws.proofs.Heads.{short_named}
use Rattle.turn_laws.proofs.Octets.{HasOctets}
use Rattle.turn_model.specs.Basis.{Basis}
use Rattle.dhash_model.specs.Signed.{hss_judged}
use Rattle.dht_ids.specs.declared.post.Post.{Post}
use Rattle.snapshot_model.specs.Reading.{HasBounds}
use Rattle.snapshot_model.specs.Spelling.{root_name, snapshot_blocks, snapshot_of}
use Rattle.snapshot_model.proofs.MadeLists.{is_key}
use Rattle.snapshot_model.proofs.SortedEntries.{each_found}
use Rattle.agent_model.specs.Agent.{failed, kept_of}
use Rattle.agent_model.specs.Others.{basis_of, block_post, is_pending_block}
use Rattle.agent_model.specs.SavedBytes.{AreOpaque, ArePostsSpelled, HasItsName}
use Rattle.agent_laws.proofs.Floors.{IsSpelledIn}
use Rattle.script_driver.specs.Run.{Exceeds, Goes, Obeys, Outcome, shown}
use Rattle.script_model.specs.declared.command.Command.{Command}
use Rattle.script_model.specs.declared.command.Command.TheVariants as command
use Rattle.script_model.specs.Lines.{command_of}
use Rattle.world_model.specs.Agents.{HssAgent, HssKept, own_hss_key}
use Rattle.world_model.specs.Keepers.{fails_next}
use Rattle.world_model.specs.Logs.{Played, SnapLine, failed_text, snap_text, snapping_in}
use Rattle.world_model.specs.Logs.SnapLine.{cannot, fails, makes, nobody, outside}
use Rattle.world_model.specs.GhostState.{empty_ghost_state, knowing_of, known_of}
use Rattle.world_model.specs.Step.{Does, IvyStep, WithinLimit, most_bytes}
use Rattle.world_model.specs.World.{Participant, empty_world, named_bytes, participant}
use Rattle.world_laws.specs.Effects.{snapped_in}
use Rattle.world_laws.specs.FullRuns.{MetLittle, PublishFew}
use Rattle.world_laws.specs.FullTurns.{AreBytes}
use Rattle.world_laws.specs.Invariant.{IsKeptSo, IsSavedWell, IsSound, IsSoundIn, Invariant}
use Rattle.world_laws.specs.SnapRoom.{MetBytes, ScriptsSaveSnapshots, SnapshotsCanBeSaved, SnapshotsFailBySaves}
use Rattle.world_laws.proofs.AllLines.{does_line, goes_within}
use Rattle.world_laws.proofs.Bringing.{found_named}
use Rattle.world_laws.proofs.EachLine.{each_line_keeps}
use Rattle.world_laws.proofs.FirstWorld.{empty_keeps}
use Rattle.world_laws.proofs.MetBytes.{empty_met_bytes, met_bytes_come}
use Rattle.world_laws.proofs.Rooms.{empty_publishes_few, few_posts_come}
use Rattle.world_laws.proofs.SnapBytes.{IsWellIn, IsWellMade, listed_well, snapshots_are_opaque}
use Rattle.world_laws.proofs.SnapCounts.{snapshots_are_few}
use Rattle.world_laws.proofs.SnapSpelled.{front_in_view, holding_stands, stands_spelled}
use Rattle.world_laws.proofs.SpelledPosts.{not_both}
use Rattle.world_laws.proofs.TreeBytes.{IsOfBytes, record_octets, set_is_of_bytes}

-- ---- its blocks

abbrev IsPost : Post → Type 0
IsPost p = IsKey p.key × HasItsName p × AreOpaque p.bytes

block_posts : (blocks : List (List ℕ)) → AllByRecursion AreOpaque blocks → AllByRecursion IsPost (map block_post blocks)
block_posts [] h = tt
block_posts (b ∷ blocks) h = ((is_key b, inr refl, h.0), block_posts blocks h.1)

module _ (w : Played) (p : Participant) (view : View) (keeps : Invariant w) (few : PublishFew w.0) (bytes : MetBytes w.0) (little : MetLittle w.0) (apart : IsCollisionFree (named_bytes w.0)) (among : Contains w.0.participants p) (in_view : p.agent.view ≡ Some view) where
  abbrev a : HssAgent
  a = p.agent

  abbrev basis : Basis
  basis = basis_of a.holding

  its_view : IsView view × HasKeys view × Contains view.members (own_hss_key a) × AllByRecursion (λ e. IsTrue (is_named view e.0)) a.floor
  its_view = subst (λ (o : Option View). IfSome o (λ v. IsView v × HasKeys v × Contains v.members (own_hss_key a) × AllByRecursion (λ e. IsTrue (is_named v e.0)) a.floor)) in_view (each (IsKeptSo IsSavedWell) w.0.participants p keeps.saved among).3.agent.view

  sound : IsSound w.0.met p (knowing_of w.1 p.name) view
  sound = subst (IsSoundIn w.0.met p (knowing_of w.1 p.name)) in_view (each (λ (x : Participant). IsSoundIn w.0.met x (knowing_of w.1 x.name) x.agent.view) w.0.participants p (keeps.sound apart).agents among)

  well_made : IsWellMade basis
  well_made =
      let held = holding_stands view a.floor a.holding (known_of w.1 p.name) sound.knows in
      let below = held.0 in
      let stands = held.1 in
      let octets = each_from (λ (r : Record). HasOctets r.op) below (λ r c.
      record_octets r (record { each = each AreBytes w.0.met (record_block r) bytes (each (StandsAmong w.0.met) (known_of w.1 p.name) r sound.stand (held.2 r c)) })) in
      let tree : basis.tree ≡ replay below = stands.tree in
      let its_bytes = subst IsOfBytes (sym tree) (set_is_of_bytes view below stands.closed octets) in
      let sorted = subst (λ (t : Tree). is_sorted key_cmp t.inodes ≡ true) (sym tree) (records_make_sound_trees (map effect (in_order below))).order.inodes in
      let found = each_found key_cmp keys_total basis.tree.inodes sorted in
      let spelled = stands_spelled view its_view.0 its_view.1 below stands.closed basis stands in
      let its_front = subst (IsSpelledIn view) (sym stands.front) (front_in_view view its_view.0 its_view.1 below stands.closed) in
      record {
        front = its_front.spelled.each;
        few = short_named view basis.front its_view.0 its_front.spelled.in_order its_front.named;
        tide = spelled.tide;
        inodes = each_from (IsWellIn basis.tree) basis.tree.inodes (λ i c.
            let bounds = each (λ (x : Key × Inode). IsKey x.0 × HasBounds x.1) basis.tree.inodes i spelled.inodes c in
            let at = each (λ (x : Key × Inode). value_at key_cmp x.0 basis.tree.inodes ≡ Some x.1) basis.tree.inodes i found c in
            (bounds.0, bounds.1, its_bytes.inodes i.0 i.1 at, listed_well basis.tree.names i.0 its_bytes.names spelled.names));
      }

  -- what is to be published then is spelled
  pub snapped_spelled : ArePostsSpelled (snapped_in p view).pending
  snapped_spelled =
      let blocks = snapshot_blocks view basis in
      let new = filter (λ b. not (is_pending_block a.pending b)) blocks in
      let opaque = snapshots_are_opaque view basis well_made in
      record {
        few = snapshots_are_few w p view keeps few little apart among in_view;
        each = each_append IsPost a.pending (map block_post new) (each (IsKeptSo IsSavedWell) w.0.participants p keeps.saved among).3.agent.posts.each
            (block_posts new (each_from AreOpaque new (λ b c. each AreOpaque blocks b opaque (from_filter (λ x. not (is_pending_block a.pending x)) blocks b c).0)));
      }

-- ---- what is saved

abbrev snap_out : HssAgent → HssAgent → HssAgent → Bool → Bool → (HssAgent × Bool) × Option HssKept
snap_out a tried made before now = cond before ((a, false), None) (cond now (tried, false) (made, true), Some (kept_of made))

saved_so : (a tried made : HssAgent) (before now : Bool) → ArePostsSpelled made.pending → IfSome (snap_out a tried made before now).1 (λ k. ArePostsSpelled k.pending)
saved_so a tried made true now h = tt
saved_so a tried made false now h = h

failed_so : (a tried made : HssAgent) (before now : Bool) → (snap_out a tried made before now).0.1 ≡ false → (before ≡ true) ⊎ (now ≡ true)
failed_so a tried made true now h = inl refl
failed_so a tried made false true h = inr refl
failed_so a tried made false false h = cc h

pub snapshots_can_be_saved : SnapshotsCanBeSaved
snapshots_can_be_saved w p view keeps few bytes little apart among in_view =
    saved_so p.agent (failed p.agent) (snapped_in p view) p.agent.has_failed (fails_next p.keeper) (snapped_spelled w p view keeps few bytes little apart among in_view)

-- ---- what the line shows

-- the name of a snapshot is longer than the word of a line that failed
another_text : (name : List ℕ) (root : Key) → length root.0 ≡ 20 → snap_text name root ≡ failed_text (codes "snap") name → ⊥
another_text name root size e =
    let hex = length-encode_with lower_digits root.0 in
    let same = ap (λ (text : List ℕ). length text) e in
    let one = length-append (codes "snap ") name in
    let two = length-append (codes "snap " ++ name) (32 ∷ encode_lower root.0) in
    let three = length-append (codes "snap " ++ name ++ 32 ∷ encode_lower root.0) (10 ∷ []) in
    let four = length-append (codes "snap" ++ codes " ") name in
    let five = length-append (codes "snap" ++ codes " " ++ name) (codes " failed") in
    let six = length-append (codes "snap" ++ codes " " ++ name ++ codes " failed") (10 ∷ []) in
    absurd (omega (arith, hex, same, size, one, two, three, four, five, six))

abbrev text_of : Outcome Played → List ℕ
text_of (Goes next output) = output
text_of _ = []

little_met : (w next : Played) (output : List ℕ) (o : Option Command) → WithinLimit w o (Goes next output) → MetLittle w.0
little_met w next output o h = by (nat_lt most_bytes (sum_by (λ b. length b) w.0.met)) refl _ h
  where
    none : Goes next output ≡ Exceeds → ⊥
    none e = cc e

    by : (b : Bool) → nat_lt most_bytes (sum_by (λ b. length b) w.0.met) ≡ b → (May : Type 0) → MatchBool b (Goes next output ≡ Exceeds) May → MetLittle w.0
    by true e May h = absurd (none h)
    by false e May h = ltb-false most_bytes (sum_by (λ b. length b) w.0.met) e

one_participant : (p q : Participant) → Some p ≡ Some q → p ≡ q
one_participant p q e = cc e

module _ (w next : Played) (p : Participant) (can : (view : View) → p.agent.view ≡ Some view → IfSome (snapping_in p view).1 (λ k. ArePostsSpelled k.pending)) where
  abbrev Fails : Participant → Type 0
  Fails q = (q.agent.has_failed ≡ true) ⊎ (fails_next q.keeper ≡ true)

  by_line : (o : Option Participant) (outcome : Outcome Played) → o ≡ Some p → outcome ≡ Goes next (failed_text (codes "snap") p.name) → SnapLine hss_judged w o outcome → Fails p
  by_line _ _ is shown nobody = absurd (cc is)
  by_line _ _ is shown (outside q none) = absurd (cc shown)
  by_line _ _ is shown (fails q view in_view tried spelled) =
      subst Fails (one_participant q p is) (failed_so q.agent (failed q.agent) (snapped_in q view) q.agent.has_failed (fails_next q.keeper) tried)
  by_line _ _ is shown (makes q made view r then in_view tried ringed its spelled published) =
      let text : snap_text q.name (root_name view (basis_of q.agent.holding)) ≡ failed_text (codes "snap") p.name = ap text_of shown in
      let same : q ≡ p = one_participant q p is in
      absurd (another_text q.name (root_name view (basis_of q.agent.holding)) (length-name (snapshot_of view (basis_of q.agent.holding)).bytes) (text ∙ ap (λ (x : Participant). failed_text (codes "snap") x.name) (sym same)))
  by_line _ _ is shown (cannot q view in_view unspelled) =
      let same : q ≡ p = one_participant q p is in
      absurd (not_both (snapping_in q view).1 (subst (λ (x : Participant). x.agent.view ≡ Some view → IfSome (snapping_in x view).1 (λ k. ArePostsSpelled k.pending)) (sym same) (can view) in_view) unspelled)

pub snapshots_fail_by_saves : SnapshotsFailBySaves
snapshots_fail_by_saves w next line log p keeps few bytes apart is is_p step =
    let text = failed_text (codes "snap") p.name in
    let little = little_met w next text (command_of line) (goes_within w next text (command_of line) step) in
    let done = does_line w next text (command_of line) step in
    let same = its_command done.0 (sym done.1 ∙ is) in
    let does = subst (λ (c : Command). Does hss_judged w c (Goes next text)) same done.2 in
    by_line w next p (λ view in_view. snapshots_can_be_saved w p view keeps few bytes little apart (found_named w.0.participants log p is_p).0 in_view) (participant w.0 log) (Goes next text) is_p refl does
  where
    its_command : (c : Command) → Some c ≡ Some (command.Snap log) → c ≡ command.Snap log
    its_command c e = cc e

-- ---- scripts

-- what holds of each world that a script reaches
record IsReached (w : Played) : Type 0 where
  keeps : Invariant w
  few : PublishFew w.0
  bytes : MetBytes w.0

reached : (lines : List (List ℕ)) (text : List ℕ) (first last : Played) → IsReached first → Obeys IvyStep first lines text last → IsReached last
unfolding Obeys
reached [] text first last h obeyed = subst IsReached (sym obeyed.1) h
reached (line ∷ lines) text first last h (next, output, more, step, rest, is) =
    reached lines more next last (record {
      keeps = each_line_keeps first next (shown line) output h.keeps step;
      few = few_posts_come first next (shown line) output h.keeps h.few step;
      bytes = met_bytes_come first next (shown line) output h.keeps h.few h.bytes step;
    }) rest

pub scripts_save_snapshots : ScriptsSaveSnapshots
scripts_save_snapshots lines text w next line log p obeyed apart is is_p step =
    let h = reached lines text (empty_world, empty_ghost_state) w (record { keeps = empty_keeps; few = empty_publishes_few; bytes = empty_met_bytes }) obeyed in
    snapshots_fail_by_saves w next line log p h.keeps h.few h.bytes apart is is_p step
