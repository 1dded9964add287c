-- What holds of each agent and its keeper, and stays through turns, settling, entering, restarts and saves, stays through each line that makes no snapshot; and through
-- each line, where it stays through snapshots.
use Rattle.std.proofs.Common.{◌≡◌, ◌⊎◌, inl, inr, ⊎_elim, ℕ, Bool, true, false, cond, List, [], ◌∷◌, map, Some, refl, sym, subst, ◌≢◌, ◌+◌, ◌++◌, Option, None, ap, ◌∙◌}
use Rattle.std.specs.Prelude.{if◌then◌else◌, ◌==◌, is_some}
use Rattle.std.specs.List.{AllByRecursion}
use Rattle.std.specs.Str.{bytes_eq}
use Rattle.dhash_model.specs.Signed.{hss_judged}
use Rattle.log_model.proofs.Lists.{each, each_append}
use Rattle.log_model.specs.Record.{Record}
use Rattle.log_model.specs.View.{View, IsView}
use Rattle.log_model.specs.ViewKeys.{HasKeys}
use Rattle.hash_signature_model.specs.Signer.{Signer}
use Rattle.ivy_base.specs.declared.operation.Moment.{Moment}
use Rattle.ivy_io.specs.Keepers as memory
use Rattle.dht_ids.specs.declared.ask.Answer.{Answer}
use Rattle.dht_ids.specs.declared.ask.Ask.{Ask}
use Rattle.dht_ids.specs.declared.peer.Peer.{Peer}
use Rattle.dht_ids.specs.declared.post.Post.{Post}
use Rattle.snapshot_model.specs.Spelling.{root_name, snapshot_blocks}
use Rattle.agent_model.specs.Agent.{entered, failed, kept_of, restored}
use Rattle.agent_model.specs.Others.{basis_of, snapped}
use Rattle.agent_model.specs.SavedBytes.{ArePostsSpelled}
use Rattle.agent_model.specs.Turning.{TurnEnd}
use Rattle.agent_model.specs.Views.{is_own_member, not_named}
use Rattle.session_model.specs.Sessions.{Session, Said}
use Rattle.session_model.specs.Executions.{Settles}
use Rattle.script_driver.specs.Run.{Goes}
use Rattle.script_model.specs.declared.command.Command.{Command}
use Rattle.script_model.specs.declared.command.Command.TheVariants as command
use Rattle.script_model.specs.Lines.{command_of}
use Rattle.world_model.specs.Agents.{HssAgent, IsHssKept, HssKept, TakesHssTurn, hss_signing, hss_kept_bytes, hss_opened}
use Rattle.world_model.specs.Calls.{replied}
use Rattle.world_model.specs.Fates.{FateOf}
use Rattle.world_model.specs.Keepers.{Keeper, asked_to_save, fails_next, fresh_keeper}
use Rattle.world_model.specs.Logs.{Played, fresh_signer, new_participant}
use Rattle.world_model.specs.Step.{IvyStep}
use Rattle.world_model.specs.Steps.{Configuration, after_turn}
use Rattle.world_model.specs.World.{World, Participant, participant, NamedView, view_named}
use Rattle.world_laws.specs.Effects.{Effect, LaterEffect, Plays, Renews, Touches}
use Rattle.world_laws.specs.Effects.Effect.{comes, loses, makes_view, of_nodes, opens, plays, renews, shows, times, touches}
use Rattle.world_laws.specs.Effects.IsAttempt.{to_enter, to_snap}
use Rattle.world_laws.specs.Effects.LaterEffect.{publishes, replies}
use Rattle.world_laws.specs.Effects.Plays.{calls, ends, steps}
use Rattle.world_laws.specs.Effects.Renews.{enters, starts_again}
use Rattle.world_laws.specs.Effects.Touches.{fails, plans, snaps, unable}
use Rattle.world_laws.specs.Invariant.{AreParticipants, Invariant}
use Rattle.world_laws.specs.Laws.{MakesNoSnapshot}
use Rattle.world_laws.specs.Moves.{Move, Moves}
use Rattle.world_laws.specs.Moves.Move.{asks, hears, lacks, settles, takes, turns}
use Rattle.world_laws.proofs.AllLines.{does_line}
use Rattle.world_laws.proofs.Bringing.{found_named}
use Rattle.world_laws.proofs.Effects.{by_effects, lines_have_effects, played_moves}
use Rattle.world_laws.proofs.LineFits.{Fits, command_fits}
use Rattle.world_laws.proofs.LogLines.{kept_whole}
use Rattle.world_laws.proofs.Moves.{all_moves, runs_move}
use Rattle.world_laws.proofs.NodeFates.{fate_rest}
use Rattle.world_laws.proofs.UseLines.{view_in, whole}
use Rattle.world_laws.proofs.RingLines.{fates_rest}

-- an ask touches no participant
pub fate_same : {w next : World} {to : Peer} {question : Ask} {answer : Answer} → FateOf hss_judged w to question answer next → next.participants ≡ w.participants
fate_same fate = ap (λ (v : World). v.participants) (fate_rest fate)

-- the fact stays through what is done with an agent and its keeper
pub record IsLasting (P : HssAgent → Keeper → Type 0) : Type 0 where
  pub turns : (now : Moment) (a : HssAgent) (y : Keeper) (view : View) (fails : Bool) (s : Session) (end : TurnEnd) (after : HssAgent) (saving : Option HssKept) (t : Session) → a.view ≡ Some view → P a y
      → TakesHssTurn (record { agent = a; view = view; now = now; fails = fails }) s end after saving t → P after (asked_to_save y saving)
  pub settles : (a after : HssAgent) (y : Keeper) (s t : Session) → P a y → Settles a s after t → P after y
  pub keeper : (a : HssAgent) (y z : Keeper) → z.kept ≡ y.kept → P a y → P a z
  pub restarts : (a : HssAgent) (y : Keeper) (k : HssKept) → P a y → IsHssKept k → y.kept ≡ Some (hss_kept_bytes k) → P (restored k) y
  pub enters : (a : HssAgent) (y : Keeper) (view : View) → P a y → IsHssKept (kept_of (entered a view))
      → P (entered a view) (asked_to_save y (Some (kept_of (entered a view)))) × P (failed a) (asked_to_save y (Some (kept_of (entered a view))))
  pub opens : (signer : Signer) (now : Moment) → IsHssKept (kept_of (hss_opened signer now)) → P (hss_opened signer now) (asked_to_save fresh_keeper (Some (kept_of (hss_opened signer now))))

-- it stays through snapshots, whether or not their save fails
abbrev pub LastsSnaps : (HssAgent → Keeper → Type 0) → Type 0
LastsSnaps P = (a : HssAgent) (y : Keeper) (view : View) → P a y → (let after : HssAgent = snapped a (root_name view (basis_of a.holding)) (snapshot_blocks view (basis_of a.holding)) in ArePostsSpelled after.pending
    → P after (asked_to_save y (Some (kept_of after))) × P (failed a) (asked_to_save y (Some (kept_of after))))

-- it does, or the command makes none
abbrev SnapsOrNot : (HssAgent → Keeper → Type 0) → Command → Type 0
SnapsOrNot P k = LastsSnaps P ⊎ ((log : List ℕ) → k ≢ command.Snap log)

module _ (P : HssAgent → Keeper → Type 0) (lasts : IsLasting P) where
  abbrev pub Lasts : Participant → Type 0
  Lasts p = P p.agent p.keeper

  abbrev pub AllLast : List Participant → Type 0
  AllLast ps = AllByRecursion Lasts ps

  -- one in place of another
  placed_lasting : (q : Participant) (ps : List Participant) → Lasts q → AllLast ps → AllLast (map (λ o. if bytes_eq o.name q.name then q else o) ps)
  placed_lasting q [] so all = tt
  placed_lasting q (p ∷ ps) so all = (by (bytes_eq p.name q.name), placed_lasting q ps so all.1)
    where
      by : (b : Bool) → Lasts (cond b q p)
      by true = so
      by false = all.0

  -- who is found by a name
  pub found_lasting : (w : World) (name : List ℕ) (p : Participant) → participant w name ≡ Some p → AllLast w.participants → Lasts p
  found_lasting w name p is all = each Lasts w.participants p all (found_named w.participants name p is).0

  -- ---- sessions

  still_lasting : (w next : World) → next.participants ≡ w.participants → AllLast w.participants → AllLast next.participants
  still_lasting w next same all = subst AllLast (sym same) all

  pub move_lasting : (r : ℕ) (name : List ℕ) (c next : Configuration) → Move hss_judged r name c next → AllLast c.world.participants → AllLast next.world.participants
  move_lasting r name c _ (takes p taken cache is taking) all = placed_lasting (record p { cache = cache }) c.world.participants (found_lasting c.world name p is all) all
  move_lasting r name c _ (asks node question answer next fate) all = still_lasting c.world next (fate_same fate) all
  move_lasting r name c _ (hears p node question answer next heard t cache is fate hearing goes) all =
      placed_lasting (record p { cache = cache }) next.participants (found_lasting c.world name p is all) (still_lasting c.world next (fate_same fate) all)
  move_lasting r name c _ (lacks t lacking) all = all
  move_lasting r name c _ (turns p view end after saving t work ghost_state began is in_view taking told) all =
      placed_lasting (record (after_turn p after saving) { work = work }) c.world.participants
      (lasts.turns c.world.now p.agent p.keeper view (fails_next p.keeper) c.session end after saving t in_view (found_lasting c.world name p is all) taking) all
  move_lasting r name c _ (settles p after t is settling) all =
      placed_lasting (record p { agent = after }) c.world.participants (lasts.settles p.agent after p.keeper c.session t (found_lasting c.world name p is all) settling) all

  moves_lasting : {r : ℕ} {name : List ℕ} {c next : Configuration} → Moves hss_judged r name c next → AllLast c.world.participants → AllLast next.world.participants
  moves_lasting {r} {name} on = all_moves (λ (x : Configuration). AllLast x.world.participants) (move_lasting r name) on

  -- ---- effects

  abbrev LastIn : Played → Type 0
  LastIn w = AllLast w.0.participants

  replied_lasting : (w : World) (said : Said) → AllLast w.participants → AllLast (replied w said).participants
  replied_lasting w said all = by (is_some said.message)
    where
      by : (t : Bool) → AllLast (cond t (record w { replies = w.replies ++ record { handle = said.handle; verifier = said.verifier } ∷ [] }) w).participants
      by true = all
      by false = all

  pub later_lasts : {k : Command} (w next : Played) → LaterEffect hss_judged w k next → LastIn w → LastIn next
  later_lasts w _ (publishes k alone r p end ringed is over on) all = moves_lasting (runs_move on) all
  later_lasts w _ (replies k ended said) all = replied_lasting w.0 said all

  module _ (w : Played) (keeps : Invariant w) (all : LastIn w) where
    -- what is saved for another view may be saved
    entered_whole : (name called : List ℕ) (p : Participant) (view : View) → participant w.0 name ≡ Some p → view_named w.0 called ≡ Some view → is_own_member hss_signing p.agent view ≡ true → not_named p.agent view ≡ None → IsHssKept (kept_of (entered p.agent view))
    entered_whole name called p view is is_view member named = whole w keeps p (ap (participant w.0) (found_named w.0.participants name p is).1 ∙ is) view fits.0 fits.1 fits.2 member named
      where
        fits : IsView view × HasKeys view × AreParticipants w.0 view
        fits =
            let found = view_in w.0.views called view is_view in
            subst (λ x. IsView x × HasKeys x × AreParticipants w.0 x) found.2 (each (λ (x : NamedView). IsView x.view × HasKeys x.view × AreParticipants w.0 x.view) w.0.views found.0 keeps.met.views found.1)

    touched_lasts : (name : List ℕ) (p q : Participant) {k : Command} {posts : List Post} → SnapsOrNot P k → participant w.0 name ≡ Some p → Touches w.0 p name k q posts → Lasts q
    touched_lasts name p _ snaps_so is (plans count new) = lasts.keeper p.agent p.keeper (memory.with_plan p.keeper count new) (same_kept (count == 0)) (found_lasting w.0 name p is all)
      where
        same_kept : (b : Bool) → (cond b p.keeper (memory.with_planned_fault p.keeper (p.keeper.saves + count) new)).kept ≡ p.keeper.kept
        same_kept true = refl
        same_kept false = refl
    touched_lasts name p _ snaps_so is (unable k saves was) = found_lasting w.0 name p is all
    touched_lasts name p _ snaps_so is (fails k saving was now (to_enter called view is_view member named)) =
        (lasts.enters p.agent p.keeper view (found_lasting w.0 name p is all) (entered_whole name called p view is is_view member named)).1
    touched_lasts name p _ (inl stays) is (fails k saving was now (to_snap view in_view spelled)) = (stays p.agent p.keeper view (found_lasting w.0 name p is all) spelled).1
    touched_lasts name p _ (inl stays) is (snaps view was now in_view spelled) = (stays p.agent p.keeper view (found_lasting w.0 name p is all) spelled).0
    touched_lasts name p _ (inr none) is (fails k saving was now (to_snap view in_view spelled)) = absurd (none name refl)
    touched_lasts name p _ (inr none) is (snaps view was now in_view spelled) = absurd (none name refl)

    renewed_lasts : (name : List ℕ) (p q : Participant) {k : Command} {posts : List Post} {set : List Record} → participant w.0 name ≡ Some p → Renews w p name k q posts set → Lasts q
    renewed_lasts name p _ is (enters called view is_view member named was now) =
        (lasts.enters p.agent p.keeper view (found_lasting w.0 name p is all) (entered_whole name called p view is is_view member named)).0
    renewed_lasts name p _ is (starts_again view k set in_view is_kept held again) = lasts.restarts p.agent p.keeper k (found_lasting w.0 name p is all) is_kept held

    played_lasts : {k : Command} {r : ℕ} {name : List ℕ} {c end : Configuration} {next : Played} → Plays hss_judged w r k name c end next → (AllLast c.world.participants → AllLast end.world.participants) → LastIn next
    played_lasts (calls log pieces s t end sends begins runs over) on = on all
    played_lasts (steps name count s end is going) on = on all
    played_lasts (ends name s end is runs over) on = on all

    pub effect_lasts : {k : Command} → Fits k → SnapsOrNot P k → (next : Played) → Effect hss_judged w k next → LastIn next
    effect_lasts fits snaps_so _ (shows _ is) = all
    effect_lasts fits snaps_so _ (times sec nsec) = all
    effect_lasts fits snaps_so _ (loses count) = all
    effect_lasts fits snaps_so _ (of_nodes _ ring next is) = still_lasting w.0 next (ap (λ (v : World). v.participants) is.rest) all
    effect_lasts fits snaps_so _ (makes_view name names others members former r view next are also new own_keys small ringed is put) = still_lasting w.0 next (ap (λ (v : World). v.participants) (fates_rest put.fates)) all
    effect_lasts fits snaps_so _ (comes name id seed sets new) =
        each_append Lasts w.0.participants (new_participant name (hss_opened (fresh_signer id seed sets) w.0.now) ∷ []) all
        (lasts.opens (fresh_signer id seed sets) w.0.now (kept_whole (fresh_signer id seed sets) fits refl w.0.now keeps.moment), tt)
    effect_lasts fits snaps_so _ (touches k name p q posts is touching) = placed_lasting q w.0.participants (touched_lasts name p q snaps_so is touching) all
    effect_lasts fits snaps_so _ (renews k name p q posts set is renewing) = placed_lasting (record q { cache = [] }) w.0.participants (renewed_lasts name p q is renewing) all
    effect_lasts fits snaps_so _ (opens name log pieces s t new sends begins) = all
    effect_lasts fits snaps_so next (plays _ r name c end _ ringed is) = played_lasts is (moves_lasting (played_moves is))

  pub lines_last : (w next : Played) (line output : List ℕ) → Invariant w → AllLast w.0.participants → LastsSnaps P ⊎ MakesNoSnapshot line → IvyStep w line (Goes next output) → AllLast next.0.participants
  lines_last w next line output keeps all within_frame step =
      let done = does_line w next output (command_of line) step in
      by_effects LastIn (effect_lasts w keeps all (command_fits line done.0 done.1) (⊎_elim (λ stays. inl stays) (λ none. inr (λ log is. none log (done.1 ∙ ap Some is))) within_frame)) later_lasts
      (lines_have_effects w next done.0 output done.2)
