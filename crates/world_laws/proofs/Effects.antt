-- A line that goes on has the effects of its command.
use Rattle.std.proofs.Common.{◌≡◌, ℕ, Bool, true, false, cond, List, [], ◌∷◌, Option, Some, None, refl, sym, ap, ◌∙◌, subst, Contains}
use Rattle.std.specs.Prelude.{IfSome, is_some, nat_le, nat_lt, ◌&&◌, ◌||◌, ◌==◌, not}
use Rattle.std.specs.Str.{bytes_eq}
use Rattle.std.proofs.lemmas.Slice.Eq.{bytes_eq-Decides}
use Rattle.ivy_base.specs.declared.key.Key.{Key}
use Rattle.ivy_base.specs.declared.key.PubKey.{PubKey}
use Rattle.hash_signature_model.specs.declared.set.Set.{Set}
use Rattle.dhash_model.specs.Signed.{hss_judged}
use Rattle.log_model.specs.View.{View}
use Rattle.agent_model.specs.SavedBytes.{ArePostsSpelled}
use Rattle.agent_model.specs.Agent.{entered, failed, kept_of}
use Rattle.agent_model.specs.Others.{basis_of}
use Rattle.snapshot_model.specs.Spelling.{root_name}
use Rattle.agent_model.specs.Views.{Entered, KeeperFailed, NotMember, entering_with, is_own_member, not_named}
use Rattle.dhash_model.specs.Stores.{Blocks, bytes_at, with_byte}
use Rattle.session_model.specs.Sessions.{Session}
use Rattle.round_laws.proofs.Rounding.{leaves_the_rest}
use Rattle.script_driver.specs.Run.{Ends, Exceeds, Goes, Outcome, Refuses}
use Rattle.script_model.specs.declared.command.Command.{Command}
use Rattle.script_model.specs.declared.command.Command.TheVariants as command
use Rattle.script_model.specs.declared.command.Piece.{Piece}
use Rattle.world_model.specs.Agents.{HssAgent, HssEntering, HssKept, hss_signing, hss_opened}
use Rattle.world_model.specs.Calls.{AsLine, FinishLine, OpenLine, Sending, StepLine, sending_of}
use Rattle.world_model.specs.Calls.AsLine.{calls as as_calls, sends_nothing as as_nothing}
use Rattle.world_model.specs.Calls.FinishLine.{ends as finish_ends, not_open as finish_not_open}
use Rattle.world_model.specs.Calls.OpenLine.{is_open, opens as open_opens, sends_nothing as open_nothing}
use Rattle.world_model.specs.Calls.StepLine.{not_open as step_not_open, out_of_range, steps as step_steps}
use Rattle.world_model.specs.Faults.{damage_by, damage_line, damaged_to, key_named, lose_line, meets_some, node_named}
use Rattle.world_model.specs.Keepers.{asked_to_save, fails_next}
use Rattle.world_model.specs.Logs.{LogLine, Played, Publishes, RestartLine, SnapLine, ViewLine, after_entering, at_line, beside, fresh_signer, keep_by, keep_line, keys_of, new_participant, snapping_in, use_by, with_new_participant}
use Rattle.world_model.specs.Logs.LogLine.{before_ring as log_before_ring, begins as log_begins, known as log_known}
use Rattle.world_model.specs.Logs.RestartLine.{nobody as restart_nobody, outside as restart_outside, starts as restart_starts}
use Rattle.world_model.specs.Logs.SnapLine.{cannot as snap_cannot, fails as snap_fails, makes as snap_makes, nobody as snap_nobody, outside as snap_outside}
use Rattle.world_model.specs.Logs.ViewLine.{exceeds as view_exceeds, known as view_known, makes as view_makes, no_former, no_members, one_head_key}
use Rattle.world_model.specs.Nodes.{Node}
use Rattle.world_model.specs.Ring.{JoinLine, RingLine, joined_node, peer_numbered, stop_line, with_new_node}
use Rattle.world_model.specs.Ring.JoinLine.{alone as join_alone, before_ring as join_before_ring, exceeds as join_exceeds, fails as join_fails, joins as join_joins, known as join_known}
use Rattle.world_model.specs.Ring.RingLine.{exceeds as ring_exceeds, makes as ring_makes, refused as ring_refused}
use Rattle.world_model.specs.Rounds.{RoundLine}
use Rattle.world_model.specs.Rounds.RoundLine.{before_ring as round_before_ring, goes as round_goes}
use Rattle.world_model.specs.Step.{Does}
use Rattle.world_model.specs.Steps.{RunsOut, Configuration, met_by}
use Rattle.world_model.specs.Steps.RunsOut.{is_over as runs_over, more as runs_more}
use Rattle.world_model.specs.World.{Participant, World, participant, session_named, view_named, with_node, with_participant}
use Rattle.world_laws.proofs.Bringing.{found_named}
use Rattle.world_laws.proofs.Placed.{found_in_place}
use Rattle.world_laws.proofs.Lines.{meets_more}
use Rattle.world_laws.proofs.NewParticipant.{found_after, none_named}
use Rattle.world_laws.proofs.Shows.{shows_are_still}
use Rattle.world_laws.specs.Effects.{Plays, PublishesAlone, ShowsText, Effect, Effects, NodesChange, ConfigurationIsOver, LaterEffect, LinesHaveEffects, LinesShowTexts, IsRingCommand, snapped_in}
use Rattle.world_laws.specs.Effects.Plays.{calls, ends, steps}
use Rattle.world_laws.specs.Effects.Effect.{comes, loses, makes_view, of_nodes, opens, plays, renews, shows, times, touches}
use Rattle.world_laws.specs.Effects.LaterEffect.{publishes, replies}
use Rattle.world_laws.specs.Effects.Effects.{once, twice}
use Rattle.world_laws.specs.Moves.{Moves}
use Rattle.world_laws.proofs.Moves.{runs_move, steps_move}
use Rattle.world_laws.proofs.RingLines.{fates_rest}
use Rattle.world_laws.specs.Effects.Renews.{enters, starts_again}
use Rattle.world_laws.specs.Effects.ShowsText.{join_failed, of_session, shows_nothing, shows_text, snap_failed, snap_made, use_failed}
use Rattle.world_laws.specs.Effects.Touches.{fails, plans, snaps, unable}
use Rattle.world_laws.specs.Effects.IsAttempt.{to_enter, to_snap}

-- ---- outcomes

abbrev To : Command → Played → Played → Type 0
To k w next = Effects hss_judged w k next

abbrev Leads : Command → Played → Outcome Played → Type 0
Leads k w (Goes next output) = To k w next × ShowsText k output
Leads k w Ends = Unit {0}
Leads k w Refuses = Unit {0}
Leads k w Exceeds = Unit {0}

abbrev LeadsIn : Command → Played → Outcome World → Type 0
LeadsIn k w (Goes next output) = To k w (next, w.1) × ShowsText k output
LeadsIn k w Ends = Unit {0}
LeadsIn k w Refuses = Unit {0}
LeadsIn k w Exceeds = Unit {0}

by_function : (k : Command) (w : Played) (o : Outcome World) (outcome : Outcome Played) → outcome ≡ beside w.1 o → LeadsIn k w o → Leads k w outcome
by_function k w o outcome does h = subst (Leads k w) (sym does) (by o h)
  where
    by : (o : Outcome World) → LeadsIn k w o → Leads k w (beside w.1 o)
    by (Goes next output) h = h
    by Ends h = tt
    by Refuses h = tt
    by Exceeds h = tt

-- with one effect it shows nothing
one : {k : Command} {w next : Played} → Effect hss_judged w k next → To k w next × ShowsText k []
one {k} c = (once c, shows_nothing k)

-- where the test holds
if_so : (k : Command) (w : Played) (t : Bool) (next : World) (output : List ℕ) → To k w (next, w.1) × ShowsText k output → LeadsIn k w (cond t (Goes next output) Refuses)
if_so k w true next output h = h
if_so k w false next output h = tt

-- ---- lines of the ring

by_asks : (w next : World) → next ≡ record w { nodes = next.nodes; asked = next.asked } → NodesChange w next
by_asks w next is = record {
  rest = is ∙ ap (λ (v : World). record w { replicas = v.replicas; nodes = next.nodes; asked = next.asked; met = v.met }) (sym is);
  ringed = λ r ringed. ap (λ (v : World). v.replicas) is ∙ ringed;
  grows = λ b c. subst (λ (v : World). Contains v.met b) (sym is) c;
}

of_ring : (k : Command) → IsRingCommand k → (w : Played) {count r : ℕ} {o : Outcome World} → RingLine w.0 count r o → LeadsIn k w o
of_ring k g w (ring_refused h) = tt
of_ring k g w (ring_exceeds h more) = tt
of_ring k g w {count} {r} (ring_makes nodes h more settled) = one (of_nodes k g _ (record {
  rest = refl;
  ringed = λ k ringed. absurd (yes_no (subst (λ (o : Option ℕ). (is_some o || not (nat_le 1 r && nat_le r 8) || count == 0) ≡ false) ringed h));
  grows = λ b c. c;
}))
  where
    yes_no : true ≡ false → ⊥
    yes_no e = cc e

of_join : (w : Played) {node : ℕ} {replicas : Option ℕ} {o : Outcome World} → JoinLine hss_judged w.0 node replicas o → LeadsIn (command.Join node) w o
of_join w join_before_ring = tt
of_join w (join_known r h) = tt
of_join w (join_exceeds r h more) = tt
of_join w {node} (join_alone r h more nobody) = one (of_nodes (command.Join node) tt _ (record { rest = refl; ringed = λ k ringed. ringed; grows = λ b c. c }))
of_join w {node} (join_joins r through p ps next h more least looks) =
    let asked = by_asks w.0 next (fates_rest looks.fates) in
    one (of_nodes (command.Join node) tt (with_new_node next (joined_node (peer_numbered node) r (p ∷ ps))) (record {
      rest = ap (λ (v : World). with_new_node v (joined_node (peer_numbered node) r (p ∷ ps))) asked.rest;
      ringed = asked.ringed;
      grows = asked.grows;
    }))
of_join w {node} (join_fails r through found next h more least looks nobody) = (once (of_nodes (command.Join node) tt next (by_asks w.0 next (fates_rest looks.fates))), join_failed node)

of_round : (k : Command) → IsRingCommand k → (w : Played) {replicas : Option ℕ} {o : Outcome World} → RoundLine hss_judged w.0 replicas o → LeadsIn k w o
of_round k g w round_before_ring = tt
of_round k g w (round_goes r next is) = one (of_nodes k g next (by_asks w.0 next (leaves_the_rest hss_judged r w.0 next is).0))

of_stop : (k : Command) → IsRingCommand k → (w : Played) (n : Option Node) → LeadsIn k w (stop_line w.0 n)
of_stop k g w None = tt
of_stop k g w (Some n) = if_so k w n.is_live (with_node w.0 (record n { is_live = false })) [] (one (of_nodes k g _ (record { rest = refl; ringed = λ k ringed. ringed; grows = λ b c. c })))

some_more : (met : List (List ℕ)) (o : Option (List ℕ)) (b : List ℕ) → Contains met b → Contains (meets_some met o) b
some_more met None b c = c
some_more met (Some block) b c = meets_more met block b c

of_damaged : (k : Command) → IsRingCommand k → (w : Played) (n : Node) (key : Key) (blocks : Option Blocks) → LeadsIn k w (damaged_to w.0 n key blocks)
of_damaged k g w n key None = tt
of_damaged k g w n key (Some blocks) = one (of_nodes k g _ (record { rest = refl; ringed = λ k ringed. ringed; grows = λ b c. some_more w.0.met (bytes_at key blocks) b c }))

of_damage : (k : Command) → IsRingCommand k → (w : Played) (n : Option Node) (key : Option Key) (offset byte : ℕ) → LeadsIn k w (damage_by w.0 n key offset byte)
of_damage k g w (Some n) (Some key) offset byte = of_damaged k g w n key (with_byte key offset byte n.blocks)
of_damage k g w (Some n) None offset byte = tt
of_damage k g w None key offset byte = tt

-- ---- sessions

ends_over : {r : ℕ} {name : List ℕ} {c end : Configuration} → RunsOut hss_judged r name c end → ConfigurationIsOver end
ends_over (runs_over said over) = (said, over)
ends_over (runs_more step rest) = ends_over rest

publishing : (k : Command) → PublishesAlone k → (w : Played) (r : ℕ) (p : Participant) (next : Played) → w.0.replicas ≡ Some r → participant w.0 p.name ≡ Some p → Publishes hss_judged r w p next → LaterEffect hss_judged w k next
publishing k alone w r p next ringed is_p published = subst (LaterEffect hss_judged w k) (sym published.2) (publishes k alone r p published.0 ringed is_p (ends_over published.1) published.1)

-- ---- lines of participants

of_log : (w : Played) (name id seed : List ℕ) (sets : List Set) (o : Outcome Played) → LogLine hss_judged w name id seed sets o → Leads (command.Log name id seed sets) w o
of_log w name id seed sets _ (log_before_ring h) = tt
of_log w name id seed sets _ (log_known h) = tt
of_log w name id seed sets _ (log_begins r p next ringed new is published) =
    (twice (comes name id seed sets new) (publishing (command.Log name id seed sets) tt (with_new_participant w q) r q next ringed found (subst (λ (x : Participant). Publishes hss_judged r (with_new_participant w x) x next) is published)), shows_nothing (command.Log name id seed sets))
  where
    q : Participant
    q = new_participant name (hss_opened (fresh_signer id seed sets) w.0.now)

    found : participant (with_new_participant w q).0 name ≡ Some q
    found = found_after (λ (x : Participant). bytes_eq x.name name) w.0.participants (q ∷ []) (none_named (participant w.0 name) new) ∙ ap (λ b. cond b (Some q) None) ((bytes_eq-Decides name name).1 refl)

of_view : (w : Played) (name : List ℕ) (names others : List (List ℕ)) (members former : Option (List PubKey)) (o : Outcome Played) → keys_of w.0 names ≡ members → keys_of w.0 others ≡ former
    → ViewLine hss_judged w name members former o → Leads (command.View name names others) w o
of_view w name names others _ _ _ are also (view_known h) = tt
of_view w name names others _ _ _ are also no_members = tt
of_view w name names others _ _ _ are also no_former = tt
of_view w name names others _ _ _ are also (one_head_key members former h) = tt
of_view w name names others _ _ _ are also (view_exceeds members former h g large) = tt
of_view w name names others _ _ _ are also (view_makes members former r view next new own_keys small ringed is put) =
    one (makes_view name names others members former r view next are also new own_keys small ringed is put)

module _ (w : Played) (log name : List ℕ) (p : Participant) (view : View) (is_p : participant w.0 log ≡ Some p) (is_view : view_named w.0 name ≡ Some view) where
  may_enter : is_own_member hss_signing p.agent view ≡ true → not_named p.agent view ≡ None → (before failing : Bool) → p.agent.has_failed ≡ before → fails_next p.keeper ≡ failing
      → Leads (command.Use log name) w (let came = cond {A = HssEntering × Option HssKept} before (KeeperFailed p.agent, None) (cond failing (KeeperFailed (failed p.agent)) (Entered (entered p.agent view)), Some (kept_of (entered p.agent view))) in after_entering w p view came.0 came.1)
  may_enter member named true failing was now = (once (touches (command.Use log name) log p p [] is_p (unable (command.Use log name) refl was)), use_failed log name p.name)
  may_enter member named false true was now = (once (touches (command.Use log name) log p _ [] is_p (fails (command.Use log name) _ was now (to_enter name view is_view member named))), use_failed log name p.name)
  may_enter member named false false was now = one (renews (command.Use log name) log p _ [] _ is_p (enters name view is_view member named was now))

  of_entering : Leads (command.Use log name) w (use_by w (Some p) (Some view))
  of_entering = by (is_own_member hss_signing p.agent view) refl (not_named p.agent view) refl
    where
      by : (m : Bool) → is_own_member hss_signing p.agent view ≡ m → (n : Option Key) → not_named p.agent view ≡ n
          → Leads (command.Use log name) w (let came = cond {A = HssEntering × Option HssKept} m (entering_with p.agent view (fails_next p.keeper) n) (NotMember, None) in after_entering w p view came.0 came.1)
      by false stranger n named = tt
      by true member (Some other) named = tt
      by true member None named = may_enter member named p.agent.has_failed (fails_next p.keeper) refl refl

of_use : (w : Played) (log name : List ℕ) (p : Option Participant) (view : Option View) → participant w.0 log ≡ p → view_named w.0 name ≡ view → Leads (command.Use log name) w (use_by w p view)
of_use w log name (Some p) (Some view) is_p is_view = of_entering w log name p view is_p is_view
of_use w log name (Some p) None is_p is_view = tt
of_use w log name None view is_p is_view = tt

of_keep : (w : Played) (log : List ℕ) (p : Option Participant) (count : ℕ) (new : Bool) → participant w.0 log ≡ p → LeadsIn (command.Keep log count new) w (keep_by w.0 p count new)
of_keep w log None count new is_p = tt
of_keep w log (Some p) count new is_p = if_so (command.Keep log count new) w (nat_lt 0 count) _ [] (one (touches (command.Keep log count new) log p _ [] is_p (plans count new)))

of_restart : (w : Played) (log : List ℕ) (p : Option Participant) (o : Outcome Played) → participant w.0 log ≡ p → RestartLine w p o → Leads (command.Restart log) w o
of_restart w log _ _ is_p restart_nobody = tt
of_restart w log _ _ is_p (restart_outside p h) = tt
of_restart w log _ _ is_p (restart_starts p view k set h whole kept known) = one (renews (command.Restart log) log p _ k.pending set is_p (starts_again view k set h whole kept known))

-- what a snapshot comes to
abbrev snap_out : Participant → View → Bool → Bool → (HssAgent × Bool) × Option HssKept
snap_out p view before failing = cond before ((p.agent, false), None) (cond failing (failed p.agent, false) (snapped_in p view, true), Some (kept_of (snapped_in p view)))

abbrev tried_so : Participant → (HssAgent × Bool) × Option HssKept → Participant
tried_so p out = record p { agent = out.0.0; keeper = asked_to_save p.keeper out.1 }

not_made : (w : Played) (log : List ℕ) (p : Participant) (view : View) → participant w.0 log ≡ Some p → p.agent.view ≡ Some view → (before failing : Bool) → p.agent.has_failed ≡ before → fails_next p.keeper ≡ failing
    → (snap_out p view before failing).0.1 ≡ false → IfSome (snap_out p view before failing).1 (λ k. ArePostsSpelled k.pending) → To (command.Snap log) w (with_participant w.0 (tried_so p (snap_out p view before failing)), w.1)
not_made w log p view is_p in_view true failing was now tried spelled = once (touches (command.Snap log) log p p [] is_p (unable (command.Snap log) refl was))
not_made w log p view is_p in_view false true was now tried spelled = once (touches (command.Snap log) log p _ [] is_p (fails (command.Snap log) _ was now (to_snap view in_view spelled)))
not_made w log p view is_p in_view false false was now tried spelled = absurd cc

was_made : (p : Participant) (view : View) (before failing : Bool) → p.agent.has_failed ≡ before → fails_next p.keeper ≡ failing → (snap_out p view before failing).0.1 ≡ true
    → (p.agent.has_failed ≡ false) × (fails_next p.keeper ≡ false) × (snap_out p view before failing ≡ ((snapped_in p view, true), Some (kept_of (snapped_in p view))))
was_made p view true failing was now tried = absurd cc
was_made p view false true was now tried = absurd cc
was_made p view false false was now tried = (was, now, refl)

of_snap : (w : Played) (log : List ℕ) (p : Option Participant) (o : Outcome Played) → participant w.0 log ≡ p → SnapLine hss_judged w p o → Leads (command.Snap log) w o
of_snap w log _ _ is_p snap_nobody = tt
of_snap w log _ _ is_p (snap_outside p h) = tt
of_snap w log _ _ is_p (snap_cannot p view h unspelled) = (once (shows (command.Snap log) tt), snap_failed log p.name)
of_snap w log _ _ is_p (snap_fails p view h tried spelled) = (not_made w log p view is_p h p.agent.has_failed (fails_next p.keeper) refl refl tried spelled, snap_failed log p.name)
of_snap w log _ _ is_p (snap_makes p q view r next h tried ringed is spelled published) = (
  twice (touches (command.Snap log) log p t t.agent.pending is_p (snaps view so.0 so.1 h (subst (λ (x : Participant). ArePostsSpelled x.agent.pending) same spelled)))
      (publishing (command.Snap log) tt (mid t) r t next ringed found (subst (λ (x : Participant). Publishes hss_judged r (mid x) x next) same published)),
  snap_made log p.name (root_name view (basis_of p.agent.holding)),
)
  where
    so : (p.agent.has_failed ≡ false) × (fails_next p.keeper ≡ false) × (snapping_in p view ≡ ((snapped_in p view, true), Some (kept_of (snapped_in p view))))
    so = was_made p view p.agent.has_failed (fails_next p.keeper) refl refl tried

    t : Participant
    t = record p { agent = snapped_in p view; keeper = asked_to_save p.keeper (Some (kept_of (snapped_in p view))); printed = Some (root_name view (basis_of p.agent.holding)) }

    same : q ≡ t
    same = is ∙ ap (λ (out : (HssAgent × Bool) × Option HssKept). record (tried_so p out) { printed = Some (root_name view (basis_of p.agent.holding)) }) so.2

    mid : Participant → Played
    mid x = (record (with_participant w.0 x) { met = met_by w.0.met x.agent.pending }, w.1)

    found : participant (mid t).0 t.name ≡ Some t
    found = subst (λ n. participant (mid t).0 n ≡ Some t) (sym (found_named w.0.participants log p is_p).1)
        (found_in_place w.0 log p t is_p refl)

-- ---- calls

of_as : (w : Played) (log : List ℕ) (pieces : List Piece) (sent : Option Sending) (o : Outcome Played) → sending_of w.0 log pieces ≡ sent → AsLine hss_judged w sent o → Leads (command.As log pieces) w o
of_as w log pieces _ _ is as_nothing = tt
of_as w log pieces _ _ is (as_calls s r t end said ringed begins runs over) =
    (twice (plays _ r s.by.name _ end (end.world, end.ghost_state) ringed (calls log pieces s t end is begins runs (Some said, over))) (replies (command.As log pieces) tt said), of_session (command.As log pieces) _ tt)

of_open : (w : Played) (name log : List ℕ) (pieces : List Piece) (sent : Option Sending) (o : Outcome Played) → sending_of w.0 log pieces ≡ sent → OpenLine hss_judged w name sent o → Leads (command.Open name log pieces) w o
of_open w name log pieces _ _ is open_nothing = tt
of_open w name log pieces _ _ is (is_open s h) = tt
of_open w name log pieces _ _ is (open_opens s t h begins) = one (opens name log pieces s t h is begins)

of_step : (w : Played) (name : List ℕ) (count : ℕ) (s : Option Session) (o : Outcome Played) → session_named w.0 name ≡ s → StepLine hss_judged w name count s o → Leads (command.Step name count) w o
of_step w name count _ _ is step_not_open = tt
of_step w name count _ _ is (out_of_range s h) = tt
of_step w name count _ _ is (step_steps s r end h ringed on) = one (plays _ r s.by _ end _ ringed (steps name count s end is on))

of_finish : (w : Played) (name : List ℕ) (s : Option Session) (o : Outcome Played) → session_named w.0 name ≡ s → FinishLine hss_judged w name s o → Leads (command.Finish name) w o
of_finish w name _ _ is finish_not_open = tt
of_finish w name _ _ is (finish_ends s r end said ringed runs over) = (twice (plays _ r s.by _ end _ ringed (ends name s end is runs (Some said, over))) (replies (command.Finish name) tt said), of_session (command.Finish name) _ tt)

-- ---- all of them

of_command : (w : Played) (c : Command) (outcome : Outcome Played) → Does hss_judged w c outcome → Leads c w outcome
of_command w (command.Ring nodes replicas) outcome does = by_function (command.Ring nodes replicas) w does.0 outcome does.2 (of_ring (command.Ring nodes replicas) tt w does.1)
of_command w (command.Log log id seed sets) outcome does = of_log w log id seed sets outcome does
of_command w (command.View view members former) outcome does = of_view w view members former (keys_of w.0 members) (keys_of w.0 former) outcome refl refl does
of_command w (command.Use log view) outcome does = subst (Leads (command.Use log view) w) (sym does) (of_use w log view (participant w.0 log) (view_named w.0 view) refl refl)
of_command w (command.At sec nsec) outcome does = by_function (command.At sec nsec) w (at_line w.0 sec nsec) outcome does (if_so (command.At sec nsec) w (nat_lt sec 4294967296 && nat_lt nsec 1000000000) _ [] (one (times sec nsec)))
of_command w (command.As log pieces) outcome does = of_as w log pieces (sending_of w.0 log pieces) outcome refl does
of_command w (command.Open session log pieces) outcome does = of_open w session log pieces (sending_of w.0 log pieces) outcome refl does
of_command w (command.Step session count) outcome does = of_step w session count (session_named w.0 session) outcome refl does
of_command w (command.Finish session) outcome does = of_finish w session (session_named w.0 session) outcome refl does
of_command w (command.Join node) outcome does = by_function (command.Join node) w does.0 outcome does.2 (of_join w does.1)
of_command w (command.Stop node) outcome does = by_function (command.Stop node) w (stop_line w.0 (node_named w.0 node)) outcome does (of_stop (command.Stop node) tt w (node_named w.0 node))
of_command w command.Round outcome does = by_function command.Round w does.0 outcome does.2 (of_round command.Round tt w does.1)
of_command w (command.Lose count) outcome does = by_function (command.Lose count) w (lose_line w.0 count) outcome does (if_so (command.Lose count) w (nat_lt 0 count && nat_le count 1000000) _ [] (one (loses count)))
of_command w (command.Damage node key offset byte) outcome does = by_function (command.Damage node key offset byte) w (damage_line w.0 node key offset byte) outcome does (of_damage (command.Damage node key offset byte) tt w (node_named w.0 node) (key_named w.0 key) offset byte)
of_command w (command.Snap log) outcome does = of_snap w log (participant w.0 log) outcome refl does
of_command w (command.Restart log) outcome does = of_restart w log (participant w.0 log) outcome refl does
of_command w (command.Keep log count new) outcome does = by_function (command.Keep log count new) w (keep_line w.0 log count new) outcome does (of_keep w log (participant w.0 log) count new refl)
of_command w (command.Show shown) outcome does = by_function (command.Show shown) w does.0 outcome does.2 (shows_are_still w.0 shown (LeadsIn (command.Show shown) w) (λ text. (once (shows (command.Show shown) tt), shows_text shown text)) tt tt does.0 does.1)
of_command w command.Nothing outcome does = subst (Leads command.Nothing w) (sym does) (one (shows command.Nothing tt))
of_command w command.End outcome does = subst (Leads command.End w) (sym does) tt

pub lines_have_effects : LinesHaveEffects
lines_have_effects w next c output does = (of_command w c (Goes next output) does).0

pub lines_show_texts : LinesShowTexts
lines_show_texts w next c output does = (of_command w c (Goes next output) does).1

-- ---- the principle

-- a session that goes on in a line makes moves
pub played_moves : {w : Played} {r : ℕ} {k : Command} {name : List ℕ} {c end : Configuration} {next : Played} → Plays hss_judged w r k name c end next → Moves hss_judged r name c end
played_moves (calls log pieces s t end is begins runs over) = runs_move runs
played_moves (steps name count s end is on) = steps_move on
played_moves (ends name s end is runs over) = runs_move runs

-- what each effect leaves so from here, and each later one, a line leaves so
pub by_effects : (P : Played → Type 0) {k : Command} {w : Played} → ((next : Played) → Effect hss_judged w k next → P next) → ((v next : Played) → LaterEffect hss_judged v k next → P v → P next) → {next : Played} → Effects hss_judged w k next → P next
by_effects P {w = w} first later (once {next = next} c) = first next c
by_effects P {w = w} first later (twice {mid = mid} {next = next} c d) = later mid next d (first mid c)
