-- Each outcome of a line is of the line's kind, case by case.
use Rattle.std.proofs.Common.{◌≡◌, ℕ, Bool, true, false, cond, List, ◌++◌, codes, map, length, Option, Some, None, refl, sym, ap, ◌∙◌}
use Rattle.std.specs.Prelude.{MatchBool, nat_lt, nat_le, is_some, sum_by}
use Rattle.ivy_base.specs.declared.key.Key.{Key}
use Rattle.ivy_base.specs.declared.key.PubKey.{PubKey}
use Rattle.hash_signature_model.specs.declared.set.Set.{Set}
use Rattle.dht_ids.specs.declared.judge.Judged.{Judged}
use Rattle.dhash_model.specs.Signed.{hss_judged}
use Rattle.log_model.specs.View.{have_own_head_keys}
use Rattle.session_model.specs.Sessions.{Session}
use Rattle.fork_model.specs.Before.{Before}
use Rattle.script_driver.specs.Run.{Outcome, Goes, Ends, Refuses, Exceeds}
use Rattle.script_model.specs.declared.command.Command.{Command}
use Rattle.script_model.specs.declared.command.Command.TheVariants as command
use Rattle.script_model.specs.declared.command.Shown.{Shown}
use Rattle.script_model.specs.declared.command.Shown.TheVariants as shown
use Rattle.script_model.specs.Lines.{command_of}
use Rattle.world_model.specs.World.{World, Participant, participant, peer_of, session_named, view_named}
use Rattle.world_model.specs.GhostState.{GhostState}
use Rattle.world_model.specs.Ring.{RingLine, JoinLine, is_known_id, is_refused_ring, peer_numbered}
use Rattle.world_model.specs.Ring.RingLine.{refused as ring_refused, exceeds as ring_exceeds, makes as ring_makes}
use Rattle.world_model.specs.Ring.JoinLine.{before_ring as join_before_ring, known as join_known, exceeds as join_exceeds, alone as join_alone, joins as join_joins, fails as join_fails}
use Rattle.world_model.specs.Rounds.{RoundLine}
use Rattle.world_model.specs.Rounds.RoundLine.{before_ring as round_before_ring, goes as round_goes}
use Rattle.world_model.specs.Logs.{Played, LogLine, ViewLine, RestartLine, SnapLine, beside, is_too_large}
use Rattle.world_model.specs.Logs.LogLine.{before_ring as log_before_ring, known as log_known, begins as log_begins}
use Rattle.world_model.specs.Logs.ViewLine.{known as view_known, no_members as view_no_members, no_former as view_no_former, one_head_key as view_one_head_key, exceeds as view_exceeds, makes as view_makes}
use Rattle.world_model.specs.Logs.RestartLine.{nobody as restart_nobody, outside as restart_outside, starts as restart_starts}
use Rattle.world_model.specs.Logs.SnapLine.{cannot as snap_cannot, nobody as snap_nobody, outside as snap_outside, fails as snap_fails, makes as snap_makes}
use Rattle.world_model.specs.Calls.{AsLine, OpenLine, StepLine, FinishLine, Sending, is_step_count}
use Rattle.world_model.specs.Calls.AsLine.{sends_nothing as whole_sends_nothing, calls as whole_calls}
use Rattle.world_model.specs.Calls.OpenLine.{sends_nothing as opening_sends_nothing, is_open as opening_is_open, opens as opening_opens}
use Rattle.world_model.specs.Calls.StepLine.{not_open as stepping_not_open, out_of_range as stepping_out_of_range, steps as stepping_steps}
use Rattle.world_model.specs.Calls.FinishLine.{not_open as finishing_not_open, ends as finishing_ends}
use Rattle.world_model.specs.Shows.{Shows, of_known, proof_shown, show_line, shown_as}
use Rattle.world_model.specs.Step.{Does, MayDoFirst, Untold, WithinLimit, is_end, most_bytes}
use Rattle.world_laws.specs.Kinds.{Kind, Going, Ending, Refused, Limited, kind, ring_kind, log_kind, view_kind, sending_kind, open_kind, session_kind, join_kind, round_kind, in_view_kind, shown_kind, command_kind, within_limit_kind, first_kind, LineHasOneKind}

-- a test that is known to be true, or false
if_true : (b : Bool) (k l : Kind) → b ≡ true → cond b k l ≡ k
if_true true k l h = refl
if_true false k l h = cc

if_false : (b : Bool) (k l : Kind) → b ≡ false → cond b k l ≡ l
if_false true k l h = cc
if_false false k l h = refl

-- ---- lines

beside_kind : (st : GhostState) (o : Outcome World) → kind (beside st o) ≡ kind o
beside_kind st (Goes next output) = refl
beside_kind st Ends = refl
beside_kind st Refuses = refl
beside_kind st Exceeds = refl

of_ring : {w : World} {count r : ℕ} {o : Outcome World} → RingLine w count r o → kind o ≡ ring_kind w count r
of_ring {w} {count} {r} (ring_refused h) = sym (if_true (is_refused_ring w count r) Refused (cond (nat_le count 256) Going Limited) h)
of_ring {w} {count} {r} (ring_exceeds h g) = sym (if_false (is_refused_ring w count r) Refused (cond (nat_le count 256) Going Limited) h ∙ if_false (nat_le count 256) Going Limited g)
of_ring {w} {count} {r} (ring_makes nodes h g settled) = sym (if_false (is_refused_ring w count r) Refused (cond (nat_le count 256) Going Limited) h ∙ if_true (nat_le count 256) Going Limited g)

is_there : {A : Type 0} (o : Option A) (x : A) → o ≡ Some x → is_some o ≡ true
is_there o x h = ap is_some h

of_log : {judged : Key → List ℕ → Option Judged} {w : Played} {name id seed : List ℕ} {sets : List Set} {o : Outcome Played} → LogLine judged w name id seed sets o → kind o ≡ log_kind w.0 name
of_log {w = w} {name = name} (log_before_ring h) = sym (if_false (is_some w.0.replicas) (cond (is_some (participant w.0 name)) Refused Going) Refused h)
of_log {w = w} {name = name} (log_known h) = sym (known_kind (is_some w.0.replicas) (is_some (participant w.0 name)) h)
  where
    known_kind : (b c : Bool) → c ≡ true → cond b (cond c Refused Going) Refused ≡ Refused
    known_kind true true h = refl
    known_kind true false h = cc
    known_kind false c h = refl
of_log {w = w} {name = name} (log_begins r p next ringed new is published) =
    sym (if_true (is_some w.0.replicas) (cond (is_some (participant w.0 name)) Refused Going) Refused (is_there w.0.replicas r ringed) ∙ if_false (is_some (participant w.0 name)) Refused Going new)

-- whether the name is taken, the head keys are apart, and it is too large
abbrev view_cases : Bool → Bool → Bool → Kind
view_cases taken apart large = cond taken Refused (cond apart (cond large Limited Going) Refused)

one_taken : (taken apart large : Bool) → taken ≡ true → view_cases taken apart large ≡ Refused
one_taken true apart large h = refl
one_taken false apart large h = cc

not_apart : (taken apart large : Bool) → apart ≡ false → view_cases taken apart large ≡ Refused
not_apart true apart large h = refl
not_apart false true large h = cc
not_apart false false large h = refl

large_or_not : (taken apart large : Bool) → taken ≡ false → apart ≡ true → view_cases taken apart large ≡ cond large Limited Going
large_or_not true apart large h g = cc
large_or_not false true large h g = refl
large_or_not false false large h g = cc

of_view : {judged : Key → List ℕ → Option Judged} {w : Played} {name : List ℕ} {members former : Option (List PubKey)} {o : Outcome Played} → ViewLine judged w name members former o → kind o ≡ view_kind w.0 name members former
of_view {w = w} {name = name} (view_known {members = Some members} {former = Some former} h) = sym (one_taken (is_some (view_named w.0 name)) (have_own_head_keys (members ++ former)) (is_too_large members former) h)
of_view (view_known {members = Some members} {former = None} h) = refl
of_view (view_known {members = None} {former = former} h) = refl
of_view view_no_members = refl
of_view (view_no_former {members = None}) = refl
of_view (view_no_former {members = Some members}) = refl
of_view {w = w} {name = name} (view_one_head_key members former h) = sym (not_apart (is_some (view_named w.0 name)) (have_own_head_keys (members ++ former)) (is_too_large members former) h)
of_view {w = w} {name = name} (view_exceeds members former h g large) =
    sym (large_or_not (is_some (view_named w.0 name)) (have_own_head_keys (members ++ former)) (is_too_large members former) h g ∙ if_true (is_too_large members former) Limited Going large)
of_view {w = w} {name = name} (view_makes members former r view next h g small ringed is put) =
    sym (large_or_not (is_some (view_named w.0 name)) (have_own_head_keys (members ++ former)) (is_too_large members former) h g ∙ if_false (is_too_large members former) Limited Going small)

of_as : {judged : Key → List ℕ → Option Judged} {w : Played} {sent : Option Sending} {o : Outcome Played} → AsLine judged w sent o → kind o ≡ sending_kind Going sent
of_as whole_sends_nothing = refl
of_as (whole_calls s r t end said ringed begins runs over) = refl

of_open : {judged : Key → List ℕ → Option Judged} {w : Played} {name : List ℕ} {sent : Option Sending} {o : Outcome Played} → OpenLine judged w name sent o → kind o ≡ sending_kind (open_kind w.0 name) sent
of_open opening_sends_nothing = refl
of_open {w = w} {name = name} (opening_is_open s h) = sym (if_true (is_some (session_named w.0 name)) Refused Going h)
of_open {w = w} {name = name} (opening_opens s t h begins) = sym (if_false (is_some (session_named w.0 name)) Refused Going h)

of_step : {judged : Key → List ℕ → Option Judged} {w : Played} {name : List ℕ} {count : ℕ} {s : Option Session} {o : Outcome Played} → StepLine judged w name count s o → kind o ≡ session_kind (is_step_count count) s
of_step stepping_not_open = refl
of_step {count = count} (stepping_out_of_range s h) = sym (if_false (is_step_count count) Going Refused h)
of_step {count = count} (stepping_steps s r end h ringed steps) = sym (if_true (is_step_count count) Going Refused h)

of_finish : {judged : Key → List ℕ → Option Judged} {w : Played} {name : List ℕ} {s : Option Session} {o : Outcome Played} → FinishLine judged w name s o → kind o ≡ session_kind true s
of_finish finishing_not_open = refl
of_finish (finishing_ends s r end said ringed runs over) = refl

of_join : {judged : Key → List ℕ → Option Judged} {w : World} {node : ℕ} {replicas : Option ℕ} {o : Outcome World} → JoinLine judged w node replicas o → kind o ≡ join_kind w node replicas
of_join join_before_ring = refl
of_join {w = w} {node = node} (join_known r h) = sym (if_true (is_known_id (map peer_of w.nodes) (peer_numbered node)) Refused (cond (nat_le 256 (length w.nodes)) Limited Going) h)
of_join {w = w} {node = node} (join_exceeds r h g) =
    sym (if_false (is_known_id (map peer_of w.nodes) (peer_numbered node)) Refused (cond (nat_le 256 (length w.nodes)) Limited Going) h ∙ if_true (nat_le 256 (length w.nodes)) Limited Going g)
of_join {w = w} {node = node} (join_alone r h g none) =
    sym (if_false (is_known_id (map peer_of w.nodes) (peer_numbered node)) Refused (cond (nat_le 256 (length w.nodes)) Limited Going) h ∙ if_false (nat_le 256 (length w.nodes)) Limited Going g)
of_join {w = w} {node = node} (join_joins r through p ps next h g least looks) =
    sym (if_false (is_known_id (map peer_of w.nodes) (peer_numbered node)) Refused (cond (nat_le 256 (length w.nodes)) Limited Going) h ∙ if_false (nat_le 256 (length w.nodes)) Limited Going g)
of_join {w = w} {node = node} (join_fails r through found next h g least looks nobody) =
    sym (if_false (is_known_id (map peer_of w.nodes) (peer_numbered node)) Refused (cond (nat_le 256 (length w.nodes)) Limited Going) h ∙ if_false (nat_le 256 (length w.nodes)) Limited Going g)

of_round : {judged : Key → List ℕ → Option Judged} {w : World} {replicas : Option ℕ} {o : Outcome World} → RoundLine judged w replicas o → kind o ≡ round_kind replicas
of_round round_before_ring = refl
of_round (round_goes r next is) = refl

of_restart : {w : Played} {p : Option Participant} {o : Outcome Played} → RestartLine w p o → kind o ≡ in_view_kind p
of_restart restart_nobody = refl
of_restart (restart_outside p h) = sym (if_false (is_some p.agent.view) Going Refused (ap is_some h))
of_restart (restart_starts p v k set h whole kept known) = sym (if_true (is_some p.agent.view) Going Refused (is_there p.agent.view v h))

of_snap : {judged : Key → List ℕ → Option Judged} {w : Played} {p : Option Participant} {o : Outcome Played} → SnapLine judged w p o → kind o ≡ in_view_kind p
of_snap snap_nobody = refl
of_snap (snap_outside p h) = sym (if_false (is_some p.agent.view) Going Refused (ap is_some h))
of_snap (snap_cannot p v h unspelled) = sym (if_true (is_some p.agent.view) Going Refused (is_there p.agent.view v h))
of_snap (snap_fails p v h tried spelled) = sym (if_true (is_some p.agent.view) Going Refused (is_there p.agent.view v h))
of_snap (snap_makes p q v r next h tried ringed is spelled published) = sym (if_true (is_some p.agent.view) Going Refused (is_there p.agent.view v h))

-- what tells which blocks are records decides on the text of a line alone
any_teller : (before other : Before) (w : World) (s : Shown) → kind (show_line before w s) ≡ kind (show_line other w s)
any_teller before other w (shown.Holds node) = refl
any_teller before other w (shown.Order log) = refl
any_teller before other w (shown.Work log) = refl
any_teller before other w (shown.Conflicts log) = refl
any_teller before other w (shown.Proof log) = by (participant w log)
  where
    by : (o : Option Participant) → kind (shown_as w (codes "proof") (of_known (proof_shown before w) o)) ≡ kind (shown_as w (codes "proof") (of_known (proof_shown other w) o))
    by None = refl
    by (Some p) = refl

of_show : (w : World) (s : Shown) (o : Outcome World) → Shows w s o → kind o ≡ shown_kind w s
of_show w s o shows = ap kind shows.2 ∙ any_teller shows.0 (λ owner seq block. None) w s

-- ---- the whole

untold : (w : Played) (Line : Outcome World → Type 0) (k : Kind) → ((o : Outcome World) → Line o → kind o ≡ k) → (outcome : Outcome Played) → Untold w Line outcome → kind outcome ≡ k
untold w Line k each outcome does = ap kind does.2 ∙ beside_kind w.1 does.0 ∙ each does.0 does.1

by_function : (w : Played) (o : Outcome World) (outcome : Outcome Played) → outcome ≡ beside w.1 o → kind outcome ≡ kind o
by_function w o outcome does = ap kind does ∙ beside_kind w.1 o

of_command : (w : Played) (c : Command) (outcome : Outcome Played) → Does hss_judged w c outcome → kind outcome ≡ command_kind w c
of_command w (command.Ring nodes replicas) outcome does = untold w (RingLine w.0 nodes replicas) (ring_kind w.0 nodes replicas) (λ o h. of_ring h) outcome does
of_command w (command.Log log id seed sets) outcome does = of_log does
of_command w (command.View view members former) outcome does = of_view does
of_command w (command.Use log view) outcome does = ap kind does
of_command w (command.At sec nsec) outcome does = by_function w _ outcome does
of_command w (command.As log pieces) outcome does = of_as does
of_command w (command.Open session log pieces) outcome does = of_open does
of_command w (command.Step session count) outcome does = of_step does
of_command w (command.Finish session) outcome does = of_finish does
of_command w (command.Join node) outcome does = untold w (JoinLine hss_judged w.0 node w.0.replicas) (join_kind w.0 node w.0.replicas) (λ o h. of_join h) outcome does
of_command w (command.Stop node) outcome does = by_function w _ outcome does
of_command w command.Round outcome does = untold w (RoundLine hss_judged w.0 w.0.replicas) (round_kind w.0.replicas) (λ o h. of_round h) outcome does
of_command w (command.Lose count) outcome does = by_function w _ outcome does
of_command w (command.Damage node key offset byte) outcome does = by_function w _ outcome does
of_command w (command.Snap log) outcome does = of_snap does
of_command w (command.Restart log) outcome does = of_restart does
of_command w (command.Keep log count new) outcome does = by_function w _ outcome does
of_command w (command.Show shown) outcome does = untold w (Shows w.0 shown) (shown_kind w.0 shown) (λ o h. of_show w.0 shown o h) outcome does
of_command w command.Nothing outcome does = ap kind does
of_command w command.End outcome does = ap kind does

within : (full : Bool) (outcome : Outcome Played) (may : Type 0) (k : Kind) → (may → kind outcome ≡ k) → MatchBool full (outcome ≡ Exceeds) may → kind outcome ≡ cond full Limited k
within true outcome may k each does = ap kind does
within false outcome may k each does = each does

of_first : (w : Played) (c : Option Command) (outcome : Outcome Played) → WithinLimit w c outcome → kind outcome ≡ within_limit_kind w c
of_first w None outcome does = within (nat_lt most_bytes (sum_by (λ b. length b) w.0.met)) outcome (outcome ≡ Refuses) Refused (λ h. ap kind h) does
of_first w (Some c) outcome does = within (nat_lt most_bytes (sum_by (λ b. length b) w.0.met)) outcome (Does hss_judged w c outcome) (command_kind w c) (of_command w c outcome) does

of_line : (w : Played) (c : Option Command) (outcome : Outcome Played) → MayDoFirst w c outcome → kind outcome ≡ first_kind w c
of_line w c outcome does = by (is_end c) does
  where
    by : (b : Bool) → MatchBool b (outcome ≡ Ends) (WithinLimit w c outcome) → kind outcome ≡ cond b Ending (within_limit_kind w c)
    by true does = ap kind does
    by false does = of_first w c outcome does

pub line_has_one_kind : LineHasOneKind
line_has_one_kind w line outcome does = of_line w (command_of line) outcome does
