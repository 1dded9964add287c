-- A line by which no session begins or goes on leaves sessions as they are, or drops them, and shows no reply.
use Rattle.std.proofs.Common.{◌≡◌, ℕ, List, [], ◌++◌, refl, ap, ◌∙◌, subst, arith, Contains}
use Rattle.std.specs.Prelude.{codes}
use Rattle.ivy_base.specs.declared.key.Key.{Key}
use Rattle.wire_model.specs.Rpc.{SystemError, reply}
use Rattle.dhash_model.specs.Signed.{hss_judged}
use Rattle.log_model.proofs.Lists.{from_filter}
use Rattle.script_driver.specs.Run.{Goes, Outcome}
use Rattle.script_model.specs.declared.command.Command.{Command}
use Rattle.script_model.specs.declared.command.Command.TheVariants as command
use Rattle.world_model.specs.Calls.{reply_line}
use Rattle.world_model.specs.Logs.{Played, failed_text, snap_text, with_view}
use Rattle.world_model.specs.Step.{Does}
use Rattle.world_model.specs.Steps.{RunsOut, Configuration, StepsOn}
use Rattle.world_model.specs.World.{NamedSession, World}
use Rattle.world_laws.specs.Effects.{Effect, EndsSession, IsOfSessions, LaterEffect, Plays, ShowsText}
use Rattle.world_laws.specs.Effects.Effect.{comes, loses, makes_view, of_nodes, opens, plays, renews, shows, times, touches}
use Rattle.world_laws.specs.Effects.LaterEffect.{publishes, replies}
use Rattle.world_laws.specs.Effects.Plays.{calls, ends, steps}
use Rattle.world_laws.specs.Effects.ShowsText.{join_failed, of_session, shows_nothing, shows_text, snap_failed, snap_made, use_failed}
use Rattle.world_laws.specs.Moves.{Move, Moves}
use Rattle.world_laws.specs.Moves.Move.{asks, hears, lacks, settles, takes, turns}
use Rattle.world_laws.proofs.Effects.{by_effects, lines_have_effects, lines_show_texts}
use Rattle.world_laws.proofs.Moves.{all_moves, runs_move, steps_move}
use Rattle.world_laws.proofs.NodeFates.{fate_rest}
use Rattle.world_laws.proofs.ShownReplies.{byte_at}
use Rattle.world_laws.proofs.Shows.{shows_no_reply}
use Rattle.world_laws.proofs.RingLines.{fates_rest}

-- ---- what changes no session and no reply

-- it doesn't begin with the reply when out of memory
abbrev pub IsUnlike : List ℕ → Type 0
IsUnlike output = (xid : ℕ) (rest : List ℕ) → output ≡ reply_line (reply xid SystemError) ++ rest → ⊥

-- no reply came, no session is there that wasn't as it was, and no such reply is shown
pub record StaysQuiet (w next : World) (output : List ℕ) : Type 0 where
  pub replies : next.replies ≡ w.replies
  pub sessions : (s : NamedSession) → Contains next.sessions s → Contains w.sessions s
  pub shown : IsUnlike output

no_text : IsUnlike []
no_text xid rest e = cc e

abbrev IsSame : World → World → Type 0
IsSame w next = (next.replies ≡ w.replies) × (next.sessions ≡ w.sessions)

same_after : (w mid next : World) → IsSame w mid → IsSame mid next → IsSame w next
same_after w mid next one other = (other.0 ∙ one.0, other.1 ∙ one.1)

asked_same : (w next : World) → next ≡ record w { nodes = next.nodes; asked = next.asked } → IsSame w next
asked_same w next is = (ap (λ (v : World). v.replies) is, ap (λ (v : World). v.sessions) is)

-- ---- sessions

module _ (w : World) where
  move_same : {r : ℕ} {name : List ℕ} (c next : Configuration) → Move hss_judged r name c next → IsSame w c.world → IsSame w next.world
  move_same c _ (takes p taken cache is taking) same = same
  move_same c _ (asks node question answer next fate) same = same_after w c.world next same (asked_same c.world next (fate_rest fate))
  move_same c _ (hears p node question answer next heard t cache is fate hearing goes) same = same_after w c.world next same (asked_same c.world next (fate_rest fate))
  move_same c _ (lacks t lacking) same = same
  move_same c _ (turns p view end after saving t work ghost_state began is in_view taking told) same = same
  move_same c _ (settles p after t is settling) same = same

moves_same : {r : ℕ} {name : List ℕ} {c end : Configuration} → Moves hss_judged r name c end → IsSame c.world end.world
moves_same {c = c} on = all_moves (λ (x : Configuration). IsSame c.world x.world) (move_same c.world) on (refl, refl)

pub runs_same : {r : ℕ} {name : List ℕ} {c next : Configuration} → RunsOut hss_judged r name c next → IsSame c.world next.world
runs_same runs = moves_same (runs_move runs)

pub steps_same : {r : ℕ} {name : List ℕ} {count : ℕ} {c next : Configuration} → StepsOn hss_judged r name count c next → IsSame c.world next.world
steps_same on = moves_same (steps_move on)

-- ---- what is shown

not_use : (name : List ℕ) → IsUnlike (failed_text (codes "use") name)
not_use name xid rest e = (let at : 117 ≡ 114 = ap (byte_at 0) e in omega (arith, at))

not_snap : (name : List ℕ) → IsUnlike (failed_text (codes "snap") name)
not_snap name xid rest e = (let at : 115 ≡ 114 = ap (byte_at 0) e in omega (arith, at))

not_snapped : (name : List ℕ) (root : Key) → IsUnlike (snap_text name root)
not_snapped name root xid rest e = (let at : 115 ≡ 114 = ap (byte_at 0) e in omega (arith, at))

quiet_text : {k : Command} {output : List ℕ} → (IsOfSessions k → ⊥) → ShowsText k output → IsUnlike output
quiet_text other (shows_nothing k) = no_text
quiet_text other (join_failed node) = λ xid rest e. (let at : 106 ≡ 114 = ap (byte_at 0) e in omega (arith, at))
quiet_text other (use_failed log called name) = not_use name
quiet_text other (snap_failed log name) = not_snap name
quiet_text other (snap_made log name root) = not_snapped name root
quiet_text other (shows_text s text) = λ xid rest e. shows_no_reply s text (reply xid SystemError) rest e
quiet_text other (of_session k output is) = absurd (other is)

-- ---- lines

-- no reply came, and no session is there that wasn't as it was
abbrev KeepsSessions : World → World → Type 0
KeepsSessions w next = (next.replies ≡ w.replies) × ((s : NamedSession) → Contains next.sessions s → Contains w.sessions s)

kept : (w mid next : World) → KeepsSessions w mid → IsSame mid next → KeepsSessions w next
kept w mid next keeps same = (same.0 ∙ keeps.0, λ s c. keeps.1 s (subst (λ (ss : List NamedSession). Contains ss s) same.1 c))

all_kept : (w : World) → KeepsSessions w w
all_kept w = (refl, λ s c. c)

is_of_sessions : {k : Command} {w next : Played} {r : ℕ} {name : List ℕ} {c end : Configuration} → Plays hss_judged w r k name c end next → IsOfSessions k
is_of_sessions (calls log pieces s t end sends begins runs over) = tt
is_of_sessions (steps name count s end is going) = tt
is_of_sessions (ends name s end is runs over) = tt

ends_it : (k : Command) → EndsSession k → IsOfSessions k
ends_it (command.As log pieces) whole = tt
ends_it (command.Finish session) whole = tt
ends_it _ whole = absurd whole

module _ (w : Played) where
  effect_keeps : {k : Command} → (IsOfSessions k → ⊥) → (next : Played) → Effect hss_judged w k next → KeepsSessions w.0 next.0
  effect_keeps other _ (shows _ is) = all_kept w.0
  effect_keeps other _ (times sec nsec) = (refl, λ s c. c)
  effect_keeps other _ (loses count) = (refl, λ s c. c)
  effect_keeps other _ (of_nodes _ ring next is) = kept w.0 w.0 next (all_kept w.0) (ap (λ (v : World). v.replies) is.rest, ap (λ (v : World). v.sessions) is.rest)
  effect_keeps other _ (makes_view name names others members former r view next are also new own_keys small ringed is put) =
      kept w.0 (with_view w.0 name view) next (refl, λ s c. c) (asked_same (with_view w.0 name view) next (fates_rest put.fates))
  effect_keeps other _ (comes name id seed sets new) = (refl, λ s c. c)
  effect_keeps other _ (touches _ name p q posts is touching) = (refl, λ s c. c)
  effect_keeps other _ (renews _ name p q posts set is renewing) = (refl, λ s c. (from_filter _ w.0.sessions s c).0)
  effect_keeps other _ (opens name log pieces s t new sends begins) = absurd (other tt)
  effect_keeps other next (plays _ r name c end _ ringed is) = absurd (other (is_of_sessions is))

  later_keeps : {k : Command} → (IsOfSessions k → ⊥) → (mid next : Played) → LaterEffect hss_judged mid k next → KeepsSessions w.0 mid.0 → KeepsSessions w.0 next.0
  later_keeps other mid _ (publishes _ alone r p end ringed is over on) keeps = kept w.0 mid.0 end.world keeps (moves_same (runs_move on))
  later_keeps other mid _ (replies k whole said) keeps = absurd (other (ends_it k whole))

quiet_line : (w next : Played) (c : Command) (output : List ℕ) → (IsOfSessions c → ⊥) → Does hss_judged w c (Goes next output) → StaysQuiet w.0 next.0 output
quiet_line w next c output other does =
    let keeps : KeepsSessions w.0 next.0 = by_effects (λ (v : Played). KeepsSessions w.0 v.0) (effect_keeps w other) (later_keeps w other) (lines_have_effects w next c output does) in
    record { replies = keeps.0; sessions = keeps.1; shown = quiet_text other (lines_show_texts w next c output does) }

abbrev pub Quietly : Played → Outcome Played → Type 0
Quietly w (Goes next output) = StaysQuiet w.0 next.0 output
Quietly w _ = Unit {0}

pub quiet_command : (w : Played) (c : Command) → (IsOfSessions c → ⊥) → (outcome : Outcome Played) → Does hss_judged w c outcome → Quietly w outcome
quiet_command w c other (Goes next output) does = quiet_line w next c output other does
quiet_command w c other _ does = tt
