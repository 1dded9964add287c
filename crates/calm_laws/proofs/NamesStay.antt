-- No line but the one that begins a log brings a participant, and none forgets that a put was acknowledged.
use Rattle.std.proofs.Common.{◌≡◌, ℕ, Bool, true, false, cond, List, [], ◌∷◌, ◌++◌, map, refl, sym, ap, ◌∙◌, subst, Contains}
use Rattle.std.specs.Prelude.{is_some}
use Rattle.std.proofs.lemmas.List.Elements.{Contains-append_left}
use Rattle.dhash_model.specs.Signed.{hss_judged}
use Rattle.log_model.specs.View.{View}
use Rattle.dht_ids.specs.declared.post.Post.{Post}
use Rattle.agent_model.specs.Turning.{TurnEnd}
use Rattle.session_model.specs.Sessions.{Said}
use Rattle.script_driver.specs.Run.{Goes}
use Rattle.script_model.specs.declared.command.Command.{Command}
use Rattle.script_model.specs.declared.command.Command.TheVariants as command
use Rattle.world_model.specs.Agents.{HssAgent}
use Rattle.world_model.specs.Calls.{replied}
use Rattle.world_model.specs.Logs.{Played, Publishes, acked_view}
use Rattle.world_model.specs.Steps.{Configuration, acked_by, after_turn}
use Rattle.world_model.specs.Step.{Does}
use Rattle.world_model.specs.GhostState.{Began, GhostState}
use Rattle.world_model.specs.World.{Participant, World, with_participant}
use Rattle.world_laws.specs.Effects.{Effect, LaterEffect, Plays}
use Rattle.world_laws.specs.Effects.Effect.{comes, loses, makes_view, of_nodes, opens, plays, renews, shows, times, touches}
use Rattle.world_laws.specs.Effects.LaterEffect.{publishes, replies}
use Rattle.world_laws.specs.Effects.Plays.{calls, ends, steps}
use Rattle.world_laws.specs.Moves.{Move, Moves, Tells}
use Rattle.world_laws.specs.Moves.Move.{asks, hears, lacks, settles, takes, turns}
use Rattle.world_laws.specs.Moves.Tells.{refuses, tells}
use Rattle.world_laws.proofs.Effects.{by_effects, lines_have_effects, played_moves}
use Rattle.world_laws.proofs.Moves.{all_moves, runs_move}
use Rattle.world_laws.proofs.NodeFates.{fate_rest}
use Rattle.world_laws.proofs.Placed.{names_placed}
use Rattle.world_laws.proofs.RingLines.{fates_rest}

abbrev by_name : Participant → List ℕ
by_name p = p.name

abbrev pub names_of : World → List (List ℕ)
names_of w = map (λ (p : Participant). p.name) w.participants

-- from one to the other nobody comes, and what was acknowledged is so still
pub record NobodyComes (w next : Played) : Type 0 where
  pub names : names_of next.0 ≡ names_of w.0
  pub acked : (p : Post) → Contains w.1.acked p → Contains next.1.acked p

same_then : (w : Played) → NobodyComes w w
same_then w = record { names = refl; acked = λ p c. c }

-- ---- sessions

module _ (u : Played) where
  -- one in its own place
  with_one : (w : World) (st : GhostState) (q : Participant) → NobodyComes u (w, st) → NobodyComes u (with_participant w q, st)
  with_one w st q h = record { names = names_placed by_name q w.participants ∙ h.names; acked = h.acked }

  asked_names : (w next : World) → next ≡ record w { nodes = next.nodes; asked = next.asked } → names_of next ≡ names_of w
  asked_names w next is = ap names_of is

  told_names : {c : Configuration} {p : Participant} {view : View} {after : HssAgent} {end : TurnEnd} {work : ℕ} {ghost_state : GhostState} {began : Began} → Tells c p view after end work ghost_state began → (o : Post) → Contains c.ghost_state.acked o → Contains ghost_state.acked o
  told_names (tells reply applied turned same is_turn) o h = h
  told_names (refuses end refusal) o h = h

  move_names : {r : ℕ} {name : List ℕ} (c next : Configuration) → Move hss_judged r name c next → NobodyComes u (c.world, c.ghost_state) → NobodyComes u (next.world, next.ghost_state)
  move_names c _ (takes p taken cache is taking) h = with_one c.world c.ghost_state (record p { cache = cache }) h
  move_names c _ (asks node question answer next fate) h = record { names = asked_names c.world next (fate_rest fate) ∙ h.names; acked = h.acked }
  move_names c _ (hears p node question answer next heard t cache is fate hearing goes) h = record {
    names = names_placed by_name (record p { cache = cache }) next.participants ∙ asked_names c.world next (fate_rest fate) ∙ h.names;
    acked = λ q m. Contains-append_left c.ghost_state.acked (acked_by c.session.stage t.stage) q (h.acked q m);
  }
  move_names c _ (lacks t lacking) h = h
  move_names c _ (turns p view end after saving t work ghost_state began is in_view taking told) h = record {
    names = names_placed by_name (record (after_turn p after saving) { work = work }) c.world.participants ∙ h.names;
    acked = λ q m. told_names told q (h.acked q m);
  }
  move_names c _ (settles p after t is settling) h = with_one c.world c.ghost_state (record p { agent = after }) h

  moves_names : {r : ℕ} {name : List ℕ} {c end : Configuration} → Moves hss_judged r name c end → NobodyComes u (c.world, c.ghost_state) → NobodyComes u (end.world, end.ghost_state)
  moves_names on h = all_moves (λ (x : Configuration). NobodyComes u (x.world, x.ghost_state)) move_names on h

  replied_names : (w : World) (said : Said) → names_of (replied w said) ≡ names_of w
  replied_names w said = by (is_some said.message)
    where
      by : (b : Bool) → names_of (cond b (record w { replies = w.replies ++ record { handle = said.handle; verifier = said.verifier } ∷ [] }) w) ≡ names_of w
      by true = refl
      by false = refl

  later_names : {k : Command} (w next : Played) → LaterEffect hss_judged w k next → NobodyComes u w → NobodyComes u next
  later_names w _ (publishes k alone r p end ringed is over on) h = moves_names (runs_move on) (record { names = h.names; acked = h.acked })
  later_names w _ (replies k whole said) h = record { names = replied_names w.0 said ∙ h.names; acked = h.acked }

pub publishes_names : (r : ℕ) (w : Played) (p : Participant) (next : Played) → Publishes hss_judged r w p next → NobodyComes w next
publishes_names r w p next published = subst (λ (v : Played). NobodyComes w v) (sym published.2) (moves_names w (runs_move published.1) (record { names = refl; acked = λ o h. h }))

-- ---- lines

-- no log begins
abbrev pub BeginsNone : Command → Type 0
BeginsNone (command.Log log id seed sets) = ⊥
BeginsNone _ = Unit {0}

module _ (w : Played) where
  played_names : {k : Command} {r : ℕ} {name : List ℕ} {c end : Configuration} {next : Played} → Plays hss_judged w r k name c end next → (NobodyComes w (c.world, c.ghost_state) → NobodyComes w (end.world, end.ghost_state)) → NobodyComes w next
  played_names (calls log pieces s t end sends begins runs over) on = on (record { names = refl; acked = λ o h. h })
  played_names (steps name count s end is going) on = let one = on (same_then w) in record { names = one.names; acked = one.acked }
  played_names (ends name s end is runs over) on = let one = on (same_then w) in record { names = one.names; acked = one.acked }

  effect_names : {k : Command} → BeginsNone k → (next : Played) → Effect hss_judged w k next → NobodyComes w next
  effect_names none _ (shows _ is) = same_then w
  effect_names none _ (times sec nsec) = record { names = refl; acked = λ o h. h }
  effect_names none _ (loses count) = record { names = refl; acked = λ o h. h }
  effect_names none _ (of_nodes _ ring next is) = record { names = ap names_of is.rest; acked = λ o h. h }
  effect_names none _ (makes_view name names others members former r view next are also new own_keys small ringed is put) = record { names = ap names_of (fates_rest put.fates); acked = λ o h. Contains-append_left w.1.acked (acked_view view put.came) o h }
  effect_names none _ (comes name id seed sets new) = absurd none
  effect_names none _ (touches k name p q posts is touching) = record { names = names_placed by_name q w.0.participants; acked = λ o h. h }
  effect_names none _ (renews k name p q posts set is renewing) = record { names = names_placed by_name (record q { cache = [] }) w.0.participants; acked = λ o h. h }
  effect_names none _ (opens name log pieces s t new sends begins) = record { names = refl; acked = λ o h. h }
  effect_names none next (plays _ r name c end _ ringed is) = played_names is (moves_names w (played_moves is))

pub command_names : (w next : Played) (output : List ℕ) (c : Command) → BeginsNone c → Does hss_judged w c (Goes next output) → NobodyComes w next
command_names w next output c none does = by_effects (NobodyComes w) (effect_names w none) (later_names w) (lines_have_effects w next c output does)
