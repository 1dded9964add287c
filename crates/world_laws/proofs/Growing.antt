-- No line forgets a block that was met.
use Rattle.std.proofs.Common.{◌≡◌, ℕ, Bool, true, false, cond, List, [], ◌∷◌, ◌++◌, map, sym, subst, Contains}
use Rattle.std.specs.Prelude.{is_some}
use Rattle.dhash_model.specs.Signed.{hss_judged}
use Rattle.log_model.specs.View.{view_block}
use Rattle.dht_ids.specs.declared.post.Post.{Post}
use Rattle.script_model.specs.declared.command.Command.{Command}
use Rattle.script_model.specs.Lines.{command_of}
use Rattle.session_model.specs.Sessions.{Said}
use Rattle.world_model.specs.Calls.{replied}
use Rattle.world_model.specs.Agents.{hss_opened}
use Rattle.world_model.specs.Logs.{Played, fresh_signer, new_participant, with_view}
use Rattle.world_model.specs.Steps.{Configuration}
use Rattle.world_model.specs.World.{World}
use Rattle.world_laws.proofs.AllLines.{does_line}
use Rattle.world_laws.proofs.Lines.{meets_more}
use Rattle.world_laws.proofs.NodeFates.{fate_rest}
use Rattle.world_laws.proofs.SignedAmong.{met_stays}
use Rattle.world_laws.specs.Effects.{Effect, LaterEffect, Plays}
use Rattle.world_laws.specs.Moves.{Move}
use Rattle.world_laws.specs.Moves.Move.{asks, hears, lacks, settles, takes, turns}
use Rattle.world_laws.specs.Effects.Plays.{calls, ends, steps}
use Rattle.world_laws.specs.Effects.Effect.{comes, loses, makes_view, of_nodes, opens, plays, renews, shows, times, touches}
use Rattle.world_laws.specs.Effects.LaterEffect.{publishes, replies}
use Rattle.world_laws.specs.Laws.{MetGrows}
use Rattle.world_laws.proofs.Effects.{by_effects, lines_have_effects, played_moves}
use Rattle.world_laws.proofs.Moves.{all_moves, runs_move}
use Rattle.world_laws.proofs.RingLines.{fates_rest}

module _ (b : List ℕ) where
  abbrev Has : Played → Type 0
  Has w = Contains w.0.met b

  asked : (w next : World) → next ≡ record w { nodes = next.nodes; asked = next.asked } → Contains w.met b → Contains next.met b
  asked w next is h = subst (λ (v : World). Contains v.met b) (sym is) h

  moved : {r : ℕ} {name : List ℕ} (c next : Configuration) → Move hss_judged r name c next → Contains c.world.met b → Contains next.world.met b
  moved c _ (takes p taken cache is taking) h = h
  moved c _ (asks node question answer next fate) h = asked c.world next (fate_rest fate) h
  moved c _ (hears p node question answer next heard t cache is fate hearing goes) h = asked c.world next (fate_rest fate) h
  moved c _ (lacks t lacking) h = h
  moved c _ (turns p view end after saving t work ghost_state began is in_view taking told) h = met_stays c.world.met (map (λ (x : Post). x.bytes) after.pending) b h
  moved c _ (settles p after t is settling) h = h

  left : {w : Played} {k : Command} {r : ℕ} {name : List ℕ} {c end : Configuration} {next : Played} → Plays hss_judged w r k name c end next → Has w → (Contains c.world.met b → Contains end.world.met b) → Has next
  left (calls log pieces s t end sends begins runs over) h on = on h
  left (steps name count s end is going) h on = on h
  left (ends name s end is runs over) h on = on h

  replied_has : (w : World) (said : Said) → Contains w.met b → Contains (replied w said).met b
  replied_has w said h = by (is_some said.message)
    where
      by : (t : Bool) → Contains (cond t (record w { replies = w.replies ++ record { handle = said.handle; verifier = said.verifier } ∷ [] }) w).met b
      by true = h
      by false = h

  changed : (k : Command) (w next : Played) → Effect hss_judged w k next → Has w → Has next
  changed k w _ (shows _ is) h = h
  changed k w _ (times sec nsec) h = h
  changed k w _ (loses count) h = h
  changed k w _ (of_nodes _ ring next is) h = is.grows b h
  changed k w _ (makes_view name names others members former r view next are also new own_keys small ringed is put) h =
      asked (with_view w.0 name view) next (fates_rest put.fates) (meets_more w.0.met (view_block view) b h)
  changed k w _ (comes name id seed sets new) h = met_stays w.0.met (map (λ (x : Post). x.bytes) (new_participant name (hss_opened (fresh_signer id seed sets) w.0.now)).agent.pending) b h
  changed k w _ (touches sort name p q posts is_p is) h = met_stays w.0.met (map (λ (x : Post). x.bytes) posts) b h
  changed k w _ (renews sort name p q posts set is_p is) h = met_stays w.0.met (map (λ (x : Post). x.bytes) posts) b h
  changed k w _ (opens name log pieces s t new sends begins) h = h
  changed k w next (plays sort r name c end _ ringed is) h = left is h (all_moves (λ (x : Configuration). Contains x.world.met b) moved (played_moves is))

  later : {k : Command} (w next : Played) → LaterEffect hss_judged w k next → Has w → Has next
  later w _ (publishes k alone r p end ringed is over on) h = all_moves (λ (x : Configuration). Contains x.world.met b) moved (runs_move on) h
  later w _ (replies k whole said) h = replied_has w.0 said h

pub met_grows : MetGrows
met_grows w next line output step b h =
    let done = does_line w next output (command_of line) step in
    by_effects (Has b) (λ v change. changed b _ w v change h) (later b) (lines_have_effects w next done.0 output done.2)
