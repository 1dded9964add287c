use Rattle.std.proofs.Common.{refl, ◌∙◌}
use Rattle.ivy_server.specs.Passes.{passes}
use Rattle.ivy_server.specs.Sessions.{place_of}
use Rattle.ivy_server.proofs.Messages.{first_serving, same_place, still_ends, still_goes}
use Rattle.ivy_server.proofs.message.serve_message.Goals as goal

pub steps-init : goal.steps-init
steps-init g c = record {
  serving = first_serving (passes g.S.Signs.signing g.S.Signs.is_whole g.K.Keeper.saves (g.T.Turns.comes c.args.turns.now) (g.T.Turns.leaves c.args.turns.now)) g.C.Clock.gives
      (place_of (g.M.Mesh.owners_of_a_key c.args.mesh.now) (g.M.Mesh.made c.args.mesh.now) (g.T.Turns.view c.args.turns.now c.args.pass.now))
      (place_of c.replicas-replicas.result c.args.entries.now (g.T.Turns.view c.args.turns.now c.args.pass.now))
      (same_place c.replicas-replicas.ensures.owners c.requires.entries refl) c.args.message.now c.as_slice.result.now c.as_slice.ensures c.args.cache.now
      (record { pass = c.args.pass.now; marks = record { made = g.T.Turns.made c.args.turns.now c.args.pass.now; trail = g.M.Mesh.trail c.args.mesh.now; clock = c.args.clock.now } })
      c.begin.new.pass c.in-Some.session c.in-Some.ensures.begun (g.T.Turns.made c.args.turns.now c.begin.new.pass) c.begin.ensures.made;
  fits = c.begin.ensures.fits;
  view = c.begin.ensures.view;
  owners = refl;
  made = refl;
}

pub returns-in-Some-ended-clause-came : goal.returns-in-Some-ended-clause-came
returns-in-Some-ended-clause-came g c = still_ends (passes g.S.Signs.signing g.S.Signs.is_whole g.K.Keeper.saves (g.T.Turns.comes c.args.turns.now) (g.T.Turns.leaves c.args.turns.now)) g.C.Clock.gives
    (place_of (g.M.Mesh.owners_of_a_key c.args.mesh.now) (g.M.Mesh.made c.args.mesh.now) (g.T.Turns.view c.args.turns.now c.args.pass.now))
    (place_of (g.M.Mesh.owners_of_a_key c.steps.mesh) (g.M.Mesh.made c.steps.mesh) (g.T.Turns.view c.args.turns.now c.steps.pass))
    (same_place c.steps.invariant.owners c.steps.invariant.made c.steps.invariant.view) c.args.message.now c.args.cache.now _ _ _ c.steps.invariant.serving _
    (record { session = c.step-ended.new.session; cache = c.step-ended.new.cache }) c.in-Some-ended.served c.in-Some-ended.ensures.steps c.is_cut.result c.is_cut.ensures _ c.outcome_of.ensures

pub steps-preserved : goal.steps-preserved
steps-preserved g c = record {
  serving = still_goes (passes g.S.Signs.signing g.S.Signs.is_whole g.K.Keeper.saves (g.T.Turns.comes c.args.turns.now) (g.T.Turns.leaves c.args.turns.now)) g.C.Clock.gives
      (place_of (g.M.Mesh.owners_of_a_key c.args.mesh.now) (g.M.Mesh.made c.args.mesh.now) (g.T.Turns.view c.args.turns.now c.args.pass.now))
      (place_of (g.M.Mesh.owners_of_a_key c.steps.mesh) (g.M.Mesh.made c.steps.mesh) (g.T.Turns.view c.args.turns.now c.steps.pass))
      (same_place c.steps.invariant.owners c.steps.invariant.made c.steps.invariant.view) c.args.message.now c.args.cache.now _ _ _ c.steps.invariant.serving _
      (record { session = c.step-ended.new.session; cache = c.step-ended.new.cache }) c.in_default-ended.ensures.steps;
  fits = c.step-ended.ensures.fits;
  view = c.step-ended.ensures.view ∙ c.steps.invariant.view;
  owners = c.step-ended.ensures.owners ∙ c.steps.invariant.owners;
  made = c.step-ended.ensures.made ∙ c.steps.invariant.made;
}
