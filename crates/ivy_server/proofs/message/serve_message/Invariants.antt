use Rattle.std.proofs.Common.{◌≡◌}
use Rattle.ivy_session.specs.Left.{session_left}
use Rattle.ivy_server.specs.Passes.{passes}
use Rattle.ivy_server.specs.Sessions.{IsServingOf, place_of}
use Rattle.ivy_server.proofs.message.serve_message.Given as goal

abbrev pub invariant-steps : goal.invariant-steps
invariant-steps g l = record {
  serving : IsServingOf (record {
    by = passes g.S.Signs.signing g.S.Signs.is_whole g.K.Keeper.saves (g.T.Turns.comes l.turns) (g.T.Turns.leaves l.turns);
    gives = g.C.Clock.gives;
    place = place_of (g.M.Mesh.owners_of_a_key l.fn.mesh) (g.M.Mesh.made l.fn.mesh) (g.T.Turns.view l.turns l.fn.pass);
  })
      l.message l.fn.cache
      (record { pass = l.fn.pass; marks = record { made = g.T.Turns.made l.turns l.fn.pass; trail = g.M.Mesh.trail l.fn.mesh; clock = l.fn.clock } })
      (record { pass = l.pass; marks = record { made = g.T.Turns.made l.turns l.pass; trail = g.M.Mesh.trail l.mesh; clock = l.clock } })
      (record { session = l.session; cache = l.cache });
  fits : g.T.Turns.fits l.turns l.pass;
  view : g.T.Turns.view l.turns l.pass ≡ g.T.Turns.view l.turns l.fn.pass;
  owners : g.M.Mesh.owners_of_a_key l.mesh ≡ g.M.Mesh.owners_of_a_key l.fn.mesh;
  made : g.M.Mesh.made l.mesh ≡ g.M.Mesh.made l.fn.mesh;
}

abbrev pub decreases-steps : goal.decreases-steps
decreases-steps g l = session_left l.session
