use Rattle.std.proofs.Common.{◌≡◌, length}
use Rattle.ivy_server.specs.Passes.{passes}
use Rattle.ivy_server.specs.Sessions.{place_of}
use Rattle.ivy_server.specs.Streams.{IsOnAfter}
use Rattle.ivy_server.proofs.serve.serve_all.Given as goal

abbrev pub invariant-pieces : goal.invariant-pieces
invariant-pieces g l = record {
  on : IsOnAfter (record {
    by = passes g.S.Signs.signing g.S.Signs.is_whole g.K.Keeper.saves (g.T.Turns.comes l.turns) (g.T.Turns.leaves l.turns);
    gives = g.C.Clock.gives;
    place = place_of (g.M.Mesh.owners_of_a_key l.fn.mesh) (g.M.Mesh.made l.fn.mesh) (g.T.Turns.view l.turns l.fn.pass);
  })
      (record {
        left = g.Q.Source.left l.fn.source;
        held = g.W.Sink.contents l.fn.sink;
        reads = g.Q.Source.faults l.fn.source;
        writes = g.W.Sink.faults l.fn.sink;
        pass = l.fn.pass;
        marks = record { made = g.T.Turns.made l.turns l.fn.pass; trail = g.M.Mesh.trail l.fn.mesh; clock = l.fn.clock };
      })
      (record {
        left = g.Q.Source.left l.source;
        held = g.W.Sink.contents l.sink;
        reads = g.Q.Source.faults l.source;
        writes = g.W.Sink.faults l.sink;
        pass = l.pass;
        marks = record { made = g.T.Turns.made l.turns l.pass; trail = g.M.Mesh.trail l.mesh; clock = l.clock };
      })
      l.cache l.frames;
  fits : g.T.Turns.fits l.turns l.pass;
  view : g.T.Turns.view l.turns l.pass ≡ g.T.Turns.view l.turns l.fn.pass;
  owners : g.M.Mesh.owners_of_a_key l.mesh ≡ g.M.Mesh.owners_of_a_key l.fn.mesh;
  made : g.M.Mesh.made l.mesh ≡ g.M.Mesh.made l.fn.mesh;
  room : length l.piece ≡ 65536;
}
