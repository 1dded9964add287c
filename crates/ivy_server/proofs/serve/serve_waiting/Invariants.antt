use Rattle.std.proofs.Common.{◌≡◌, length}
use Rattle.ivy_server.specs.Passes.{passes}
use Rattle.ivy_server.specs.Sessions.{place_of}
use Rattle.ivy_server.proofs.Waiting.{IsAmidst}
use Rattle.ivy_server.proofs.serve.serve_waiting.Given as goal

abbrev pub invariant-messages : goal.invariant-messages
invariant-messages g l = record {
  amidst : IsAmidst (passes g.S.Signs.signing g.S.Signs.is_whole g.K.Keeper.saves (g.T.Turns.comes l.turns) (g.T.Turns.leaves l.turns)) g.C.Clock.gives
      (place_of (g.M.Mesh.owners_of_a_key l.fn.mesh) (g.M.Mesh.made l.fn.mesh) (g.T.Turns.view l.turns l.fn.pass)) l.fn.frames.waiting l.frames.waiting
      (record { held = g.W.Sink.contents l.fn.sink; writes = g.W.Sink.faults l.fn.sink; pass = l.fn.pass; marks = record { made = g.T.Turns.made l.turns l.fn.pass; trail = g.M.Mesh.trail l.fn.mesh; clock = l.fn.clock } })
      (record { held = g.W.Sink.contents l.sink; writes = g.W.Sink.faults l.sink; pass = l.pass; marks = record { made = g.T.Turns.made l.turns l.pass; trail = g.M.Mesh.trail l.mesh; clock = l.clock } })
      l.fn.cache l.cache;
  part : l.frames.part ≡ l.fn.frames.part;
  fits : g.T.Turns.fits l.turns l.pass;
  view : g.T.Turns.view l.turns l.pass ≡ g.T.Turns.view l.turns l.fn.pass;
  owners : g.M.Mesh.owners_of_a_key l.mesh ≡ g.M.Mesh.owners_of_a_key l.fn.mesh;
  made : g.M.Mesh.made l.mesh ≡ g.M.Mesh.made l.fn.mesh;
}

abbrev pub decreases-messages : goal.decreases-messages
decreases-messages g l = length l.frames.waiting
