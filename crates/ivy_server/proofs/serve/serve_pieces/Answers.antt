use Rattle.ivy_server.specs.Passes.{passes}
use Rattle.ivy_server.specs.Sessions.{place_of}
use Rattle.ivy_server.proofs.Waiting.{ends_at_once}
use Rattle.ivy_server.proofs.serve.serve_pieces.Goals as goal

pub returns-in_default-clause-served : goal.returns-in_default-clause-served
returns-in_default-clause-served g c = ends_at_once (record {
  by = passes g.S.Signs.signing g.S.Signs.is_whole g.K.Keeper.saves (g.T.Turns.comes c.args.turns.now) (g.T.Turns.leaves c.args.turns.now);
  gives = g.C.Clock.gives;
  place = place_of (g.M.Mesh.owners_of_a_key c.args.mesh.now) (g.M.Mesh.made c.args.mesh.now) (g.T.Turns.view c.args.turns.now c.args.pass.now);
}) _

pub returns-in_default-entries-clause-served : goal.returns-in_default-entries-clause-served
returns-in_default-entries-clause-served g c = ends_at_once (record {
  by = passes g.S.Signs.signing g.S.Signs.is_whole g.K.Keeper.saves (g.T.Turns.comes c.args.turns.now) (g.T.Turns.leaves c.args.turns.now);
  gives = g.C.Clock.gives;
  place = place_of (g.M.Mesh.owners_of_a_key c.args.mesh.now) (g.M.Mesh.made c.args.mesh.now) (g.T.Turns.view c.args.turns.now c.args.pass.now);
}) _

pub returns-in_default-vec-clause-served : goal.returns-in_default-vec-clause-served
returns-in_default-vec-clause-served g c = ends_at_once (record {
  by = passes g.S.Signs.signing g.S.Signs.is_whole g.K.Keeper.saves (g.T.Turns.comes c.args.turns.now) (g.T.Turns.leaves c.args.turns.now);
  gives = g.C.Clock.gives;
  place = place_of (g.M.Mesh.owners_of_a_key c.args.mesh.now) (g.M.Mesh.made c.args.mesh.now) (g.T.Turns.view c.args.turns.now c.args.pass.now);
}) _
