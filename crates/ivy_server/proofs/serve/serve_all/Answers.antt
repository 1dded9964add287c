use Rattle.std.proofs.Common.{Option, Some, None, refl, sym, ◌∙◌, subst}
use Rattle.std.specs.Prelude.{IsSomeAnd}
use Rattle.log_model.specs.View.{View}
use Rattle.ivy_server.specs.Passes.{passes}
use Rattle.ivy_server.specs.Sessions.{place_of}
use Rattle.ivy_server.proofs.Messages.{same_place}
use Rattle.ivy_server.proofs.Waiting.{on_first_of, still_served}
use Rattle.ivy_server.proofs.serve.serve_all.Goals as goal

pub pieces-init : goal.pieces-init
pieces-init g c = record {
  on = on_first_of _ _ c.args.cache.now c.requires.cache c.new-frames.result c.new-frames.ensures;
  fits = c.requires.fits;
  view = refl;
  owners = refl;
  made = refl;
  room = c.requires.room;
}

pub serve_piece-ended-requires-clause-fits : goal.serve_piece-ended-requires-clause-fits
serve_piece-ended-requires-clause-fits g c κs outlives = c.pieces.invariant.fits

pub serve_piece-ended-requires-clause-view : goal.serve_piece-ended-requires-clause-view
serve_piece-ended-requires-clause-view g c κs outlives = subst (λ (o : Option View). IsSomeAnd o (λ view. Unit {0})) (sym c.pieces.invariant.view) c.requires.view

pub serve_piece-ended-requires-clause-nodes : goal.serve_piece-ended-requires-clause-nodes
serve_piece-ended-requires-clause-nodes g c κs outlives = λ none. c.requires.nodes (sym c.pieces.invariant.made ∙ none)

pub serve_piece-ended-requires-clause-entries : goal.serve_piece-ended-requires-clause-entries
serve_piece-ended-requires-clause-entries g c κs outlives = c.requires.entries ∙ sym c.pieces.invariant.made

pub serve_piece-ended-requires-clause-room : goal.serve_piece-ended-requires-clause-room
serve_piece-ended-requires-clause-room g c κs outlives = c.pieces.invariant.room

pub returns-in-Some-ended-clause-view : goal.returns-in-Some-ended-clause-view
returns-in-Some-ended-clause-view g c = c.serve_piece-ended.ensures.view ∙ c.pieces.invariant.view

pub returns-in-Some-ended-clause-owners : goal.returns-in-Some-ended-clause-owners
returns-in-Some-ended-clause-owners g c = c.serve_piece-ended.ensures.owners ∙ c.pieces.invariant.owners

pub returns-in-Some-ended-clause-made : goal.returns-in-Some-ended-clause-made
returns-in-Some-ended-clause-made g c = c.serve_piece-ended.ensures.made ∙ c.pieces.invariant.made

pub returns-in-Some-ended-clause-served : goal.returns-in-Some-ended-clause-served
returns-in-Some-ended-clause-served g c = still_served (passes g.S.Signs.signing g.S.Signs.is_whole g.K.Keeper.saves (g.T.Turns.comes c.args.turns.now) (g.T.Turns.leaves c.args.turns.now)) g.C.Clock.gives
    (place_of (g.M.Mesh.owners_of_a_key c.args.mesh.now) (g.M.Mesh.made c.args.mesh.now) (g.T.Turns.view c.args.turns.now c.args.pass.now))
    (place_of (g.M.Mesh.owners_of_a_key c.pieces.mesh) (g.M.Mesh.made c.pieces.mesh) (g.T.Turns.view c.args.turns.now c.pieces.pass))
    (same_place c.pieces.invariant.owners c.pieces.invariant.made c.pieces.invariant.view) _ _
    (record {
      left = g.Q.Source.left c.serve_piece-ended.new.source;
      held = g.W.Sink.contents c.serve_piece-ended.new.sink;
      reads = g.Q.Source.faults c.serve_piece-ended.new.source;
      writes = g.W.Sink.faults c.serve_piece-ended.new.sink;
      pass = c.serve_piece-ended.new.pass;
      marks = record { made = g.T.Turns.made c.args.turns.now c.serve_piece-ended.new.pass; trail = g.M.Mesh.trail c.serve_piece-ended.new.mesh; clock = c.serve_piece-ended.new.clock };
    })
    c.pieces.cache c.serve_piece-ended.new.cache c.pieces.frames c.serve_piece-ended.new.frames (Some c.in-Some-ended.how) c.pieces.invariant.on c.in-Some-ended.ensures.served

pub pieces-preserved : goal.pieces-preserved
pieces-preserved g c = record {
  on = still_served (passes g.S.Signs.signing g.S.Signs.is_whole g.K.Keeper.saves (g.T.Turns.comes c.args.turns.now) (g.T.Turns.leaves c.args.turns.now)) g.C.Clock.gives
      (place_of (g.M.Mesh.owners_of_a_key c.args.mesh.now) (g.M.Mesh.made c.args.mesh.now) (g.T.Turns.view c.args.turns.now c.args.pass.now))
      (place_of (g.M.Mesh.owners_of_a_key c.pieces.mesh) (g.M.Mesh.made c.pieces.mesh) (g.T.Turns.view c.args.turns.now c.pieces.pass))
      (same_place c.pieces.invariant.owners c.pieces.invariant.made c.pieces.invariant.view) _ _
      (record {
        left = g.Q.Source.left c.serve_piece-ended.new.source;
        held = g.W.Sink.contents c.serve_piece-ended.new.sink;
        reads = g.Q.Source.faults c.serve_piece-ended.new.source;
        writes = g.W.Sink.faults c.serve_piece-ended.new.sink;
        pass = c.serve_piece-ended.new.pass;
        marks = record { made = g.T.Turns.made c.args.turns.now c.serve_piece-ended.new.pass; trail = g.M.Mesh.trail c.serve_piece-ended.new.mesh; clock = c.serve_piece-ended.new.clock };
      })
      c.pieces.cache c.serve_piece-ended.new.cache c.pieces.frames c.serve_piece-ended.new.frames None c.pieces.invariant.on c.in_default.ensures.served;
  fits = c.serve_piece-ended.ensures.fits;
  view = c.serve_piece-ended.ensures.view ∙ c.pieces.invariant.view;
  owners = c.serve_piece-ended.ensures.owners ∙ c.pieces.invariant.owners;
  made = c.serve_piece-ended.ensures.made ∙ c.pieces.invariant.made;
  room = c.serve_piece-ended.ensures.room ∙ c.pieces.invariant.room;
}
