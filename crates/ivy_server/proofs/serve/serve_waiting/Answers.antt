use Rattle.std.proofs.Common.{refl, ◌∙◌}
use Rattle.ivy_server.specs.Passes.{passes}
use Rattle.ivy_server.specs.Sessions.{place_of}
use Rattle.ivy_server.proofs.Messages.{same_place}
use Rattle.ivy_server.proofs.Waiting.{amidst_ends, amidst_first, amidst_next}
use Rattle.ivy_server.proofs.serve.serve_waiting.Goals as goal

pub messages-init : goal.messages-init
messages-init g c = record {
  amidst = amidst_first _ _ _ c.args.frames.now.waiting _ c.args.cache.now;
  part = refl;
  fits = c.requires.fits;
  view = refl;
  owners = refl;
  made = refl;
}

pub returns-in-Some-ended-clause-served : goal.returns-in-Some-ended-clause-served
returns-in-Some-ended-clause-served g c =
    amidst_ends (passes g.S.Signs.signing g.S.Signs.is_whole g.K.Keeper.saves (g.T.Turns.comes c.args.turns.now) (g.T.Turns.leaves c.args.turns.now)) g.C.Clock.gives
    (place_of (g.M.Mesh.owners_of_a_key c.args.mesh.now) (g.M.Mesh.made c.args.mesh.now) (g.T.Turns.view c.args.turns.now c.args.pass.now))
    (place_of (g.M.Mesh.owners_of_a_key c.messages.mesh) (g.M.Mesh.made c.messages.mesh) (g.T.Turns.view c.args.turns.now c.messages.pass))
    (same_place c.messages.invariant.owners c.messages.invariant.made c.messages.invariant.view) c.args.frames.now.waiting c.messages.frames.waiting _ _
    (record {
      held = g.W.Sink.contents c.serve_next-ended.new.sink;
      writes = g.W.Sink.faults c.serve_next-ended.new.sink;
      pass = c.serve_next-ended.new.pass;
      marks = record { made = g.T.Turns.made c.args.turns.now c.serve_next-ended.new.pass; trail = g.M.Mesh.trail c.serve_next-ended.new.mesh; clock = c.serve_next-ended.new.clock };
    })
    c.args.cache.now c.messages.cache c.serve_next-ended.new.cache c.messages.invariant.amidst c.in-Some.message c.take.new.self.waiting c.in-Some.ensures.oldest c.in-Some-ended.how c.in-Some-ended.ensures.served

pub messages-preserved : goal.messages-preserved
messages-preserved g c = record {
  amidst = amidst_next (passes g.S.Signs.signing g.S.Signs.is_whole g.K.Keeper.saves (g.T.Turns.comes c.args.turns.now) (g.T.Turns.leaves c.args.turns.now)) g.C.Clock.gives
      (place_of (g.M.Mesh.owners_of_a_key c.args.mesh.now) (g.M.Mesh.made c.args.mesh.now) (g.T.Turns.view c.args.turns.now c.args.pass.now))
      (place_of (g.M.Mesh.owners_of_a_key c.messages.mesh) (g.M.Mesh.made c.messages.mesh) (g.T.Turns.view c.args.turns.now c.messages.pass))
      (same_place c.messages.invariant.owners c.messages.invariant.made c.messages.invariant.view) c.args.frames.now.waiting c.messages.frames.waiting _ _
      (record {
        held = g.W.Sink.contents c.serve_next-ended.new.sink;
        writes = g.W.Sink.faults c.serve_next-ended.new.sink;
        pass = c.serve_next-ended.new.pass;
        marks = record { made = g.T.Turns.made c.args.turns.now c.serve_next-ended.new.pass; trail = g.M.Mesh.trail c.serve_next-ended.new.mesh; clock = c.serve_next-ended.new.clock };
      })
      c.args.cache.now c.messages.cache c.serve_next-ended.new.cache c.messages.invariant.amidst c.in-Some.message c.take.new.self.waiting c.in-Some.ensures.oldest c.in_default-ended.ensures.served;
  part = c.in-Some.ensures.part ∙ c.messages.invariant.part;
  fits = c.serve_next-ended.ensures.fits;
  view = c.serve_next-ended.ensures.view ∙ c.messages.invariant.view;
  owners = c.serve_next-ended.ensures.owners ∙ c.messages.invariant.owners;
  made = c.serve_next-ended.ensures.made ∙ c.messages.invariant.made;
}
