use Rattle.std.proofs.Common.{◌∙◌}
use Rattle.ivy_server.specs.Passes.{passes}
use Rattle.ivy_server.specs.Sessions.{place_of}
use Rattle.ivy_server.proofs.Ends.{begun_with}
use Rattle.ivy_server.proofs.driving.begin.Goals as goal

pub returns-clause-begun : goal.returns-clause-begun
returns-clause-begun g c = begun_with (passes g.S.Signs.signing g.S.Signs.is_whole g.K.Keeper.saves (g.T.Turns.comes c.args.turns.now) (g.T.Turns.leaves c.args.turns.now))
    (place_of c.args.replicas c.args.entries.now (g.T.Turns.view c.args.turns.now c.args.pass.now)) c.requires.view c.args.message.now c.args.pass.now c.standing.new.pass c.standing.result c.standing.ensures.stands
    c.in-Ok.standing c.in-Ok.is c.in-Ok-begin.session c.in-Ok-begin.ensures.by.1 (c.in-Ok-begin.ensures.by.2 ∙ c.in-Ok-copy.ensures) c.requires.entries c.in-Ok-begin.ensures.begun c.in-Ok-begin.ensures.free c.in-Ok-begin.ensures.turning c.in-Ok-begin.ensures.whole
