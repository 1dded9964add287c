use Rattle.agent_gate.specs.Taking.{kind_of}
use Rattle.server_trials.proofs.Links.{served_by}
use Rattle.server_trials.proofs.gated.serve_pass.Goals as goal

pub returns-clause-turns : goal.returns-clause-turns
returns-clause-turns g c =
    let s = c.serve_session.ensures.served in
    served_by (kind_of g.S.Signs.signing g.S.Signs.is_whole g.K.Keeper.saves) c.args.gate.now c.args.ring.now _ _ c.args.pass _ _ s.execution s.marks.made
    c.over-mesh.ensures.owners c.over-mesh.ensures.made s.link s.marks.are_turns s.marks.told
