use Rattle.server_trials.proofs.Links.{served_over}
use Rattle.server_trials.proofs.world.serve_over.Goals as goal

pub returns : goal.returns
returns g c =
    let s = c.serve_session-how.ensures.served in
    served_over _ c.args.replicas c.args.pass _ _ g.B.Begun.nodes c.args.nodes _ c.over-mesh.result _ s.execution c.requires.begun c.over-mesh.ensures.made s.link
    s.marks.trail c.into_nodes.ensures.leads
