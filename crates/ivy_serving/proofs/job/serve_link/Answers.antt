use Rattle.agent_gate.specs.Taking.{kind_of}
use Rattle.ivy_serving.specs.Jobs.{ends_of, serving_of, surroundings_of}
use Rattle.ivy_serving.proofs.Linking.{of_pass, on_ring}
use Rattle.ivy_serving.proofs.job.serve_link.Goals as goal

pub returns : goal.returns
returns g c =
    let serving = serving_of (kind_of g.S.Signs.signing g.S.Signs.is_whole g.K.Keeper.saves) (ends_of g.Q.Source.left g.W.Sink.contents g.Q.Source.faults g.W.Sink.faults) g.C.Clock.gives in
    let before = surroundings_of serving (record { reads = c.args.reads.now; writes = c.args.writes.now; pass = c.args.pass; clock = c.args.clock.now }) in
    let after = surroundings_of serving (record { reads = c.serve_session.new.source; writes = c.serve_session.new.sink; pass = c.serve_session.result.1; clock = c.serve_session.new.clock }) in
    record {
      served = record {
        session = on_ring serving c.args.gate.now c.args.ring.now c.over-mesh.result.ring.now.replicas c.over-mesh.result.ring.now.made before after c.serve_session.result.0 c.over-mesh.ensures.owners c.over-mesh.ensures.made c.serve_session.ensures.served;
        pass = of_pass c.args.gate.now c.of.result.value c.args.pass c.serve_session.result.1 c.of.ensures c.serve_session.ensures.fits;
      };
    }
