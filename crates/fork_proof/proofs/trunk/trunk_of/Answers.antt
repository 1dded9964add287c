use Rattle.std.proofs.Common.{arith}
use Rattle.fork_proof.proofs.TrunkLemmas.{along_next, along_all}
use Rattle.fork_proof.proofs.trunk.trunk_of.Goals as goal

pub walked-preserved : goal.walked-preserved
walked-preserved c =
    along_next c.args.blocks.now c.walked.trunk c.note_down.new.trunk c.args.tips.now c.walked.place _ c.walked-test.true c.walked.invariant c.in_ok-note_down.ensures.keeps c.in_ok-note_down.ensures.leads

pub returns : goal.returns
returns c = along_all c.args.blocks.now c.walked.trunk c.args.tips.now c.walked.place (omega (arith, c.walked-test.false)) c.walked.invariant
