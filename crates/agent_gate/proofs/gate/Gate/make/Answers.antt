use Rattle.agent_gate.specs.Taking.{kind_of}
use Rattle.agent_gate.proofs.Turning.{opening_taken}
use Rattle.agent_gate.proofs.gate.Gate.make.Goals as goal

pub make-requires : goal.make-requires
make-requires g c = opening_taken (kind_of g.S.Signs.signing g.S.Signs.is_whole g.K.Keeper.saves) c.args.agent
