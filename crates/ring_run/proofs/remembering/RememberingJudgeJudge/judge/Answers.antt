use Rattle.log_heads.proofs.SignedHeads.{judged_as}
use Rattle.ring_run.proofs.remembering.RememberingJudgeJudge.judge.Goals as goal

pub returns : goal.returns
returns c = judged_as c.args.key.now c.args.bytes.now c.judged.result c.judged.ensures.some c.judged.ensures.none
