use Rattle.std.proofs.lemmas.Bool.{leb-false}
use Rattle.log_heads.proofs.SignedHeads.{judged_below, none_judged}
use Rattle.log_heads.proofs.judge.HssJudgeJudge.may_reach.Goals as goal

pub returns-in-None : goal.returns-in-None
returns-in-None c = λ no. none_judged c.args._key.now c.args.bytes.now c.args.seq c.in-None.ensures.none

pub returns-in-Some : goal.returns-in-Some
returns-in-Some c = λ no. judged_below c.args._key.now c.args.bytes.now c.in-Some.head.owner _ _ c.args.seq c.in-Some.ensures.some (leb-false c.args.seq c.in-Some.head.seq no)
