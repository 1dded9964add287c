use Rattle.std.proofs.Common.{◌∙◌, arith}
use Rattle.job_desk.proofs.seats.give_ended.Goals as goal

pub loop-preserved : goal.loop-preserved
loop-preserved g c = (
  c.give_one.ensures.place ∙ c.loop.invariant.0,
  omega (arith, c.give_one.ensures.out, c.give_one.new.seats.ok.0),
  λ b stops h. c.give_one.ensures.back b stops (c.loop.invariant.2 b stops h),
)
