-- The plan of the definitions that a plan of the program is.
use Rattle.nfs_model.specs.Changing.{Plan, Refuse, Nothing, Operations}
use Rattle.nfs3_writes.specs.declared.plans.Plan.{Plan as Given}
use Rattle.nfs3_writes.specs.declared.plans.Plan.TheVariants as given

abbrev pub seen : Given → Plan
seen (given.Refuse reply) = Refuse reply
seen (given.Nothing reply) = Nothing reply
seen (given.Ops ops) = Operations ops
