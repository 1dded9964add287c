-- What a turn is served on and gives, as the code has it.
use Rattle.turn_model.specs.Turn.{Inputs}
use Rattle.ivy_agent.specs.Serving.{Served, Replies, Writes}
use Rattle.ivy_agent.specs.declared.serving.On.{On}
use Rattle.ivy_agent.specs.declared.serving.Served.{Served as Given}
use Rattle.ivy_agent.specs.declared.serving.Served.TheVariants as given

-- what a turn goes by
abbrev pub inputs_of : On → Inputs
inputs_of on = record { view = on.view.now; own = on.own.now; leaves = on.leaves; has_failed = on.has_failed }

abbrev pub served_of : Given → Served
served_of (given.Replies reply) = Replies reply
served_of (given.Writes ops) = Writes ops
