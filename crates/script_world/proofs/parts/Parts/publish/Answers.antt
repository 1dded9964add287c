use Rattle.std.proofs.lemmas.Result.{on_ok_weaker}
use Rattle.script_world.proofs.Published.{publishes, some_configuration}
use Rattle.script_world.proofs.parts.Parts.publish.Goals as goal

pub run_out-requires : goal.run_out-requires
run_out-requires c = some_configuration c.args.self.now c.args.name.now c.in_ok-call.call c.in_ok-call.ensures c.requires

pub returns : goal.returns
returns c = on_ok_weaker c.run_out.result (publishes c.args.self.now c.args.name.now c.in_ok-call.call c.in_ok-call.ensures c.run_out.new.self c.run_out.new.call) c.run_out.ensures
