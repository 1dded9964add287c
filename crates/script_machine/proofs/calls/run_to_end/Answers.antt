use Rattle.script_machine.proofs.Hands.{ends_so}
use Rattle.script_machine.proofs.calls.run_to_end.Goals as goal

pub returns : goal.returns
returns c =
    ends_so c.args.name.now c.args.parts.now c.args.call c.run_out.new.self c.run_out.new.call c.in_ok-text.text.items c.into_given.result c.take_reply.new.self c.in_ok-run_out.ensures c.in_ok-text.ensures c.into_given.ensures c.in_ok-take_reply.ensures
