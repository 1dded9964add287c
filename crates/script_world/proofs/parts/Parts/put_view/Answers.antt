use Rattle.script_world.proofs.Making.{puts_in}
use Rattle.script_world.proofs.parts.Parts.put_view.Goals as goal

pub returns : goal.returns
returns g c =
    puts_in (g.J.Judge.judges c.args.judge.now) c.args.self.now _ c.self.view_is c.args.replicas c.args.name c.args.view c.put_block.new.self c.push_view.new.views.items c.meet.new.self c.name-key.result c.in_ok-block.block
    c.as_slice.result.now c.in_ok-_came._came c.name-key.ensures c.in_ok-block.ensures c.as_slice.ensures c.in_ok-meet.ensures.met c.in_ok-push_view.ensures c.in_ok-_came.ensures.puts
