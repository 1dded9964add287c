use Rattle.log_fetch.proofs.Getting.{waits, comes}
use Rattle.log_fetch.proofs.get.Get.go_on.Goals as goal

pub returns-in-Ask : goal.returns-in-Ask
returns-in-Ask g c = waits g.J.Judge.judges c.args.self c.next.new.self _ c.in-Ask.node c.in-Ask.question c.in_ok-node.ensures.wanted c.in-Ask.is c.in_ok-node.ensures.left

pub returns-in-Done : goal.returns-in-Done
returns-in-Done g c = comes g.J.Judge.judges c.args.self c.next.new.self _ c.in-Done.came c.in_ok-node.ensures.wanted c.in_ok-node.ensures.kind c.in-Done.is
