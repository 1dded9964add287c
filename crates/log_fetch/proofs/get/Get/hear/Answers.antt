use Rattle.log_fetch.proofs.Getting.{hears_ok}
use Rattle.log_fetch.proofs.get.Get.hear.Goals as goal

pub returns : goal.returns
returns g c = hears_ok g.J.Judge.judges c.args.self c.heard.new.self c.args.answer c.in_ok-heard.ensures.heard c.in_ok-heard.ensures.left c.go_on.result c.go_on.ensures
