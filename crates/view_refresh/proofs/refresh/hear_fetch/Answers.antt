use Rattle.view_refresh.proofs.Hearing.{fetch_hears_next}
use Rattle.view_refresh.proofs.refresh.hear_fetch.Goals as goal

pub returns : goal.returns
returns g c = fetch_hears_next g.J.Judge.judges c.args.basis c.args.fetch c.heard.new.self c.args.answer c.in_ok-block.block c.in_ok-block.ensures.heard c.in_ok-block.ensures.left
