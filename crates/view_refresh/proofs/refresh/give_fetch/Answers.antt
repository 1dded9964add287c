use Rattle.view_refresh.proofs.Giving.{fetch_gives_next}
use Rattle.view_refresh.proofs.refresh.give_fetch.Goals as goal

pub returns : goal.returns
returns g c = fetch_gives_next g.J.Judge.judges c.args.basis c.args.fetch c.give.new.self c.args.bytes.now c.in_ok-give.ensures.given c.in_ok-give.ensures.free c.in_ok-give.ensures.left
