use Rattle.std.proofs.Common.{subst}
use Rattle.log_fetch.specs.Fetching.{FetchIsWanted}
use Rattle.view_refresh.proofs.Wanting.{wants_ask, wants_end}
use Rattle.view_refresh.proofs.refresh.fetch_on.Goals as goal

pub returns-in-Ask : goal.returns-in-Ask
returns-in-Ask g c =
    λ r sound.
    wants_ask g.J.Judge.judges r c.args.basis c.args.fetch c.next.new.self sound c.in-Ask.node c.in-Ask.question (subst (FetchIsWanted g.J.Judge.judges c.args.fetch c.next.new.self) c.in-Ask.is c.in_ok-node.ensures.wanted) c.in_ok-node.ensures.left

pub returns-in-Done : goal.returns-in-Done
returns-in-Done g c =
    λ r sound.
    wants_end g.J.Judge.judges r c.args.basis c.args.fetch c.next.new.self sound c.in-Done.fetched (subst (FetchIsWanted g.J.Judge.judges c.args.fetch c.next.new.self) c.in-Done.is c.in_ok-node.ensures.wanted) c.over_basis.result c.over_basis.ensures
