use Rattle.std.proofs.Common.{subst}
use Rattle.log_fetch.specs.Stepping.{BeginsFor}
use Rattle.log_fetch.proofs.fetch.Fetch.begin_with.Goals as goal

pub begun-requires : goal.begun-requires
begun-requires g c = let f = c.args.self.now in subst (BeginsFor g.J.Judge.judges f.judge f.replicas f.entries c.args.gather.stage) c.in-Some.is c.requires

pub done-requires : goal.done-requires
done-requires g c = let f = c.args.self.now in subst (BeginsFor g.J.Judge.judges f.judge f.replicas f.entries c.args.gather.stage) c.in-None.is c.requires
