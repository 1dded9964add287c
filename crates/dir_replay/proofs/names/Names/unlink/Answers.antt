use Rattle.std.proofs.Common.{sym, subst}
use Rattle.dir_replay.specs.Tied.{IsTied}
use Rattle.dir_replay.proofs.Unlinked.{unlinked}
use Rattle.dir_replay.proofs.names.Names.unlink.Goals as goal

pub invariant_of-self : goal.invariant_of-self
invariant_of-self c = subst (λ nodes. IsTied nodes) (sym c.in_err-unlink.ensures.err) c.self.invariant

pub invariant_of-self-2 : goal.invariant_of-self-2
invariant_of-self-2 c = (unlinked c.self.inside.nodes c.self.invariant c.args.self.now c.self.view_is c.args.dir.now c.args.name.now c.in-Some.ino c.in-Some.ensures c.if-not-may_lose_name.ensures c.is_directory-directory.result c.is_directory-directory.ensures c.unlink.new.self c.in_ok-unlink.ensures.ok).1

pub returns-clause-ok : goal.returns-clause-ok
returns-clause-ok c = (unlinked c.self.inside.nodes c.self.invariant c.args.self.now c.self.view_is c.args.dir.now c.args.name.now c.in-Some.ino c.in-Some.ensures c.if-not-may_lose_name.ensures c.is_directory-directory.result c.is_directory-directory.ensures c.unlink.new.self c.in_ok-unlink.ensures.ok).0
