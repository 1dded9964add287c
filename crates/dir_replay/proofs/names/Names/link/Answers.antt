use Rattle.std.proofs.Common.{sym, subst}
use Rattle.dir_replay.specs.Tied.{IsTied}
use Rattle.dir_replay.proofs.Linked.{linked_by}
use Rattle.dir_replay.proofs.names.Names.link.Goals as goal

pub invariant_of-self : goal.invariant_of-self
invariant_of-self c = subst (λ nodes. IsTied nodes) (sym c.in_err-link.ensures.err) c.self.invariant

pub invariant_of-self-2 : goal.invariant_of-self-2
invariant_of-self-2 c =
    (linked_by c.self.inside.nodes c.self.invariant c.args.self.now c.self.view_is c.args.dir.now c.args.name.now c.args.ino.now c.in_ok-counts.field-0 c.in_ok-counts.ensures.may c.in_ok-counts.ensures.counts c.in-Some.counts c.in-Some.is
    c.link.new.self c.in_ok-link.ensures.ok).1

pub returns-clause-ok : goal.returns-clause-ok
returns-clause-ok c =
    (linked_by c.self.inside.nodes c.self.invariant c.args.self.now c.self.view_is c.args.dir.now c.args.name.now c.args.ino.now c.in_ok-counts.field-0 c.in_ok-counts.ensures.may c.in_ok-counts.ensures.counts c.in-Some.counts c.in-Some.is
    c.link.new.self c.in_ok-link.ensures.ok).0
