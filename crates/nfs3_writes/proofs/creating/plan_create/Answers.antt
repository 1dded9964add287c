use Rattle.nfs3_writes.proofs.creating.plan_create.Goals as goal

pub returns-in-Exclusive : goal.returns-in-Exclusive
returns-in-Exclusive c = rw c.in-Exclusive.is (c.refused_exclusive.ensures c.in-Exclusive.field-0 c.args.now c.args.number)
