use Rattle.script_world.proofs.parts.Parts.show_by.Goals as goal

pub returns-in-Holds : goal.returns-in-Holds
returns-in-Holds c = rw c.in-Holds.is (λ before tells. c.holds.ensures before)

pub returns-in-Order : goal.returns-in-Order
returns-in-Order c = rw (c.in-Order.is, ← c.as_slice.ensures) (λ before tells. c.order.ensures before)

pub returns-in-Work : goal.returns-in-Work
returns-in-Work c = rw (c.in-Work.is, ← c.as_slice-in-Work.ensures) (λ before tells. c.work.ensures before)

pub returns-in-Conflicts : goal.returns-in-Conflicts
returns-in-Conflicts c = rw (c.in-Conflicts.is, ← c.as_slice-in-Conflicts.ensures) (λ before tells. c.conflicts.ensures before)

pub returns-in-Proof : goal.returns-in-Proof
returns-in-Proof c = rw (c.in-Proof.is, ← c.as_slice-in-Proof.ensures) c.proof.ensures
