use Rattle.std.proofs.Common.{refl, ap, ◌∙◌, arith}
use Rattle.shared_map.specs.Trees.{seen, top}
use Rattle.shared_map.proofs.tree.Tree.take.Goals as goal

pub invariant_of-self : goal.invariant_of-self
invariant_of-self g c = rw c.take.ensures.after (tt, omega arith)

pub returns-clause-top : goal.returns-clause-top
returns-clause-top g c = ap (λ x. seen (top x)) c.take.ensures.value ∙ c.self.view_is

pub returns-clause-balanced : goal.returns-clause-balanced
returns-clause-balanced g c = rw c.take.ensures.value c.self.invariant.0

pub returns-clause-low : goal.returns-clause-low
returns-clause-low g c = rw (← c.self.view_is) c.self.invariant.1

pub returns-clause-rest : goal.returns-clause-rest
returns-clause-rest g c = rw c.take.ensures.after refl
