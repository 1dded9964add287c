use Rattle.std.proofs.Common.{sym, ap, ◌∙◌, subst}
use Rattle.log_fetch.specs.Walking.{Walking, AreOwned, kept_of}
use Rattle.log_fetch.proofs.Lists.{turned, turned_owned}
use Rattle.log_fetch.proofs.walk.Walk.into_chain.Goals as goal

pub returns-clause-chain : goal.returns-clause-chain
returns-clause-chain c =
    turned c.in_ok-found.found.items c.reverse.new.self.items c.args.self.found c.reverse.ensures.items (sym (ap (λ (w : Walking). w.found) c.self.view_is) ∙ ap kept_of c.in_ok-found.was)

pub returns-clause-owned : goal.returns-clause-owned
returns-clause-owned c =
    turned_owned c.args.self.owner c.in_ok-found.found.items c.reverse.new.self.items c.args.self.found c.reverse.ensures.items (sym (ap (λ (w : Walking). w.found) c.self.view_is) ∙ ap kept_of c.in_ok-found.was)
    (subst (λ (w : Walking). AreOwned w.owner w.found) c.self.view_is c.self.invariant)
