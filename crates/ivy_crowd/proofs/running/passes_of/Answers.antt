use Rattle.std.proofs.Common.{[], ◌∷◌, ◌++◌, ◌∙◌, ap, append_assoc, sym, subst}
use Rattle.ivy_crowd.specs.Jobs.{AreWith}
use Rattle.ivy_crowd.proofs.Served.{with_more}
use Rattle.ivy_crowd.proofs.running.passes_of.Goals as goal

pub ended-preserved : goal.ended-preserved
ended-preserved g c =
    let one = c.in-Some.pass ∷ [] in
    let split = ap (λ l. c.ended.yielded ++ l) c.in-Some.ensures.steps.0 in
    record {
      items = c.ended.invariant.items ∙ (split ∙ sym (append_assoc c.ended.yielded one c.next.new.self.rest.items));
      come = subst (AreWith c.args.first (c.ended.yielded ++ one)) (sym c.in_ok-push-2.ensures.items)
          (with_more c.args.first c.ended.yielded c.ended.passes.items c.in-Some.pass c.in_ok-pass.field-0 c.ended.invariant.come
          c.in_ok-pass.was);
    }
