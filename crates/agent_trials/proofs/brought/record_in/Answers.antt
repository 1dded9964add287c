use Rattle.std.proofs.Common.{◌≡◌, true, Contains, sym, ◌∙◌, subst}
use Rattle.std.specs.Ordering.{eq_by_cmp}
use Rattle.ivy_base.specs.Naming.{owner_cmp}
use Rattle.log_model.proofs.Opening.{same_owner}
use Rattle.agent_trials.proofs.Given.{first_contained}
use Rattle.agent_trials.proofs.brought.record_in.Goals as goal

pub returns : goal.returns
returns c =
    let is : eq_by_cmp owner_cmp c.in-Ok.record.owner c.in_ok-member.member.now ≡ true = sym c.is_same-2.ensures ∙ c.if-not-is_same-2.false in
    let one = same_owner c.in-Ok.record.owner c.in_ok-member.member.now is in
    let there = first_contained c.members.result.now c.in_ok-member.member.now c.in_ok-member.ensures.value in
    subst (Contains c.args.view.now.members) one (subst (λ l. Contains l c.in_ok-member.member.now) c.members.ensures.value there)
