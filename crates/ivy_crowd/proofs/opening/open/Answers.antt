use Rattle.std.proofs.Common.{refl, ap, sym, subst, ◌∙◌}
use Rattle.ivy_crowd.specs.Requests.{IsKey, alone}
use Rattle.ivy_crowd.proofs.Coming.{is_opened}
use Rattle.ivy_crowd.proofs.opening.open.Goals as goal

pub create-requires : goal.create-requires
create-requires c = subst IsKey (sym c.new.ensures) c.in_ok-signer.ensures

pub returns : goal.returns
returns c =
    is_opened c.args.moment c.new.result c.in_ok-agent.agent c.enter.new.agent c.in_ok-view.view c.in_ok-view.view
    (subst IsKey (sym c.new.ensures) c.in_ok-signer.ensures) c.in_ok-agent.ensures (c.in_ok-view.ensures ∙ ap alone c.owner.ensures) refl c.in_ok-enter.ensures
