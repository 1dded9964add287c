use Rattle.std.proofs.Common.{◌≡◌, None, IfSome, Contains, sym, ap, ◌∙◌, subst}
use Rattle.ivy_base.specs.declared.key.Key.{Key}
use Rattle.ivy_base.specs.declared.key.PubKey.{PubKey}
use Rattle.ivy_base.specs.Naming.{head_key_of}
use Rattle.log_model.specs.Vector.{stamp_at}
use Rattle.log_records.specs.Batches.{owners_in}
use Rattle.log_fetch.specs.Trying.{trial_left}
use Rattle.log_fetch.proofs.Lefts.{settled_within}
use Rattle.log_fetch.proofs.Steps.{goes_on_with}
use Rattle.log_fetch.proofs.log.go_on.Goals as goal

pub settle-requires-clause-new_log : goal.settle-requires-clause-new_log
settle-requires-clause-new_log c =
    let same = c.in_ok-give.ensures.owner ∙ c.requires.owner in
    subst (λ (o : PubKey). Contains (owners_in c.args.batch.now.chains) o → ⊥) (sym same) c.requires.new_log

pub settle-requires-clause-edge : goal.settle-requires-clause-edge
settle-requires-clause-edge c =
    let same = c.in_ok-give.ensures.owner ∙ c.requires.owner in
    subst (λ (k : Key). IfSome c.in_ok-edge.edge (λ e. stamp_at e.vector k ≡ None)) (c.head_key.ensures ∙ ap head_key_of (sym same)) c.in_ok-edge.ensures.own

pub returns-clause-goes_on : goal.returns-clause-goes_on
returns-clause-goes_on c =
    goes_on_with c.args.view.now c.args.owner.now c.args.batch.now c.settle.new.batch c.head_key.result c.head_key.ensures c.args.edges.now c.in_ok-edge.edge c.in_ok-edge.ensures.value c.args.trial c.give.new.self c.args.bytes.now
    (c.in_ok-give.ensures.owner ∙ c.requires.owner) c.in_ok-give.ensures.told c.settle.result c.settle.ensures.settled

pub returns-clause-left : goal.returns-clause-left
returns-clause-left c = settled_within c.give.new.self (trial_left c.args.trial) c.in_ok-give.ensures.fewer c.settle.result c.settle.ensures.left
