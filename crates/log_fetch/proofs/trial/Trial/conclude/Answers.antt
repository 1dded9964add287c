use Rattle.std.proofs.Common.{◌≡◌, ◌<◌, length, Option, map, ap, ◌∙◌, subst}
use Rattle.ivy_base.specs.declared.key.PubKey.{PubKey}
use Rattle.log_model.specs.declared.chain_fault.ChainFault.{ChainFault}
use Rattle.session_model.specs.Brought.{stamp_of}
use Rattle.log_fetch.specs.Walking.{kept_of}
use Rattle.log_fetch.specs.Trying.{Trying, IsBegunAt, IsTakenAs, EndsWith, GoesOnWith}
use Rattle.log_fetch.proofs.Trying.{ends_taken, ends_passed, goes_to_next}
use Rattle.log_fetch.proofs.trial.Trial.conclude.Goals as goal

pub returns-in-None-clause-concluded : goal.returns-in-None-clause-concluded
returns-in-None-clause-concluded c =
    let i = c.self.inside in
    let t : Trying = record { head = stamp_of i.head; walk = i.walk; rest = map stamp_of i.rest.items; held = i.held; fault = i.fault } in
    let over = ap (λ (s : Trying). s.walk.left) c.self.view_is ∙ c.requires.over in
    subst (λ (s : Trying). EndsWith c.args.view.now c.args.edge s c.args.batch.now c.take.new.batch i.fault) c.self.view_is
    (ends_taken c.args.view.now c.args.edge t c.args.batch.now c.take.new.batch (kept_of c.into_chain.result) c.into_chain.ensures.chain over
    (subst (λ (x : Option ChainFault). IsTakenAs c.args.view.now c.args.batch.now c.take.new.batch t.head c.args.edge (kept_of c.into_chain.result) x) c.in-None.is c.in_ok-take.ensures.taken))

pub returns-in-Some-next-clause-concluded : goal.returns-in-Some-next-clause-concluded
returns-in-Some-next-clause-concluded c =
    let i = c.self.inside in
    let t : Trying = record { head = stamp_of i.head; walk = i.walk; rest = map stamp_of i.rest.items; held = i.held; fault = i.fault } in
    let over = ap (λ (s : Trying). s.walk.left) c.self.view_is ∙ c.requires.over in
    subst (λ (s : Trying). (c.take.new.batch ≡ c.args.batch.now) × (length c.in-Some-next.trial.rest < length s.rest) × (c.in-Some-next.trial.walk.owner ≡ s.walk.owner) × GoesOnWith c.args.view.now c.args.edge s c.args.batch.now c.in-Some-next.trial) c.self.view_is
    (goes_to_next c.args.view.now c.args.edge t c.args.batch.now c.take.new.batch (kept_of c.into_chain.result) c.into_chain.ensures.chain over c.in-Some.fault
    (subst (λ (x : Option ChainFault). IsTakenAs c.args.view.now c.args.batch.now c.take.new.batch t.head c.args.edge (kept_of c.into_chain.result) x) c.in-Some.is c.in_ok-take.ensures.taken)
    c.in-Some-next.trial c.first_fault-first.result
    (subst (λ (o : PubKey). IsBegunAt o i.held (map stamp_of i.rest.items) c.first_fault-first.result c.in-Some-next.trial) c.owner.ensures c.in-Some-next.ensures.some) c.first_fault-first.ensures)

pub returns-in-None-next-clause-concluded : goal.returns-in-None-next-clause-concluded
returns-in-None-next-clause-concluded c =
    let i = c.self.inside in
    let t : Trying = record { head = stamp_of i.head; walk = i.walk; rest = map stamp_of i.rest.items; held = i.held; fault = i.fault } in
    let over = ap (λ (s : Trying). s.walk.left) c.self.view_is ∙ c.requires.over in
    subst (λ (s : Trying). EndsWith c.args.view.now c.args.edge s c.args.batch.now c.take.new.batch c.first_fault-first.result) c.self.view_is
    (ends_passed c.args.view.now c.args.edge t c.args.batch.now c.take.new.batch (kept_of c.into_chain.result) c.into_chain.ensures.chain over c.in-Some.fault
    (subst (λ (x : Option ChainFault). IsTakenAs c.args.view.now c.args.batch.now c.take.new.batch t.head c.args.edge (kept_of c.into_chain.result) x) c.in-Some.is c.in_ok-take.ensures.taken)
    (ap (map stamp_of) c.in-None-next.ensures.none) c.first_fault-first.result c.first_fault-first.ensures)
