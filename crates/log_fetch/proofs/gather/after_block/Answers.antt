use Rattle.std.proofs.Common.{[], ◌<◌, sym, subst, refl, length, List, get_or, Option, arith}
use Rattle.ivy_base.specs.declared.key.PubKey.{PubKey}
use Rattle.log_fetch.specs.Trying.{Trying, trial_left}
use Rattle.log_fetch.specs.Gathering.{GoesOnLog, waits_left}
use Rattle.log_fetch.proofs.Advancing.{next_at}
use Rattle.log_fetch.proofs.Taking.{block_within, block_waiting, block_passed}
use Rattle.log_fetch.proofs.gather.after_block.Goals as goal

pub offset_bounds-members-passed : goal.offset_bounds-members-passed
offset_bounds-members-passed c =
    let less = block_within c.args.known.now c.args.passed.now c.args.trial c.requires in
    let few = c.members.ensures.legal.few in
    omega (arith, less, few)

pub bounds-members-passed : goal.bounds-members-passed
bounds-members-passed c = subst (λ (l : List PubKey). c.args.passed.now.at < length l) (sym c.members.ensures.value) (block_within c.args.known.now c.args.passed.now c.args.trial c.requires)

pub go_on_log-requires-clause-next : goal.go_on_log-requires-clause-next
go_on_log-requires-clause-next c =
    let m = c.members in
    next_at c.args.known.now c.args.passed.now m.result.now c.args.known.now.view.members (record { 0 = [] }) m.ensures.value refl m.ensures.legal (block_within c.args.known.now c.args.passed.now c.args.trial c.requires)

pub returns-in-Some-clause-taken : goal.returns-in-Some-clause-taken
returns-in-Some-clause-taken c =
    let m = c.members in
    let owner = get_or m.result.now c.args.passed.now.at (record { 0 = [] }) in
    let next = next_at c.args.known.now c.args.passed.now m.result.now c.args.known.now.view.members (record { 0 = [] }) m.ensures.value refl m.ensures.legal (block_within c.args.known.now c.args.passed.now c.args.trial c.requires) in
    block_waiting c.args.known.now c.args.passed.now c.args.trial owner next c.requires c.args.bytes.now c.go_on_log.new.passed c.in-Some.trial
    (subst (λ (w : Option Trying). waits_left w < trial_left c.args.trial) c.in-Some.is c.in_ok-trial.ensures.left)
    (subst (GoesOnLog c.args.known.now c.args.passed.now c.go_on_log.new.passed owner c.args.trial c.args.bytes.now) c.in-Some.is c.in_ok-trial.ensures.gone)

pub returns-in-None-clause-taken : goal.returns-in-None-clause-taken
returns-in-None-clause-taken c =
    let m = c.members in
    let owner = get_or m.result.now c.args.passed.now.at (record { 0 = [] }) in
    let next = next_at c.args.known.now c.args.passed.now m.result.now c.args.known.now.view.members (record { 0 = [] }) m.ensures.value refl m.ensures.legal (block_within c.args.known.now c.args.passed.now c.args.trial c.requires) in
    block_passed c.args.known.now c.args.passed.now c.args.trial owner next c.requires c.args.bytes.now c.go_on_log.new.passed
    (subst (GoesOnLog c.args.known.now c.args.passed.now c.go_on_log.new.passed owner c.args.trial c.args.bytes.now) c.in-None.is c.in_ok-trial.ensures.gone) c.advance.new.passed c.advance.result c.advance.ensures.advances
