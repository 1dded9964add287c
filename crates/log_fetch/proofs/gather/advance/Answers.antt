use Rattle.std.proofs.Common.{[], ◌<◌, ◌≤◌, length, subst, Option, List, get_or, refl, ◌^◌, arith}
use Rattle.std.proofs.lemmas.Bool.{false≢true}
use Rattle.ivy_base.specs.declared.key.PubKey.{PubKey}
use Rattle.log_fetch.specs.Trying.{Trying}
use Rattle.log_fetch.specs.Gathering.{BeginsLog, waits_left}
use Rattle.log_fetch.proofs.Advancing.{next_at, to_heads, to_block, to_next, to_end}
use Rattle.log_fetch.proofs.gather.advance.Goals as goal

pub returns-then-not-is_one-clause-advances : goal.returns-then-not-is_one-clause-advances
returns-then-not-is_one-clause-advances c =
    let m = c.members-in-members-2 in
    let owner = get_or m.result.now c.members.passed.at (record { 0 = [] }) in
    let next = next_at c.args.known.now c.members.passed m.result.now c.members-in-members.result.now (record { 0 = [] }) m.ensures.value c.members-in-members.ensures.value m.ensures.legal c.members-test.true in
    to_heads c.args.known.now c.members.passed owner next (λ e. absurd (false≢true (c.if-not-is_one.ensures.1 e))) c.args.passed.now c.members.invariant
    (subst (λ (l : List PubKey). c.members.passed.at < length l) c.members-in-members.ensures.value c.members-test.true)

pub returns-in-Some-clause-advances : goal.returns-in-Some-clause-advances
returns-in-Some-clause-advances c =
    let m = c.members-in-members-2 in
    let owner = get_or m.result.now c.members.passed.at (record { 0 = [] }) in
    let next = next_at c.args.known.now c.members.passed m.result.now c.members-in-members.result.now (record { 0 = [] }) m.ensures.value c.members-in-members.ensures.value m.ensures.legal c.members-test.true in
    to_block c.args.known.now c.members.passed c.begin_log.new.passed owner next (c.if-not-is_one.ensures.0 refl) c.args.passed.now c.members.invariant
    (subst (λ (l : List PubKey). c.members.passed.at < length l) c.members-in-members.ensures.value c.members-test.true) c.in-Some.trial
    (subst (λ (w : Option Trying). waits_left w < 2 ^ 96) c.in-Some.is c.in_ok-trial.ensures.left)
    (subst (λ (w : Option Trying). BeginsLog c.args.known.now c.members.passed c.begin_log.new.passed owner [] w) c.in-Some.is c.in_ok-trial.ensures.begun)

pub members-preserved : goal.members-preserved
members-preserved c =
    let m = c.members-in-members-2 in
    let owner = get_or m.result.now c.members.passed.at (record { 0 = [] }) in
    let next = next_at c.args.known.now c.members.passed m.result.now c.members-in-members.result.now (record { 0 = [] }) m.ensures.value c.members-in-members.ensures.value m.ensures.legal c.members-test.true in
    to_next c.args.known.now c.members.passed c.begin_log.new.passed owner next (c.if-not-is_one.ensures.0 refl) c.args.passed.now c.members.invariant
    (subst (λ (w : Option Trying). BeginsLog c.args.known.now c.members.passed c.begin_log.new.passed owner [] w) c.in_default.is c.in_ok-trial.ensures.begun)

pub returns-clause-advances : goal.returns-clause-advances
returns-clause-advances c =
    let m = c.members-in-members in
    let over : length c.args.known.now.view.members ≤ c.members.passed.at = subst (λ (l : List PubKey). length l ≤ c.members.passed.at) m.ensures.value (omega (arith, c.members-test.false)) in
    to_end c.args.known.now c.members.passed over c.args.passed.now c.members.invariant m.ensures.legal
