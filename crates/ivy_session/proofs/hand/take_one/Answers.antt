use Rattle.ivy_session.proofs.Available.{is_named, is_wanted, nothing_available, nothing_wanted, one_cached, one_pending}
use Rattle.ivy_session.proofs.hand.take_one.Goals as goal

pub give-requires : goal.give-requires
give-requires g c = record {
  wanted = is_wanted c.take_pending.new.self c.in-Some.key c.in-Some.ensures;
  named = λ _. is_named c.take_pending.new.self c.in-Some.key c.in-Some.ensures c.in-Some-peek.bytes.now c.in-Some-peek.ensures.named;
}

pub returns-then-branch : goal.returns-then-branch
returns-then-branch g c = one_pending g.J.Judge.judges c.args.refresh.now c.take_pending.new.self c.args.cache.now c.in_ok-take_pending.field-0 c.in_ok-take_pending.ensures.taken c.if-branch.true c.in_ok-take_pending.ensures.left

pub returns-in_default : goal.returns-in_default
returns-in_default g c =
    nothing_wanted g.J.Judge.judges c.args.refresh.now c.take_pending.new.self c.args.cache.now c.in_ok-take_pending.field-0 c.in_ok-take_pending.ensures.taken c.if-branch.false c.in_default.ensures

pub returns-in_default-peek : goal.returns-in_default-peek
returns-in_default-peek g c =
    nothing_available g.J.Judge.judges c.args.refresh.now c.take_pending.new.self c.args.cache.now c.in_ok-take_pending.field-0 c.in_ok-take_pending.ensures.taken c.if-branch.false c.in-Some.key c.in-Some.ensures c.in_default-peek.ensures.found

pub returns : goal.returns
returns g c =
    one_cached g.J.Judge.judges c.args.refresh.now c.take_pending.new.self c.args.cache.now c.in_ok-take_pending.field-0 c.in_ok-take_pending.ensures.taken c.if-branch.false c.in-Some.key c.in-Some.ensures
    c.give.new.self c.find-block.follows.lender-at-none c.in-Some-peek.bytes.now c.in-Some-peek.ensures.found c.find-block.follows.holds-at-none c.in_ok-give.ensures.given c.in_ok-give.ensures.left
