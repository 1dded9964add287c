use Rattle.std.proofs.Common.{◌+◌, List, Option, get_or, inl, inr, ap, subst, length, arith}
use Rattle.std.specs.Prelude.{IfSome}
use Rattle.log_records.specs.declared.record.Record.{Record}
use Rattle.causal_order.specs.Kept.{known_of, IsAdvanced, IsDecided}
use Rattle.causal_order.proofs.Stepping.{short_vectors, some_front, next_stands, next_is, left_at, taken_at}
use Rattle.causal_order.proofs.pass.see.Goals as goal

pub advance-requires : goal.advance-requires
advance-requires c = rw (← c.index-logs-i.is) (short_vectors c.args.base.now.view.now c.args.base.now.front.now (known_of c.args.base.now c.args.taken.now.items) c.args.logs.now c.requires.kept
    c.index-logs-i.result (next_stands c.args.logs.now c.args.i c.index-logs-i.result c.requires.next c.index-logs-i.is))

pub returns-in_ok-push : goal.returns-in_ok-push
returns-in_ok-push c =
    inl (taken_at c.args.base.now c.args.taken.now.items c.args.logs.now c.args.i c.index-all-i.result c.index-logs-i.result c.advance.new.self c.may_take.result c.requires.next.1.0.within c.index-all-i.is c.index-logs-i.is
    (subst (λ (taken : List Record). IsDecided c.args.base.now taken c.index-all-i.result c.may_take.result) c.as_slice.ensures.value c.may_take.ensures)
    (length c.args.base.now.held.now + c.len.result) c.in-Some.record c.push.new.self.items
    (subst (λ (o : Option Record). IfSome o (IsAdvanced (get_or c.args.logs.now c.args.i c.index-logs-i.result) c.advance.new.self (length c.args.base.now.held.now + c.len.result))) c.in-Some.is c.in_ok-record.ensures.taken) (let v = ap length c.as_slice.ensures.value in let l = c.as_slice.ensures.len in let n = c.len.ensures in omega (arith, v, l, n)) c.in_ok-push.ensures.items c.if-may_take.true)

pub returns-else-may_take : goal.returns-else-may_take
returns-else-may_take c =
    let f = some_front c.args.base.now.view.now c.args.base.now.front.now (known_of c.args.base.now c.args.taken.now.items) c.args.logs.now c.requires.kept
    c.index-all-i.result (next_stands c.args.logs.now c.args.i c.index-all-i.result c.requires.next c.index-all-i.is)
    c.requires.next.0 (next_is c.args.logs.now c.args.i c.index-all-i.result c.requires.next c.index-all-i.is) in
    inr (left_at c.args.base.now c.args.taken.now.items c.args.logs.now c.args.i c.index-all-i.result c.index-logs-i-else-may_take.result c.clear.new.self c.may_take.result c.requires.next.1.0.within c.index-all-i.is c.index-logs-i-else-may_take.is
    (subst (λ (taken : List Record). IsDecided c.args.base.now taken c.index-all-i.result c.may_take.result) c.as_slice.ensures.value c.may_take.ensures)
    c.clear.ensures f.0 f.1 c.if-may_take.false)
