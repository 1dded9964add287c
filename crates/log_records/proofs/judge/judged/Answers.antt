use Rattle.std.proofs.Common.{◌≡◌, true, false}
use Rattle.log_records.proofs.PlainHeads.{no_head, plain_head, other_head}
use Rattle.log_records.proofs.judge.judged.Goals as goal

pub returns-in_default-clause-none : goal.returns-in_default-clause-none
returns-in_default-clause-none c = no_head c.args.key.now c.args.bytes.now c.in_default.ensures.none

pub returns-then-not-is_plain_under-clause-none : goal.returns-then-not-is_plain_under-clause-none
returns-then-not-is_plain_under-clause-none c = other_head c.args.key.now c.args.bytes.now _ _ _ c.in-Some.ensures.some (λ w. let no : false ≡ true = c.if-not-is_plain_under.ensures.1 w in absurd (cc no))

pub returns-clause-some : goal.returns-clause-some
returns-clause-some c = plain_head c.args.key.now c.args.bytes.now c.in-Some.head.owner _ c.in-Some.head.signature.now c.in-Some.ensures.some (c.is_plain_under.ensures.0 c.if-not-is_plain_under.false)
