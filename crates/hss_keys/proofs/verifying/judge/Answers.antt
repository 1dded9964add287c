use Rattle.std.proofs.Common.{sym}
use Rattle.std.proofs.lemmas.Result.{err_from_is_err_and}
use Rattle.hss_keys.proofs.Levels.{verdict_is}
use Rattle.hss_keys.proofs.verifying.judge.Goals as goal

pub returns-in_err-check_levels : goal.returns-in_err-check_levels
returns-in_err-check_levels c =
    let p = err_from_is_err_and c.from_residual-in_err-check_levels.result c.from_residual-in_err-check_levels.ensures.1 in
    let answer = verdict_is c.args.public.now c.args.message.now c.args.signature.now c.in_ok-between.between c.in_ok-found.found c.in_ok-between.top c.in_ok-found.rest.now c.in_ok-between.ensures c.in_ok-found.ensures c.if-found-between.false in
    rw (p.1, p.2) (sym (rw (← c.in_err-check_levels.ensures) at answer))

pub returns-then-branch : goal.returns-then-branch
returns-then-branch c =
    let answer = verdict_is c.args.public.now c.args.message.now c.args.signature.now c.in_ok-between.between c.in_ok-found.found c.in_ok-between.top c.in_ok-found.rest.now c.in_ok-between.ensures c.in_ok-found.ensures c.if-found-between.false in
    sym (rw (← c.in_ok-check_levels.ensures, c.if-branch.true) at answer)

pub returns-else-branch : goal.returns-else-branch
returns-else-branch c =
    let answer = verdict_is c.args.public.now c.args.message.now c.args.signature.now c.in_ok-between.between c.in_ok-found.found c.in_ok-between.top c.in_ok-found.rest.now c.in_ok-between.ensures c.in_ok-found.ensures c.if-found-between.false in
    sym (rw (← c.in_ok-check_levels.ensures, c.if-branch.false) at answer)
