use Rattle.std.proofs.Common.{rules, ◌≢◌, []}
use Rattle.view_blocks.specs.Faults.{keys_of}
use Rattle.view_blocks.proofs.KeyLists.{no_former, nothing_behind}
use Rattle.view_blocks.proofs.form.key_lists.Goals as goal

pub returns-in_err-former-clause-none : goal.returns-in_err-former-clause-none
returns-in_err-former-clause-none c =
    rw c.from_residual-in_err-former.ensures
    (no_former c.args.bytes.now c.in_ok-rest.rest.now c.in_ok-members.rest.now (keys_of c.in_ok-members.members.now) c.in_ok-rest.ensures c.in_ok-members.ensures.some c.in_err-former.ensures.none)

pub returns-else-is_empty-clause-none : goal.returns-else-is_empty-clause-none
returns-else-is_empty-clause-none c =
    let left : c.in_ok-former.rest.now ≢ [] = search rules in
    nothing_behind c.args.bytes.now c.in_ok-rest.rest.now c.in_ok-members.rest.now (keys_of c.in_ok-members.members.now) c.in_ok-rest.ensures c.in_ok-members.ensures.some
    (keys_of c.in_ok-former.former.now) c.in_ok-former.rest.now c.in_ok-former.ensures.some left
