use Rattle.std.proofs.Common.{sym, ap, ◌∙◌}
use Rattle.std.specs.Option.{unwrap_or}
use Rattle.rpc_wire.specs.Callers.{identity_of}
use Rattle.nfs_model.specs.declared.replies.NfsStatus.TheVariants as status
use Rattle.nfs_model.specs.declared.replies.Tail.TheVariants as tail
use Rattle.nfs_model.specs.Objects.{cache_data}
use Rattle.nfs_model.specs.Changing.{Nothing}
use Rattle.nfs_model.specs.declared.replies.Reply.TheVariants as reply
use Rattle.nfs3_objects.specs.Seen.{seen}
use Rattle.nfs3_writes.specs.Checks.{place_checks}
use Rattle.nfs3_writes.proofs.Passing.{refused_at_last}
use Rattle.nfs3_writes.proofs.creating.refused_exclusive.Goals as goal

pub returns-in-Ok : goal.returns-in-Ok
returns-in-Ok c = λ verifier now number.
    let t = c.args.tree.now in
    let view = c.args.view.now in
    let dir = c.in-Ok.dir in
    rw c.in-Ok.ensures.ok
    (c.refused_at.ensures
    ∙ sym (refused_at_last (place_checks (identity_of c.args.caller.now) (seen dir) c.args.name.now) status.NotSupp
    (tail.Cache (cache_data t t view dir.number)) (Nothing reply.Nothing) c.unwrap_or-fault.result
    (c.unwrap_or-fault.ensures ∙ ap (λ o. unwrap_or o status.NotSupp) c.place_fault.ensures)))
