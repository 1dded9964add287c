use Rattle.std.proofs.Common.{◌≡◌, ℕ, ◌+◌, ◌≤◌, List, Some, ap, length, subst, sym, ◌∙◌}
use Rattle.rpc_wire.specs.Frames.{longest_message}
use Rattle.ivy_crowd.proofs.Asked.{stream_more}
use Rattle.ivy_crowd.proofs.Calls.{request_is_call}
use Rattle.ivy_crowd.proofs.request.requests.Goals as goal

pub put_fragment-requires : goal.put_fragment-requires
put_fragment-requires c =
    let message = c.in_ok-message.message in
    let call = request_is_call c.args.view.now c.args.thread (c.loop-call.call + 1) message (sym c.in_ok-message.ensures) in
    subst (λ (l : List ℕ). length l ≤ longest_message) (sym c.as_slice.ensures) call.1

pub loop-call-preserved : goal.loop-call-preserved
loop-call-preserved c =
    let next = stream_more c.args.view.now c.args.thread c.loop-call.call c.loop-call.stream.items c.in_ok-message.message
    c.loop-call.invariant c.in_ok-message.ensures in
    cc (next, c.in_ok-put_fragment.ensures)
