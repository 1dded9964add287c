use Rattle.std.proofs.Common.{◌∙◌, sym}
use Rattle.ivy_crowd.proofs.Calls.{request_is_made}
use Rattle.ivy_crowd.proofs.request.request.Goals as goal

pub unreachable-requires : goal.unreachable-requires
unreachable-requires c =
    absurd (request_is_made c.args.view.now c.args.thread c.args.call c.ranges.thread.fits c.ranges.call.fits
    (sym c.in_ok-message.ensures ∙ c.in-None.is))
