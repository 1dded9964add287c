use Rattle.std.proofs.Common.{◌≡◌, Some}
use Rattle.ivy_crowd.specs.Requests.{stream}
use Rattle.ivy_crowd.proofs.request.requests.Given as goal

abbrev pub invariant-loop-call : goal.invariant-loop-call
invariant-loop-call l = Some l.stream.items ≡ stream l.view l.thread l.call
