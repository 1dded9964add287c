use Rattle.std.proofs.Common.{◌≡◌, ◌++◌}
use Rattle.ivy_crowd.specs.Jobs.{AreWith}
use Rattle.ivy_crowd.proofs.running.passes_of.Given as goal

abbrev pub invariant-ended : goal.invariant-ended
invariant-ended g l = record {
  items : l.fn.ended.items ≡ l.yielded ++ l.pass-iterator.rest.items;
  come : AreWith l.fn.first l.yielded l.passes.items;
}
