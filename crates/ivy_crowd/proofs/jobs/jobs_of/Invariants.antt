use Rattle.std.proofs.Common.{◌≡◌, ◌+◌, length}
use Rattle.std.specs.List.{AllZip}
use Rattle.value_gate.specs.Passes.{IsPassOf}
use Rattle.ivy_crowd.specs.Jobs.{IsJob}
use Rattle.ivy_crowd.specs.Sessions.{asking_in, threads_of}
use Rattle.ivy_crowd.proofs.jobs.jobs_of.Given as goal

abbrev pub invariant-threads : goal.invariant-threads
invariant-threads g l = record {
  fits : IsPassOf l.gate l.pass;
  calls : l.pass.calls ≡ l.fn.pass.calls;
  count : length l.jobs.items ≡ l.before;
  parts : l.pass.parts + length l.jobs.items ≡ l.fn.pass.parts;
  jobs : AllZip (IsJob (asking_in l.view l.calls g.C.Clock.moment l.clock) l.gate) (threads_of l.before) l.jobs.items;
}
