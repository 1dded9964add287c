use Rattle.std.proofs.Common.{◌+◌, ◌∷◌, [], ◌∙◌, sym, subst, arith, ap, length, length-append}
use Rattle.std.specs.List.{AllZip}
use Rattle.ivy_crowd.specs.Jobs.{IsJob}
use Rattle.ivy_crowd.specs.Sessions.{asking_in, threads_of}
use Rattle.ivy_crowd.proofs.Served.{jobs_more}
use Rattle.ivy_crowd.proofs.jobs.jobs_of.Goals as goal

pub threads-preserved : goal.threads-preserved
threads-preserved g c =
    let Is = IsJob (asking_in c.args.view.now c.args.calls g.C.Clock.moment c.args.clock.now) c.args.gate.now in
    let pushed = c.in_ok-push.ensures.items in
    let more = ap length pushed ∙ length-append c.threads.jobs.items (c.in_ok-job_of.field-0 ∷ []) in
    record {
      fits = c.job_of.ensures.pass;
      calls = c.job_of.ensures.calls ∙ c.threads.invariant.calls;
      count = omega (arith, more, c.threads.invariant.count);
      parts = omega (arith, more, c.in_ok-job_of.ensures.parts, c.threads.invariant.parts);
      jobs = subst (AllZip Is (threads_of (c.threads.before + 1))) (sym pushed)
          (jobs_more Is c.threads.before c.threads.jobs.items c.in_ok-job_of.field-0 c.threads.invariant.jobs c.in_ok-job_of.ensures.job);
    }
