use Rattle.std.proofs.Common.{◌≡◌, ℕ, List, Some, ap, sym, ◌∙◌}
use Rattle.ivy_crowd.specs.Requests.{stream}
use Rattle.ivy_crowd.proofs.Calls.{stream_is_calls}
use Rattle.ivy_crowd.proofs.jobs.job_of.Goals as goal

pub returns-clause-job : goal.returns-clause-job
returns-clause-job g c =
    let asked : stream c.args.view.now c.args.thread c.args.calls ≡ Some c.new.result =
    sym c.in_ok-bytes.ensures ∙ ap (λ (l : List ℕ). Some l) (sym c.new.ensures) in
    record {
      new = record {
        entered = c.requires.entered;
        fits = c.split.ensures.new.0;
        part = c.split.ensures.new.1;
        unused = c.split.ensures.new.3;
        calls = stream_is_calls c.args.view.now c.args.thread c.args.calls c.new.result asked;
        unwritten = c.new-2.ensures;
      };
      asked = asked;
      its_moment = c.in_ok-clock.ensures;
    }
