use Rattle.std.proofs.Common.{[], ◌∙◌, sym, subst}
use Rattle.std.specs.Prelude.{IsSomeAnd}
use Rattle.agent_gate.specs.Taking.{kind_of}
use Rattle.ivy_crowd.specs.Jobs.{IsJob, IsNew}
use Rattle.ivy_crowd.specs.Sessions.{asking_in, serving_by, threads_of}
use Rattle.ivy_crowd.proofs.Served.{have_come}
use Rattle.ivy_crowd.proofs.Zips.{zip_right}
use Rattle.ivy_crowd.proofs.crowding.run.Goals as goal

pub jobs_of-requires-clause-entered : goal.jobs_of-requires-clause-entered
jobs_of-requires-clause-entered g c κs outlives =
    subst (λ h. IsSomeAnd h.agent.view (λ view. Unit {0})) (sym c.in_ok-made.ensures.pass.1) c.requires.entered

pub run_all-requires-clause-first : goal.run_all-requires-clause-first
run_all-requires-clause-first g c κs outlives = (c.jobs_of.ensures.pass, c.jobs_of.ensures.calls ∙ c.in_ok-made.ensures.new.2)

pub run_all-requires-clause-parts : goal.run_all-requires-clause-parts
run_all-requires-clause-parts g c κs outlives = c.in_ok-jobs.ensures.parts ∙ c.in_ok-made.ensures.new.0

pub run_all-requires-clause-jobs : goal.run_all-requires-clause-jobs
run_all-requires-clause-jobs g c κs outlives =
    let asking = asking_in c.args.view.now c.args.calls g.C.Clock.moment c.args.clock.now in
    zip_right (IsJob asking c.in_ok-made.made.0) (IsNew c.in_ok-made.made.0) (λ thread job is. is.new) (threads_of c.args.threads)
    c.in_ok-jobs.jobs.items c.in_ok-jobs.ensures.jobs

pub returns : goal.returns
returns g c =
    let kind = kind_of g.S.Signs.signing g.S.Signs.is_whole g.K.Keeper.saves in
    let asking = asking_in c.args.view.now c.args.calls g.C.Clock.moment c.args.clock.now in
    record {
      gate = c.in_ok-made.made.0;
      its_opening = c.in_ok-made.ensures.pass.1;
      run = have_come (serving_by kind c.in_ok-made.made.0 c.args.ring.now g.C.Clock.gives) asking (threads_of c.args.threads)
          c.in_ok-jobs.jobs.items c.in_ok-closed.closed.agent c.in_ok-closed.closed.turns c.in_ok-jobs.ensures.jobs c.in_ok-closed.ensures;
    }
