use Rattle.std.proofs.Common.{◌≡◌, ◌≤◌, [], map, length}
use Rattle.job_desk.specs.Chains.{CameBack, kind_of}
use Rattle.job_desk.proofs.serving.fn.serve_until.scope.Given as goal

abbrev pub invariant-loop : goal.invariant-loop
invariant-loop g l = ((goal.iterator-loop g).can_next l.iterator' × (goal.iterator-loop g).is_finite l.iterator')
    × (g.D.Desk.place l.desk ≡ g.D.Desk.place l.initial.desk)
    × (length l.seats.items ≤ g.D.Desk.out l.desk)
    × CameBack (kind_of g.D.Desk.gives g.D.Desk.refuses g.D.Desk.takes g.J.Work.serves) l.initial.desk l.desk (map (λ s. s.handle.promise.job.value) l.seats.items) []
