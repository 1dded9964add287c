use Rattle.std.proofs.Common.{◌≡◌, ◌≤◌, map, length}
use Rattle.job_desk.specs.Chains.{GoesOn, kind_of}
use Rattle.job_desk.proofs.seats.give_ended.Given as goal

abbrev pub invariant-loop : goal.invariant-loop
invariant-loop g l = (g.D.Desk.place l.desk ≡ g.D.Desk.place l.initial.desk)
    × (length l.seats.items ≤ g.D.Desk.out l.desk)
    × GoesOn (kind_of g.D.Desk.gives g.D.Desk.refuses g.D.Desk.takes g.J.Work.serves) l.initial.desk (map (λ s. s.handle.promise.job.value) l.initial.seats.items)
    l.desk (map (λ s. s.handle.promise.job.value) l.seats.items)
