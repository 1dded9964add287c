use Rattle.std.proofs.Common.{◌∷◌, map, arith}
use Rattle.std.specs.Prelude.{IsPermutation}
use Rattle.job_desk.specs.Chains.{kind_of}
use Rattle.job_desk.specs.declared.seats.Seat.{Seat}
use Rattle.job_desk.proofs.Chains.{one-taken, map-taken}
use Rattle.job_desk.proofs.seats.give_one.Goals as goal

pub returns-clause-back : goal.returns-clause-back
returns-clause-back g c = λ b stops h.
    let f : Seat g.row.X.Denot g.row.J.Denot → g.row.J.Denot = λ s. s.handle.promise.job.value in
    let kind = kind_of g.D.Desk.gives g.D.Desk.refuses g.D.Desk.takes g.J.Work.serves in
    let out = map f c.args.seats.now.items in
    let rest = map f c.swap_remove-handle.new.self.items in
    let j = c.swap_remove-handle.result.handle.promise.job.value in
    let p : IsPermutation out (j ∷ rest) = map-taken f c.args.seats.now.items c.swap_remove-handle.new.self.items c.args.at c.swap_remove-handle.result (omega (arith, c.requires.at, c.args.seats.now.ok.0)) c.swap_remove-handle.ensures.value c.swap_remove-handle.ensures.items in
    one-taken kind b c.args.desk.now c.take.new.self out rest stops j c.join-done.result h p c.join-done.ensures c.take.ensures.is
