use Rattle.std.proofs.Common.{◌≡◌, ◌+◌, arith, length, [], ◌∷◌, map, refl, sym, subst, ap, ◌∙◌, Some, None, rules}
use Rattle.std.specs.Prelude.{Ok, Err}
use Rattle.job_desk.specs.Chains.{CameBack, kind_of}
use Rattle.job_desk.specs.declared.seats.Seat.{Seat}
use Rattle.job_desk.proofs.Chains.{none-given, one-given, one-served, one-stop, length-pushed, map-pushed}
use Rattle.job_desk.proofs.serving.fn.serve_until.scope.Goals as goal
use Rattle.job_desk.proofs.serving.fn.serve_until.scope.Goals.{then-len-ge-MOST-2-via-then-len-ge-MOST-2, then-len-ge-MOST-2-via-else-len-ge-MOST-2+then-is_err}

pub loop-init : goal.loop-init
loop-init g c =
    let f : Seat g.row.X.Denot g.row.J.Denot → g.row.J.Denot = λ s. s.handle.promise.job.value in
    let kind = kind_of g.D.Desk.gives g.D.Desk.refuses g.D.Desk.takes g.J.Work.serves in
    let b = c.captures.desk in
    let none : map f c.new-seats.result.items ≡ [] = ap (map f) c.new-seats.ensures.items in
    ((tt, tt), refl, omega (arith, ap length c.new-seats.ensures.items), subst (λ out. CameBack kind b b out []) (sym none) (none-given kind b))

pub returns-in-Ok-None : goal.returns-in-Ok-None
returns-in-Ok-None g c =
    let f : Seat g.row.X.Denot g.row.J.Denot → g.row.J.Denot = λ s. s.handle.promise.job.value in
    let kind = kind_of g.D.Desk.gives g.D.Desk.refuses g.D.Desk.takes g.J.Work.serves in
    let b = c.captures.desk in
    let d = c.give_ended.new.desk in
    let e = c.accept.new.self in
    let out = map f c.give_ended.new.seats.items in
    let h = c.give_ended.ensures.back b [] c.loop.invariant.3 in
    let place = c.accept.ensures.place ∙ (c.give_ended.ensures.place ∙ c.loop.invariant.1) in
    let none : c.in-Ok-None.field-0 ≡ None = search rules in
    let is : g.D.Desk.gives d None e = subst (λ o. g.D.Desk.gives d o e) none c.in-Ok-None.ensures.is in
    (c.give_all.ensures.place ∙ place, c.give_all.ensures.back b (Ok tt ∷ []) (one-stop kind b d e out [] (Ok tt) h is))

pub returns-in-Err : goal.returns-in-Err
returns-in-Err g c =
    let f : Seat g.row.X.Denot g.row.J.Denot → g.row.J.Denot = λ s. s.handle.promise.job.value in
    let kind = kind_of g.D.Desk.gives g.D.Desk.refuses g.D.Desk.takes g.J.Work.serves in
    let b = c.captures.desk in
    let d = c.give_ended.new.desk in
    let e = c.accept.new.self in
    let out = map f c.give_ended.new.seats.items in
    let h = c.give_ended.ensures.back b [] c.loop.invariant.3 in
    let place = c.accept.ensures.place ∙ (c.give_ended.ensures.place ∙ c.loop.invariant.1) in
    (c.give_all-in-Err.ensures.place ∙ place, c.give_all-in-Err.ensures.back b (Err c.in-Err.fault ∷ []) (one-stop kind b d e out [] (Err c.in-Err.fault) h c.in-Err.ensures.refused))

pub loop-preserved-then-len-ge-MOST-2 : goal.loop-preserved-then-len-ge-MOST-2
loop-preserved-then-len-ge-MOST-2 g c =
    let f : Seat g.row.X.Denot g.row.J.Denot → g.row.J.Denot = λ s. s.handle.promise.job.value in
    let kind = kind_of g.D.Desk.gives g.D.Desk.refuses g.D.Desk.takes g.J.Work.serves in
    let b = c.captures.desk in
    let d = c.give_ended.new.desk in
    let e = c.accept.new.self in
    let out = map f c.give_ended.new.seats.items in
    let h = c.give_ended.ensures.back b [] c.loop.invariant.3 in
    let place = c.accept.ensures.place ∙ (c.give_ended.ensures.place ∙ c.loop.invariant.1) in
    let some : c.in-Ok-Some.field-0 ≡ Some c.in-Ok-Some.job = search rules in
    let more : g.D.Desk.out e ≡ g.D.Desk.out d + 1 = rw some at c.in-Ok-Some.ensures.out in
    let is : g.D.Desk.gives d (Some c.in-Ok-Some.job) e = subst (λ o. g.D.Desk.gives d o e) some c.in-Ok-Some.ensures.is in
    let seats : c.then-len-ge-MOST-2.seats.items ≡ c.give_ended.new.seats.items =
    elim c.then-len-ge-MOST-2.branch [
      | then-len-ge-MOST-2-via-then-len-ge-MOST-2 w ↦ ap (λ v. v.items) w.seats-is
      | then-len-ge-MOST-2-via-else-len-ge-MOST-2+then-is_err w ↦ ap (λ v. v.items) w.seats-is ∙ w.reserve.ensures.items
    ] in
    let same = sym (ap (map f) seats) in
    let k = c.take.new.self in (
      (tt, tt),
      c.take.ensures.place ∙ place,
      omega (arith, ap length seats, more, c.take.ensures.out, c.give_ended.ensures.out),
      subst (λ l. CameBack kind b k l []) same (one-served kind b d e k out [] c.in-Ok-Some.job c.serve-done.result h is (c.requires.5 c.in-Ok-Some.job c.serve-done.result c.serve-done.ensures) c.take.ensures.is),
    )

pub loop-preserved-in-Ok : goal.loop-preserved-in-Ok
loop-preserved-in-Ok g c =
    let f : Seat g.row.X.Denot g.row.J.Denot → g.row.J.Denot = λ s. s.handle.promise.job.value in
    let kind = kind_of g.D.Desk.gives g.D.Desk.refuses g.D.Desk.takes g.J.Work.serves in
    let b = c.captures.desk in
    let d = c.give_ended.new.desk in
    let e = c.accept.new.self in
    let out = map f c.give_ended.new.seats.items in
    let h = c.give_ended.ensures.back b [] c.loop.invariant.3 in
    let place = c.accept.ensures.place ∙ (c.give_ended.ensures.place ∙ c.loop.invariant.1) in
    let some : c.in-Ok-Some.field-0 ≡ Some c.in-Ok-Some.job = search rules in
    let more : g.D.Desk.out e ≡ g.D.Desk.out d + 1 = rw some at c.in-Ok-Some.ensures.out in
    let is : g.D.Desk.gives d (Some c.in-Ok-Some.job) e = subst (λ o. g.D.Desk.gives d o e) some c.in-Ok-Some.ensures.is in
    let j = c.in-Ok-Some.job in
    let job : c.in-Ok.handle.promise.job.value ≡ j = ap (λ p. p.job.value) c.in-Ok.ensures.ok ∙ c.of.ensures in
    let same = sym (map-pushed f c.give_ended.new.seats.items c.reserve.new.self.items c.push_reserved.new.self.items _ j c.push_reserved.ensures.items c.reserve.ensures.items job) in (
      (tt, tt),
      place,
      omega (arith, more, length-pushed c.reserve.new.self.items c.push_reserved.new.self.items _ c.push_reserved.ensures.items, ap length c.reserve.ensures.items, c.give_ended.ensures.out),
      subst (λ l. CameBack kind b e l []) same (one-given kind b d e out [] j h is),
    )

pub loop-preserved : goal.loop-preserved
loop-preserved g c =
    let f : Seat g.row.X.Denot g.row.J.Denot → g.row.J.Denot = λ s. s.handle.promise.job.value in
    let kind = kind_of g.D.Desk.gives g.D.Desk.refuses g.D.Desk.takes g.J.Work.serves in
    let b = c.captures.desk in
    let d = c.give_ended.new.desk in
    let e = c.accept.new.self in
    let out = map f c.give_ended.new.seats.items in
    let h = c.give_ended.ensures.back b [] c.loop.invariant.3 in
    let place = c.accept.ensures.place ∙ (c.give_ended.ensures.place ∙ c.loop.invariant.1) in
    let some : c.in-Ok-Some.field-0 ≡ Some c.in-Ok-Some.job = search rules in
    let more : g.D.Desk.out e ≡ g.D.Desk.out d + 1 = rw some at c.in-Ok-Some.ensures.out in
    let is : g.D.Desk.gives d (Some c.in-Ok-Some.job) e = subst (λ o. g.D.Desk.gives d o e) some c.in-Ok-Some.ensures.is in
    let s : g.J.Work.serves c.in-Ok-Some.job c.spawn_with-done.result = search rules in
    let same = sym (ap (map f) c.reserve.ensures.items) in
    let k = c.take-in-Err-spawn_with.new.self in (
      (tt, tt),
      c.take-in-Err-spawn_with.ensures.place ∙ place,
      omega (arith, more, c.take-in-Err-spawn_with.ensures.out, ap length c.reserve.ensures.items, c.give_ended.ensures.out),
      subst (λ l. CameBack kind b k l []) same (one-served kind b d e k out [] c.in-Ok-Some.job c.spawn_with-done.result h is s c.take-in-Err-spawn_with.ensures.is),
    )
