use Rattle.std.proofs.Common.{◌+◌, ℕ, subst, arith}
use Rattle.std.specs.List.{All}
use Rattle.conflict_list.specs.Order.{order_of}
use Rattle.conflict_list.proofs.MarkedLemmas.{In, IsOf, in_run, run_is}
use Rattle.conflict_list.proofs.Places.{all_contained}
use Rattle.conflict_list.proofs.table.run_of.Goals as goal

pub returns : goal.returns
returns c =
    let low = c.order_of.ensures.order in
    let high = c.order_of-2.ensures.order in
    let fits = c.ranges.log.fits in
    record {
      found = λ m inside log later.
          let p = in_run m c.args.number c.args.log c.args.place (all_contained (IsOf c.args.number) c.args.group.now m c.requires.only inside) log later in
          let over = p.0 in
          let under = p.1 in
          c.between.ensures.found m inside (omega (arith, low, over)) (omega (arith, high, under));
      only = λ k d lt. (c.between.ensures.only k d lt).0;
      run = run_is c.args.group.now c.between.result.now c.args.number c.args.log c.args.place fits c.requires.only
          (subst (λ (h : ℕ). All (In c.args.group.now (order_of c.args.number c.args.log c.args.place + 1) h) c.between.result.now) high
          (subst (λ (l : ℕ). All (In c.args.group.now (l + 1) c.order_of-2.result) c.between.result.now) low c.between.ensures.only))
          c.between.ensures.ascending;
    }
