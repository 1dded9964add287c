use Rattle.std.proofs.Common.{map, take, ◌+◌, subst, sym}
use Rattle.session_model.specs.Brought.{stamp_of}
use Rattle.session_model.specs.Walks.{AreTried}
use Rattle.log_fetch.proofs.Placing.{further_so_far, within_so_far}
use Rattle.log_fetch.proofs.order.heads_to_try.Goals as goal
use Rattle.log_fetch.proofs.order.heads_to_try.Goals.{then-head-reached+in_ok-take_in, else-head-reached}

pub heads-preserved : goal.heads-preserved
heads-preserved c = record {
  reached = c.heads.invariant.reached;
  tried = elim c.if-head-reached.branch [
    | then-head-reached+in_ok-take_in w ↦ subst (λ v. AreTried c.seq_of-reached.result (map stamp_of (take (c.heads.head-index + 1) c.args.heads.now)) (map stamp_of v.items)) (sym w.tried-is)
        (further_so_far c.seq_of-reached.result c.args.heads.now c.heads.head-index _ c.heads-test.true (map stamp_of c.heads.tried.items) c.heads.invariant.tried (map stamp_of w.take_in.new.tried.items) w.if-head-reached.true w.in_ok-take_in.ensures)
    | else-head-reached w ↦ subst (λ v. AreTried c.seq_of-reached.result (map stamp_of (take (c.heads.head-index + 1) c.args.heads.now)) (map stamp_of v.items)) (sym w.tried-is)
        (within_so_far c.seq_of-reached.result c.args.heads.now c.heads.head-index _ c.heads-test.true (map stamp_of c.heads.tried.items) c.heads.invariant.tried w.if-head-reached.false)
  ];
}
