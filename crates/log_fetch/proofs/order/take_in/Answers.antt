use Rattle.std.proofs.Common.{◌≡◌, get_or, List, map, subst, sym, arith}
use Rattle.std.proofs.lemmas.Bool.{false≢true}
use Rattle.dht_ids.specs.declared.judge.Judged.{Judged}
use Rattle.session_model.specs.Brought.{stamp_of}
use Rattle.log_fetch.specs.Order.{HasOneMore, IsBehind}
use Rattle.log_fetch.proofs.Placing.{one_put}
use Rattle.log_fetch.proofs.order.take_in.Goals as goal
use Rattle.log_fetch.proofs.order.take_in.Goals.{else-place-len-via-then-place-len+else-stands_at, else-place-len-via-else-place-len}

pub returns : goal.returns
returns c =
    subst (λ (l : List Judged). HasOneMore (map stamp_of c.args.tried.now.items) (stamp_of c.args.head.now) (map stamp_of l)) (sym c.in_ok-insert.ensures.items)
    (one_put c.args.tried.now.items c.args.head.now c.place_of-place.result c.requires
    (subst (λ (l : List Judged). IsBehind (map stamp_of l) (stamp_of c.args.head.now) c.place_of-place.result) c.deref.ensures.value c.place_of-place.ensures) (elim c.else-place-len.branch [
      | else-place-len-via-then-place-len+else-stands_at w ↦ λ within same. absurd (false≢true (w.if-stands_at.ensures.1 (subst (λ (l : List Judged). get_or l c.place_of-place.result c.args.head.now ≡ c.args.head.now) (sym w.deref-then-place-len.ensures.value) same)))
      | else-place-len-via-else-place-len w ↦ λ within same. let out = w.if-place-len.false in absurd (omega (arith, within, out))
    ]))
