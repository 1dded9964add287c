use Rattle.std.proofs.Common.{◌+◌, ◌-◌, ◌%◌, ◌/◌, ◌∙◌, ap, replicate, set, arith}
use Rattle.ring_model.specs.Circle.{be_number, number, circle_size}
use Rattle.dht_ids.proofs.Numbers.{power_number, bit_number}
use Rattle.dht_ids.proofs.circle.finger_start.Goals as goal

pub returns : goal.returns
returns c =
    c.moved.ensures
    ∙ ap (λ z. (number c.args.n.now + z) % circle_size)
    (ap (λ v. be_number (set (replicate 20 0) (19 - (c.args.k - 1) / 8) v)) (bit_number (c.args.k - 1)) ∙ power_number (c.args.k - 1) (omega arith))
