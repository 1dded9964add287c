use Rattle.std.proofs.Common.{◌∙◌}
use Rattle.fork_proof.proofs.WaysDown.{ok_more}
use Rattle.fork_proof.proofs.TrunkLemmas.{found_of}
use Rattle.fork_proof.proofs.finding.find.Goals as goal

pub returns : goal.returns
returns c =
    ok_more
    (λ found h before tells. h before tells
    ∙ found_of before tells c.args.heads.now c.args.blocks.now c.in_ok-named.named c.in_ok-trunk.trunk c.in_ok-tips.tips.items c.as_slice.result.now c.drop_trunk.new.tips.items c.as_slice-2.result.now c.in_ok-walks.walks.items
    c.as_slice-3.result.now c.as_slice.ensures.value c.in_ok-trunk.ensures c.in_ok-tips.ensures c.in_ok-named.ensures c.drop_trunk.ensures c.as_slice-2.ensures.value c.in_ok-walks.ensures.tips c.as_slice-3.ensures.value)
    c.first_fork.result c.first_fork.ensures
