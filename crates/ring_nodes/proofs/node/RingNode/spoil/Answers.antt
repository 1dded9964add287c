use Rattle.std.proofs.Common.{◌≡◌, set, sym, ap, ◌∙◌, subst, Some, rules}
use Rattle.dhash_model.specs.Stores.{with_byte}
use Rattle.world_model.specs.Nodes.{Node}
use Rattle.ring_nodes.proofs.Spoiling.{one_corrupted}
use Rattle.ring_nodes.proofs.node.RingNode.spoil.Goals as goal

pub returns-clause-spoiled : goal.returns-clause-spoiled
returns-clause-spoiled c =
    let done : with_byte c.args.key.now c.args.offset c.args.byte c.self.inside.store ≡ Some c.spoil.new.self = c.if-not-spoil.ensures.spoiled in
    let written : c.of.result ≡ set c.in-Some.block.now c.args.offset c.args.byte = search rules in (
      subst (λ (n : Node). with_byte c.args.key.now c.args.offset c.args.byte n.blocks ≡ Some c.spoil.new.self) c.self.view_is done,
      ap (λ (n : Node). record { ring = n.ring; is_live = n.is_live; blocks = c.spoil.new.self }) c.self.view_is,
      (one_corrupted c.args.key.now c.args.offset c.args.byte c.self.inside.store c.spoil.new.self c.in-Some.block.now (sym c.in-Some.ensures) done).held ∙ ap (λ l. Some l) (sym written),
    )
