use Rattle.std.proofs.Common.{◌∙◌}
use Rattle.sha256_lanes.proofs.BlockLemmas.{four_lists}
use Rattle.sha256_lanes.proofs.messages.Values.to_bytes.Goals as goal

pub returns : goal.returns
returns c =
    four_lists c.args.self.now c.lane.ensures.four _ _ _ _ (c.spell.ensures ∙ c.lane.ensures.bytes) (c.spell-2.ensures ∙ c.lane-2.ensures.bytes) (c.spell-3.ensures ∙ c.lane-3.ensures.bytes) (c.spell-4.ensures ∙ c.lane-4.ensures.bytes)
