use Rattle.std.proofs.Common.{◌≡◌, ◌+◌, map, take}
use Rattle.fork_proof.specs.Forms.{LeadsDown}
use Rattle.fork_proof.proofs.checking.lead_down.Given as goal

abbrev pub invariant-blocks-2 : goal.invariant-blocks-2
invariant-blocks-2 l = record {
  place : l.place ≡ l.block-index;
  seq : l.seq + l.block-index ≡ l.proof.high.head.seq;
  leads : LeadsDown l.proof.low.head.owner l.proof.high.head.seq l.proof.high.head.name (take l.block-index (map (λ b. b.now) l.proof.blocks.items)) l.name;
}
