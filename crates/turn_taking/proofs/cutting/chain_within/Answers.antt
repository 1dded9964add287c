use Rattle.std.proofs.Common.{sym, ◌∙◌}
use Rattle.turn_taking.proofs.Slices.{owner_is}
use Rattle.turn_taking.proofs.Within.{own_left, other_left}
use Rattle.turn_taking.proofs.cutting.chain_within.Goals as goal

pub returns-then-is_owner : goal.returns-then-is_owner
returns-then-is_owner c =
    let mine = owner_is c.as_slice.result.now c.args.chain.records c.index-as_slice-0.result c.args.chain.head.name c.as_slice.ensures c.requires.row.named ∙ c.is_owner.ensures.0 c.if-is_owner.true in
    own_left c.args.held.now.view.now c.args.held.now.own.now c.args.held.now.floor.now c.args.chain c.head_key.result c.seq_of.result c.up_to.result c.requires mine c.head_key.ensures c.seq_of.ensures c.up_to.ensures

pub returns-else-is_owner : goal.returns-else-is_owner
returns-else-is_owner c = other_left c.args.held.now.view.now c.args.held.now.own.now c.args.held.now.floor.now c.args.chain c.requires
    (λ e. let yes = c.is_owner.ensures.1 (sym (owner_is c.as_slice.result.now c.args.chain.records c.index-as_slice-0.result c.args.chain.head.name c.as_slice.ensures c.requires.row.named) ∙ e) in
    absurd (let no = sym yes ∙ c.if-is_owner.false in cc))
