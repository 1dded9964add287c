use Rattle.std.proofs.Common.{sym, ◌∙◌, subst, arith}
use Rattle.shared_map.specs.Trees.{IsTree}
use Rattle.shared_map.proofs.Grown.{set_height, set_entries, set_fits, set_settled}
use Rattle.shared_map.proofs.settling.give_back.Goals as goal

pub settle-requires : goal.settle-requires
settle-requires g c =
    let fits = set_fits c.args.at.now c.set.new.self c.args.on c.args.side c.set.ensures c.requires.level c.requires.few in
    record { level = fits.0; few = fits.1 }

pub returns-then-height-at-clause-entries : goal.returns-then-height-at-clause-entries
returns-then-height-at-clause-entries g c = c.settle.ensures.entries ∙ set_entries c.args.at.now c.set.new.self c.args.on c.args.side c.set.ensures

pub returns-then-height-at-clause-tree : goal.returns-then-height-at-clause-tree
returns-then-height-at-clause-tree g c = c.settle.ensures.tree

pub returns-then-height-at-clause-lower : goal.returns-then-height-at-clause-lower
returns-then-height-at-clause-lower g c =
    λ below. absurd (omega (arith, below, set_height c.args.at.now c.set.new.self c.args.on c.args.side c.set.ensures, c.if-height-at.true, c.height-height.ensures.height))

pub returns-then-height-at-clause-settled : goal.returns-then-height-at-clause-settled
returns-then-height-at-clause-settled g c = λ above. set_settled c.args.at.now c.set.new.self c.args.on c.args.side c.set.ensures _ c.settle.ensures.settled

pub returns-else-height-at-clause-entries : goal.returns-else-height-at-clause-entries
returns-else-height-at-clause-entries g c = set_entries c.args.at.now c.set.new.self c.args.on c.args.side c.set.ensures

pub returns-else-height-at-clause-tree : goal.returns-else-height-at-clause-tree
returns-else-height-at-clause-tree g c =
    let tall = set_height c.args.at.now c.set.new.self c.args.on c.args.side c.set.ensures in
    subst IsTree (sym c.set.ensures) (c.requires.tree (omega (arith, tall, c.if-height-at.false, c.height-height.ensures.height)))

pub returns-else-height-at-clause-lower : goal.returns-else-height-at-clause-lower
returns-else-height-at-clause-lower g c = λ below. c.set.ensures

pub returns-else-height-at-clause-settled : goal.returns-else-height-at-clause-settled
returns-else-height-at-clause-settled g c =
    λ above. absurd (omega (arith, above, set_height c.args.at.now c.set.new.self c.args.on c.args.side c.set.ensures, c.if-height-at.false, c.height-height.ensures.height))
