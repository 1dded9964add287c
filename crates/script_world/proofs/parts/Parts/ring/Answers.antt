use Rattle.std.proofs.Common.{true, false, sym, subst, le-leb}
use Rattle.std.proofs.lemmas.Bool.{lt-leb}
use Rattle.world_model.specs.Ring.RingLine.{exceeds, refused}
use Rattle.script_world.specs.PartsState.{HasParts}
use Rattle.script_world.proofs.Setting.{refused_in, rings}
use Rattle.script_world.proofs.parts.Parts.ring.Goals as goal

pub returns-then-is_refused_ring : goal.returns-then-is_refused_ring
returns-then-is_refused_ring c = λ w has. refused (refused_in w c.args.self.now has c.args.count c.args.replicas true (sym c.if-is_refused_ring.ensures))

pub returns-then-count-gt-MOST_NODES : goal.returns-then-count-gt-MOST_NODES
returns-then-count-gt-MOST_NODES c = λ w has.
    exceeds (refused_in w c.args.self.now has c.args.count c.args.replicas false (sym c.if-is_refused_ring.ensures)) (lt-leb c.args.count 256 c.if-count-gt-MOST_NODES.true)

pub returns : goal.returns
returns c = λ w has.
    rings w _ (subst (HasParts w) (sym c.self.view_is) has) c.args.count c.args.replicas c.settle.new.self c.new.result.items (refused_in w c.args.self.now has c.args.count c.args.replicas false (sym c.if-is_refused_ring.ensures))
    (le-leb c.args.count 256 c.if-count-gt-MOST_NODES.false) c.in_ok-settle.ensures.settled c.settle.ensures.asked c.settle.ensures.lost c.new.ensures.items
