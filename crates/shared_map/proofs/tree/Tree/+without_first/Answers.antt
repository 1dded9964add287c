use Rattle.std.proofs.Common.{rules, arith}
use Rattle.shared_map.specs.declared.tree.Side.TheVariants.{Left}
use Rattle.shared_map.proofs.Forks.{shorter, first_gone, first_left_gone, fewer_first, some_entries, near_side}
use Rattle.shared_map.proofs.Joined.{if_ok}
use Rattle.shared_map.proofs.tree.Tree.+without_first.Goals as goal

pub without_first-requires : goal.without_first-requires
without_first-requires g t c κs h =
    let short = shorter c.in-Some.at.now c.args.self.now c.in-Some.ensures.top in
    (search rules, (h.0, (h.1, omega (arith, short.0, c.requires.few))))

pub with_side-requires : goal.with_side-requires
with_side-requires g t c =
    record {
      sides = c.in-Some.ensures.balanced;
      level = c.in_ok-left.ensures.1;
      few = fewer_first c.in-Some.at.now c.args.self.now c.in-Some.ensures.top c.in_ok-left.left c.in_ok-left.ensures c.requires.few;
    }

pub returns-in_default-top : goal.returns-in_default-top
returns-in_default-top g t c =
    if_ok c.copy.result (first_gone c.in-Some.at.now c.args.self.now c.in-Some.ensures.top c.in_default-top.ensures.top c.in-Some.ensures.balanced) c.copy.ensures

pub returns : goal.returns
returns g t c =
    let some = some_entries c.in-Some-top.field-0.now c.in-Some.at.now.left c.in-Some-top.ensures.top in
    near_side c.in-Some.at.now c.args.self.now c.in-Some.ensures.top Left _ _ c.in_ok-left.left c.in_ok-left.ensures (first_left_gone c.in-Some.at.now c.args.self.now c.in-Some.ensures.top some) c.with_side.result c.with_side.ensures
