use Rattle.std.proofs.Common.{◌≡◌, ◌≤◌, ◌-◌, length, false, sym, ap, ◌∙◌, arith}
use Rattle.std.proofs.lemmas.List.{drop_all}
use Rattle.tree_model.specs.Tree.{same_key, parents_in}
use Rattle.plain_tree.proofs.Climbed.{climbs_on, all_end}
use Rattle.plain_tree.proofs.names.+climb_ends.Goals as goal

pub returns : goal.returns
returns t c =
    let some : 1 ≤ c.args.most = omega (arith, c.if-most-eq0.false) in
    let other : same_key c.args.ino.now c.args.dir.now ≡ false = sym c.same.ensures ∙ c.if-same.false in
    let past : length c.args.names.now ≤ c.loop-entry.entry-index = omega (arith, c.loop-entry-test.false) in
    sym (climbs_on c.args.names.now c.args.dir.now c.args.most c.args.ino.now some other ∙ sym c.loop-entry.invariant
    ∙ ap (λ l. all_end c.args.names.now c.args.dir.now (c.args.most - 1) (parents_in l c.args.ino.now)) (drop_all c.loop-entry.entry-index c.args.names.now past))
