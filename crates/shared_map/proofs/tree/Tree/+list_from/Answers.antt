use Rattle.std.proofs.Common.{rules, ◌≡◌, true, sym, ap, ◌∙◌}
use Rattle.std.specs.declared.cmp.Ordering.TheVariants.{Greater}
use Rattle.std.specs.Ordering.{is_le}
use Rattle.shared_map.proofs.Forks.{shorter, sorted_sides, from_left, from_right}
use Rattle.shared_map.proofs.Rows.{take_sides, onto_on, gt_is, le_is}
use Rattle.shared_map.proofs.tree.Tree.+list_from.Goals as goal

pub list_from-requires : goal.list_from-requires
list_from-requires g t c =
    let short = shorter c.in-Some.at.now c.args.self.now c.in-Some.ensures.top in
    let sorted = sorted_sides c.in-Some.at.now c.args.self.now c.in-Some.ensures.top g.K.MapKey.order g.met.K.MapKey.total c.requires.ordered in
    λ κs h. (search rules, (h.0, (h.1.0, (h.1.1, (sorted.1, c.requires.few)))))

pub list_from-requires-2 : goal.list_from-requires-2
list_from-requires-2 g t c =
    let short = shorter c.in-Some.at.now c.args.self.now c.in-Some.ensures.top in
    let sorted = sorted_sides c.in-Some.at.now c.args.self.now c.in-Some.ensures.top g.K.MapKey.order g.met.K.MapKey.total c.requires.ordered in
    λ κs h. (search rules, (h.0, (h.1.0, (h.1.1, (sorted.0, c.requires.few)))))

pub returns-then-is_gt : goal.returns-then-is_gt
returns-then-is_gt g t c =
    let is : c.compare_with.result ≡ g.K.MapKey.order (g.Q.Sought.key c.args.key.now) c.in-Some.at.now.key = c.compare_with.ensures in
    let gt : g.K.MapKey.order (g.Q.Sought.key c.args.key.now) c.in-Some.at.now.key ≡ Greater = sym is ∙ gt_is c.compare_with.result (sym c.is_gt.ensures ∙ c.if-is_gt.true) in
    rw (← from_right c.in-Some.at.now c.args.self.now c.in-Some.ensures.top g.K.MapKey.order g.met.K.MapKey.total c.requires.ordered (g.Q.Sought.key c.args.key.now) gt) c.list_from.ensures

pub returns : goal.returns
returns g t c =
    let is : c.compare_with.result ≡ g.K.MapKey.order (g.Q.Sought.key c.args.key.now) c.in-Some.at.now.key = c.compare_with.ensures in
    let le : is_le (g.K.MapKey.order (g.Q.Sought.key c.args.key.now) c.in-Some.at.now.key) ≡ true = sym (ap is_le is) ∙ le_is c.compare_with.result (sym c.is_gt.ensures ∙ c.if-is_gt.false) in
    onto_on c.list.result (λ h. take_sides c.args.most _ _ _ _ _ _ _ _
    (from_left c.in-Some.at.now c.args.self.now c.in-Some.ensures.top g.K.MapKey.order g.met.K.MapKey.total c.requires.ordered (g.Q.Sought.key c.args.key.now) le)
    c.in_ok-list_from.ensures c.in_ok-list_one.ensures h)
    c.list.ensures
