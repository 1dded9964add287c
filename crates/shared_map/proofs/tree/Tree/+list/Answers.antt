use Rattle.shared_map.proofs.Forks.{entries_are}
use Rattle.shared_map.proofs.Rows.{take_sides, onto_on}
use Rattle.shared_map.proofs.tree.Tree.+list.Goals as goal

pub returns : goal.returns
returns g t c =
    onto_on c.list-2.result (λ h. take_sides c.args.most _ _ _ _ _ _ _ _ (entries_are c.in-Some.at.now c.args.self.now c.in-Some.ensures.top) c.in_ok-list.ensures c.in_ok-list_one.ensures h) c.list-2.ensures
