use Rattle.std.proofs.Common.{ap, ◌∙◌, subst}
use Rattle.snapshot_loading.specs.Loading.{Loading, IsLoading}
use Rattle.snapshot_loading.proofs.Loads.{given_none, taken_off}
use Rattle.snapshot_loading.proofs.load.Load.fail.Goals as goal

pub returns : goal.returns
returns c =
    let old = c.args.self.now in
    let off = taken_off c.self.inside.todo.items c.pop_front.new.self.items c.requires.left c.unwrap-next.result c.requires.next c.pop_front.result c.unwrap-next.ensures c.pop_front.ensures.items (ap (λ (l : Loading). l.todo) c.self.view_is ∙ c.requires.todo) in
    (given_none old (subst IsLoading c.self.view_is c.self.invariant) c.requires.next c.requires.left c.requires.todo c.args.came c.requires.fails c.self.inside.root c.unwrap-next.result.key c.self.inside.read.items c.clear.new.self.items
    (ap (λ (l : Loading). l.root) c.self.view_is) (ap (λ (l : Loading). l.read) c.self.view_is) c.clear.ensures.items (ap (λ w. w.key) off.0)).1
