use Rattle.std.proofs.Common.{◌≡◌, Some, rules, subst}
use Rattle.session_model.specs.Refreshing.{LoadWants}
use Rattle.snapshot_loading.specs.Loading.{Loading, ComesTo, first_key}
use Rattle.snapshot_loading.proofs.Loads.{wants_next}
use Rattle.snapshot_loading.proofs.load.Load.wanted.Goals as goal

pub returns-clause-wants : goal.returns-clause-wants
returns-clause-wants c =
    let key = c.in_ok-front.field-0.now.key in
    let first : first_key c.self.inside.todo.items ≡ Some key = search rules in
    subst (λ (l : Loading). ComesTo l (LoadWants key)) c.self.view_is (wants_next _ c.self.invariant key first)
