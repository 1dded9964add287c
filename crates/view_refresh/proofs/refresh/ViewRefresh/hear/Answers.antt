use Rattle.std.proofs.Common.{None, IfOk, sym, subst}
use Rattle.std.specs.Prelude.{◌≢◌}
use Rattle.std.proofs.lemmas.Result.{IfOk-weaker}
use Rattle.view_refresh.specs.declared.refresh.State.{State}
use Rattle.view_refresh.specs.States.{IsSound, awaited_in}
use Rattle.view_refresh.specs.Parts.{HearsNext}
use Rattle.view_refresh.proofs.refresh.ViewRefresh.hear.Goals as goal

pub hear_block-requires : goal.hear_block-requires
hear_block-requires g c = let r = c.args.self.now in subst (IsSound r.judge r.replicas r.entries) c.in-Asking.is c.requires.sound

pub hear_fetch-requires : goal.hear_fetch-requires
hear_fetch-requires g c = subst (λ (st : State g.row.J.Denot). awaited_in st ≢ None) c.in-Fetching.is c.requires.awaited

pub returns-in-Asking : goal.returns-in-Asking
returns-in-Asking g c =
    subst (λ (st : State g.row.J.Denot). IfOk c.hear_block.result (HearsNext g.J.Judge.judges c.args.self.now st c.args.answer)) (sym c.in-Asking.is) c.hear_block.ensures

pub returns-in-Fetching : goal.returns-in-Fetching
returns-in-Fetching g c =
    let r = c.args.self.now in
    subst (λ (st : State g.row.J.Denot). IfOk c.hear_fetch.result (HearsNext g.J.Judge.judges r st c.args.answer)) (sym c.in-Fetching.is)
    (IfOk-weaker c.hear_fetch.result _ _ (λ given hears. hears r (subst (IsSound r.judge r.replicas r.entries) c.in-Fetching.is c.requires.sound)) c.hear_fetch.ensures)
