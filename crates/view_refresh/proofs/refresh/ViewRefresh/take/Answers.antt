use Rattle.std.proofs.Common.{ℕ, List, Result, IfOk, sym, subst}
use Rattle.dhash_model.specs.declared.miss.Miss.{Miss}
use Rattle.view_refresh.specs.Parts.{LoadTakesNext}
use Rattle.view_refresh.proofs.refresh.ViewRefresh.take.Goals as goal

pub returns-in-Ok : goal.returns-in-Ok
returns-in-Ok g c = subst (λ (came : Result (List ℕ) Miss). IfOk c.take_block.result (LoadTakesNext g.J.Judge.judges c.args.self.now c.args.loading came)) (sym c.in-Ok.is) c.take_block.ensures
