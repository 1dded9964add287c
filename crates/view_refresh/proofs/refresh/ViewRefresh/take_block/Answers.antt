use Rattle.std.proofs.Common.{sym, ◌∙◌}
use Rattle.view_refresh.proofs.Giving.{load_takes_copy}
use Rattle.view_refresh.proofs.refresh.ViewRefresh.take_block.Goals as goal

pub returns : goal.returns
returns g c =
    load_takes_copy g.J.Judge.judges c.args.self.now c.args.loading c.args.bytes c.in_ok-copy.copy (c.in_ok-copy.ensures ∙ c.as_slice.ensures) c.unwrap-key.result (sym c.wanted.ensures.value ∙ c.unwrap-key.ensures) c.in_ok-state.state
    c.in_ok-state.ensures
