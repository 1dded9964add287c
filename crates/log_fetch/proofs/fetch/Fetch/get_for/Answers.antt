use Rattle.std.proofs.Common.{Some, ◌∙◌, sym, subst}
use Rattle.log_fetch.specs.Fetching.{Fetching}
use Rattle.log_fetch.specs.Stepping.{GetsFor}
use Rattle.log_fetch.proofs.Fetching.{for_heads, for_block}
use Rattle.log_fetch.proofs.Taking.{is_through}
use Rattle.log_fetch.proofs.fetch.Fetch.get_for.Goals as goal

pub returns-in-Some : goal.returns-in-Some
returns-in-Some g c =
    let i = c.self.inside in
    subst (λ (f : Fetching g.row.J.Denot). GetsFor g.J.Judge.judges f.judge f.replicas f.entries c.args.gather.now.stage (Some c.in_ok-get.get)) c.self.view_is
    (for_heads g.J.Judge.judges i.judge i.replicas i.entries c.args.gather.now.stage c.in-Some.owner c.in_ok-get.get (sym c.wanted_heads.ensures ∙ c.in-Some.is) c.in_ok-get.ensures)

pub returns-in_ok-block-in-Some-wanted_block : goal.returns-in_ok-block-in-Some-wanted_block
returns-in_ok-block-in-Some-wanted_block g c =
    let i = c.self.inside in
    subst (λ (f : Fetching g.row.J.Denot). GetsFor g.J.Judge.judges f.judge f.replicas f.entries c.args.gather.now.stage (Some c.in_ok-block-in-Some-wanted_block.field-0)) c.self.view_is
    (for_block g.J.Judge.judges i.judge i.replicas i.entries c.args.gather.now.stage c.in-Some-wanted_block.key c.in_ok-block-in-Some-wanted_block.field-0 (sym c.wanted_block.ensures.value ∙ c.in-Some-wanted_block.is) c.in_ok-block-in-Some-wanted_block.ensures)

pub returns-in-None : goal.returns-in-None
returns-in-None g c = is_through c.args.gather.now c.wanted_block.ensures.legal (sym c.wanted_heads.ensures ∙ c.in_default.is) (sym c.wanted_block.ensures.value ∙ c.in-None.is)
