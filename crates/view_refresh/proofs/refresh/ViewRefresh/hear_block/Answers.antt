use Rattle.std.proofs.Common.{sym, ap, ◌∙◌, subst}
use Rattle.std.proofs.lemmas.Result.{IfOk-weaker}
use Rattle.log_fetch.specs.declared.get.Came.{Came}
use Rattle.log_fetch.specs.declared.get.Progress.TheVariants as progress
use Rattle.log_fetch.specs.Gets.{HearsTo}
use Rattle.view_refresh.proofs.Hearing.{hears_comes, hears_waits, is_named}
use Rattle.view_refresh.proofs.refresh.ViewRefresh.hear_block.Goals as goal

pub hear-requires : goal.hear-requires
hear-requires g c = λ none. cc (sym none ∙ c.requires.kept)

pub take-requires : goal.take-requires
take-requires g c =
    let r = c.args.self.now in
    let to = subst (HearsTo g.J.Judge.judges c.args.waiting.get c.args.answer) (c.in-Comes-Block.is ∙ ap (λ (came : Came). progress.Comes came) c.in-Comes-Block.field-0-is) c.in_ok-waiting.ensures in
    record {
      wants = c.requires.wants;
      named = is_named g.J.Judge.judges r.replicas r.entries c.requires.wants.key c.args.waiting c.args.answer c.requires.is_get c.requires.kept c.args.loading c.requires.wants.wanted c.in-Comes-Block.came to;
    }

pub returns-in-Waits : goal.returns-in-Waits
returns-in-Waits g c =
    hears_waits g.J.Judge.judges c.args.self.now c.args.loading c.args.waiting c.requires c.args.answer c.in-Waits.waiting (subst (HearsTo g.J.Judge.judges c.args.waiting.get c.args.answer) c.in-Waits.is c.in_ok-waiting.ensures)

pub returns-in-Comes-Block : goal.returns-in-Comes-Block
returns-in-Comes-Block g c =
    let to = subst (HearsTo g.J.Judge.judges c.args.waiting.get c.args.answer) (c.in-Comes-Block.is ∙ ap (λ (came : Came). progress.Comes came) c.in-Comes-Block.field-0-is) c.in_ok-waiting.ensures in
    IfOk-weaker c.take.result _ _ (λ given takes. hears_comes g.J.Judge.judges c.args.self.now c.args.loading c.args.waiting c.requires c.args.answer c.in-Comes-Block.came to given.0 given.1 takes) c.take.ensures
