use Rattle.std.proofs.Common.{◌∙◌, ap}
use Rattle.ivy_cli.specs.Summary.{summary_text}
use Rattle.ivy_cli.proofs.LoadLemmas.{gives_summary, gives_none}
use Rattle.ivy_cli.proofs.loading.summed_up.Goals as goal

pub returns-then-status-ne-STATUS_ENDED-clause-err : goal.returns-then-status-ne-STATUS_ENDED-clause-err
returns-then-status-ne-STATUS_ENDED-clause-err c = gives_none c.args.seed c.args.calls c.play-status.result c.of-source.result c.new-shown.result c.play-status.new.sink
    (c.of-source.ensures ∙ c.in-Ok.ensures) c.new-shown.ensures c.if-status-ne-STATUS_ENDED.true c.play-status.ensures.statuses c.play-status.ensures.refused c.play-status.ensures.limited
    c.play-status.ensures.read_fault c.play-status.ensures.write_fault c.play-status.ensures.complete

pub returns-in-Ok-summary-clause-ok : goal.returns-in-Ok-summary-clause-ok
returns-in-Ok-summary-clause-ok c =
    let ended = c.if-status-ne-STATUS_ENDED.false in
    gives_summary c.args.seed c.args.calls c.play-status.result c.of-source.result c.new-shown.result c.play-status.new.sink c.in-Ok-summary.summary
    (c.of-source.ensures ∙ c.in-Ok.ensures) c.new-shown.ensures ended (c.play-status.ensures.ended ended) c.play-status.ensures.complete
    (c.in-Ok-summary.ensures ∙ ap (summary_text c.args.calls) c.text.ensures)
