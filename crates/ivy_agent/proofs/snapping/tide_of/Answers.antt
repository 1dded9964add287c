use Rattle.std.proofs.Common.{Some, sym, ap, ◌∙◌}
use Rattle.std.specs.List.{last_or}
use Rattle.std.proofs.Common.{map}
use Rattle.log_model.specs.Rank.{Rank, rank}
use Rattle.ivy_agent.proofs.Snapped.{newest_rank}
use Rattle.ivy_agent.proofs.snapping.tide_of.Goals as goal

pub returns-else-len-gt-MOST_WEIGHED : goal.returns-else-len-gt-MOST_WEIGHED
returns-else-len-gt-MOST_WEIGHED c =
    ap (λ (r : Rank). Some r) c.rank.ensures ∙ sym (newest_rank c.args.engine.now.basis.tide c.records.result.now c.in-Some.newest.now c.in-Some.ensures.value)
    ∙ ap (λ held. last_or c.args.engine.now.basis.tide (map rank held)) c.records.ensures.records
