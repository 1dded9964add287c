use Rattle.std.proofs.Common.{List, map, sym, ap, ◌∙◌, subst}
use Rattle.causal_order.specs.declared.log.Log.{Log}
use Rattle.std.specs.List.{All}
use Rattle.log_records.specs.Records.{records_of}
use Rattle.causal_order.specs.Started.{IsHeldLog}
use Rattle.causal_order.proofs.StartLogs.{owners_more, held_more}
use Rattle.causal_order.proofs.start.held_logs.Goals as goal

pub members-preserved : goal.members-preserved
members-preserved c =
    let front = c.args.base.now.front.now in
    let held = records_of c.args.base.now.held.now in
    record {
      owners = ap (λ (ls : List Log). map (λ (l : Log). l.owner) ls) c.in_ok-push.ensures.items ∙ owners_more c.members.logs.items c.members-members.result.now c.members.owner-index c.in_ok-held_log.field-0 _ c.members.invariant.owners c.members-test.true c.in_ok-held_log.ensures.owned;
      held = subst (λ (ls : List Log). All (λ l. IsHeldLog front held l.owner l) ls) (sym {A = List Log} c.in_ok-push.ensures.items) (held_more front held c.members.logs.items _ c.in_ok-held_log.field-0 c.members.invariant.held c.in_ok-held_log.ensures);
    }
