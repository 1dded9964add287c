use Rattle.std.proofs.Common.{◌≡◌, List, [], map, sym, ap, ◌∙◌, subst}
use Rattle.causal_order.specs.declared.log.Log.{Log}
use Rattle.log_records.specs.declared.batch.Chain.{Chain}
use Rattle.log_records.specs.Records.{records_of}
use Rattle.causal_order.specs.Available.{IsAvailable}
use Rattle.causal_order.specs.Passing.{IsTaken}
use Rattle.causal_order.specs.Kept.{AreKept, known_of, queue_of}
use Rattle.causal_order.proofs.StartLogs.{refilled, kept_start, taken_start}
use Rattle.causal_order.proofs.start.begin.Goals as goal

pub returns-clause-kept : goal.returns-clause-kept
returns-clause-kept c =
    let view = c.args.base.now.view.now in
    let front = c.args.base.now.front.now in
    let logs = c.take_chains.new.logs in
    let chains = map (λ (x : Chain). records_of x.records) c.args.chains.items in
    let owners : map (λ (l : Log). l.owner) c.take_chains.new.logs ≡ c.args.base.now.view.now.members =
    c.take_chains.ensures.owners ∙ ap (λ (ls : List Log). map (λ (l : Log). l.owner) ls) c.as_mut_slice.ensures.value ∙ c.in_ok-logs.ensures.owners in
    let whole = refilled c.in_ok-logs.logs.len c.as_mut_slice.result.now c.take_chains.new.logs c.in_ok-logs.logs.items c.as_mut_slice.ensures.value c.as_mut_slice.ensures.len c.take_chains.ensures.owners in
    subst (λ (ls : List Log). AreKept view front (known_of c.args.base.now []) ls) (sym whole)
    (kept_start view front (records_of c.args.base.now.held.now) chains logs c.requires.view c.requires.held owners c.take_chains.ensures.queued)

pub returns-clause-taken : goal.returns-clause-taken
returns-clause-taken c =
    let view = c.args.base.now.view.now in
    let front = c.args.base.now.front.now in
    let held = records_of c.args.base.now.held.now in
    let logs = c.take_chains.new.logs in
    let chains = map (λ (x : Chain). records_of x.records) c.args.chains.items in
    let owners : map (λ (l : Log). l.owner) c.take_chains.new.logs ≡ c.args.base.now.view.now.members =
    c.take_chains.ensures.owners ∙ ap (λ (ls : List Log). map (λ (l : Log). l.owner) ls) c.as_mut_slice.ensures.value ∙ c.in_ok-logs.ensures.owners in
    let whole = refilled c.in_ok-logs.logs.len c.as_mut_slice.result.now c.take_chains.new.logs c.in_ok-logs.logs.items c.as_mut_slice.ensures.value c.as_mut_slice.ensures.len c.take_chains.ensures.owners in
    subst (λ (ls : List Log). IsTaken view front (IsAvailable view front held chains) (known_of c.args.base.now []) [] (map queue_of ls)) (sym whole)
    (taken_start view front (records_of c.args.base.now.held.now) chains logs c.requires.view c.requires.held owners c.take_chains.ensures.queued)
