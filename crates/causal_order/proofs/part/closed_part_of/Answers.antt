use Rattle.std.proofs.Common.{map, refl, sym, ◌∙◌, subst}
use Rattle.log_records.specs.declared.batch.Chain.{Chain}
use Rattle.log_records.specs.Records.{records_of}
use Rattle.causal_order.specs.Available.{IsAvailable, IsNewPart}
use Rattle.causal_order.proofs.Going.{begins, are_kept, goes_on, sees_more, is_whole}
use Rattle.causal_order.proofs.Nothing.{nothing_new}
use Rattle.causal_order.proofs.part.closed_part_of.Goals as goal

pub records-init : goal.records-init
records-init c = begins (record { view = c.args.view; front = c.args.front; held = c.args.held }) (map (λ (x : Chain). records_of x.records) c.args.chains.items) (map (λ (x : Chain). records_of x.records) c.args.chains.items)
    c.in_ok-logs.logs.items c.as_mut_slice-logs.result.now c.new-taken.result.items refl
    c.as_mut_slice-logs.ensures.value c.new-taken.ensures.items c.in_ok-logs.ensures.kept c.in_ok-logs.ensures.taken

pub see-requires-clause-kept : goal.see-requires-clause-kept
see-requires-clause-kept c = are_kept (record { view = c.args.view; front = c.args.front; held = c.args.held }) (IsAvailable c.args.view.now c.args.front.now (records_of c.args.held.now) (map (λ (x : Chain). records_of x.records) c.args.chains.items)) c.records.logs c.records.taken.items c.records.invariant

pub records-smaller : goal.records-smaller
records-smaller c = sees_more (record { view = c.args.view; front = c.args.front; held = c.args.held }) c.records.logs c.records.taken.items c.see.new.logs c.see.new.taken.items c.in-Some.i c.in-Some.ensures.some c.in_ok-see.ensures

pub records-preserved : goal.records-preserved
records-preserved c = goes_on (record { view = c.args.view; front = c.args.front; held = c.args.held }) (IsAvailable c.args.view.now c.args.front.now (records_of c.args.held.now) (map (λ (x : Chain). records_of x.records) c.args.chains.items)) c.records.logs c.records.taken.items c.see.new.logs c.see.new.taken.items c.in-Some.i c.in-Some.ensures.some c.records.invariant c.in_ok-see.ensures

pub returns : goal.returns
returns c = is_whole (record { view = c.args.view; front = c.args.front; held = c.args.held }) (map (λ (x : Chain). records_of x.records) c.args.chains.items) c.records.logs c.records.taken.items c.records.invariant c.in_default.ensures.none

pub returns-then-is_empty : goal.returns-then-is_empty
returns-then-is_empty c = nothing_new c.args.view.now c.args.front.now (records_of c.args.held.now) c.requires.held c.args.chains.items c.new.result.items c.args.chains.len c.args.chains.ok.0 (sym c.is_empty.ensures ∙ c.if-is_empty.true) c.new.ensures.items
