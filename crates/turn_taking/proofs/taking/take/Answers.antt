use Rattle.std.proofs.Common.{List, sym, ◌∙◌, subst}
use Rattle.std.specs.List.{AllByRecursion}
use Rattle.std.proofs.lemmas.Result.{IfOk-weaker}
use Rattle.log_model.specs.Record.{Record}
use Rattle.log_records.specs.Records.{records_of}
use Rattle.causal_order.specs.Available.{IsLinked}
use Rattle.causal_order.proofs.Beginning.{chains_are, have_own_owners}
use Rattle.turn_taking.specs.Steps.{TakesOf}
use Rattle.turn_taking.proofs.Brought.{brought_near, brought_whole}
use Rattle.turn_taking.proofs.Parts.{all_linked}
use Rattle.turn_taking.proofs.TurnTaken.{began_near, is_refused, takes}
use Rattle.turn_taking.proofs.taking.take.Goals as goal

pub returns-then-not-is_caught_up : goal.returns-then-not-is_caught_up
returns-then-not-is_caught_up c = is_refused c.args.held.now c.args.batch c.requires.front (sym c.is_caught_up.ensures ∙ c.if-not-is_caught_up.true)

pub take_chains-requires-clause-whole : goal.take_chains-requires-clause-whole
take_chains-requires-clause-whole c =
    let held = c.args.held.now in
    let near = began_near held c.args.batch c.requires.front (sym c.is_caught_up.ensures ∙ c.if-not-is_caught_up.false) c.members.ensures.legal c.requires.closed c.len.ensures.fits.in_order in
    brought_whole held.view.now c.requires.under.0 c.args.batch held.base.now (records_of held.records.now) c.requires.under.1 c.requires.members near c.into_chains.ensures.legal c.into_chains.result.items c.into_chains.ensures.chains

pub take_chains-requires-clause-apart : goal.take_chains-requires-clause-apart
take_chains-requires-clause-apart c = have_own_owners c.args.batch c.into_chains.result.items c.into_chains.ensures.legal c.into_chains.ensures.chains

pub take_chains-requires-clause-near : goal.take_chains-requires-clause-near
take_chains-requires-clause-near c =
    let held = c.args.held.now in
    let near = began_near held c.args.batch c.requires.front (sym c.is_caught_up.ensures ∙ c.if-not-is_caught_up.false) c.members.ensures.legal c.requires.closed c.len.ensures.fits.in_order in
    brought_near held.view.now c.requires.under.0 c.args.batch held.base.now (records_of held.records.now) c.requires.under.1 c.requires.members near c.into_chains.ensures.legal c.into_chains.result.items c.into_chains.ensures.chains

pub returns : goal.returns
returns c =
    let held = c.args.held.now in
    let caught_up = sym c.is_caught_up.ensures ∙ c.if-not-is_caught_up.false in
    let near = began_near held c.args.batch c.requires.front caught_up c.members.ensures.legal c.requires.closed c.len.ensures.fits.in_order in
    let whole = brought_whole held.view.now c.requires.under.0 c.args.batch held.base.now (records_of held.records.now) c.requires.under.1 c.requires.members near c.into_chains.ensures.legal c.into_chains.result.items c.into_chains.ensures.chains in
    let same = chains_are c.into_chains.result.items c.args.batch.chains c.into_chains.ensures.chains in
    let linked = subst (λ (cs : List (List Record)). AllByRecursion (IsLinked held.view.now) cs) same (all_linked held.view.now c.into_chains.result.items whole) in
    IfOk-weaker c.take_chains.result _ _
    (λ t of. takes held c.args.batch c.requires.front linked c.members.ensures.legal c.requires.closed c.len.ensures.fits.in_order c.requires.base c.requires.own c.requires.member caught_up t
    (subst (λ (cs : List (List Record)). TakesOf held cs t) same of))
    c.take_chains.ensures
