use Rattle.std.proofs.Common.{List, ap, subst, sym, ◌∙◌}
use Rattle.log_model.specs.Record.{Record}
use Rattle.log_records.specs.declared.batch.Chain.{Chain}
use Rattle.log_records.specs.Records.{records_of}
use Rattle.causal_order.specs.Available.{held_to}
use Rattle.causal_order.specs.Started.{HaveOwnOwners}
use Rattle.turn_taking.specs.Chains.{chains_in, new_of}
use Rattle.turn_taking.specs.Steps.{AreNear, AreTaken, are_above, lacks_one}
use Rattle.turn_taking.proofs.Newly.{left_apart, left_near}
use Rattle.turn_taking.proofs.Parts.{all_linked}
use Rattle.turn_taking.proofs.taking.take_chains.Goals as goal

pub returns-then-lacks_one : goal.returns-then-lacks_one
returns-then-lacks_one c =
    let held = c.args.held.now in
    let test = λ (cs : List (List Record)). lacks_one held (new_of held.front.now cs) in
    ap test (sym c.in_ok-left.ensures.within ∙ ap (λ (cs : List Chain). chains_in cs) (sym c.deref.ensures.value)) ∙ sym c.lacks_one.ensures ∙ c.if-lacks_one.true

pub returns-then-not-are_above : goal.returns-then-not-are_above
returns-then-not-are_above c =
    let held = c.args.held.now in
    let test = λ (cs : List (List Record)). lacks_one held (new_of held.front.now cs) in
    let above = λ (cs : List (List Record)). are_above held (new_of held.front.now cs) in (
      ap test (sym c.in_ok-left.ensures.within ∙ ap (λ (cs : List Chain). chains_in cs) (sym c.deref.ensures.value)) ∙ sym c.lacks_one.ensures ∙ c.if-lacks_one.false,
      ap above (sym c.in_ok-left.ensures.within ∙ ap (λ (cs : List Chain). chains_in cs) (sym c.deref-2.ensures.value)) ∙ sym c.are_above.ensures ∙ c.if-not-are_above.true,
    )

pub take_new-requires-clause-apart : goal.take_new-requires-clause-apart
take_new-requires-clause-apart c =
    let held = c.args.held.now in
    subst HaveOwnOwners (sym c.in_ok-left.ensures.within)
    (left_apart held.view.now held.own.now held.floor.now (chains_in c.args.chains.items) (all_linked held.view.now c.args.chains.items c.requires.whole) c.requires.apart)

pub take_new-requires-clause-near : goal.take_new-requires-clause-near
take_new-requires-clause-near c =
    let held = c.args.held.now in
    subst (λ (cs : List (List Record)). AreNear held cs) (sym c.in_ok-left.ensures.within)
    (left_near held.view.now held.own.now held.floor.now (held_to held.base.now (records_of held.records.now)) (chains_in c.args.chains.items) (all_linked held.view.now c.args.chains.items c.requires.whole) c.requires.near)

pub returns : goal.returns
returns c =
    let held = c.args.held.now in
    let test = λ (cs : List (List Record)). lacks_one held (new_of held.front.now cs) in
    let above = λ (cs : List (List Record)). are_above held (new_of held.front.now cs) in (
      ap test (sym c.in_ok-left.ensures.within ∙ ap (λ (cs : List Chain). chains_in cs) (sym c.deref.ensures.value)) ∙ sym c.lacks_one.ensures ∙ c.if-lacks_one.false,
      ap above (sym c.in_ok-left.ensures.within ∙ ap (λ (cs : List Chain). chains_in cs) (sym c.deref-2.ensures.value)) ∙ sym c.are_above.ensures ∙ c.if-not-are_above.false,
      subst (λ (cs : List (List Record)). AreTaken held cs (records_of c.in_ok-records.records.items) c.in_ok-records.front) c.in_ok-left.ensures.within c.in_ok-records.ensures,
    )
