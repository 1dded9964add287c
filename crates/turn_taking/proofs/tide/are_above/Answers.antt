use Rattle.std.proofs.Common.{true, sym, ◌∙◌}
use Rattle.std.specs.List.{list_all}
use Rattle.turn_taking.proofs.Loops.{all_more, all_new, are_over, fails, whole}
use Rattle.turn_taking.proofs.tide.are_above.Goals as goal

pub returns-then-not-is_chain_above : goal.returns-then-not-is_chain_above
returns-then-not-is_chain_above c =
    let test = are_over c.args.held.now.front.now c.args.held.now.base.now in
    sym (all_new c.args.held.now.front.now c.args.held.now.base.now c.args.chains.now
    ∙ fails test c.args.chains.now c.chains.chain-index c.chain-item.result c.chains-test.true c.chain-item.is (sym c.is_chain_above.ensures ∙ c.if-not-is_chain_above.true))

pub chains-preserved : goal.chains-preserved
chains-preserved c =
    let test = are_over c.args.held.now.front.now c.args.held.now.base.now in
    all_more test c.args.chains.now c.chains.chain-index c.chain-item.result c.chains-test.true c.chain-item.is c.chains.invariant (sym c.is_chain_above.ensures ∙ c.if-not-is_chain_above.false)

pub returns : goal.returns
returns c =
    let test = are_over c.args.held.now.front.now c.args.held.now.base.now in
    sym (all_new c.args.held.now.front.now c.args.held.now.base.now c.args.chains.now
    ∙ whole (list_all test) c.args.chains.now c.chains.chain-index true c.chains-test.false c.chains.invariant)
