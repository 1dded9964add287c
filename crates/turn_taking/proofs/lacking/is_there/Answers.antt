use Rattle.std.proofs.Common.{false, sym, ◌∙◌}
use Rattle.std.specs.List.{list_any}
use Rattle.version_vectors.specs.Entries.{stamped}
use Rattle.turn_taking.proofs.Loops.{any_new, found, has_it, none_more, whole}
use Rattle.turn_taking.proofs.lacking.is_there.Goals as goal

pub returns-then-is_new : goal.returns-then-is_new
returns-then-is_new c =
    let test = has_it c.args.held.now.front.now c.args.entry.now.log (stamped c.args.entry.now).1 in
    sym (any_new c.args.held.now.front.now c.args.entry.now.log (stamped c.args.entry.now).1 c.args.chains.now
    ∙ found test c.args.chains.now c.chains.chain-index c.chain-item.result c.chains-test.true c.chain-item.is (sym c.is_new.ensures ∙ c.if-is_new.true))

pub chains-preserved : goal.chains-preserved
chains-preserved c =
    let test = has_it c.args.held.now.front.now c.args.entry.now.log (stamped c.args.entry.now).1 in
    none_more test c.args.chains.now c.chains.chain-index c.chain-item.result c.chains-test.true c.chain-item.is c.chains.invariant (sym c.is_new.ensures ∙ c.if-is_new.false)

pub returns : goal.returns
returns c =
    let test = has_it c.args.held.now.front.now c.args.entry.now.log (stamped c.args.entry.now).1 in
    sym (any_new c.args.held.now.front.now c.args.entry.now.log (stamped c.args.entry.now).1 c.args.chains.now
    ∙ whole (list_any test) c.args.chains.now c.chains.chain-index false c.chains-test.false c.chains.invariant)
