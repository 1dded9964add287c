use Rattle.std.proofs.Common.{rules, sym, ap, ◌∙◌}
use Rattle.script_model.specs.Words.{set_of}
use Rattle.command_lines.proofs.EachLemmas.{each_goes_on, each_stops, each_ends}
use Rattle.command_lines.proofs.ReadLemmas.{seen, few_sets}
use Rattle.command_lines.proofs.sets.key_sets.Goals as goal

pub loop-part-preserved : goal.loop-part-preserved
loop-part-preserved c =
    rw c.in_ok-push.ensures.items (each_goes_on set_of c.deref-part-items.result.now c.loop-part.part-index _ c.loop-part.sets.items _ c.loop-part.invariant c.loop-part-test.true (sym c.named_set.ensures ∙ c.in-Some.is))

pub returns-in_default : goal.returns-in_default
returns-in_default c =
    each_stops set_of c.deref-part-items.result.now c.loop-part.part-index _ c.loop-part.sets.items c.loop-part.invariant c.loop-part-test.true (sym c.named_set.ensures ∙ (search rules))
    ∙ few_sets c.deref-part-items.result.now c.args.word.now (ap seen c.deref-part-items.ensures.value ∙ c.in_ok-parts.ensures) (search rules)

pub returns : goal.returns
returns c =
    rw c.of.ensures (each_ends set_of c.deref-part-items.result.now c.loop-part.part-index c.loop-part.sets.items c.loop-part.invariant c.loop-part-test.false
    ∙ few_sets c.deref-part-items.result.now c.args.word.now (ap seen c.deref-part-items.ensures.value ∙ c.in_ok-parts.ensures) (search rules))
