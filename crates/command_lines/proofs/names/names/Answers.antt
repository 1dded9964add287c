use Rattle.std.proofs.Common.{Some, rules, sym, ap, ◌∙◌}
use Rattle.script_model.specs.Words.{each_of, name_of}
use Rattle.command_lines.proofs.EachLemmas.{each_goes_on, each_stops, each_ends}
use Rattle.command_lines.proofs.ReadLemmas.{seen}
use Rattle.command_lines.proofs.names.names.Goals as goal

pub loop-part-preserved : goal.loop-part-preserved
loop-part-preserved c =
    rw c.in_ok-push.ensures.items (each_goes_on name_of c.deref-part-items.result.now c.loop-part.part-index _ c.loop-part.names.items _ c.loop-part.invariant c.loop-part-test.true (sym c.in-Some.ensures ∙ ap Some (sym c.in_ok-copy_of.ensures)))

pub returns-in_default : goal.returns-in_default
returns-in_default c =
    each_stops name_of c.deref-part-items.result.now c.loop-part.part-index _ c.loop-part.names.items c.loop-part.invariant c.loop-part-test.true (sym c.name.ensures ∙ (search rules))
    ∙ ap (each_of name_of) (ap seen c.deref-part-items.ensures.value ∙ c.in_ok-parts.ensures)

pub returns : goal.returns
returns c =
    rw c.of.ensures (each_ends name_of c.deref-part-items.result.now c.loop-part.part-index c.loop-part.names.items c.loop-part.invariant c.loop-part-test.false
    ∙ ap (each_of name_of) (ap seen c.deref-part-items.ensures.value ∙ c.in_ok-parts.ensures))
