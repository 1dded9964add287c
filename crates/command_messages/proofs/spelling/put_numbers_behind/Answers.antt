use Rattle.std.proofs.Common.{◌∙◌}
use Rattle.command_messages.proofs.Groups.{number_more}
use Rattle.command_messages.proofs.spelling.put_numbers_behind.Goals as goal

pub loop-place-preserved : goal.loop-place-preserved
loop-place-preserved c =
    c.loop-place.invariant
    ∙ number_more c.loop-place.out.items c.put_word.new.out.items c.args.number c.args.count c.loop-place.place c.from.result c.from-in-loop-place.result
    c.loop-place-test.true c.from.ensures c.from-in-loop-place.ensures c.in_ok-put_word.ensures
