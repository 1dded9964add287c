use Rattle.std.proofs.Common.{rules, sym, ◌∙◌}
use Rattle.script_model.specs.Words.{piece_of}
use Rattle.command_lines.proofs.EachLemmas.{each_goes_on, each_stops, each_ends}
use Rattle.command_lines.proofs.ReadLemmas.{some_pieces}
use Rattle.command_lines.proofs.pieces.pieces.Goals as goal

pub loop-word-preserved : goal.loop-word-preserved
loop-word-preserved c =
    rw c.in_ok-push.ensures.items (each_goes_on piece_of c.args.words.now c.loop-word.word-index _ c.loop-word.pieces.items _ c.loop-word.invariant c.loop-word-test.true (sym c.in_ok-piece.ensures ∙ c.in-Some.is))

pub returns-in_default : goal.returns-in_default
returns-in_default c =
    each_stops piece_of c.args.words.now c.loop-word.word-index _ c.loop-word.pieces.items c.loop-word.invariant c.loop-word-test.true (sym c.in_ok-piece.ensures ∙ (search rules))
    ∙ some_pieces c.args.words.now (search rules)

pub returns : goal.returns
returns c =
    rw c.of.ensures (each_ends piece_of c.args.words.now c.loop-word.word-index c.loop-word.pieces.items c.loop-word.invariant c.loop-word-test.false
    ∙ some_pieces c.args.words.now (search rules))
