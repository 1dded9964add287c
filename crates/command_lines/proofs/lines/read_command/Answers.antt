use Rattle.std.proofs.Common.{List, ℕ, Bor, map, rules, ◌∙◌, ap, sym}
use Rattle.script_model.specs.Lines.{command_of, command_of_words}
use Rattle.command_lines.proofs.LineLemmas.{command_of_comment, command_of_short}
use Rattle.command_lines.proofs.lines.read_command.Goals as goal

pub returns-then-line-gt-LINE_LIMIT : goal.returns-then-line-gt-LINE_LIMIT
unfolding command_of
returns-then-line-gt-LINE_LIMIT c = search rules

pub returns-then-is_comment : goal.returns-then-is_comment
returns-then-is_comment c = sym (command_of_comment c.args.line.now (search rules) (sym c.is_comment.ensures ∙ c.if-is_comment.true))

pub returns : goal.returns
returns c =
    let words = ap (map (λ (w : Bor (List ℕ)). w.now)) c.deref.ensures.value ∙ c.in_ok-words.ensures in
    rw (command_of_short c.args.line.now (search rules) (sym c.is_comment.ensures ∙ c.if-is_comment.false) ∙ ap command_of_words (sym words)) c.command.ensures
