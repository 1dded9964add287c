-- What lines leave, and that each has an outcome.
use Rattle.std.proofs.Common.{◌≡◌, ℕ, ◌<◌, Bool, cond, List, length, Option, Some, None, ap, subst}
use Rattle.std.proofs.lemmas.Bool.{lt-ltb}
use Rattle.script_driver.specs.Run.{Goes, line_limit}
use Rattle.script_model.specs.declared.command.Command.{Command}
use Rattle.script_model.specs.declared.command.Command.TheVariants as command
use Rattle.script_model.specs.Lines.{command_of, command_of_words, is_comment}
use Rattle.script_model.specs.Words.{words_of}
use Rattle.world_model.specs.Logs.{Played}
use Rattle.world_model.specs.Step.{MayDoFirst}
use Rattle.world_laws.proofs.AllLines.{does_line}
use Rattle.world_laws.proofs.EachLine.{each_line_keeps}
use Rattle.world_laws.proofs.Existing.{each_line_is_total}
use Rattle.world_laws.proofs.FirstWorld.{empty_keeps}
use Rattle.stage_laws.proofs.Told.{nothing_told, told_stays}
use Rattle.stage_laws.specs.Laws.{FirstKeepsAll, LinesAreTotal, LinesKeepAll, LongLinesStop}

-- ---- what they leave

pub lines_keep_all : LinesKeepAll
lines_keep_all w next line output keeps step = (each_line_keeps w next line output keeps.0 step, told_stays w next line output keeps.0 keeps.1 step)

pub first_keeps_all : FirstKeepsAll
first_keeps_all = (empty_keeps, nothing_told)

-- ---- each does something

pub lines_are_total : LinesAreTotal
lines_are_total w line keeps = (let does = (each_line_is_total w.0 line (w.1, keeps.0)).1 w.1 keeps.0 in (does.0, does.1))

-- ---- a line that is too long is no command

too_long : (line : List ℕ) → line_limit < length line → command_of line ≡ None
unfolding command_of
too_long line long = ap (λ (b : Bool). cond b None (cond (is_comment line) (Some command.Nothing) (command_of_words (words_of line)))) (lt-ltb line_limit (length line) long)

-- no line goes on that is no command
none_goes : (w next : Played) (output : List ℕ) → MayDoFirst w None (Goes next output) → ⊥
none_goes w next output step = (let done = does_line w next output None step in cc done.1)

pub long_lines_stop : LongLinesStop
long_lines_stop w next line output long step = none_goes w next output (subst (λ (o : Option Command). MayDoFirst w o (Goes next output)) (too_long line long) step)
