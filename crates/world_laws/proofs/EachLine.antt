-- Each line leaves a world in which the invariant holds; so the headline holds of each line of a run.
use Rattle.std.proofs.Common.{⊎_elim}
use Rattle.script_driver.proofs.RunLaws.{runs_with_law}
use Rattle.script_model.specs.declared.command.Command.{Command}
use Rattle.script_model.specs.declared.command.Command.TheVariants as command
use Rattle.script_model.specs.Lines.{command_of}
use Rattle.world_model.specs.Step.{IvyStep}
use Rattle.world_laws.specs.Frames.{LineKeeps}
use Rattle.world_laws.specs.Headline.{Headline}
use Rattle.world_laws.specs.Invariant.{Invariant}
use Rattle.world_laws.specs.Laws.{EachReplyIsOnReplay, LinesKeep}
use Rattle.world_laws.proofs.AllLines.{IsLeft, command_keeps, does_line}
use Rattle.world_laws.proofs.HeadlineOfLines.{headline_holds}
use Rattle.world_laws.proofs.LineFits.{command_fits}
use Rattle.world_laws.proofs.SessionLines.{call_lines_keep}
use Rattle.world_laws.proofs.SnapLines.{snap_lines_keep}

left_keeps : (c : Command) → IsLeft c → LineKeeps c
left_keeps (command.As log pieces) left w next output keeps does = (call_lines_keep (command.As log pieces) w next output tt keeps does).0
left_keeps (command.Step session count) left w next output keeps does = (call_lines_keep (command.Step session count) w next output tt keeps does).0
left_keeps (command.Finish session) left w next output keeps does = (call_lines_keep (command.Finish session) w next output tt keeps does).0
left_keeps (command.Snap log) left w next output keeps does = snap_lines_keep log w next output keeps does
left_keeps c left w next output keeps does = absurd left

pub each_line_keeps : LinesKeep
each_line_keeps w next line output keeps step =
    let done = does_line w next output (command_of line) step in
    command_keeps w next output done.0 (λ left. ⊎_elim (λ it. left_keeps done.0 it w next output keeps done.2) (λ never. absurd (never (command_fits line done.0 done.1))) left) keeps done.2

pub each_reply_is_on_replay : EachReplyIsOnReplay
each_reply_is_on_replay w number script ran keeps runs =
    runs_with_law IvyStep Headline Invariant (λ now line outcome ok does. headline_holds now line outcome ok does) (λ now after line text ok does. each_line_keeps now after line text ok does) w number script ran keeps runs
