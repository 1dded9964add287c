-- Durability and completeness, line by line.
use Rattle.std.proofs.Common.{◌≡◌, ◌∙◌, ℕ, List, Some, subst, sym}
use Rattle.dhash_model.specs.Signed.{hss_judged}
use Rattle.script_driver.specs.Run.{Goes, Outcome}
use Rattle.script_model.specs.declared.command.Command.TheVariants as command
use Rattle.script_model.specs.Lines.{command_of}
use Rattle.world_model.specs.Logs.{Played}
use Rattle.world_model.specs.Rounds.{IsRoundOf}
use Rattle.world_model.specs.Step.{Does, IvyStep}
use Rattle.calm_laws.specs.Calm.{IsCalmAt, Since}
use Rattle.world_laws.proofs.AllLines.{does_line}
use Rattle.calm_laws.proofs.CalmRuns.{some_command}
use Rattle.world_laws.proofs.EachLine.{each_line_keeps}
use Rattle.calm_laws.proofs.CalmRounds.{beside_goes, round_line}
use Rattle.calm_laws.proofs.Durable.{acknowledged_is_readable, round_moves_blocks}
use Rattle.calm_laws.proofs.PutsInRounds.{puts_in_rounds_are_readable}
use Rattle.calm_laws.proofs.Runs.{facts_at, has_room}
use Rattle.calm_laws.specs.CalmLines.{LinesAreServedWhereCalm}
use Rattle.calm_laws.proofs.LogHeads.{calls_miss_nothing}
use Rattle.calm_laws.proofs.NewestPut.{newest_are_put}
use Rattle.calm_laws.proofs.Received.{received_heads_left}
use Rattle.calm_laws.proofs.TakesAll.{calls_take_all}

module _ (w : Played) (line : List ℕ) (outcome : Outcome Played) (does : (next : Played) (output : List ℕ) → outcome ≡ Goes next output → IvyStep w line (Goes next output)) where
  round_of : (r : ℕ) (since : Since) (lines : List (List ℕ)) (next : Played) (output : List ℕ) → IsCalmAt r w since lines → command_of line ≡ Some command.Round → outcome ≡ Goes next output → IsRoundOf hss_judged r w.0 next.0
  round_of r since lines next output calm is goes =
      let done = does_line w next output (command_of line) (does next output goes) in
      let round : Does hss_judged w command.Round (Goes next output) = subst (λ d. Does hss_judged w d (Goes next output)) (some_command done.0 command.Round (sym done.1 ∙ is)) done.2 in
      round_line r w.0 next.0 w.0.replicas round.0 output round.1 (facts_at r w since lines calm).has.replicas (beside_goes w.1 round.0 next output round.2)

pub lines_are_served : LinesAreServedWhereCalm
lines_are_served w line outcome does = record {
  served = λ r count lines calm. record {
    readable = λ p acked. acknowledged_is_readable r w count lines p calm acked;
    served = λ name pieces next output is goes. calls_miss_nothing r w next count lines line name output pieces calm is (does next output goes);
  };
  rounds = λ r since lines next output calm is goes m key lives.
      round_moves_blocks r w next.0 since lines calm (has_room w next output (command_of line) (does next output goes)) (round_of w line outcome does r since lines next output calm is goes) m key lives;
  in_rounds = λ r since lines next output calm is goes.
      puts_in_rounds_are_readable r w since lines next.0 calm (has_room w next output (command_of line) (does next output goes));
  takes_all = λ r count lines name pieces next output calm tidy keys entered none is goes. calls_take_all each_line_keeps (newest_are_put each_line_keeps) (received_heads_left each_line_keeps) r w next count lines line name output pieces calm tidy keys entered none is (does next output goes);
}
