-- Which lines meet the limit.
use Rattle.std.specs.Prelude.{nat_lt, Bool, false, length, sum_by}
use Rattle.script_model.specs.declared.command.Command.{Command}
use Rattle.script_model.specs.declared.command.Command.TheVariants as command
use Rattle.world_model.specs.Logs.{Played}
use Rattle.world_model.specs.Step.{most_bytes}

-- more bytes were met than a script may meet
abbrev pub is_full : Played → Bool
is_full w = nat_lt most_bytes (sum_by (λ block. length block) w.0.met)

-- then all lines meet the limit but the end
abbrev pub meets_limit : Played → Command → Bool
meets_limit w command.End = false
meets_limit w c = is_full w
