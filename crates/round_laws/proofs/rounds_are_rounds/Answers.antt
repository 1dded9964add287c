use Rattle.round_laws.proofs.Rounding.{first_part, round_is_round, second_part, third_part}
use Rattle.round_laws.proofs.rounds_are_rounds.Goals as goal

pub returns : goal.returns
returns c = record { forgets = first_part; passes = second_part; fingers = third_part; whole = round_is_round }
