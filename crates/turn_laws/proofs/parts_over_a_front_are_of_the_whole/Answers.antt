use Rattle.turn_laws.proofs.Whole.{part_over_is_part_of_whole}
use Rattle.turn_laws.proofs.parts_over_a_front_are_of_the_whole.Goals as goal

pub returns : goal.returns
returns c = part_over_is_part_of_whole
