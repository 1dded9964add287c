use Rattle.std.proofs.Common.{Some, sym, ap, ◌∙◌}
use Rattle.tree_model.proofs.Keys.{same_key_is}
use Rattle.dir_replay.proofs.keys.both_same.Goals as goal

pub returns-in-Some-Some : goal.returns-in-Some-Some
returns-in-Some-Some c = λ h. c.in-Some-Some.is-0 ∙ ap Some (same_key_is _ _ (sym c.same.ensures ∙ h)) ∙ sym c.in-Some-Some.is-1
