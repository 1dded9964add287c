use Rattle.std.proofs.Common.{◌∙◌}
use Rattle.script_participants.proofs.Shown.{owner_found}
use Rattle.script_participants.proofs.participants.Participants.name_of_owner.Goals as goal

pub returns-in-Some-clause-named : goal.returns-in-Some-clause-named
returns-in-Some-clause-named c = λ w has. c.name.ensures ∙ owner_found w c.args.self.now has c.args.owner.now c.as_slice.result.now _ c.in-Some.ensures (c.as_slice.ensures.value ∙ c.self.view_is)

pub returns-in-None-clause-named : goal.returns-in-None-clause-named
returns-in-None-clause-named c = λ w has. owner_found w c.args.self.now has c.args.owner.now c.as_slice.result.now _ c.in-None.ensures (c.as_slice.ensures.value ∙ c.self.view_is)
