use Rattle.std.proofs.Common.{◌∙◌}
use Rattle.script_participants.proofs.Named.{named_in}
use Rattle.script_participants.proofs.participants.Participants.named.Goals as goal

pub returns-clause-named : goal.returns-clause-named
returns-clause-named c = λ w has. named_in w c.args.self.now c.as_slice.result.now c.args.name.now _ has c.find_named.ensures (c.as_slice.ensures.value ∙ c.self.view_is)
