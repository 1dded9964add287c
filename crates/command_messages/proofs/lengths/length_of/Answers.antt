use Rattle.std.proofs.Common.{◌∙◌}
use Rattle.command_messages.proofs.LengthLemmas.{call_length, root_length}
use Rattle.command_messages.proofs.lengths.length_of.Goals as goal

pub returns-in-Call-clause-length : goal.returns-in-Call-clause-length
returns-in-Call-clause-length c = λ view.
    c.length_of_head.ensures.length
    ∙ call_length c.args.replies.now view c.args.piece.now c.in-Call.mount c.in-Call.procedure c.in-Call.uid c.in-Call.gid c.in-Call.groups c.in-Call.is

pub returns-in-Root-clause-length : goal.returns-in-Root-clause-length
returns-in-Root-clause-length c = λ view. root_length c.args.replies.now view c.args.piece.now c.in-Root.is
