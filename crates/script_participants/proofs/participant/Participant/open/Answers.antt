use Rattle.std.proofs.Common.{◌∙◌}
use Rattle.script_participants.proofs.Opened.{new_participant_is}
use Rattle.script_participants.proofs.participant.Participant.open.Goals as goal

pub returns : goal.returns
returns c = c.of.ensures ∙ new_participant_is c.args.signer c.args.now c.args.name c.in_ok-agent.agent c.in_ok-agent.ensures c.in_ok-cache.cache c.in_ok-cache.ensures c.count_all.new.made.items c.new-made.result.items c.as_slice.result.now
    c.new-made.ensures.items c.in_ok-count_all.ensures.made (c.as_slice.ensures ∙ c.pending.ensures)
