use Rattle.rpc_wire.proofs.FrameLemmas.{one_split, one_too_long, not_both}
use Rattle.rpc_wire.proofs.FrameRuns.{whole_are_split, all_are_gotten, cutting_is_free}
use Rattle.rpc_wire.proofs.FrameRests.{each_has_messages, rests_are_beginnings}
use Rattle.rpc_wire.proofs.frames.frames_are_unambiguous.Goals as goal

pub returns-clause-whole : goal.returns-clause-whole
returns-clause-whole c = whole_are_split

pub returns-clause-split : goal.returns-clause-split
returns-clause-split c = one_split

pub returns-clause-too_long : goal.returns-clause-too_long
returns-clause-too_long c = one_too_long

pub returns-clause-never_both : goal.returns-clause-never_both
returns-clause-never_both c = not_both

pub returns-clause-gotten : goal.returns-clause-gotten
returns-clause-gotten c = all_are_gotten

pub returns-clause-cutting : goal.returns-clause-cutting
returns-clause-cutting c = cutting_is_free

pub returns-clause-each : goal.returns-clause-each
returns-clause-each c = each_has_messages

pub returns-clause-rests : goal.returns-clause-rests
returns-clause-rests c = rests_are_beginnings
