use Rattle.world_laws.proofs.Messages.{each_is_one, each_becomes_one}
use Rattle.world_laws.proofs.messages_are_unambiguous.Goals as goal

pub returns-clause-is : goal.returns-clause-is
returns-clause-is c = each_is_one

pub returns-clause-becomes : goal.returns-clause-becomes
returns-clause-becomes c = each_becomes_one
