use Rattle.world_laws.proofs.BytesLines as bytes
use Rattle.world_laws.proofs.replies_are_bytes.Goals as goal

pub returns-clause-empty : goal.returns-clause-empty
returns-clause-empty c = bytes.empty_has_bytes

pub returns-clause-messages : goal.returns-clause-messages
returns-clause-messages c = bytes.messages_are_bytes

pub returns-clause-lines : goal.returns-clause-lines
returns-clause-lines c = bytes.bytes_come
