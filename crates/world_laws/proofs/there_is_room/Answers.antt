use Rattle.world_laws.proofs.Rooms as rooms
use Rattle.world_laws.proofs.there_is_room.Goals as goal

pub returns-clause-empty : goal.returns-clause-empty
returns-clause-empty c = rooms.empty_publishes_few

pub returns-clause-lines : goal.returns-clause-lines
returns-clause-lines c = rooms.few_posts_come

pub returns-clause-room : goal.returns-clause-room
returns-clause-room c = rooms.there_is_room
