use Rattle.world_laws.proofs.NoKeys.{logs_have_tags, snapshots_have_tags, tagged_are_no_keys}
use Rattle.world_laws.proofs.only_pieces_may_be_keys.Goals as goal

pub returns-clause-logs : goal.returns-clause-logs
returns-clause-logs c = logs_have_tags

pub returns-clause-snapshots : goal.returns-clause-snapshots
returns-clause-snapshots c = snapshots_have_tags

pub returns-clause-keys : goal.returns-clause-keys
returns-clause-keys c = tagged_are_no_keys
