use Rattle.session_laws.proofs.AskedGets.{none_is_whole_head, none_is_whole_block, none_is_whole_get}
use Rattle.session_laws.proofs.AskedPuts.{none_is_whole_put, none_is_whole_post}
use Rattle.session_laws.proofs.none_is_whole.Goals as goal

pub returns : goal.returns
returns c = record { heads = none_is_whole_head; blocks = none_is_whole_block; puts = none_is_whole_put; gets = none_is_whole_get; posts = none_is_whole_post }
