use Rattle.session_laws.proofs.AskedGets.{head_next_is_not_whole, block_next_is_not_whole, get_next_is_not_whole}
use Rattle.session_laws.proofs.AskedPuts.{put_next_is_not_whole, post_next_is_not_whole}
use Rattle.session_laws.proofs.next_is_not_whole.Goals as goal

pub returns : goal.returns
returns c = record { heads = head_next_is_not_whole; blocks = block_next_is_not_whole; puts = put_next_is_not_whole; gets = get_next_is_not_whole; posts = post_next_is_not_whole }
