use Rattle.std.proofs.Common.{rules}
use Rattle.dht_ids.proofs.Numbers.{last_word_is}
use Rattle.dht_ids.proofs.circle.last_word.Goals as goal

pub returns : goal.returns
returns c = last_word_is c.args.key.now.0 c.from_be_bytes.result (search rules) c.from_be_bytes.ensures
