use Rattle.std.proofs.Common.{rules}
use Rattle.dht_ids.proofs.Numbers.{double_word_is, rest_fits}
use Rattle.dht_ids.proofs.circle.double_word.Goals as goal

pub returns : goal.returns
returns c = record {
  value = double_word_is c.args.key.now.0 c.args.at c.from_be_bytes.result (search rules) c.requires c.from_be_bytes.ensures;
  rest = rest_fits c.args.key.now.0 c.args.at (search rules) c.requires (search rules);
}
