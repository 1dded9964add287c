use Rattle.version_vectors.specs.Ranks.{rank_of}
use Rattle.replay_engine.proofs.KeptRows.{last_short, order_is, none_is_less}
use Rattle.replay_engine.proofs.greatest.last_order.Goals as goal

pub rank-requires : goal.rank-requires
rank-requires c = last_short c.args.held.now c.in-Some-Some.held.now c.in-Some-Some.ensures.value c.requires.held

pub rank-requires-in-Some-Some : goal.rank-requires-in-Some-Some
rank-requires-in-Some-Some c = last_short c.args.new.now c.in-Some-Some.new.now c.in-Some-Some.ensures'.value c.requires.new

pub returns-in-Some-Some : goal.returns-in-Some-Some
returns-in-Some-Some c =
    order_is c.args.held.now c.args.new.now c.in-Some-Some.held.now c.in-Some-Some.new.now (rank_of c.rank.result) (rank_of c.rank-in-Some-Some.result) c.cmp.result
    c.in-Some-Some.ensures.value c.in-Some-Some.ensures'.value c.cmp.ensures c.rank.ensures c.rank-in-Some-Some.ensures

pub returns-in-None-Some : goal.returns-in-None-Some
returns-in-None-Some c = none_is_less c.args.held.now c.args.new.now c.in-None-Some.field-0-1.now c.in-None-Some.ensures.value c.in-None-Some.ensures'.value
