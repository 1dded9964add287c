use Rattle.std.proofs.Common.{arith}
use Rattle.version_vectors.specs.Ranks.{rank_of}
use Rattle.log_records.proofs.PlaceLemmas.{held_short, less_under, not_less_under, at_place}
use Rattle.log_records.proofs.places.merge_place.Goals as goal

pub rank-requires : goal.rank-requires
rank-requires c = held_short c.args.held.now _ c.index-held-middle.result (omega (arith, c.search-test.true, c.search.invariant.order, c.search.invariant.within)) c.index-held-middle.is c.requires.spelled

pub search-preserved-in-Less : goal.search-preserved-in-Less
search-preserved-in-Less c = record {
  order = omega (arith, c.search-test.true, c.search.invariant.order);
  within = c.search.invariant.within;
  under = less_under c.args.held.now _ c.index-held-middle.result (rank_of c.args.first.now) (rank_of c.rank.result) c.cmp.result (omega (arith, c.search-test.true, c.search.invariant.order, c.search.invariant.within)) c.index-held-middle.is c.requires.ascending c.rank.ensures c.cmp.ensures c.in-Less.is;
  rest = c.search.invariant.rest;
}

pub search-preserved : goal.search-preserved
search-preserved c = record {
  order = omega (arith, c.search-test.true, c.search.invariant.order);
  within = omega (arith, c.search-test.true, c.search.invariant.order, c.search.invariant.within);
  under = c.search.invariant.under;
  rest = not_less_under c.args.held.now _ c.index-held-middle.result (rank_of c.args.first.now) (rank_of c.rank.result) c.cmp.result (omega (arith, c.search-test.true, c.search.invariant.order, c.search.invariant.within)) c.index-held-middle.is c.requires.ascending c.rank.ensures c.cmp.ensures c.in_default.not-Less;
}

pub returns-clause-place : goal.returns-clause-place
returns-clause-place c = at_place (rank_of c.args.first.now) c.args.held.now c.search.low c.search.high (omega (arith, c.search-test.false, c.search.invariant.order)) c.search.invariant.within c.search.invariant.under c.search.invariant.rest
