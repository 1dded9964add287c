-- Ranks as they are kept, in the order of ranks.
use Rattle.std.specs.Prelude.{◌≡◌}
use Rattle.std.specs.declared.cmp.Ordering.{Ordering}
use Rattle.std.specs.declared.cmp.Ordering.TheVariants.{Equal}
use Rattle.log_model.specs.Rank as log
use Rattle.log_model.specs.Rank.{rank_cmp}
use Rattle.version_vectors.specs.declared.rank.Rank.{Rank}

abbrev pub rank_of : Rank → log.Rank
rank_of r = record { weight = r.weight; owner = r.owner; seq = r.seq }

-- ranks are ordered as the records that have them
abbrev pub IsOrderOfRanks : (Rank → Rank → Ordering) → Type 0
IsOrderOfRanks cmp = (a b : Rank) → cmp a b ≡ rank_cmp (rank_of a) (rank_of b)

abbrev pub OnlyEqualRanksTie : Type 0
OnlyEqualRanksTie = (a b : Rank) → rank_cmp (rank_of a) (rank_of b) ≡ Equal → a ≡ b
