-- What a closed set of records stands for has a spelling as a snapshot.
use Rattle.std.proofs.Common.{◌≡◌, ⊎_elim, ◌*◌, ◌<◌, ◌≤◌, ◌^◌, List, [], ◌∷◌, ◌++◌, length, map, fold, Option, Some, None, refl, sym, ap, ◌∙◌, subst, arith, Contains}
use Rattle.std.specs.Prelude.{IfSome}
use Rattle.std.specs.List.{AllByRecursion, last_or}
use Rattle.std.proofs.lemmas.List.{map-append}
use Rattle.std.proofs.lemmas.List.Sums.{sum_by-cons}
use Rattle.log_model.specs.Closed.{IsClosed}
use Rattle.log_model.specs.Rank.{Rank, front, full_vector, rank}
use Rattle.log_model.specs.Record.{Record}
use Rattle.log_model.specs.Vector.{Entry, Vector, join, weight_of}
use Rattle.log_model.specs.View.{View, IsView}
use Rattle.log_model.proofs.Later.{good_of}
use Rattle.log_model.proofs.Lists.{each, each_from, here, in_nothing, there}
use Rattle.turn_model.specs.Basis.{Basis, Holding, HoldsAll, Knows, StandsFor, nothing_held, tide_of}
use Rattle.turn_model.proofs.Kept.{kept_tree_is_replay}
use Rattle.log_model.specs.ViewKeys.{HasKeys, IsPubKey}
use Rattle.agent_model.specs.Others.{basis_of}
use Rattle.session_laws.proofs.Starting.{joined_front}
use Rattle.snapshot_model.specs.Blocks.{IsRankSpelled, IsVectorSpelled}
use Rattle.snapshot_model.specs.Reading.{IsBasisSpelled}
use Rattle.world_laws.specs.Laws.{HeldIsSpelled}
use Rattle.world_laws.proofs.SnapBounds.{IsBounded, set_is_bounded}
use Rattle.agent_laws.proofs.Floors.{IsSpelledIn, records_spelled}

-- ---- the last of a row

last_joined : {A : Type 0} (o : Option A) (xs ys : List A) → last_or o (xs ++ ys) ≡ last_or (last_or o xs) ys
last_joined o [] ys = refl
last_joined o (x ∷ xs) ys = last_joined (Some x) xs ys

last_fits : {A : Type 0} (P : A → Type 0) (o : Option A) (xs : List A) → IfSome o P → AllByRecursion P xs → IfSome (last_or o xs) P
last_fits P o [] first all = first
last_fits P o (x ∷ xs) first all = last_fits P (Some x) xs all.0 all.1

-- ---- ranks

weight_most : (v : Vector) → AllByRecursion (λ e. e.1.seq < 2 ^ 32) v → weight_of v ≤ length v * 2 ^ 32
weight_most [] h = omega arith
weight_most (e ∷ v) h =
    let rest = weight_most v h.1 in
    let first = h.0 in
    let sum = sum_by-cons (λ (x : Entry). x.1.seq) e v in
    omega (arith, rest, first, sum)

module _ (view : View) (well : IsView view) (keys : HasKeys view) (s : List Record) (closed : IsClosed view s) where
  owned : (r : Record) → Contains s r → Contains view.members r.owner
  owned r c = each (λ (x : Record). Contains view.members x.owner) s r closed.members c

  rank_spelled : (r : Record) → Contains s r → IsRankSpelled (rank r)
  rank_spelled r c =
      let good = good_of view s r closed c in
      let few = good.spelled.few in
      let short = good.spelled.short in
      let light = weight_most r.vector (each_from (λ (e : Entry). e.1.seq < 2 ^ 32) r.vector (λ e d. (each _ r.vector e good.spelled.entries d).2)) in
      record { weight = omega (arith, few, short, light); owner = each IsPubKey view.members r.owner keys.members (owned r c); seq = omega (arith, few) }

  ranks_spelled : (rs : List Record) → ((r : Record) → Contains rs r → Contains s r) → AllByRecursion IsRankSpelled (map rank rs)
  ranks_spelled [] within = tt
  ranks_spelled (r ∷ rs) within = (rank_spelled r (within r (here r rs)), ranks_spelled rs (λ q c. within q (there r rs q c)))

  tide_spelled : IfSome (tide_of s) IsRankSpelled
  tide_spelled = last_fits IsRankSpelled None (map rank s) tt (ranks_spelled s (λ r c. c))

  -- ---- fronts

  fronts_spelled : (rs : List Record) → ((r : Record) → Contains rs r → Contains s r) → (v : Vector) → IsSpelledIn view v → IsSpelledIn view (fold join v (map full_vector rs))
  fronts_spelled [] within v h = h
  fronts_spelled (r ∷ rs) within v h =
      let c = within r (here r rs) in
      fronts_spelled rs (λ q d. within q (there r rs q d)) (join v (full_vector r)) (records_spelled view well r.owner (owned r c) v (r ∷ []) h (good_of view s r closed c, tt))

  -- its front is of the view's logs
  pub front_in_view : IsSpelledIn view (front s)
  front_in_view = fronts_spelled s (λ r c. c) [] (record { spelled = record { each = tt; in_order = refl; short = omega arith }; named = tt })

  front_spelled : IsVectorSpelled (front s)
  front_spelled = front_in_view.spelled

  -- ---- bases

  pub stands_spelled : (b : Basis) → StandsFor view b s → IsBasisSpelled b
  stands_spelled b stands =
      let tree = subst IsBounded (sym stands.tree) (set_is_bounded view s well closed) in
      record {
        front = subst IsVectorSpelled (sym stands.front) front_spelled;
        tide = subst (λ (o : Option Rank). IfSome o IsRankSpelled) (sym stands.tide) tide_spelled;
        inodes = tree.inodes;
        names = tree.names;
        few = tree.few;
        few_names = tree.few_names;
      }

-- ---- what an agent holds

-- all that is held stands for all that is known
pub basis_stands : (view : View) (known : List Record) (h : Holding) → IsClosed view known → HoldsAll view known h → StandsFor view (basis_of h) known
basis_stands view known h closed all = record {
  closed = closed;
  front = joined_front view known h all;
  tide =
      ap (λ (o : Option Rank). last_or o (map rank h.held)) all.stands.tide
      ∙ (sym (last_joined None (map rank all.below) (map rank h.held)) ∙ (ap (λ (rs : List Rank). last_or None rs) (sym (map-append rank all.below h.held)) ∙ ap tide_of (sym all.whole)));
  tree = kept_tree_is_replay view known h closed all;
}

-- nothing stands for no record
pub nothing_stands : (view : View) → StandsFor view (basis_of nothing_held) []
nothing_stands view = record { closed = record { ascending = tt; members = tt; chains = λ owner. tt; causes = tt }; front = refl; tide = refl; tree = refl }

-- what an agent holds stands for a part of what it knows
pub holding_stands : (view : View) (floor : Vector) (h : Holding) (known : List Record) → Knows view floor h known → (below : List Record) × StandsFor view (basis_of h) below × ((r : Record) → Contains below r → Contains known r)
holding_stands view floor h known knows = ⊎_elim
    (λ none. ([], subst (λ x. StandsFor view (basis_of x) []) (sym none) (nothing_stands view), λ r c. absurd (in_nothing r c)))
    (λ all. (known, basis_stands view known h knows.closed all, λ r c. c))
    knows.holds

pub held_is_spelled : HeldIsSpelled
held_is_spelled view floor h known well keys knows =
    let stands = holding_stands view floor h known knows in
    stands_spelled view well keys stands.0 stands.1.closed (basis_of h) stands.1
