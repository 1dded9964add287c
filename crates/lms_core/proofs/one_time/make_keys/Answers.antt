use Rattle.std.proofs.Common.{◌≡◌, ℕ, List, [], ◌∷◌, ◌++◌, ◌+◌, ◌<◌, slice_index_or, ◌∙◌, ap, refl, arith}
use Rattle.sha2.specs.Hashers.{Holds256}
use Rattle.hash_signature_model.specs.OneTime.{u32_string, chain_end, one_time_key}
use Rattle.hash_signature_model.specs.Parameters.{chains}
use Rattle.sha256_lanes.proofs.LaneLemmas.{below_four}
use Rattle.lms_core.specs.Kept.{at}
use Rattle.lms_core.proofs.Pieces.{before_values, one_value_more}
use Rattle.lms_core.proofs.one_time.make_keys.Goals as goal

pub chains-init : goal.chains-init
chains-init c =
    let key = c.args.key.now in
    let first = c.args.first in
    let none : first + 0 ≡ first = omega arith in
    let front : ℕ → List ℕ = λ k. key.id ++ u32_string (first + k) ++ 0x80 ∷ 0x80 ∷ [] in
    let ends : ℕ → ℕ → List ℕ = λ k. chain_end key.set.w key.id key.seed (first + k) in
    record {
      hasher0 = before_values (Holds256 c.begin_key-hasher0.result) (front 0) (ends 0) (rw none c.begin_key-hasher0.ensures);
      hasher1 = before_values (Holds256 c.begin_key-hasher1.result) (front 1) (ends 1) c.begin_key-hasher1.ensures;
      hasher2 = before_values (Holds256 c.begin_key-hasher2.result) (front 2) (ends 2) c.begin_key-hasher2.ensures;
      hasher3 = before_values (Holds256 c.begin_key-hasher3.result) (front 3) (ends 3) c.begin_key-hasher3.ensures;
    }

pub chains-preserved : goal.chains-preserved
chains-preserved c =
    let key = c.args.key.now in
    let first = c.args.first in
    let front : ℕ → List ℕ = λ k. key.id ++ u32_string (first + k) ++ 0x80 ∷ 0x80 ∷ [] in
    let ends : ℕ → ℕ → List ℕ = λ k. chain_end key.set.w key.id key.seed (first + k) in
    let ended : (k : ℕ) → k < 4 → at c.of-seeds.result k ≡ key.seed → at c.end_four.result k ≡ ends k c.chains.i = λ k below seed.
    c.end_four.ensures key.id first k c.heads_of-heads.ensures below ∙ rw seed refl in
    record {
      hasher0 = one_value_more (Holds256 c.update.new.self) (front 0) (ends 0) c.chains.i (slice_index_or c.end_four.result 0 []) (ended 0 (omega arith) (ap (λ (lists : List (List ℕ)). at lists 0) c.of-seeds.ensures)) (c.update.ensures _ c.chains.invariant.hasher0);
      hasher1 = one_value_more (Holds256 c.update-in-chains.new.self) (front 1) (ends 1) c.chains.i (slice_index_or c.end_four.result 1 []) (ended 1 (omega arith) (ap (λ (lists : List (List ℕ)). at lists 1) c.of-seeds.ensures)) (c.update-in-chains.ensures _ c.chains.invariant.hasher1);
      hasher2 = one_value_more (Holds256 c.update-in-chains-2.new.self) (front 2) (ends 2) c.chains.i (slice_index_or c.end_four.result 2 []) (ended 2 (omega arith) (ap (λ (lists : List (List ℕ)). at lists 2) c.of-seeds.ensures)) (c.update-in-chains-2.ensures _ c.chains.invariant.hasher2);
      hasher3 = one_value_more (Holds256 c.update-in-chains-3.new.self) (front 3) (ends 3) c.chains.i (slice_index_or c.end_four.result 3 []) (ended 3 (omega arith) (ap (λ (lists : List (List ℕ)). at lists 3) c.of-seeds.ensures)) (c.update-in-chains-3.ensures _ c.chains.invariant.hasher3);
    }

pub returns : goal.returns
returns c =
    let key = c.args.key.now in
    let done : c.chains.i ≡ chains key.set.w = omega (arith, c.chain_count-i-end.ensures) in
    below_four (λ k. at (c.finalize.result ∷ c.finalize-2.result ∷ c.finalize-3.result ∷ c.finalize-4.result ∷ []) k ≡ one_time_key key.set.w key.id key.seed (c.args.first + k))
    (rw done at (c.finalize.ensures _ c.chains.invariant.hasher0)) (rw done at (c.finalize-2.ensures _ c.chains.invariant.hasher1))
    (rw done at (c.finalize-3.ensures _ c.chains.invariant.hasher2)) (rw done at (c.finalize-4.ensures _ c.chains.invariant.hasher3))
