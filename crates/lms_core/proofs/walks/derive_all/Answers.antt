use Rattle.std.proofs.Common.{◌≡◌, ℕ, List, [], ◌+◌, ◌*◌, ◌≤◌, ◌<◌, length, slice_index_or, ap, ◌∙◌, arith}
use Rattle.std.proofs.lemmas.List.{get_or-replicate}
use Rattle.hash_signature_model.specs.OneTime.{derived}
use Rattle.lms_core.specs.Kept.{at}
use Rattle.lms_core.proofs.Fours.{four_more, length_four}
use Rattle.lms_core.proofs.OnWay.{chains_fit}
use Rattle.lms_core.proofs.walks.derive_all.Goals as goal

pub fours-preserved : goal.fours-preserved
fours-preserved c =
    let id = c.args.leaf.now.id in
    let leaf = c.args.leaf.now.number in
    let seed = c.args.seed.now in
    let n = 4 * c.fours.four in
    let count = chains_fit c.args.w in
    let long = c.fours.invariant.0 in
    let room : n + 4 ≤ length c.fours.values = omega (arith, c.chain_count.ensures) in
    let out = c.to_bytes.result in
    let is : (k : ℕ) → k < 4 → at out k ≡ derived id seed leaf (n + k) = λ k lt.
    ap (λ (lists : List (List ℕ)). at lists k) c.to_bytes.ensures
    ∙ (c.derive_each.ensures k lt ∙ ap (λ (s : List ℕ). derived id s leaf (n + k)) (ap (λ (lists : List (List ℕ)). at lists k) c.of-seeds.ensures ∙ get_or-replicate 4 k seed [] lt)) in
    let none : n + 0 ≡ n = omega arith in
    let more : 4 * (c.fours.four + 1) ≡ n + 4 = omega arith in (
      length_four c.fours.values n (slice_index_or out 0 []) (slice_index_or out 1 []) (slice_index_or out 2 []) (slice_index_or out 3 []) ∙ long,
      rw more
          (four_more (λ i. derived id seed leaf i) n c.fours.values (slice_index_or out 0 []) (slice_index_or out 1 []) (slice_index_or out 2 []) (slice_index_or out 3 []) room (rw none at (is 0 (omega arith))) (is 1 (omega arith)) (is 2 (omega arith)) (is 3 (omega arith)) c.fours.invariant.1),
    )
