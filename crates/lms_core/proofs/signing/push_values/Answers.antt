use Rattle.std.proofs.Common.{◌≡◌, ◌-◌, ◌<◌, ℕ, [], replicate, slice_index_or, refl, ap, ◌∙◌, arith}
use Rattle.std.proofs.lemmas.List.{get_or-replicate}
use Rattle.hash_signature_model.specs.OneTime.{chain, coefficient, derived, signed_value}
use Rattle.hash_signature_model.specs.Parameters.{chains}
use Rattle.lms_core.proofs.Pieces.{pushed, nothing_pushed}
use Rattle.lms_core.proofs.OnWay.{chains_fit, end_is, may_start}
use Rattle.lms_core.proofs.signing.push_values.Goals as goal

pub walk_all-values-requires : goal.walk_all-values-requires
walk_all-values-requires c = may_start c.args.key.now.set.w c.derive_all.result c.digits.result c.digits.ensures.bound

pub chains-init : goal.chains-init
chains-init c = nothing_pushed c.args.out.now.items (signed_value c.args.key.now.set.w c.args.key.now.id c.args.key.now.seed c.args.leaf c.args.code.now)

pub chains-preserved : goal.chains-preserved
chains-preserved c =
    let w = c.args.key.now.set.w in
    let id = c.args.key.now.id in
    let seed = c.args.key.now.seed in
    let leaf = c.args.leaf in
    let i = c.chains.i in
    let below : i < chains w = omega (arith, c.chain_count-i-end.ensures) in
    let inside : i < 68 = omega (arith, chains_fit w) in
    let steps = coefficient w c.args.code.now i in
    let value = slice_index_or c.walk_all-values.result i [] in
    let whole : steps - 0 ≡ steps = omega arith in
    let start : derived c.of-leaf.result.id seed c.of-leaf.result.number i ≡ derived id seed leaf i = rw (c.of-leaf.ensures.id, c.of-leaf.ensures.number) refl in
    let is : value ≡ signed_value w id seed leaf c.args.code.now i =
    c.walk_all-values.ensures i inside
    ∙ (end_is c.of-leaf.result.id id c.of-leaf.result.number leaf (record { values = c.derive_all.result; from = replicate 68 0; to = c.digits.result }) i 0 steps (derived id seed leaf i) c.of-leaf.ensures.id c.of-leaf.ensures.number (get_or-replicate 68 i 0 0 inside) (c.digits.ensures.values i below) (c.derive_all.ensures i below ∙ start) ∙ ap (λ (n : ℕ). chain id leaf i 0 n (derived id seed leaf i)) whole) in
    pushed c.args.out.now.items c.chains.out.items c.append.new.out.items value (signed_value w id seed leaf c.args.code.now) i c.in_ok-append.ensures is c.chains.invariant
