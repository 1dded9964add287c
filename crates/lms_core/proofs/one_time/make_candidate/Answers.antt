use Rattle.std.proofs.Common.{◌≡◌, ◌<◌, [], ◌∷◌, ◌++◌, replicate, slice_index_or, ◌∙◌, arith}
use Rattle.std.proofs.lemmas.List.{get_or-replicate}
use Rattle.sha2.specs.Hashers.{Holds256}
use Rattle.hash_signature_model.specs.OneTime.{u32_string, coefficient, end_from, value_at}
use Rattle.hash_signature_model.specs.Parameters.{chains, top}
use Rattle.lms_core.proofs.Pieces.{before_values, one_value_more}
use Rattle.lms_core.proofs.OnWay.{chains_fit, end_is, may_end}
use Rattle.lms_core.proofs.one_time.make_candidate.Goals as goal

pub walk_all-ends-requires : goal.walk_all-ends-requires
walk_all-ends-requires c = may_end c.args.w c.split_values.result c.digits.result c.step_count-steps.result c.step_count-steps.ensures c.digits.ensures.bound

pub chains-init : goal.chains-init
chains-init c = before_values (Holds256 c.begin_key-hasher.result) (c.args.id.now ++ u32_string c.args.leaf ++ 0x80 ∷ 0x80 ∷ []) (end_from c.args.w c.args.id.now c.args.leaf c.args.code.now c.args.values.now) c.begin_key-hasher.ensures

pub chains-preserved : goal.chains-preserved
chains-preserved c =
    let w = c.args.w in
    let i = c.chains.i in
    let below : i < chains w = omega (arith, c.chain_count-i-end.ensures) in
    let inside : i < 68 = omega (arith, chains_fit w) in
    let end = slice_index_or c.walk_all-ends.result i [] in
    let is : end ≡ end_from w c.args.id.now c.args.leaf c.args.code.now c.args.values.now i =
    c.walk_all-ends.ensures i inside
    ∙ end_is c.of.result.id c.args.id.now c.of.result.number c.args.leaf (record { values = c.split_values.result; from = c.digits.result; to = replicate 68 c.step_count-steps.result }) i (coefficient w c.args.code.now i) (top w) (value_at c.args.values.now i) c.of.ensures.id c.of.ensures.number (c.digits.ensures.values i below) (get_or-replicate 68 i c.step_count-steps.result 0 inside ∙ c.step_count-steps.ensures) (c.split_values.ensures i below) in
    one_value_more (Holds256 c.update.new.self) (c.args.id.now ++ u32_string c.args.leaf ++ 0x80 ∷ 0x80 ∷ []) (end_from w c.args.id.now c.args.leaf c.args.code.now c.args.values.now) i end is (c.update.ensures _ c.chains.invariant)
