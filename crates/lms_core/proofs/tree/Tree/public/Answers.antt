use Rattle.std.proofs.Common.{◌≡◌, [], length, sym, ap, ◌∙◌, subst, arith, refl}
use Rattle.std.proofs.lemmas.List.{get_or_default}
use Rattle.hash_signature_model.specs.declared.keys.PrivateKey.{PrivateKey}
use Rattle.hash_signature_model.specs.Parameters.{lms_type, ots_type, levels}
use Rattle.hash_signature_model.specs.OneTime.{u32_string}
use Rattle.hash_signature_model.specs.Nodes.{root}
use Rattle.hash_signature_model.specs.Signatures.{public_key, public_of}
use Rattle.hash_signature_model.proofs.Paths.{length_node, leaves_some}
use Rattle.lms_core.specs.Kept.{AreNodes}
use Rattle.lms_core.proofs.Pieces.{four_puts, four_parts_are}
use Rattle.lms_core.proofs.tree.Tree.public.Goals as goal

pub returns : goal.returns
returns c =
    let t = c.self.inside in
    let shared : c.deref.result.now.items ≡ t.nodes.value.items = λ i. (c.deref.ensures i).items in
    let all : AreNodes t.key c.deref.result.now.items = subst (AreNodes t.key) (sym shared) c.self.invariant.1 in
    let size = all.size in
    let root_is : c.index.result.now ≡ root t.key.set t.key.id t.key.seed = c.index.ensures ∙ (get_or_default c.deref.result.now.items 1 _ [] (omega (arith, leaves_some t.key.set.h)) ∙ all.known (levels t.key.set.h) 0 1 (omega arith) (record { low = omega arith; high = omega arith })) in
    let whole = four_puts [] c.put.new.out c.put-2.new.out c.put-3.new.out c.put-4.new.out c.to_be_bytes.result c.to_be_bytes-2.result t.key.id c.index.result.now
    (ap length c.to_be_bytes.ensures) (ap length c.to_be_bytes-2.ensures) c.self.invariant.0 (ap length root_is ∙ length_node t.key.set t.key.id t.key.seed (levels t.key.set.h) 1)
    (c.put-4.auto.out ∙ (c.put-3.auto.out ∙ (c.put-2.auto.out ∙ c.put.auto.out)))
    c.put.ensures c.put-2.ensures c.put-3.ensures c.put-4.ensures in
    let parts = four_parts_are c.to_be_bytes.result (u32_string (lms_type t.key.set.h)) c.to_be_bytes-2.result (u32_string (ots_type t.key.set.w)) t.key.id t.key.id c.index.result.now (root t.key.set t.key.id t.key.seed)
    (c.to_be_bytes.ensures ∙ ap u32_string c.type_number.ensures) (c.to_be_bytes-2.ensures ∙ ap u32_string c.type_number-2.ensures) refl root_is in
    subst (λ (g : PrivateKey). c.put-4.new.out ≡ public_key (public_of g)) c.self.view_is (whole ∙ parts)
