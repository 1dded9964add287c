use Rattle.std.proofs.Common.{◌≡◌, ◌<◌, List, ℕ, length, sym, ◌∙◌, subst}
use Rattle.hash_signature_model.specs.declared.keys.PrivateKey.{PrivateKey}
use Rattle.hash_signature_model.specs.Parameters.{leaves}
use Rattle.hash_signature_model.specs.Signatures.{Accepts, public_key, public_of, signature, signature_of}
use Rattle.hash_signature_model.proofs.Acceptance.{signature_accepted}
use Rattle.lms_core.specs.Kept.{AreNodes}
use Rattle.lms_core.proofs.Trees.{signature_is}
use Rattle.lms_core.proofs.tree.Tree.sign_leaf.Goals as goal

pub returns-clause-signed : goal.returns-clause-signed
returns-clause-signed c =
    let t = c.self.inside in
    let g = t.key in
    let lt = subst (λ (x : PrivateKey). c.args.q < leaves x.set.h) (sym c.self.view_is) c.requires in
    let shared : c.deref.result.now.items ≡ t.nodes.value.items = λ i. (c.deref.ensures i).items in
    let all = subst (AreNodes g) (sym (c.deref-2.ensures.value ∙ shared)) c.self.invariant.1 in
    subst (λ (x : PrivateKey). c.of.result ≡ signature x.set (signature_of x c.args.q c.args.message.now)) c.self.view_is
    (c.of.ensures ∙ (c.in_ok-out.ensures ∙ signature_is g c.deref-2.result.now c.args.q c.args.message.now c.derive_randomizer-randomizer.result c.digest_message-digest.result c.with_checksum-code.result all lt c.derive_randomizer-randomizer.ensures c.digest_message-digest.ensures c.with_checksum-code.ensures))

pub returns-clause-accepted : goal.returns-clause-accepted
returns-clause-accepted c =
    let id_length = subst (λ (x : PrivateKey). length x.id ≡ 16) c.self.view_is c.self.invariant.0 in
    subst (λ (bytes : List ℕ). Accepts (public_key (public_of c.args.self.now)) c.args.message.now bytes) (sym (returns-clause-signed c)) (signature_accepted c.args.self.now c.args.q c.args.message.now id_length c.requires)
