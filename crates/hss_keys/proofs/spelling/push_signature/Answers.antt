use Rattle.std.proofs.Common.{◌≡◌, [], ◌++◌, OnOk, List, ℕ, ◌∙◌, subst}
use Rattle.hash_signature_model.specs.declared.keys.PrivateKey.{PrivateKey}
use Rattle.hash_signature_model.specs.Signer.{leaf_used}
use Rattle.hss_keys.proofs.Signing.{signed_last}
use Rattle.hss_keys.proofs.spelling.push_signature.Goals as goal

pub returns : goal.returns
returns c =
    let used = subst (λ (k : PrivateKey). c.choose_leaf-leaf.result ≡ leaf_used k.set [] c.args.n) c.key.ensures c.choose_leaf-leaf.ensures.value in
    let whole = signed_last c.args.level.now c.args.n c.choose_leaf-leaf.result c.args.message.now c.as_slice.result.now used (c.as_slice.ensures ∙ c.in_ok-signature.ensures) in
    subst (λ (bytes : List ℕ). OnOk c.append.result (c.append.new.out.items ≡ c.args.out.now.items ++ bytes)) whole c.append.ensures
