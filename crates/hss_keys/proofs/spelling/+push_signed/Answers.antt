use Rattle.std.proofs.Common.{◌≡◌, ◌++◌, OnOk, List, ℕ, ◌∙◌, ap, subst, append_assoc}
use Rattle.hash_signature_model.specs.declared.keys.PrivateKey.{PrivateKey}
use Rattle.hash_signature_model.specs.Signer.{leaf_used, signed_by}
use Rattle.hss_keys.proofs.Signing.{signed_more}
use Rattle.hss_keys.proofs.spelling.+push_signed.Goals as goal

pub returns-in-Some-split_first_mut : goal.returns-in-Some-split_first_mut
returns-in-Some-split_first_mut t c =
    let used = subst (λ (k : PrivateKey). c.choose_leaf-leaf.result ≡ leaf_used k.set c.args.sets.now c.args.n) c.key.ensures c.choose_leaf-leaf.ensures.value in
    let parts = c.in-Some.ensures.cases.0 in
    let rest = signed_by c.level.result.now c.in-Some.others.now c.args.n c.args.message.now in
    let whole = signed_more c.args.level.now c.args.sets.now c.in-Some.others.now c.in-Some.set.now c.args.n c.choose_leaf-leaf.result c.args.message.now c.renew.new.self c.level.result.now c.signed.result.now parts used c.in_ok-renew.ensures c.signed.ensures c.level.ensures in
    let front = ap (λ (x : List ℕ). x ++ rest) c.in_ok-append.ensures ∙ append_assoc c.args.out.now.items c.signed.result.now rest ∙ ap (λ (x : List ℕ). c.args.out.now.items ++ x) whole in
    subst (λ (bytes : List ℕ). OnOk c.push_signed.result (c.push_signed.new.out.items ≡ bytes)) front c.push_signed.ensures
