use Rattle.std.proofs.Common.{◌≡◌, ◌≤◌, ◌*◌, ◌-◌, ◌∷◌, length, ℕ, Fits, w64, refl, sym, ap, ◌∙◌, subst, arith}
use Rattle.hash_signature_model.specs.declared.keys.PrivateKey.{PrivateKey}
use Rattle.hash_signature_model.specs.Parameters.{leaves}
use Rattle.hash_signature_model.specs.Signer.{capacity, left_of}
use Rattle.hss_keys.specs.ToldApart.{at_most_three}
use Rattle.hss_keys.proofs.Signing.{capacity_of_more}
use Rattle.hss_keys.proofs.signer.Hss.left.Goals as goal

whole : (c : goal.After-count_messages) → c.leaf_count-leaves.result * c.count_messages.result ≡ capacity (c.self.inside.top.set ∷ c.self.inside.sets.items)
whole c =
    let h = c.self.inside in
    capacity_of_more (h.top.set ∷ h.sets.items) h.top.set h.sets.items c.leaf_count-leaves.result c.count_messages.result refl
    (c.leaf_count-leaves.ensures ∙ ap (λ (k : PrivateKey). leaves k.set.h) c.key.ensures)
    (c.count_messages.ensures ∙ ap capacity c.deref.ensures.value)

pub overflow_mul-result : goal.overflow_mul-result
overflow_mul-result c =
    let few : length (c.self.inside.top.set ∷ c.self.inside.sets.items) ≤ 3 = omega (arith, c.self.invariant.2) in
    subst (λ (n : ℕ). Fits w64 n) (sym (whole c)) (omega (arith, at_most_three (c.self.inside.top.set ∷ c.self.inside.sets.items) few))

pub overflow_sub-result : goal.overflow_sub-result
overflow_sub-result c = subst (λ (n : ℕ). c.self.inside.made ≤ n) (sym (whole c)) c.self.invariant.4

pub returns : goal.returns
returns c = ap (λ (n : ℕ). n - c.self.inside.made) (whole c) ∙ ap left_of c.self.view_is
