use Rattle.std.proofs.Common.{◌≡◌, ◌≤◌, ◌<◌, ◌∷◌, length, ℕ, List, sym, ◌∙◌, subst, arith}
use Rattle.hss_keys.specs.Hss.{HssAccepts}
use Rattle.hash_signature_model.specs.Signer.{Signer, public_key_of}
use Rattle.hss_keys.specs.ToldApart.{at_most_three}
use Rattle.hss_keys.proofs.Signing.{hss_accepted}
use Rattle.hss_keys.proofs.signer.Hss.sign.Goals as goal

pub overflow_add-self : goal.overflow_add-self
overflow_add-self c =
    let sets = c.self.inside.top.set ∷ c.self.inside.sets.items in
    let few : length sets ≤ 3 = omega (arith, c.self.invariant.2) in
    let most = at_most_three sets few in
    omega (arith, most, c.self.invariant.4)

pub returns-in-Ok-clause-accepted : goal.returns-in-Ok-clause-accepted
returns-in-Ok-clause-accepted c =
    let h = c.args.self.now in
    let same = c.self.view_is ∙ c.in-Ok.ensures.kept in
    let id_length = subst (λ (s : Signer). length s.id ≡ 16) same c.self.invariant.0.size in
    let some = subst (λ (s : Signer). 0 < length s.sets) same (omega arith) in
    let few = subst (λ (s : Signer). length s.sets ≤ 3) same (omega (arith, c.self.invariant.2)) in
    subst (λ (bytes : List ℕ). HssAccepts (public_key_of h) c.args.message.now bytes) (sym c.in-Ok.ensures.signed)
    (hss_accepted h.id h.seed h.sets h.made c.args.message.now id_length some few)
