-- Whether names tell blocks apart: it is decided block by block.
use Rattle.std.proofs.Common.{◌≡◌, ◌≢◌, ◌⊎◌, inl, inr, ⊎_elim, ℕ, Bool, true, false, List, [], ◌∷◌, refl, sym, ap, ◌∙◌, Contains}
use Rattle.std.specs.Str.{bytes_eq}
use Rattle.std.proofs.lemmas.Slice.Eq.{bytes_eq-Decides}
use Rattle.ivy_base.specs.declared.key.Key.{Key}
use Rattle.ivy_base.specs.Naming.{name, IsCollisionFree, HasClash}
use Rattle.log_model.proofs.Lists.{here, there, in_cons, in_nothing}

-- the block has its name alone among these, or one of them clashes with it
abbrev IsAlone : List ℕ → List (List ℕ) → Type 0
IsAlone b blocks = (c : List ℕ) → Contains blocks c → name b ≡ name c → b ≡ c

abbrev HasOther : List ℕ → List (List ℕ) → Type 0
HasOther b blocks = (c : List ℕ) × Contains blocks c × (b ≢ c) × (name b ≡ name c)

one_key : (a b : Key) → a.0 ≡ b.0 → a ≡ b
one_key a b h = λ i. record { 0 = h i }

alone_or_not : (b : List ℕ) (blocks : List (List ℕ)) → IsAlone b blocks ⊎ HasOther b blocks
alone_or_not b [] = inl (λ c c_in same. absurd (in_nothing c c_in))
alone_or_not b (c ∷ rest) = by (bytes_eq b c) refl (bytes_eq (name b).0 (name c).0) refl (alone_or_not b rest)
  where
    is_alone : (c ≡ c → name b ≡ name c → b ≡ c) → IsAlone b rest → IsAlone b (c ∷ rest)
    is_alone first others d d_in same = ⊎_elim (λ is. first refl (same ∙ ap name (sym is)) ∙ is) (λ later. others d later same) (in_cons c rest d d_in)

    by : (same : Bool) → bytes_eq b c ≡ same → (named : Bool) → bytes_eq (name b).0 (name c).0 ≡ named → IsAlone b rest ⊎ HasOther b rest → IsAlone b (c ∷ rest) ⊎ HasOther b (c ∷ rest)
    by same e named n (inr other) = inr (other.0, there c rest other.0 other.1, other.2, other.3)
    by true e named n (inl others) = inl (is_alone (λ u v. (bytes_eq-Decides b c).0 e) others)
    by false e true n (inl others) = inr (c, here c rest, (λ is. let yes = (bytes_eq-Decides b c).1 is in cc), one_key (name b) (name c) ((bytes_eq-Decides (name b).0 (name c).0).0 n))
    by false e false n (inl others) = inl (is_alone (λ u v. let yes = (bytes_eq-Decides (name b).0 (name c).0).1 (ap (λ (k : Key). k.0) v) in cc) others)

pub clash_is_decided : (blocks : List (List ℕ)) → IsCollisionFree blocks ⊎ HasClash blocks
clash_is_decided [] = inl (λ b c b_in c_in same. absurd (in_nothing b b_in))
clash_is_decided (b ∷ rest) = by (alone_or_not b rest) (clash_is_decided rest)
  where
    apart : IsAlone b rest → IsCollisionFree rest → IsCollisionFree (b ∷ rest)
    apart alone others x y x_in y_in same = ⊎_elim
        (λ x_is. ⊎_elim (λ y_is. sym x_is ∙ y_is) (λ y_later. sym x_is ∙ alone y y_later (ap name x_is ∙ same)) (in_cons b rest y y_in))
        (λ x_later. ⊎_elim (λ y_is. sym (alone x x_later (ap name y_is ∙ sym same)) ∙ y_is) (λ y_later. others x y x_later y_later same) (in_cons b rest y y_in))
        (in_cons b rest x x_in)

    by : IsAlone b rest ⊎ HasOther b rest → IsCollisionFree rest ⊎ HasClash rest → IsCollisionFree (b ∷ rest) ⊎ HasClash (b ∷ rest)
    by (inr other) others = inr (b, other.0, here b rest, there b rest other.0 other.1, other.2, other.3)
    by (inl alone) (inr clash) = inr (clash.0, clash.1, there b rest clash.0 clash.2, there b rest clash.1 clash.3, clash.4, clash.5)
    by (inl alone) (inl others) = inl (apart alone others)
