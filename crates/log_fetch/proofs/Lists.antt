-- Lists turned round.
use Rattle.std.proofs.Common.{◌≡◌, ℕ, zero, suc, ◌-◌, Contains, ⊎_elim, List, [], ◌∷◌, ◌++◌, map, reverse, Option, Some, refl, sym, ap, ◌∙◌, subst, arith}
use Rattle.std.specs.List.{AllByRecursion}
use Rattle.std.proofs.lemmas.List.{map-append, reverse-append}
use Rattle.ivy_base.specs.declared.key.PubKey.{PubKey}
use Rattle.log_model.specs.Record.{Record}
use Rattle.log_model.proofs.Lists.{each_append, here, in_cons}
use Rattle.std.proofs.lemmas.List.Elements.{Contains-append_left, Contains-append_right}
use Rattle.log_records.specs.declared.record.Record as kept
use Rattle.log_records.specs.Records.{record_of, records_of}
use Rattle.log_fetch.specs.Walking.{AreOwned, oldest_first}

pub map_reverse : {X Y : Type 0} (f : X → Y) (xs : List X) → map f (reverse xs) ≡ reverse (map f xs)
map_reverse f [] = refl
map_reverse f (x ∷ xs) =
    ap (map f) (reverse-append (x ∷ []) xs) ∙ map-append f (reverse xs) (x ∷ []) ∙ ap (λ l. l ++ f x ∷ []) (map_reverse f xs) ∙ sym (reverse-append (f x ∷ []) (map f xs))

pub each_reverse : {X : Type 0} (P : X → Type 0) (xs : List X) → AllByRecursion P xs → AllByRecursion P (reverse xs)
each_reverse P [] h = tt
each_reverse P (x ∷ xs) h = subst (AllByRecursion P) (sym (reverse-append (x ∷ []) xs)) (each_append P (reverse xs) (x ∷ []) (each_reverse P xs h.1) (h.0, tt))

-- records turned round are the definition's turned round
pub turned : (items other : List kept.Record) (found : Option (List Record)) → other ≡ reverse items → found ≡ Some (records_of items) → Some (records_of other) ≡ oldest_first found
turned items other found e f = ap (λ (l : List kept.Record). Some (records_of l)) e ∙ ap (λ (l : List Record). Some l) (map_reverse record_of items) ∙ ap oldest_first (sym f)

pub turned_owned : (owner : PubKey) (items other : List kept.Record) (found : Option (List Record)) → other ≡ reverse items → found ≡ Some (records_of items) → AreOwned owner found → AreOwned owner (Some (records_of other))
turned_owned owner items other found e f owned =
    let all : AllByRecursion (λ (r : Record). r.owner ≡ owner) (records_of items) = subst (AreOwned owner) f owned in
    subst (AllByRecursion (λ (r : Record). r.owner ≡ owner)) (sym (ap (λ (l : List kept.Record). records_of l) e ∙ map_reverse record_of items)) (each_reverse (λ (r : Record). r.owner ≡ owner) (records_of items) all)

pub is_suc : (n m : ℕ) → n ≡ m → (m ≡ 0 → ⊥) → n ≡ suc (n - 1)
is_suc n zero e some = absurd (some refl)
is_suc n (suc m) e some = omega (arith, e)

pub reversed_has : {X : Type 0} (xs : List X) (x : X) → Contains xs x → Contains (reverse xs) x
reversed_has [] x h = h
reversed_has {X = X} (y ∷ ys) x h = subst (λ (l : List X). Contains l x) (sym (reverse-append (y ∷ []) ys)) (⊎_elim
    (λ e. Contains-append_right (reverse ys) (y ∷ []) x (subst (λ (z : X). Contains (y ∷ []) z) e (here y [])))
    (λ i. Contains-append_left (reverse ys) (y ∷ []) x (reversed_has ys x i))
    (in_cons y ys x h))
