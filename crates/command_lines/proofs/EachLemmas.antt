-- Reading words one after the other, each as a value: the values that were read so far, and those of the other words after them.
use Rattle.std.proofs.Common.{◌≡◌, ℕ, ◌+◌, ◌<◌, ◌≤◌, List, [], ◌∷◌, ◌++◌, length, get_or, drop, Option, Some, None, Bor, refl, sym, ap, ◌∙◌, append_assoc}
use Rattle.std.proofs.lemmas.List.{at_drop_more, at_drop_all, append-nil}
use Rattle.script_model.specs.Words.{◌>>=◌, each_of}
use Rattle.command_lines.proofs.ReadLemmas.{behind, seen}

behind_one : {A : Type 0} (values : List A) (x : A) (others : Option (List A)) → behind (values ++ x ∷ []) others ≡ behind values (others >>= λ xs. Some (x ∷ xs))
behind_one values x None = refl
behind_one values x (Some others) = ap Some (append_assoc values (x ∷ []) others)

-- the next word is a value
pub each_goes_on : {A : Type 0} (read : List ℕ → Option A) (words : List (Bor (List ℕ))) (i : ℕ) (d : Bor (List ℕ)) (values : List A) (x : A)
    → behind values (each_of read (seen (drop i words))) ≡ each_of read (seen words) → i < length words → read (get_or words i d).now ≡ Some x
    → behind (values ++ x ∷ []) (each_of read (seen (drop (i + 1) words))) ≡ each_of read (seen words)
each_goes_on read words i d values x so_far lt is =
    let others = each_of read (seen (drop (i + 1) words)) in
    let next = rw is at (at_drop_more (λ rest. behind values (each_of read (seen rest))) words i d lt) in
    behind_one values x others ∙ sym next ∙ so_far

-- the next word is none
pub each_stops : {A : Type 0} (read : List ℕ → Option A) (words : List (Bor (List ℕ))) (i : ℕ) (d : Bor (List ℕ)) (values : List A)
    → behind values (each_of read (seen (drop i words))) ≡ each_of read (seen words) → i < length words → read (get_or words i d).now ≡ None
    → None ≡ each_of read (seen words)
each_stops read words i d values so_far lt none =
    let next = rw none at (at_drop_more (λ rest. behind values (each_of read (seen rest))) words i d lt) in
    sym next ∙ so_far

-- all words were read
pub each_ends : {A : Type 0} (read : List ℕ → Option A) (words : List (Bor (List ℕ))) (i : ℕ) (values : List A)
    → behind values (each_of read (seen (drop i words))) ≡ each_of read (seen words) → length words ≤ i
    → Some values ≡ each_of read (seen words)
each_ends read words i values so_far le =
    let last = at_drop_all (λ rest. behind values (each_of read (seen rest))) words i le in
    ap Some (sym (append-nil values)) ∙ sym last ∙ so_far
