-- The words of a key's owner: a place, and after it a key.
use Rattle.std.proofs.Common.{◌≡◌, ℕ, ◌^◌, ◌≤◌, List, [], ◌∷◌, length, drop, get_or, Some, None, Bor, refl, arith}
use Rattle.script_model.specs.declared.command.KeyWord.{KeyWord}
use Rattle.script_model.specs.declared.command.NodeWord.TheVariants as node
use Rattle.script_model.specs.Words.{number_below, owner_node}
use Rattle.command_lines.specs.Steps.{key_behind}
use Rattle.command_lines.proofs.ReadLemmas.{seen}

pub owner_without_place : (words : List (Bor (List ℕ))) (d : Bor (List ℕ)) → 1 ≤ length words → number_below (2 ^ 64) (get_or words 0 d).now ≡ None → None ≡ owner_node (seen words)
owner_without_place [] d some none = absurd (omega (arith, some))
owner_without_place (j ∷ []) d some none = refl
owner_without_place (j ∷ k ∷ []) d some none = rw none refl
owner_without_place (j ∷ k ∷ n ∷ []) d some none = rw none refl
owner_without_place (j ∷ k ∷ n ∷ s ∷ []) d some none = rw none refl
owner_without_place (j ∷ k ∷ n ∷ s ∷ x ∷ words) d some none = refl

pub owner_without_key : (words : List (Bor (List ℕ))) (d : Bor (List ℕ)) (place : ℕ) → 1 ≤ length words → number_below (2 ^ 64) (get_or words 0 d).now ≡ Some place
    → key_behind (seen (drop 1 words)) ≡ None → None ≡ owner_node (seen words)
owner_without_key [] d place some is none = absurd (omega (arith, some))
owner_without_key (j ∷ []) d place some is none = refl
owner_without_key (j ∷ k ∷ []) d place some is none = rw (is, none) refl
owner_without_key (j ∷ k ∷ n ∷ []) d place some is none = rw (is, none) refl
owner_without_key (j ∷ k ∷ n ∷ s ∷ []) d place some is none = rw (is, none) refl
owner_without_key (j ∷ k ∷ n ∷ s ∷ x ∷ words) d place some is none = refl

pub owner_of_key : (words : List (Bor (List ℕ))) (d : Bor (List ℕ)) (place : ℕ) (key : KeyWord) → 1 ≤ length words → number_below (2 ^ 64) (get_or words 0 d).now ≡ Some place
    → key_behind (seen (drop 1 words)) ≡ Some key → Some (node.OwnerOf place key) ≡ owner_node (seen words)
owner_of_key [] d place key some is key_is = absurd (omega (arith, some))
owner_of_key (j ∷ []) d place key some is key_is = absurd (cc)
owner_of_key (j ∷ k ∷ []) d place key some is key_is = rw (is, key_is) refl
owner_of_key (j ∷ k ∷ n ∷ []) d place key some is key_is = rw (is, key_is) refl
owner_of_key (j ∷ k ∷ n ∷ s ∷ []) d place key some is key_is = rw (is, key_is) refl
owner_of_key (j ∷ k ∷ n ∷ s ∷ x ∷ words) d place key some is key_is = absurd (cc)
