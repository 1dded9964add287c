-- The owners, each once.
use Rattle.std.proofs.Common.{◌≡◌, ℕ, ◌+◌, ◌<◌, ◌≤◌, nat_eq, Bool, true, false, MatchBool, List, [], ◌∷◌, ◌++◌, length, length-drop, get_or, take, drop, reverse, refl, ap, sym, ◌∙◌, subst, inr, arith}
use Rattle.std.proofs.lemmas.Bool.{eqb-true, eq-eqb, true≢false}
use Rattle.std.proofs.lemmas.List.{take_more, nil_from_length}
use Rattle.dht_ids.specs.declared.peer.Peer.{Peer}
use Rattle.ring_model.specs.Members.{IsAmong}
use Rattle.ring_model.specs.Gets.{AreFirsts}
use Rattle.ring_model.specs.Gets.AreFirsts.{none}
use Rattle.ring_model.proofs.Gets.{firsts_again, firsts_new}
use Rattle.dhash_client.proofs.Asks.{among_reverse, among_reversed}

pub once_begins : (xs once : List Peer) → once ≡ [] → AreFirsts [] (take 0 xs) once
once_begins xs once e = subst (λ l. AreFirsts [] [] l) (sym e) none

pub once_again : (xs once seen once2 : List Peer) (i : ℕ) (d : Peer) → i < length xs → seen ≡ once → AreFirsts [] (take i xs) once → IsAmong (get_or xs i d) (reverse seen) → once2 ≡ once → AreFirsts [] (take (i + 1) xs) once2
once_again xs once seen once2 i d below e f h e2 =
    subst (λ l. AreFirsts [] l once2) (sym (take_more xs i d below)) (subst (λ l. AreFirsts [] (take i xs ++ get_or xs i d ∷ []) l) (sym e2)
    (firsts_again [] (take i xs) once (get_or xs i d) f (inr (among_reversed (get_or xs i d) once (subst (λ l. IsAmong (get_or xs i d) (reverse l)) e h)))))

pub once_new : (xs once seen once2 : List Peer) (i : ℕ) (d : Peer) → i < length xs → seen ≡ once → AreFirsts [] (take i xs) once → (IsAmong (get_or xs i d) (reverse seen) → ⊥) → once2 ≡ once ++ get_or xs i d ∷ [] → AreFirsts [] (take (i + 1) xs) once2
once_new xs once seen once2 i d below e f h e2 =
    subst (λ l. AreFirsts [] l once2) (sym (take_more xs i d below)) (subst (λ l. AreFirsts [] (take i xs ++ get_or xs i d ∷ []) l) (sym e2)
    (firsts_new [] (take i xs) once (get_or xs i d) f (λ n. n) (λ a. h (subst (λ l. IsAmong (get_or xs i d) (reverse l)) (sym e) (among_reverse (get_or xs i d) once a)))))

-- no owner is left where all were passed
pub through : (xs : List Peer) (at n : ℕ) → at ≤ length xs → n ≡ length xs → MatchBool (nat_eq at n) (drop at xs ≡ []) (drop at xs ≡ [] → ⊥)
through xs at n within e = by_test (nat_eq at n) refl
  where
    by_test : (b : Bool) → nat_eq at n ≡ b → MatchBool b (drop at xs ≡ []) (drop at xs ≡ [] → ⊥)
    by_test true h = nil_from_length (drop at xs) (length-drop at xs ∙ omega (arith, eqb-true at n h, e))
    by_test false h = λ none. true≢false (sym (eq-eqb at n (omega (arith, within, e, length-drop at xs, ap (λ l. length l) none))) ∙ h)
