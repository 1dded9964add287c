-- The peers from a key on.
use Rattle.std.proofs.Common.{◌≡◌, ℕ, ◌≤◌, Bool, true, false, not, List, ◌++◌, length, take, filter, refl, ap, ◌∙◌, arith}
use Rattle.std.specs.Prelude.{nat_le, nat_lt}
use Rattle.std.proofs.lemmas.Bool.{ltb-true, ltb-false, leb-true, le-leb}
use Rattle.std.proofs.lemmas.List.{take_all}
use Rattle.ring_model.specs.Members.{from_place}
use Rattle.dht_ids.specs.declared.peer.Peer.{Peer}
use Rattle.dht_ids.specs.Peers.{place}

behind_is : (a b : ℕ) → not (nat_lt a b) ≡ nat_le b a
behind_is a b = by (nat_lt a b) (nat_le b a) refl refl
  where
    by : (t u : Bool) → nat_lt a b ≡ t → nat_le b a ≡ u → not t ≡ u
    by true true e f = let l = ltb-true a b e in let m = leb-true b a f in absurd (omega (arith, l, m))
    by true false e f = refl
    by false true e f = refl
    by false false e f = let l = ltb-false a b e in let t = le-leb b a l in absurd cc

whole : {X : Type 0} (xs : List X) (i : ℕ) → length xs ≤ i → take i xs ≡ xs
whole xs i l = take_all i xs l

pub from_is : (live items : List Peer) (key i : ℕ) → items ≡ filter (λ m. not (nat_lt (place m) key)) live ++ filter (λ m. nat_lt (place m) key) (take i live) → length live ≤ i → items ≡ from_place place live key
from_is live items key i is past =
    is
    ∙ ap (λ l. filter (λ m. not (nat_lt (place m) key)) live ++ filter (λ m. nat_lt (place m) key) l) (whole live i past)
    ∙ (λ k. filter (λ m. behind_is (place m) key k) live ++ filter (λ m. nat_lt (place m) key) live)
