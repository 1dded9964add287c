-- Lists in which each element is put before the first one that is to stand after it.
use Rattle.std.proofs.Common.{◌≡◌, ℕ, suc, ◌+◌, ◌≤◌, Bool, true, false, cond, not, List, [], ◌∷◌, ◌++◌, length, fold, refl, sym, ap, ◌∙◌, subst, Option, Some, None, arith}
use Rattle.std.specs.Prelude.{nat_lt, insert, unwrap_or}
use Rattle.std.specs.List.{position, position_or_len}
use Rattle.std.specs.List.Sorted.{IsPermutation}
use Rattle.std.proofs.lemmas.Bool.{ltb-false}
use Rattle.std.proofs.lemmas.List.{append_assoc}
use Rattle.std.proofs.lemmas.List.Sorted.{IsPermutation-append_comm, IsPermutation-append_left, IsPermutation-append_right, IsPermutation-insert, IsPermutation-refl, IsPermutation-trans}
use Rattle.dht_ids.specs.declared.peer.Peer.{Peer}
use Rattle.dht_ids.specs.Peers.{place}
use Rattle.world_model.specs.World.{with_numbered}
use Rattle.world_model.specs.Ring.{in_ring_order, with_peer}

module _ {X : Type 0} (test : X → Bool) where
  short : (xs : List X) → position_or_len test xs ≤ length xs
  short [] = omega arith
  short (x ∷ xs) = by (test x) (short xs)
    where
      by : (b : Bool) → position_or_len test xs ≤ length xs → cond (not b) (1 + position_or_len test xs) 0 ≤ suc (length xs)
      by true l = omega arith
      by false l = omega (arith, l)

  -- the place that a walk finds, or the end
  pub place_or_end : (xs : List X) → unwrap_or (position test xs) (length xs) ≡ position_or_len test xs
  place_or_end xs = by (nat_lt (position_or_len test xs) (length xs)) refl
    where
      by : (b : Bool) → nat_lt (position_or_len test xs) (length xs) ≡ b → unwrap_or (cond b (Some (position_or_len test xs)) None) (length xs) ≡ position_or_len test xs
      by true e = refl
      by false e = let most = ltb-false (position_or_len test xs) (length xs) e in let l = short xs in omega (arith, most, l)

  pub place_within : (xs : List X) → unwrap_or (position test xs) (length xs) ≤ length xs
  place_within xs = let e = place_or_end xs in let l = short xs in omega (arith, e, l)

-- such a list by its equations is one by an insertion
module _ {X : Type 0} (before : X → X → Bool) (with_one : List X → X → List X) (alone : (x : X) → with_one [] x ≡ x ∷ [])
    (among : (y : X) (ys : List X) (x : X) → with_one (y ∷ ys) x ≡ cond (before x y) (x ∷ y ∷ ys) (y ∷ with_one ys x)) where
  pub inserted : (xs : List X) (x : X) → with_one xs x ≡ insert xs (position_or_len (before x) xs) x
  inserted [] x = alone x
  inserted (y ∷ ys) x = among y ys x ∙ by (before x y) (inserted ys x)
    where
      by : (b : Bool) → with_one ys x ≡ insert ys (position_or_len (before x) ys) x → cond b (x ∷ y ∷ ys) (y ∷ with_one ys x) ≡ insert (y ∷ ys) (cond (not b) (1 + position_or_len (before x) ys) 0) x
      by true rest = refl
      by false rest = let e : 1 + position_or_len (before x) ys ≡ suc (position_or_len (before x) ys) = omega arith in ap (λ (l : List X). y ∷ l) rest ∙ ap (λ k. insert (y ∷ ys) k x) (sym e)

abbrev pub is_numbered_below : Peer → Peer → Bool
is_numbered_below p q = nat_lt p.number q.number

pub numbered_inserted : (qs : List Peer) (p : Peer) → with_numbered qs p ≡ insert qs (position_or_len (is_numbered_below p) qs) p
numbered_inserted = inserted is_numbered_below with_numbered (λ p. refl) (λ q qs p. refl)

-- the list after an insertion at the place that a walk found
pub put_by_number : (qs after : List Peer) (p : Peer) (found : Option ℕ) (k end : ℕ) → found ≡ position (is_numbered_below p) qs → end ≡ length qs → k ≡ unwrap_or found end → after ≡ insert qs k p → after ≡ with_numbered qs p
put_by_number qs after p found k end is len at e =
    let place = at ∙ (λ i. unwrap_or (is i) (len i)) ∙ place_or_end (is_numbered_below p) qs in
    e ∙ ap (λ n. insert qs n p) place ∙ sym (numbered_inserted qs p)

abbrev pub stands_below : Peer → Peer → Bool
stands_below p q = nat_lt (place p) (place q)

pub peer_inserted : (qs : List Peer) (p : Peer) → with_peer qs p ≡ insert qs (position_or_len (stands_below p) qs) p
peer_inserted = inserted stands_below with_peer (λ p. refl) (λ q qs p. refl)

pub put_by_place : (qs after : List Peer) (p : Peer) (found : Option ℕ) (k end : ℕ) → found ≡ position (stands_below p) qs → end ≡ length qs → k ≡ unwrap_or found end → after ≡ insert qs k p → after ≡ with_peer qs p
put_by_place qs after p found k end is len at e =
    let place = at ∙ (λ i. unwrap_or (is i) (len i)) ∙ place_or_end (stands_below p) qs in
    e ∙ ap (λ n. insert qs n p) place ∙ sym (peer_inserted qs p)

-- the peers in the order of their places are the peers
moved_fold : (qs ps : List Peer) → IsPermutation (ps ++ qs) (fold with_peer qs ps)
moved_fold qs [] = IsPermutation-refl qs
moved_fold qs (p ∷ ps) =
    let first : IsPermutation ((p ∷ []) ++ ps) (ps ++ (p ∷ [])) = IsPermutation-append_comm (p ∷ []) ps in
    let behind : IsPermutation ((p ∷ ps) ++ qs) ((ps ++ (p ∷ [])) ++ qs) = IsPermutation-append_left qs (p ∷ ps) (ps ++ (p ∷ [])) first in
    let joined : IsPermutation ((p ∷ ps) ++ qs) (ps ++ (p ∷ qs)) = subst (IsPermutation ((p ∷ ps) ++ qs)) (append_assoc ps (p ∷ []) qs) behind in
    let placed : IsPermutation (p ∷ qs) (with_peer qs p) = subst (IsPermutation (p ∷ qs)) (sym (peer_inserted qs p)) (IsPermutation-insert qs (position_or_len (stands_below p) qs) p) in
    IsPermutation-trans ((p ∷ ps) ++ qs) (ps ++ (p ∷ qs)) (fold with_peer (with_peer qs p) ps) joined
    (IsPermutation-trans (ps ++ (p ∷ qs)) (ps ++ with_peer qs p) (fold with_peer (with_peer qs p) ps) (IsPermutation-append_right ps (p ∷ qs) (with_peer qs p) placed) (moved_fold (with_peer qs p) ps))

pub order_moves : (ps : List Peer) → IsPermutation ps (in_ring_order ps)
order_moves ps = subst (λ l. IsPermutation l (in_ring_order ps)) (nothing_behind ps) (moved_fold [] ps)
  where
    nothing_behind : (l : List Peer) → l ++ [] ≡ l
    nothing_behind [] = refl
    nothing_behind (q ∷ l) = ap (λ (m : List Peer). q ∷ m) (nothing_behind l)
