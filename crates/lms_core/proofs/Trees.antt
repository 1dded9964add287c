-- The array of a tree's nodes.
use Rattle.std.proofs.Common.{◌≡◌, ◌≢◌, ℕ, zero, suc, ◌+◌, ◌-◌, ◌*◌, ◌^◌, ◌<◌, ◌≤◌, List, [], ◌++◌, length, set, take, refl, sym, ap, ◌∙◌, subst, arith, inl, inr, length-append}
use Rattle.std.proofs.lemmas.Bool.{cases_lt}
use Rattle.std.proofs.lemmas.List.{get_or-set_same, get_or-set_other, get_or-append-add, get_or_append_left, length-take-le}
use Rattle.hash_signature_model.specs.declared.keys.PrivateKey.{PrivateKey}
use Rattle.hash_signature_model.specs.Parameters.{levels, leaves, chains, ots_type, lms_type}
use Rattle.hash_signature_model.specs.OneTime.{u32_string, joined_values, signed_value, randomizer_of, digest_of, checked}
use Rattle.hash_signature_model.specs.Nodes.{Stands, inner_node, node, above, sibling_of}
use Rattle.hash_signature_model.specs.Signatures.{path_of, code_of, signature, signature_of}
use Rattle.hash_signature_model.proofs.Chains.{joined_same}
use Rattle.hash_signature_model.proofs.Paths.{leaves_power, above_stands, leaf_stands, beside_stands}
use Rattle.lms_core.proofs.Pieces.{six_parts_are}
use Rattle.lms_core.specs.Kept.{at, AreInner, AreLeaves, SameFrom, AreNodes, HoldsLeaves, leaf_of, path_in}

-- one more inner node is written
pub inner_step : (id : List ℕ) (nodes : List (List ℕ)) (r count : ℕ) (value : List ℕ) → 1 ≤ r → r < length nodes → value ≡ inner_node id r (at nodes (2 * r)) (at nodes (2 * r + 1)) → AreInner id (r + 1) count nodes → AreInner id r count (set nodes r value)
inner_step id nodes r count value low room is known j le lt =
    let other : (i : ℕ) → i ≢ r → at (set nodes r value) i ≡ at nodes i = λ i ne. get_or-set_other nodes r i value [] ne in
    let left : at (set nodes r value) (2 * j) ≡ at nodes (2 * j) = other (2 * j) (λ e. omega arith) in
    let right : at (set nodes r value) (2 * j + 1) ≡ at nodes (2 * j + 1) = other (2 * j + 1) (λ e. omega arith) in
    elim (cases_lt r j) [
      | inl after ↦ other j (λ e. omega arith) ∙ (known j (omega arith) lt ∙ sym (ap (λ (x : List ℕ). inner_node id j x (at (set nodes r value) (2 * j + 1))) left ∙ ap (λ (x : List ℕ). inner_node id j (at nodes (2 * j)) x) right))
      | inr here ↦
          let same : r ≡ j = omega arith in
          subst (λ (i : ℕ). at (set nodes r value) i ≡ inner_node id i (at (set nodes r value) (2 * i)) (at (set nodes r value) (2 * i + 1))) same
          (get_or-set_same nodes r value [] room ∙ (is ∙ sym (ap (λ (x : List ℕ). inner_node id r x (at (set nodes r value) (2 * r + 1))) (other (2 * r) (λ e. omega arith)) ∙ ap (λ (x : List ℕ). inner_node id r (at nodes (2 * r)) x) (other (2 * r + 1) (λ e. omega arith)))))
    ]

pub same_step : (first nodes : List (List ℕ)) (r count : ℕ) (value : List ℕ) → r < count → SameFrom count first nodes → SameFrom count first (set nodes r value)
same_step first nodes r count value lt same j le = get_or-set_other nodes r j value [] (λ e. omega arith) ∙ same j le

power_up : (n k : ℕ) → 2 ^ k ≤ 2 ^ (n + k)
power_up zero k = let e : 0 + k ≡ k = omega arith in rw e (omega arith)
power_up (suc n) k =
    let e : suc n + k ≡ suc (n + k) = omega arith in
    let power : 2 ^ suc (n + k) ≡ 2 * 2 ^ (n + k) = grind arith in
    rw e (omega (arith, power, power_up n k))

-- an array in which each inner node comes from the two below it holds the tree's nodes
module _ (g : PrivateKey) (nodes : List (List ℕ)) (size : length nodes ≡ 2 * leaves g.set.h)
    (leaf : HoldsLeaves g nodes)
    (inner : AreInner g.id 1 (leaves g.set.h) nodes) where
  known : (n k r : ℕ) → n + k ≡ levels g.set.h → Stands r k → at nodes r ≡ node g.set g.id g.seed n r
  unfolding node
  known zero k r e s =
      let f : k ≡ levels g.set.h = omega arith in
      let power : leaves g.set.h ≡ 2 ^ k = leaves_power g.set.h ∙ ap (λ (i : ℕ). 2 ^ i) (sym f) in
      let low = s.low in
      let high = s.high in
      let back : leaves g.set.h + (r - leaves g.set.h) ≡ r = omega arith in
      rw back at (leaf (r - leaves g.set.h) (omega arith))
  known (suc n) k r e s =
      let power : leaves g.set.h ≡ 2 ^ (n + suc k) = leaves_power g.set.h ∙ ap (λ (i : ℕ). 2 ^ i) (let f : levels g.set.h ≡ n + suc k = omega arith in f) in
      let up = power_up n (suc k) in
      let one = power_up k 0 in
      let unit : k + 0 ≡ k = omega arith in
      let pos : 2 ^ 0 ≤ 2 ^ k = rw unit at one in
      let double : 2 ^ suc k ≡ 2 * 2 ^ k = grind arith in
      let low = s.low in
      let high = s.high in
      let left = known n (suc k) (2 * r) (omega arith) (record { low = omega arith; high = omega arith }) in
      let right = known n (suc k) (2 * r + 1) (omega arith) (record { low = omega arith; high = omega arith }) in
      inner r (omega arith) (omega arith) ∙ (ap (λ (x : List ℕ). inner_node g.id r x (at nodes (2 * r + 1))) left ∙ ap (λ (x : List ℕ). inner_node g.id r (node g.set g.id g.seed n (2 * r)) x) right)

  pub nodes_known : AreNodes g nodes
  nodes_known = record { size = size; known = known }

-- what stands in a part of the array
pub at_part : (xs out rest : List (List ℕ)) (count k : ℕ) → count ≤ length xs → k < length out → at (take count xs ++ (out ++ rest)) (count + k) ≡ at out k
at_part xs out rest count k room lt =
    let len = length-take-le count xs room in
    let there = get_or-append-add (take count xs) (out ++ rest) k [] in
    (rw len at there) ∙ get_or_append_left out rest [] k lt

-- the array's path is the tree's
pub path_is : (g : PrivateKey) (nodes : List (List ℕ)) (leaf : ℕ) → AreNodes g nodes → leaf < leaves g.set.h → joined_values (path_in nodes g.set.h leaf) (levels g.set.h) ≡ path_of g leaf
path_is g nodes leaf all lt = joined_same (path_in nodes g.set.h leaf) (λ n. node g.set g.id g.seed n (sibling_of (above (leaves g.set.h + leaf) n))) (levels g.set.h)
    (λ n below.
    let k = levels g.set.h - n - 1 in
    let e : n + suc k ≡ levels g.set.h = omega arith in
    let start = leaf_stands g.set.h leaf lt in
    let stands = above_stands (leaves g.set.h + leaf) n (suc k) (subst (λ (i : ℕ). Stands (leaves g.set.h + leaf) i) (sym e) start) in
    all.known n (suc k) (sibling_of (above (leaves g.set.h + leaf) n)) e (beside_stands (above (leaves g.set.h + leaf) n) k stands))

-- the bytes that are put together are the tree's signature
pub signature_is : (g : PrivateKey) (nodes : List (List ℕ)) (leaf : ℕ) (message randomizer digest code : List ℕ) → AreNodes g nodes → leaf < leaves g.set.h
    → randomizer ≡ randomizer_of g.id g.seed leaf → digest ≡ digest_of g.id leaf randomizer message → code ≡ checked g.set.w digest
    → signature g.set (record { leaf = leaf; randomizer = randomizer; values = joined_values (signed_value g.set.w g.id g.seed leaf code) (chains g.set.w); path = joined_values (path_in nodes g.set.h leaf) (levels g.set.h) }) ≡ signature g.set (signature_of g leaf message)
signature_is g nodes leaf message randomizer digest code all lt random hashed checks =
    let coded : code ≡ code_of g leaf message = checks ∙ ap (checked g.set.w) (hashed ∙ ap (λ (r : List ℕ). digest_of g.id leaf r message) random) in
    six_parts_are (u32_string leaf) (u32_string leaf) (u32_string (ots_type g.set.w)) (u32_string (ots_type g.set.w)) randomizer (randomizer_of g.id g.seed leaf)
    (joined_values (signed_value g.set.w g.id g.seed leaf code) (chains g.set.w)) (joined_values (signed_value g.set.w g.id g.seed leaf (code_of g leaf message)) (chains g.set.w))
    (u32_string (lms_type g.set.h)) (u32_string (lms_type g.set.h)) (joined_values (path_in nodes g.set.h leaf) (levels g.set.h)) (path_of g leaf)
    refl refl random (ap (λ (x : List ℕ). joined_values (signed_value g.set.w g.id g.seed leaf x) (chains g.set.w)) coded) refl (path_is g nodes leaf all lt)

-- the leaves' nodes in an array that is put together of its upper half and two halves of the leaves' nodes
pub halves_are : (key : PrivateKey) (front left right : List (List ℕ)) (count : ℕ) → length front ≡ count → 2 * length left ≡ count → 2 * length right ≡ count → count ≡ leaves key.set.h
    → AreLeaves key 0 left (length left) → AreLeaves key (length left) right (length right)
    → (k : ℕ) → k < leaves key.set.h → at (front ++ left ++ right) (leaves key.set.h + k) ≡ leaf_of key k
halves_are key front left right count lf ll lr e first second k lt =
    elim (cases_lt k (length left)) [
      | inl low ↦
          let place : leaves key.set.h + k ≡ length front + k = omega arith in
          let none : 0 + k ≡ k = omega arith in
          let inside : length front + k < length (front ++ left) = omega (arith, length-append front left) in
          let there = get_or_append_left (front ++ left) right [] (length front + k) inside ∙ (get_or-append-add front left k [] ∙ rw none at (first k low)) in
          ap (λ (n : ℕ). at (front ++ left ++ right) n) place ∙ there
      | inr high ↦
          let j = k - length left in
          let place : leaves key.set.h + k ≡ length (front ++ left) + j = omega (arith, length-append front left) in
          let back : length left + j ≡ k = omega arith in
          let there = get_or-append-add (front ++ left) right j [] ∙ rw back at (second j (omega arith)) in
          ap (λ (n : ℕ). at (front ++ left ++ right) n) place ∙ there
    ]
