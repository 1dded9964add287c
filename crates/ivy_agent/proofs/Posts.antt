-- Posts: which are acknowledged, and how many bytes they take.
use Rattle.std.proofs.Common.{◌≡◌, ℕ, ◌+◌, ◌<◌, ◌≤◌, Bool, true, false, List, [], ◌∷◌, ◌++◌, length, take, get_or, refl, ap, ◌∙◌, arith, ◌&&◌, ◌||◌, length-append}
use Rattle.std.specs.List.{list_any, flat_map}
use Rattle.std.proofs.lemmas.List.{take_more}
use Rattle.std.proofs.lemmas.List.Concat.{flat_map-append}
use Rattle.std.proofs.lemmas.List.Folds.{length-flat_map-take}
use Rattle.ivy_base.specs.declared.key.Key.{Key}
use Rattle.wire_model.specs.Xdr.{word, array}
use Rattle.tree_model.specs.Tree.{same_key}
use Rattle.dht_ids.specs.declared.post.Ack.{Ack}
use Rattle.dht_ids.specs.declared.post.Post.{Post}
use Rattle.agent_model.specs.SavedBytes.{post_bytes}

none_in : (b c : Bool) (has named : Bool) → (b || has) ≡ false → (has ≡ false → named ≡ false) → ((b && c) || named) ≡ false
none_in true c has named h rest = absurd (cc h)
none_in false c has named h rest = rest h

-- what has no such key has none with a name
pub none_of : (key name : Key) (acks : List Ack) → list_any (λ ack. same_key ack.key key) acks ≡ false → list_any (λ ack. same_key ack.key key && same_key ack.name name) acks ≡ false
none_of key name [] h = refl
none_of key name (ack ∷ acks) h = none_in (same_key ack.key key) (same_key ack.name name) (list_any (λ a. same_key a.key key) acks) (list_any (λ a. same_key a.key key && same_key a.name name) acks) h (none_of key name acks)

module _ (posts : List Post) (i : ℕ) (item : Post) (within : i < length posts) (is : item ≡ get_or posts i item) where
  -- with the next post
  pub one_more : (m n k : ℕ) → m ≡ 4 + length (flat_map post_bytes (take i posts)) → n ≡ length (post_bytes item) → k ≡ m + n → k ≡ 4 + length (flat_map post_bytes (take (i + 1) posts))
  one_more m n k so_far size sum =
      let next = get_or posts i item in
      let last : length (post_bytes item) ≡ length (post_bytes next) = ap (λ p. length (post_bytes p)) is in
      let parts : length (flat_map post_bytes (take (i + 1) posts)) ≡ length (flat_map post_bytes (take i posts) ++ flat_map post_bytes (next ∷ [])) =
      ap (λ ps. length (flat_map post_bytes ps)) (take_more posts i item within) ∙ ap length (flat_map-append post_bytes (take i posts) (next ∷ [])) in
      omega (arith, so_far, size, sum, last, parts, length-append (flat_map post_bytes (take i posts)) (flat_map post_bytes (next ∷ [])), length-append (post_bytes next) [])

  -- where there is room for all, there is for the next
  pub room_for_one : (spare first old : ℕ) → spare + length (flat_map post_bytes (take i posts)) ≡ first → first + 4 ≡ old → length (array post_bytes posts) ≤ old → length (post_bytes item) ≤ spare
  room_for_one spare first old so_far before room =
      let last : length (post_bytes item) ≡ length (post_bytes (get_or posts i item)) = ap (λ p. length (post_bytes p)) is in
      omega (arith, so_far, before, room, last, length-append (word (length posts)) (flat_map post_bytes posts), length-flat_map-take post_bytes posts i item within)
