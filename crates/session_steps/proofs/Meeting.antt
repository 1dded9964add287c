-- What is met with a further block, and with the blocks of posts.
use Rattle.std.proofs.Common.{◌≡◌, ◌⊎◌, inl, inr, ℕ, zero, suc, ◌+◌, ◌<◌, Bool, true, false, cond, List, [], ◌∷◌, ◌++◌, map, take, get_or, length, length-append, Option, Some, None, is_some, refl, sym, ap, ◌∙◌, subst}
use Rattle.std.specs.List.{fold, slice_get}
use Rattle.std.specs.Str.{bytes_eq}
use Rattle.std.specs.Ordering.{is_eq, nat_cmp}
use Rattle.std.specs.Cmp.Lexicographic.{slice_cmp}
use Rattle.std.specs.Map.{lookup}
use Rattle.std.specs.BTreeMap.{insert_entry}
use Rattle.std.proofs.lemmas.Bool.{cond-true, cond-false}
use Rattle.std.proofs.lemmas.List.{length-map}
use Rattle.std.proofs.lemmas.List.Sums.{fold_more, sum_by_push}
use Rattle.std.proofs.lemmas.Option.{get_or_from_slice_get, slice_get_read, slice_get_within}
use Rattle.std.proofs.lemmas.Slice.Eq.{bytes_eq-Decides}
use Rattle.dht_ids.specs.declared.post.Post.{Post}
use Rattle.world_model.specs.World.{meets}
use Rattle.world_model.specs.Steps.{met_by}
use Rattle.session_steps.specs.MetState.{MetState, AreMet, place_in}
use Rattle.session_steps.proofs.Members.{contains_has, found, has, has_contains, in_order, put_at_key, same_answer, seen}

-- no block is met by nobody
pub nothing_met : (s : MetState) → s.places ≡ [] → s.bytes ≡ 0 → AreMet [] s
nothing_met s none no_bytes = record {
  placed = λ b q. (
    λ h. (let e : None ≡ Some q = sym (ap (λ l. place_in l b) none) ∙ h in absurd (cc e)),
    λ h. (let e : None ≡ Some b = h in absurd (cc e)),
  );
  as_many = sym (ap (λ (l : List (List ℕ × ℕ)). length l) none);
  as_long = sym no_bytes;
}

-- ---- one block more in a list

there : (o : Option ℕ) → is_some o ≡ true → (q : ℕ) × (o ≡ Some q)
there None h = absurd (cc h)
there (Some q) h = (q, refl)

inside : (b c : List ℕ) → Some b ≡ Some c → b ≡ c
inside b c h = cc h

number : (n q : ℕ) → Some n ≡ Some q → n ≡ q
number n q h = cc h

pushed : (met : List (List ℕ)) (b : List ℕ) → slice_get (met ++ b ∷ []) (length met) ≡ Some b
pushed [] b = refl
pushed (m ∷ met) b = pushed met b

stays_at : (met : List (List ℕ)) (b : List ℕ) (q : ℕ) (x : List ℕ) → slice_get met q ≡ Some x → slice_get (met ++ b ∷ []) q ≡ Some x
stays_at [] b q x h = absurd (cc h)
stays_at (m ∷ met) b zero x h = h
stays_at (m ∷ met) b (suc q) x h = stays_at met b q x h

old_or_pushed : (met : List (List ℕ)) (b : List ℕ) (q : ℕ) (x : List ℕ) → slice_get (met ++ b ∷ []) q ≡ Some x → (slice_get met q ≡ Some x) ⊎ ((length met ≡ q) × (b ≡ x))
old_or_pushed [] b zero x h = inr (refl, inside b x h)
old_or_pushed [] b (suc q) x h = absurd (cc h)
old_or_pushed (m ∷ met) b zero x h = inl h
old_or_pushed (m ∷ met) b (suc q) x h = elim (old_or_pushed met b q x h) [
  | inl old ↦ inl old
  | inr new ↦ inr (ap suc new.0, new.1)
]

module _ (met : List (List ℕ)) (s : MetState) (are : AreMet met s) where
  pub same_has : (b : List ℕ) → has met b ≡ is_some (place_in s.places b)
  same_has b = same_answer (has met b) (is_some (place_in s.places b))
      (λ h. let c = has_contains met b h in ap (λ (o : Option ℕ). is_some o) ((are.placed b c.0).1 (slice_get_read met (length met) c.0 b refl c.1 (sym c.2))))
      (λ h. let q = there (place_in s.places b) h in let at = (are.placed b q.0).0 q.1 in contains_has met b (q.0, slice_get_within met q.0 b at, get_or_from_slice_get met q.0 b b at))

  -- a block that was met stays one
  pub met_again : (b : List ℕ) → is_some (place_in s.places b) ≡ true → AreMet (meets met b) s
  met_again b h = subst (λ l. AreMet l s) (sym (cond-true (has met b) met (met ++ b ∷ []) (same_has b ∙ h))) are

  module _ (next : MetState) (b : List ℕ) (new : is_some (place_in s.places b) ≡ false) (n : ℕ) (size : n ≡ length s.places)
      (put : (q : List ℕ) → place_in next.places q ≡ cond (bytes_eq q b) (Some n) (place_in s.places q)) (one_more : length next.places ≡ length s.places + 1) (more : next.bytes ≡ s.bytes + length b) where
    stands : (x : List ℕ) (q : ℕ) → place_in next.places x ≡ Some q → slice_get (met ++ b ∷ []) q ≡ Some x
    stands x q h = by (bytes_eq x b) refl (sym (put x) ∙ h)
      where
        by : (t : Bool) → bytes_eq x b ≡ t → cond t (Some n) (place_in s.places x) ≡ Some q → slice_get (met ++ b ∷ []) q ≡ Some x
        by true e at = subst (λ (i : ℕ). slice_get (met ++ b ∷ []) i ≡ Some b) (are.as_many ∙ sym size ∙ number n q at) (pushed met b) ∙ ap Some (sym ((bytes_eq-Decides x b).0 e))
        by false e at = stays_at met b q x ((are.placed x q).0 at)

    is_placed : (x : List ℕ) (q : ℕ) → slice_get (met ++ b ∷ []) q ≡ Some x → place_in next.places x ≡ Some q
    is_placed x q h = put x ∙ elim (old_or_pushed met b q x h) [
      | inl old ↦ by_old (bytes_eq x b) refl ((are.placed x q).1 old)
      | inr last ↦ ap (λ t. cond t (Some n) (place_in s.places x)) ((bytes_eq-Decides x b).1 (sym last.1)) ∙ ap Some (size ∙ sym are.as_many ∙ last.0)
    ]
      where
        by_old : (t : Bool) → bytes_eq x b ≡ t → place_in s.places x ≡ Some q → cond t (Some n) (place_in s.places x) ≡ Some q
        by_old true e at = (let no : true ≡ false = sym (ap (λ (o : Option ℕ). is_some o) at) ∙ ap (λ (y : List ℕ). is_some (place_in s.places y)) ((bytes_eq-Decides x b).0 e) ∙ new in absurd (cc no))
        by_old false e at = at

    with_new : AreMet (met ++ b ∷ []) next
    with_new = record {
      placed = λ x q. (stands x q, is_placed x q);
      as_many = length-append met (b ∷ []) ∙ ap (λ i. i + 1) are.as_many ∙ sym one_more;
      as_long = sum_by_push (λ l. length l) met b ∙ ap (λ i. i + length b) are.as_long ∙ sym more;
    }

    -- a new one is one more
    pub met_anew : AreMet (meets met b) next
    met_anew = subst (λ l. AreMet l next) (sym (cond-false (has met b) met (met ++ b ∷ []) (same_has b ∙ new))) with_new

-- ---- posts

-- the blocks of one post more
pub met_more : (met : List (List ℕ)) (posts : List Post) (i : ℕ) (d : Post) → i < length posts → met_by met (take (i + 1) posts) ≡ meets (met_by met (take i posts)) (get_or posts i d).bytes
met_more met posts i d within = one (take (i + 1) posts) ∙ fold_more (λ m (p : Post). meets m p.bytes) met posts i d within ∙ ap (λ m. meets m (get_or posts i d).bytes) (sym (one (take i posts)))
  where
    by : (m : List (List ℕ)) (ps : List Post) → fold meets m (map (λ (p : Post). p.bytes) ps) ≡ fold (λ n (p : Post). meets n p.bytes) m ps
    by m [] = refl
    by m (p ∷ ps) = by (meets m p.bytes) ps

    one : (ps : List Post) → met_by met ps ≡ fold (λ n (p : Post). meets n p.bytes) met ps
    one ps = by met ps

-- ---- a map by order

module _ {V : Type 0} (bytes : V → List ℕ) (entries : List (V × ℕ)) (n : ℕ) (b : List ℕ) (s : MetState) (is : record { places = seen bytes entries; bytes = n } ≡ s) (answer : Bool)
    (look : answer ≡ is_some (lookup (λ k. is_eq (slice_cmp nat_cmp b (bytes k))) entries)) where
  looked : answer ≡ is_some (place_in s.places b)
  looked = look ∙ ap (λ (o : Option ℕ). is_some o) (found bytes b entries) ∙ ap (λ (t : MetState). is_some (place_in t.places b)) is

  -- it is there
  pub found_met : answer ≡ true → (met : List (List ℕ)) → AreMet met s → AreMet (meets met b) s
  found_met there met are = met_again met s are b (sym looked ∙ there)

  -- it is put there
  pub put_met : answer ≡ false → (key : V) → bytes key ≡ b → (place : ℕ) → place ≡ length entries → (after : List (V × ℕ)) → after ≡ insert_entry (in_order bytes) entries key place
      → (m : ℕ) → m ≡ n + length b → (met : List (List ℕ)) → AreMet met s → AreMet (meets met b) (record { places = seen bytes after; bytes = m })
  put_met new key copied place size after put m more met are =
      let absent : is_some (place_in (seen bytes entries) (bytes key)) ≡ false = ap (λ (x : List ℕ). is_some (place_in (seen bytes entries) x)) copied ∙ ap (λ (t : MetState). is_some (place_in t.places b)) is ∙ sym looked ∙ new in
      let one = put_at_key bytes key place entries absent in
      met_anew met s are (record { places = seen bytes after; bytes = m }) b (sym looked ∙ new) place
      (size ∙ sym (length-map _ _) ∙ ap (λ (t : MetState). length t.places) is)
      (λ q. ap (λ l. place_in (seen bytes l) q) put ∙ one.0 q ∙ (λ i. cond (bytes_eq q (copied i)) (Some place) (place_in (is i).places q)))
      (ap (λ l. length (seen bytes l)) put ∙ one.1 ∙ ap (λ (t : MetState). length t.places + 1) is)
      (more ∙ ap (λ (t : MetState). t.bytes + length b) is)
