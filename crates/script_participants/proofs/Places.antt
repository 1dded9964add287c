-- A participant in another's place, among participants of which no two have one name.
use Rattle.std.proofs.Common.{◌≡◌, ℕ, zero, suc, ◌+◌, arith, Bool, true, false, cond, List, [], ◌∷◌, length, map, set, refl, sym, ap, ◌∙◌, subst, Some, None}
use Rattle.std.specs.Prelude.{nat_lt, not}
use Rattle.std.specs.List.{AllByRecursion, position, position_or_len}
use Rattle.std.specs.Str.{bytes_eq}
use Rattle.std.proofs.lemmas.Slice.Eq.{bytes_eq-Decides}
use Rattle.world_model.specs.World.{World, Participant, with_participant}
use Rattle.script_participants.specs.ParticipantState.{ParticipantState, AreNamedApart, HasParticipants, state_of}

-- whether the participant has that name
abbrev is_named : List ℕ → ParticipantState → Bool
is_named name p = bytes_eq p.name name

index_of : (k l i : ℕ) → cond (nat_lt k l) (Some k) None ≡ Some i → k ≡ i
index_of k l i e = by (nat_lt k l) e
  where
    by : (t : Bool) → cond t (Some k) None ≡ Some i → k ≡ i
    by true e = cc
    by false e = absurd cc

module _ (p : Participant) (name : List ℕ) where
  abbrev exchanged : Participant → Participant
  exchanged q = cond (bytes_eq q.name name) p q

  -- the others of that name stay
  others_stay : (ps : List Participant) (own : List ℕ) → bytes_eq own name ≡ true → AllByRecursion (λ (q : ParticipantState). bytes_eq q.name own ≡ false) (map state_of ps) → map state_of (map exchanged ps) ≡ map state_of ps
  others_stay [] own is apart = refl
  others_stay (q ∷ ps) own is apart =
      let other : bytes_eq q.name name ≡ false = subst (λ l. bytes_eq q.name l ≡ false) ((bytes_eq-Decides own name).0 is) apart.0 in
      λ i. state_of (cond (other i) p q) ∷ others_stay ps own is apart.1 i

  abbrev place : List Participant → ℕ
  place ps = position_or_len (is_named name) (map state_of ps)

  exchanged_is : (ps : List Participant) → AreNamedApart (map state_of ps) → map state_of (map exchanged ps) ≡ set (map state_of ps) (place ps) (state_of p)
  exchanged_is [] apart = refl
  exchanged_is (q ∷ ps) apart = by (bytes_eq q.name name) (λ is. others_stay ps q.name is apart.0) (exchanged_is ps apart.1)
    where
      by : (t : Bool) → (t ≡ true → map state_of (map exchanged ps) ≡ map state_of ps) → map state_of (map exchanged ps) ≡ set (map state_of ps) (place ps) (state_of p)
          → state_of (cond t p q) ∷ map state_of (map exchanged ps) ≡ set (state_of q ∷ map state_of ps) (cond (not t) (1 + place ps) zero) (state_of p)
      by true stay rest = λ j. state_of p ∷ stay refl j
      by false stay rest = (λ j. state_of q ∷ rest j) ∙ ap (λ k. set (state_of q ∷ map state_of ps) k (state_of p)) next
        where
          next : suc (place ps) ≡ 1 + place ps
          next = omega arith

-- the world with the participant in place of the one of its name
pub changed_has : (w : World) (ps : List ParticipantState) (i : ℕ) (p : Participant) → HasParticipants w ps → AreNamedApart ps → position (λ q. bytes_eq q.name p.name) ps ≡ Some i → HasParticipants (with_participant w p) (set ps i (state_of p))
changed_has w ps i p has apart at =
    exchanged_is p p.name w.participants (subst AreNamedApart (sym has) apart)
    ∙ (λ j. set (has j) (position_or_len (is_named p.name) (has j)) (state_of p))
    ∙ ap (λ k. set ps k (state_of p)) (index_of (position_or_len (is_named p.name) ps) (length ps) i at)
