-- A round makes the lists of a ring right again, after stops and after a join.
use Rattle.std.proofs.Common.{◌≡◌, ℕ, ◌*◌, ◌<◌, ◌≤◌, Bool, true, not, List, [], ◌∷◌, length, take, filter, Option, Some, None, sym, ap, ◌∙◌, subst, arith, ⊎_elim, length-take}
use Rattle.std.specs.List.{AllByRecursion}
use Rattle.std.proofs.lemmas.Bool.{cases_Bool, cond-true, cond-false}
use Rattle.std.proofs.lemmas.List.{take_all}
use Rattle.ring_model.specs.Members.{IsAmong, first, HasAscendingPlaces, following, from_place, is_other}
use Rattle.ring_model.specs.Ring.{Links, IsCovered, IsCoveredRing}
use Rattle.ring_model.specs.Route.{Route}
use Rattle.ring_model.specs.Lookup.{IsLookup, IsFate, AreNames}
use Rattle.ring_model.specs.Round.{living_before, AreListsRenewed}
use Rattle.ring_model.proofs.Lists.{all-among, all_from, filter_gives, some_same, none_some, take_first}
use Rattle.ring_model.proofs.Members.{ascending_filter}
use Rattle.ring_model.proofs.Lookups.{lookup_ends}
use Rattle.ring_model.proofs.Passes.{passes_make_right, fingers_kept}
use Rattle.ring_model.proofs.Starts.{covered_after_stops, sound_after_stops, covered_right, owners_part_right, from_place_new, sound_after_join}

pub living_is : {A : Type 0} (lives : A → Bool) (o : Option A) (b : A) → living_before lives o ≡ Some b → lives b ≡ true
living_is lives None b e = absurd (none_some b e)
living_is lives (Some c) b e =
    ⊎_elim
    (λ t. subst (λ z. lives z ≡ true) (some_same c b (sym (cond-true (lives c) (Some c) None t) ∙ e)) t)
    (λ f. absurd (none_some b (sym (cond-false (lives c) (Some c) None f) ∙ e)))
    (cases_Bool (lives c))

module _ {A : Type 0} (place : A → ℕ) (r : ℕ) (pos : 1 ≤ r) (lives : A → Bool) where
  -- after parts 1 and 2 of a round that follows fewer than r stops the lists are right, and the fingers as before
  pub round_after_stops : (before : List A) (ns : List A) (old new : A → Links A) → HasAscendingPlaces place before → ((m : A) → lives m ≡ true → IsAmong m (filter lives before)) → length (filter (λ m. not (lives m)) before) < r
      → ((m : A) → IsAmong m (filter lives before) → (old m).list ≡ take (2 * r) (following place before m))
      → ((m : A) → IsAmong m ns → IsAmong m (filter lives before)) → ((m : A) → IsAmong m (filter lives before) → IsAmong m ns) → AreListsRenewed place r lives ns old new
      → (m : A) → IsAmong m (filter lives before) → ((new m).list ≡ take (2 * r) (following place (filter lives before) m)) × ((new m).fingers ≡ (old m).fingers)
  round_after_stops before ns old new asc living few right f g round m lm =
      let live : List A = filter lives before in
      let asc2 : HasAscendingPlaces place live = ascending_filter place lives before asc in
      let all : (z : A) → IsAmong z live → lives z ≡ true = λ z i. all-among (λ y. lives y ≡ true) z live (filter_gives lives (λ y. lives y ≡ true) before (all_from (λ y. lives y ≡ true → lives y ≡ true) before (λ y j t. t))) i in
      let sound = sound_after_stops place r pos live lives asc2 all m lm round.mid
      (λ z b lz e. living b (living_is lives (old z).before b (sym (round.forgotten.before z (all z lz)) ∙ e)))
      (λ z lz. subst (IsCovered place r live lives z) (sym (round.forgotten.list z)) (covered_after_stops place r before lives z (old z).list few (right z lz))) in (
        passes_make_right place r pos live lives asc2 all m lm ns round.mid new round.passes f g sound
            (λ z lz. subst (λ l. length l ≤ 2 * r) (sym (round.forgotten.list z ∙ right z lz)) (short (following place before z))) m lm,
        fingers_kept place r pos live lives asc2 all m lm round.passes f sound m lm ∙ round.forgotten.fingers m,
      )
    where
      short : (l : List A) → length (take (2 * r) l) ≤ 2 * r
      short l = omega (arith, length-take (2 * r) l)

  -- and so after parts 1 and 2 of a round that follows the join of x
  pub round_after_join : (live : List A) (x : A) (ns : List A) (old new : A → Links A) → HasAscendingPlaces place live → ((m : A) → lives m ≡ true → IsAmong m live) → ((m : A) → IsAmong m live → lives m ≡ true) → IsAmong x live
      → (old x).list ≡ take (2 * r) (following place live x) → ((m : A) → IsAmong m live → (place m ≡ place x → ⊥) → (old m).list ≡ take (2 * r) (following place (filter (is_other place x) live) m))
      → ((m : A) → IsAmong m ns → IsAmong m live) → ((m : A) → IsAmong m live → IsAmong m ns) → AreListsRenewed place r lives ns old new
      → ((m : A) → IsAmong m live → length (old m).list ≤ 2 * r)
      → (m : A) → IsAmong m live → ((new m).list ≡ take (2 * r) (following place live m)) × ((new m).fingers ≡ (old m).fingers)
  round_after_join live x ns old new asc living all lx own others f g round short m lm =
      let sound = sound_after_join place r pos live lives asc all x lx round.mid
      (λ z b lz e. living b (living_is lives (old z).before b (sym (round.forgotten.before z (all z lz)) ∙ e)))
      (round.forgotten.list x ∙ own)
      (λ z lz d. round.forgotten.list z ∙ others z lz d) in (
        passes_make_right place r pos live lives asc all x lx ns round.mid new round.passes f g sound
            (λ z lz. subst (λ l. length l ≤ 2 * r) (sym (round.forgotten.list z)) (short z lz)) m lm,
        fingers_kept place r pos live lives asc all x lx round.passes f sound m lm ∙ round.forgotten.fingers m,
      )

  -- where the lists are right, a look-up gives the next 2r members from the key on: so a joining node's list and each finger come out right
  pub lookup_right : (live : List A) (ring : A → Links A) (key : ℕ) (entries names : List A) (trail : List (A × Option (Route A))) (found : Option (List A)) → HasAscendingPlaces place live → ((m : A) → lives m ≡ true → IsAmong m live) → ((m : A) → IsAmong m live → lives m ≡ true)
      → ((m : A) → IsAmong m live → (ring m).list ≡ take (2 * r) (following place live m)) → AreNames live ring entries names → AllByRecursion (IsFate place r lives ring key) trail → (e : A) → lives e ≡ true → IsAmong e entries
      → IsLookup [] None entries trail found → found ≡ Some (take (2 * r) (from_place place live key))
  lookup_right live ring key entries names trail found asc living all right n fates e le ie k =
      let c : IsCoveredRing place r live lives ring = record { positive = pos; ascending = asc; living = living; lives_all = all; covered = λ m lm. covered_right place r live lives m (ring m).list all (right m lm) } in
      let h = lookup_ends place r live lives ring key entries names trail found c n fates e le ie k in
      h.found_is ∙ ap (λ l. Some l) (owners_part_right place r live lives h.node (ring h.node).list key pos asc h.here all (right h.node h.here) h.quiet)

  -- the first node of such a look-up for a finger's start is the finger
  pub finger_right : (live : List A) (key : ℕ) (last : List A) → Some last ≡ Some (take (2 * r) (from_place place live key)) → first last ≡ first (from_place place live key)
  finger_right live key last e = ap first (some_same last (take (2 * r) (from_place place live key)) e) ∙ by (from_place place live key)
    where
      by : (l : List A) → first (take (2 * r) l) ≡ first l
      by [] = ap first (take_all (2 * r) [] (omega arith))
      by (x ∷ xs) = ap first (take_first (2 * r) x xs (omega arith))

  -- a joining node finds the next 2r members, without itself
  pub join_list_right : (live : List A) (x : A) → take (2 * r) (from_place place (filter (is_other place x) live) (place x)) ≡ take (2 * r) (following place live x)
  join_list_right live x = ap (take (2 * r)) (from_place_new place live x)
