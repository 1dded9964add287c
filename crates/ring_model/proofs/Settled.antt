-- A round makes a ring settled again, after stops and after a join; between rounds it is covered.
use Rattle.std.proofs.Common.{◌≡◌, ℕ, ◌*◌, ◌^◌, ◌<◌, ◌≤◌, Bool, true, List, [], length, take, filter, Option, Some, None, sym, ap, ◌∙◌, subst, arith, inr, ⊎_elim, length-take, eqb}
use Rattle.std.specs.List.{AllByRecursion}
use Rattle.std.proofs.lemmas.Bool.{cases_eq, not_from_false, ne_eqb}
use Rattle.ring_model.specs.Members.{IsAmong, HasAscendingPlaces, following, is_other}
use Rattle.ring_model.specs.Ring.{Links, IsCoveredRing, IsSettledRing}
use Rattle.ring_model.specs.Route.{Route}
use Rattle.ring_model.specs.Lookup.{IsLookup, IsFate, AreNames}
use Rattle.ring_model.specs.Round.{IsRound}
use Rattle.ring_model.specs.Change.{AreFewStops, IsJoin}
use Rattle.ring_model.proofs.Lists.{all-among, all_from, among_filtered, filter_gives, among_filter}
use Rattle.ring_model.proofs.Members.{same_member, ascending_filter}
use Rattle.ring_model.proofs.Starts.{covered_after_stops}
use Rattle.ring_model.proofs.Hops.{finger_lives}
use Rattle.ring_model.proofs.Rounds.{round_after_stops, round_after_join, lookup_right, join_list_right}
use Rattle.ring_model.proofs.Fingers.{IsListed, fingers_after}

module _ {A : Type 0} (place : A → ℕ) where
  -- who lives on
  pub lives_on : (lives : A → Bool) (before : List A) (m : A) → IsAmong m (filter lives before) → lives m ≡ true
  lives_on lives before m h = all-among (λ y. lives y ≡ true) m (filter lives before) (filter_gives lives (λ y. lives y ≡ true) before (all_from (λ y. lives y ≡ true → lives y ≡ true) before (λ y j t. t))) h

  pub few_stops_covered : (r bits : ℕ) (before : List A) (lives : A → Bool) (ring : A → Links A) → AreFewStops place r bits before lives ring → IsCoveredRing place r (filter lives before) lives ring
  few_stops_covered r bits before lives ring s = record {
    positive = s.settled.positive;
    ascending = ascending_filter place lives before s.settled.ascending;
    living = λ m h. among_filter lives m before (s.members m h) h;
    lives_all = lives_on lives before;
    covered = λ m h. covered_after_stops place r before lives m (ring m).list s.few (s.settled.lists m (among_filtered lives m before h));
  }

  -- parts 1 to 3 settle a ring whose lists parts 1 and 2 make right
  settled_by : (r bits : ℕ) (live : List A) (lives : A → Bool) (names ns : List A) (old new : A → Links A) → 1 ≤ r → HasAscendingPlaces place live → ((m : A) → IsAmong m live → place m < 2 ^ bits) → ((m : A) → lives m ≡ true → IsAmong m live) → ((m : A) → IsAmong m live → lives m ≡ true)
      → length names ≤ 512 → ((m : A) → IsAmong m live → IsAmong m names) → ((m : A) → IsAmong m live → length (old m).fingers ≡ bits) → ((n m : A) → IsAmong n live → IsAmong m (old n).fingers → IsAmong m names)
      → ((m : A) → IsAmong m ns → IsAmong m live) → ((m : A) → IsAmong m live → IsAmong m ns) → (round : IsRound place r bits lives ns old new)
      → ((m : A) → IsAmong m live → (round.mid m).list ≡ take (2 * r) (following place live m)) → ((m : A) → IsAmong m live → (round.mid m).fingers ≡ (old m).fingers) → IsSettledRing place r bits live lives new
  settled_by r bits live lives names ns old new pos asc within living all few named sized known f g round lists kept =
      let listed : IsListed place r bits pos live lives asc living all names few named round.mid = record {
        lists = lists;
        sized = λ m lm. ap length (kept m lm) ∙ sized m lm;
        known = λ n m ln h. known n m ln (subst (IsAmong m) (kept n ln) h);
      } in
      let after = fingers_after place r bits pos live lives asc living all names few named round.fingers.fixed (λ n k h. let q = round.fingers.only n k h in (f n q.0, q.1)) listed in
      record {
        positive = pos;
        ascending = asc;
        within = within;
        living = living;
        lives_all = all;
        lists = after.0.lists;
        sized = after.0.sized;
        fingers = λ m k lm kb. after.1 m k lm (inr (round.fingers.each m k (g m lm) kb));
      }

  pub stops_mended : (r bits : ℕ) (before : List A) (lives : A → Bool) (ns : List A) (old new : A → Links A) → AreFewStops place r bits before lives old → length before ≤ 512
      → ((m : A) → IsAmong m ns → IsAmong m (filter lives before)) → ((m : A) → IsAmong m (filter lives before) → IsAmong m ns)
      → IsRound place r bits lives ns old new → IsSettledRing place r bits (filter lives before) lives new
  stops_mended r bits before lives ns old new s few f g round =
      settled_by r bits (filter lives before) lives before ns old new s.settled.positive
      (ascending_filter place lives before s.settled.ascending)
      (λ m h. s.settled.within m (stayed m h))
      living
      (lives_on lives before)
      few stayed
      (λ m h. s.settled.sized m (stayed m h))
      (λ n m h i. finger_lives place r bits before s.lived old s.settled n m (stayed n h) i)
      f g round
      (λ m h. (after m h).0)
      (λ m h. (after m h).1)
    where
      stayed : (m : A) → IsAmong m (filter lives before) → IsAmong m before
      stayed m h = among_filtered lives m before h

      living : (m : A) → lives m ≡ true → IsAmong m (filter lives before)
      living m h = among_filter lives m before (s.members m h) h

      after : (m : A) → IsAmong m (filter lives before) → ((round.mid m).list ≡ take (2 * r) (following place (filter lives before) m)) × ((round.mid m).fingers ≡ (old m).fingers)
      after m h = round_after_stops place r s.settled.positive lives before ns old round.mid s.settled.ascending living s.few (λ z i. s.settled.lists z (stayed z i)) f g round.lists m h

  pub join_finds : (r bits : ℕ) (live : List A) (lives : A → Bool) (x : A) (ring : A → Links A) (entries names : List A) (trail : List (A × Option (Route A))) (found : Option (List A))
      → IsSettledRing place r bits (filter (is_other place x) live) lives ring → AreNames (filter (is_other place x) live) ring entries names → AllByRecursion (IsFate place r lives ring (place x)) trail
      → (e : A) → lives e ≡ true → IsAmong e entries → IsLookup [] None entries trail found → found ≡ Some (take (2 * r) (following place live x))
  join_finds r bits live lives x ring entries names trail found s n fates e le ie k =
      lookup_right place r s.positive lives (filter (is_other place x) live) ring (place x) entries names trail found s.ascending s.living s.lives_all s.lists n fates e le ie k
      ∙ ap (λ l. Some l) (join_list_right place r s.positive lives live x)

  pub join_mended : (r bits : ℕ) (live : List A) (lives : A → Bool) (x : A) (ns : List A) (old new : A → Links A) → IsJoin place r bits live lives x old → length live ≤ 512
      → ((m : A) → IsAmong m ns → IsAmong m live) → ((m : A) → IsAmong m live → IsAmong m ns)
      → IsRound place r bits lives ns old new → IsSettledRing place r bits live lives new
  join_mended r bits live lives x ns old new s few f g round =
      settled_by r bits live lives live ns old new s.settled.positive s.ascending
      (each (λ m. place m < 2 ^ bits) s.within s.settled.within)
      s.living s.lives_all few (λ m h. h)
      (each (λ m. length (old m).fingers ≡ bits) s.sized s.settled.sized)
      (λ n m. each (λ z. IsAmong m (old z).fingers → IsAmong m live) (s.fingers m) (λ z h i. among_filtered (is_other place x) m live (finger_lives place r bits (filter (is_other place x) live) s.lived old s.settled z m h i)) n)
      f g round
      (λ m h. (after m h).0)
      (λ m h. (after m h).1)
    where
      -- what holds of x and of the others holds of all
      each : (P : A → Type 0) → P x → ((m : A) → IsAmong m (filter (is_other place x) live) → P m) → (m : A) → IsAmong m live → P m
      each P own rest m h =
          ⊎_elim
          (λ e. subst P (same_member place live x m s.ascending s.member h (sym e)) own)
          (λ d. rest m (among_filter (is_other place x) m live h (not_from_false (eqb (place m) (place x)) (ne_eqb (place m) (place x) d))))
          (cases_eq (place m) (place x))

      others : (m : A) → IsAmong m live → (place m ≡ place x → ⊥) → (old m).list ≡ take (2 * r) (following place (filter (is_other place x) live) m)
      others m h d = s.settled.lists m (among_filter (is_other place x) m live h (not_from_false (eqb (place m) (place x)) (ne_eqb (place m) (place x) d)))

      cut : (l : List A) → length (take (2 * r) l) ≤ 2 * r
      cut l = omega (arith, length-take (2 * r) l)

      short : (m : A) → IsAmong m live → length (old m).list ≤ 2 * r
      short = each (λ m. length (old m).list ≤ 2 * r)
          (subst (λ l. length l ≤ 2 * r) (sym s.list) (cut (following place live x)))
          (λ m h. subst (λ l. length l ≤ 2 * r) (sym (s.settled.lists m h)) (cut (following place (filter (is_other place x) live) m)))

      after : (m : A) → IsAmong m live → ((round.mid m).list ≡ take (2 * r) (following place live m)) × ((round.mid m).fingers ≡ (old m).fingers)
      after m h = round_after_join place r s.settled.positive lives live x ns old round.mid s.ascending s.living s.lives_all s.member s.list others f g round.lists short m h
