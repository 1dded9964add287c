-- Rings that change: after stops, and after a join.
use Rattle.std.specs.Prelude.{◌≡◌, ℕ, ◌*◌, ◌^◌, ◌<◌, Bool, true, not, List, length, take, filter}
use Rattle.ring_model.specs.Members.{IsAmong, HasAscendingPlaces, following, is_other}
use Rattle.ring_model.specs.Ring.{Links, IsSettledRing}

module _ {A : Type 0} (place : A → ℕ) where
  -- a ring was settled with the members `before`; since then fewer than r of them stopped, and those that pass the test live on
  pub record AreFewStops (r bits : ℕ) (before : List A) (lives : A → Bool) (ring : A → Links A) : Type 0 where
    pub lived : A → Bool
    pub settled : IsSettledRing place r bits before lived ring
    pub members : (m : A) → lives m ≡ true → IsAmong m before
    pub few : length (filter (λ m. not (lives m)) before) < r

  -- x joined a settled ring, and knows the next 2r members; since then nothing happened
  pub record IsJoin (r bits : ℕ) (live : List A) (lives : A → Bool) (x : A) (ring : A → Links A) : Type 0 where
    pub lived : A → Bool
    pub settled : IsSettledRing place r bits (filter (is_other place x) live) lived ring
    pub ascending : HasAscendingPlaces place live
    pub living : (m : A) → lives m ≡ true → IsAmong m live
    pub lives_all : (m : A) → IsAmong m live → lives m ≡ true
    pub member : IsAmong x live
    pub within : place x < 2 ^ bits
    pub list : (ring x).list ≡ take (2 * r) (following place live x)
    pub sized : length (ring x).fingers ≡ bits
    pub fingers : (m : A) → IsAmong m (ring x).fingers → IsAmong m live
