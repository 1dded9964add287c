-- The laws of rings.
use Rattle.std.specs.Prelude.{◌≡◌, ℕ, suc, ◌*◌, ◌<◌, ◌≤◌, Bool, true, false, not, List, [], length, take, filter, Option, Some, None, ◌⊎◌}
use Rattle.std.specs.List.{AllByRecursion}
use Rattle.ring_model.specs.Members.{IsAmong, following, owners, is_other}
use Rattle.ring_model.specs.Ring.{Links, IsCoveredRing, IsSettledRing}
use Rattle.ring_model.specs.Route.{Route, route_of, HasOneAtEach, IsRoute}
use Rattle.ring_model.specs.Lookup.{IsLookup, IsFate, AreNames, answers_in}
use Rattle.ring_model.specs.Round.{IsRound}
use Rattle.ring_model.specs.Change.{AreFewStops, IsJoin}
use Rattle.ring_model.specs.Blocks.{IsAtLeast, AreMoved}

module _ {A : Type 0} (place : A → ℕ) where
  -- The route that a node computes is one that it may answer, where among its entries and fingers one place has one node.
  abbrev pub ComputedIsRoute : Type 0
  ComputedIsRoute = (r : ℕ) (n : A) (links : Links A) (key : ℕ) → HasOneAtEach place links
      → IsRoute place r n links key (route_of place r n links key)

  -- In a settled ring that is so at each member.
  abbrev pub SettledHasOneAtEach : Type 0
  SettledHasOneAtEach = (r bits : ℕ) (live : List A) (lives : A → Bool) (ring : A → Links A) → IsSettledRing place r bits live lives ring
      → (n : A) → IsAmong n live → HasOneAtEach place (ring n)

  -- A look-up in a covered ring whose entries have a live node, and in which at most 512 nodes are named in all,
  -- ends with a list whose first r live nodes are the key's owners, in their order.
  abbrev pub LookupFinds : Type 0
  LookupFinds = (r : ℕ) (live : List A) (lives : A → Bool) (ring : A → Links A) (key : ℕ) (entries names : List A)
      (trail : List (A × Option (Route A))) (found : Option (List A))
      → IsCoveredRing place r live lives ring → AreNames live ring entries names → AllByRecursion (IsFate place r lives ring key) trail
      → (e : A) → lives e ≡ true → IsAmong e entries
      → IsLookup [] None entries trail found
      → (last : List A) × (found ≡ Some last) × (take r (filter lives last) ≡ owners place r live key)

  -- In a settled ring at most as many answered asks follow the first answered one as places have bits.
  abbrev pub LookupIsShort : Type 0
  LookupIsShort = (r bits : ℕ) (live : List A) (lives : A → Bool) (ring : A → Links A) (key : ℕ) (entries : List A)
      (trail : List (A × Option (Route A))) (found : Option (List A)) → IsSettledRing place r bits live lives ring
      → AllByRecursion (IsFate place r lives ring key) trail → IsLookup [] None entries trail found → (x : A) → IsAmong x live
      → answers_in trail ≤ suc bits

  -- A ring of which fewer than r nodes stopped since it was settled is covered.
  abbrev pub FewStopsLeaveCovered : Type 0
  FewStopsLeaveCovered = (r bits : ℕ) (before : List A) (lives : A → Bool) (ring : A → Links A) → AreFewStops place r bits before lives ring
      → IsCoveredRing place r (filter lives before) lives ring

  -- A round over the live nodes makes it settled again. It had at most 512 members.
  abbrev pub RoundMendsStops : Type 0
  RoundMendsStops = (r bits : ℕ) (before : List A) (lives : A → Bool) (ns : List A) (old new : A → Links A)
      → AreFewStops place r bits before lives old → length before ≤ 512
      → ((m : A) → IsAmong m ns → IsAmong m (filter lives before)) → ((m : A) → IsAmong m (filter lives before) → IsAmong m ns)
      → IsRound place r bits lives ns old new → IsSettledRing place r bits (filter lives before) lives new

  -- The look-up of a node that wants to join a settled ring finds the next 2r members after its place.
  abbrev pub JoinFindsList : Type 0
  JoinFindsList = (r bits : ℕ) (live : List A) (lives : A → Bool) (x : A) (ring : A → Links A) (entries names : List A)
      (trail : List (A × Option (Route A))) (found : Option (List A))
      → IsSettledRing place r bits (filter (is_other place x) live) lives ring
      → AreNames (filter (is_other place x) live) ring entries names → AllByRecursion (IsFate place r lives ring (place x)) trail
      → (e : A) → lives e ≡ true → IsAmong e entries → IsLookup [] None entries trail found
      → found ≡ Some (take (2 * r) (following place live x))

  -- A round over the nodes of a settled ring that one node joined makes it settled again. It has at most 512 members.
  abbrev pub RoundMendsJoin : Type 0
  RoundMendsJoin = (r bits : ℕ) (live : List A) (lives : A → Bool) (x : A) (ns : List A) (old new : A → Links A)
      → IsJoin place r bits live lives x old → length live ≤ 512
      → ((m : A) → IsAmong m ns → IsAmong m live) → ((m : A) → IsAmong m live → IsAmong m ns)
      → IsRound place r bits lives ns old new → IsSettledRing place r bits live lives new

  -- What all owners of a key held at an earlier moment, since when fewer than r nodes stopped and none lost what it
  -- held, an owner holds that lives now.
  abbrev pub BlockStays : Type 0
  BlockStays = (r : ℕ) (before : List A) (lives : A → Bool) (key v : ℕ) (held now : A → Option ℕ)
      → length (filter (λ m. not (lives m)) before) < r → (z : A) → IsAmong z before → lives z ≡ true
      → ((m : A) → IsAmong m (owners place r before key) → IsAtLeast v (held m))
      → ((m : A) → lives m ≡ true → IsAtLeast v (held m) → IsAtLeast v (now m))
      → (m : A) × IsAmong m (owners place r (filter lives before) key) × (lives m ≡ true) × IsAtLeast v (now m)

-- After the last part of a round each owner holds at least what any node held, for nodes of which any two are one or not.
abbrev pub OwnersHold : Type 0 → Type 0
OwnersHold A = (owns : A → Bool) → ((m n : A) → (m ≡ n) ⊎ (m ≡ n → ⊥)) → (ns : List A) (old new : A → Option ℕ) (v : ℕ) (z : A)
    → AreMoved owns ns old new → IsAmong z ns → IsAtLeast v (old z) → (m : A) → owns m ≡ true → IsAtLeast v (new m)

-- And no other node holds anything, where only the nodes that take part did.
abbrev pub OthersDrop : Type 0 → Type 0
OthersDrop A = (owns : A → Bool) → ((m n : A) → (m ≡ n) ⊎ (m ≡ n → ⊥)) → (ns : List A) (old new : A → Option ℕ)
    → AreMoved owns ns old new → (m : A) → owns m ≡ false → ((old m ≡ None) ⊎ IsAmong m ns) → new m ≡ None
