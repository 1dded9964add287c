-- The largest closed part over a basis's front is, with what the basis stands for, the largest closed part of the whole.
use Rattle.std.proofs.Common.{◌≡◌, ◌⊎◌, inl, inr, ⊎_elim, ◌<◌, Bool, true, List, ◌++◌, filter, refl, sym, subst, arith, Contains, lt-ltb, ltb-true}
use Rattle.std.specs.Prelude.{nat_lt}
use Rattle.std.proofs.lemmas.List.Elements.{Contains-append_left, Contains-append_right, Contains-append_cases}
use Rattle.ivy_base.specs.Naming.{head_key_of}
use Rattle.log_model.specs.View.{View, IsView}
use Rattle.log_model.specs.Vector.{Vector, seq_of, Dominates}
use Rattle.log_model.specs.Record.{Record}
use Rattle.log_model.specs.Rank.{full_vector, front}
use Rattle.log_model.specs.Closed.{log_of}
use Rattle.log_model.specs.Closed as plain
use Rattle.log_model.proofs.Lists.{each, in_filter, from_filter}
use Rattle.log_model.proofs.Part.{numbered}
use Rattle.turn_model.specs.Basis.{Basis, StandsFor, IsAboveTide}
use Rattle.causal_order.specs.Over as over
use Rattle.turn_laws.proofs.Whole.{IsAbove, whole_is_closed, over_is_closed}
use Rattle.turn_laws.proofs.Fronts.{in_log, reach_of_log}
use Rattle.turn_laws.proofs.Rows.{number_within}

module _ (view : View) (b : Basis) (below : List Record) (well : IsView view) (stands : StandsFor view b below) where
  above_of : (r : Record) → IsAboveTide b r → IsAbove view below well stands.closed r
  above_of r a = record {
    knows = subst (λ (v : Vector). Dominates (full_vector r) v) stands.front a.knows;
    later = subst (λ (v : Vector). seq_of v (head_key_of r.owner) < r.seq) stands.front a.later;
  }

  abbrev is_beyond : Record → Bool
  is_beyond r = nat_lt (seq_of (front below) (head_key_of r.owner)) r.seq

  not_beyond : (r : Record) → Contains below r → is_beyond r ≡ true → ⊥
  not_beyond r c e =
      let member = each (λ q. Contains view.members q.owner) below r stands.closed.members c in
      let reach = reach_of_log view below r.owner well stands.closed member in
      let le = number_within (log_of r.owner below) r (numbered view r.owner (log_of r.owner below) (stands.closed.chains r.owner)) (in_log r.owner below r c refl) in
      let more = ltb-true (seq_of (front below) (head_key_of r.owner)) r.seq e in
      absurd (omega (arith, reach, le, more))

  -- What is available over the front is above the basis. What is available of the whole is below the basis, or available over the front.
  module _ (Hand All : Record → Type 0) (above : (r : Record) → Hand r → IsAboveTide b r) (of_below : (r : Record) → Contains below r → All r) (of_hand : (r : Record) → Hand r → All r)
      (of_all : (r : Record) → All r → Contains below r ⊎ Hand r) where
    is_high : (r : Record) → Hand r → is_beyond r ≡ true
    is_high r a = lt-ltb (seq_of (front below) (head_key_of r.owner)) r.seq (above_of r (above r a)).later

    over_front : (t : List Record) → over.IsClosed view b.front t → over.IsClosed view (front below) t
    over_front t c = subst (λ (v : Vector). over.IsClosed view v t) stands.front c

    -- what is available over the front, of what is available of the whole
    beyond_hand : (r : Record) → All r → is_beyond r ≡ true → Hand r
    beyond_hand r a beyond = ⊎_elim (λ low. absurd (not_beyond r low beyond)) (λ e. e) (of_all r a)

    beyond_closed : (t : List Record) → ((r : Record) → Contains t r → All r) → plain.IsClosed view t → over.IsClosed view b.front (filter is_beyond t)
    beyond_closed t available closed = subst (λ (v : Vector). over.IsClosed view v (filter is_beyond t)) (sym stands.front)
        (over_is_closed view below well stands.closed t closed (λ q d. ⊎_elim (λ e. inl e) (λ e. inr (above_of q (above q e))) (of_all q (available q d))))

    module _ (s : List Record) (p : over.IsClosedPart view b.front Hand s) where
      beyond_taken : (t : List Record) → ((r : Record) → Contains t r → All r) → plain.IsClosed view t → (r : Record) → Contains t r → Hand r → Contains s r
      beyond_taken t available closed r c a =
          p.largest (filter is_beyond t) (λ q d. let w = from_filter is_beyond t q d in beyond_hand q (available q w.0) w.1) (beyond_closed t available closed) r (in_filter is_beyond t r c (is_high r a))

      pub whole_part : plain.IsClosedPart view All (below ++ s)
      whole_part = record {
        part = λ r c. ⊎_elim (λ d. of_below r d) (λ d. of_hand r (p.part r d)) (Contains-append_cases below s r c);
        closed = whole_is_closed view below well stands.closed s (over_front s p.closed) (λ r c. above_of r (above r (p.part r c)));
        largest = λ t available closed r c. ⊎_elim
            (λ d. Contains-append_left below s r d)
            (λ a. Contains-append_right below s r (beyond_taken t available closed r c a))
            (of_all r (available r c));
      }

    -- and back: what the largest closed part of the whole has beyond the front
    module _ (s : List Record) (p : plain.IsClosedPart view All s) where
      -- these are it, and have all of the whole's that is available over the front
      pub record IsOverPart (t : List Record) : Type 0 where
        pub largest : over.IsClosedPart view b.front Hand t
        pub has : (r : Record) → Contains s r → Hand r → Contains t r

      pub over_part : (t : List Record) × IsOverPart t
      over_part = (
        filter is_beyond s,
        record {
          largest = record {
            part = λ r c. let w = from_filter is_beyond s r c in beyond_hand r (p.part r w.0) w.1;
            closed = beyond_closed s p.part p.closed;
            largest = λ t available closed r c. in_filter is_beyond s r
                (p.largest (below ++ t) (λ q d. ⊎_elim (λ e. of_below q e) (λ e. of_hand q (available q e)) (Contains-append_cases below t q d))
                (whole_is_closed view below well stands.closed t (over_front t closed) (λ q d. above_of q (above q (available q d)))) r (Contains-append_right below t r c))
                (is_high r (available r c));
          };
          has = λ r c a. in_filter is_beyond s r c (is_high r a);
        },
      )
