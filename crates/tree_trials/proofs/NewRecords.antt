-- Whether records may be taken in.
use Rattle.std.proofs.Common.{◌≡◌, ℕ, ◌==◌, not, List, [], ◌∷◌, length, take, refl, sym, ap, ◌∙◌, subst}
use Rattle.std.specs.Prelude.{IsTrue, slice_get, Some}
use Rattle.std.proofs.lemmas.Bool.{eqb-true}
use Rattle.std.proofs.lemmas.List.{length-map}
use Rattle.std.specs.List.{All, AllByRecursion}
use Rattle.std.specs.Ordering.{is_eq}
use Rattle.std.proofs.lemmas.List.Elements.{All-head, All-tail}
use Rattle.log_model.specs.Record as log
use Rattle.log_model.specs.Rank as order
use Rattle.log_model.specs.Rank.{record_cmp, rank}
use Rattle.log_records.specs.declared.record.Record.{Record}
use Rattle.log_records.specs.Records.{record_of, records_of}
use Rattle.log_records.specs.Places.{merge_place}
use Rattle.replay_engine.specs.Rows.{IsRow}
use Rattle.replay_engine.specs.Places.{AreNew, AreBehind, first_place}
use Rattle.replay_engine.proofs.Placed.{behind_place}

abbrev pub IsOther : Record → Record → Type 0
IsOther r q = IsTrue (not (is_eq (record_cmp (record_of r) (record_of q))))

abbrev pub IsNew : List Record → Record → Type 0
IsNew held r = All (IsOther r) held

one_new : (held : List Record) (r : Record) → IsNew held r → AllByRecursion (λ q. IsTrue (not (is_eq (record_cmp (record_of r) q)))) (records_of held)
one_new [] r h = tt
one_new (q ∷ held) r h = (All-head (IsOther r) q held h, one_new held r (All-tail (IsOther r) q held h))

pub all_new : (held more : List Record) → All (IsNew held) more → AreNew (records_of held) (records_of more)
all_new held [] h = tt
all_new held (r ∷ more) h = (one_new held r (All-head (IsNew held) r more h), all_new held more (All-tail (IsNew held) r more h))

take_all : {X : Type 0} (s : List X) (n : ℕ) → n ≡ length s → take n s ≡ s
take_all [] n e = ap (λ k. take k []) e
take_all (x ∷ s) n e = ap (λ k. take k (x ∷ s)) e ∙ ap (λ l. x ∷ l) (take_all s (length s) refl)

-- new records whose first one goes last
go_last : (held more : List log.Record) → IsRow held → IsRow more → first_place held more ≡ length held → AreBehind held more
go_last held more row new e = subst (λ s. AreBehind s more) (take_all held (first_place held more) e) (behind_place held more row.ascending new.ascending)

pub first_goes_last : (held more : List Record) (x : Record) (place : ℕ) (r : order.Rank) → IsRow (records_of held) → IsRow (records_of more) → Some x ≡ slice_get more 0 → r ≡ rank (record_of x) → place ≡ merge_place (records_of held) r
    → IsTrue (place == length held) → AreBehind (records_of held) (records_of more)
first_goes_last held [] x place r row new first ranked placed last = tt
first_goes_last held (y ∷ more) x place r row new first ranked placed last =
    let same : x ≡ y = cc in
    let count : place ≡ length held = eqb-true _ _ last in
    let size = length-map held record_of in
    let there : first_place (records_of held) (records_of (y ∷ more)) ≡ place = ap (λ (z : Record). merge_place (records_of held) (rank (record_of z))) (sym same) ∙ ap (λ (k : order.Rank). merge_place (records_of held) k) (sym ranked) ∙ sym placed in
    go_last (records_of held) (records_of (y ∷ more)) row new (there ∙ count ∙ sym size)
