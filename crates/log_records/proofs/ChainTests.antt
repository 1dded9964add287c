-- What the tests of a chain tell, put together.
use Rattle.std.proofs.Common.{◌≡◌, ℕ, ◌<◌, ◌≤◌, List, [], ◌∷◌, Bool, true, false, Option, Some, None, refl, sym, ap, ◌∙◌, subst, arith}
use Rattle.std.specs.Prelude.{◌↔◌, IsTrue, nat_le, option_map}
use Rattle.std.proofs.lemmas.Bool.{le-leb}
use Rattle.ivy_base.specs.declared.key.Key.{Key}
use Rattle.ivy_base.specs.Naming.{head_key_of}
use Rattle.log_model.specs.View.{View}
use Rattle.log_model.specs.Vector.{Stamp, Vector, stamp_at, seq_of}
use Rattle.log_model.specs.Record.{Record}
use Rattle.log_model.specs.Chain.{IsGood}
use Rattle.log_model.specs.Fetched.{Edge, owner_of, MayBeNext, KnowsEdge, GoesOnFrom, EndsAtStamp, NamesPrevious, OldestNames, HasRecord, PassesFloor, IsSound, IsOnward}
use Rattle.log_model.specs.Heads.{stamp}
use Rattle.version_vectors.specs.declared.entry.Entry.{Entry}
use Rattle.version_vectors.specs.Entries.{entry_of}
use Rattle.log_records.specs.Walks.{BeginsSpelled, GoesOnInside}
use Rattle.log_records.specs.Batches.{AreOfOneOwner}
use Rattle.log_records.proofs.Walks.{HasAt, assemble, take_apart}

-- ---- two tests

pub both_hold : {b : Bool} {A B : Type 0} → A → IsTrue b ↔ B → IsTrue b ↔ (A × B)
both_hold first second = (λ h. (first, second.0 h), λ p. second.1 p.1)

pub first_fails : {b : Bool} {A B : Type 0} → b ≡ false → IsTrue b ↔ A → IsTrue b ↔ (A × B)
first_fails fails first = (λ h. absurd (cc (h, fails)), λ p. first.1 p.0)

-- ---- the oldest record

pub oldest_owner : (xs : List Record) (x : Record) → AreOfOneOwner xs → HasAt xs 0 x → x.owner ≡ owner_of xs
oldest_owner [] x one at = absurd (one.some refl)
oldest_owner (r ∷ rs) x one at = ap (λ (y : Record). y.owner) (sym at)

pub oldest_log : (xs : List Record) (x : Record) {log : Key} → AreOfOneOwner xs → HasAt xs 0 x → log ≡ head_key_of x.owner → log ≡ head_key_of (owner_of xs)
oldest_log xs x one at is = is ∙ ap head_key_of (oldest_owner xs x one at)

pub log_of_oldest : (xs : List Record) (x : Record) {log : Key} → AreOfOneOwner xs → HasAt xs 0 x → log ≡ head_key_of (owner_of xs) → log ≡ head_key_of x.owner
log_of_oldest xs x one at is = is ∙ ap head_key_of (sym (oldest_owner xs x one at))

pub begins_good : (view : View) (xs : List Record) (x : Record) → AreOfOneOwner xs → HasAt xs 0 x → IsGood view x.owner x → BeginsSpelled xs
begins_good view [] x one at good = absurd (one.some refl)
begins_good view (r ∷ rs) x one at good = let same : IsGood view r.owner r = subst (λ (y : Record). IsGood view y.owner y) (sym at) good in same.spelled

pub goes_by : (view : View) (held : Option Stamp) (edge : Option Edge) (xs : List Record) (x : Record) {b : Bool} → AreOfOneOwner xs → HasAt xs 0 x
    → IsGood view x.owner x → MayBeNext held x → KnowsEdge held edge x → IsTrue b ↔ GoesOnInside view xs → IsTrue b ↔ GoesOnFrom view held edge xs
goes_by view held edge xs x one at good next knows rest = (λ h. assemble view held edge xs x one at good next knows (rest.0 h), λ g. rest.1 (take_apart view held edge xs x one at g).goes)

-- ---- all of a chain

pub sound_by : (view : View) (held : Vector) (edge : Option Edge) (t : Stamp) (xs : List Record) {log : Key} {b : Bool} → log ≡ head_key_of (owner_of xs)
    → GoesOnFrom view (stamp_at held log) edge xs → IsTrue b ↔ EndsAtStamp t xs → IsTrue b ↔ IsSound view held edge t xs
sound_by view held edge t xs is goes ends =
    (λ h. record { goes_on = subst (λ (k : Key). GoesOnFrom view (stamp_at held k) edge xs) is goes; ends = ends.0 h }, λ s. ends.1 s.ends)

pub unsound_by : (view : View) (held : Vector) (edge : Option Edge) (t : Stamp) (xs : List Record) {log : Key} {b : Bool} → log ≡ head_key_of (owner_of xs)
    → b ≡ false → IsTrue b ↔ GoesOnFrom view (stamp_at held log) edge xs → IsTrue b ↔ IsSound view held edge t xs
unsound_by view held edge t xs is fails goes =
    (λ h. absurd (cc (h, fails)), λ s. goes.1 (subst (λ (k : Key). GoesOnFrom view (stamp_at held k) edge xs) (sym is) s.goes_on))

-- ---- of which history it is

named_oldest : (held : Option Stamp) (xs : List Record) (x : Record) → AreOfOneOwner xs → HasAt xs 0 x → NamesPrevious held x ↔ OldestNames held xs
named_oldest held [] x one at = absurd (one.some refl)
named_oldest held (r ∷ rs) x one at = (λ n. subst (NamesPrevious held) (sym at) n, λ n. subst (NamesPrevious held) at n)

pub onward_by : (held floor : Vector) (xs : List Record) (x : Record) {log : Key} {reached : ℕ} {b : Bool} → AreOfOneOwner xs → HasAt xs 0 x → log ≡ head_key_of (owner_of xs) → reached ≡ seq_of held log
    → NamesPrevious (stamp_at held log) x → IsTrue b ↔ PassesFloor (stamp_at floor log) reached xs → IsTrue b ↔ IsOnward held floor xs
onward_by held floor xs x {log} {b = b} one at is count names passes =
    let own = head_key_of (owner_of xs) in
    let named : NamesPrevious (stamp_at held own) x = subst (λ (k : Key). NamesPrevious (stamp_at held k) x) is names in
    let counted : IsTrue b ↔ PassesFloor (stamp_at floor log) (seq_of held log) xs = subst (λ (n : ℕ). IsTrue b ↔ PassesFloor (stamp_at floor log) n xs) count passes in
    let passed : IsTrue b ↔ PassesFloor (stamp_at floor own) (seq_of held own) xs = subst (λ (k : Key). IsTrue b ↔ PassesFloor (stamp_at floor k) (seq_of held k) xs) is counted in
    (λ h. record { names = (named_oldest (stamp_at held own) xs x one at).0 named; passes = passed.0 h }, λ o. passed.1 o.passes)

pub not_onward_by : (held floor : Vector) (xs : List Record) (x : Record) {log : Key} {b : Bool} → AreOfOneOwner xs → HasAt xs 0 x → log ≡ head_key_of (owner_of xs)
    → b ≡ false → IsTrue b ↔ NamesPrevious (stamp_at held log) x → IsTrue b ↔ IsOnward held floor xs
not_onward_by held floor xs x one at is fails names =
    let own = head_key_of (owner_of xs) in
    (λ h. absurd (cc (h, fails)), λ o. names.1 (subst (λ (k : Key). NamesPrevious (stamp_at held k) x) (sym is) ((named_oldest (stamp_at held own) xs x one at).1 o.names)))

pub names_by : (log : Key) (held : Option Stamp) (got : Option Entry) (e : Entry) (r : Record) {b : Bool} → got ≡ option_map (entry_of log) held → got ≡ Some e
    → IsTrue b ↔ (r.prev ≡ e.name) → IsTrue b ↔ NamesPrevious held r
names_by log None got e r made some same = absurd (cc (made, some))
names_by log (Some t) got e r made some same =
    let entry : e ≡ entry_of log t = cc (made, some) in
    let name : e.name ≡ t.name = ap (λ (x : Entry). x.name) entry in
    (λ h. same.0 h ∙ name, λ n. same.1 (n ∙ sym name))

pub none_named : (log : Key) (held : Option Stamp) (got : Option Entry) (r : Record) → got ≡ option_map (entry_of log) held → got ≡ None → IsTrue true ↔ NamesPrevious held r
none_named log None got r made none = (λ h. tt, λ n. refl)
none_named log (Some t) got r made none = absurd (cc (made, none))

pub passes_below : (log : Key) (floor : Option Stamp) (got : Option Entry) (e : Entry) (reached : ℕ) (xs : List Record) → got ≡ option_map (entry_of log) floor → got ≡ Some e
    → e.seq ≤ reached → IsTrue (nat_le e.seq reached) ↔ PassesFloor floor reached xs
passes_below log None got e reached xs made some low = absurd (cc (made, some))
passes_below log (Some f) got e reached xs made some low =
    let entry : e ≡ entry_of log f = cc (made, some) in
    let seq : e.seq ≡ f.seq = ap (λ (x : Entry). x.seq) entry in
    (λ h above. absurd (omega (arith, seq, low, above)), λ p. le-leb e.seq reached low)

pub passes_through_it : (log : Key) (floor : Option Stamp) (got : Option Entry) (e : Entry) (reached : ℕ) (xs : List Record) {b : Bool} → got ≡ option_map (entry_of log) floor → got ≡ Some e
    → reached < e.seq → IsTrue b ↔ HasRecord (stamp e.seq e.name) xs → IsTrue b ↔ PassesFloor floor reached xs
passes_through_it log None got e reached xs made some above has = absurd (cc (made, some))
passes_through_it log (Some f) got e reached xs {b} made some above has =
    let entry : e ≡ entry_of log f = cc (made, some) in
    let there : IsTrue b ↔ HasRecord f xs = subst (λ (x : Entry). IsTrue b ↔ HasRecord (stamp x.seq x.name) xs) entry has in
    let seq : e.seq ≡ f.seq = ap (λ (x : Entry). x.seq) entry in
    (λ h more. there.0 h, λ p. there.1 (p (omega (arith, seq, above))))

pub passes_nothing : (log : Key) (floor : Option Stamp) (got : Option Entry) (reached : ℕ) (xs : List Record) → got ≡ option_map (entry_of log) floor → got ≡ None
    → IsTrue true ↔ PassesFloor floor reached xs
passes_nothing log None got reached xs made none = (λ h. tt, λ p. refl)
passes_nothing log (Some f) got reached xs made none = absurd (cc (made, none))

-- ---- what the oldest has to know

pub no_edge : (held : Option Stamp) (edge : Option Edge) (r : Record) → edge ≡ None → IsTrue true ↔ KnowsEdge held edge r
no_edge None edge r none = (λ h. tt, λ k. refl)
no_edge (Some t) None r none = (λ h. tt, λ k. refl)
no_edge (Some t) (Some e) r none = absurd (cc none)

pub nothing_held : (log : Key) (held : Option Stamp) (got : Option Entry) (edge : Option Edge) (r : Record) → got ≡ option_map (entry_of log) held → got ≡ None → IsTrue true ↔ KnowsEdge held edge r
nothing_held log None got edge r made none = (λ h. tt, λ k. refl)
nothing_held log (Some t) got edge r made none = absurd (cc (made, none))
