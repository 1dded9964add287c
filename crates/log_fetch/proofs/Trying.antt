-- What comes of a head whose walk is over.
use Rattle.std.proofs.Common.{◌≡◌, ◌==◌, false, ℕ, zero, suc, ◌-◌, ◌<◌, List, [], ◌∷◌, ◌++◌, reverse, length, Option, Some, None, refl, sym, ap, ◌∙◌, subst, arith}
use Rattle.std.specs.Prelude.{◌≢◌}
use Rattle.std.specs.List.{AllByRecursion}
use Rattle.std.proofs.lemmas.Bool.{false≢true}
use Rattle.std.proofs.lemmas.List.{append-nil, append_assoc}
use Rattle.ivy_base.specs.declared.key.Key.{Key}
use Rattle.ivy_base.specs.declared.key.PubKey.{PubKey}
use Rattle.ivy_base.specs.Naming.{head_key_of}
use Rattle.log_model.specs.View.{View}
use Rattle.log_model.specs.Vector.{Stamp, Vector, seq_of}
use Rattle.log_model.specs.Record.{Record}
use Rattle.log_model.specs.Chain.{HasMadeNumber, GoesOn}
use Rattle.log_model.proofs.Lists.{each}
use Rattle.log_model.specs.Fetched.{Edge, ChainFails, IsOnward, IsSound}
use Rattle.log_model.specs.declared.chain_fault.ChainFault.{ChainFault}
use Rattle.log_model.specs.declared.chain_fault.ChainFault.TheVariants.{Memory}
use Rattle.log_records.specs.declared.record.Record as kept
use Rattle.log_records.specs.Records.{records_of}
use Rattle.log_records.specs.Batches.{Batch, AreOfOneOwner}
use Rattle.session_model.specs.Brought.{Brought}
use Rattle.session_model.specs.Walks.{Tries, LogEnd, Gives, GivesNone}
use Rattle.session_model.specs.Walks.Walks.{came as all_came, wants as next_wanted}
use Rattle.session_model.specs.Walks.Tries.{none as none_left, gives as is_given, passes as is_passed, garbled as is_garbled}
use Rattle.log_fetch.specs.Walking.{Walking, Keeps, HasCome, IsAfter, begun, oldest_first}
use Rattle.log_fetch.specs.Walking.HasCome.{wants as still_wants, garbled as ends_garbled, came as ends_whole}
use Rattle.log_fetch.specs.Trying.{Trying, HasTried, IsBegunAt, FailsFor, IsTakenAs, EndsWith, GoesOnWith, first_of, or_fault}
use Rattle.log_fetch.proofs.Lists.{reversed_has}

-- ---- a walk at its beginning

pub begins : (owner : PubKey) (count : ℕ) (newest : Key) → HasCome owner count newest [] count newest (Some [])
begins owner zero newest = ends_whole all_came refl
begins owner (suc n) newest = still_wants next_wanted (λ e. cc e) (omega arith) refl

-- ---- records that are in no chain

abbrev IsMade : Record → Type 0
IsMade r = HasMadeNumber r.owner r.seq r.op

made_after : (view : View) (owner : PubKey) (p : Record) (rs : List Record) → GoesOn view owner p rs → AllByRecursion IsMade rs
made_after view owner p [] h = tt
made_after view owner p (r ∷ rs) h = (subst (λ (o : PubKey). HasMadeNumber o r.seq r.op) (sym h.0.owned) h.0.number, made_after view owner r rs h.2)

all_made : (view : View) (held : Vector) (edge : Option Edge) (head : Stamp) (chain : List Record) → IsSound view held edge head chain → AllByRecursion IsMade chain
all_made view held edge head [] h = tt
all_made view held edge head (r ∷ rs) h = (h.goes_on.0.number, made_after view r.owner r rs h.goes_on.3)

unsound : (view : View) (held : Vector) (edge : Option Edge) (head : Stamp) (records : List Record) → Keeps records None → IsSound view held edge head (reverse records) → ⊥
unsound view held edge head records bad h = bad.2 (each IsMade (reverse records) bad.0 (all_made view held edge head (reverse records) h) (reversed_has records bad.0 bad.1))

pub one_owner : (owner : PubKey) (records : List Record) → AllByRecursion (λ r. r.owner ≡ owner) records → records ≢ [] → AreOfOneOwner records
one_owner owner [] all some = absurd (some refl)
one_owner owner (r ∷ rs) all some = record { some = some; owned = (refl, subst (λ (o : PubKey). AllByRecursion (λ (x : Record). x.owner ≡ o) rs) (sym all.0) all.1) }

pub some_records : (items : List kept.Record) (count : ℕ) → length items ≡ count → false ≡ (count == 0) → records_of items ≢ []
some_records [] count same e = λ _. false≢true (e ∙ ap (λ (n : ℕ). n == 0) (sym same))
some_records (r ∷ rs) count same e = λ h. cc h

-- ---- the heads

module _ (view : View) (owner : PubKey) (start floor : Vector) (edge : Option Edge) where
  abbrev count_of : Stamp → ℕ
  count_of t = t.seq - seq_of start (head_key_of owner)

  -- the head was passed over: what becomes of the others becomes of all
  pub passes_over : (b : Batch) → b.held ≡ start → b.floor ≡ floor → (t : Stamp) (next : Key) (found : Option (List Record)) (walked : List Brought) → HasCome owner (count_of t) t.name walked 0 next found
      → (fault : ChainFault) → fault ≢ Memory → FailsFor view b t edge (oldest_first found) fault
      → {ts : List Stamp} {more : List Brought} {others : List ChainFault} {end : LogEnd} → Tries (record { view = view; owner = owner; start = start; floor = floor; edge = edge }) ts more others end → Tries (record { view = view; owner = owner; start = start; floor = floor; edge = edge }) (t ∷ ts) (walked ++ more) (fault ∷ others) end
  passes_over b bh bf t next found walked (still_wants w some e k) fault some_fault fails tries = absurd (some refl)
  passes_over b bh bf t next found walked (ends_garbled w) fault some_fault fails {ts} {more} {others} {end} tries =
      subst (λ (f : ChainFault). Tries (record { view = view; owner = owner; start = start; floor = floor; edge = edge }) (t ∷ ts) (walked ++ more) (f ∷ others) end) (sym fails) (is_garbled w tries)
  passes_over b bh bf t next None walked (ends_whole {records} w k) fault some_fault fails {ts} {more} {others} {end} tries =
      subst (λ (f : ChainFault). Tries (record { view = view; owner = owner; start = start; floor = floor; edge = edge }) (t ∷ ts) (walked ++ more) (f ∷ others) end) (sym fails)
      (is_passed w (λ e. cc e) (unsound view start edge t records k) tries)
  passes_over b bh bf t next (Some found) walked (ends_whole {records} w k) fault some_fault fails tries =
      let same : ChainFails view start floor t edge (reverse found) fault =
      subst (λ (v : Vector). ChainFails view v floor t edge (reverse found) fault) bh (subst (λ (v : Vector). ChainFails view b.held v t edge (reverse found) fault) bf fails) in
      is_passed w some_fault (subst (λ (l : List Record). ChainFails view start floor t edge (reverse l) fault) k same) tries

  -- its records were taken
  pub is_taken : (t : Stamp) (next : Key) (found : Option (List Record)) (walked : List Brought) → HasCome owner (count_of t) t.name walked 0 next found → (records : List Record) → oldest_first found ≡ Some records
      → IsSound view start edge t records → IsOnward start floor records → (ts : List Stamp) → Tries (record { view = view; owner = owner; start = start; floor = floor; edge = edge }) (t ∷ ts) walked [] (Gives records)
  is_taken t next found walked (still_wants w some e k) records same sound onward ts = absurd (some refl)
  is_taken t next found walked (ends_garbled w) records same sound onward ts = cc same
  is_taken t next None walked (ends_whole w k) records same sound onward ts = cc same
  is_taken t next (Some found) walked (ends_whole {records = other} w k) records same sound onward ts =
      let one : reverse other ≡ records = ap reverse (sym k) ∙ some_one (reverse found) records same in
      subst (λ (l : List Record). Tries (record { view = view; owner = owner; start = start; floor = floor; edge = edge }) (t ∷ ts) walked [] (Gives l)) one
      (is_given w (subst (IsSound view start edge t) (sym one) sound) (subst (IsOnward start floor) (sym one) onward))
    where
      some_one : (a c : List Record) → Some a ≡ Some c → a ≡ c
      some_one a c e = cc e

  -- the walk is over
  come : (t : Trying) (all : List Stamp) (brought : List Brought) (h : HasTried view owner start floor edge all brought t) → t.walk.left ≡ 0 → HasCome owner (count_of t.head) t.head.name h.walked 0 t.walk.next t.walk.found
  come t all brought h over =
      subst (λ (o : PubKey). HasCome o (count_of t.head) t.head.name h.walked 0 t.walk.next t.walk.found) h.owner_is
      (subst (λ (n : ℕ). HasCome t.walk.owner (count_of t.head) t.head.name h.walked n t.walk.next t.walk.found) over h.walk_is)

first_more : (faults : List ChainFault) (fault : ChainFault) → or_fault (first_of faults) fault ≡ first_of (faults ++ fault ∷ [])
first_more [] fault = refl
first_more (f ∷ faults) fault = refl

module _ (view : View) (edge : Option Edge) (t : Trying) (old new : Batch) (chain : Option (List Record)) (chain_is : chain ≡ oldest_first t.walk.found) (over : t.walk.left ≡ 0) where
  pub ends_taken : IsTakenAs view old new t.head edge chain None → EndsWith view edge t old new t.fault
  ends_taken taken = λ owner all brought h.
      let tries : Tries (record { view = view; owner = owner; start = old.held; floor = old.floor; edge = edge }) (t.head ∷ t.rest) h.walked [] (Gives taken.0) =
      is_taken view owner old.held old.floor edge t.head t.walk.next t.walk.found h.walked (come view owner old.held old.floor edge t all brought h over) taken.0 (sym chain_is ∙ taken.1) taken.2 taken.3 t.rest in (
        h.faults ++ [],
        Gives taken.0,
        subst (λ (b : List Brought). Tries (record { view = view; owner = owner; start = old.held; floor = old.floor; edge = edge }) all b (h.faults ++ []) (Gives taken.0)) (sym h.brought_is) (h.goes_on tries),
        h.fault_is ∙ ap first_of (sym (append-nil h.faults)),
        (t.head, taken.4),
      )

  passed : (fault : ChainFault) → IsTakenAs view old new t.head edge chain (Some fault) → (owner : PubKey) (all : List Stamp) (brought : List Brought) (h : HasTried view owner old.held old.floor edge all brought t)
      → {more : List Brought} {others : List ChainFault} {end : LogEnd} → Tries (record { view = view; owner = owner; start = old.held; floor = old.floor; edge = edge }) t.rest more others end
      → Tries (record { view = view; owner = owner; start = old.held; floor = old.floor; edge = edge }) all (brought ++ more) (h.faults ++ fault ∷ [] ++ others) end
  passed fault taken owner all brought h {more} {others} {end} tries =
      let on : Tries (record { view = view; owner = owner; start = old.held; floor = old.floor; edge = edge }) (t.head ∷ t.rest) (h.walked ++ more) (fault ∷ others) end =
      passes_over view owner old.held old.floor edge old refl refl t.head t.walk.next t.walk.found h.walked (come view owner old.held old.floor edge t all brought h over) fault taken.1
      (subst (λ (l : Option (List Record)). FailsFor view old t.head edge l fault) chain_is taken.2) tries in
      subst (λ (b : List Brought). Tries (record { view = view; owner = owner; start = old.held; floor = old.floor; edge = edge }) all b (h.faults ++ fault ∷ [] ++ others) end) (sym (append_assoc h.passed h.walked more) ∙ ap (λ (b : List Brought). b ++ more) (sym h.brought_is))
      (subst (λ (f : List ChainFault). Tries (record { view = view; owner = owner; start = old.held; floor = old.floor; edge = edge }) all (h.passed ++ (h.walked ++ more)) f end) (sym (append_assoc h.faults (fault ∷ []) others)) (h.goes_on on))

  first_fault : (fault : ChainFault) (owner : PubKey) (all : List Stamp) (brought : List Brought) (h : HasTried view owner old.held old.floor edge all brought t) → or_fault t.fault fault ≡ first_of (h.faults ++ fault ∷ [])
  first_fault fault owner all brought h = ap (λ (f : Option ChainFault). or_fault f fault) h.fault_is ∙ first_more h.faults fault

  pub ends_passed : (fault : ChainFault) → IsTakenAs view old new t.head edge chain (Some fault) → t.rest ≡ [] → (first : Option ChainFault) → first ≡ or_fault t.fault fault → EndsWith view edge t old new first
  ends_passed fault taken none first first_is = λ owner all brought h.
      let p = passed fault taken owner all brought h (subst (λ (l : List Stamp). Tries (record { view = view; owner = owner; start = old.held; floor = old.floor; edge = edge }) l [] [] GivesNone) (sym none) none_left) in (
        h.faults ++ fault ∷ [] ++ [],
        GivesNone,
        subst (λ (b : List Brought). Tries (record { view = view; owner = owner; start = old.held; floor = old.floor; edge = edge }) all b (h.faults ++ fault ∷ [] ++ []) GivesNone) (append-nil brought) p,
        first_is ∙ first_fault fault owner all brought h ∙ ap first_of (sym (append-nil (h.faults ++ fault ∷ []))),
        taken.0,
      )

  begun_is : (owner : PubKey) (next : Trying) → next.walk ≡ begun owner (next.head.seq - t.held) next.head.name → (all : List Stamp) (brought : List Brought) (h : HasTried view owner old.held old.floor edge all brought t)
      → IsAfter (next.head.seq - seq_of old.held (head_key_of owner)) next.head.name [] next.walk
  begun_is owner next e all brought h =
      subst (λ (w : Walking). IsAfter (next.head.seq - seq_of old.held (head_key_of owner)) next.head.name [] w) (sym (e ∙ ap (λ (n : ℕ). begun owner (next.head.seq - n) next.head.name) h.held_is))
      (begins owner (next.head.seq - seq_of old.held (head_key_of owner)) next.head.name)

  pub goes_to_next : (fault : ChainFault) → IsTakenAs view old new t.head edge chain (Some fault) → (next : Trying) (first : Option ChainFault) → IsBegunAt t.walk.owner t.held t.rest first next → first ≡ or_fault t.fault fault
      → (new ≡ old) × (length next.rest < length t.rest) × (next.walk.owner ≡ t.walk.owner) × GoesOnWith view edge t old next
  goes_to_next fault taken next first is first_is = (
    taken.0,
    subst (λ (l : List Stamp). length next.rest < length l) is.0 (omega arith),
    ap (λ (w : Walking). w.owner) is.1,
    λ owner all brought h. record {
      passed = brought;
      walked = [];
      faults = h.faults ++ fault ∷ [];
      brought_is = sym (append-nil brought);
      goes_on = λ {more} {others} {end} tries. passed fault taken owner all brought h (subst (λ (l : List Stamp). Tries (record { view = view; owner = owner; start = old.held; floor = old.floor; edge = edge }) l more others end) is.0 tries);
      fault_is = is.3 ∙ first_is ∙ first_fault fault owner all brought h;
      owner_is = ap (λ (w : Walking). w.owner) is.1 ∙ h.owner_is;
      held_is = is.2 ∙ h.held_is;
      walk_is = begun_is owner next (is.1 ∙ ap (λ (o : PubKey). begun o (next.head.seq - t.held) next.head.name) h.owner_is) all brought h;
    },
  )

-- what a later head ends with, the heads end with
pub ends_later : (view : View) (edge copy : Option Edge) (t u : Trying) (old mid new : Batch) (fault : Option ChainFault) → mid ≡ old → copy ≡ edge → GoesOnWith view edge t old u → EndsWith view copy u mid new fault
    → EndsWith view edge t old new fault
ends_later view edge copy t u old mid new fault same_batch same_edge on ends =
    let there : EndsWith view edge u old new fault = subst (λ (b : Batch). EndsWith view edge u b new fault) same_batch (subst (λ (e : Option Edge). EndsWith view e u mid new fault) same_edge ends) in
    λ owner all brought h. there owner all brought (on owner all brought h)
