-- A member's log is begun with, goes on, and is through.
use Rattle.std.proofs.Common.{◌≡◌, ⊎_elim, ℕ, ◌+◌, List, [], ◌∷◌, ◌++◌, map, take, drop, Contains, Option, None, Result, Ok, Err, IfOk, refl, sym, ap, ◌∙◌, subst}
use Rattle.std.proofs.lemmas.List.{append-nil, append_assoc, map-append}
use Rattle.std.proofs.lemmas.List.Elements.{Contains-append_left, Contains-append_right, Contains-append_cases}
use Rattle.ivy_base.specs.declared.key.PubKey.{PubKey}
use Rattle.ivy_base.specs.declared.memory.Memory.{Memory}
use Rattle.ivy_base.specs.Naming.{head_key_of}
use Rattle.log_model.specs.View.{View}
use Rattle.log_model.specs.Vector.{Stamp, Vector, stamp_at, seq_of}
use Rattle.log_model.specs.Record.{Record}
use Rattle.log_model.proofs.Lists.{each_append, here, in_cons, in_nothing}
use Rattle.log_model.specs.declared.chain_fault.ChainFault.{ChainFault}
use Rattle.log_model.specs.Fetched.{Edge, GoesOnFrom, owner_of, stamp_in}
use Rattle.log_records.specs.Batches.{Batch, AreUnder, owners_in}
use Rattle.agent_model.specs.Standing as agent
use Rattle.agent_model.specs.Standing.{chain_of}
use Rattle.session_model.specs.Brought.{Brought, BlockOf}
use Rattle.session_model.specs.Refreshing as session
use Rattle.session_model.specs.Refreshing.{RefreshEnd, FetchesAll, end_of_log, chains_of}
use Rattle.session_model.specs.Walks.{Tries, LogEnd, Lacks, Stops, Gives, GivesNone}
use Rattle.log_fetch.specs.declared.trial.Settled.{Settled}
use Rattle.log_fetch.specs.declared.trial.Settled.TheVariants as settled
use Rattle.log_fetch.specs.Order.{AreToTry}
use Rattle.log_fetch.specs.Trying.{Trying, HasTried, GivesTo}
use Rattle.log_fetch.specs.declared.gather.Known.{Known}
use Rattle.log_fetch.specs.declared.gather.Passed.{Passed}
use Rattle.log_fetch.specs.declared.note.Note.{Note}
use Rattle.log_fetch.specs.Edges.{edge_in}
use Rattle.log_fetch.specs.Gathering.{HeadsCame, HasPassed, IsPassing, IsNext, PassesAs, StandsWith, BeginsLog, GoesOnLog, at_behind, noted_for, one_more, seen}
use Rattle.log_fetch.specs.Logs.{StandsAt, Opens, GoesOn}
use Rattle.log_fetch.specs.Standings.{note_of}
use Rattle.log_fetch.proofs.Gathered.{one_through, same_notes}
use Rattle.log_fetch.proofs.Given.{gives_own}
use Rattle.log_fetch.proofs.Members.{is_new, take_more}

pub not_passed : (k : Known) (p : Passed) (owner : PubKey) → IsPassing k p → IsNext k p owner → Contains (owners_in p.batch.chains) owner → ⊥
not_passed k p owner passing next c = is_new k.view p.at owner (drop (p.at + 1) k.view.members) next.is_view next.owner_is (passing.of_passed owner c)

only : {X : Type 0} (x y : X) → Contains (x ∷ []) y → x ≡ y
only x y c = ⊎_elim (λ e. e) (λ d. absurd (in_nothing y d)) (in_cons x [] y c)

module _ (k : Known) (old new : Passed) (batch : Batch) (owner : PubKey) (floor_is : old.batch.floor ≡ k.floor) where
  passes_on : (all : List Stamp) (brought : List Brought) (s : Settled) (waits : Option Trying) → StandsAt k.view owner (edge_in k.edges (head_key_of owner)) all brought old.batch batch s → PassesAs (record old { batch = batch }) new owner s waits
      → StandsWith k old new owner all brought waits
  passes_on all brought (settled.Waits t) waits stands is =
      let same : new ≡ old = is.1 ∙ ap (λ (b : Batch). record old { batch = b }) stands.0 in
      let tried : HasTried k.view owner old.batch.held k.floor (edge_in k.edges (head_key_of owner)) all brought t =
      subst (λ (v : Vector). HasTried k.view owner old.batch.held v (edge_in k.edges (head_key_of owner)) all brought t) floor_is stands.3 in
      subst (StandsWith k old new owner all brought) (sym is.0) (same, stands.1, stands.2, tried)
  passes_on all brought (settled.Over first) waits stands is =
      let batch_is : new.batch ≡ batch = ap (λ (p : Passed). p.batch) is.1 in
      let tries : Tries (record { view = k.view; owner = owner; start = old.batch.held; floor = k.floor; edge = edge_in k.edges (head_key_of owner) }) all brought stands.0 stands.1 =
      subst (λ (v : Vector). Tries (record { view = k.view; owner = owner; start = old.batch.held; floor = v; edge = edge_in k.edges (head_key_of owner) }) all brought stands.0 stands.1) floor_is stands.2 in
      let noted : noted_for (head_key_of owner) first ≡ map note_of (session.note_of (head_key_of owner) stands.0) = ap (noted_for (head_key_of owner)) stands.3 ∙ same_notes (head_key_of owner) stands.0 in
      let new_is : new ≡ one_more old new.batch (map note_of (session.note_of (head_key_of owner) stands.0)) =
      is.1 ∙ ap (λ (b : Batch). one_more old b (noted_for (head_key_of owner) first)) (sym batch_is) ∙ ap (one_more old new.batch) noted in
      subst (StandsWith k old new owner all brought) (sym is.0) (stands.0, stands.1, tries, subst (λ (b : Batch). GivesTo old.batch b stands.1) (sym batch_is) stands.4, new_is)

  begins : (heads : List Stamp) (s : Settled) (waits : Option Trying) → Opens k.view owner (edge_in k.edges (head_key_of owner)) heads old.batch batch s → PassesAs (record old { batch = batch }) new owner s waits
      → BeginsLog k old new owner heads waits
  begins heads s waits opens is = (
    opens.0,
    subst (λ (v : Vector). AreToTry heads (stamp_at v (head_key_of owner)) (seq_of old.batch.held (head_key_of owner)) opens.0) floor_is opens.1,
    passes_on opens.0 [] s waits opens.2 is,
  )

  goes : (t : Trying) (bytes : List ℕ) (s : Settled) (waits : Option Trying) → GoesOn k.view owner (edge_in k.edges (head_key_of owner)) t bytes old.batch batch s → PassesAs (record old { batch = batch }) new owner s waits
      → GoesOnLog k old new owner t bytes waits
  goes t bytes s waits on is = λ all brought h.
      passes_on all (brought ++ BlockOf t.walk.next (Ok bytes) ∷ []) s waits
      (on all brought (subst (λ (v : Vector). HasTried k.view owner old.batch.held v (edge_in k.edges (head_key_of owner)) all brought t) (sym floor_is) h)) is

  pub begins_log : (heads : List Stamp) (s : Settled) → Opens k.view owner (edge_in k.edges (head_key_of owner)) heads old.batch batch s → (r : Result (Option Trying) Memory)
      → IfOk r (PassesAs (record old { batch = batch }) new owner s) → IfOk r (BeginsLog k old new owner heads)
  begins_log heads s opens (Ok waits) is = begins heads s waits opens is
  begins_log heads s opens (Err e) is = tt

  pub goes_on_log : (t : Trying) (bytes : List ℕ) (s : Settled) → GoesOn k.view owner (edge_in k.edges (head_key_of owner)) t bytes old.batch batch s → (r : Result (Option Trying) Memory)
      → IfOk r (PassesAs (record old { batch = batch }) new owner s) → IfOk r (GoesOnLog k old new owner t bytes)
  goes_on_log t bytes s on (Ok waits) is = goes t bytes s waits on is
  goes_on_log t bytes s on (Err e) is = tt

-- ---- one more member is through

over_is : (old new : Batch) (end : LogEnd) → GivesTo old new end → end_of_log end ≡ None
over_is old new (Lacks want) gives = absurd gives
over_is old new (Stops miss) gives = absurd gives
over_is old new (Gives records) gives = refl
over_is old new GivesNone gives = refl

held_is : (old new : Batch) (end : LogEnd) → GivesTo old new end → new.held ≡ old.held
held_is old new (Lacks want) gives = absurd gives
held_is old new (Stops miss) gives = absurd gives
held_is old new (Gives records) gives = ap (λ (b : Batch). b.held) gives.1
held_is old new GivesNone gives = ap (λ (b : Batch). b.held) gives

module _ (view : View) (owner : PubKey) (old new : Batch) (floor : Vector) (edge : Option Edge) (all : List Stamp) (brought : List Brought) (faults : List ChainFault) where
  chains_grow : (end : LogEnd) → Tries (record { view = view; owner = owner; start = old.held; floor = floor; edge = edge }) all brought faults end → GivesTo old new end → map chain_of new.chains ≡ map chain_of old.chains ++ chains_of owner end
  chains_grow (Lacks want) tries gives = absurd gives
  chains_grow (Stops miss) tries gives = absurd gives
  chains_grow (Gives records) tries gives =
      ap (λ (b : Batch). map chain_of b.chains) gives.1 ∙ map-append chain_of old.chains ((gives.0, records) ∷ [])
      ∙ ap (λ (o : PubKey). map chain_of old.chains ++ record { owner = o; records = records } ∷ []) (gives_own view owner old.held floor edge tries).0
  chains_grow GivesNone tries gives = ap (λ (b : Batch). map chain_of b.chains) gives ∙ sym (append-nil (map chain_of old.chains))

module _ (k : Known) (old new : Passed) (owner : PubKey) (next : IsNext k old owner) (all : List Stamp) (walked : List Brought) (stands : StandsWith k old new owner all walked None) where
  at_is : new.at ≡ old.at + 1
  at_is = ap (λ (p : Passed). p.at) stands.4

  notes_is : new.notes ≡ old.notes ++ map note_of (session.note_of (head_key_of owner) stands.0)
  notes_is = ap (λ (p : Passed). p.notes) stands.4

  -- whatever becomes of the others, it becomes of this one and them
  pub one_passed : (start : Vector) (before : List Brought) → HasPassed k start before old → (came : List Brought) → HeadsCame (seen k) start owner came all → HasPassed k start (before ++ (came ++ walked)) new
  one_passed start before h came heads_came = record {
    started = held_is old.batch new.batch stands.1 stands.3 ∙ h.started;
    noted = h.noted ++ session.note_of (head_key_of owner) stands.0;
    notes_are = notes_is ∙ ap (λ (n : List Note). n ++ map note_of (session.note_of (head_key_of owner) stands.0)) h.notes_are ∙ sym (map-append note_of h.noted (session.note_of (head_key_of owner) stands.0));
    goes_on = on;
  }
    where
      tries : Tries (record { view = k.view; owner = owner; start = start; floor = k.floor; edge = edge_in k.edges (head_key_of owner) }) all walked stands.0 stands.1
      tries = subst (λ (v : Vector). Tries (record { view = k.view; owner = owner; start = v; floor = k.floor; edge = edge_in k.edges (head_key_of owner) }) all walked stands.0 stands.1) h.started stands.2

      own_notes : List session.Note
      own_notes = session.note_of (head_key_of owner) stands.0

      own_chains : List agent.Chain
      own_chains = chains_of owner stands.1

      grown : map chain_of new.batch.chains ≡ map chain_of old.batch.chains ++ own_chains
      grown = chains_grow k.view owner old.batch new.batch k.floor (edge_in k.edges (head_key_of owner)) all walked stands.0 stands.1 stands.2 stands.3

      on : {more : List Brought} {others : List session.Note} {chains : List agent.Chain} {end : RefreshEnd} → FetchesAll (record { standing = seen k; start = start }) (drop new.at k.view.members) more others chains end
          → FetchesAll (record { standing = seen k; start = start }) k.view.members ((before ++ (came ++ walked)) ++ more) ((h.noted ++ own_notes) ++ others) (map chain_of new.batch.chains ++ chains) end
      on {more} {others} {chains} {end} fetches =
          let rest : FetchesAll (record { standing = seen k; start = start }) (drop (old.at + 1) k.view.members) more others chains end =
          subst (λ (n : ℕ). FetchesAll (record { standing = seen k; start = start }) (drop n k.view.members) more others chains end) at_is fetches in
          let these : FetchesAll (record { standing = seen k; start = start }) (owner ∷ drop (old.at + 1) k.view.members) ((came ++ walked) ++ more) (own_notes ++ others) (own_chains ++ chains) end =
          one_through (seen k) start owner (drop (old.at + 1) k.view.members) came walked all stands.0 stands.1 heads_came tries (over_is old.batch new.batch stands.1 stands.3) rest in
          let whole : FetchesAll (record { standing = seen k; start = start }) k.view.members (before ++ ((came ++ walked) ++ more)) (h.noted ++ (own_notes ++ others)) (map chain_of old.batch.chains ++ (own_chains ++ chains)) end =
          h.goes_on (subst (λ (l : List PubKey). FetchesAll (record { standing = seen k; start = start }) l ((came ++ walked) ++ more) (own_notes ++ others) (own_chains ++ chains) end) (sym next.owner_is) these) in
          subst (λ (b : List Brought). FetchesAll (record { standing = seen k; start = start }) k.view.members b ((h.noted ++ own_notes) ++ others) (map chain_of new.batch.chains ++ chains) end) (sym (append_assoc before (came ++ walked) more))
          (subst (λ (n : List session.Note). FetchesAll (record { standing = seen k; start = start }) k.view.members (before ++ ((came ++ walked) ++ more)) n (map chain_of new.batch.chains ++ chains) end) (sym (append_assoc h.noted own_notes others))
          (subst (λ (c : List agent.Chain). FetchesAll (record { standing = seen k; start = start }) k.view.members (before ++ ((came ++ walked) ++ more)) (h.noted ++ (own_notes ++ others)) c end)
          (sym (ap (λ (c : List agent.Chain). c ++ chains) grown ∙ append_assoc (map chain_of old.batch.chains) own_chains chains)) whole))

  -- and the batch is as it is to be
  pub still_passing : IsPassing k old → IsPassing k new
  still_passing passing = by stands.1 stands.2 stands.3
    where
      one_longer : take new.at k.view.members ≡ take old.at k.view.members ++ owner ∷ []
      one_longer = ap (λ (n : ℕ). take n k.view.members) at_is ∙ take_more k.view.members old.at owner (drop (old.at + 1) k.view.members) next.owner_is

      among : (o : PubKey) → Contains (take old.at k.view.members) o → Contains (take new.at k.view.members) o
      among o c = subst (λ (l : List PubKey). Contains l o) (sym one_longer) (Contains-append_left (take old.at k.view.members) (owner ∷ []) o c)

      this_one : Contains (take new.at k.view.members) owner
      this_one = subst (λ (l : List PubKey). Contains l owner) (sym one_longer) (Contains-append_right (take old.at k.view.members) (owner ∷ []) owner (here owner []))

      same : new.batch ≡ old.batch → IsPassing k new
      same e = record {
        floor_is = ap (λ (b : Batch). b.floor) e ∙ passing.floor_is;
        of_passed = λ o c. among o (passing.of_passed o (subst (λ (b : Batch). Contains (owners_in b.chains) o) e c));
        under = subst (AreUnder k.view (edge_in k.edges)) (sym e) passing.under;
      }

      IsUnder : Stamp × List Record → Type 0
      IsUnder c = GoesOnFrom k.view (stamp_in old.batch.held c.1) (edge_in k.edges (head_key_of (owner_of c.1))) c.1

      taken : (t : Stamp) (records : List Record) → owner_of records ≡ owner → GoesOnFrom k.view (stamp_in old.batch.held records) (edge_in k.edges (head_key_of owner)) records
          → new.batch ≡ record old.batch { chains = old.batch.chains ++ (t, records) ∷ [] } → IsPassing k new
      taken t records own onward e = record {
        floor_is = ap (λ (b : Batch). b.floor) e ∙ passing.floor_is;
        of_passed = λ o c.
            let owners : owners_in new.batch.chains ≡ owners_in old.batch.chains ++ owner_of records ∷ [] = ap (λ (b : Batch). owners_in b.chains) e ∙ map-append (λ (x : Stamp × List Record). owner_of x.1) old.batch.chains ((t, records) ∷ []) in
            ⊎_elim (λ d. among o (passing.of_passed o d)) (λ d. subst (Contains (take new.at k.view.members)) (sym own ∙ only (owner_of records) o d) this_one)
            (Contains-append_cases (owners_in old.batch.chains) (owner_of records ∷ []) o (subst (λ (l : List PubKey). Contains l o) owners c));
        under = subst (AreUnder k.view (edge_in k.edges)) (sym e)
            (each_append IsUnder old.batch.chains ((t, records) ∷ []) passing.under
            (subst (λ (p : PubKey). GoesOnFrom k.view (stamp_in old.batch.held records) (edge_in k.edges (head_key_of p)) records) (sym own) onward, tt));
      }

      by : (end : LogEnd) → Tries (record { view = k.view; owner = owner; start = old.batch.held; floor = k.floor; edge = edge_in k.edges (head_key_of owner) }) all walked stands.0 end → GivesTo old.batch new.batch end → IsPassing k new
      by (Lacks want) tries gives = absurd gives
      by (Stops miss) tries gives = absurd gives
      by (Gives records) tries gives = let own = gives_own k.view owner old.batch.held k.floor (edge_in k.edges (head_key_of owner)) tries in taken gives.0 records own.0 own.1 gives.1
      by GivesNone tries gives = same gives

-- only the batch tells, and how many are through
pub same_passing : (k : Known) (old new : Passed) → new.batch ≡ old.batch → new.at ≡ old.at → IsPassing k old → IsPassing k new
same_passing k old new batch at passing = record {
  floor_is = ap (λ (b : Batch). b.floor) batch ∙ passing.floor_is;
  of_passed = λ o c. subst (λ (n : ℕ). Contains (take n k.view.members) o) (sym at) (passing.of_passed o (subst (λ (b : Batch). Contains (owners_in b.chains) o) batch c));
  under = subst (AreUnder k.view (edge_in k.edges)) (sym batch) passing.under;
}

-- so the batch is as it is to be also where memory was wanted for the notes
pub settled_passing : (k : Known) (old new : Passed) (batch : Batch) (owner : PubKey) → IsPassing k old → IsNext k old owner → (all : List Stamp) (brought : List Brought) (s : Settled)
    → StandsAt k.view owner (edge_in k.edges (head_key_of owner)) all brought old.batch batch s → new.batch ≡ batch → new.at ≡ at_behind old.at s → IsPassing k new
settled_passing k old new batch owner passing next all brought (settled.Waits t) stands batch_is at_is = same_passing k old new (batch_is ∙ stands.0) at_is passing
settled_passing k old new batch owner passing next all brought (settled.Over first) stands batch_is at_is =
    let through : Passed = one_more (record old { batch = batch }) batch (noted_for (head_key_of owner) first) in
    same_passing k through new batch_is at_is (still_passing k old through owner next all brought (passes_on k old through batch owner passing.floor_is all brought (settled.Over first) None stands (refl, refl)) passing)
