-- A refresh goes on, whatever comes of what it wants.
use Rattle.std.proofs.Common.{◌≡◌, inl, inr, ℕ, List, [], ◌∷◌, ◌++◌, map, Option, Some, None, Result, Ok, Err, refl, sym, ap, ◌∙◌, subst, append_assoc}
use Rattle.std.specs.Prelude.{IfSome}
use Rattle.std.proofs.lemmas.List.{append-nil}
use Rattle.ivy_base.specs.declared.key.Key.{Key}
use Rattle.ivy_base.specs.declared.key.PubKey.{PubKey}
use Rattle.ivy_base.specs.Naming.{head_key_of}
use Rattle.log_model.specs.Vector.{Stamp, Vector, seq_of, stamp_at}
use Rattle.log_model.specs.declared.chain_fault.ChainFault.{ChainFault}
use Rattle.snapshot_model.specs.Reading.{SnapshotPart}
use Rattle.dht_ids.specs.declared.judge.Judged.{Judged}
use Rattle.dhash_model.specs.declared.miss.Miss.{Miss}
use Rattle.agent_model.specs.Standing.{Chain, Refresh, Standing, edge_at}
use Rattle.session_model.specs.Brought.{Brought, HeadsOf, BlockOf, WantedOfRing, Heads, Content, stamp_of}
use Rattle.session_model.specs.Walks.{Gives, GivesNone, Lacks, LogEnd, Stops, Tries}
use Rattle.session_model.specs.Refreshing.{Done, Fetches, FetchesAll, Loaded, LoadEnd, LoadWants, Loads, LoadsFor, Needs, Note, RefreshEnd, Refreshes, chains_of, counting, end_of_log, floors_own, note_of, start_of}
use Rattle.session_model.specs.Refreshing.Fetches.{wants_heads, no_heads, of_heads, of_own}
use Rattle.session_model.specs.Refreshing.FetchesAll.{all, stays, goes_on as all_go_on}
use Rattle.session_model.specs.Refreshing.Loads.{loaded, no_whole, wants, misses, garbled, goes_on}
use Rattle.session_model.specs.Refreshing.LoadsFor.{none as nothing_to_load, some as snapshot_to_load}
use Rattle.session_model.specs.Refreshing.Refreshes.{loading, fetching}
use Rattle.turn_laws.proofs.SomeCandidate.{owner_known}
use Rattle.session_laws.specs.Going.{ComesTo, IsOfWant, RefreshBegins, RefreshGoesOn, SnapshotsAreDecided}
use Rattle.session_laws.proofs.GoingExecution.{TriesTo, tries_begin, tries_go_on, tries_lack}
use Rattle.session_laws.proofs.GoingHeads.{tried_of}

-- ---- one log

module _ (s : Standing) (start : Vector) where
  pub record FetchesTo (owner : PubKey) (brought : List Brought) : Type 0 where
    pub notes : List Note
    pub end : LogEnd
    pub fetches : Fetches (record { standing = s; start = start }) owner brought notes end

  module _ (owner : PubKey) where
    -- the floor's own record, where it is to be fetched
    abbrev last : List Stamp
    last = floors_own (stamp_at s.floor (head_key_of owner)) (seq_of start (head_key_of owner))

    abbrev Reaches : List Stamp → List Brought → Type 0
    Reaches = TriesTo s.view owner start s.floor (edge_at s (head_key_of owner))

    tries_on : {ts : List Stamp} {brought : List Brought} {faults : List ChainFault} {end : LogEnd} (want : WantedOfRing) (came : Brought) → IsOfWant want came
        → Tries (record { view = s.view; owner = owner; start = start; floor = s.floor; edge = edge_at s (head_key_of owner) }) ts brought faults end → end ≡ Lacks want → Reaches ts (brought ++ came ∷ [])
    tries_on {ts} {brought} (Content key) (BlockOf name came) same tries is =
        subst (λ (k : Key). Reaches ts (brought ++ BlockOf k came ∷ [])) (sym same) (tries_go_on s.view owner start s.floor (edge_at s (head_key_of owner)) key came tries is)
    tries_on (Content key) (HeadsOf log came) same tries is = absurd same
    tries_on (Heads of) came same tries is = absurd (tries_lack s.view owner start s.floor (edge_at s (head_key_of owner)) of tries is)

    fetch_begins : FetchesTo owner []
    fetch_begins = elim (owner_known owner s.own) [
      | inl own ↦ (let t : Reaches last [] = tries_begin s.view owner start s.floor (edge_at s (head_key_of owner)) last in record { notes = note_of (head_key_of owner) t.faults; end = t.end; fetches = of_own [] t.faults t.end own t.tries })
      | inr other ↦ record { notes = []; end = Lacks (Heads owner); fetches = wants_heads other }
    ]

    same_owner : (a b : PubKey) → Lacks (Heads a) ≡ Lacks (Heads b) → a ≡ b
    same_owner a b e = cc e

    -- the heads came, or didn't
    heads_next : (owner ≡ s.own → ⊥) → (want : WantedOfRing) (came : Brought) → IsOfWant want came → Lacks (Heads owner) ≡ Lacks want → FetchesTo owner (came ∷ [])
    heads_next other (Heads of) (HeadsOf log came) same is = subst (λ (o : PubKey). FetchesTo owner (HeadsOf o came ∷ [])) (same_owner owner of is ∙ sym same) (by came)
      where
        by : (got : Result (List Judged) Miss) → FetchesTo owner (HeadsOf owner got ∷ [])
        by (Err miss) = record { notes = []; end = Stops miss; fetches = no_heads miss other }
        by (Ok heads) =
            let tried = tried_of (seq_of s.floor (head_key_of owner)) (map stamp_of heads) in
            let t : Reaches (tried.0 ++ last) [] = tries_begin s.view owner start s.floor (edge_at s (head_key_of owner)) (tried.0 ++ last) in
            record { notes = note_of (head_key_of owner) t.faults; end = t.end; fetches = of_heads heads tried.0 [] t.faults t.end other tried.1 t.tries }
    heads_next other (Heads of) (BlockOf name came) same is = absurd same
    heads_next other (Content key) came same is = absurd (cc is)

    fetch_goes_on : {brought : List Brought} {notes : List Note} {end : LogEnd} (want : WantedOfRing) (came : Brought) → IsOfWant want came → Fetches (record { standing = s; start = start }) owner brought notes end → end ≡ Lacks want → FetchesTo owner (brought ++ came ∷ [])
    fetch_goes_on want came of (wants_heads other) is = heads_next other want came of is
    fetch_goes_on want came of (no_heads miss other) is = absurd (cc is)
    fetch_goes_on want came of (of_heads heads tried brought faults end other are tries) is =
        let t : Reaches (tried ++ last) (brought ++ came ∷ []) = tries_on want came of tries is in
        record { notes = note_of (head_key_of owner) t.faults; end = t.end; fetches = of_heads heads tried (brought ++ came ∷ []) t.faults t.end other are t.tries }
    fetch_goes_on want came of (of_own brought faults end own tries) is =
        let t : Reaches last (brought ++ came ∷ []) = tries_on want came of tries is in
        record { notes = note_of (head_key_of owner) t.faults; end = t.end; fetches = of_own (brought ++ came ∷ []) t.faults t.end own t.tries }

  -- ---- all members

  pub record AllCome (owners : List PubKey) (brought : List Brought) : Type 0 where
    pub notes : List Note
    pub chains : List Chain
    pub end : RefreshEnd
    pub fetches : FetchesAll (record { standing = s; start = start }) owners brought notes chains end

  -- one log, and the logs after it, where their first has been brought nothing
  with_fetch : (owner : PubKey) (owners : List PubKey) (brought : List Brought) → FetchesTo owner brought → AllCome owners [] → AllCome (owner ∷ owners) brought
  with_fetch owner owners brought f others = by (end_of_log f.end) refl
    where
      by : (o : Option RefreshEnd) → end_of_log f.end ≡ o → AllCome (owner ∷ owners) brought
      by (Some end) is = record { notes = f.notes; chains = []; end = end; fetches = stays f.fetches is }
      by None is = subst (AllCome (owner ∷ owners)) (append-nil brought)
          (record { notes = f.notes ++ others.notes; chains = chains_of owner f.end ++ others.chains; end = others.end; fetches = all_go_on f.fetches is others.fetches })

  pub all_begin : (owners : List PubKey) → AllCome owners []
  all_begin [] = record { notes = []; chains = []; end = Done; fetches = all }
  all_begin (owner ∷ owners) = with_fetch owner owners [] (fetch_begins owner) (all_begin owners)

  lacks_it : (log : LogEnd) (want : WantedOfRing) → end_of_log log ≡ Some (Needs want) → log ≡ Lacks want
  lacks_it (Lacks other) want e = ap Lacks (cc e)
  lacks_it (Stops miss) want e = cc e
  lacks_it (Gives records) want e = cc e
  lacks_it GivesNone want e = cc e

  pub all_goes_on : {owners : List PubKey} {brought : List Brought} {notes : List Note} {chains : List Chain} {end : RefreshEnd} (want : WantedOfRing) (came : Brought) → IsOfWant want came
      → FetchesAll (record { standing = s; start = start }) owners brought notes chains end → end ≡ Needs want → AllCome owners (brought ++ came ∷ [])
  all_goes_on want came of all is = absurd (cc is)
  all_goes_on want came of (stays {owner = owner} {owners = owners} {brought = brought} {log = log} fetch ends) is =
      with_fetch owner owners (brought ++ came ∷ []) (fetch_goes_on owner want came of fetch (lacks_it log want (ends ∙ ap Some is))) (all_begin owners)
  all_goes_on want came of (all_go_on {owner = owner} {owners = owners} {brought = brought} {more = more} {notes = notes} {log = log} fetch goes rest) is =
      let later = all_goes_on want came of rest is in
      subst (AllCome (owner ∷ owners)) (sym (append_assoc brought more (came ∷ [])))
      (record { notes = notes ++ later.notes; chains = chains_of owner log ++ later.chains; end = later.end; fetches = all_go_on fetch goes later.fetches })

-- ---- loading

module _ (decided : SnapshotsAreDecided) where
  record LoadsTo (todo : List (SnapshotPart × Key)) (read : List (List ℕ)) (brought : List Brought) : Type 0 where
    end : LoadEnd
    loads : Loads todo read brought end

  load_begins : (todo : List (SnapshotPart × Key)) (read : List (List ℕ)) → LoadsTo todo read []
  load_begins [] read = elim (decided.wholes read) [
    | inl b ↦ record { end = Loaded (Some b.0); loads = loaded b.0 b.1 }
    | inr none ↦ record { end = Loaded None; loads = no_whole none }
  ]
  load_begins ((part, key) ∷ todo) read = record { end = LoadWants key; loads = wants }

  load_next : (part : SnapshotPart) (key : Key) (todo : List (SnapshotPart × Key)) (read : List (List ℕ)) (came : Result (List ℕ) Miss) → LoadsTo ((part, key) ∷ todo) read (BlockOf key came ∷ [])
  load_next part key todo read (Err miss) = record { end = Loaded None; loads = misses miss }
  load_next part key todo read (Ok bytes) = elim (decided.parts part bytes) [
    | inr none ↦ record { end = Loaded None; loads = garbled bytes none }
    | inl n ↦ (let more : LoadsTo (n.0 ++ todo) (read ++ bytes ∷ []) [] = load_begins (n.0 ++ todo) (read ++ bytes ∷ []) in record { end = more.end; loads = goes_on bytes n.0 n.1 more.loads })
  ]

  same_wanted : (a b : Key) → LoadWants a ≡ LoadWants b → a ≡ b
  same_wanted a b e = cc e

  load_goes_on : {todo : List (SnapshotPart × Key)} {read : List (List ℕ)} {brought : List Brought} {end : LoadEnd} (wanted : Key) (came : Result (List ℕ) Miss) → Loads todo read brought end → end ≡ LoadWants wanted
      → LoadsTo todo read (brought ++ BlockOf wanted came ∷ [])
  load_goes_on wanted came (loaded b are) is = absurd (cc is)
  load_goes_on wanted came (no_whole none) is = absurd (cc is)
  load_goes_on wanted came (wants {part = part} {key = key} {todo = todo} {read = read}) is =
      subst (λ (k : Key). LoadsTo ((part, key) ∷ todo) read (BlockOf k came ∷ [])) (same_wanted key wanted is) (load_next part key todo read came)
  load_goes_on wanted came (misses miss) is = absurd (cc is)
  load_goes_on wanted came (garbled bytes none) is = absurd (cc is)
  load_goes_on wanted came (goes_on bytes named names rest) is = let later = load_goes_on wanted came rest is in record { end = later.end; loads = goes_on bytes named names later.loads }

record RootLoadsTo (root : Option Key) (brought : List Brought) : Type 0 where
  end : LoadEnd
  loads : LoadsFor root brought end

root_goes_on : {root : Option Key} {brought : List Brought} {end : LoadEnd} (wanted : Key) (came : Result (List ℕ) Miss) → IfSome root (λ name. SnapshotsAreDecided) → LoadsFor root brought end → end ≡ LoadWants wanted
    → RootLoadsTo root (brought ++ BlockOf wanted came ∷ [])
root_goes_on wanted came decided nothing_to_load is = absurd (cc is)
root_goes_on wanted came decided (snapshot_to_load loads) is = let l = load_goes_on decided wanted came loads is in record { end = l.end; loads = snapshot_to_load l.loads }

-- ---- the refresh

module _ (s : Standing) where
  -- what was loaded, and then the members
  with_load : (brought : List Brought) → RootLoadsTo s.to_load brought → ComesTo s brought
  with_load brought l = by l.end l.loads
    where
      by : (end : LoadEnd) → LoadsFor s.to_load brought end → ComesTo s brought
      by (LoadWants key) loads = record { notes = []; given = record { started = s.held; chains = []; basis = None }; end = Needs (Content key); refreshes = loading loads }
      by (Loaded basis) loads =
          let a = all_begin s (start_of s (counting s.floor basis)) s.view.members in
          subst (ComesTo s) (append-nil brought) (record {
            notes = a.notes;
            given = record { started = start_of s (counting s.floor basis); chains = a.chains; basis = counting s.floor basis };
            end = a.end;
            refreshes = fetching basis loads a.fetches;
          })

  begun_with : (root : Option Key) → RootLoadsTo root []
  begun_with None = record { end = Loaded None; loads = nothing_to_load }
  begun_with (Some root) = record { end = LoadWants root; loads = snapshot_to_load wants }

  same_needed : (a b : WantedOfRing) → Needs a ≡ Needs b → a ≡ b
  same_needed a b e = cc e

  loads_next : (brought : List Brought) (key : Key) (want : WantedOfRing) (came : Brought) → IfSome s.to_load (λ root. SnapshotsAreDecided) → IsOfWant want came → LoadsFor s.to_load brought (LoadWants key) → Content key ≡ want
      → RootLoadsTo s.to_load (brought ++ came ∷ [])
  loads_next brought key (Content wanted) (BlockOf name came) decided same loads is =
      let one : key ≡ wanted = cc is in
      subst (λ (k : Key). RootLoadsTo s.to_load (brought ++ BlockOf k came ∷ [])) (sym same) (root_goes_on wanted came decided loads (ap LoadWants one))
  loads_next brought key (Content wanted) (HeadsOf log came) decided same loads is = absurd same
  loads_next brought key (Heads owner) came decided same loads is = absurd (cc is)

  execution_goes_on : {brought : List Brought} {notes : List Note} {given : Refresh} {end : RefreshEnd} (want : WantedOfRing) (came : Brought) → IfSome s.to_load (λ root. SnapshotsAreDecided) → IsOfWant want came
      → Refreshes s brought notes given end → end ≡ Needs want → ComesTo s (brought ++ came ∷ [])
  execution_goes_on want came decided of (loading {brought = brought} {key = key} loads) is =
      with_load (brought ++ came ∷ []) (loads_next brought key want came decided of loads (same_needed (Content key) want is))
  execution_goes_on want came decided of (fetching {loaded = blocks} {brought = brought} basis loads fetches) is =
      let a = all_goes_on s (start_of s (counting s.floor basis)) want came of fetches is in
      subst (ComesTo s) (sym (append_assoc blocks brought (came ∷ []))) (record {
        notes = a.notes;
        given = record { started = start_of s (counting s.floor basis); chains = a.chains; basis = counting s.floor basis };
        end = a.end;
        refreshes = fetching basis loads a.fetches;
      })

pub refresh_begins : RefreshBegins
refresh_begins s = with_load s [] (begun_with s s.to_load)

pub refresh_goes_on : RefreshGoesOn
refresh_goes_on s brought notes given want came decided refreshes of = execution_goes_on s want came decided of refreshes refl
