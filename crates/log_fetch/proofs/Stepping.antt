-- What the fetch wants by how far it has come, and how it ends.
use Rattle.std.specs.Prelude.{◌≢◌, false}
use Rattle.std.proofs.Common.{◌≡◌, ℕ, zero, suc, List, [], ◌∷◌, ◌++◌, map, drop, Contains, Option, Some, None, Ok, Err, refl, sym, ap, ◌∙◌, subst}
use Rattle.std.proofs.lemmas.List.{append-nil, append_assoc, map-append}
use Rattle.ivy_base.specs.declared.key.Key.{Key}
use Rattle.ivy_base.specs.declared.key.PubKey.{PubKey}
use Rattle.log_model.specs.Vector.{Vector}
use Rattle.dht_ids.specs.declared.judge.Judged.{Judged}
use Rattle.dhash_model.specs.declared.miss.Miss.{Miss}
use Rattle.log_records.specs.Batches.{Batch, AreUnder, owners_in}
use Rattle.agent_model.specs.Standing as agent
use Rattle.agent_model.specs.Standing.{chain_of}
use Rattle.session_model.specs.Brought.{Brought, HeadsOf, BlockOf, Heads, Content}
use Rattle.session_model.specs.Refreshing as session
use Rattle.session_model.specs.Refreshing.{RefreshEnd, Needs, FailsBy, Done, FetchesAll}
use Rattle.log_fetch.specs.Walking.{wanted_at, wanted_of}
use Rattle.log_fetch.specs.Trying.{Trying}
use Rattle.log_fetch.specs.declared.fetch.Fetched.{Fetched}
use Rattle.log_fetch.specs.declared.fetch.State.TheVariants as state
use Rattle.log_fetch.specs.declared.fetch.Step.TheVariants as step
use Rattle.log_fetch.specs.declared.gather.Stage.{Stage}
use Rattle.log_fetch.specs.declared.gather.Stage.TheVariants as stage
use Rattle.log_fetch.specs.declared.get.Came.{Came}
use Rattle.log_fetch.specs.declared.get.Came.TheVariants as came
use Rattle.log_fetch.specs.declared.note.Note.{Note}
use Rattle.log_fetch.specs.Edges.{edge_in}
use Rattle.log_fetch.specs.Gathering.{Gathering, StandsSo, Gathers, IsGathering, HeadsGathered, BlockGathered, heads_wanted, block_wanted, gets_in, noted_at, seen}
use Rattle.log_fetch.specs.Standings.{note_of, note_of_miss}
use Rattle.log_fetch.specs.Fetching.{EndsAs, block_in, is_miss, most_asks}
use Rattle.log_fetch.specs.Stepping.{CameAs, IsMiss, GathersMore, Takes, FailsWith, StandsBehind, LeavesNoMore}
use Rattle.log_fetch.proofs.Gathered.{heads_lack, heads_miss, log_lacks, log_misses, all_done_at}
use Rattle.log_fetch.proofs.Members.{in_take}
use Rattle.log_fetch.proofs.Advancing.{in_progress}
use Rattle.log_fetch.proofs.Falling.{fewer}
use Rattle.log_fetch.proofs.Taking.{is_heads}

some_same : {A : Type 0} {x y : A} → Some x ≡ Some y → x ≡ y
some_same e = cc e

-- the trial whose block is wanted
pub record OfBlock (at : Stage) (key : Key) : Type 0 where
  pub trial : Trying
  pub at_is : at ≡ stage.Log trial
  pub key_is : wanted_of trial.walk ≡ Some key

pub of_block : (at : Stage) (key : Key) → block_wanted at ≡ Some key → OfBlock at key
of_block (stage.Heads owner) key e = cc e
of_block (stage.Log t) key e = record { trial = t; at_is = refl; key_is = e }
of_block stage.Through key e = cc e

module _ (start : Vector) (brought : List Brought) (g : Gathering) (h : Gathers start brought g) where
  abbrev Comes : List Brought → List session.Note → RefreshEnd → Type 0
  Comes more notes end = FetchesAll (record { standing = seen g.known; start = start }) g.known.view.members more notes (map chain_of g.passed.batch.chains ++ []) end

  -- what becomes of the members that are left becomes of all
  comes : (more : List Brought) (notes : List session.Note) (end : RefreshEnd) → FetchesAll (record { standing = seen g.known; start = start }) (drop g.passed.at g.known.view.members) more notes [] end → Comes (h.before ++ more) (h.passed.noted ++ notes) end
  comes more notes end fetches = h.passed.goes_on fetches

  same : (what : List Brought) → h.before ++ (h.now ++ what) ≡ brought ++ what
  same what = sym (append_assoc h.before h.now what) ∙ ap (λ (b : List Brought). b ++ what) (sym h.brought_is)

  pub heads_needed : (owner : PubKey) → heads_wanted g.stage ≡ Some owner → Comes brought (h.passed.noted ++ []) (Needs (Heads owner))
  heads_needed owner e =
      subst (λ (b : List Brought). Comes b (h.passed.noted ++ []) (Needs (Heads owner))) (sym h.brought_is)
      (comes h.now [] (Needs (Heads owner)) (heads_lack (seen g.known) start (drop g.passed.at g.known.view.members) h.now owner
      (subst (StandsSo (seen g.known) start (drop g.passed.at g.known.view.members) h.now) (is_heads g.stage owner e) h.stands)))

  pub heads_missed : (owner : PubKey) → heads_wanted g.stage ≡ Some owner → (miss : Miss) → Comes (brought ++ HeadsOf owner (Err miss) ∷ []) (h.passed.noted ++ []) (FailsBy miss)
  heads_missed owner e miss =
      subst (λ (b : List Brought). Comes b (h.passed.noted ++ []) (FailsBy miss)) (same (HeadsOf owner (Err miss) ∷ []))
      (comes (h.now ++ HeadsOf owner (Err miss) ∷ []) [] (FailsBy miss) (heads_miss (seen g.known) start (drop g.passed.at g.known.view.members) h.now owner
      (subst (StandsSo (seen g.known) start (drop g.passed.at g.known.view.members) h.now) (is_heads g.stage owner e) h.stands) miss))

  pub block_needed : (key : Key) → block_wanted g.stage ≡ Some key → (notes : List session.Note) × Comes brought notes (Needs (Content key))
  block_needed key e =
      let b = of_block g.stage key e in
      let w = log_lacks (seen g.known) start (drop g.passed.at g.known.view.members) h.now b.trial (subst (StandsSo (seen g.known) start (drop g.passed.at g.known.view.members) h.now) b.at_is h.stands) key b.key_is in
      (h.passed.noted ++ w.0, subst (λ (l : List Brought). Comes l (h.passed.noted ++ w.0) (Needs (Content key))) (sym h.brought_is) (comes h.now w.0 (Needs (Content key)) w.1))

  pub block_missed : (key : Key) → block_wanted g.stage ≡ Some key → (miss : Miss) → (notes : List session.Note) × Comes (brought ++ BlockOf key (Err miss) ∷ []) notes (FailsBy miss) × (g.passed.notes ++ noted_at g.stage ≡ map note_of notes)
  block_missed key e miss =
      let b = of_block g.stage key e in
      let w = log_misses (seen g.known) start (drop g.passed.at g.known.view.members) h.now b.trial (subst (StandsSo (seen g.known) start (drop g.passed.at g.known.view.members) h.now) b.at_is h.stands) key b.key_is miss in (
        h.passed.noted ++ w.0,
        subst (λ (l : List Brought). Comes l (h.passed.noted ++ w.0) (FailsBy miss)) (same (BlockOf key (Err miss) ∷ [])) (comes (h.now ++ BlockOf key (Err miss) ∷ []) w.0 (FailsBy miss) w.1),
        ap (λ (s : Stage). g.passed.notes ++ noted_at s) b.at_is ∙ ap (λ (n : List Note). g.passed.notes ++ n) w.2 ∙ ap (λ (n : List Note). n ++ map note_of w.0) h.passed.notes_are ∙ sym (map-append note_of h.passed.noted w.0),
      )

  pub all_through : g.stage ≡ stage.Through → Comes brought (h.passed.noted ++ []) Done
  all_through e =
      subst (λ (b : List Brought). Comes b (h.passed.noted ++ []) Done) (sym h.brought_is)
      (comes h.now [] Done (all_done_at (seen g.known) start (drop g.passed.at g.known.view.members) h.now (subst (StandsSo (seen g.known) start (drop g.passed.at g.known.view.members) h.now) e h.stands)))

  -- without a log in progress the notes are those of the members that are through
  pub same_noted : noted_at g.stage ≡ [] → g.passed.notes ++ noted_at g.stage ≡ map note_of (h.passed.noted ++ [])
  same_noted e = ap (λ (n : List Note). g.passed.notes ++ n) e ∙ append-nil g.passed.notes ∙ h.passed.notes_are ∙ ap (map note_of) (sym (append-nil h.passed.noted))

-- ---- it fails

heads_note_nothing : (at : Stage) (owner : PubKey) → heads_wanted at ≡ Some owner → noted_at at ≡ []
heads_note_nothing at owner e = ap noted_at (is_heads at owner e)

module _ (g : Gathering) (miss : Miss) (fetched : Fetched) (fails : FailsWith g miss fetched) where
  pub fails_by : (given : Came) → IsMiss given miss → (start : Vector) (brought : List Brought) (what : Brought) → CameAs g.stage given what → Gathers start brought g → EndsAs (seen g.known) start (brought ++ what ∷ []) fetched (FailsBy miss)
  fails_by (came.Heads given) none start brought what is h =
      subst (λ (b : Brought). EndsAs (seen g.known) start (brought ++ b ∷ []) fetched (FailsBy miss)) (sym (is.2 ∙ ap (HeadsOf is.0) none)) (
        h.passed.noted ++ [],
        map chain_of g.passed.batch.chains ++ [],
        heads_missed start brought g h is.0 is.1 miss,
        (fails.0, fails.1 ∙ ap (λ (n : List Note). n ++ note_of_miss miss ∷ []) (same_noted start brought g h (heads_note_nothing g.stage is.0 is.1))),
      )
  fails_by (came.Block given) none start brought what is h =
      let w = block_missed start brought g h is.0 is.1 miss in
      subst (λ (b : Brought). EndsAs (seen g.known) start (brought ++ b ∷ []) fetched (FailsBy miss)) (sym (is.2 ∙ ap (BlockOf is.0) none)) (
        w.0,
        map chain_of g.passed.batch.chains ++ [],
        w.1,
        (fails.0, fails.1 ∙ ap (λ (n : List Note). n ++ note_of_miss miss ∷ []) w.2),
      )

-- a miss hands out no block
no_block : (at : Stage) (given : Came) (miss : Miss) (what : Brought) → IsMiss given miss → CameAs at given what → None ≡ block_in what
no_block at (came.Heads given) miss what none is = ap block_in (sym (is.2 ∙ ap (HeadsOf is.0) none))
no_block at (came.Block given) miss what none is = ap block_in (sym (is.2 ∙ ap (BlockOf is.0) none))

module _ (J : Type 0) (g new : Gathering) (given : Came) where
  pub stands_free : (back : Option (Key × List ℕ)) → Takes g given new (step.Takes back) → StandsBehind {J = J} g given (state.Free new, back)
  stands_free back takes = takes.1

  pub free_leaves : (back : Option (Key × List ℕ)) → Takes g given new (step.Takes back) → LeavesNoMore {J = J} g (state.Free new)
  free_leaves back takes = fewer most_asks (gets_in new) (gets_in g) takes.0

  pub stands_ended : (miss : Miss) → Takes g given new (step.Fails miss) → (fetched : Fetched) → FailsWith new miss fetched → StandsBehind {J = J} g given (state.Ended fetched, None)
  stands_ended miss takes fetched fails = λ start brought what is h. (
    miss,
    fails_by g miss fetched (subst (λ (x : Gathering). FailsWith x miss fetched) takes.0 fails) given takes.1 start brought what is h,
    no_block g.stage given miss what takes.1 is,
  )

-- ---- a get brought something

module _ (g new : Gathering) where
  pub heads_taken : (heads : List Judged) → new.known ≡ g.known → ((owner : PubKey) → heads_wanted g.stage ≡ Some owner → HeadsGathered g owner heads new) → GathersMore g (came.Heads (Ok heads)) new None
  heads_taken heads known gathered = (
    known,
    λ start brought what is h. (
      subst (λ (b : Brought). Gathers start (brought ++ b ∷ []) new) (sym is.2) (gathered is.0 is.1 start brought h),
      ap block_in (sym is.2),
    ),
  )

  pub block_taken : (key : Key) (bytes : List ℕ) → block_wanted g.stage ≡ Some key → new.known ≡ g.known → BlockGathered g bytes new → GathersMore g (came.Block (Ok bytes)) new (Some (key, bytes))
  block_taken key bytes want known gathered = (
    known,
    λ start brought what is h. (
      subst (λ (b : Brought). Gathers start (brought ++ b ∷ []) new) (sym is.2) (gathered start brought is.0 is.1 h),
      ap (λ (k : Key). Some (k, bytes)) (some_same (sym want ∙ is.1)) ∙ ap block_in (sym is.2),
    ),
  )

-- ---- without a get on its way, something is wanted, or all is done

module _ (start : Vector) (brought : List Brought) (g : Gathering) (h : Gathers start brought g) where
  pub record GoesOn : Type 0 where
    pub notes : List session.Note
    pub chains : List agent.Chain
    pub end : RefreshEnd
    pub fetches : FetchesAll (record { standing = seen g.known; start = start }) g.known.view.members brought notes chains end
    pub no_miss : is_miss end ≡ false

  some_wanted : (left : ℕ) (next : Key) → left ≢ 0 → wanted_at left next ≡ Some next
  some_wanted zero next some = absurd (some refl)
  some_wanted (suc left) next some = refl

  pub free_goes_on : GoesOn
  free_goes_on = by g.stage refl
    where
      by : (at : Stage) → g.stage ≡ at → GoesOn
      by (stage.Heads owner) e = record {
        notes = h.passed.noted ++ [];
        chains = map chain_of g.passed.batch.chains ++ [];
        end = Needs (Heads owner);
        fetches = heads_needed start brought g h owner (ap heads_wanted e);
        no_miss = refl;
      }
      by (stage.Log t) e =
          let u = in_progress (seen g.known) start (drop g.passed.at g.known.view.members) h.now t (subst (StandsSo (seen g.known) start (drop g.passed.at g.known.view.members) h.now) e h.stands) in
          let w = block_needed start brought g h t.walk.next (ap block_wanted e ∙ some_wanted t.walk.left t.walk.next u.left) in
          record { notes = w.0; chains = map chain_of g.passed.batch.chains ++ []; end = Needs (Content t.walk.next); fetches = w.1; no_miss = refl }
      by stage.Through e = record {
        notes = h.passed.noted ++ [];
        chains = map chain_of g.passed.batch.chains ++ [];
        end = Done;
        fetches = all_through start brought g h e;
        no_miss = refl;
      }

-- ---- it is through

module _ (g : Gathering) (is : IsGathering g) (through : g.stage ≡ stage.Through) (batch : Batch) (notes : List Note) (batch_is : batch ≡ g.passed.batch) (notes_are : notes ≡ g.passed.notes ++ noted_at g.stage) where
  pub finishes : (start : Vector) (brought : List Brought) → Gathers start brought g → EndsAs (seen g.known) start brought (record { result = Ok batch; notes = notes }) Done
  finishes start brought h = (
    h.passed.noted ++ [],
    map chain_of g.passed.batch.chains ++ [],
    all_through start brought g h through,
    (
      batch,
      refl,
      ap (λ (b : Batch). b.held) batch_is ∙ h.passed.started,
      ap (λ (b : Batch). b.floor) batch_is ∙ is.passing.floor_is,
      ap (λ (b : Batch). map chain_of b.chains) batch_is ∙ sym (append-nil (map chain_of g.passed.batch.chains)),
      subst (AreUnder g.known.view (edge_in g.known.edges)) (sym batch_is) is.passing.under,
      λ owner c. in_take g.known.view.members g.passed.at owner (is.passing.of_passed owner (subst (λ (b : Batch). Contains (owners_in b.chains) owner) batch_is c)),
      notes_are ∙ same_noted start brought g h (ap noted_at through),
    ),
  )
