-- The fetch of one log goes on, whatever comes of what it wants: walks back, heads one after the other.
use Rattle.std.proofs.Common.{◌≡◌, inl, inr, ℕ, zero, suc, ◌-◌, List, [], ◌∷◌, ◌++◌, reverse, Option, Result, Ok, Err, sym, ap, subst, append_assoc}
use Rattle.std.specs.List.{AllByRecursion}
use Rattle.std.proofs.lemmas.List.{append-nil}
use Rattle.ivy_base.specs.declared.key.Key.{Key}
use Rattle.ivy_base.specs.declared.key.PubKey.{PubKey}
use Rattle.ivy_base.specs.Naming.{head_key_of}
use Rattle.log_model.specs.View.{View}
use Rattle.log_model.specs.Vector.{Stamp, Vector, seq_of}
use Rattle.log_model.specs.Record.{Record}
use Rattle.log_model.specs.Spelling.{HasSpelling}
use Rattle.log_model.specs.Fetched.{Edge}
use Rattle.log_model.specs.declared.chain_fault.ChainFault.{ChainFault}
use Rattle.log_model.specs.declared.chain_fault.ChainFault.TheVariants.{Bad}
use Rattle.turn_laws.proofs.RecordReading.{record_or_not}
use Rattle.dhash_model.specs.declared.miss.Miss.{Miss}
use Rattle.session_model.specs.Brought.{Brought, BlockOf, Content, Heads, WantedOfRing}
use Rattle.session_model.specs.Walks.{Came, Garbled, Gives, GivesNone, Lacks, LogEnd, Misses, Stops, Tries, WalkEnd, Walks, Wants}
use Rattle.session_model.specs.Walks.Walks.{came as all_came, wants as next_wanted, misses as one_misses, garbled as one_garbled, back as one_back}
use Rattle.session_model.specs.Walks.Tries.{none as none_tried, wants as trial_wants, misses as trial_misses, gives as trial_gives, passes as trial_passes, garbled as trial_garbled}
use Rattle.session_laws.proofs.ReadBack.{each_reverse}
use Rattle.session_laws.proofs.GoingChains.{Judging, takes, fails, judging}

-- ---- walks

module _ (owner : PubKey) where
  -- the walk has come to something
  pub record WalksTo (n : ℕ) (key : Key) (brought : List Brought) : Type 0 where
    pub records : List Record
    pub end : WalkEnd
    pub walk : Walks owner n key brought records end

  pub walk_begins : (n : ℕ) (key : Key) → WalksTo n key []
  walk_begins zero key = record { records = []; end = Came; walk = all_came }
  walk_begins (suc n) key = record { records = []; end = Wants key; walk = next_wanted }

  -- a block came, or didn't
  walk_next : (n : ℕ) (key : Key) (came : Result (List ℕ) Miss) → WalksTo (suc n) key (BlockOf key came ∷ [])
  walk_next n key (Err miss) = record { records = []; end = Misses miss; walk = one_misses miss }
  walk_next n key (Ok bytes) = elim (record_or_not owner bytes) [
    | inr none ↦ record { records = []; end = Garbled; walk = one_garbled bytes none }
    | inl r ↦ (let more = walk_begins n r.0.prev in record { records = r.0 ∷ more.records; end = more.end; walk = one_back bytes r.0 r.1 more.walk })
  ]

  same_wanted : (a b : Key) → Wants a ≡ Wants b → a ≡ b
  same_wanted a b e = cc e

  pub walk_goes_on : {n : ℕ} {key : Key} {brought : List Brought} {records : List Record} {end : WalkEnd} (wanted : Key) (came : Result (List ℕ) Miss) → Walks owner n key brought records end → end ≡ Wants wanted
      → WalksTo n key (brought ++ BlockOf wanted came ∷ [])
  walk_goes_on wanted came all_came is = absurd (cc is)
  walk_goes_on wanted came (next_wanted {n = n} {key = key}) is = subst (λ (k : Key). WalksTo (suc n) key (BlockOf k came ∷ [])) (same_wanted key wanted is) (walk_next n key came)
  walk_goes_on wanted came (one_misses miss) is = absurd (cc is)
  walk_goes_on wanted came (one_garbled bytes none) is = absurd (cc is)
  walk_goes_on wanted came (one_back bytes r is_record walk) is = let more = walk_goes_on wanted came walk is in record { records = r ∷ more.records; end = more.end; walk = one_back bytes r is_record more.walk }

  -- what is read has spellings
  read_spelled : {n : ℕ} {key : Key} {brought : List Brought} {records : List Record} {end : WalkEnd} → Walks owner n key brought records end → AllByRecursion HasSpelling records
  read_spelled all_came = tt
  read_spelled next_wanted = tt
  read_spelled (one_misses miss) = tt
  read_spelled (one_garbled bytes none) = tt
  read_spelled (one_back bytes r is walk) = (is.fits, read_spelled walk)

-- ---- heads, one after the other

module _ (view : View) (owner : PubKey) (start floor : Vector) (edge : Option Edge) where
  pub record TriesTo (tried : List Stamp) (brought : List Brought) : Type 0 where
    pub faults : List ChainFault
    pub end : LogEnd
    pub tries : Tries (record { view = view; owner = owner; start = start; floor = floor; edge = edge }) tried brought faults end

  -- one head, and those after it, where their first has been brought nothing
  with_walk : (t : Stamp) (ts : List Stamp) (brought : List Brought) → WalksTo owner (t.seq - seq_of start (head_key_of owner)) t.name brought → TriesTo ts [] → TriesTo (t ∷ ts) brought
  with_walk t ts brought w others = by w.end w.walk
    where
      behind : TriesTo (t ∷ ts) (brought ++ []) → TriesTo (t ∷ ts) brought
      behind h = subst (TriesTo (t ∷ ts)) (append-nil brought) h

      judged : Walks owner (t.seq - seq_of start (head_key_of owner)) t.name brought w.records Came → Judging view start floor edge t (reverse w.records) → TriesTo (t ∷ ts) brought
      judged walk (takes sound onward) = record { faults = []; end = Gives (reverse w.records); tries = trial_gives walk sound onward }
      judged walk (fails fault some why) = behind (record { faults = fault ∷ others.faults; end = others.end; tries = trial_passes walk some why others.tries })

      by : (end : WalkEnd) → Walks owner (t.seq - seq_of start (head_key_of owner)) t.name brought w.records end → TriesTo (t ∷ ts) brought
      by (Wants key) walk = record { faults = []; end = Lacks (Content key); tries = trial_wants walk }
      by (Misses miss) walk = record { faults = []; end = Stops miss; tries = trial_misses walk }
      by Garbled walk = behind (record { faults = Bad ∷ others.faults; end = others.end; tries = trial_garbled walk others.tries })
      by Came walk = judged walk (judging view start floor edge t (reverse w.records) (each_reverse HasSpelling w.records (read_spelled owner walk)))

  pub tries_begin : (ts : List Stamp) → TriesTo ts []
  tries_begin [] = record { faults = []; end = GivesNone; tries = none_tried }
  tries_begin (t ∷ ts) = with_walk t ts [] (walk_begins owner (t.seq - seq_of start (head_key_of owner)) t.name) (tries_begin ts)

  same_lacking : (a b : WantedOfRing) → Lacks a ≡ Lacks b → a ≡ b
  same_lacking a b e = cc e

  same_content : (a b : Key) → Content a ≡ Content b → a ≡ b
  same_content a b e = cc e

  pub tries_go_on : {ts : List Stamp} {brought : List Brought} {faults : List ChainFault} {end : LogEnd} (wanted : Key) (came : Result (List ℕ) Miss) → Tries (record { view = view; owner = owner; start = start; floor = floor; edge = edge }) ts brought faults end → end ≡ Lacks (Content wanted)
      → TriesTo ts (brought ++ BlockOf wanted came ∷ [])
  tries_go_on wanted came none_tried is = absurd (cc is)
  tries_go_on wanted came (trial_wants {t = t} {ts = ts} {brought = brought} {key = key} walk) is =
      with_walk t ts (brought ++ BlockOf wanted came ∷ [])
      (walk_goes_on owner wanted came walk (ap Wants (same_content key wanted (same_lacking (Content key) (Content wanted) is))))
      (tries_begin ts)
  tries_go_on wanted came (trial_misses walk) is = absurd (cc is)
  tries_go_on wanted came (trial_gives walk sound onward) is = absurd (cc is)
  tries_go_on wanted came (trial_passes {t = t} {ts = ts} {brought = brought} {more = more} {fault = fault} walk some why tries) is =
      let later = tries_go_on wanted came tries is in
      subst (TriesTo (t ∷ ts)) (sym (append_assoc brought more (BlockOf wanted came ∷ []))) (record { faults = fault ∷ later.faults; end = later.end; tries = trial_passes walk some why later.tries })
  tries_go_on wanted came (trial_garbled {t = t} {ts = ts} {brought = brought} {more = more} walk tries) is =
      let later = tries_go_on wanted came tries is in
      subst (TriesTo (t ∷ ts)) (sym (append_assoc brought more (BlockOf wanted came ∷ []))) (record { faults = Bad ∷ later.faults; end = later.end; tries = trial_garbled walk later.tries })

  -- what heads lack is a block
  pub tries_lack : {ts : List Stamp} {brought : List Brought} {faults : List ChainFault} {end : LogEnd} (owned : PubKey) → Tries (record { view = view; owner = owner; start = start; floor = floor; edge = edge }) ts brought faults end → end ≡ Lacks (Heads owned) → ⊥
  tries_lack owned none_tried is = cc is
  tries_lack owned (trial_wants walk) is = cc is
  tries_lack owned (trial_misses walk) is = cc is
  tries_lack owned (trial_gives walk sound onward) is = cc is
  tries_lack owned (trial_passes walk some why tries) is = tries_lack owned tries is
  tries_lack owned (trial_garbled walk tries) is = tries_lack owned tries is
