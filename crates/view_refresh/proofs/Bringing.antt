-- What a part of what was brought tells: a block that came right has its name, what failed brought a miss last, and what is done brought none last.
use Rattle.std.proofs.Common.{◌≡◌, ℕ, List, [], ◌∷◌, ◌++◌, Option, Some, None, Result, Ok, Err, refl, sym, ap, ◌∙◌, subst, append_assoc}
use Rattle.std.proofs.lemmas.List.{map-append}
use Rattle.ivy_base.specs.declared.key.Key.{Key}
use Rattle.ivy_base.specs.declared.key.PubKey.{PubKey}
use Rattle.ivy_base.specs.Naming.{name}
use Rattle.log_model.specs.View.{View}
use Rattle.log_model.specs.Vector.{Stamp, Vector}
use Rattle.log_model.specs.Record.{Record}
use Rattle.log_model.specs.declared.chain_fault.ChainFault.{ChainFault}
use Rattle.log_model.specs.Fetched.{Edge}
use Rattle.ring_model.specs.Gets.{Got, Right, Damaged, Missing, EndsBlock}
use Rattle.dht_ids.specs.declared.ask.Heard.{Heard}
use Rattle.dht_ids.specs.declared.judge.Judged.{Judged}
use Rattle.dht_ids.specs.declared.peer.Peer.{Peer}
use Rattle.dhash_model.specs.declared.miss.Miss.{Miss}
use Rattle.dhash_model.specs.Execution.{Told, result_of}
use Rattle.dhash_model.specs.Execution.IsExecution.{no_route, of_owners}
use Rattle.dhash_model.specs.GetBlock.{IsGetOfBlock, block_in as block_answered}
use Rattle.agent_model.specs.Standing.{Chain, Standing}
use Rattle.session_model.specs.Brought.{Brought, BlockOf, HeadsOf, Part, WantedOfRing, brought_in}
use Rattle.session_model.specs.Walks.{LogEnd, Misses, Stops, Tries, WalkEnd, Walks}
use Rattle.session_model.specs.Walks.Walks.{came as all_came, wants as next_wanted, misses as one_misses, garbled as one_garbled, back as one_back}
use Rattle.session_model.specs.Walks.Tries.{none as none_tried, wants as trial_wants, misses as trial_misses, gives as trial_gives, passes as trial_passes, garbled as trial_garbled}
use Rattle.session_model.specs.Refreshing.{Done, FailsBy, Fetches, FetchesAll, Note, RefreshEnd, end_of_log}
use Rattle.session_model.specs.Refreshing.Fetches.{wants_heads, no_heads, of_heads, of_own}
use Rattle.session_model.specs.Refreshing.FetchesAll.{all, stays, goes_on}
use Rattle.session_model.specs.Sessions.{Gets}
use Rattle.session_model.specs.Sessions.Gets.{heads, content}

-- ---- a block that came right

ok_or_err : {T : Type 0} (x : T) (miss : Miss) → Ok x ≡ Err miss → ⊥
ok_or_err x miss e = cc e

same_ok : (a b : List ℕ) → let x : Result (List ℕ) Miss = Ok a in let y : Result (List ℕ) Miss = Ok b in x ≡ y → a ≡ b
same_ok a b e = cc e

named_by : (key : Key) (bytes : List ℕ) (asks : Told) (got : Got Peer (List ℕ)) → EndsBlock block_answered key asks got → Ok bytes ≡ result_of key got → name bytes ≡ key
named_by key bytes asks (Right given) ends e = ap name (same_ok bytes given e) ∙ ends.2
named_by key bytes asks (Damaged node) ends e = cc e
named_by key bytes asks (Missing asked) ends e = cc e

of_result : (key : Key) (r : ℕ) (entries : List Peer) (trail : List Heard) (bytes : List ℕ) (came : Result (List ℕ) Miss) → came ≡ Ok bytes → IsGetOfBlock key r entries trail came → name bytes ≡ key
of_result key r entries trail bytes came e (no_route looks found is looked nobody is_missed) = absurd (ok_or_err bytes _ (sym e ∙ is_missed))
of_result key r entries trail bytes came e (of_owners looks asks found owners is looked some ends) = named_by key bytes asks ends.0 ends.1.ends (sym e ∙ ends.2)

got_ok : {key other : Key} {bytes : List ℕ} {came : Result (List ℕ) Miss} → BlockOf key came ≡ BlockOf other (Ok bytes) → (key ≡ other) × (came ≡ Ok bytes)
got_ok e = (cc e, cc e)

heads_or_block : {owner : PubKey} {came : Result (List Judged) Miss} {key : Key} {bytes : List ℕ} → HeadsOf owner came ≡ BlockOf key (Ok bytes) → ⊥
heads_or_block e = cc e

pub right_name : (judged : Key → List ℕ → Option Judged) (r : ℕ) (entries : List Peer) {want : WantedOfRing} {asks : List Heard} {brought : Brought} (key : Key) (bytes : List ℕ) → Gets judged r entries want asks brought → brought ≡ BlockOf key (Ok bytes) → name bytes ≡ key
right_name judged r entries key bytes (heads came get) e = absurd (heads_or_block e)
right_name judged r entries {asks = asks} key bytes (content {key = other} came get) e = let g = got_ok e in of_result other r entries asks bytes came g.1 get ∙ g.0

-- ---- what failed

abbrev pub IsMissed : Brought → Type 0
IsMissed (HeadsOf owner (Ok came)) = ⊥
IsMissed (HeadsOf owner (Err miss)) = Unit {0}
IsMissed (BlockOf key (Ok bytes)) = ⊥
IsMissed (BlockOf key (Err miss)) = Unit {0}

-- the last that was brought is a miss
pub record EndsMissed (brought : List Brought) : Type 0 where
  pub before : List Brought
  pub last : Brought
  pub is : brought ≡ before ++ last ∷ []
  pub missed : IsMissed last

one_more : (x : Brought) (brought : List Brought) → EndsMissed brought → EndsMissed (x ∷ brought)
one_more x brought h = record { before = x ∷ h.before; last = h.last; is = ap (λ (l : List Brought). x ∷ l) h.is; missed = h.missed }

more_before : (first brought : List Brought) → EndsMissed brought → EndsMissed (first ++ brought)
more_before first brought h = record { before = first ++ h.before; last = h.last; is = ap (λ (l : List Brought). first ++ l) h.is ∙ sym (append_assoc first h.before (h.last ∷ [])); missed = h.missed }

alone : (x : Brought) → IsMissed x → EndsMissed (x ∷ [])
alone x missed = record { before = []; last = x; is = refl; missed = missed }

walk_missed : {owner : PubKey} {n : ℕ} {key : Key} {brought : List Brought} {records : List Record} {end : WalkEnd} (miss : Miss) → Walks owner n key brought records end → end ≡ Misses miss → EndsMissed brought
walk_missed miss all_came e = cc e
walk_missed miss next_wanted e = cc e
walk_missed miss (one_misses {key = key} lost) e = alone (BlockOf key (Err lost)) tt
walk_missed miss (one_garbled bytes none) e = cc e
walk_missed miss (one_back {key = key} {more = more} bytes r is walk) e = one_more (BlockOf key (Ok bytes)) more (walk_missed miss walk e)

trial_missed : {view : View} {owner : PubKey} {start floor : Vector} {edge : Option Edge} {ts : List Stamp} {brought : List Brought} {faults : List ChainFault} {end : LogEnd} (miss : Miss)
    → Tries (record { view = view; owner = owner; start = start; floor = floor; edge = edge }) ts brought faults end → end ≡ Stops miss → EndsMissed brought
trial_missed miss none_tried e = cc e
trial_missed miss (trial_wants walk) e = cc e
trial_missed miss (trial_misses {miss = lost} walk) e = walk_missed lost walk refl
trial_missed miss (trial_gives walk sound onward) e = cc e
trial_missed miss (trial_passes {brought = brought} {more = more} walk some fails rest) e = more_before brought more (trial_missed miss rest e)
trial_missed miss (trial_garbled {brought = brought} {more = more} walk rest) e = more_before brought more (trial_missed miss rest e)

log_missed : {s : Standing} {start : Vector} {owner : PubKey} {brought : List Brought} {notes : List Note} {end : LogEnd} (miss : Miss) → Fetches (record { standing = s; start = start }) owner brought notes end → end ≡ Stops miss → EndsMissed brought
log_missed miss (wants_heads other) e = cc e
log_missed {owner = owner} miss (no_heads lost other) e = alone (HeadsOf owner (Err lost)) tt
log_missed {owner = owner} miss (of_heads given tried brought faults end other are tries) e = one_more (HeadsOf owner (Ok given)) brought (trial_missed miss tries e)
log_missed miss (of_own brought faults end own tries) e = trial_missed miss tries e

stops_by : (log : LogEnd) (miss : Miss) → end_of_log log ≡ Some (FailsBy miss) → log ≡ Stops miss
stops_by (LogEnd.Lacks want) miss e = cc e
stops_by (Stops lost) miss e = cc e
stops_by (LogEnd.Gives records) miss e = cc e
stops_by LogEnd.GivesNone miss e = cc e

all_missed : {s : Standing} {start : Vector} {owners : List PubKey} {brought : List Brought} {notes : List Note} {chains : List Chain} {end : RefreshEnd} (miss : Miss) → FetchesAll (record { standing = s; start = start }) owners brought notes chains end → end ≡ FailsBy miss → EndsMissed brought
all_missed miss all e = cc e
all_missed miss (stays {log = log} fetch is) e = log_missed miss fetch (stops_by log miss (is ∙ ap (λ (x : RefreshEnd). Some x) e))
all_missed miss (goes_on {brought = brought} {more = more} fetch goes rest) e = more_before brought more (all_missed miss rest e)

nil_or_more : {X : Type 0} (xs : List X) (x : X) → [] ≡ xs ++ x ∷ [] → ⊥
nil_or_more [] x e = cc e
nil_or_more (y ∷ ys) x e = cc e

pub never_missed : {s : Standing} {start : Vector} {owners : List PubKey} {notes : List Note} {chains : List Chain} {end : RefreshEnd} (miss : Miss) → FetchesAll (record { standing = s; start = start }) owners [] notes chains end → end ≡ FailsBy miss → ⊥
never_missed miss fetches e = let m = all_missed miss fetches e in nil_or_more m.before m.last m.is

pub brought_more : (parts : List Part) (p : Part) → brought_in (parts ++ p ∷ []) ≡ brought_in parts ++ p.brought ∷ []
brought_more parts p = map-append (λ (x : Part). x.brought) parts (p ∷ [])

-- ---- what didn't fail

AreRight : List Brought → Type 0
AreRight [] = Unit {0}
AreRight (x ∷ xs) = (IsMissed x → ⊥) × AreRight xs

no_more : AreRight []
unfolding AreRight
no_more = tt

one_right : (x : Brought) (xs : List Brought) → (IsMissed x → ⊥) → AreRight xs → AreRight (x ∷ xs)
unfolding AreRight
one_right x xs h rest = (h, rest)

right_append : (xs ys : List Brought) → AreRight xs → AreRight ys → AreRight (xs ++ ys)
unfolding AreRight
right_append [] ys a b = b
right_append (x ∷ xs) ys a b = (a.0, right_append xs ys a.1 b)

right_last : (xs : List Brought) (x : Brought) → AreRight (xs ++ x ∷ []) → IsMissed x → ⊥
unfolding AreRight
right_last [] x h missed = h.0 missed
right_last (y ∷ xs) x h missed = right_last xs x h.1 missed

walk_right : {owner : PubKey} {n : ℕ} {key : Key} {brought : List Brought} {records : List Record} {end : WalkEnd} → Walks owner n key brought records end → ((miss : Miss) → end ≡ Misses miss → ⊥) → AreRight brought
walk_right all_came h = no_more
walk_right next_wanted h = no_more
walk_right (one_misses lost) h = absurd (h lost refl)
walk_right (one_garbled {key = key} bytes none) h = one_right (BlockOf key (Ok bytes)) [] (λ x. x) no_more
walk_right (one_back {key = key} {more = more} bytes r is walk) h = one_right (BlockOf key (Ok bytes)) more (λ x. x) (walk_right walk h)

trial_right : {view : View} {owner : PubKey} {start floor : Vector} {edge : Option Edge} {ts : List Stamp} {brought : List Brought} {faults : List ChainFault} {end : LogEnd}
    → Tries (record { view = view; owner = owner; start = start; floor = floor; edge = edge }) ts brought faults end → ((miss : Miss) → end ≡ Stops miss → ⊥) → AreRight brought
trial_right none_tried h = no_more
trial_right (trial_wants walk) h = walk_right walk (λ miss e. cc e)
trial_right (trial_misses {miss = lost} walk) h = absurd (h lost refl)
trial_right (trial_gives walk sound onward) h = walk_right walk (λ miss e. cc e)
trial_right (trial_passes {brought = brought} {more = more} walk some fails rest) h = right_append brought more (walk_right walk (λ miss e. cc e)) (trial_right rest h)
trial_right (trial_garbled {brought = brought} {more = more} walk rest) h = right_append brought more (walk_right walk (λ miss e. cc e)) (trial_right rest h)

log_right : {s : Standing} {start : Vector} {owner : PubKey} {brought : List Brought} {notes : List Note} {end : LogEnd} → Fetches (record { standing = s; start = start }) owner brought notes end → ((miss : Miss) → end ≡ Stops miss → ⊥) → AreRight brought
log_right (wants_heads other) h = no_more
log_right (no_heads lost other) h = absurd (h lost refl)
log_right {owner = owner} (of_heads given tried brought faults end other are tries) h = one_right (HeadsOf owner (Ok given)) brought (λ x. x) (trial_right tries h)
log_right (of_own brought faults end own tries) h = trial_right tries h

same_end : (a b : RefreshEnd) → Some a ≡ Some b → a ≡ b
same_end a b e = cc e

all_right : {s : Standing} {start : Vector} {owners : List PubKey} {brought : List Brought} {notes : List Note} {chains : List Chain} {end : RefreshEnd} → FetchesAll (record { standing = s; start = start }) owners brought notes chains end → ((miss : Miss) → end ≡ FailsBy miss → ⊥) → AreRight brought
all_right all h = no_more
all_right (stays {log = log} {end = end} fetch is) h = log_right fetch (λ miss e. h miss (same_end end (FailsBy miss) (sym is ∙ ap end_of_log e)))
all_right (goes_on {brought = brought} {more = more} {log = log} fetch goes rest) h = right_append brought more (log_right fetch (λ miss e. goes_or_stops miss (sym (ap end_of_log e) ∙ goes))) (all_right rest h)
  where
    goes_or_stops : (miss : Miss) → Some (FailsBy miss) ≡ None → ⊥
    goes_or_stops miss e = cc e

done_or_fails : (miss : Miss) → Done ≡ FailsBy miss → ⊥
done_or_fails miss e = cc e

-- what is done didn't miss the last part
pub not_done : {s : Standing} {start : Vector} {owners : List PubKey} (parts : List Part) (p : Part) {notes : List Note} {chains : List Chain} → IsMissed p.brought → FetchesAll (record { standing = s; start = start }) owners (brought_in (parts ++ p ∷ [])) notes chains Done → ⊥
not_done parts p missed fetches = right_last (brought_in parts) p.brought (subst AreRight (brought_more parts p) (all_right fetches done_or_fails)) missed
