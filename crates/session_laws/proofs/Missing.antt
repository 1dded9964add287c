-- A refresh that has failed was brought nothing last.
use Rattle.std.proofs.Common.{◌≡◌, ℕ, List, [], ◌∷◌, ◌++◌, Option, Some, Ok, Err, refl, sym, ap, ◌∙◌, append_assoc}
use Rattle.ivy_base.specs.declared.key.Key.{Key}
use Rattle.ivy_base.specs.declared.key.PubKey.{PubKey}
use Rattle.log_model.specs.View.{View}
use Rattle.log_model.specs.Vector.{Stamp, Vector}
use Rattle.log_model.specs.Record.{Record}
use Rattle.log_model.specs.Fetched.{Edge}
use Rattle.log_model.specs.declared.chain_fault.ChainFault.{ChainFault}
use Rattle.dhash_model.specs.declared.miss.Miss.{Miss}
use Rattle.agent_model.specs.Standing.{Chain, Refresh, Standing}
use Rattle.session_model.specs.Brought.{Brought, HeadsOf, BlockOf}
use Rattle.session_model.specs.Walks.{Gives, GivesNone, Lacks, LogEnd, Misses, Stops, Tries, WalkEnd, Walks}
use Rattle.session_model.specs.Walks.Walks.{came as all_came, wants as next_wanted, misses as one_misses, garbled as one_garbled, back as one_back}
use Rattle.session_model.specs.Walks.Tries.{none as none_tried, wants as trial_wants, misses as trial_misses, gives as trial_gives, passes as trial_passes, garbled as trial_garbled}
use Rattle.session_model.specs.Refreshing.{FailsBy, Fetches, FetchesAll, Note, RefreshEnd, Refreshes, end_of_log}
use Rattle.session_model.specs.Refreshing.Fetches.{wants_heads, no_heads, of_heads, of_own}
use Rattle.session_model.specs.Refreshing.FetchesAll.{all, stays, goes_on as all_go_on}
use Rattle.session_model.specs.Refreshing.Refreshes.{loading, fetching}
use Rattle.session_laws.specs.Going.{FailsByTheLast, IsMissed}

-- nothing came last, for that reason
record EndsMissed (miss : Miss) (brought : List Brought) : Type 0 where
  before : List Brought
  last : Brought
  parts : brought ≡ before ++ last ∷ []
  missed : IsMissed miss last

module _ (miss : Miss) where
  behind : (front brought : List Brought) → EndsMissed miss brought → EndsMissed miss (front ++ brought)
  behind front brought e = record { before = front ++ e.before; last = e.last; parts = ap (λ (l : List Brought). front ++ l) e.parts ∙ sym (append_assoc front e.before (e.last ∷ [])); missed = e.missed }

  walk_missed : {owner : PubKey} {n : ℕ} {key : Key} {brought : List Brought} {records : List Record} {end : WalkEnd} → Walks owner n key brought records end → end ≡ Misses miss → EndsMissed miss brought
  walk_missed all_came is = absurd (cc is)
  walk_missed next_wanted is = absurd (cc is)
  walk_missed (one_misses {key = key} other) is = record { before = []; last = BlockOf key (Err other); parts = refl; missed = cc is }
  walk_missed (one_garbled bytes none) is = absurd (cc is)
  walk_missed (one_back {key = key} {more = more} bytes r is_record walk) is = behind (BlockOf key (Ok bytes) ∷ []) more (walk_missed walk is)

  same_stops : (a b : Miss) → Stops a ≡ Stops b → a ≡ b
  same_stops a b e = cc e

  tries_missed : {view : View} {owner : PubKey} {start floor : Vector} {edge : Option Edge} {ts : List Stamp} {brought : List Brought} {faults : List ChainFault} {end : LogEnd}
      → Tries (record { view = view; owner = owner; start = start; floor = floor; edge = edge }) ts brought faults end → end ≡ Stops miss → EndsMissed miss brought
  tries_missed none_tried is = absurd (cc is)
  tries_missed (trial_wants walk) is = absurd (cc is)
  tries_missed (trial_misses {miss = other} walk) is = walk_missed walk (ap Misses (same_stops other miss is))
  tries_missed (trial_gives walk sound onward) is = absurd (cc is)
  tries_missed (trial_passes {brought = brought} {more = more} walk some why tries) is = behind brought more (tries_missed tries is)
  tries_missed (trial_garbled {brought = brought} {more = more} walk tries) is = behind brought more (tries_missed tries is)

  fetch_missed : {s : Standing} {start : Vector} {owner : PubKey} {brought : List Brought} {notes : List Note} {end : LogEnd} → Fetches (record { standing = s; start = start }) owner brought notes end → end ≡ Stops miss → EndsMissed miss brought
  fetch_missed (wants_heads other) is = absurd (cc is)
  fetch_missed {owner = owner} (no_heads lost other) is = record { before = []; last = HeadsOf owner (Err lost); parts = refl; missed = same_stops lost miss is }
  fetch_missed {owner = owner} (of_heads heads tried brought faults end other are tries) is = behind (HeadsOf owner (Ok heads) ∷ []) brought (tries_missed tries is)
  fetch_missed (of_own brought faults end own tries) is = tries_missed tries is

  stops_so : (log : LogEnd) → end_of_log log ≡ Some (FailsBy miss) → log ≡ Stops miss
  stops_so (Lacks want) e = cc e
  stops_so (Stops other) e = ap Stops (cc e)
  stops_so (Gives records) e = cc e
  stops_so GivesNone e = cc e

  all_missed : {s : Standing} {start : Vector} {owners : List PubKey} {brought : List Brought} {notes : List Note} {chains : List Chain} {end : RefreshEnd} → FetchesAll (record { standing = s; start = start }) owners brought notes chains end → end ≡ FailsBy miss → EndsMissed miss brought
  all_missed all is = absurd (cc is)
  all_missed (stays {log = log} fetch ends) is = fetch_missed fetch (stops_so log (ends ∙ ap Some is))
  all_missed (all_go_on {brought = brought} {more = more} fetch goes rest) is = behind brought more (all_missed rest is)

  refresh_missed : {s : Standing} {brought : List Brought} {notes : List Note} {given : Refresh} {end : RefreshEnd} → Refreshes s brought notes given end → end ≡ FailsBy miss → EndsMissed miss brought
  refresh_missed (loading loads) is = absurd (cc is)
  refresh_missed (fetching {loaded = blocks} {brought = brought} basis loads fetches) is = behind blocks brought (all_missed fetches is)

pub fails_by_the_last : FailsByTheLast
fails_by_the_last s brought notes given miss refreshes = let e = refresh_missed miss refreshes refl in (e.before, e.last, e.parts, e.missed)
