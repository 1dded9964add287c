-- From the blocks that were read to the definition of loading.
use Rattle.std.proofs.Common.{◌≡◌, ◌≢◌, ℕ, ◌+◌, ◌<◌, arith, Bool, true, false, slice_index_or, List, [], ◌∷◌, ◌++◌, Option, Some, None, Result, Ok, Err, refl, sym, ap, ◌∙◌, subst, append_assoc, append-nil}
use Rattle.std.specs.Option.{option_to_list, is_some}
use Rattle.std.proofs.lemmas.List.{map-append}
use Rattle.ivy_base.specs.declared.key.Key.{Key}
use Rattle.ivy_base.specs.Naming.{name}
use Rattle.dhash_model.specs.declared.miss.Miss.{Miss}
use Rattle.snapshot_model.specs.Reading.{SnapshotPart, NamesParts}
use Rattle.session_model.specs.Brought.{Brought, BlockOf}
use Rattle.session_model.specs.Refreshing.{LoadEnd, LoadWants, Loaded, Loads, LoadsFor}
use Rattle.session_model.specs.Refreshing.Loads.{loaded, no_whole, wants, misses, garbled, goes_on}
use Rattle.session_model.specs.Refreshing.LoadsFor.{some}
use Rattle.snapshot_loading.specs.Roles.{Replaces, part_of, parts_of}
use Rattle.snapshot_loading.specs.declared.role.Wanted.{Wanted}
use Rattle.snapshot_loading.specs.declared.load.Read.{Read}
use Rattle.snapshot_loading.specs.declared.load.Failure.{Failure}
use Rattle.snapshot_loading.proofs.Left.{most_append, names_fewer, some_of}
use Rattle.snapshot_loading.specs.Loading.{most_of, most_in, Loading, HasRead, HasCome, FailsAs, IsLoading, IsReadWhole, HasBeenGiven, ComesTo, bytes_of, brought_by, brought_last, first_key, wanted_of, root_alone}
use Rattle.snapshot_loading.specs.Loading.HasRead.{nothing, block}

-- ---- blocks that were read

-- what loading comes to from there, it comes to with these blocks before
pub onward : {first todo : List Wanted} {read : List Read} {more : List Brought} {end : LoadEnd} → HasRead first read todo → (before : List (List ℕ))
    → Loads (parts_of todo) (before ++ bytes_of read) more end → Loads (parts_of first) before (brought_by read ++ more) end
onward {more = more} {end = end} (nothing {todo = todo}) before goes = subst (λ (r : List (List ℕ)). Loads (parts_of todo) r more end) (append-nil before) goes
onward {more = more} {end = end} (block {todo = todo} {left = left} {read = read} bytes named names is rest) before goes =
    goes_on bytes (parts_of named) names
    (subst (λ (w : List (SnapshotPart × Key)). Loads w (before ++ bytes ∷ []) (brought_by read ++ more) end) (map-append (λ (w : Wanted). (part_of w.role, w.key)) named todo)
    (onward rest (before ++ bytes ∷ []) (subst (λ (r : List (List ℕ)). Loads (parts_of left) r more end) (sym (append_assoc before (bytes ∷ []) (bytes_of read))) goes)))

-- a block more
pub one_more : {first todo : List Wanted} {read : List Read} → HasRead first read todo → (next : Wanted) (left : List Wanted) → todo ≡ next ∷ left
    → (bytes : List ℕ) (named : List Wanted) → NamesParts (part_of next.role) bytes (parts_of named) → name bytes ≡ next.key
    → HasRead first (read ++ record { role = next.role; key = next.key; bytes = bytes } ∷ []) (named ++ left)
one_more nothing next left e bytes named names is =
    subst (λ (first : List Wanted). HasRead first (record { role = next.role; key = next.key; bytes = bytes } ∷ []) (named ++ left)) (sym e) (block bytes named names is nothing)
one_more (block b others n i rest) next left e bytes named names is = block b others n i (one_more rest next left e bytes named names is)

-- ---- how loading stands

from_root : {root : Key} {read : List Read} {todo : List Wanted} {more : List Brought} {end : LoadEnd} → HasRead (root_alone root) read todo → Loads (parts_of todo) (bytes_of read) more end
    → LoadsFor (Some root) (brought_by read ++ more) end
from_root has goes = some (onward has [] goes)

wants_by : (root : Key) (read : List Read) (todo : List Wanted) (failed : Option Failure) → HasCome (root_alone root) read todo failed → (key : Key) → first_key todo ≡ Some key
    → LoadsFor (Some root) (brought_by read ++ brought_last failed) (LoadWants key)
wants_by root read [] failed h key e = cc
wants_by root read (w ∷ todo) None h key e =
    let same : w.key ≡ key = cc in
    subst (λ (x : Key). LoadsFor (Some root) (brought_by read ++ []) (LoadWants x)) same (from_root h wants)
wants_by root read (w ∷ todo) (Some f) h key e = let none = h.0 in cc

pub wants_next : (l : Loading) → IsLoading l → (key : Key) → wanted_of l ≡ Some key → ComesTo l (LoadWants key)
wants_next l h key e = wants_by l.root l.read l.todo l.failed h key e

fails_by : {part : SnapshotPart} {left : List (SnapshotPart × Key)} {read : List (List ℕ)} (key : Key) (came : Result (List ℕ) Miss) → FailsAs part came → Loads ((part, key) ∷ left) read (BlockOf key came ∷ []) (Loaded None)
fails_by key (Ok bytes) none = garbled bytes none
fails_by key (Err miss) none = misses miss

failed_by : (root : Key) (read : List Read) (todo : List Wanted) (failed : Option Failure) → HasCome (root_alone root) read todo failed → failed ≢ None
    → LoadsFor (Some root) (brought_by read ++ brought_last failed) (Loaded None)
failed_by root read todo None h is = absurd (is refl)
failed_by root read todo (Some f) h is = from_root h.1.before (fails_by f.key f.came h.1.fails)

pub has_failed : (l : Loading) → IsLoading l → l.failed ≢ None → ComesTo l (Loaded None)
has_failed l h is = failed_by l.root l.read l.todo l.failed h is

whole_by : (root : Key) (read : List Read) (todo : List Wanted) (failed : Option Failure) → HasCome (root_alone root) read todo failed → first_key todo ≡ None → failed ≡ None
    → IsReadWhole (record { root = root; read = read; todo = todo; failed = failed }) read
whole_by root read [] None h e none = record {
  whole = h;
  unfailed = none;
  brought = append-nil (brought_by read);
  of_one = λ b are. from_root h (loaded b are);
  of_none = λ none. from_root h (no_whole none);
}
whole_by root read [] (Some f) h e none = cc
whole_by root read (w ∷ todo) failed h e none = cc

pub read_whole : (l : Loading) → IsLoading l → wanted_of l ≡ None → l.failed ≡ None → IsReadWhole l l.read
read_whole l h e none = whole_by l.root l.read l.todo l.failed h e none

-- ---- what comes next

-- while something is to be read, nothing failed
pub still_on : (first : List Wanted) (read : List Read) (todo left : List Wanted) (w : Wanted) (failed : Option Failure) → HasCome first read todo failed → todo ≡ w ∷ left
    → (failed ≡ None) × HasRead first read (w ∷ left)
still_on first read todo left w None h e = (refl, subst (λ (t : List Wanted). HasRead first read t) e h)
still_on first read todo left w (Some f) h e = let none = h.0 in cc

fewer_left : (next : Wanted) (left named : List Wanted) (bytes : List ℕ) → NamesParts (part_of next.role) bytes (parts_of named) → most_in (parts_of (named ++ left)) < most_of (part_of next.role) + most_in (parts_of left)
fewer_left next left named bytes names =
    let all = ap most_in (map-append (λ (w : Wanted). (part_of w.role, w.key)) named left) ∙ most_append (parts_of named) (parts_of left) in
    let fewer = names_fewer (part_of next.role) bytes (parts_of named) names in
    omega (arith, all, fewer)

-- the block that is wanted was read
pub given_block : (old : Loading) → IsLoading old → (next : Wanted) (left after : List Wanted) → old.todo ≡ next ∷ left → (bytes : List ℕ) (named : List Wanted) → NamesParts (part_of next.role) bytes (parts_of named)
    → name bytes ≡ next.key → after ≡ named ++ left → (read : List Read) → read ≡ old.read ++ record { role = next.role; key = next.key; bytes = bytes } ∷ []
    → (failed : Option Failure) → failed ≡ old.failed
    → IsLoading (record { root = old.root; read = read; todo = after; failed = failed }) × HasBeenGiven old (record { root = old.root; read = read; todo = after; failed = failed }) (Ok bytes)
given_block old h next left after e bytes named names is follows read reads failed same =
    let on = still_on (root_alone old.root) old.read old.todo left next old.failed h e in
    let none : failed ≡ None = same ∙ on.0 in
    rw (reads, follows, none) (
      one_more on.1 next left refl bytes named names is,
      record {
        root = refl;
        key = next.key;
        wanted = rw e refl;
        brought =
            append-nil (brought_by (old.read ++ record { role = next.role; key = next.key; bytes = bytes } ∷ [])) ∙
            map-append (λ (r : Read). BlockOf r.key (Ok r.bytes)) old.read (record { role = next.role; key = next.key; bytes = bytes } ∷ []) ∙
            ap (λ (b : List Brought). b ++ BlockOf next.key (Ok bytes) ∷ []) (sym (rw on.0 (append-nil (brought_by old.read))));
        left = subst (λ (t : List Wanted). most_in (parts_of (named ++ left)) < most_in (parts_of t)) (sym e) (fewer_left next left named bytes names);
      },
    )

-- it couldn't be had, or isn't what it is to be
pub given_none : (old : Loading) → IsLoading old → (next : Wanted) (left : List Wanted) → old.todo ≡ next ∷ left → (came : Result (List ℕ) Miss) → FailsAs (part_of next.role) came
    → (root key : Key) (read : List Read) (todo : List Wanted) → root ≡ old.root → read ≡ old.read → todo ≡ [] → key ≡ next.key
    → IsLoading (record { root = root; read = read; todo = todo; failed = Some (record { key = key; came = came }) })
    × HasBeenGiven old (record { root = root; read = read; todo = todo; failed = Some (record { key = key; came = came }) }) came
given_none old h next left e came fails root key read todo roots reads nothing_left keys =
    let on = still_on (root_alone old.root) old.read old.todo left next old.failed h e in
    rw (roots, reads, nothing_left, keys) (
      (refl, record { role = next.role; left = left; before = on.1; fails = fails }),
      record {
        root = refl;
        key = next.key;
        wanted = rw e refl;
        brought = ap (λ (b : List Brought). b ++ BlockOf next.key came ∷ []) (sym (rw on.0 (append-nil (brought_by old.read))));
        left = subst (λ (t : List Wanted). 0 < most_in (parts_of t)) (sym e) (let some_more = some_of (part_of next.role) in omega (arith, some_more));
      },
    )

-- what is taken off is the next
pub taken_off : (todo new left : List Wanted) (r next : Wanted) (o : Option Wanted) → o ≡ Some r → todo ≡ option_to_list o ++ new → todo ≡ next ∷ left → (r ≡ next) × (new ≡ left)
taken_off todo new left r next o is items e =
    let all : r ∷ new ≡ next ∷ left = sym (ap (λ (p : Option Wanted). option_to_list p ++ new) is) ∙ sym items ∙ e in
    (cc, cc)

-- ---- from what code knows

pub is_held : (failed : Option Failure) (f : Failure) → failed ≡ Some f → failed ≢ None
is_held failed f is = λ none. cc

front_is : (todo left : List Wanted) (front next : Wanted) → front ≡ slice_index_or todo 0 front → todo ≡ next ∷ left → front ≡ next
front_is todo left front next first e = first ∙ ap (λ (t : List Wanted). slice_index_or t 0 front) e

key_is : (todo left : List Wanted) (next : Wanted) (key : Key) → first_key todo ≡ Some key → todo ≡ next ∷ left → key ≡ next.key
key_is todo left next key first e =
    let both : Some key ≡ Some next.key = sym first ∙ ap first_key e in
    cc

-- the block that is wanted was read, and what it names was put in its place
pub taken : (old : Loading) → IsLoading old → (front next : Wanted) (named after : List Wanted) → front ≡ slice_index_or old.todo 0 front → Replaces old.todo named next after
    → (bytes shown : List ℕ) → shown ≡ bytes → NamesParts (part_of front.role) shown (parts_of named) → wanted_of old ≡ Some (name bytes)
    → (read reserved : List Read) → reserved ≡ old.read → read ≡ reserved ++ record { role = front.role; key = next.key; bytes = bytes } ∷ []
    → IsLoading (record { root = old.root; read = read; todo = after; failed = old.failed }) × HasBeenGiven old (record { root = old.root; read = read; todo = after; failed = old.failed }) (Ok bytes)
taken old h front next named after first replaces bytes shown shows names wanted read reserved same reads =
    let is = front_is old.todo replaces.left front next first replaces.before_is in
    given_block old h next replaces.left after replaces.before_is bytes named
    (subst (λ (w : Wanted). NamesParts (part_of w.role) bytes (parts_of named)) is (subst (λ (b : List ℕ). NamesParts (part_of front.role) b (parts_of named)) shows names))
    (key_is old.todo replaces.left next (name bytes) wanted replaces.before_is) replaces.after_is read
    (reads ∙ ap (λ (r : List Read). r ++ record { role = front.role; key = next.key; bytes = bytes } ∷ []) same ∙ ap (λ (w : Wanted). old.read ++ record { role = w.role; key = next.key; bytes = bytes } ∷ []) is)
    old.failed refl
