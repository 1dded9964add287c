-- A page takes no more than its room.
use Rattle.std.proofs.Common.{◌≡◌, ℕ, zero, suc, ◌+◌, ◌-◌, min, Bool, true, false, cond, List, [], ◌∷◌, ◌++◌, length, map, drop, Option, Some, None, refl, ap, arith, length-append, length-take}
use Rattle.std.specs.Prelude.{max, nat_lt, unwrap_or, IfSome}
use Rattle.std.specs.List.{AllByRecursion, flat_map}
use Rattle.std.proofs.lemmas.Bool.{ltb-false}
use Rattle.ivy_base.specs.declared.key.Key.{Key}
use Rattle.ivy_base.specs.Naming.{digest}
use Rattle.tree_model.specs.Tree.{Tree, listing, parent}
use Rattle.log_model.specs.View.{View}
use Rattle.log_model.specs.Spelling.{IsKey}
use Rattle.wire_model.specs.Xdr.{word, boolean, opaque, optional}
use Rattle.nfs_model.specs.declared.replies.Fattr.{Fattr}
use Rattle.nfs_model.specs.declared.replies.Listed.{Listed}
use Rattle.nfs_model.specs.declared.replies.Reply.{Reply}
use Rattle.nfs_model.specs.declared.replies.Reply.TheVariants as reply
use Rattle.nfs_model.specs.Pages.{placed, all_entries, fitting, at_least_one, too_small, room_for_entries, entries_from, entry_length, plain_length, long_length, listed, listed_plus, cookie_verifier, longest_page}
use Rattle.nfs_model.specs.Results.{fattr, listed_entry, listed_entry_plus}
use Rattle.nfs_laws.specs.Lengths.{NamesAreKeys}
use Rattle.nfs_laws.proofs.Pages.{Entry, first_fits}
use Rattle.nfs_laws.proofs.Sizes.{AtMost, IsWithin, ◌▷◌, within, all_of, most_word, most_double_word, most_boolean, most_attributes, most_optional_handle}
use Rattle.nfs_laws.proofs.Trees.{key_above, keys_in}

-- ---- the keys of entries

-- the entry's number has 20 bytes
abbrev pub HasNumber : Entry → Type 0
HasNumber e = length e.1.1.0 ≡ 20

numbers_placed : (n : ℕ) (es : List (List ℕ × Key)) → AllByRecursion (λ (e : List ℕ × Key). IsKey e.1) es → AllByRecursion HasNumber (placed n es)
numbers_placed n [] keys = tt
numbers_placed n (e ∷ es) keys = (keys.0.size, numbers_placed (n + 1) es keys.1)

pub all_dropped : (P : Entry → Type 0) (c : ℕ) (es : List Entry) → AllByRecursion P es → AllByRecursion P (drop c es)
all_dropped P zero es all = all
all_dropped P (suc c) [] all = tt
all_dropped P (suc c) (e ∷ es) all = all_dropped P c es all.1

size_or : (o : Option Key) (number : Key) → IfSome o IsKey → length number.0 ≡ 20 → length (unwrap_or o number).0 ≡ 20
size_or None number key size = size
size_or (Some above) number key size = key.size

pub numbers_from : (t : Tree) (dir : Key) (cookie : ℕ) → NamesAreKeys t → length dir.0 ≡ 20 → AllByRecursion HasNumber (entries_from t dir cookie)
numbers_from t dir cookie keys size =
    let above = size_or (parent t dir) dir (key_above t.names dir keys) size in
    all_dropped HasNumber cookie (placed 0 (all_entries t dir)) (size, (above, numbers_placed 2 (listing t dir) (keys_in t.names dir keys)))

-- ---- entries that fit

module _ (item : Entry → List ℕ) (size : List ℕ → ℕ) where
  -- each entry takes no more than its size
  abbrev pub AreSized : List Entry → Type 0
  AreSized es = AllByRecursion (λ (e : Entry). AtMost (item e) (size e.1.0)) es

  pub most_fitting : (room : ℕ) (es : List Entry) → AreSized es → AtMost (flat_map item (fitting size room es)) room
  most_fitting room [] sized = record { most = omega arith }
  most_fitting room (e ∷ es) sized = by (nat_lt room (size e.1.0)) refl (most_fitting (room - size e.1.0) es sized.1)
    where
      by : (b : Bool) → nat_lt room (size e.1.0) ≡ b → AtMost (flat_map item (fitting size (room - size e.1.0) es)) (room - size e.1.0)
          → AtMost (flat_map item (cond b [] (e ∷ fitting size (room - size e.1.0) es))) room
      by true h again = record { most = omega arith }
      by false h again = let fits = ltb-false room (size e.1.0) h in within (sized.0 ▷ again) (omega (arith, fits))

  -- of these fewer may be taken
  fewer_fit : (other : List ℕ → ℕ) (room n : ℕ) (es : List Entry) → AtMost (flat_map item es) n → AtMost (flat_map item (fitting other room es)) n
  fewer_fit other room n [] most = most
  fewer_fit other room n (e ∷ es) most = by (nat_lt room (other e.1.0)) (fewer_fit other (room - other e.1.0) (length (flat_map item es)) es (all_of (flat_map item es)))
    where
      by : (b : Bool) → AtMost (flat_map item (fitting other (room - other e.1.0) es)) (length (flat_map item es))
          → AtMost (flat_map item (cond b [] (e ∷ fitting other (room - other e.1.0) es))) n
      by true again = record { most = omega arith }
      by false again = within (all_of (item e) ▷ again) (omega (arith, most.most, length-append (item e) (flat_map item es)))

  -- or the first alone, which has its place
  most_one : (count : ℕ) (left fit : List Entry) → too_small size count left ≡ false → AreSized left
      → AtMost (flat_map item fit) (room_for_entries count) → AtMost (flat_map item (at_least_one left fit)) (room_for_entries count)
  most_one count [] fit place sized most = most
  most_one count (e ∷ es) [] place sized most = let first = first_fits size count e es place in within (sized.0 ▷ all_of []) (omega (arith, first))
  most_one count (e ∷ es) (x ∷ xs) place sized most = most

  pub most_page : (count dircount : ℕ) (left : List Entry) → too_small size count left ≡ false → AreSized left
      → AtMost (flat_map item (at_least_one left (fitting entry_length dircount (fitting size (room_for_entries count) left)))) (room_for_entries count)
  most_page count dircount left place sized =
      most_one count left _ place sized (fewer_fit entry_length dircount (room_for_entries count) (fitting size (room_for_entries count) left) (most_fitting (room_for_entries count) left sized))

-- ---- pages

flat_map-map : (f : Listed → List ℕ) (g : Entry → Listed) (es : List Entry) → flat_map f (map g es) ≡ flat_map (λ (e : Entry). f (g e)) es
flat_map-map f g [] = refl
flat_map-map f g (e ∷ es) = ap (λ (bytes : List ℕ). f (g e) ++ bytes) (flat_map-map f g es)

most_listed : (e : Listed) → AtMost (listed_entry e) (plain_length e.name)
most_listed e = within (most_word 1 ▷ most_double_word e.fileid ▷ all_of (opaque e.name) ▷ most_double_word e.cookie) (omega arith)

plain_sized : (es : List Entry) → AreSized (λ (e : Entry). listed_entry (listed e)) plain_length es
plain_sized [] = tt
plain_sized (e ∷ es) = (most_listed (listed e), plain_sized es)

most_listed_plus : (t : Tree) (view : View) (e : Entry) → HasNumber e → AtMost (listed_entry_plus (listed_plus t view e)) (long_length e.1.0)
most_listed_plus t view e number = most_listed (listed_plus t view e) ▷ most_attributes (listed_plus t view e).attributes ▷ most_optional_handle view e.1.1 number

plus_sized : (t : Tree) (view : View) (es : List Entry) → AllByRecursion HasNumber es → AreSized (λ (e : Entry). listed_entry_plus (listed_plus t view e)) long_length es
plus_sized t view [] numbers = tt
plus_sized t view (e ∷ es) numbers = (most_listed_plus t view e numbers.0, plus_sized t view es numbers.1)

most_verifier : (t : Tree) (dir : Key) → AtMost (cookie_verifier t dir) 8
most_verifier t dir = record { most = let whole = length-take 8 (digest (flat_map (λ e. word (length e.0) ++ e.0 ++ e.1.0) (listing t dir))).0 in omega (arith, whole) }

-- the marks round the entries take 108 bytes
most_whole_page : {entries : List ℕ} (count : ℕ) (t : Tree) (number : Key) (dir : Option Fattr) (eof : Bool) → AtMost entries (room_for_entries count)
    → AtMost (word 0 ++ optional fattr dir ++ cookie_verifier t number ++ entries ++ word 0 ++ boolean eof) (4 + max 104 (min count longest_page))
most_whole_page count t number dir eof page =
    within (most_word 0 ▷ most_attributes dir ▷ most_verifier t number ▷ page ▷ most_word 0 ▷ most_boolean eof) (omega arith)

-- the reply takes no more than the room, or what an empty page takes
abbrev pub IsInRoom : ℕ → Reply → Type 0
IsInRoom count r = IsWithin (4 + max 104 (min count longest_page)) r

pub most_directory : (count : ℕ) (t : Tree) (number : Key) (dir : Option Fattr) (eof : Bool) (left : List Entry)
    → IsInRoom count (reply.Directory dir (cookie_verifier t number) (map listed (fitting plain_length (room_for_entries count) left)) eof)
most_directory count t number dir eof left =
    let entries = most_fitting (λ (e : Entry). listed_entry (listed e)) plain_length (room_for_entries count) left (plain_sized left) in
    let page : AtMost (flat_map listed_entry (map listed (fitting plain_length (room_for_entries count) left))) (room_for_entries count) = rw flat_map-map entries in
    record { most = (most_whole_page count t number dir eof page).most }

pub most_directory_plus : (count dircount : ℕ) (t : Tree) (view : View) (number : Key) (dir : Option Fattr) (eof : Bool) (left : List Entry)
    → too_small long_length count left ≡ false → AllByRecursion HasNumber left
    → IsInRoom count (reply.DirectoryPlus dir (cookie_verifier t number) (map (listed_plus t view) (at_least_one left (fitting entry_length dircount (fitting long_length (room_for_entries count) left)))) eof)
most_directory_plus count dircount t view number dir eof left place numbers =
    let entries = most_page (λ (e : Entry). listed_entry_plus (listed_plus t view e)) long_length count dircount left place (plus_sized t view left numbers) in
    let page : AtMost (flat_map listed_entry_plus (map (listed_plus t view) (at_least_one left (fitting entry_length dircount (fitting long_length (room_for_entries count) left))))) (room_for_entries count) = rw flat_map-map entries in
    record { most = (most_whole_page count t number dir eof page).most }
