-- What a page shows of the entries that are left: the first of them, and at least one where there is one.
use Rattle.std.proofs.Common.{◌≡◌, ℕ, ◌+◌, ◌-◌, ◌≤◌, min, Bool, true, false, cond, List, [], ◌∷◌, ◌++◌, length, map, Ok, refl, sym, ap, ◌∙◌, arith, append_assoc}
use Rattle.std.specs.Prelude.{nat_lt, ◌==◌}
use Rattle.std.proofs.lemmas.Bool.{ltb-false, le-ltb}
use Rattle.ivy_base.specs.declared.key.Key.{Key}
use Rattle.tree_model.specs.Tree.{Tree}
use Rattle.log_model.specs.View.{View}
use Rattle.wire_model.specs.Rpc.{Identity}
use Rattle.nfs_model.specs.declared.arguments.Args.{Args}
use Rattle.nfs_model.specs.declared.replies.Listed.{Listed}
use Rattle.nfs_model.specs.declared.replies.NfsStatus.{NfsStatus}
use Rattle.nfs_model.specs.declared.replies.Tail.{Tail}
use Rattle.nfs_model.specs.declared.replies.Reply.{Reply}
use Rattle.nfs_model.specs.declared.replies.Reply.TheVariants as reply
use Rattle.nfs_model.specs.Objects.{Object, object_of}
use Rattle.nfs_model.specs.Pages.{fitting, at_least_one, too_small, room_for_entries, entries_from, entry_length, plain_length, long_length, listed, listed_plus, page_checks, read_directory, read_directory_plus, longest_page}
use Rattle.nfs_model.specs.Reading.{answer}
use Rattle.nfs_laws.specs.Listings.{shown, IsPageCall, IsPage, plain, plus}
use Rattle.nfs_laws.proofs.Ways.{of_unless, of_about}

-- an entry with its place
abbrev pub Entry : Type 0
Entry = ℕ × (List ℕ × Key)

abbrev pub seen : Entry → ℕ × (List ℕ × ℕ)
seen e = shown (listed e)

-- ---- fronts

-- the first of these entries
abbrev pub IsFront : List Entry → List Entry → Type 0
IsFront some all = (rest : List Entry) × (some ++ rest ≡ all)

pub front_of_front : (xs ys zs : List Entry) → IsFront xs ys → IsFront ys zs → IsFront xs zs
front_of_front xs ys zs p q = (p.0 ++ q.0, sym (append_assoc xs p.0 q.0) ∙ ap (λ (es : List Entry). es ++ q.0) p.1 ∙ q.1)

front_if : (b : Bool) (e : Entry) (some all : List Entry) → IsFront some all → IsFront (cond b [] (e ∷ some)) (e ∷ all)
front_if true e some all f = (e ∷ all, refl)
front_if false e some all f = (f.0, ap (λ (es : List Entry). e ∷ es) f.1)

pub front_of_fitting : (size : List ℕ → ℕ) (room : ℕ) (es : List Entry) → IsFront (fitting size room es) es
front_of_fitting size room [] = ([], refl)
front_of_fitting size room (e ∷ es) = front_if (nat_lt room (size e.1.0)) e _ es (front_of_fitting size (room - size e.1.0) es)

pub front_of_one : (left fit : List Entry) → IsFront fit left → IsFront (at_least_one left fit) left
front_of_one [] fit f = f
front_of_one (e ∷ es) [] f = (es, refl)
front_of_one (e ∷ es) (x ∷ xs) f = f

-- ---- at least one

some_fit : (b : Bool) (e : Entry) (es : List Entry) → b ≡ false → 1 ≤ length (cond b [] (e ∷ es))
some_fit true e es h = cc
some_fit false e es h = omega arith

-- the first of the entries that are left has its place
pub first_fits : (size : List ℕ → ℕ) (count : ℕ) (e : Entry) (es : List Entry) → too_small size count (e ∷ es) ≡ false → size e.1.0 ≤ room_for_entries count
first_fits size count e es h = let room = ltb-false (min count longest_page) (104 + size e.1.0) h in omega (arith, room)

fitting_goes_on : (size : List ℕ → ℕ) (count : ℕ) (left : List Entry) → too_small size count left ≡ false
    → (length (fitting size (room_for_entries count) left) == length left) ≡ false → 1 ≤ length (fitting size (room_for_entries count) left)
fitting_goes_on size count [] h more = cc
fitting_goes_on size count (e ∷ es) h more =
    some_fit (nat_lt (room_for_entries count) (size e.1.0)) e (fitting size (room_for_entries count - size e.1.0) es) (le-ltb (room_for_entries count) (size e.1.0) (first_fits size count e es h))

one_goes_on : (left fit : List Entry) → IsFront fit left → (length (at_least_one left fit) == length left) ≡ false → 1 ≤ length (at_least_one left fit)
one_goes_on [] [] f more = cc
one_goes_on [] (x ∷ xs) f more = omega arith
one_goes_on (e ∷ es) [] f more = omega arith
one_goes_on (e ∷ es) (x ∷ xs) f more = omega arith

-- ---- pages

-- a page of these entries
pub record Shows (left : List Entry) (page : List Listed) (eof : Bool) : Type 0 where
  pub some : List Entry
  pub front : IsFront some left
  pub seen_is : map shown page ≡ map seen some
  pub ends : (length some == length left) ≡ eof
  pub goes_on : eof ≡ false → 1 ≤ length some

shown_plain : (es : List Entry) → map shown (map listed es) ≡ map seen es
shown_plain [] = refl
shown_plain (e ∷ es) = ap (λ (xs : List (ℕ × (List ℕ × ℕ))). seen e ∷ xs) (shown_plain es)

shown_plus : (t : Tree) (view : View) (es : List Entry) → map shown (map (listed_plus t view) es) ≡ map seen es
shown_plus t view [] = refl
shown_plus t view (e ∷ es) = ap (λ (xs : List (ℕ × (List ℕ × ℕ))). seen e ∷ xs) (shown_plus t view es)

-- what a reply that is a page says of it
abbrev pub Holds : List ℕ → List Listed → Bool → Reply → Type 0
Holds given page eof (reply.Directory dir v p e) = (v ≡ given) × (p ≡ page) × (e ≡ eof)
Holds given page eof (reply.DirectoryPlus dir v p e) = (v ≡ given) × (p ≡ page) × (e ≡ eof)
Holds given page eof _ = ⊥

pub holds : (given : List ℕ) (page : List Listed) (eof : Bool) (r : Reply) → IsPage given page eof r → Holds given page eof r
holds given page eof _ (plain dir) = (refl, refl, refl)
holds given page eof _ (plus dir) = (refl, refl, refl)

module _ (t : Tree) (view : View) (who : Identity) (handle : List ℕ) (cookie : ℕ) (verifier given : List ℕ) (page : List Listed) (eof : Bool) where
  -- the page shows the entries after the cookie in the handle's directory
  abbrev pub IsShown : Reply → Type 0
  IsShown r = Holds given page eof r → (dir : Object) × (object_of t view handle ≡ Ok dir) × Shows (entries_from t dir.number cookie) page eof

  refused : (fault : NfsStatus) (with : Tail) → IsShown (reply.Refused fault with)
  refused fault with h = absurd h

  plain_shown : (count : ℕ) → IsShown (read_directory t view who handle cookie verifier count)
  plain_shown count = of_about IsShown refused (object_of t view handle) _ _ (λ dir e.
      let left : List Entry = entries_from t dir.number cookie in
      of_unless IsShown refused (page_checks t who dir cookie verifier plain_length count) _ _ (λ passed h. (
        dir,
        e,
        record {
          some = fitting plain_length (room_for_entries count) left;
          front = front_of_fitting plain_length (room_for_entries count) left;
          seen_is = ap (λ (p : List Listed). map shown p) (sym h.1) ∙ shown_plain _;
          ends = h.2;
          goes_on = λ more. fitting_goes_on plain_length count left passed.1.1.1.0 (h.2 ∙ more);
        },
      )))

  plus_shown : (dircount maxcount : ℕ) → IsShown (read_directory_plus t view who handle cookie verifier dircount maxcount)
  plus_shown dircount maxcount = of_about IsShown refused (object_of t view handle) _ _ (λ dir e.
      let left : List Entry = entries_from t dir.number cookie in
      let whole : List Entry = fitting long_length (room_for_entries maxcount) left in
      let fit : List Entry = fitting entry_length dircount whole in
      let front : IsFront fit left = front_of_front fit whole left (front_of_fitting entry_length dircount whole) (front_of_fitting long_length (room_for_entries maxcount) left) in
      of_unless IsShown refused (page_checks t who dir cookie verifier long_length maxcount) _ _ (λ passed h. (
        dir,
        e,
        record {
          some = at_least_one left fit;
          front = front_of_one left fit front;
          seen_is = ap (λ (p : List Listed). map shown p) (sym h.1) ∙ shown_plus t view _;
          ends = h.2;
          goes_on = λ more. one_goes_on left fit front (h.2 ∙ more);
        },
      )))

  pub page_shown : (args : Args) → IsPageCall handle cookie verifier args → IsPage given page eof (answer t view who args)
      → (dir : Object) × (object_of t view handle ≡ Ok dir) × Shows (entries_from t dir.number cookie) page eof
  page_shown _ (plain count) h = plain_shown count (holds given page eof _ h)
  page_shown _ (plus dircount maxcount) h = plus_shown dircount maxcount (holds given page eof _ h)
