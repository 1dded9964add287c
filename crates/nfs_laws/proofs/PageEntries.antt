-- What a page of a directory says of each entry, and which calls a page answers.
use Rattle.std.proofs.Common.{◌≡◌, ℕ, zero, suc, ◌+◌, ◌≤◌, min, Bool, true, false, not, ◌&&◌, List, [], ◌∷◌, ◌++◌, ◌-◌, length, map, take, drop, Option, Some, None, Result, Ok, refl, sym, ap, ◌∙◌, subst, ◌⊎◌, inl, inr, arith, length-append, length-drop}
use Rattle.std.specs.Prelude.{codes, unwrap_or, ◌==◌, IsTrue, ◌↔◌}
use Rattle.std.specs.List.{slice_get, flat_map}
use Rattle.std.proofs.lemmas.Bool.{eqb-true, eq-eqb, le-ltb}
use Rattle.std.proofs.lemmas.List.{length-map}
use Rattle.std.proofs.lemmas.Option.{same_Some}
use Rattle.ivy_base.specs.declared.key.Key.{Key}
use Rattle.ivy_base.specs.Naming.{digest}
use Rattle.ivy_base.proofs.NameLemmas.{length-name}
use Rattle.tree_model.specs.Tree.{Tree, listing, parent, directory_kind}
use Rattle.log_model.specs.View.{View, view_block}
use Rattle.wire_model.specs.Rpc.{Identity}
use Rattle.wire_model.specs.Xdr.{word}
use Rattle.nfs_model.specs.declared.arguments.Args.{Args}
use Rattle.nfs_model.specs.declared.replies.Fattr.{Fattr}
use Rattle.nfs_model.specs.declared.replies.Listed.{Listed}
use Rattle.nfs_model.specs.declared.replies.NfsStatus.{NfsStatus}
use Rattle.nfs_model.specs.declared.replies.Tail.{Tail}
use Rattle.nfs_model.specs.declared.replies.Tail.TheVariants as tail
use Rattle.nfs_model.specs.declared.replies.Reply.{Reply}
use Rattle.nfs_model.specs.declared.replies.Reply.TheVariants as reply
use Rattle.nfs_model.specs.Answers.{about, unless}
use Rattle.nfs_model.specs.Checks.{Check, same_bytes}
use Rattle.nfs_model.specs.Objects.{Object, object_of, handle_of, attributes, may_read}
use Rattle.nfs_model.specs.Pages.{placed, all_entries, entries_from, cookie_verifier, fitting, at_least_one, too_small, room_for_entries, entry_length, plain_length, long_length, listed, listed_plus, page_checks, read_directory, read_directory_plus, longest_page}
use Rattle.nfs_model.specs.Reading.{answer}
use Rattle.nfs_model.proofs.NameChecks.{same_bytes_itself}
use Rattle.nfs_model.proofs.Objects.{object_of_handle, object_at}
use Rattle.nfs_laws.specs.Listings.{IsPageCall, IsPage, plain, plus}
use Rattle.nfs_laws.specs.PageEntries.{StandsAt, itself, above, top, named, IsEntryAt, SaysNoMore, SaysAll, IsPageBehind, PlainPagesSay, PlusPagesSay, WasGiven, PagesAreGiven}
use Rattle.nfs_laws.proofs.Pages.{Entry, IsFront, front_of_front, front_of_fitting, front_of_one, Holds, holds}
use Rattle.nfs_laws.proofs.Ways.{Pass, of_unless, of_about, is_object}

-- ---- places of a list

found_behind : {X : Type 0} (c i : ℕ) (xs : List X) → slice_get (drop c xs) i ≡ slice_get xs (c + i)
found_behind zero i xs = let e : i ≡ 0 + i = omega arith in ap (λ (n : ℕ). slice_get xs n) e
found_behind (suc c) i [] = refl
found_behind (suc c) i (x ∷ xs) = let e : suc (c + i) ≡ suc c + i = omega arith in found_behind c i xs ∙ ap (λ (n : ℕ). slice_get (x ∷ xs) n) e

found_in_front : {X : Type 0} (xs ys : List X) (i : ℕ) (x : X) → slice_get xs i ≡ Some x → slice_get (xs ++ ys) i ≡ Some x
found_in_front [] ys i x h = cc
found_in_front (y ∷ xs) ys zero x h = h
found_in_front (y ∷ xs) ys (suc i) x h = found_in_front xs ys i x h

found_mapped : {X Y : Type 0} (f : X → Y) (xs : List X) (i : ℕ) (y : Y) → slice_get (map f xs) i ≡ Some y → (x : X) × (f x ≡ y) × (slice_get xs i ≡ Some x)
found_mapped f [] i y h = cc
found_mapped f (x ∷ xs) zero y h = (x, same_Some (f x) y h, refl)
found_mapped f (x ∷ xs) (suc i) y h = found_mapped f xs i y h

found_placed : (n : ℕ) (es : List (List ℕ × Key)) (i : ℕ) (x : Entry) → slice_get (placed n es) i ≡ Some x → (x.0 ≡ n + 1 + i) × (slice_get es i ≡ Some x.1)
found_placed n [] i x h = cc
found_placed n (e ∷ es) zero x h =
    let same : (n + 1, e) ≡ x = same_Some (n + 1, e) x h in
    let place : n + 1 ≡ x.0 = ap (λ (y : Entry). y.0) same in
    (omega (arith, place), ap (λ (y : Entry). Some y.1) same)
found_placed n (e ∷ es) (suc i) x h = let again = found_placed (n + 1) es i x h in (omega (arith, again.0), again.1)

length_placed : (n : ℕ) (es : List (List ℕ × Key)) → length (placed n es) ≡ length es
length_placed n [] = refl
length_placed n (e ∷ es) = ap suc (length_placed (n + 1) es)

-- ---- places of a directory

second : (t : Tree) (dir : Key) (p : Option Key) (e : List ℕ × Key) → parent t dir ≡ p → Some (codes "..", unwrap_or p dir) ≡ Some e → StandsAt t dir 2 e.0 e.1
second t dir None e q h = subst (λ (y : List ℕ × Key). StandsAt t dir 2 y.0 y.1) (same_Some (codes "..", dir) e h) (top q)
second t dir (Some number) e q h = subst (λ (y : List ℕ × Key). StandsAt t dir 2 y.0 y.1) (same_Some (codes "..", number) e h) (above q)

stands : (t : Tree) (dir : Key) (i : ℕ) (e : List ℕ × Key) → slice_get (all_entries t dir) i ≡ Some e → StandsAt t dir (1 + i) e.0 e.1
stands t dir zero e h = subst (λ (y : List ℕ × Key). StandsAt t dir 1 y.0 y.1) (same_Some (codes ".", dir) e h) itself
stands t dir (suc zero) e h = second t dir (parent t dir) e refl h
stands t dir (suc (suc i)) e h = let place : 3 + i ≡ 1 + suc (suc i) = omega arith in subst (λ (n : ℕ). StandsAt t dir n e.0 e.1) place (named i h)

at_place : (t : Tree) (dir : Key) (cookie i : ℕ) (x : Entry) → slice_get (entries_from t dir cookie) i ≡ Some x
    → (x.0 ≡ cookie + 1 + i) × StandsAt t dir (cookie + 1 + i) x.1.0 x.1.1
at_place t dir cookie i x h =
    let there = found_placed 0 (all_entries t dir) (cookie + i) x (sym (found_behind cookie i (placed 0 (all_entries t dir))) ∙ h) in
    let place : 1 + (cookie + i) ≡ cookie + 1 + i = omega arith in
    (omega (arith, there.0), subst (λ (n : ℕ). StandsAt t dir n x.1.0 x.1.1) place (stands t dir (cookie + i) x.1 there.1))

-- ---- a page after a cookie

length_left : (t : Tree) (dir : Key) (cookie : ℕ) → length (entries_from t dir cookie) ≡ (2 + length (listing t dir)) - cookie
length_left t dir cookie = omega (arith, length-drop cookie (placed 0 (all_entries t dir)), length_placed 0 (all_entries t dir))

ends_there : (t : Tree) (dir : Key) (cookie : ℕ) (some : List Entry) (count : ℕ) (eof : Bool) → IsFront some (entries_from t dir cookie) → count ≡ length some
    → (length some == length (entries_from t dir cookie)) ≡ eof → IsTrue eof ↔ (2 + length (listing t dir) ≤ cookie + count)
ends_there t dir cookie some count eof front counted ends =
    let left : List Entry = entries_from t dir cookie in
    let long = length_left t dir cookie in
    let whole : length (some ++ front.0) ≡ length left = ap length front.1 in (
      λ h. let all = eqb-true (length some) (length left) (ends ∙ h) in omega (arith, all, long, counted),
      λ h. sym ends ∙ eq-eqb (length some) (length left) (omega (arith, h, long, counted, whole, length-append some front.0)),
    )

module _ (t : Tree) (view : View) (dir : Object) (cookie : ℕ) (Says : Key → Listed → Type 0) (f : Entry → Listed) where
  page_behind : ((place : ℕ) (x : Entry) → x.0 ≡ place → StandsAt t dir.number place x.1.0 x.1.1 → IsEntryAt t dir.number place x.1.1 (f x)) → ((x : Entry) → Says x.1.1 (f x))
      → (some : List Entry) (attr : Option Fattr) (verifier : List ℕ) (page : List Listed) (eof : Bool)
      → IsFront some (entries_from t dir.number cookie) → Some (attributes t view dir) ≡ attr → cookie_verifier t dir.number ≡ verifier
      → map f some ≡ page → (length some == length (entries_from t dir.number cookie)) ≡ eof → IsPageBehind Says t view dir cookie attr verifier page eof
  page_behind entry says some attr verifier page eof front attr_is verifier_is page_is ends = record {
    attr_is = sym attr_is;
    verifier_is = sym verifier_is;
    entries = λ i e h.
        let m = found_mapped f some i e (ap (λ (es : List Listed). slice_get es i) page_is ∙ h) in
        let x : Entry = m.0 in
        let at = at_place t dir.number cookie i x (ap (λ (es : List Entry). slice_get es i) (sym front.1) ∙ found_in_front some front.0 i x m.2) in
        (x.1.1, subst (λ (y : Listed). IsEntryAt t dir.number (cookie + 1 + i) x.1.1 y) m.1 (entry (cookie + 1 + i) x at.0 at.1), subst (λ (y : Listed). Says x.1.1 y) m.1 (says x));
    ends = ends_there t dir.number cookie some (length page) eof front (ap length (sym page_is) ∙ length-map some f) ends;
  }

-- ---- both procedures

module _ (t : Tree) (view : View) (who : Identity) (handle : List ℕ) (cookie : ℕ) (verifier : List ℕ) where
  module _ (attr : Option Fattr) (given : List ℕ) (page : List Listed) (eof : Bool) where
    abbrev IsPlain : Reply → Type 0
    IsPlain r = r ≡ reply.Directory attr given page eof → (dir : Object) × (object_of t view handle ≡ Ok dir) × IsPageBehind SaysNoMore t view dir cookie attr given page eof

    not_plain : (fault : NfsStatus) (with : Tail) → IsPlain (reply.Refused fault with)
    not_plain fault with h = cc

    plain_says : (count : ℕ) → IsPlain (read_directory t view who handle cookie verifier count)
    plain_says count = of_about IsPlain not_plain (object_of t view handle) _ _ (λ dir e.
        let left : List Entry = entries_from t dir.number cookie in
        let some : List Entry = fitting plain_length (room_for_entries count) left in
        of_unless IsPlain not_plain (page_checks t who dir cookie verifier plain_length count) _ _ (λ passed h.
        let a : Some (attributes t view dir) ≡ attr = cc in
        let v : cookie_verifier t dir.number ≡ given = cc in
        let p : map listed some ≡ page = cc in
        let f : (length some == length left) ≡ eof = cc in (
          dir,
          e,
          page_behind t view dir cookie SaysNoMore listed (λ place x c s. record { stands = s; fileid = refl; cookie = c }) (λ x. (refl, refl))
              some attr given page eof (front_of_fitting plain_length (room_for_entries count) left) a v p f,
        )))

    abbrev IsPlus : Reply → Type 0
    IsPlus r = r ≡ reply.DirectoryPlus attr given page eof → (dir : Object) × (object_of t view handle ≡ Ok dir) × IsPageBehind (SaysAll t view) t view dir cookie attr given page eof

    not_plus : (fault : NfsStatus) (with : Tail) → IsPlus (reply.Refused fault with)
    not_plus fault with h = cc

    plus_says : (dircount maxcount : ℕ) → IsPlus (read_directory_plus t view who handle cookie verifier dircount maxcount)
    plus_says dircount maxcount = of_about IsPlus not_plus (object_of t view handle) _ _ (λ dir e.
        let left : List Entry = entries_from t dir.number cookie in
        let whole : List Entry = fitting long_length (room_for_entries maxcount) left in
        let fit : List Entry = fitting entry_length dircount whole in
        let some : List Entry = at_least_one left fit in
        let front : IsFront fit left = front_of_front fit whole left (front_of_fitting entry_length dircount whole) (front_of_fitting long_length (room_for_entries maxcount) left) in
        of_unless IsPlus not_plus (page_checks t who dir cookie verifier long_length maxcount) _ _ (λ passed h.
        let a : Some (attributes t view dir) ≡ attr = cc in
        let v : cookie_verifier t dir.number ≡ given = cc in
        let p : map (listed_plus t view) some ≡ page = cc in
        let f : (length some == length left) ≡ eof = cc in (
          dir,
          e,
          page_behind t view dir cookie (SaysAll t view) (listed_plus t view) (λ place x c s. record { stands = s; fileid = refl; cookie = c }) (λ x. (refl, refl))
              some attr given page eof (front_of_one left fit front) a v p f,
        )))

  -- a page has the verifier of the listing
  module _ (given : List ℕ) (page : List Listed) (eof : Bool) where
    abbrev Brings : Reply → Type 0
    Brings r = Holds given page eof r → (dir : Object) × (object_of t view handle ≡ Ok dir) × (cookie_verifier t dir.number ≡ given)

    brings_none : (fault : NfsStatus) (with : Tail) → Brings (reply.Refused fault with)
    brings_none fault with h = absurd h

    plain_brings : (count : ℕ) → Brings (read_directory t view who handle cookie verifier count)
    plain_brings count = of_about Brings brings_none (object_of t view handle) _ _ (λ dir e.
        of_unless Brings brings_none (page_checks t who dir cookie verifier plain_length count) _ _ (λ passed h. (dir, e, h.0)))

    plus_brings : (dircount maxcount : ℕ) → Brings (read_directory_plus t view who handle cookie verifier dircount maxcount)
    plus_brings dircount maxcount = of_about Brings brings_none (object_of t view handle) _ _ (λ dir e.
        of_unless Brings brings_none (page_checks t who dir cookie verifier long_length maxcount) _ _ (λ passed h. (dir, e, h.0)))

    brings : (args : Args) → IsPageCall handle cookie verifier args → IsPage given page eof (answer t view who args)
        → (dir : Object) × (object_of t view handle ≡ Ok dir) × (cookie_verifier t dir.number ≡ given)
    brings _ (plain count) h = plain_brings count (holds given page eof _ h)
    brings _ (plus dircount maxcount) h = plus_brings dircount maxcount (holds given page eof _ h)

pub plain_pages_say : PlainPagesSay
plain_pages_say t view who handle cookie verifier count attr given page eof h = plain_says t view who handle cookie verifier attr given page eof count h

pub plus_pages_say : PlusPagesSay
plus_pages_say t view who handle cookie verifier dircount maxcount attr given page eof h = plus_says t view who handle cookie verifier attr given page eof dircount maxcount h

-- ---- which calls a page answers

verifier_of : (t before : Tree) (number : Key) → listing before number ≡ listing t number → cookie_verifier before number ≡ cookie_verifier t number
verifier_of t before number same = ap (λ (names : List (List ℕ × Key)). take 8 (digest (flat_map (λ e. word (length e.0) ++ e.0 ++ e.1.0) names)).0) same

given_again : (t : Tree) (view : View) (number : Key) (verifier : List ℕ) → length number.0 ≡ 20 → WasGiven view number (listing t number) verifier → verifier ≡ cookie_verifier t number
given_again t view number verifier long w =
    let b = brings w.before view w.caller (handle_of view number) w.cookie w.with verifier w.page w.eof w.args w.called w.brought in
    let here = object_at w.before number b.0 (sym (object_of_handle w.before view number (length-name (view_block view)) long) ∙ b.1) in
    sym b.2 ∙ ap (λ (n : Key). cookie_verifier w.before n) here.number_is ∙ verifier_of t w.before number w.listed

passed : (checks : List Check) (with : Tail) (r : Reply) → Pass checks → unless checks with r ≡ r
passed [] with r h = refl
passed (c ∷ checks) with r h = one c.0 h.0 (passed checks with r h.1)
  where
    one : (b : Bool) → b ≡ false → unless checks with r ≡ r → unless ((b, c.1) ∷ checks) with r ≡ r
    one true e again = cc
    one false e again = again

good_cookie : (a b : Bool) → (a ≡ true) ⊎ (b ≡ true) → (not a && not b) ≡ false
good_cookie true b h = refl
good_cookie false true h = refl
good_cookie false false (inl e) = cc
good_cookie false false (inr e) = cc

not_too_small : (size : List ℕ → ℕ) (count : ℕ) (left : List Entry) → ((e : Entry) → slice_get left 0 ≡ Some e → 104 + size e.1.0 ≤ min count longest_page) → too_small size count left ≡ false
not_too_small size count [] room = refl
not_too_small size count (e ∷ es) room = le-ltb (min count longest_page) (104 + size e.1.0) (room e refl)

checks_pass : (t : Tree) (view : View) (who : Identity) (handle : List ℕ) (cookie : ℕ) (verifier : List ℕ) (dir : Object) (size : List ℕ → ℕ) (count : ℕ)
    → object_of t view handle ≡ Ok dir → directory_kind dir.inode.kind ≡ true → may_read who dir.inode ≡ true
    → (cookie ≡ 0) ⊎ WasGiven view dir.number (listing t dir.number) verifier
    → ((name : List ℕ) (number : Key) → StandsAt t dir.number (cookie + 1) name number → 104 + size name ≤ min count longest_page)
    → Pass (page_checks t who dir cookie verifier size count)
checks_pass t view who handle cookie verifier dir size count found is_directory readable good room =
    let place : cookie + 1 + 0 ≡ cookie + 1 = omega arith in
    let fits : too_small size count (entries_from t dir.number cookie) ≡ false = not_too_small size count (entries_from t dir.number cookie) (λ e h.
    room e.1.0 e.1.1 (subst (λ (n : ℕ). StandsAt t dir.number n e.1.0 e.1.1) place (at_place t dir.number cookie 0 e h).1)) in
    (ap not is_directory, (ap not readable, (good_cookie (cookie == 0) (same_bytes verifier (cookie_verifier t dir.number)) (by good), (fits, tt))))
  where
    by : (cookie ≡ 0) ⊎ WasGiven view dir.number (listing t dir.number) verifier → ((cookie == 0) ≡ true) ⊎ (same_bytes verifier (cookie_verifier t dir.number) ≡ true)
    by (inl first) = inl (eq-eqb cookie 0 first)
    by (inr given) = inr (ap (λ (v : List ℕ). same_bytes v (cookie_verifier t dir.number)) (given_again t view dir.number verifier (is_object t view handle dir found).number given) ∙ same_bytes_itself (cookie_verifier t dir.number))

-- the answer after its checks
reached : (t : Tree) (view : View) (handle : List ℕ) (dir : Object) (none : Tail) (checks : Object → List Check) (with : Object → Tail) (r : Object → Reply)
    → object_of t view handle ≡ Ok dir → Pass (checks dir) → about (object_of t view handle) none (λ o. unless (checks o) (with o) (r o)) ≡ r dir
reached t view handle dir none checks with r found pass =
    ap (λ (o : Result Object NfsStatus). about o none (λ o. unless (checks o) (with o) (r o))) found ∙ passed (checks dir) (with dir) (r dir) pass

pub pages_are_given : PagesAreGiven
pages_are_given t view who _ handle cookie verifier dir (plain count) found is_directory readable good room =
    let left : List Entry = entries_from t dir.number cookie in
    let page : List Entry = fitting plain_length (room_for_entries count) left in
    let e = reached t view handle dir (tail.Attributes None) (λ o. page_checks t who o cookie verifier plain_length count) (λ o. tail.Attributes (Some (attributes t view o)))
    (λ o. reply.Directory (Some (attributes t view o)) (cookie_verifier t o.number) (map listed (fitting plain_length (room_for_entries count) (entries_from t o.number cookie)))
    (length (fitting plain_length (room_for_entries count) (entries_from t o.number cookie)) == length (entries_from t o.number cookie)))
    found (checks_pass t view who handle cookie verifier dir plain_length count found is_directory readable good room) in (
      cookie_verifier t dir.number,
      map listed page,
      length page == length left,
      subst (λ (r : Reply). IsPage (cookie_verifier t dir.number) (map listed page) (length page == length left) r) (sym e) (plain (Some (attributes t view dir))),
    )
pages_are_given t view who _ handle cookie verifier dir (plus dircount maxcount) found is_directory readable good room =
    let left : List Entry = entries_from t dir.number cookie in
    let page : List Entry = at_least_one left (fitting entry_length dircount (fitting long_length (room_for_entries maxcount) left)) in
    let whole : Object → List Entry = λ o. at_least_one (entries_from t o.number cookie) (fitting entry_length dircount (fitting long_length (room_for_entries maxcount) (entries_from t o.number cookie))) in
    let e = reached t view handle dir (tail.Attributes None) (λ o. page_checks t who o cookie verifier long_length maxcount) (λ o. tail.Attributes (Some (attributes t view o)))
    (λ o. reply.DirectoryPlus (Some (attributes t view o)) (cookie_verifier t o.number) (map (listed_plus t view) (whole o)) (length (whole o) == length (entries_from t o.number cookie)))
    found (checks_pass t view who handle cookie verifier dir long_length maxcount found is_directory readable good room) in (
      cookie_verifier t dir.number,
      map (listed_plus t view) page,
      length page == length left,
      subst (λ (r : Reply). IsPage (cookie_verifier t dir.number) (map (listed_plus t view) page) (length page == length left) r) (sym e) (plus (Some (attributes t view dir))),
    )
