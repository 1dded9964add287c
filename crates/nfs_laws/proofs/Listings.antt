-- The pages of a directory put together are its listing.
use Rattle.std.proofs.Common.{◌≡◌, ℕ, zero, suc, ◌+◌, Bool, true, false, List, [], ◌∷◌, ◌++◌, length, map, take, drop, refl, sym, ap, ◌∙◌, subst, arith, length-append, append-nil}
use Rattle.std.specs.Prelude.{unwrap_or}
use Rattle.std.proofs.lemmas.Bool.{eqb-true}
use Rattle.std.proofs.lemmas.List.{take-append-drop, map-append, length-map, drop-drop}
use Rattle.std.proofs.Math.Seq.{take-append_seam}
use Rattle.ivy_base.specs.declared.key.Key.{Key}
use Rattle.ivy_base.proofs.NameLemmas.{length-name}
use Rattle.tree_model.specs.Tree.{Tree, listing, parent}
use Rattle.log_model.specs.View.{View, view_block}
use Rattle.log_model.specs.Spelling.{IsKey}
use Rattle.wire_model.specs.Rpc.{Identity}
use Rattle.nfs_model.specs.declared.arguments.Args.{Args}
use Rattle.nfs_model.specs.declared.replies.Listed.{Listed}
use Rattle.nfs_model.specs.Objects.{handle_of}
use Rattle.nfs_model.specs.Pages.{placed, entries_from}
use Rattle.nfs_model.specs.Reading.{answer}
use Rattle.nfs_model.proofs.Objects.{object_of_handle, object_at}
use Rattle.nfs_laws.specs.Listings.{PagesAreListing, PagesGoOn, IsPageCall, IsPage, IsReadFrom, last, more, next_cookie, shown}
use Rattle.nfs_laws.proofs.Pages.{Entry, Shows, seen, page_shown}

pub pages_go_on : PagesGoOn
pages_go_on t view who args handle verifier given cookie page called is =
    let p = page_shown t view who handle cookie verifier given page false args called is in
    let some = p.2.goes_on refl in
    omega (arith, some, length-map page shown, length-map p.2.some seen, ap length p.2.seen_is)

-- ---- places

drop-placed : (c n : ℕ) (es : List (List ℕ × Key)) → drop c (placed n es) ≡ placed (n + c) (drop c es)
drop-placed zero n es = let same : n ≡ n + 0 = omega arith in ap (λ (m : ℕ). placed m es) same
drop-placed (suc c) n [] = refl
drop-placed (suc c) n (e ∷ es) = let same : n + 1 + c ≡ n + suc c = omega arith in drop-placed c (n + 1) es ∙ ap (λ (m : ℕ). placed m (drop c es)) same

behind_cookie : (c : ℕ) (es : List (List ℕ × Key)) → drop c (placed 0 es) ≡ placed c (drop c es)
behind_cookie c es = let same : 0 + c ≡ c = omega arith in drop-placed c 0 es ∙ ap (λ (m : ℕ). placed m (drop c es)) same

-- the cookie that the next page is asked with is the place of the last entry
next_place : (n : ℕ) (es : List (List ℕ × Key)) (some rest : List Entry) (page : List Listed)
    → map shown page ≡ map seen some → some ++ rest ≡ placed n es → next_cookie n page ≡ n + length some
next_place n es [] rest [] same e = omega arith
next_place n es [] rest (p ∷ page) same e = cc
next_place n es (x ∷ some) rest [] same e = cc
next_place n [] (x ∷ some) rest (p ∷ page) same e = cc
next_place n (y ∷ es) (x ∷ some) rest (p ∷ page) same e =
    let first : x ≡ (n + 1, y) = cc in
    let after : some ++ rest ≡ placed (n + 1) es = cc in
    let head : shown p ≡ seen x = cc in
    let tail : map shown page ≡ map seen some = cc in
    let cookie : p.cookie ≡ n + 1 = ap (λ (s : ℕ × (List ℕ × ℕ)). s.1.1) head ∙ ap (λ (z : Entry). z.0) first in
    let again = next_place (n + 1) es some rest page tail after in
    rw cookie (again ∙ omega arith)

-- ---- the directory's entries

-- with the directory above it
abbrev whole : Key → List (List ℕ × Key) → Key → List Entry
whole number names above = placed 0 ((46 ∷ [], number) ∷ (46 ∷ 46 ∷ [], above) ∷ names)

module _ (number : Key) (names : List (List ℕ × Key)) where
  -- of two parts that were read with different directories above, one at most shows it
  joined : (c k : ℕ) (a b : Key) → (above : Key) × (take k (drop c (whole number names a)) ++ drop k (drop c (whole number names b)) ≡ drop c (whole number names above))
  joined zero zero a b = (b, refl)
  joined zero (suc zero) a b = (b, refl)
  joined zero (suc (suc k)) a b = (a, ap (λ (es : List Entry). (1, (46 ∷ [], number)) ∷ (2, (46 ∷ 46 ∷ [], a)) ∷ es) (take-append-drop k (placed 2 names)))
  joined (suc zero) zero a b = (b, refl)
  joined (suc zero) (suc k) a b = (a, ap (λ (es : List Entry). (2, (46 ∷ 46 ∷ [], a)) ∷ es) (take-append-drop k (placed 2 names)))
  joined (suc (suc c)) k a b = (a, take-append-drop k (drop c (placed 2 names)))

  -- a page of the directory
  record IsPart (cookie : ℕ) (page : List Listed) (eof : Bool) : Type 0 where
    above : Key
    shows : Shows (drop cookie (whole number names above)) page eof

  part : (t : Tree) (view : View) (who : Identity) (args : Args) (cookie : ℕ) (verifier given : List ℕ) (page : List Listed) (eof : Bool) → IsKey number
      → listing t number ≡ names → IsPageCall (handle_of view number) cookie verifier args → IsPage given page eof (answer t view who args) → IsPart cookie page eof
  part t view who args cookie verifier given page eof key listed called is =
      let p = page_shown t view who (handle_of view number) cookie verifier given page eof args called is in
      let here = object_at t number p.0 (sym (object_of_handle t view number (length-name (view_block view)) key.size) ∙ p.1) in
      let at = subst (λ (n : Key). Shows (entries_from t n cookie) page eof) here.number_is p.2 in
      record {
        above = unwrap_or (parent t number) number;
        shows = subst (λ (es : List (List ℕ × Key)). Shows (drop cookie (whole number es (unwrap_or (parent t number) number))) page eof) listed at;
      }

  -- the last page shows all that is left
  all_left : (some rest left : List Entry) → some ++ rest ≡ left → length some ≡ length left → some ≡ left
  all_left some [] left e long = sym (append-nil some) ∙ e
  all_left some (x ∷ rest) left e long = absurd (omega (arith, long, ap length e, length-append some (x ∷ rest)))

  the_last : (cookie : ℕ) (page : List Listed) → IsPart cookie page true → (above : Key) × (map shown page ≡ map seen (drop cookie (whole number names above)))
  the_last cookie page p =
      let left : List Entry = drop cookie (whole number names p.above) in
      let long = eqb-true (length p.shows.some) (length left) p.shows.ends in
      (p.above, p.shows.seen_is ∙ ap (λ (es : List Entry). map seen es) (all_left p.shows.some p.shows.front.0 left p.shows.front.1 long))

  -- a page and those after it
  and_more : (cookie : ℕ) (page rest : List Listed) → IsPart cookie page false
      → (above : Key) × (map shown rest ≡ map seen (drop (next_cookie cookie page) (whole number names above)))
      → (above : Key) × (map shown (page ++ rest) ≡ map seen (drop cookie (whole number names above)))
  and_more cookie page rest p next =
      let some : List Entry = p.shows.some in
      let after : List Entry = p.shows.front.0 in
      let left : List Entry = drop cookie (whole number names p.above) in
      let front : some ++ after ≡ left = p.shows.front.1 in
      let first : some ≡ take (length some) left = sym (take-append_seam some after) ∙ ap (λ (es : List Entry). take (length some) es) front in
      let all : List (List ℕ × Key) = (46 ∷ [], number) ∷ (46 ∷ 46 ∷ [], p.above) ∷ names in
      let place : next_cookie cookie page ≡ cookie + length some = next_place cookie (drop cookie all) some after page p.shows.seen_is (front ∙ behind_cookie cookie all) in
      let next_left : drop (next_cookie cookie page) (whole number names next.0) ≡ drop (length some) (drop cookie (whole number names next.0)) =
      ap (λ (n : ℕ). drop n (whole number names next.0)) place ∙ sym (drop-drop (length some) cookie (whole number names next.0)) in
      let j = joined cookie (length some) p.above next.0 in (
        j.0,
        map-append shown page rest
            ∙ ap (λ (s : List (ℕ × (List ℕ × ℕ))). s ++ map shown rest) p.shows.seen_is
            ∙ ap (λ (s : List (ℕ × (List ℕ × ℕ))). map seen some ++ s) (next.1 ∙ ap (λ (es : List Entry). map seen es) next_left)
            ∙ sym (map-append seen some (drop (length some) (drop cookie (whole number names next.0))))
            ∙ ap (λ (es : List Entry). map seen (es ++ drop (length some) (drop cookie (whole number names next.0)))) first
            ∙ ap (λ (es : List Entry). map seen es) j.1,
      )

  read_on : (view : View) → IsKey number → {cookie : ℕ} {verifier : List ℕ} {pages : List Listed} → IsReadFrom view number names cookie verifier pages
      → (above : Key) × (map shown pages ≡ map seen (drop cookie (whole number names above)))
  read_on view key {cookie} {verifier} {pages} (last t who args listed called is) = the_last cookie pages (part t view who args cookie verifier _ pages true key listed called is)
  read_on view key {cookie} {verifier} (more {page = page} {rest = rest} t who args listed called is next) =
      and_more cookie page rest (part t view who args cookie verifier _ page false key listed called is) (read_on view key next)

pub pages_are_listing : PagesAreListing
pages_are_listing view number names verifier pages key read = read_on number names view key read
