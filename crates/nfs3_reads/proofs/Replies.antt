-- What the definitions answer, by the tests that decide it.
use Rattle.std.proofs.Common.{◌≡◌, ℕ, Bool, true, false, not, ◌&&◌, List, [], ◌∷◌, length, map, Some, None, Result, Ok, refl, sym, ap, ◌∙◌}
use Rattle.std.specs.Prelude.{◌==◌}
use Rattle.ivy_base.specs.declared.key.Key.{Key}
use Rattle.tree_model.specs.Tree.{Tree, directory_kind}
use Rattle.log_model.specs.View.{View}
use Rattle.wire_model.specs.Rpc.{Identity}
use Rattle.nfs_model.specs.declared.replies.NfsStatus.{NfsStatus}
use Rattle.nfs_model.specs.declared.replies.NfsStatus.TheVariants as status
use Rattle.nfs_model.specs.declared.replies.Tail.{Tail}
use Rattle.nfs_model.specs.declared.replies.Tail.TheVariants as tails
use Rattle.nfs_model.specs.declared.replies.Listed.{Listed}
use Rattle.nfs_model.specs.declared.replies.Reply.{Reply}
use Rattle.nfs_model.specs.declared.replies.Reply.TheVariants as reply
use Rattle.nfs_model.specs.Checks.{Check, first_failure, same_bytes}
use Rattle.nfs_model.specs.Objects.{Object, object_of, attributes, may_read}
use Rattle.nfs_model.specs.Answers.{about, unless}
use Rattle.nfs_model.specs.Pages.{page_checks, too_small, entries_from, cookie_verifier, fitting, at_least_one, entry_length, plain_length, long_length, room_for_entries, listed, listed_plus, read_directory, read_directory_plus}

good_handle : (found : Result Object NfsStatus) (none : Tail) (answer : Object → Reply) (o : Object) (r : Reply) → found ≡ Ok o → r ≡ answer o → r ≡ about found none answer
good_handle found none answer o r h e = rw h e

fails_checks : (checks : List Check) (tail : Tail) (answer : Reply) (fault : NfsStatus) → first_failure checks ≡ Some fault → reply.Refused fault tail ≡ unless checks tail answer
fails_checks checks tail answer fault h = rw h refl

passes_checks : (checks : List Check) (tail : Tail) (answer r : Reply) → first_failure checks ≡ None → r ≡ answer → r ≡ unless checks tail answer
passes_checks checks tail answer r h e = rw h e

-- ---- checks that are made two by two

by_two : (a b : Bool) (s t : NfsStatus) (rest : List Check) (fault : NfsStatus) → first_failure ((a, s) ∷ (b, t) ∷ []) ≡ Some fault → first_failure ((a, s) ∷ (b, t) ∷ rest) ≡ Some fault
by_two true b s t rest fault h = h
by_two false true s t rest fault h = h
by_two false false s t rest fault h = cc

past_two : (a b : Bool) (s t : NfsStatus) (rest : List Check) → first_failure ((a, s) ∷ (b, t) ∷ []) ≡ None → first_failure ((a, s) ∷ (b, t) ∷ rest) ≡ first_failure rest
past_two true b s t rest h = cc
past_two false true s t rest h = cc
past_two false false s t rest h = refl

abbrev Place : Type 0
Place = ℕ × (List ℕ × Key)

-- whether the directory may be read
abbrev reading_checks : Identity → Object → List Check
reading_checks who o = (not (directory_kind o.inode.kind), status.NotDir) ∷ (not (may_read who o.inode), status.Acces) ∷ []

-- whether a page begins there, of that verifier and of the entries that are left
abbrev start_checks : ℕ → List ℕ → (List ℕ → ℕ) → ℕ → List ℕ → List Place → List Check
start_checks cookie given size count verifier left =
    (not (cookie == 0) && not (same_bytes given verifier), status.BadCookie) ∷ (too_small size count left, status.TooSmall) ∷ []

-- the fault of the directory is that of the page
pub reading_fails : (t : Tree) (who : Identity) (o : Object) (cookie : ℕ) (given : List ℕ) (size : List ℕ → ℕ) (count : ℕ) (fault : NfsStatus)
    → first_failure (reading_checks who o) ≡ Some fault → first_failure (page_checks t who o cookie given size count) ≡ Some fault
reading_fails t who o cookie given size count fault h = by_two (not (directory_kind o.inode.kind)) (not (may_read who o.inode)) status.NotDir status.Acces (start_checks cookie given size count (cookie_verifier t o.number) (entries_from t o.number cookie)) fault h

-- where the directory has none, that of the start is
pub start_decides : (t : Tree) (who : Identity) (o : Object) (cookie : ℕ) (given : List ℕ) (size : List ℕ → ℕ) (count : ℕ) (verifier : List ℕ) (left : List Place)
    → first_failure (reading_checks who o) ≡ None → verifier ≡ cookie_verifier t o.number → left ≡ entries_from t o.number cookie
    → first_failure (page_checks t who o cookie given size count) ≡ first_failure (start_checks cookie given size count verifier left)
start_decides t who o cookie given size count verifier left h v l =
    past_two (not (directory_kind o.inode.kind)) (not (may_read who o.inode)) status.NotDir status.Acces (start_checks cookie given size count (cookie_verifier t o.number) (entries_from t o.number cookie)) h
    ∙ sym (λ i. first_failure (start_checks cookie given size count (v i) (l i)))

-- ---- answers

module _ (t : Tree) (view : View) (who : Identity) (handle : List ℕ) (cookie : ℕ) (given : List ℕ) (o : Object) where
  pub refused_page : (count : ℕ) (fault : NfsStatus) → object_of t view handle ≡ Ok o → first_failure (page_checks t who o cookie given plain_length count) ≡ Some fault
      → reply.Refused fault (tails.Attributes (Some (attributes t view o))) ≡ read_directory t view who handle cookie given count
  refused_page count fault found fails = good_handle (object_of t view handle) _ _ o _ found (fails_checks (page_checks t who o cookie given plain_length count) _ _ fault fails)

  pub given_page : (count : ℕ) (verifier : List ℕ) (left page : List Place) (told : List Listed) (eof : Bool) → object_of t view handle ≡ Ok o → first_failure (page_checks t who o cookie given plain_length count) ≡ None
      → verifier ≡ cookie_verifier t o.number → left ≡ entries_from t o.number cookie → page ≡ fitting plain_length (room_for_entries count) left → told ≡ map listed page → eof ≡ (length page == length left)
      → reply.Directory (Some (attributes t view o)) verifier told eof ≡ read_directory t view who handle cookie given count
  given_page count verifier left page told eof found passes v l p ts e =
      let whole : page ≡ fitting plain_length (room_for_entries count) (entries_from t o.number cookie) = p ∙ ap (fitting plain_length (room_for_entries count)) l in
      good_handle (object_of t view handle) _ _ o _ found
      (passes_checks (page_checks t who o cookie given plain_length count) _ _ _ passes
      (λ i. reply.Directory (Some (attributes t view o)) (v i) ((ts ∙ ap (map listed) whole) i) ((e ∙ (λ j. length (whole j) == length (l j))) i)))

  pub refused_page_plus : (dircount maxcount : ℕ) (fault : NfsStatus) → object_of t view handle ≡ Ok o → first_failure (page_checks t who o cookie given long_length maxcount) ≡ Some fault
      → reply.Refused fault (tails.Attributes (Some (attributes t view o))) ≡ read_directory_plus t view who handle cookie given dircount maxcount
  refused_page_plus dircount maxcount fault found fails = good_handle (object_of t view handle) _ _ o _ found (fails_checks (page_checks t who o cookie given long_length maxcount) _ _ fault fails)

  pub given_page_plus : (dircount maxcount : ℕ) (verifier : List ℕ) (left fit page : List Place) (told : List Listed) (eof : Bool) → object_of t view handle ≡ Ok o → first_failure (page_checks t who o cookie given long_length maxcount) ≡ None
      → verifier ≡ cookie_verifier t o.number → left ≡ entries_from t o.number cookie → fit ≡ fitting entry_length dircount (fitting long_length (room_for_entries maxcount) left) → page ≡ at_least_one left fit
      → told ≡ map (listed_plus t view) page → eof ≡ (length page == length left)
      → reply.DirectoryPlus (Some (attributes t view o)) verifier told eof ≡ read_directory_plus t view who handle cookie given dircount maxcount
  given_page_plus dircount maxcount verifier left fit page told eof found passes v l f p ts e =
      let whole : page ≡ at_least_one (entries_from t o.number cookie) (fitting entry_length dircount (fitting long_length (room_for_entries maxcount) (entries_from t o.number cookie))) =
      p ∙ ap (at_least_one left) f ∙ ap (λ (ps : List Place). at_least_one ps (fitting entry_length dircount (fitting long_length (room_for_entries maxcount) ps))) l in
      good_handle (object_of t view handle) _ _ o _ found
      (passes_checks (page_checks t who o cookie given long_length maxcount) _ _ _ passes
      (λ i. reply.DirectoryPlus (Some (attributes t view o)) (v i) ((ts ∙ ap (map (listed_plus t view)) whole) i) ((e ∙ (λ j. length (whole j) == length (l j))) i)))
