-- Pages are replies of READDIR and READDIRPLUS.
use Rattle.std.proofs.Common.{ℕ, ◌+◌, ◌-◌, ◌<◌, ◌≤◌, ◌^◌, Bool, true, false, cond, List, [], ◌∷◌, ◌++◌, length, map, filter_map, Option, Some, None, refl, arith, length-take}
use Rattle.std.specs.Prelude.{nat_lt, unwrap_or, IfSome}
use Rattle.std.specs.List.{AllByRecursion, flat_map, cons_option}
use Rattle.ivy_base.specs.declared.key.Key.{Key}
use Rattle.ivy_base.specs.Naming.{digest, IsFileName}
use Rattle.ivy_base.proofs.NameLemmas.{length-digest}
use Rattle.tree_model.specs.Tree.{Tree, Place, listing, parent, same_key}
use Rattle.log_model.specs.Spelling.{IsKey}
use Rattle.log_model.specs.View.{View}
use Rattle.wire_model.specs.Rpc.{Identity}
use Rattle.wire_model.specs.Xdr.{word}
use Rattle.nfs_model.specs.declared.arguments.Args.TheVariants as call
use Rattle.nfs_model.specs.Arguments.{IsVerifier}
use Rattle.nfs_model.specs.Pages.{placed, all_entries, fitting, at_least_one, room_for_entries, entries_from, entry_length, plain_length, long_length, listed, listed_plus, cookie_verifier, page_checks, read_directory, read_directory_plus}
use Rattle.nfs_model.specs.Replies.{IsPlainEntry, IsPlusEntry, IsFittingReply}
use Rattle.nfs_laws.specs.Replies.{TreeFits}
use Rattle.nfs_laws.proofs.Fields.{number_fits, handle_fits, attributes_fit, object_key, about_object, behind_checks}
use Rattle.nfs_laws.proofs.Pages.{Entry}
use Rattle.nfs_laws.proofs.PageSizes.{all_dropped}
use Rattle.nfs_laws.proofs.Trees.{key_above}

-- ---- the entries of a directory

-- a name of a file, or a dot or two, and a key
abbrev IsNamed : List ℕ × Key → Type 0
IsNamed e = (length e.0 ≤ 255) × IsKey e.1

-- with a place that eight bytes hold
record EntryFits (e : Entry) : Type 0 where
  place : e.0 < 2 ^ 64
  named : IsNamed e.1

placed_fit : (n : ℕ) (es : List (List ℕ × Key)) → n + length es < 2 ^ 64 → AllByRecursion IsNamed es → AllByRecursion EntryFits (placed n es)
placed_fit n [] few fit = tt
placed_fit n (e ∷ es) few fit = (record { place = omega (arith, few); named = fit.0 }, placed_fit (n + 1) es (omega (arith, few)) fit.1)

named_in : (names : List (Place × Key)) (dir : Key) → AllByRecursion (λ e. IsKey e.0.0 × IsKey e.1) names → AllByRecursion (λ e. IsFileName e.0.1) names
    → AllByRecursion IsNamed (filter_map (λ (e : Place × Key). cond (same_key dir e.0.0) (Some (e.0.1, e.1)) None) names)
named_in [] dir keys files = tt
named_in (e ∷ es) dir keys files = by (same_key dir e.0.0) (named_in es dir keys.1 files.1)
  where
    rest : List (List ℕ × Key)
    rest = filter_map (λ (x : Place × Key). cond (same_key dir x.0.0) (Some (x.0.1, x.1)) None) es

    by : (b : Bool) → AllByRecursion IsNamed rest → AllByRecursion IsNamed (cons_option (cond b (Some (e.0.1, e.1)) None) rest)
    by true again = ((files.0.short, keys.0.1), again)
    by false again = again

few_in : (names : List (Place × Key)) (dir : Key) → length {A = List ℕ × Key} (filter_map (λ (e : Place × Key). cond (same_key dir e.0.0) (Some (e.0.1, e.1)) None) names) ≤ length names
few_in [] dir = omega arith
few_in (e ∷ es) dir = by (same_key dir e.0.0) (few_in es dir)
  where
    rest : List (List ℕ × Key)
    rest = filter_map (λ (x : Place × Key). cond (same_key dir x.0.0) (Some (x.0.1, x.1)) None) es

    by : (b : Bool) → length rest ≤ length es → length (cons_option (cond b (Some (e.0.1, e.1)) None) rest) ≤ length (e ∷ es)
    by true again = omega (arith, again)
    by false again = omega (arith, again)

above_or : (o : Option Key) (number : Key) → IfSome o IsKey → IsKey number → IsKey (unwrap_or o number)
above_or None number above key = key
above_or (Some n) number above key = above

entries_fit : (t : Tree) (dir : Key) (cookie : ℕ) → TreeFits t → IsKey dir → AllByRecursion EntryFits (entries_from t dir cookie)
entries_fit t dir cookie tree key =
    let few : 0 + length (all_entries t dir) < 2 ^ 64 = omega (arith, tree.few, few_in t.names dir) in
    let above : IsKey (unwrap_or (parent t dir) dir) = above_or (parent t dir) dir (key_above t.names dir tree.names) key in
    all_dropped EntryFits cookie (placed 0 (all_entries t dir))
    (placed_fit 0 (all_entries t dir) few ((omega arith, key), ((omega arith, above), named_in t.names dir tree.names tree.file_names)))

-- ---- of these some

fit_if : (b : Bool) (e : Entry) (es : List Entry) → EntryFits e → AllByRecursion EntryFits es → AllByRecursion EntryFits (cond b [] (e ∷ es))
fit_if true e es f g = tt
fit_if false e es f g = (f, g)

some_fit : (size : List ℕ → ℕ) (room : ℕ) (es : List Entry) → AllByRecursion EntryFits es → AllByRecursion EntryFits (fitting size room es)
some_fit size room [] fit = tt
some_fit size room (e ∷ es) fit = fit_if (nat_lt room (size e.1.0)) e _ fit.0 (some_fit size (room - size e.1.0) es fit.1)

one_fits : (left fit : List Entry) → AllByRecursion EntryFits left → AllByRecursion EntryFits fit → AllByRecursion EntryFits (at_least_one left fit)
one_fits [] fit f g = g
one_fits (e ∷ es) [] f g = (f.0, tt)
one_fits (e ∷ es) (x ∷ xs) f g = g

-- ---- as they are shown

plain_entries : (es : List Entry) → AllByRecursion EntryFits es → AllByRecursion IsPlainEntry (map listed es)
plain_entries [] fit = tt
plain_entries (e ∷ es) fit = (
  record {
    fileid = number_fits e.1.1 fit.0.named.1;
    name = omega (arith, fit.0.named.0);
    cookie = fit.0.place;
    no_attributes = refl;
    no_handle = refl;
  },
  plain_entries es fit.1,
)

plus_entries : (t : Tree) (view : View) → TreeFits t → (es : List Entry) → AllByRecursion EntryFits es → AllByRecursion IsPlusEntry (map (listed_plus t view) es)
plus_entries t view tree [] fit = tt
plus_entries t view tree (e ∷ es) fit = (
  record {
    fileid = number_fits e.1.1 fit.0.named.1;
    name = omega (arith, fit.0.named.0);
    cookie = fit.0.place;
    attributes = attributes_fit t view e.1.1 tree;
    handle = handle_fits view e.1.1 fit.0.named.1.size;
  },
  plus_entries t view tree es fit.1,
)

verifier_fits : (t : Tree) (dir : Key) → IsVerifier (cookie_verifier t dir)
verifier_fits t dir =
    let bytes : List ℕ = flat_map (λ e. word (length e.0) ++ e.0 ++ e.1.0) (listing t dir) in
    omega (arith, length-take 8 (digest bytes).0, length-digest bytes)

module _ (t : Tree) (view : View) (who : Identity) (tree : TreeFits t) where
  pub form_directory : (handle : List ℕ) (cookie : ℕ) (verifier : List ℕ) (count : ℕ) → IsFittingReply (call.ReadDir handle cookie verifier count) (read_directory t view who handle cookie verifier count)
  form_directory handle cookie verifier count = about_object t view tree (call.ReadDir handle cookie verifier count) refl handle _ (λ dir e fits.
      behind_checks t view tree (call.ReadDir handle cookie verifier count) refl dir fits (page_checks t who dir cookie verifier plain_length count) _ (λ passed.
      let left : List Entry = entries_from t dir.number cookie in
      let all : AllByRecursion EntryFits left = entries_fit t dir.number cookie tree (object_key t view handle tree dir e) in
      record {
        form = refl;
        fits = (fits, verifier_fits t dir.number, plain_entries _ (some_fit plain_length (room_for_entries count) left all));
      }))

  pub form_directory_plus : (handle : List ℕ) (cookie : ℕ) (verifier : List ℕ) (dircount maxcount : ℕ)
      → IsFittingReply (call.ReadDirPlus handle cookie verifier dircount maxcount) (read_directory_plus t view who handle cookie verifier dircount maxcount)
  form_directory_plus handle cookie verifier dircount maxcount = about_object t view tree (call.ReadDirPlus handle cookie verifier dircount maxcount) refl handle _ (λ dir e fits.
      behind_checks t view tree (call.ReadDirPlus handle cookie verifier dircount maxcount) refl dir fits (page_checks t who dir cookie verifier long_length maxcount) _ (λ passed.
      let left : List Entry = entries_from t dir.number cookie in
      let all : AllByRecursion EntryFits left = entries_fit t dir.number cookie tree (object_key t view handle tree dir e) in
      let whole : List Entry = fitting long_length (room_for_entries maxcount) left in
      record {
        form = refl;
        fits = (fits, verifier_fits t dir.number, plus_entries t view tree _ (one_fits left _ all (some_fit entry_length dircount whole (some_fit long_length (room_for_entries maxcount) left all))));
      }))
