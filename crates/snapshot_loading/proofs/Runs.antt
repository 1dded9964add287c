-- Entries, block by block.
use Rattle.std.proofs.Common.{◌≡◌, ℕ, ◌+◌, ◌<◌, Bool, true, ◌&&◌, List, [], ◌∷◌, ◌++◌, length, map, get_or, take, drop, refl, sym, ap, ◌∙◌, subst, arith}
use Rattle.std.specs.Prelude.{nat_eq}
use Rattle.std.specs.List.{AllByRecursion}
use Rattle.std.proofs.lemmas.List.{append-nil, append_assoc, map-append}
use Rattle.ivy_base.specs.declared.key.Key.{Key}
use Rattle.wire_model.proofs.OneReading.{whole}
use Rattle.tree_model.proofs.Sound.{both_true}
use Rattle.snapshot_loading.proofs.Sorted.{next_taken, split_next}
use Rattle.log_model.proofs.Lists.{both, each_right}
use Rattle.snapshot_model.specs.Blocks.{AreEntries, Says, entries_block, most_entries}
use Rattle.snapshot_model.proofs.OneBlock.{one_entries}
use Rattle.snapshot_loading.specs.ShownInodes.{run_of}
use Rattle.snapshot_loading.specs.Evenness.{is_some, full_after}
use Rattle.snapshot_loading.specs.Contents.{HaveEntries}
use Rattle.snapshot_loading.proofs.Sizes.{full_is, is_full, is_same, same_is, some_is}

-- what a directory contains
abbrev pub Directory : Type 0
Directory = List (List ℕ × Key)

-- ---- blocks begin with others

record Begin (each others : List Directory) (rest : List (List ℕ)) : Type 0 where
  more : List Directory
  same : others ≡ each ++ more
  spelled : map entries_block more ≡ rest

begin : (each others : List Directory) (rest : List (List ℕ)) → AllByRecursion AreEntries each → AllByRecursion AreEntries others → map entries_block others ≡ map entries_block each ++ rest → Begin each others rest
begin [] others rest h g e = record { more = others; same = refl; spelled = e }
begin (es ∷ each) [] rest h g e = cc
begin (es ∷ each) (os ∷ others) rest h g e =
    let head : entries_block os ≡ entries_block es = cc in
    let tail : map entries_block others ≡ map entries_block each ++ rest = cc in
    let first : os ≡ es = whole one_entries os es g.0 h.0 head in
    let r = begin each others rest h.1 g.1 tail in
    record { more = r.more; same = (λ i. first i ∷ r.same i); spelled = r.spelled }

none_more : (more : List Directory) → map entries_block more ≡ [] → more ≡ []
none_more [] e = refl
none_more (es ∷ more) e = cc

-- blocks have entries in one way
pub one_have : (blocks : List (List ℕ)) (es os : Directory) → HaveEntries blocks es → HaveEntries blocks os → es ≡ os
one_have blocks es os h g =
    let b = begin h.each g.each [] h.fit g.fit (sym g.spelled ∙ h.spelled ∙ sym (append-nil (map entries_block h.each))) in
    let same : g.each ≡ h.each = b.same ∙ ap (λ (m : List Directory). h.each ++ m) (none_more b.more b.spelled) ∙ append-nil h.each in
    sym h.run ∙ ap run_of (sym same) ∙ g.run

-- ---- one after the other

-- these blocks were read, the last of which has so many entries, and all these entries are theirs
pub record AreDone (done : List (List ℕ)) (before : ℕ) (all : Directory) : Type 0 where
  pub each : List Directory
  pub spelled : done ≡ map entries_block each
  pub fit : AllByRecursion AreEntries each
  pub run : run_of each ≡ all
  pub next : (rest : List Directory) → full_after most_entries most_entries (each ++ rest) ≡ full_after most_entries before rest

one_more : (each : List Directory) (es : Directory) → run_of (each ++ es ∷ []) ≡ run_of each ++ es
one_more [] es = append-nil es
one_more (xs ∷ each) es = ap (λ (l : Directory). xs ++ l) (one_more each es) ∙ sym (append_assoc xs (run_of each) es)

fit_more : (each : List Directory) (es : Directory) → AllByRecursion AreEntries each → AreEntries es → AllByRecursion AreEntries (each ++ es ∷ [])
fit_more [] es h g = (g, tt)
fit_more (xs ∷ each) es h g = (h.0, fit_more each es h.1 g)

pub one_done : (done : List (List ℕ)) (before : ℕ) (all : Directory) (bytes : List ℕ) (es : Directory) → AreDone done before all → before ≡ most_entries → Says AreEntries entries_block bytes es → AreDone (done ++ bytes ∷ []) (length es) (all ++ es)
one_done done before all bytes es d full says = record {
  each = d.each ++ es ∷ [];
  spelled = ap (λ (l : List (List ℕ)). l ++ bytes ∷ []) d.spelled ∙ ap (λ (b : List ℕ). map entries_block d.each ++ b ∷ []) says.spelled ∙ sym (map-append entries_block d.each (es ∷ []));
  fit = fit_more d.each es d.fit says.fits;
  run = one_more d.each es ∙ ap (λ (l : Directory). l ++ es) d.run;
  next = λ rest.
      let test : (nat_eq before most_entries && is_some most_entries (length es)) ≡ true =
      both (nat_eq before most_entries) (is_some most_entries (length es)) (same_is before most_entries full) (some_is most_entries (length es) says.fits.some says.fits.few) in
      ap (λ (l : List Directory). full_after most_entries most_entries l) (append_assoc d.each (es ∷ []) rest) ∙ d.next (es ∷ rest) ∙ ap (λ (b : Bool). b && full_after most_entries (length es) rest) test;
}

pub all_done : (blocks : List (List ℕ)) (before : ℕ) (all : Directory) → AreDone blocks before all → HaveEntries blocks all
all_done blocks before all d = record {
  each = d.each;
  spelled = d.spelled;
  fit = d.fit;
  full = full_is most_entries most_entries d.each (ap (λ (l : List Directory). full_after most_entries most_entries l) (sym (append-nil d.each)) ∙ d.next []);
  run = d.run;
}

-- ---- and where it ends

record HasNext (bytes : List ℕ) (before : ℕ) : Type 0 where
  es : Directory
  spelled : entries_block es ≡ bytes
  fits : AreEntries es
  full : before ≡ most_entries

next_is : (more : List Directory) (bytes : List ℕ) (rest : List (List ℕ)) (before : ℕ) → AllByRecursion AreEntries more → map entries_block more ≡ bytes ∷ rest → full_after most_entries before more ≡ true → HasNext bytes before
next_is [] bytes rest before h e f = cc
next_is (es ∷ more) bytes rest before h e f =
    let parts = both_true (nat_eq before most_entries && is_some most_entries (length es)) (full_after most_entries (length es) more) f in
    let test = both_true (nat_eq before most_entries) (is_some most_entries (length es)) parts.0 in
    record { es = es; spelled = cc; fits = h.0; full = is_same before most_entries test.0 }

has_next : (done rest : List (List ℕ)) (before : ℕ) (all es : Directory) (bytes : List ℕ) → AreDone done before all → HaveEntries (done ++ bytes ∷ rest) es → HasNext bytes before
has_next done rest before all es bytes d h =
    let b = begin d.each h.each (bytes ∷ rest) d.fit h.fit (sym h.spelled ∙ ap (λ (l : List (List ℕ)). l ++ bytes ∷ rest) d.spelled) in
    let full : full_after most_entries before b.more ≡ true = sym (d.next b.more) ∙ ap (λ (l : List Directory). full_after most_entries most_entries l) (sym b.same) ∙ is_full most_entries (omega arith) most_entries h.each refl h.full in
    next_is b.more bytes rest before (each_right AreEntries d.each b.more (subst (λ (l : List Directory). AllByRecursion AreEntries l) b.same h.fit)) b.spelled full

pub not_full : (done rest : List (List ℕ)) (before : ℕ) (all : Directory) (bytes : List ℕ) → AreDone done before all → (before ≡ most_entries → ⊥) → (es : Directory) → HaveEntries (done ++ bytes ∷ rest) es → ⊥
not_full done rest before all bytes d less es h = less (has_next done rest before all es bytes d h).full

pub not_entries : (done rest : List (List ℕ)) (before : ℕ) (all : Directory) (bytes : List ℕ) → AreDone done before all → ((es : Directory) → Says AreEntries entries_block bytes es → ⊥) → (es : Directory) → HaveEntries (done ++ bytes ∷ rest) es → ⊥
not_entries done rest before all bytes d none es h = let n = has_next done rest before all es bytes d h in none n.es (record { fits = n.fits; spelled = sym n.spelled })

-- ---- block by block

module _ {A : Type 0} (f : A → List ℕ) (blocks : List A) (i : ℕ) (before : ℕ) (all : Directory) (within : i < length blocks) (done : AreDone (map f (take i blocks)) before all) where
  cut : (d : A) → map f blocks ≡ map f (take i blocks) ++ f (get_or blocks i d) ∷ map f (drop (i + 1) blocks)
  cut d =
      ap (λ (l : List A). map f l) (split_next blocks i d within) ∙ map-append f (take i blocks ++ get_or blocks i d ∷ []) (drop (i + 1) blocks)
      ∙ ap (λ (l : List (List ℕ)). l ++ map f (drop (i + 1) blocks)) (map-append f (take i blocks) (get_or blocks i d ∷ []))
      ∙ append_assoc (map f (take i blocks)) (f (get_or blocks i d) ∷ []) (map f (drop (i + 1) blocks))

  none_full : (d : A) → (before ≡ most_entries → ⊥) → (es : Directory) → HaveEntries (map f blocks) es → ⊥
  none_full d less es h =
      not_full (map f (take i blocks)) (map f (drop (i + 1) blocks)) before all (f (get_or blocks i d)) done less es (subst (λ (l : List (List ℕ)). HaveEntries l es) (cut d) h)

  pub none_at : (d : A) → ((es : Directory) → Says AreEntries entries_block (f (get_or blocks i d)) es → ⊥) → (es : Directory) → HaveEntries (map f blocks) es → ⊥
  none_at d none es h =
      not_entries (map f (take i blocks)) (map f (drop (i + 1) blocks)) before all (f (get_or blocks i d)) done none es (subst (λ (l : List (List ℕ)). HaveEntries l es) (cut d) h)

  pub one_at : (d : A) (es now : Directory) (n : ℕ) → before ≡ most_entries → Says AreEntries entries_block (f (get_or blocks i d)) es → n ≡ length es → now ≡ all ++ es → AreDone (map f (take (i + 1) blocks)) n now
  one_at d es now n full says count more =
      subst (λ (l : List (List ℕ)). AreDone l n now) (sym (ap (λ (l : List A). map f l) (next_taken blocks i d within) ∙ map-append f (take i blocks) (get_or blocks i d ∷ [])))
      (subst (λ (m : ℕ). AreDone (map f (take i blocks) ++ f (get_or blocks i d) ∷ []) m now) (sym count)
      (subst (λ (l : Directory). AreDone (map f (take i blocks) ++ f (get_or blocks i d) ∷ []) (length es) l) (sym more) (one_done (map f (take i blocks)) before all (f (get_or blocks i d)) es done full says)))

pub none_after : {A : Type 0} (f : A → List ℕ) (blocks : List A) (i : ℕ) (before : ℕ) (all : Directory) → i < length blocks → AreDone (map f (take i blocks)) before all → (before ≡ most_entries → ⊥) → (es : Directory) → HaveEntries (map f blocks) es → ⊥
none_after f [] i before all within done less es h = absurd (omega (arith, within))
none_after f (x ∷ xs) i before all within done less es h = none_full f (x ∷ xs) i before all within done x less es h
