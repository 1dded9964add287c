-- Entries of a directory, read one by one.
use Rattle.std.proofs.Common.{◌≡◌, ℕ, ◌<◌, ◌≤◌, List, [], ◌∷◌, ◌++◌, length, refl, sym, ap, ◌∙◌, arith, append_assoc}
use Rattle.std.specs.List.{AllByRecursion, flat_map}
use Rattle.ivy_base.specs.declared.key.Key.{Key}
use Rattle.ivy_base.specs.Naming.{IsFileName}
use Rattle.wire_model.specs.Xdr.{word, opaque, array, IsAny, IsWord, AreSoMany}
use Rattle.wire_model.specs.OneReading.{ReadsOne, IsFront, HasNoFront}
use Rattle.wire_model.proofs.OneReading.{one_word, of_fewer}
use Rattle.wire_model.proofs.Fronts.{no_first, no_second, none_of_fewer}
use Rattle.wire_model.proofs.Dependent.{PartsOf, none_of_some}
use Rattle.wire_model.proofs.Arrays.{AreFew, more_items, no_next, no_count, too_many, no_counted}
use Rattle.log_model.specs.Spelling.{IsKey}
use Rattle.snapshot_model.specs.Blocks.{AreEntries, IsEntry, entries_block, entry_bytes, most_entries, entries_tag}
use Rattle.block_parts.specs.Parts.{constant_bytes, key_bytes}
use Rattle.block_parts.proofs.OneParts.{one_name}
use Rattle.snapshot_model.proofs.OneBlock.{one_entry, one_of_entries}
use Rattle.snapshot_blocks.specs.Parts.{AreSomeEntries}
use Rattle.block_parts.proofs.Constants.{one_constant}

abbrev Item : Type 0
Item = List ℕ × Key

-- ---- one

pub no_name : {bytes : List ℕ} → HasNoFront IsFileName opaque bytes → HasNoFront IsEntry entry_bytes bytes
no_name absent = no_first IsKey key_bytes absent

pub no_number : {bytes middle name : List ℕ} → IsFront IsFileName opaque bytes name middle → HasNoFront IsKey key_bytes middle → HasNoFront IsEntry entry_bytes bytes
no_number f absent = no_second one_name f absent

-- ---- several

pub no_next_entry : {count : ℕ} {start left : List ℕ} {done : List Item} → IsFront (AllByRecursion IsEntry) (flat_map entry_bytes) start done left → length done < count
    → HasNoFront IsEntry entry_bytes left → HasNoFront (AreSoMany IsEntry count) (flat_map entry_bytes) start
no_next_entry f short absent = no_next one_entry f short absent

pub more_entries : {start left rest : List ℕ} {done : List Item} {x : Item} → IsFront (AllByRecursion IsEntry) (flat_map entry_bytes) start done left → IsFront IsEntry entry_bytes left x rest
    → IsFront (AllByRecursion IsEntry) (flat_map entry_bytes) start (done ++ x ∷ []) rest
more_entries f g = more_items one_entry f g

pub so_many : {count : ℕ} {start rest : List ℕ} {xs : List Item} → IsFront (AllByRecursion IsEntry) (flat_map entry_bytes) start xs rest → length xs ≡ count
    → IsFront (AreSoMany IsEntry count) (flat_map entry_bytes) start xs rest
so_many f size = record { fits = record { each = f.fits; size = size }; spelled = f.spelled }

-- ---- after the tag

abbrev SomeParts : Type 0
SomeParts = (Unit {0} × ℕ) × List Item

few_entries : (xs : List Item) → AreSomeEntries xs → AreFew one_entry most_entries xs
few_entries xs f = (f.few, f.each)

some_parts : (xs : List Item) → AreSomeEntries xs → PartsOf {A = Unit {0} × List Item} (λ p. IsAny p.0 × AreSomeEntries p.1) (λ p. constant_bytes entries_tag p.0 ++ array entry_bytes p.1) (entries_block xs)
some_parts xs f = record { part = (tt, xs); fits = (tt, f); spelled = refl }

pub no_magic : {bytes : List ℕ} → HasNoFront IsAny (constant_bytes entries_tag) bytes → HasNoFront AreSomeEntries entries_block bytes
no_magic absent = none_of_some some_parts (no_first AreSomeEntries (array entry_bytes) absent)

module _ {b0 b1 : List ℕ} {u : Unit {0}} (f : IsFront IsAny (constant_bytes entries_tag) b0 u b1) where
  behind_magic : HasNoFront AreSomeEntries (array entry_bytes) b1 → HasNoFront AreSomeEntries entries_block b0
  behind_magic absent = none_of_some some_parts (no_second (one_constant entries_tag) f absent)

  pub no_count_of_entries : HasNoFront IsWord word b1 → HasNoFront AreSomeEntries entries_block b0
  no_count_of_entries absent = behind_magic (none_of_fewer few_entries (no_count one_entry most_entries (omega arith) absent))

  module _ {b2 : List ℕ} {count : ℕ} (g : IsFront IsWord word b1 count b2) where
    pub too_many_entries : most_entries < count → HasNoFront AreSomeEntries entries_block b0
    too_many_entries many = behind_magic (none_of_fewer few_entries (too_many one_entry most_entries (omega arith) g many))

    pub no_entries : count ≡ 0 → HasNoFront AreSomeEntries entries_block b0
    no_entries none = behind_magic (record {
      none = λ xs rest h.
          let e = sym g.spelled ∙ h.spelled ∙ append_assoc (word (length xs)) (flat_map entry_bytes xs) rest in
          let p = one_word.one count (length xs) b2 (flat_map entry_bytes xs ++ rest) g.fits (omega (arith, h.fits.few)) e in
          omega (arith, p.0, h.fits.some, none);
    })

    pub no_entries_behind : HasNoFront (AreSoMany IsEntry count) (flat_map entry_bytes) b2 → HasNoFront AreSomeEntries entries_block b0
    no_entries_behind absent = behind_magic (none_of_fewer few_entries (no_counted one_entry most_entries (omega arith) g absent))

    pub some_front : {b3 : List ℕ} {xs : List Item} → 1 ≤ count → count ≤ most_entries → IsFront (AreSoMany IsEntry count) (flat_map entry_bytes) b2 xs b3 → IsFront AreSomeEntries entries_block b0 xs b3
    some_front {b3} {xs} some few h = record {
      fits = record { some = omega (arith, some, h.fits.size); few = omega (arith, few, h.fits.size); each = h.fits.each };
      spelled = f.spelled ∙ ap (λ (s : List ℕ). entries_tag ++ s) (g.spelled ∙ ap (λ (s : List ℕ). word count ++ s) h.spelled
          ∙ sym (append_assoc (word count) (flat_map entry_bytes xs) b3) ∙ ap (λ (n : ℕ). (word n ++ flat_map entry_bytes xs) ++ b3) (sym h.fits.size));
    }

-- ---- the block

pub one_some : ReadsOne AreSomeEntries entries_block
one_some = of_fewer (λ xs f. (omega (arith, f.few), f.each)) one_of_entries

pub without_order : (xs : List Item) → AreEntries xs → AreSomeEntries xs
without_order xs f = record { some = f.some; few = f.few; each = f.each }
