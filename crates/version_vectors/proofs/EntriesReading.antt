-- Entries are read one by one, as long as they ascend.
use Rattle.std.proofs.Common.{◌≡◌, ℕ, true, ◌+◌, ◌/◌, ◌<◌, ◌≤◌, ◌^◌, List, [], ◌∷◌, ◌++◌, length, refl, sym, ap, ◌∙◌, subst, arith, append_assoc, length-append}
use Rattle.std.specs.List.{AllByRecursion}
use Rattle.std.specs.FinMap.Entries.{is_sorted}
use Rattle.ivy_base.specs.Naming.{key_cmp}
use Rattle.wire_model.specs.Xdr.{word, array, IsWord}
use Rattle.wire_model.specs.OneReading.{IsFront, HasNoFront}
use Rattle.wire_model.proofs.OneReading.{one_word, regrouped}
use Rattle.log_model.specs.Vector.{Entry, Vector}
use Rattle.log_model.specs.Spelling.{vector_entry}
use Rattle.log_model.proofs.Lists.{each_append, each_right}
use Rattle.version_vectors.specs.Vectors.{EntryFits, IsVector, VectorFits, EntriesFit}
use Rattle.version_vectors.specs.Places.{AreBefore}
use Rattle.version_vectors.specs.Reading.{entries_bytes}
use Rattle.version_vectors.proofs.OneVector.{one_entry}
use Rattle.version_vectors.proofs.Lengths.{length-entries_bytes}
use Rattle.version_vectors.proofs.Order.{sorted_before, sorted_more}

pub no_entries : (bytes : List ℕ) → IsFront IsVector entries_bytes bytes [] bytes
no_entries bytes = record { fits = record { entries = tt; in_order = refl }; spelled = refl }

bytes_more : (v : Vector) (e : Entry) (rest : List ℕ) → entries_bytes v ++ (vector_entry e ++ rest) ≡ entries_bytes (v ++ e ∷ []) ++ rest
bytes_more [] e rest = sym (append_assoc (vector_entry e) [] rest)
bytes_more (d ∷ v) e rest =
    append_assoc (vector_entry d) (entries_bytes v) (vector_entry e ++ rest)
    ∙ ap (λ (s : List ℕ). vector_entry d ++ s) (bytes_more v e rest)
    ∙ sym (append_assoc (vector_entry d) (entries_bytes (v ++ e ∷ [])) rest)

-- an entry more
pub more_entries : {start left rest : List ℕ} {done : Vector} {e : Entry}
    → IsFront IsVector entries_bytes start done left → IsFront EntryFits vector_entry left e rest → AreBefore e.0 done
    → IsFront IsVector entries_bytes start (done ++ e ∷ []) rest
more_entries {rest} {done} {e} f g before = record {
  fits = record { entries = each_append EntryFits done (e ∷ []) f.fits.entries (g.fits, tt); in_order = sorted_more done e f.fits.in_order before };
  spelled = f.spelled ∙ ap (λ (s : List ℕ). entries_bytes done ++ s) g.spelled ∙ bytes_more done e rest;
}

-- what stands after the first entries of a vector
pub record Continues (done v : Vector) (left rest : List ℕ) : Type 0 where
  pub entry : Entry
  pub more : Vector
  pub whole : v ≡ done ++ entry ∷ more
  pub spelled : left ≡ vector_entry entry ++ (entries_bytes more ++ rest)

continues : (done v : Vector) (left rest : List ℕ) → AllByRecursion EntryFits done → AllByRecursion EntryFits v → length done < length v
    → entries_bytes done ++ left ≡ entries_bytes v ++ rest → Continues done v left rest
continues done [] left rest f g short same = absurd (omega (arith, short))
continues [] (e ∷ v) left rest f g short same = record { entry = e; more = v; whole = refl; spelled = same ∙ append_assoc (vector_entry e) (entries_bytes v) rest }
continues (d ∷ done) (e ∷ v) left rest f g short same =
    let p = one_entry.one d e (entries_bytes done ++ left) (entries_bytes v ++ rest) f.0 g.0 (regrouped (vector_entry d) (entries_bytes done) (vector_entry e) (entries_bytes v) left rest same) in
    let c = continues done v left rest f.1 g.1 (omega (arith, short)) p.1 in
    record { entry = c.entry; more = c.more; whole = ap (λ x. x ∷ v) (sym p.0) ∙ ap (λ w. d ∷ w) c.whole; spelled = c.spelled }

-- of a vector of more entries the next one stands in front of what is left
goes_on : {count : ℕ} {start left rest : List ℕ} {done v : Vector} → IsFront IsVector entries_bytes start done left → length done < count
    → IsFront (EntriesFit count) entries_bytes start v rest → Continues done v left rest
goes_on {left} {rest} {done} {v} f short g = continues done v left rest f.fits.entries g.fits.whole.entries (omega (arith, short, g.fits.size)) (sym f.spelled ∙ g.spelled)

entry_fits : {count : ℕ} {done v : Vector} {left rest : List ℕ} → EntriesFit count v → (c : Continues done v left rest) → EntryFits c.entry
entry_fits {done} f c = (each_right EntryFits done (c.entry ∷ c.more) (subst (AllByRecursion EntryFits) c.whole f.whole.entries)).0

pub no_next : {count : ℕ} {start left : List ℕ} {done : Vector} → IsFront IsVector entries_bytes start done left → length done < count
    → HasNoFront EntryFits vector_entry left → HasNoFront (EntriesFit count) entries_bytes start
no_next f short absent = record {
  none = λ v rest g.
      let c = goes_on f short g in
      absent.none c.entry (entries_bytes c.more ++ rest) (record { fits = entry_fits g.fits c; spelled = c.spelled });
}

pub out_of_order : {count : ℕ} {start left after : List ℕ} {done : Vector} {e : Entry} → IsFront IsVector entries_bytes start done left → length done < count
    → IsFront EntryFits vector_entry left e after → (AreBefore e.0 done → ⊥) → HasNoFront (EntriesFit count) entries_bytes start
out_of_order {after} {done} {e} f short next disorder = record {
  none = λ v rest g.
      let c = goes_on f short g in
      let same : c.entry ≡ e = (one_entry.one c.entry e (entries_bytes c.more ++ rest) after (entry_fits g.fits c) next.fits (sym c.spelled ∙ next.spelled)).0 in
      let before : AreBefore c.entry.0 done = sorted_before done c.entry c.more (subst (λ (w : Vector). is_sorted key_cmp w ≡ true) c.whole g.fits.whole.in_order) in
      disorder (subst (λ (d : Entry). AreBefore d.0 done) same before);
}

-- an entry takes 44 bytes
pub too_few_bytes : (count : ℕ) (bytes : List ℕ) → length bytes / 44 < count → HasNoFront (EntriesFit count) entries_bytes bytes
too_few_bytes count bytes few = record {
  none = λ v rest g.
      let long : length bytes ≡ length (entries_bytes v) + length rest = ap length g.spelled ∙ length-append (entries_bytes v) rest in
      let size = length-entries_bytes v g.fits.whole.entries in
      absurd (omega (arith, few, long, size, g.fits.size));
}

-- ---- after the count

pub counted : {most count : ℕ} {bytes middle rest : List ℕ} {v : Vector} → IsFront IsWord word bytes count middle → count ≤ most
    → IsFront (EntriesFit count) entries_bytes middle v rest → IsFront (VectorFits most) (array vector_entry) bytes v rest
counted {count} {rest = rest} {v = v} f few g = record {
  fits = record { whole = g.fits.whole; short = omega (arith, few, g.fits.size) };
  spelled = f.spelled ∙ ap (λ (s : List ℕ). word count ++ s) g.spelled ∙ sym (append_assoc (word count) (entries_bytes v) rest) ∙ ap (λ n. (word n ++ entries_bytes v) ++ rest) (sym g.fits.size);
}

pub no_count : {bytes : List ℕ} (most : ℕ) → most < 2 ^ 32 → HasNoFront IsWord word bytes → HasNoFront (VectorFits most) (array vector_entry) bytes
no_count most few absent = record {
  none = λ v rest g. absent.none (length v) (entries_bytes v ++ rest) (record { fits = omega (arith, g.fits.short, few); spelled = g.spelled ∙ append_assoc (word (length v)) (entries_bytes v) rest });
}

-- what the count in front says of a vector after it
the_count : {most count : ℕ} {bytes middle rest : List ℕ} {v : Vector} → most < 2 ^ 32 → IsFront IsWord word bytes count middle
    → IsFront (VectorFits most) (array vector_entry) bytes v rest → (count ≡ length v) × (middle ≡ entries_bytes v ++ rest)
the_count {count} {middle = middle} {rest = rest} {v = v} few f g =
    one_word.one count (length v) middle (entries_bytes v ++ rest) f.fits (omega (arith, g.fits.short, few)) (sym f.spelled ∙ g.spelled ∙ append_assoc (word (length v)) (entries_bytes v) rest)

pub too_many : {count : ℕ} {bytes middle : List ℕ} (most : ℕ) → most < 2 ^ 32 → IsFront IsWord word bytes count middle → most < count → HasNoFront (VectorFits most) (array vector_entry) bytes
too_many most few f many = record { none = λ v rest g. let p = the_count few f g in absurd (omega (arith, p.0, g.fits.short, many)) }

pub no_counted : {count : ℕ} {bytes middle : List ℕ} (most : ℕ) → most < 2 ^ 32 → IsFront IsWord word bytes count middle → HasNoFront (EntriesFit count) entries_bytes middle → HasNoFront (VectorFits most) (array vector_entry) bytes
no_counted most few f absent = record {
  none = λ v rest g. let p = the_count few f g in absent.none v rest (record { fits = record { whole = g.fits.whole; size = sym p.0 }; spelled = p.1 });
}
