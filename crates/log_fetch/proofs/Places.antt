-- What a block says: where the name of the record before it stands, and what each refusal means.
use Rattle.std.proofs.Common.{◌≡◌, ℕ, ◌≤◌, List, ◌++◌, length, take, drop, sym, ap, ◌∙◌, subst, refl, arith, length-append}
use Rattle.std.specs.Prelude.{◌≢◌}
use Rattle.std.proofs.Math.Seq.{drop-append_seam, take-length}
use Rattle.std.proofs.lemmas.List.{drop-append-le, take-append-le, length-drop}
use Rattle.ivy_base.specs.declared.key.Key.{Key}
use Rattle.ivy_base.specs.declared.key.PubKey.{PubKey}
use Rattle.ivy_base.specs.Naming.{head_key_of}
use Rattle.ivy_base.proofs.NameLemmas.{length-digest}
use Rattle.wire_model.specs.Xdr.{word, moment, array}
use Rattle.log_model.specs.Record.{Record}
use Rattle.log_model.specs.Spelling.{record_tag, record_kind, record_block, vector_entry, body, IsRecordOf, HasSpelling, longest_record}
use Rattle.log_model.specs.Chain.{HasMadeNumber}
use Rattle.log_records.specs.Records.{ReadFault}
use Rattle.log_records.specs.declared.fault.RecordFault.{RecordFault}
use Rattle.log_records.specs.declared.fault.RecordFault.TheVariants.{Malformed, TooLong, BadNumber, Memory}
use Rattle.log_records.proofs.Sizes.{short_records}

trim : (xs ys : List ℕ) → 48 ≤ length xs → take 20 (drop 28 (xs ++ ys)) ≡ take 20 (drop 28 xs)
trim xs ys le = ap (take 20) (drop-append-le 28 xs ys (omega (arith, le))) ∙ take-append-le 20 (drop 28 xs) ys (omega (arith, length-drop 28 xs, le))

-- what stands after 28 bytes
at_place : (a p s m v b : List ℕ) → length a ≡ 28 → length p ≡ 20 → (take 20 (drop 28 (a ++ p ++ s ++ m ++ v ++ b)) ≡ p) × (48 ≤ length (a ++ p ++ s ++ m ++ v ++ b))
at_place a p s m v b la lp =
    let two : length (a ++ p) ≡ 48 = length-append a p ∙ omega (arith, la, lp) in
    let three : 48 ≤ length (a ++ p ++ s) = omega (arith, two, length-append (a ++ p) s) in
    let four : 48 ≤ length (a ++ p ++ s ++ m) = omega (arith, three, length-append (a ++ p ++ s) m) in
    let five : 48 ≤ length (a ++ p ++ s ++ m ++ v) = omega (arith, four, length-append (a ++ p ++ s ++ m) v) in
    let after : drop 28 (a ++ p) ≡ p = subst (λ (n : ℕ). drop n (a ++ p) ≡ p) la (drop-append_seam a p) in
    let whole : take 20 p ≡ p = subst (λ (n : ℕ). take n p ≡ p) lp (take-length p) in (
      trim (a ++ p ++ s ++ m ++ v) b five ∙ trim (a ++ p ++ s ++ m) v four ∙ trim (a ++ p ++ s) m three ∙ trim (a ++ p) s (omega (arith, two)) ∙ ap (take 20) after ∙ whole,
      omega (arith, five, length-append (a ++ p ++ s ++ m ++ v) b),
    )

front_length : (tag kind log : List ℕ) → length tag ≡ 4 → length kind ≡ 4 → length log ≡ 20 → length (tag ++ kind ++ log) ≡ 28
front_length tag kind log t k l = omega (arith, length-append (tag ++ kind) log, length-append tag kind, t, k, l)

-- the record's block names the one before it there
pub names_before : (r : Record) → HasSpelling r → (take 20 (drop 28 (record_block r)) ≡ r.prev.0) × (48 ≤ length (record_block r))
names_before r f =
    at_place (record_tag r.format ++ word (record_kind r.op) ++ (head_key_of r.owner).0) r.prev.0 (word r.seq) (moment r.moment) (array vector_entry r.vector) (body r.op)
    (front_length (record_tag r.format) (word (record_kind r.op)) (head_key_of r.owner).0 refl refl (length-digest r.owner.0)) f.prev.size

pub is_long : (owner : PubKey) (bytes : List ℕ) → ReadFault owner bytes BadNumber → 48 ≤ length bytes
is_long owner bytes f = subst (λ (b : List ℕ). 48 ≤ length b) (sym (f.2.spelled)) (names_before f.1 f.2.fits).1

-- the record of that number, and the name in its block
pub misnumbered : (owner : PubKey) (bytes : List ℕ) (prev : Key) → ReadFault owner bytes BadNumber → prev.0 ≡ take 20 (drop 28 bytes)
    → (r : Record) × IsRecordOf owner bytes r × (r.prev ≡ prev) × (HasMadeNumber r.owner r.seq r.op → ⊥)
misnumbered owner bytes prev f e =
    let there : r_prev ≡ prev.0 = sym (names_before f.1 f.2.fits).0 ∙ ap (λ (b : List ℕ). take 20 (drop 28 b)) (sym f.2.spelled) ∙ sym e in
    (f.1, f.2, ap (λ (b : List ℕ). record { 0 = b }) there, λ (made : HasMadeNumber f.1.owner f.1.seq f.1.op). f.3 (subst (λ (o : PubKey). HasMadeNumber o f.1.seq f.1.op) f.2.owned made))
  where
    r_prev : List ℕ
    r_prev = f.1.prev.0

-- other refusals are of bytes that are no record
pub garbled : (owner : PubKey) (bytes : List ℕ) (fault : RecordFault) → fault ≢ Memory → fault ≢ BadNumber → ReadFault owner bytes fault → (r : Record) → IsRecordOf owner bytes r → ⊥
garbled owner bytes Malformed m n f r is = f.1 r is
garbled owner bytes TooLong m n f r is =
    let short : length bytes ≤ longest_record = subst (λ (b : List ℕ). length b ≤ longest_record) (sym is.spelled) (short_records r is.fits) in
    absurd (omega (arith, f, short))
garbled owner bytes BadNumber m n f r is = absurd (n refl)
garbled owner bytes Memory m n f r is = absurd (m refl)
