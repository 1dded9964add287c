-- Which proof the bytes are, by the parts that were read one after the other.
use Rattle.std.proofs.Common.{◌≡◌, ℕ, ◌+◌, ◌≤◌, List, [], ◌∷◌, ◌++◌, length, map, Option, Some, None, refl, sym, ap, ◌∙◌, subst, arith}
use Rattle.std.specs.Prelude.{◌≢◌}
use Rattle.std.specs.List.{flat_map}
use Rattle.std.proofs.lemmas.List.{map-append}
use Rattle.ivy_base.specs.declared.key.PubKey.{PubKey}
use Rattle.wire_model.specs.Xdr.{word, opaque, array, IsWord, IsAny, IsUpTo, AreSoMany}
use Rattle.wire_model.specs.OneReading.{ReadsOne}
use Rattle.wire_model.specs.Parts.{Told, Reads}
use Rattle.wire_model.proofs.OneReading.{◌▷◌, of_fewer, one_array, one_opaque, one_short_opaque, one_word, whole}
use Rattle.wire_model.proofs.Made.{Made}
use Rattle.wire_model.proofs.PartByPart.{◌▸◌, part, made_read}
use Rattle.log_model.specs.Vector.{Stamp}
use Rattle.log_model.specs.Spelling.{IsHeadOf}
use Rattle.block_parts.specs.Parts.{constant_bytes, IsAtMost}
use Rattle.block_parts.proofs.Constants.{one_constant}
use Rattle.log_records.specs.Reading.{IsSpelled}
use Rattle.log_records.proofs.OneHead.{one_head}
use Rattle.log_records.proofs.ReadParts.{fit_read, misfit_read, is_whole, is_not_whole}
use Rattle.fork_proof.specs.Forms.{Head, ForkProof, IsHead, IsProofOf, IsShort, bytes_of_head}
use Rattle.fork_model.specs.Bytes.{proof_tag, most_blocks}
use Rattle.fork_proof.specs.Reading.{Front, IsFrontOfProof, front_bytes, AreBlocks, AreHeads, longest_head}
use Rattle.fork_proof.proofs.Many.{counted_read, more_read}
use Rattle.fork_proof.proofs.OneProof.{head_bytes_few}

itself : (owner : PubKey) (bytes : List ℕ) (h : Head) → IsHeadOf owner bytes h.newest h.signature → IsHead owner h
itself owner bytes h f = record { owner_is_key = f.owner_is_key; some = f.some; few = f.few; name = f.name; short = f.short; spelled = refl }

-- ---- the front

pub front_read : {a b c d : Option (List ℕ)} {low high : List ℕ} → Reads IsAny (constant_bytes proof_tag) a tt b → Reads (IsUpTo longest_head) opaque b low c → Reads (IsUpTo longest_head) opaque c high d
    → Reads IsFrontOfProof front_bytes a ((tt, low), high) d
front_read p q r = (part (one_constant proof_tag) p ▸ part (one_short_opaque longest_head (omega arith)) q ▸ part (one_short_opaque longest_head (omega arith)) r).reads

one_front : ReadsOne IsFrontOfProof front_bytes
one_front = one_constant proof_tag ▷ one_short_opaque longest_head (omega arith) ▷ one_short_opaque longest_head (omega arith)

-- ---- the blocks

few_word : (n : ℕ) → IsAtMost most_blocks n → IsWord n
few_word n f = omega (arith, f)

pub few_read : {a b : Option (List ℕ)} {n : ℕ} → n ≤ most_blocks → Reads IsWord word a n b → Reads (IsAtMost most_blocks) word a n b
few_read few f = fit_read few_word few f

-- where a part was missed, its value says nothing
any_missed : {A : Type 0} {Fits : A → Type 0} {spell : A → List ℕ} {a c : Option (List ℕ)} {x : A} (y : A) → c ≡ None → Reads Fits spell a x c → Reads Fits spell a y c
any_missed {A} {Fits} {spell} {a} {c} {x} y gone f = record { told = cases a c gone f.told }
  where
    cases : (a c : Option (List ℕ)) → c ≡ None → Told Fits spell a x c → Told Fits spell a y c
    cases a (Some c) gone p = absurd (cc gone)
    cases None None gone p = p
    cases (Some a) None gone p = p

pub many_read : {a b c : Option (List ℕ)} {n : ℕ} (m : ℕ) → (n ≤ most_blocks → ⊥) → c ≡ None → Reads IsWord word a n b → Reads (IsAtMost most_blocks) word a m c
many_read m many gone f = any_missed m gone (misfit_read few_word one_word many gone f)

one_blocks : ReadsOne AreBlocks (array opaque)
one_blocks = of_fewer (λ blocks f. (omega (arith, f.0), f.1)) (one_array one_opaque)

pub blocks_read : {a b c : Option (List ℕ)} {n : ℕ} {blocks : List (List ℕ)} → Reads (IsAtMost most_blocks) word a n b → Reads (AreSoMany IsShort n) (flat_map opaque) b blocks c → Reads AreBlocks (array opaque) a blocks c
blocks_read f g = counted_read one_opaque most_blocks (omega arith) f g

-- a word holds the count of at most so many bytes
made_short : Made (IsUpTo 4294967295) opaque IsShort opaque (λ block. block)
made_short = record { whole = λ block f. omega (arith, f); spelled = λ block. refl; parts = λ block f. record { part = block; fits = omega (arith, f); same = refl } }

-- a block more
pub block_read : {A : Type 0} (f : A → List ℕ) (olds news : List A) (item : A) {n : ℕ} {a b c : Option (List ℕ)} → news ≡ olds ++ item ∷ []
    → Reads (AreSoMany IsShort n) (flat_map opaque) a (map f olds) b → Reads (IsUpTo 4294967295) opaque b (f item) c → Reads (AreSoMany IsShort (n + 1)) (flat_map opaque) a (map f news) c
block_read f olds news item {n} {a} {b} {c} pushed before this =
    let blocks : map f news ≡ map f olds ++ f item ∷ [] = ap (λ l. map f l) pushed ∙ map-append f olds (item ∷ []) in
    let short : Reads IsShort opaque b (f item) c = (made_read made_short (part (one_short_opaque 4294967295 (omega arith)) this)).reads in
    subst (λ (l : List (List ℕ)). Reads (AreSoMany IsShort (n + 1)) (flat_map opaque) a l c) (sym blocks) (more_read one_opaque before short)

pub all_read : {a b : Option (List ℕ)} {blocks : List (List ℕ)} (n count : ℕ) → n ≡ count → Reads (AreSoMany IsShort n) (flat_map opaque) a blocks b → Reads (AreSoMany IsShort count) (flat_map opaque) a blocks b
all_read {a} {b} {blocks} n count same f = subst (λ (k : ℕ). Reads (AreSoMany IsShort k) (flat_map opaque) a blocks b) same f

-- ---- heads

same_head_of : {owner other : PubKey} {bytes : List ℕ} {newest stamp : Stamp} {signature bytes_signed : List ℕ} → IsHeadOf owner bytes newest signature → IsHeadOf other bytes stamp bytes_signed → (owner ≡ other) × (newest ≡ stamp)
same_head_of {owner} {other} {bytes} {newest} {stamp} {signature} {bytes_signed} f g =
    let p : ((owner, newest), signature) ≡ ((other, stamp), bytes_signed) = whole one_head ((owner, newest), signature) ((other, stamp), bytes_signed)
    (f.owner_is_key, (f.some, f.few), f.name, f.short) (g.owner_is_key, (g.some, g.few), g.name, g.short) (sym f.spelled ∙ g.spelled) in
    (ap (λ (x : (PubKey × Stamp) × List ℕ). x.0.0) p, ap (λ (x : (PubKey × Stamp) × List ℕ). x.0.1) p)

pub no_such_heads : {low high : List ℕ} {count : ℕ} {a b : PubKey} {s t : Stamp} {x y : List ℕ} → IsHeadOf a low s x → IsHeadOf b high t y → ((b ≡ a) × (s.seq + count ≡ t.seq) → ⊥)
    → (owner : PubKey) (one other : Head) → AreHeads low high count owner one other → ⊥
no_such_heads {count = count} f g differ owner one other h =
    let p = same_head_of f h.low_is in
    let q = same_head_of g h.high_is in
    differ (q.0 ∙ sym p.0, ap (λ (n : Stamp). n.seq + count) p.1 ∙ h.differ ∙ ap (λ (n : Stamp). n.seq) (sym q.1))

pub as_many : {low high : List ℕ} {owner : PubKey} {one other : Head} (n count : ℕ) → n ≡ count → AreHeads low high n owner one other → AreHeads low high count owner one other
as_many {low} {high} {owner} {one} {other} n count same h = subst (λ (k : ℕ). AreHeads low high k owner one other) same h

-- ---- the whole

abbrev Parts : Type 0
Parts = Front × List (List ℕ)

abbrev AreParts : Parts → Type 0
AreParts p = IsFrontOfProof p.0 × AreBlocks p.1

abbrev parts_bytes : Parts → List ℕ
parts_bytes p = front_bytes p.0 ++ array opaque p.1

one_of_parts : ReadsOne AreParts parts_bytes
one_of_parts = one_front ▷ one_blocks

abbrev parts_in : ForkProof → Parts
parts_in p = (((tt, bytes_of_head p.owner p.low), bytes_of_head p.owner p.high), p.blocks)

parts_of_proof : (bytes : List ℕ) (p : ForkProof) → IsProofOf bytes p → IsSpelled AreParts parts_bytes bytes (parts_in p)
parts_of_proof bytes p f = record {
  fits = (((tt, head_bytes_few p.owner p.low f.fits.low), head_bytes_few p.owner p.high f.fits.high), (f.fits.few, f.fits.short));
  spelled = f.spelled;
}

proof_from : (bytes low high : List ℕ) (blocks : List (List ℕ)) (owner : PubKey) (one other : Head) → IsSpelled AreParts parts_bytes bytes (((tt, low), high), blocks)
    → AreHeads low high (length blocks) owner one other → IsProofOf bytes (record { owner = owner; low = one; high = other; blocks = blocks })
proof_from bytes low high blocks owner one other f h = record {
  fits = record {
    low = itself owner low one h.low_is;
    high = itself owner high other h.high_is;
    count = h.differ;
    few = f.fits.1.0;
    short = f.fits.1.1;
  };
  spelled = f.spelled ∙ ap (λ (b : List ℕ). parts_bytes (((tt, b), high), blocks)) h.low_is.spelled ∙ ap (λ (b : List ℕ). parts_bytes (((tt, bytes_of_head owner one), b), blocks)) h.high_is.spelled;
}

module _ {bytes low high : List ℕ} {a b c : Option (List ℕ)} {blocks : List (List ℕ)} (all : a ≡ Some bytes) (front : Reads IsFrontOfProof front_bytes a ((tt, low), high) b)
    (after : Reads AreBlocks (array opaque) b blocks c) where
  reads : Reads AreParts parts_bytes a (((tt, low), high), blocks) c
  reads = (part one_front front ▸ part one_blocks after).reads

  pub is_proof : c ≡ Some [] → (owner : PubKey) (one other : Head) → AreHeads low high (length blocks) owner one other → IsProofOf bytes (record { owner = owner; low = one; high = other; blocks = blocks })
  is_proof ends owner one other h = proof_from bytes low high blocks owner one other (is_whole all reads ends) h

  pub no_proof : c ≢ Some [] → (p : ForkProof) → IsProofOf bytes p → ⊥
  no_proof more p f = is_not_whole all reads one_of_parts more (parts_in p) (parts_of_proof bytes p f)

  pub no_heads : c ≡ Some [] → ((owner : PubKey) (one other : Head) → AreHeads low high (length blocks) owner one other → ⊥) → (p : ForkProof) → IsProofOf bytes p → ⊥
  no_heads ends absent p f =
      let g = is_whole all reads ends in
      let k = parts_of_proof bytes p f in
      let same : (((tt, low), high), blocks) ≡ parts_in p = whole one_of_parts (((tt, low), high), blocks) (parts_in p) g.fits k.fits (sym g.spelled ∙ k.spelled) in
      let heads : AreHeads (bytes_of_head p.owner p.low) (bytes_of_head p.owner p.high) (length p.blocks) p.owner p.low p.high = record { low_is = f.fits.low; high_is = f.fits.high; differ = f.fits.count } in
      absent p.owner p.low p.high (subst (λ (q : Parts). AreHeads q.0.0.1 q.0.1 (length q.1) p.owner p.low p.high) (sym same) heads)
