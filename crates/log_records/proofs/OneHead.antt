-- Heads: each has one spelling, and where none can be read.
use Rattle.std.proofs.Common.{◌≡◌, ℕ, List, [], ◌++◌, Option, Some, refl, ap, arith}
use Rattle.std.specs.Prelude.{◌≢◌}
use Rattle.ivy_base.specs.declared.key.Key.{Key}
use Rattle.ivy_base.specs.declared.key.PubKey.{PubKey}
use Rattle.wire_model.specs.Xdr.{word, opaque, IsAny, IsUpTo, IsOfLength}
use Rattle.wire_model.specs.OneReading.{ReadsOne}
use Rattle.wire_model.proofs.OneReading.{◌▷◌, of_fewer, of_parts, one_word, one_short_opaque}
use Rattle.wire_model.specs.Parts.{Reads}
use Rattle.wire_model.proofs.Made.{Made}
use Rattle.wire_model.proofs.PartByPart.{◌▸◌, part, made_read}
use Rattle.log_model.specs.Vector.{Stamp}
use Rattle.log_model.specs.Spelling.{IsBlock, IsKey, IsHeadOf, head_tag}
use Rattle.log_model.specs.Heads.{stamp}
use Rattle.block_parts.specs.Parts.{constant_bytes, as_it_stands, key_bytes}
use Rattle.log_records.specs.Heads.{IsNumber, Parts, IsHead, head_bytes}
use Rattle.log_records.specs.Laws.{HeadsAreUnambiguous}
use Rattle.block_parts.proofs.Constants.{one_constant}
use Rattle.block_parts.proofs.OneParts.{one_block, one_key}
use Rattle.log_records.specs.Shapes.{IsKeyLong}
use Rattle.log_records.proofs.ReadParts.{is_whole, is_not_whole, block_read, true_key_read}

-- ---- heads

pub one_number : ReadsOne IsNumber word
one_number = of_fewer {Fewer = IsNumber} (λ n f. omega (arith, f.1)) one_word

abbrev Two : Type 0
Two = Unit {0} × List ℕ

abbrev IsTwo : Two → Type 0
IsTwo p = IsAny p.0 × IsBlock 60 p.1

abbrev two : Two → List ℕ
two p = constant_bytes head_tag p.0 ++ as_it_stands p.1

one_two : ReadsOne IsTwo two
one_two = one_constant head_tag ▷ one_block 60

abbrev Three : Type 0
Three = Two × ℕ

abbrev IsThree : Three → Type 0
IsThree p = IsTwo p.0 × IsNumber p.1

abbrev three : Three → List ℕ
three p = two p.0 ++ word p.1

one_three : ReadsOne IsThree three
one_three = one_two ▷ one_number

abbrev Five : Type 0
Five = (Three × Key) × List ℕ

abbrev IsFive : Five → Type 0
IsFive p = (IsThree p.0.0 × IsKey p.0.1) × IsUpTo 16000 p.1

abbrev five : Five → List ℕ
five p = three p.0.0 ++ key_bytes p.0.1 ++ opaque p.1

one_five : ReadsOne IsFive five
one_five = one_three ▷ one_key ▷ one_short_opaque 16000 (omega arith)

abbrev chain : Parts → Five
chain p = ((((tt, p.0.0.0), p.0.1.seq), p.0.1.name), p.1)

abbrev parts_in : Five → Parts
parts_in p = ((record { 0 = p.0.0.0.1 }, stamp p.0.0.1 p.0.1), p.1)

chain_fits : (p : Parts) → IsHead p → IsFive (chain p)
chain_fits p f = ((((tt, f.0), f.1), f.2), f.3)

pub one_head : HeadsAreUnambiguous
one_head = of_parts chain chain_fits (λ p. refl) (λ p q e. ap parts_in e) one_five

-- ---- reading

made_head : Made IsFive five IsHead head_bytes parts_in
made_head = record { whole = λ p f. (f.0.0.0.1, f.0.0.1, f.0.1, f.1); spelled = λ p. refl; parts = λ p f. record { part = chain p; fits = chain_fits p f; same = refl } }

pub head_read : {a b c d e f : Option (List ℕ)} {owner signature : List ℕ} {n : ℕ} {name : Key} → IsBlock 60 owner → IsKey name
    → Reads IsAny (constant_bytes head_tag) a tt b → Reads (IsOfLength 60) as_it_stands b owner c → Reads IsNumber word c n d → Reads IsKeyLong key_bytes d name e → Reads (IsUpTo 16000) opaque e signature f
    → Reads IsHead head_bytes a ((record { 0 = owner }, stamp n name), signature) f
head_read owner name p q r s t =
    (made_read made_head (
    part (one_constant head_tag) p ▸ part (one_block 60) (block_read 60 owner q) ▸ part one_number r ▸ part one_key (true_key_read name s) ▸ part (one_short_opaque 16000 (omega arith)) t
    )).reads

module _ {bytes : List ℕ} {a b : Option (List ℕ)} {owner : PubKey} {newest : Stamp} {signature : List ℕ} (all : a ≡ Some bytes) (f : Reads IsHead head_bytes a ((owner, newest), signature) b) where
  pub whole_head : b ≡ Some [] → IsHeadOf owner bytes newest signature
  whole_head ends =
      let p = is_whole all f ends in
      record { owner_is_key = p.fits.0; some = p.fits.1.0; few = p.fits.1.1; name = p.fits.2; short = p.fits.3; spelled = p.spelled }

  pub no_whole_head : b ≢ Some [] → (other : PubKey) (stamp : Stamp) (bytes_signed : List ℕ) → IsHeadOf other bytes stamp bytes_signed → ⊥
  no_whole_head more other newest signature g =
      is_not_whole all f one_head more ((other, newest), signature) (record { fits = (g.owner_is_key, (g.some, g.few), g.name, g.short); spelled = g.spelled })
