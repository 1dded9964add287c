-- Each part has one spelling.
use Rattle.std.proofs.Common.{◌≡◌, ℕ, ◌^◌, ◌<◌, List, ◌++◌, refl, ap, arith}
use Rattle.ivy_base.specs.declared.key.Key.{Key}
use Rattle.ivy_base.specs.declared.operation.Kind.{Kind}
use Rattle.ivy_base.specs.declared.operation.Kind.TheVariants.{Reg, Dir, Lnk}
use Rattle.ivy_base.specs.Naming.{IsFileName}
use Rattle.wire_model.specs.Xdr.{word, double_word, opaque, moment, IsAny}
use Rattle.wire_model.specs.OneReading.{ReadsOne}
use Rattle.wire_model.proofs.OneReading.{of_fewer, of_parts, one_word, one_double_word, one_moment, one_raw, one_short_opaque}
use Rattle.log_model.specs.Spelling.{IsBlock, IsKey, IsMoment}
use Rattle.block_parts.specs.Parts.{as_it_stands, key_bytes, kind_word, IsAtMost}
use Rattle.tree_model.specs.Tree.{longest_file}

pub one_block : (count : ℕ) → ReadsOne (IsBlock count) as_it_stands
one_block count = of_fewer (λ bytes f. f.size) (one_raw count)

pub one_key : ReadsOne IsKey key_bytes
one_key = of_parts (λ (k : Key). k.0) (λ k f. f) (λ k. refl) (λ k l e. ap (λ (bytes : List ℕ). record { 0 = bytes }) e) (one_block 20)

pub one_at_most : (most : ℕ) → most < 2 ^ 32 → ReadsOne (IsAtMost most) word
one_at_most most h = of_fewer (λ n f. omega arith) one_word

pub one_time : ReadsOne IsMoment moment
one_time = of_fewer (λ m f. (f.sec, omega (arith, f.nsec))) one_moment

pub one_kind : ReadsOne IsAny kind_word
one_kind = record { one = kinds }
  where
    kinds : (x y : Kind) (r s : List ℕ) → IsAny x → IsAny y → kind_word x ++ r ≡ kind_word y ++ s → (x ≡ y) × (r ≡ s)
    kinds Reg Reg r s f g e = (refl, (one_word.one 1 1 r s (omega arith) (omega arith) e).1)
    kinds Reg Dir r s f g e = cc
    kinds Reg Lnk r s f g e = cc
    kinds Dir Reg r s f g e = cc
    kinds Dir Dir r s f g e = (refl, (one_word.one 2 2 r s (omega arith) (omega arith) e).1)
    kinds Dir Lnk r s f g e = cc
    kinds Lnk Reg r s f g e = cc
    kinds Lnk Dir r s f g e = cc
    kinds Lnk Lnk r s f g e = (refl, (one_word.one 5 5 r s (omega arith) (omega arith) e).1)

pub one_name : ReadsOne IsFileName opaque
one_name = of_fewer (λ bytes f. f.short) (one_short_opaque 255 (omega arith))

pub one_size : ReadsOne (IsAtMost longest_file) double_word
one_size = of_fewer {Fewer = IsAtMost longest_file} (λ n f. omega arith) one_double_word
