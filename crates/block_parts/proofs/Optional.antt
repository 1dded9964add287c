-- A part that may be left out, after whether it is there.
use Rattle.std.proofs.Common.{ℕ, true, false, List, ◌++◌, Option, Some, None, sym, ◌∙◌}
use Rattle.wire_model.specs.Xdr.{boolean, optional, IsAny}
use Rattle.wire_model.specs.OneReading.{IsFront, HasNoFront}
use Rattle.wire_model.proofs.OneReading.{one_boolean}
use Rattle.block_parts.specs.Parts.{IsOptional}

pub no_flag : {A : Type 0} (Fits : A → Type 0) (item : A → List ℕ) {bytes : List ℕ} → HasNoFront IsAny boolean bytes → HasNoFront (IsOptional Fits) (optional item) bytes
no_flag {A} Fits item {bytes} absent = record { none = options }
  where
    options : (o : Option A) (rest : List ℕ) → IsFront (IsOptional Fits) (optional item) bytes o rest → ⊥
    options None rest f = absent.none false rest (record { fits = tt; spelled = f.spelled })
    options (Some x) rest f = absent.none true (item x ++ rest) (record { fits = tt; spelled = f.spelled })

pub no_item : {A : Type 0} (Fits : A → Type 0) (item : A → List ℕ) {bytes middle : List ℕ} → IsFront IsAny boolean bytes true middle → HasNoFront Fits item middle → HasNoFront (IsOptional Fits) (optional item) bytes
no_item {A} Fits item {bytes} {middle} flag absent = record { none = options }
  where
    options : (o : Option A) (rest : List ℕ) → IsFront (IsOptional Fits) (optional item) bytes o rest → ⊥
    options None rest f = let p = (one_boolean.one true false middle rest tt tt (sym flag.spelled ∙ f.spelled)).0 in absurd (cc p)
    options (Some x) rest f = absent.none x rest (record { fits = f.fits; spelled = (one_boolean.one true true middle (item x ++ rest) tt tt (sym flag.spelled ∙ f.spelled)).1 })
