-- What the tests of readers tell.
use Rattle.std.proofs.Common.{◌≡◌, ℕ, List, [], Bool, true, false, not, sym, ap, ◌∙◌}
use Rattle.std.specs.Prelude.{◌≢◌}
use Rattle.std.specs.Str.{bytes_eq}
use Rattle.std.proofs.lemmas.Slice.Eq.{bytes_eq-Decides}
use Rattle.ivy_base.specs.declared.key.Key.{Key}
use Rattle.xdr_codec.specs.Reading.{EndFault}
use Rattle.xdr_codec.specs.declared.fault.XdrFault.{XdrFault}
use Rattle.xdr_codec.specs.declared.fault.XdrFault.TheVariants.{Short, TooLong, Padding, NotBool, Trailing}

pub ended : (rest : List ℕ) (fault : XdrFault) → EndFault rest fault → rest ≢ []
ended rest Trailing f = f
ended rest Short f = absurd f
ended rest TooLong f = absurd f
ended rest Padding f = absurd f
ended rest NotBool f = absurd f

untrue : (b : Bool) → not b ≡ true → b ≡ true → ⊥
untrue true h g = cc
untrue false h g = cc

pub not_same : (xs ys zs : List ℕ) (b : Bool) → b ≡ not (bytes_eq xs ys) → b ≡ true → ys ≡ zs → xs ≢ zs
not_same xs ys zs b e t s same = untrue (bytes_eq xs ys) (sym e ∙ t) ((bytes_eq-Decides xs ys).1 (same ∙ sym s))

pub same_key : (a b : Key) → a.0 ≡ b.0 → a ≡ b
same_key a b e = ap (λ (bytes : List ℕ). record { 0 = bytes }) e
