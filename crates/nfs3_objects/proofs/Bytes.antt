-- The code's comparison of bytes is that of the definitions.
use Rattle.std.proofs.Common.{◌≡◌, ℕ, Bool, List, nat_eq, ap, sym, ◌∙◌}
use Rattle.std.specs.Cmp.Lexicographic.{pointwise}
use Rattle.std.proofs.lemmas.Map.Text.{is_eq-slice_cmp}
use Rattle.nfs_model.specs.Checks.{same_bytes}

pub same_pointwise : (xs ys : List ℕ) → pointwise nat_eq xs ys ≡ same_bytes xs ys
same_pointwise xs ys = sym (is_eq-slice_cmp xs ys)

-- a comparison with bytes that are known
pub same_known : (xs ys known : List ℕ) (b : Bool) → b ≡ pointwise nat_eq xs ys → ys ≡ known → b ≡ same_bytes xs known
same_known xs ys known b h e = h ∙ same_pointwise xs ys ∙ ap (same_bytes xs) e
