-- What an operation touches: the entries of directories whose names it gives, takes away or moves, or the bytes of a file
-- that it writes or cuts off.
use Rattle.std.specs.Prelude.{ℕ, ◌+◌, max, nat_lt, nat_le, Bool, true, false, ◌&&◌}
use Rattle.std.specs.Prelude.{List, [], ◌∷◌, length, Option, Some, None, option_map}
use Rattle.std.specs.List.{list_any}
use Rattle.std.specs.Ordering.{eq_by_cmp}
use Rattle.ivy_base.specs.declared.key.Key.{Key}
use Rattle.ivy_base.specs.declared.operation.Op.{Op}
use Rattle.ivy_base.specs.declared.operation.Op.TheVariants as op
use Rattle.tree_model.specs.Tree.{Place, place_cmp, same_key}

-- ---- entries

-- the names that it gives, takes away or moves, each with its directory
abbrev pub places : Op → List Place
places (op.Link dir name number) = (dir, name) ∷ []
places (op.Unlink dir name) = (dir, name) ∷ []
places (op.Rename dir name to_dir to_name) = (dir, name) ∷ (to_dir, to_name) ∷ []
places _ = []

abbrev pub same_place : Place → Place → Bool
same_place p q = eq_by_cmp place_cmp p q

-- a name stands in both
abbrev pub share_entry : Op → Op → Bool
share_entry o p = list_any (λ a. list_any (same_place a) (places p)) (places o)

-- ---- bytes

-- bytes of a file, from a place on: up to an end, or all further ones
pub record Span : Type 0 where
  pub file : Key
  pub start : ℕ
  pub end : Option ℕ

-- from a Write's offset to its end, and from a size on
abbrev pub span : Op → Option Span
span (op.Write number offset bytes) = Some (record { file = number; start = offset; end = Some (offset + length bytes) })
span (op.SetAttrs number change) = option_map (λ size. record { file = number; start = size; end = None }) change.size
span _ = None

-- the place is before the end
abbrev pub is_before : ℕ → Option ℕ → Bool
is_before n None = true
is_before n (Some end) = nat_lt n end

-- the place is one of the span's
abbrev pub is_within : ℕ → Span → Bool
is_within n a = nat_le a.start n && is_before n a.end

-- they share a place, which is so where they share the greater of their starts
abbrev pub overlap : Span → Span → Bool
overlap a b = same_key a.file b.file && (is_before (max a.start b.start) a.end && is_before (max a.start b.start) b.end)

abbrev pub spans_overlap : Option Span → Option Span → Bool
spans_overlap (Some a) (Some b) = overlap a b
spans_overlap _ _ = false

-- bytes of a file are written or cut off by both
abbrev pub share_bytes : Op → Op → Bool
share_bytes o p = spans_overlap (span o) (span p)
