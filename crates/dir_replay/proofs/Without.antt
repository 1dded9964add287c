-- Entries without one name.
use Rattle.std.proofs.Common.{◌≡◌, ℕ, List, not, ap}
use Rattle.std.specs.Cmp.Lexicographic.{nat_list_cmp_total}
use Rattle.std.specs.FinMap.Entries.{where_key}
use Rattle.std.specs.Ordering.{eq_by_cmp}
use Rattle.std.proofs.lemmas.Map.Lookups.{exact_bytes}
use Rattle.ivy_base.specs.declared.key.Key.{Key}
use Rattle.dir_replay.specs.Entries.{name_cmp}
use Rattle.dir_replay.proofs.Counts.{tied_turned}

-- whichever of the two names is compared with the other
pub without_turned : (name : List ℕ) (es : List (List ℕ × Key)) → where_key name_cmp (λ n. not (eq_by_cmp name_cmp name n)) es ≡ where_key name_cmp (λ n. not (eq_by_cmp name_cmp n name)) es
without_turned name es = ap (λ test. where_key name_cmp test es) (λ i n. not (tied_turned name_cmp nat_list_cmp_total exact_bytes name n i))
