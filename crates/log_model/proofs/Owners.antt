-- The order of owners, of ranks and of records.
use Rattle.std.proofs.Common.{◌≡◌, true, ap}
use Rattle.std.specs.Cmp.{IsTotalOrder, tied_itself}
use Rattle.std.specs.Ordering.{eq_by_cmp, is_eq}
use Rattle.std.proofs.lemmas.Cmp.{on_total, then_total, nat_cmp_total}
use Rattle.std.specs.Cmp.Lexicographic.{nat_list_cmp_total}
use Rattle.ivy_base.specs.declared.key.PubKey.{PubKey}
use Rattle.ivy_base.specs.Naming.{owner_cmp}
use Rattle.log_model.specs.Rank.{rank, rank_cmp, record_cmp}

pub owners_total : IsTotalOrder owner_cmp
owners_total = on_total (λ k. k.0) nat_list_cmp_total

pub owner_itself : (a : PubKey) → eq_by_cmp owner_cmp a a ≡ true
owner_itself a = ap is_eq (tied_itself owners_total a)

pub ranks_total : IsTotalOrder rank_cmp
ranks_total = then_total (on_total (λ r. r.weight) nat_cmp_total) (then_total (on_total (λ r. r.owner) owners_total) (on_total (λ r. r.seq) nat_cmp_total))

pub records_total : IsTotalOrder record_cmp
records_total = on_total rank ranks_total
