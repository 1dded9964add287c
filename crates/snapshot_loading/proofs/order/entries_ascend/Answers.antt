use Rattle.std.proofs.Common.{List, ℕ, rules, ap, ◌∙◌, map-id}
use Rattle.std.specs.Cmp.Lexicographic.{slice_cmp, nat_list_cmp_total}
use Rattle.std.specs.Ordering.{nat_cmp}
use Rattle.std.specs.FinMap.Entries.{is_sorted}
use Rattle.std.proofs.lemmas.List.Sorted.{answers_always}
use Rattle.ivy_base.specs.declared.key.Key.{Key}
use Rattle.snapshot_loading.proofs.Ordered.{is_below, sorted_from}
use Rattle.snapshot_loading.proofs.order.entries_ascend.Goals as goal

pub returns : goal.returns
returns c =
    sorted_from (slice_cmp nat_cmp) nat_list_cmp_total (λ (e : List ℕ × Key). e.0) (λ (e : List ℕ × Key). e.1) c.args.entries.now c.is_sorted_by.result
    (c.is_sorted_by.ensures.cases (is_below (slice_cmp nat_cmp) nat_list_cmp_total (λ (e : List ℕ × Key). e.0) (λ (e : List ℕ × Key). e.1)) (answers_always _ _ _ (λ f a r f' q. search rules)))
    ∙ ap (λ (es : List (List ℕ × Key)). is_sorted (slice_cmp nat_cmp) es) (map-id c.args.entries.now)
