use Rattle.std.proofs.Common.{ℕ, List, sym, ap, ◌∙◌, take, fold}
use Rattle.std.proofs.lemmas.List.{take_all}
use Rattle.std.proofs.lemmas.List.Sums.{fold_more}
use Rattle.conflict_list.specs.Numbers.{stirred, stirred_all}
use Rattle.conflict_list.proofs.numbers.stirred_all.Goals as goal

pub bytes-preserved : goal.bytes-preserved
bytes-preserved c =
    c.stirred-state.ensures ∙ ap (λ (s : ℕ). stirred s c.from.result) c.bytes.invariant
    ∙ ap (λ (n : ℕ). stirred (fold stirred c.args.start (take c.bytes.byte-index c.args.bytes.now)) n) c.from.ensures
    ∙ sym (fold_more stirred c.args.start c.args.bytes.now c.bytes.byte-index 0 c.bytes-test.true)

pub returns : goal.returns
unfolding stirred_all
returns c = c.bytes.invariant ∙ ap (λ (l : List ℕ). fold stirred c.args.start l) (take_all c.bytes.byte-index c.args.bytes.now c.bytes-test.false)
