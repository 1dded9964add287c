use Rattle.std.proofs.Common.{map, refl, arith, sym, ◌∙◌, rules}
use Rattle.snapshot_loading.proofs.Sizes.{full_is, is_full}
use Rattle.snapshot_loading.proofs.inode.file.Goals as goal

pub returns-then-not-are_full : goal.returns-then-not-are_full
returns-then-not-are_full c = λ body es h. cc (is_full 8192 (omega arith) 8192 (map (λ b. b.now) c.args.pieces.now) refl h.1, c.are_full.ensures, c.if-not-are_full.true)

pub returns : goal.returns
returns c = (
  c.new.ensures.items,
  full_is 8192 8192 (map (λ b. b.now) c.args.pieces.now) (sym c.are_full.ensures ∙ c.if-not-are_full.false),
  sym c.in_ok-bytes.ensures ∙ sym c.of.ensures,
  search rules,
)
