use Rattle.std.proofs.Common.{◌≡◌, ◌<◌, length, slice_index_or, sym, ap, ◌∙◌, arith}
use Rattle.std.specs.declared.cmp.Ordering.TheVariants.{Equal}
use Rattle.ivy_base.specs.Naming.{key_cmp}
use Rattle.plain_tree.proofs.Put.{found_here}
use Rattle.plain_tree.proofs.inodes.search.Goals as goal

pub returns-in-Equal-clause-found : goal.returns-in-Equal-clause-found
returns-in-Equal-clause-found c =
    let within : c.entries.at < length c.args.inodes.now = omega (arith, c.entries-test.true) in
    let equal : key_cmp c.args.ino.now (slice_index_or c.args.inodes.now c.entries.at c.index-inodes-at.result).0 ≡ Equal = ap (λ e. key_cmp c.args.ino.now e.0) (sym c.index-inodes-at.is) ∙ sym c.cmp.ensures ∙ c.in-Equal.is in
    found_here key_cmp c.args.ino.now c.args.inodes.now c.entries.at c.index-inodes-at.result within c.entries.invariant equal
