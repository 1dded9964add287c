use Rattle.std.proofs.Common.{◌≡◌, ◌<◌, length, slice_index_or, sym, ap, ◌∙◌, arith}
use Rattle.std.specs.declared.cmp.Ordering.TheVariants.{Equal}
use Rattle.tree_model.specs.Tree.{place_cmp}
use Rattle.plain_tree.proofs.Put.{found_here}
use Rattle.plain_tree.proofs.names.search.Goals as goal

pub returns-in-Equal-clause-found : goal.returns-in-Equal-clause-found
returns-in-Equal-clause-found c =
    let within : c.entries.at < length c.args.names.now = omega (arith, c.entries-test.true) in
    let equal : place_cmp (c.args.dir.now, c.args.name.now) (slice_index_or c.args.names.now c.entries.at c.index-names-at.result).0 ≡ Equal = ap (λ e. place_cmp (c.args.dir.now, c.args.name.now) e.0) (sym c.index-names-at.is) ∙ sym c.compare.ensures ∙ c.in-Equal.is in
    found_here place_cmp (c.args.dir.now, c.args.name.now) c.args.names.now c.entries.at c.index-names-at.result within c.entries.invariant equal
