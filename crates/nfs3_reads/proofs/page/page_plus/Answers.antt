use Rattle.std.proofs.Common.{◌≡◌, ◌∙◌, ◌+◌, ◌++◌, [], ◌∷◌, arith, Some}
use Rattle.nfs_model.specs.Pages.{listed_plus}
use Rattle.nfs3_reads.proofs.Runs.{one_listed, all_listed}
use Rattle.nfs3_reads.proofs.page.page_plus.Goals as goal

pub loop-name-preserved : goal.loop-name-preserved
loop-name-preserved c =
    let e = c.args.entries.now in
    let cookie : c.loop-name.cookie + 1 ≡ e.before + c.loop-name.name-index + 1 = omega (arith, c.loop-name.invariant.counted) in
    record {
      counted = omega (arith, c.loop-name.invariant.counted);
      so_far =
          c.in_ok-push.ensures.items
          ∙ (λ i. c.loop-name.page.items ++ record { fileid = c.leading_number.ensures i; name = c.in_ok-copy.ensures i; cookie = cookie i; attributes = c.attributes_at.ensures i; handle = Some (c.in_ok-handle_of.ensures.handle i) } ∷ [])
          ∙ one_listed (listed_plus c.args.tree.now c.args.view.now) e.before c.loop-name.name-index e.pairs.now c.loop-name-item.result c.loop-name.page.items c.loop-name-test.true c.loop-name-item.is c.loop-name.invariant.so_far;
    }

pub returns : goal.returns
returns c =
    let e = c.args.entries.now in
    c.of.ensures ∙ all_listed (listed_plus c.args.tree.now c.args.view.now) e.before c.loop-name.name-index e.pairs.now c.loop-name.page.items c.loop-name-test.false c.loop-name.invariant.so_far
