use Rattle.std.proofs.Common.{◌≡◌, ◌∙◌, ◌+◌, ℕ, ap, arith}
use Rattle.nfs3_reads.specs.Measures.{length_by}
use Rattle.nfs3_reads.proofs.Runs.{one_fits, one_is_too_long, all_fit}
use Rattle.nfs3_reads.proofs.cuts.how_many.Goals as goal

pub returns-then-left-length-clause-fitting : goal.returns-then-left-length-clause-fitting
returns-then-left-length-clause-fitting c =
    let e = c.args.entries.now in
    let size : c.length_by-length.result ≡ length_by c.args.measure c.loop-name-item.result.0 = c.length_by-length.ensures.length ∙ ap (length_by c.args.measure) c.as_slice.ensures in
    rw c.loop-name.invariant.counted
    (one_is_too_long (length_by c.args.measure) c.args.room e.before c.loop-name.name-index c.loop-name.left e.pairs.now c.loop-name-item.result c.loop-name-test.true c.loop-name-item.is (omega (arith, c.if-left-length.true, size)) c.loop-name.invariant.fits)

pub loop-name-preserved : goal.loop-name-preserved
loop-name-preserved c =
    let e = c.args.entries.now in
    let size : c.length_by-length.result ≡ length_by c.args.measure c.loop-name-item.result.0 = c.length_by-length.ensures.length ∙ ap (length_by c.args.measure) c.as_slice.ensures in
    record {
      counted = ap (λ (n : ℕ). n + 1) c.loop-name.invariant.counted;
      fits =
          rw size
          (one_fits (length_by c.args.measure) c.args.room e.before c.loop-name.name-index c.loop-name.left e.pairs.now c.loop-name-item.result c.loop-name-test.true c.loop-name-item.is (omega (arith, c.if-left-length.false, size)) c.loop-name.invariant.fits);
    }

pub returns-clause-fitting : goal.returns-clause-fitting
returns-clause-fitting c =
    let e = c.args.entries.now in
    rw c.loop-name.invariant.counted
    (all_fit (length_by c.args.measure) c.args.room e.before c.loop-name.name-index c.loop-name.left e.pairs.now c.loop-name-test.false c.loop-name.invariant.fits)
