use Rattle.std.proofs.Common.{◌≡◌, true, false, refl, sym}
use Rattle.fork_proof.specs.Checks.{low, high}
use Rattle.fork_proof.proofs.Walks.{signed_as}
use Rattle.fork_proof.proofs.checking.check_signed.Goals as goal

pub returns-then-not-is_signed-clause-err : goal.returns-then-not-is_signed-clause-err
returns-then-not-is_signed-clause-err c =
    low (λ w. let no : false ≡ true = c.if-not-is_signed.ensures.1 (signed_as refl (sym c.requires.low_signs) w) in absurd (cc no))

pub returns-then-not-is_signed-2-clause-err : goal.returns-then-not-is_signed-2-clause-err
returns-then-not-is_signed-2-clause-err c =
    high (signed_as refl c.requires.low_signs (c.is_signed.ensures.0 c.if-not-is_signed.false))
    (λ w. let no : false ≡ true = c.if-not-is_signed-2.ensures.1 (signed_as (sym c.requires.same) (sym c.requires.high_signs) w) in absurd (cc no))
