use Rattle.std.proofs.Common.{sym, ◌∙◌}
use Rattle.snapshot_loading.specs.Loading.{bytes_of}
use Rattle.snapshot_loading.specs.WholeLaws.{blocks_read}
use Rattle.snapshot_loading.specs.Answers.{IsABasis, loaded_basis}
use Rattle.snapshot_loading.specs.Ends.{AreOfBasis}
use Rattle.snapshot_loading.proofs.Ends.{if_ok, whole_is_of}
use Rattle.snapshot_loading.proofs.ending.into_basis.Goals as goal

pub returns-in-Some : goal.returns-in-Some
returns-in-Some c =
    if_ok (λ basis. IsABasis c.as_slice-in-Some.result.now (blocks_read c.in-Some.rest.now) (loaded_basis basis)) (λ basis. AreOfBasis (bytes_of c.args.read.items) (loaded_basis basis)) c.basis_in.result
    (λ basis is. whole_is_of c.args.read.items c.in-Some.first.now c.in-Some.rest.now c.as_slice-in-Some.result.now (loaded_basis basis) (sym c.as_slice.ensures.value ∙ c.in-Some.ensures.cases.0) c.as_slice-in-Some.ensures c.requires is)
    c.basis_in.ensures
