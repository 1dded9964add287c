use Rattle.std.proofs.Common.{◌≡◌, rules}
use Rattle.block_parts.proofs.Bytes.{is_block}
use Rattle.hss_keys.proofs.signer.Hss.grow.Goals as goal

pub invariant_of-result-2 : goal.invariant_of-result-2
invariant_of-result-2 c =
    let id : c.top.inside.key.id ≡ c.args.id.now = search rules in
    let seed : c.top.inside.key.seed ≡ c.args.seed.now = search rules in (
      is_block 16 c.args.id.now c.top.inside.key.id c.told-id id c.fits-id,
      is_block 32 c.args.seed.now c.top.inside.key.seed c.told-seed seed c.fits-seed,
      search rules,
      search rules,
      search rules,
    )
