use Rattle.std.proofs.Common.{rules, ◌≢◌, []}
use Rattle.hss_keys.proofs.Saving.{no_signer_before}
use Rattle.hss_keys.proofs.save.read_all_parts.Goals as goal

pub returns-in_err-ok-clause-none : goal.returns-in_err-ok-clause-none
returns-in_err-ok-clause-none c =
    let more : c.read_parts.new.reader ≢ [] = search rules in
    rw c.from_residual-in_err-ok.ensures (no_signer_before (rw c.new-reader.ensures at c.in_ok-saved.ensures.some) more)
