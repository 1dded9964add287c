use Rattle.std.proofs.lemmas.Result.{err_from_is_err_and}
use Rattle.snapshot_blocks.proofs.Wholes.{refused}
use Rattle.snapshot_blocks.proofs.EntryReading.{no_magic, no_count_of_entries, no_entries_behind}
use Rattle.snapshot_blocks.proofs.entries.read_some.Goals as goal

pub returns-in_err-read_constant-clause-err : goal.returns-in_err-read_constant-clause-err
returns-in_err-read_constant-clause-err c =
    let p = err_from_is_err_and c.from_residual.result c.from_residual.ensures.1 in
    rw (p.1, p.2) (no_magic c.in_err-read_constant.ensures.err)

pub returns-in_err-count-clause-err : goal.returns-in_err-count-clause-err
returns-in_err-count-clause-err c =
    let p = err_from_is_err_and c.from_residual-in_err-count.result c.from_residual-in_err-count.ensures.1 in
    rw (p.1, p.2) (no_count_of_entries c.in_ok-read_constant.ensures.ok c.in_err-count.ensures.none)

pub returns-in_err-entries-clause-err : goal.returns-in_err-entries-clause-err
returns-in_err-entries-clause-err c =
    let p = err_from_is_err_and c.from_residual-in_err-entries.result c.from_residual-in_err-entries.ensures.1 in
    rw (p.1, p.2) (refused (no_entries_behind c.in_ok-read_constant.ensures.ok c.in_ok-count.ensures.ok) _ c.in_err-entries.ensures.err)
