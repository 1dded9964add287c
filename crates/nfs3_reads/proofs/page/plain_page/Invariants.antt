use Rattle.std.proofs.Common.{◌≡◌, ◌+◌, take, map}
use Rattle.nfs_model.specs.Pages.{listed}
use Rattle.nfs3_reads.specs.Places.{places}
use Rattle.nfs3_reads.proofs.page.plain_page.Given as goal

abbrev pub invariant-loop-name : goal.invariant-loop-name
invariant-loop-name l = record {
  counted : l.cookie ≡ l.entries.before + l.name-index;
  so_far : l.page.items ≡ map listed (take l.name-index (places l.entries));
}
