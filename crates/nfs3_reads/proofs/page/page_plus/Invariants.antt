use Rattle.std.proofs.Common.{◌≡◌, ◌+◌, take, map}
use Rattle.nfs_model.specs.Pages.{listed_plus}
use Rattle.nfs3_reads.specs.Places.{places}
use Rattle.nfs3_reads.proofs.page.page_plus.Given as goal

abbrev pub invariant-loop-name : goal.invariant-loop-name
invariant-loop-name l = record {
  counted : l.cookie ≡ l.entries.before + l.name-index;
  so_far : l.page.items ≡ map (listed_plus l.tree l.view) (take l.name-index (places l.entries));
}
