use Rattle.std.proofs.Common.{take, true}
use Rattle.dir_replay.specs.View.{names_in}
use Rattle.snapshot_loading.specs.Steps.{Links}
use Rattle.snapshot_loading.proofs.linking.link_each.Given as goal

abbrev pub invariant-entries : goal.invariant-entries
invariant-entries l = Links (names_in l.dir (take l.entry-index l.entries)) l.initial.tree l.tree true
