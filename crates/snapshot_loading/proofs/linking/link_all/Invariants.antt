use Rattle.std.proofs.Common.{take, true}
use Rattle.snapshot_loading.specs.Parts.{tree_of}
use Rattle.snapshot_loading.specs.Steps.{Links}
use Rattle.snapshot_loading.proofs.linking.link_all.Given as goal

abbrev pub invariant-parts : goal.invariant-parts
invariant-parts l = Links (tree_of (take l.part-index l.parts)).names l.initial.tree l.tree true
