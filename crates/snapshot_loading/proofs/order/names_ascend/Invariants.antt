use Rattle.std.proofs.Common.{take}
use Rattle.snapshot_loading.specs.Steps.{NamesAscend}
use Rattle.snapshot_loading.proofs.order.names_ascend.Given as goal

abbrev pub invariant-parts : goal.invariant-parts
invariant-parts l = NamesAscend (take l.part-index l.parts)
