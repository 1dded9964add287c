use Rattle.std.proofs.Common.{refl, ◌∙◌, arith}
use Rattle.std.proofs.lemmas.List.{length-set}
use Rattle.rpc_wire.proofs.Calls.{no_groups_yet, next_group, all_groups}
use Rattle.rpc_wire.proofs.call.read_each_group.Goals as goal

pub groups-init : goal.groups-init
groups-init c = record { far = no_groups_yet _ _; size = refl }

pub groups-preserved : goal.groups-preserved
groups-preserved c = record {
  far = next_group c.groups.gids c.groups.invariant.far c.groups.invariant.size c.groups-test.true c.requires c.u32.ensures;
  size = length-set c.groups.gids c.groups.i c.u32.result ∙ c.groups.invariant.size;
}

pub returns-clause-reads : goal.returns-clause-reads
returns-clause-reads c = all_groups c.groups.gids c.groups.invariant.far (omega (arith, c.groups.auto.i-end, c.groups-test.false)) c.requires c.groups.invariant.size
