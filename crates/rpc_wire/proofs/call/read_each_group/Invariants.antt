use Rattle.std.proofs.Common.{◌≡◌, take, length}
use Rattle.rpc_wire.proofs.Calls.{GroupsSoFar}
use Rattle.rpc_wire.proofs.call.read_each_group.Given as goal

abbrev pub invariant-groups : goal.invariant-groups
invariant-groups l = record {
  far : GroupsSoFar l.count l.initial.parts (take l.i l.gids) l.parts;
  size : length l.gids ≡ 16;
}
