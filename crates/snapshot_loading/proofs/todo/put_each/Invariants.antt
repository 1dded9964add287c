use Rattle.std.proofs.Common.{◌≡◌, ◌+◌, ◌≤◌, ◌++◌, length, drop}
use Rattle.std.specs.VecDeque.{deque_len, deque_capacity}
use Rattle.snapshot_loading.specs.Roles.{blocks_of}
use Rattle.snapshot_loading.proofs.todo.put_each.Given as goal

abbrev pub invariant-names : goal.invariant-names
invariant-names l = record {
  items : l.todo.items ≡ blocks_of l.role (drop l.left l.keys) ++ l.fn.todo.items;
  room : deque_len l.todo + l.left ≤ deque_capacity l.todo;
  within : l.left ≤ length l.keys;
}

abbrev pub decreases-names : goal.decreases-names
decreases-names l = l.left
