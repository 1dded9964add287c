use Rattle.std.proofs.Common.{◌≡◌, ◌≤◌, true, length, drop}
use Rattle.std.specs.Prelude.{is_some}
use Rattle.std.specs.List.{AllByRecursion}
use Rattle.std.specs.FinMap.Entries.{find as value_at}
use Rattle.ivy_base.specs.Naming.{key_cmp, head_key_of}
use Rattle.log_records.specs.Records.{records_of}
use Rattle.log_fetch.specs.Edges.{edges_of}
use Rattle.ivy_agent.specs.Edges.{newest_edges}
use Rattle.ivy_agent.proofs.standing.newest_edges.Given as goal

abbrev pub invariant-records : goal.invariant-records
invariant-records l = record {
  within : l.left ≤ length l.records;
  edges : edges_of l.edges.items ≡ newest_edges (records_of (drop l.left l.records));
  owners : AllByRecursion (λ o. is_some (value_at key_cmp (head_key_of o) (edges_of l.edges.items)) ≡ true) l.owners.items;
}

abbrev pub decreases-records : goal.decreases-records
decreases-records l = l.left
