use Rattle.std.proofs.Common.{◌∙◌}
use Rattle.ivy_agent.proofs.Few.{are_enough, are_seen}
use Rattle.ivy_agent.proofs.Older.{older_added, older_known, are_all_edges}
use Rattle.ivy_agent.proofs.standing.newest_edges.Goals as goal
use Rattle.ivy_agent.proofs.standing.newest_edges.Goals.{then-records-test+else-len-most, else-records-test}

pub records-preserved : goal.records-preserved
records-preserved c = let added = older_added
    c.args.records.now c.records.left c.index-records-left.result c.records.owners.items c.records.edges.items c.records-test.true c.records.invariant.within c.index-records-left.is c.records.invariant.edges c.records.invariant.owners
    c.put_under.new.edges.items c.push.new.self.items c.in_ok-put_under.ensures c.in_ok-push.ensures.items in record { within = added.0; edges = added.1; owners = added.2 }

pub records-preserved-then-is_among : goal.records-preserved-then-is_among
records-preserved-then-is_among c = let known = older_known
    c.args.records.now c.records.left c.index-records-left.result c.records.owners.items c.records.edges.items c.records-test.true c.records.invariant.within c.index-records-left.is c.records.invariant.edges c.records.invariant.owners
    c.as_slice.result.now c.is_among.result c.as_slice.ensures.value c.is_among.ensures c.if-is_among.true in record { within = known.0; edges = known.1; owners = c.records.invariant.owners }

pub of-requires : goal.of-requires
of-requires c = are_all_edges c.args.records.now c.records.edges.items
    (elim c.records-test.branch [
      | then-records-test+else-len-most w ↦ are_enough c.args.records.now c.records.left c.args.most c.records.edges.items c.requires.few c.records.invariant.edges c.records.edges.len w.len.result c.records.edges.ok.0 w.len.ensures w.if-len-most.false
      | else-records-test w ↦ are_seen c.args.records.now c.records.left c.args.most c.records.edges.items c.requires.few c.records.invariant.edges w.records-test.false
    ])
    c.requires.others

pub returns : goal.returns
returns c = c.of.ensures
    ∙ (elim c.records-test.branch [
      | then-records-test+else-len-most w ↦ are_enough c.args.records.now c.records.left c.args.most c.records.edges.items c.requires.few c.records.invariant.edges c.records.edges.len w.len.result c.records.edges.ok.0 w.len.ensures w.if-len-most.false
      | else-records-test w ↦ are_seen c.args.records.now c.records.left c.args.most c.records.edges.items c.requires.few c.records.invariant.edges w.records-test.false
    ])
