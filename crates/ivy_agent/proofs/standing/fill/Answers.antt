use Rattle.std.proofs.Common.{List, length, sym, ap, ◌∙◌, subst, Contains}
use Rattle.std.specs.List.{AllByRecursion}
use Rattle.ivy_base.specs.declared.key.PubKey.{PubKey}
use Rattle.log_records.specs.Records.{records_of}
use Rattle.log_fetch.specs.declared.standing.Standing.{Standing}
use Rattle.ivy_agent.specs.Edges.{AreOfAtMost}
use Rattle.ivy_agent.proofs.Few.{of_beyond, of_lesser, of_members}
use Rattle.ivy_agent.proofs.standing.fill.Goals as goal

pub newest_edges-requires-clause-few : goal.newest_edges-requires-clause-few
newest_edges-requires-clause-few c =
    let records = records_of c.args.records.now in
    of_lesser (length c.members.result.now) c.count_beyond.result c.min-most.result records c.min-most.ensures
    (of_members c.members.result.now records
    (subst (λ (members : List PubKey). AllByRecursion (λ r. Contains members r.owner) records) (sym (c.members.ensures.value ∙ ap (λ (s : Standing). s.view.members) c.in_ok-fill_fronts.ensures)) c.requires.members))
    (subst (λ n. AreOfAtMost n records) (sym c.count_beyond.ensures) (of_beyond c.args.base.now c.args.front.now records c.requires.beyond))
