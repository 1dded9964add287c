use Rattle.std.proofs.Common.{List, subst, sym}
use Rattle.std.specs.List.{AllByRecursion}
use Rattle.log_model.specs.Spelling.{HasSpelling}
use Rattle.log_records.specs.declared.batch.Chain.{Chain}
use Rattle.log_records.specs.declared.record.Record.{Record}
use Rattle.log_records.specs.Records.{records_of}
use Rattle.turn_taking.specs.Chains.{IsRow, chains_in}
use Rattle.turn_taking.specs.Naming.{AllNamesOf, HasNameOf}
use Rattle.turn_taking.specs.declared.names.Names.{Names}
use Rattle.turn_taking.proofs.Parts.{all_fetched, all_linked, all_newest, all_rows, new_named, new_spelled}
use Rattle.turn_taking.proofs.taking.take_new.Goals as goal

pub all_names-requires : goal.all_names-requires
all_names-requires c = subst (λ (cs : List Chain). AllByRecursion IsRow cs) (sym c.deref.ensures.value) (all_rows c.args.held.now.view.now c.args.chains.items c.requires.whole)

pub closed_part_of-requires-clause-fetched : goal.closed_part_of-requires-clause-fetched
closed_part_of-requires-clause-fetched c = all_fetched c.args.held.now.view.now c.args.held.now.base.now (records_of c.args.held.now.records.now) c.args.chains.items c.requires.whole c.requires.near

pub closed_part_of-requires-clause-named : goal.closed_part_of-requires-clause-named
closed_part_of-requires-clause-named c = all_newest c.args.held.now.view.now c.args.chains.items c.requires.whole

pub front_with-requires-clause-named : goal.front_with-requires-clause-named
front_with-requires-clause-named c =
    let view = c.args.held.now.view.now in
    let chains = chains_in c.args.chains.items in
    let names = subst (λ (cs : List Chain). AllNamesOf c.in_ok-names.names.items (chains_in cs)) c.deref.ensures.value c.in_ok-names.ensures in
    let named = new_named view c.args.held.now.base.now (records_of c.args.held.now.records.now) chains (records_of c.in_ok-records.records.items) c.in_ok-records.ensures c.in_ok-names.names.items
    names c.requires.apart (all_linked view c.args.chains.items c.requires.whole) in
    subst (λ (ns : List Names). AllByRecursion (HasNameOf ns) (records_of c.deref-3.result.now)) (sym c.deref-2.ensures.value)
    (subst (λ (rs : List Record). AllByRecursion (HasNameOf c.in_ok-names.names.items) (records_of rs)) (sym c.deref-3.ensures.value) named)

pub front_with-requires-clause-spelled : goal.front_with-requires-clause-spelled
front_with-requires-clause-spelled c =
    let spelled = new_spelled c.args.held.now.view.now c.args.held.now.base.now (records_of c.args.held.now.records.now) (chains_in c.args.chains.items) (records_of c.in_ok-records.records.items) c.in_ok-records.ensures in
    subst (λ (rs : List Record). AllByRecursion HasSpelling (records_of rs)) (sym c.deref-3.ensures.value) spelled
