use Rattle.std.proofs.Common.{◌≡◌, ◌++◌, List, sym, subst}
use Rattle.std.specs.List.{AllByRecursion}
use Rattle.log_model.specs.Record.{Record}
use Rattle.log_model.specs.Closed.{IsAscending}
use Rattle.log_model.specs.Replay.{in_order}
use Rattle.log_model.specs.Spelling.{HasSpelling}
use Rattle.log_model.proofs.Sets.{in_order_ascends}
use Rattle.log_records.specs.Records.{records_of}
use Rattle.replay_engine.proofs.Unions.{spelled_in_order}
use Rattle.replay_engine.proofs.Walks.{all_merged}
use Rattle.replay_engine.proofs.sets.merge.Goals as goal

pub returns : goal.returns
returns c =
    let held = records_of c.args.held.now.items in
    let new = records_of c.args.new.items in
    let same : records_of c.reverse.new.self.items ≡ in_order (held ++ new) =
    all_merged c.args.held.now.items c.args.new.items c.records.held.items c.records.new.items c.records.merged.items _ c.records.invariant.so_far c.in_default.ensures.none c.reverse.ensures.items c.requires.held in
    record {
      ok = same;
      err = tt;
      ascending = subst (λ (l : List Record). IsAscending l) (sym same) (in_order_ascends (held ++ new));
      spelled = subst (λ (l : List Record). AllByRecursion HasSpelling l) (sym same) (spelled_in_order held new c.requires.spelled c.requires.new_spelled);
    }
