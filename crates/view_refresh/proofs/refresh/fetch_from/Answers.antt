use Rattle.std.specs.Option.{option_map}
use Rattle.std.proofs.lemmas.Result.{IfOk-weaker}
use Rattle.fs_tree.specs.Bases.{basis_of}
use Rattle.view_refresh.proofs.Starting.{started_is_free}
use Rattle.view_refresh.proofs.refresh.fetch_from.Goals as goal

pub returns-clause-free : goal.returns-clause-free
returns-clause-free g c =
    IfOk-weaker c.start_over.result _ _
    (started_is_free g.J.Judge.judges c.args.judge c.args.replicas c.args.entries.now c.args.standing c.hold.new.standing (option_map basis_of c.args.basis) c.counted-basis.result c.counted-basis.ensures c.in_ok-hold.ensures)
    c.start_over.ensures
