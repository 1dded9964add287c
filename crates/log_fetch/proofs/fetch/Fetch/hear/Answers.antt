use Rattle.std.proofs.Common.{None, IfOk, sym, subst}
use Rattle.std.specs.Prelude.{◌≢◌}
use Rattle.log_fetch.specs.declared.fetch.State.{State}
use Rattle.log_fetch.specs.declared.fetch.State.TheVariants as state
use Rattle.log_fetch.specs.Fetching.{IsSound, awaited_in}
use Rattle.log_fetch.specs.Gets.{HearsTo}
use Rattle.log_fetch.specs.Stepping.{HearsNext}
use Rattle.log_fetch.proofs.Fetching.{hears_waits, hears_comes, kind_wanted}
use Rattle.log_fetch.proofs.fetch.Fetch.hear.Goals as goal

pub hear-requires : goal.hear-requires
hear-requires g c = subst (λ (st : State g.row.J.Denot). awaited_in st ≢ None) c.in-Asking.is c.requires.awaited

pub stand-requires : goal.stand-requires
stand-requires g c =
    let f = c.args.self.now in
    let sound = subst (IsSound f.judge f.replicas) c.in-Asking.is c.requires.sound in
    let to = subst (HearsTo g.J.Judge.judges c.in-Asking.waiting.get c.args.answer) c.in-Comes.is c.in_ok-waiting.ensures in
    kind_wanted f.judge f.replicas c.in-Asking.gather.stage c.in-Asking.waiting.get c.in-Comes.came sound.0 to.0

pub returns-in-Waits : goal.returns-in-Waits
returns-in-Waits g c =
    let f = c.args.self.now in
    let sound = subst (IsSound f.judge f.replicas) c.in-Asking.is c.requires.sound in
    let to = subst (HearsTo g.J.Judge.judges c.in-Asking.waiting.get c.args.answer) c.in-Waits.is c.in_ok-waiting.ensures in
    subst (λ (st : State g.row.J.Denot). HearsNext g.J.Judge.judges f st c.args.answer (state.Asking c.in-Asking.gather c.in-Waits.waiting, None)) (sym c.in-Asking.is)
    (hears_waits g.J.Judge.judges f.judge f.replicas f.entries c.in-Asking.gather c.in-Asking.waiting c.in-Waits.waiting c.args.answer f.gets sound to)

pub returns-in-Comes : goal.returns-in-Comes
returns-in-Comes g c =
    let f = c.args.self.now in
    let sound = subst (IsSound f.judge f.replicas) c.in-Asking.is c.requires.sound in
    let to = subst (HearsTo g.J.Judge.judges c.in-Asking.waiting.get c.args.answer) c.in-Comes.is c.in_ok-waiting.ensures in
    subst (λ (st : State g.row.J.Denot). IfOk c.stand.result (HearsNext g.J.Judge.judges f st c.args.answer)) (sym c.in-Asking.is)
    (hears_comes g.J.Judge.judges f.judge f.replicas f.entries c.in-Asking.gather c.in-Asking.waiting c.args.answer f.gets c.in-Comes.came sound to c.stand.result c.stand.ensures.stands c.stand.ensures.left)
