use Rattle.std.proofs.Common.{◌≡◌, Some, None, true, IfOk, refl, sym, subst}
use Rattle.std.specs.Prelude.{◌≢◌}
use Rattle.std.proofs.lemmas.Result.{IfOk-weaker}
use Rattle.ivy_base.specs.Naming.{name}
use Rattle.view_refresh.specs.declared.refresh.State.{State}
use Rattle.view_refresh.specs.States.{IsSound, loads_in, wanted_in}
use Rattle.view_refresh.specs.Parts.{GivesNext}
use Rattle.view_refresh.proofs.refresh.ViewRefresh.give_to.Goals as goal

pub give_load-requires : goal.give_load-requires
give_load-requires g c =
    let r = c.args.self.now in
    record {
      wants = subst (IsSound r.judge r.replicas r.entries) c.in-Loading.is c.requires.sound;
      named = subst (λ (st : State g.row.J.Denot). loads_in st ≡ true → wanted_in st ≡ Some (name c.args.bytes.now)) c.in-Loading.is c.requires.named refl;
    }

pub give_fetch-requires : goal.give_fetch-requires
give_fetch-requires g c = subst (λ (st : State g.row.J.Denot). wanted_in st ≢ None) c.in-Fetching.is c.requires.wanted

pub returns-in-Loading : goal.returns-in-Loading
returns-in-Loading g c =
    subst (λ (st : State g.row.J.Denot). IfOk c.give_load.result (GivesNext g.J.Judge.judges c.args.self.now st c.args.bytes.now)) (sym c.in-Loading.is) c.give_load.ensures

pub returns-in-Fetching : goal.returns-in-Fetching
returns-in-Fetching g c =
    let r = c.args.self.now in
    subst (λ (st : State g.row.J.Denot). IfOk c.give_fetch.result (GivesNext g.J.Judge.judges r st c.args.bytes.now)) (sym c.in-Fetching.is)
    (IfOk-weaker c.give_fetch.result _ _ (λ st gives. gives r (subst (IsSound r.judge r.replicas r.entries) c.in-Fetching.is c.requires.sound)) c.give_fetch.ensures)
