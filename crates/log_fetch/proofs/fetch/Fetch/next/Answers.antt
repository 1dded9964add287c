use Rattle.std.proofs.Common.{◌≤◌, ℕ, ◌∙◌, sym, ap, subst}
use Rattle.log_fetch.specs.declared.fetch.State.{State}
use Rattle.log_fetch.specs.Fetching.{Fetching, FetchIsWanted, IsSound, fetch_left, left_in, with_next}
use Rattle.log_fetch.proofs.fetch.Fetch.next.Goals as goal

pub go_on-requires : goal.go_on-requires
go_on-requires g c = let i = c.self.inside in subst (IsSound i.judge i.replicas) (sym c.replace-state.ensures.value) c.self.invariant

pub returns-clause-wanted : goal.returns-clause-wanted
returns-clause-wanted g c =
    let i = c.self.inside in
    subst
    (λ (st : State g.row.J.Denot).
    FetchIsWanted g.J.Judge.judges c.args.self.now (record { judge = i.judge; replicas = i.replicas; entries = i.entries; state = st; gets = c.gets_with_next-gets.result }) c.in_ok-state.want) (sym c.come_to.ensures)
    (subst (λ (n : ℕ). FetchIsWanted g.J.Judge.judges c.args.self.now (record { judge = i.judge; replicas = i.replicas; entries = i.entries; state = c.in_ok-state.state; gets = n }) c.in_ok-state.want) (sym c.gets_with_next-gets.ensures)
    (subst
    (λ (f : Fetching g.row.J.Denot).
    FetchIsWanted g.J.Judge.judges f (record { judge = i.judge; replicas = i.replicas; entries = i.entries; state = c.in_ok-state.state; gets = with_next f.gets f.state }) c.in_ok-state.want)
    (ap (λ (st : State g.row.J.Denot). record { judge = i.judge; replicas = i.replicas; entries = i.entries; state = st; gets = i.gets }) c.replace-state.ensures.value ∙ c.self.view_is) c.in_ok-state.ensures.0))

pub returns-clause-left : goal.returns-clause-left
returns-clause-left g c =
    let i = c.self.inside in
    subst (λ (st : State g.row.J.Denot). left_in st ≤ fetch_left c.args.self.now) (sym c.come_to.ensures)
    (subst (λ (f : Fetching g.row.J.Denot). left_in c.in_ok-state.state ≤ fetch_left f)
    (ap (λ (st : State g.row.J.Denot). record { judge = i.judge; replicas = i.replicas; entries = i.entries; state = st; gets = i.gets }) c.replace-state.ensures.value ∙ c.self.view_is) c.in_ok-state.ensures.2)
