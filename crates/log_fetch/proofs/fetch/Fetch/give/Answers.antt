use Rattle.std.proofs.Common.{◌<◌, ◌*◌, ◌∙◌, sym, ap, subst}
use Rattle.log_fetch.specs.declared.fetch.State.{State}
use Rattle.log_fetch.specs.declared.fetch.State.TheVariants as state
use Rattle.log_fetch.specs.Fetching.{Fetching, FetchWasGiven, fetch_left, most_asks}
use Rattle.log_fetch.specs.Gathering.{gets_in}
use Rattle.log_fetch.proofs.Falling.{fewer_gets, some_asks}
use Rattle.log_fetch.proofs.Fetching.{was_taken}
use Rattle.log_fetch.proofs.fetch.Fetch.give.Goals as goal

pub returns-clause-given : goal.returns-clause-given
returns-clause-given g c =
    let i = c.self.inside in
    subst (λ (f : Fetching g.row.J.Denot). FetchWasGiven g.J.Judge.judges f (record { judge = i.judge; replicas = i.replicas; entries = i.entries; state = state.Free c.take_block.new.self; gets = i.gets }) c.args.bytes.now)
    (ap (λ (st : State g.row.J.Denot). record { judge = i.judge; replicas = i.replicas; entries = i.entries; state = st; gets = i.gets }) (sym c.in-Free.is) ∙ c.self.view_is)
    (was_taken g.J.Judge.judges i.judge i.replicas i.entries c.in-Free.gather c.take_block.new.self c.args.bytes.now i.gets c.in_ok-take_block.ensures.known c.in_ok-take_block.ensures.taken)

pub returns-clause-left : goal.returns-clause-left
returns-clause-left g c =
    let i = c.self.inside in
    subst (λ (f : Fetching g.row.J.Denot). most_asks * gets_in c.take_block.new.self < fetch_left f)
    (ap (λ (st : State g.row.J.Denot). record { judge = i.judge; replicas = i.replicas; entries = i.entries; state = st; gets = i.gets }) (sym c.in-Free.is) ∙ c.self.view_is)
    (fewer_gets most_asks (gets_in c.take_block.new.self) (gets_in c.in-Free.gather) some_asks c.in_ok-take_block.ensures.left)
