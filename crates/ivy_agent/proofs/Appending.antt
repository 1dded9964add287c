-- Records that go after all others.
use Rattle.std.proofs.Common.{◌≡◌, List, [], ◌∷◌, ◌++◌}
use Rattle.std.specs.List.{AllByRecursion}
use Rattle.log_model.specs.Record.{Record}
use Rattle.log_model.specs.Closed.{IsAscending}
use Rattle.log_model.specs.Replay.{in_order}
use Rattle.log_model.proofs.Lists.{each_append}
use Rattle.log_model.proofs.Sets.{IsBefore, ascending_in_order}
use Rattle.replay_engine.specs.Rows.{IsRow}
use Rattle.replay_engine.specs.Places.{AreBehind}
use Rattle.replay_engine.specs.Engines.{Engine, holding, taken_in}
use Rattle.agent_model.specs.Turning.{with_held}

first_behind : (q : Record) (held more : List Record) → AreBehind (q ∷ held) more → AllByRecursion (IsBefore q) more
first_behind q held [] h = tt
first_behind q held (r ∷ more) h = (h.0.0, first_behind q held more h.1)

rest_behind : (q : Record) (held more : List Record) → AreBehind (q ∷ held) more → AreBehind held more
rest_behind q held [] h = tt
rest_behind q held (r ∷ more) h = (h.0.1, rest_behind q held more h.1)

pub ascends_with : (held more : List Record) → IsAscending held → IsAscending more → AreBehind held more → IsAscending (held ++ more)
ascends_with [] more up new_up h = new_up
ascends_with (q ∷ held) more up new_up h = (each_append (IsBefore q) held more up.0 (first_behind q held more h), ascends_with held more up.1 new_up (rest_behind q held more h))

-- they are held above what was held
pub held_above : (e : Engine) (more : List Record) → IsRow e.held → IsRow more → AreBehind e.held more → holding (taken_in e more) ≡ with_held (holding e) more
held_above e more row new_row after =
    let whole : in_order (e.held ++ more) ≡ e.held ++ more = ascending_in_order (e.held ++ more) (ascends_with e.held more row.ascending new_row.ascending after) in
    (λ i. record { basis = e.basis; held = whole i })
