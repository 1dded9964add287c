-- Lines that show something, or set the moment or a loss, change nothing else.
use Rattle.std.proofs.Common.{◌≡◌, Bool, true, false, refl, sym, subst}
use Rattle.std.specs.Prelude.{nat_lt, nat_le, ◌&&◌}
use Rattle.script_driver.specs.Run.{Outcome, Goes, Ends, Refuses, Exceeds}
use Rattle.script_model.specs.declared.command.Command.TheVariants as command
use Rattle.world_model.specs.World.{World}
use Rattle.world_model.specs.Logs.{Played, at_line, beside, goes_if}
use Rattle.world_model.specs.Faults.{lose_line}
use Rattle.world_laws.specs.Laws.{StillLinesChangeNothing}
use Rattle.world_laws.proofs.Shows.{shows_are_still}

-- but for the moment and losses it is that world
abbrev IsAlmost : World → World → Type 0
IsAlmost w next = next ≡ record w { now = next.now; lost = next.lost }

abbrev AllGo : World → Outcome World → Type 0
AllGo w (Goes next output) = IsAlmost w next
AllGo w Ends = Unit {0}
AllGo w Refuses = Unit {0}
AllGo w Exceeds = Unit {0}

-- where the outcome goes on, it does so to such a world and the same ghost state
abbrev IsStillIn : Played → Outcome Played → Type 0
IsStillIn w (Goes next output) = (next.1 ≡ w.1) × IsAlmost w.0 next.0
IsStillIn w Ends = Unit {0}
IsStillIn w Refuses = Unit {0}
IsStillIn w Exceeds = Unit {0}

by_beside : (w : Played) (o : Outcome World) → AllGo w.0 o → IsStillIn w (beside w.1 o)
by_beside w (Goes next output) h = (refl, h)
by_beside w Ends h = tt
by_beside w Refuses h = tt
by_beside w Exceeds h = tt

of_line : (w : Played) (o : Outcome World) (outcome : Outcome Played) → outcome ≡ beside w.1 o → AllGo w.0 o → IsStillIn w outcome
of_line w o outcome does h = subst (λ (p : Outcome Played). IsStillIn w p) (sym does) (by_beside w o h)

of_goes_if : (w next : World) (t : Bool) → IsAlmost w next → AllGo w (goes_if t next)
of_goes_if w next true h = h
of_goes_if w next false h = tt

pub still_lines : StillLinesChangeNothing
still_lines w next (command.At sec nsec) output still does = of_line w (at_line w.0 sec nsec) (Goes next output) does (of_goes_if w.0 _ (nat_lt sec 4294967296 && nat_lt nsec 1000000000) refl)
still_lines w next (command.Lose count) output still does = of_line w (lose_line w.0 count) (Goes next output) does (of_goes_if w.0 _ (nat_lt 0 count && nat_le count 1000000) refl)
still_lines w next (command.Show shown) output still does = of_line w does.0 (Goes next output) does.2 (shows_are_still w.0 shown (AllGo w.0) (λ text. refl) tt tt does.0 does.1)
still_lines w next command.Nothing output still does = subst (λ (o : Outcome Played). IsStillIn w o) (sym does) (refl, refl)
still_lines w next _ output still does = absurd still
