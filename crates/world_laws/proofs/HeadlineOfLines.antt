-- The headline holds of each line: those by which sessions go on, and the others, in which no turn is had.
use Rattle.std.proofs.Common.{◌≡◌, ◌⊎◌, inl, inr, ⊎_elim, ℕ, List, [], Some, refl, sym, ◌∙◌, subst}
use Rattle.std.proofs.lemmas.List.{append-nil}
use Rattle.dhash_model.specs.Signed.{hss_judged}
use Rattle.log_model.proofs.Lists.{in_nothing}
use Rattle.script_driver.specs.Run.{Outcome, Goes}
use Rattle.script_model.specs.declared.command.Command.{Command}
use Rattle.script_model.specs.declared.command.Command.TheVariants as command
use Rattle.script_model.specs.Lines.{command_of}
use Rattle.world_model.specs.Logs.{Played}
use Rattle.world_model.specs.Step.{Does, IvyStep}
use Rattle.world_model.specs.Steps.{Configuration}
use Rattle.world_laws.specs.Effects.{Effect, EndsSession, Plays}
use Rattle.world_laws.specs.Effects.Effect.{comes, loses, makes_view, of_nodes, opens, plays, renews, shows, times, touches}
use Rattle.world_laws.specs.Effects.Plays.{calls, ends, steps}
use Rattle.world_laws.specs.Headline.{HoldsOf, ShowsReply}
use Rattle.world_laws.specs.Invariant.{Invariant}
use Rattle.world_laws.specs.Laws.{HeadlineHolds, IsCall, OthersHaveNoTurn}
use Rattle.world_laws.proofs.AllLines.{does_line}
use Rattle.world_laws.proofs.Effects.{by_effects, lines_have_effects}
use Rattle.world_laws.proofs.HeadlineOfPublishing.{later_has_none}
use Rattle.world_laws.proofs.SessionLines.{call_lines_keep}

-- ---- no turn is had

-- a session goes on by it
pub is_call : {k : Command} {w next : Played} {r : ℕ} {name : List ℕ} {c end : Configuration} → Plays hss_judged w r k name c end next → IsCall k
is_call (calls log pieces s t end sends begins runs over) = tt
is_call (steps name count s end is going) = tt
is_call (ends name s end is runs over) = tt

pub ends_call : (k : Command) → EndsSession k → IsCall k
ends_call (command.As log pieces) ended = tt
ends_call (command.Finish session) ended = tt
ends_call _ ended = absurd ended

effect_has_none : {k : Command} {w : Played} → (IsCall k → ⊥) → (next : Played) → Effect hss_judged w k next → next.1.turns ≡ w.1.turns
effect_has_none other _ (shows _ is) = refl
effect_has_none other _ (times sec nsec) = refl
effect_has_none other _ (loses count) = refl
effect_has_none other _ (of_nodes _ ring next is) = refl
effect_has_none other _ (makes_view name names others members former r view next are also new own_keys small ringed is put) = refl
effect_has_none other _ (comes name id seed sets new) = refl
effect_has_none other _ (touches k name p q posts is touching) = refl
effect_has_none other _ (renews k name p q posts set is renewing) = refl
effect_has_none other _ (opens name log pieces s t new sends begins) = refl
effect_has_none other next (plays _ r name c end _ ringed is) = absurd (other (is_call is))

pub others_have_no_turn : OthersHaveNoTurn
others_have_no_turn c w next output other does = by_effects (λ (v : Played). v.1.turns ≡ w.1.turns) (effect_has_none other) (later_has_none w.1.turns) (lines_have_effects w next c output does)

-- ---- each command

-- a session goes on by it, or it shows no reply
call_or_other : (c : Command) → IsCall c ⊎ ((IsCall c → ⊥) × (ShowsReply c → ⊥))
call_or_other (command.As log pieces) = inl tt
call_or_other (command.Step session count) = inl tt
call_or_other (command.Finish session) = inl tt
call_or_other c = inr (λ h. h, λ h. h)

one_command : (c d : Command) → Some c ≡ Some d → c ≡ d
one_command c d e = cc e

module _ (w next : Played) (output : List ℕ) (keeps : Invariant w) where
  command_holds : (c : Command) → Does hss_judged w c (Goes next output) → HoldsOf w c next output
  command_holds c does = ⊎_elim
      (λ call. (call_lines_keep c w next output call keeps does).1)
      (λ other. let same = others_have_no_turn c w next output other.0 does in record { more = []; new = same ∙ sym (append-nil w.1.turns); turns = λ h among. absurd (in_nothing h among); caused = λ shows. absurd (other.1 shows) })
      (call_or_other c)

-- ---- each line

pub headline_holds : HeadlineHolds
headline_holds w line outcome keeps step c next output is goes =
    let done = does_line w next output (command_of line) (subst (λ (o : Outcome Played). IvyStep w line o) goes step) in
    command_holds w next output keeps c (subst (λ (d : Command). Does hss_judged w d (Goes next output)) (one_command done.0 c (sym done.1 ∙ is)) done.2)
