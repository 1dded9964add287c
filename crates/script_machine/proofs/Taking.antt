-- What a line does by its command, from what the world in code does.
use Rattle.std.proofs.Common.{◌≡◌, ℕ, Bool, false, List, Option, Some, Ok, Err, refl, sym, ◌∙◌, subst}
use Rattle.std.specs.Prelude.{IfOk, MatchBool}
use Rattle.std.specs.declared.result.Result.{Result}
use Rattle.script_driver.specs.declared.machine.Taken.{Taken}
use Rattle.script_driver.specs.declared.machine.Taken.TheVariants as taken
use Rattle.script_driver.specs.Machine.{outcome_told}
use Rattle.script_driver.specs.Run.{Outcome, Goes, Ends, Refuses, Exceeds}
use Rattle.script_driver.specs.Shown.{IsSeenAs}
use Rattle.script_model.specs.declared.command.Command.{Command}
use Rattle.script_model.specs.declared.command.Command.TheVariants as command
use Rattle.script_model.specs.Lines.{command_of}
use Rattle.world_model.specs.Logs.{Played}
use Rattle.world_model.specs.Step.{IvyStep, MayDo, MayDoFirst}
use Rattle.script_machine.specs.WorldState.{KeepsAll, LineDoes, RepresentsWorld, WorldState}
use Rattle.stage_laws.specs.Promise.{PromisedStep}
use Rattle.stage_laws.proofs.Promised.{each_promises}
use Rattle.script_machine.specs.Limits.{meets_limit}

-- ---- the limit

-- what a line may do that isn't the end, by whether too much was met
abbrev ByLimit : Played → Option Command → Outcome Played → Bool → Type 0
ByLimit w o outcome full = MatchBool full (outcome ≡ Exceeds) (MayDo w o outcome)

doing : (w : Played) (c : Command) (outcome : Outcome Played) → false ≡ meets_limit w c → MayDo w (Some c) outcome → MayDoFirst w (Some c) outcome
doing w command.End outcome few does = does
doing w c outcome few does = subst (ByLimit w (Some c) outcome) few does

-- where the limit isn't met the line does what its command does
first_done : (c : Command) (before after : WorldState) (meets : Bool) (how : Taken) → meets ≡ false → ((w : Played) → RepresentsWorld before w → meets ≡ meets_limit w c)
    → LineDoes (λ w outcome. MayDo w (Some c) outcome) before how after → LineDoes (λ w outcome. MayDoFirst w (Some c) outcome) before how after
first_done c before after meets (taken.Went output) few is does w shows keeps =
    let goes = does w shows keeps in
    (goes.0, doing w c (Goes goes.0 output.items) (sym few ∙ is w shows) goes.1, goes.2)
first_done c before after meets taken.Ended few is does w shows keeps = doing w c Ends (sym few ∙ is w shows) (does w shows keeps)
first_done c before after meets taken.Refused few is does w shows keeps = doing w c Refuses (sym few ∙ is w shows) (does w shows keeps)
first_done c before after meets taken.Exceeded few is does w shows keeps = doing w c Exceeds (sym few ∙ is w shows) (does w shows keeps)

pub limit_not_met : {E : Type 0} (c : Command) (before after : WorldState) (meets : Bool) (result : Result Taken E) → meets ≡ false → ((w : Played) → RepresentsWorld before w → meets ≡ meets_limit w c)
    → IfOk result (λ how. LineDoes (λ w outcome. MayDo w (Some c) outcome) before how after) → IfOk result (λ how. LineDoes (λ w outcome. MayDoFirst w (Some c) outcome) before how after)
limit_not_met c before after meets (Ok how) few is does = first_done c before after meets how few is does
limit_not_met c before after meets (Err e) few is does = tt

-- ---- what the machine did, of what it may stand for

told_of : (Step : Played → Outcome Played → Type 0) (before after : WorldState) (how : Taken) → LineDoes Step before how after → (w : Played) → RepresentsWorld before w → KeepsAll w
    → (outcome : Outcome Played) × Step w outcome × IsSeenAs RepresentsWorld (outcome_told how after) outcome
told_of Step before after (taken.Went output) does w shows keeps = (let goes = does w shows keeps in (Goes goes.0 output.items, goes.1, (goes.2, refl)))
told_of Step before after taken.Ended does w shows keeps = (Ends, does w shows keeps, tt)
told_of Step before after taken.Refused does w shows keeps = (Refuses, does w shows keeps, tt)
told_of Step before after taken.Exceeded does w shows keeps = (Exceeds, does w shows keeps, tt)

-- what was done of a line's command is what the line does
pub taken_of : {E : Type 0} (result : Result Taken E) (before after : WorldState) (line : List ℕ) (o : Option Command) → o ≡ command_of line
    → IfOk result (λ how. LineDoes (λ w outcome. MayDoFirst w o outcome) before how after)
    → IfOk result (λ how. LineDoes (λ w outcome. IvyStep w line outcome) before how after)
taken_of (Ok how) before after line o is does = subst (λ (p : Option Command). LineDoes (λ w outcome. MayDoFirst w p outcome) before how after) is does
taken_of (Err e) before after line o is does = tt

-- and a line that does so does it with its promise, in each world that the machine may stand for
pub promised_of : {E : Type 0} (result : Result Taken E) (before after : WorldState) (line : List ℕ)
    → IfOk result (λ how. LineDoes (λ w outcome. IvyStep w line outcome) before how after)
    → IfOk result (λ how. (w : Played) → RepresentsWorld before w → KeepsAll w → (outcome : Outcome Played) × PromisedStep w line outcome × IsSeenAs RepresentsWorld (outcome_told how after) outcome)
promised_of (Ok how) before after line does = λ w shows keeps.
    let told = told_of (λ v outcome. IvyStep v line outcome) before after how does w shows keeps in
    (told.0, (told.1, each_promises w line told.0 keeps told.1), told.2)
promised_of (Err e) before after line does = tt
