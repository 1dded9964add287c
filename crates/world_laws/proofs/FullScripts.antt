-- Each script has one run in which memory never runs out, or names clash on the way.
use Rattle.std.proofs.Common.{◌⊎◌, inl, inr, ℕ, ◌+◌, List, [], ◌∷◌, ◌++◌, refl, ap}
use Rattle.ivy_base.specs.Naming.{HasClash}
use Rattle.script_driver.specs.Run.{Outcome, Goes, Ends, Refuses, Exceeds, Obeys, Ran, Runs, WithLaw, behind, ended_run, limited, refused, shown}
use Rattle.world_model.specs.Logs.{Played}
use Rattle.world_model.specs.Step.{IvyStep}
use Rattle.world_model.specs.GhostState.{empty_ghost_state}
use Rattle.world_model.specs.World.{empty_world, named_bytes}
use Rattle.world_laws.specs.FullRuns.{Clashes, ClashesOn, FullScripts, FullStarts, HasBytes, PublishFew}
use Rattle.world_laws.specs.Invariant.{Invariant}
use Rattle.world_laws.specs.Laws.{HadMemory}
use Rattle.world_laws.proofs.BytesLines.{bytes_come, empty_has_bytes}
use Rattle.world_laws.proofs.EachLine.{each_line_keeps}
use Rattle.world_laws.proofs.FirstWorld.{empty_keeps}
use Rattle.world_laws.proofs.FullLines.{full_lines}
use Rattle.world_laws.proofs.OneLines.{full_runs_are_unique}
use Rattle.world_laws.proofs.Rooms.{empty_publishes_few, few_posts_come, there_is_room}

abbrev HasRun : Played → ℕ → List (List ℕ) → Type 0
HasRun w number lines = (ran : Ran) × Runs (WithLaw IvyStep HadMemory) w number lines ran

-- the first line leads to where names clash
clashes_first : (w next : Played) (line : List ℕ) (lines : List (List ℕ)) (output : List ℕ) → IvyStep w (shown line) (Goes next output) → HasClash (named_bytes next.0) → ClashesOn w (line ∷ lines)
unfolding Obeys
clashes_first w next line lines output step clash = record {
  front = [];
  line = line;
  rest = lines;
  are = refl;
  text = [];
  mid = w;
  obeyed = (refl, refl);
  last = next;
  output = output;
  step = step;
  clash = clash;
}

-- or a later one does
clashes_later : (w next : Played) (line : List ℕ) (lines : List (List ℕ)) (output : List ℕ) → WithLaw IvyStep HadMemory w (shown line) (Goes next output) → ClashesOn next lines → ClashesOn w (line ∷ lines)
unfolding Obeys
clashes_later w next line lines output step later = record {
  front = line ∷ later.front;
  line = later.line;
  rest = later.rest;
  are = ap (λ (ls : List (List ℕ)). line ∷ ls) later.are;
  text = output ++ later.text;
  mid = later.mid;
  obeyed = (next, output, later.text, step, later.obeyed, refl);
  last = later.last;
  output = later.output;
  step = later.step;
  clash = later.clash;
}

runs_or_clashes : (w : Played) (number : ℕ) (lines : List (List ℕ)) → Invariant w → PublishFew w.0 → HasBytes w.0 → HasRun w number lines ⊎ ClashesOn w lines
unfolding Runs
runs_or_clashes w number [] keeps few bytes = inl (refused number, refl)
runs_or_clashes w number (line ∷ lines) keeps few bytes =
    let some = full_lines w (shown line) keeps (there_is_room w keeps few) bytes in
    after some.0 some.1 some.2 (λ next output step memory.
    runs_or_clashes next (number + 1) lines (each_line_keeps w next (shown line) output keeps step) (few_posts_come w next (shown line) output keeps few step) (bytes_come w next (shown line) output keeps bytes memory.1 step))
  where
    after : (outcome : Outcome Played) → IvyStep w (shown line) outcome → HadMemory w (shown line) outcome ⊎ Clashes outcome
        → ((next : Played) (output : List ℕ) → IvyStep w (shown line) (Goes next output) → HadMemory w (shown line) (Goes next output) → HasRun next (number + 1) lines ⊎ ClashesOn next lines) → HasRun w number (line ∷ lines) ⊎ ClashesOn w (line ∷ lines)
    after (Goes next output) step (inr clash) later = inr (clashes_first w next line lines output step clash)
    after (Goes next output) step (inl memory) later = elim (later next output step memory) [
      | inl runs ↦ inl (behind output runs.0, (Goes next output, (step, memory), (runs.0, runs.1, refl)))
      | inr clashes ↦ inr (clashes_later w next line lines output (step, memory) clashes)
    ]
    after Ends step how later = inl (ended_run, (Ends, (step, tt), refl))
    after Refuses step how later = inl (refused number, (Refuses, (step, tt), refl))
    after Exceeds step how later = inl (limited number, (Exceeds, (step, tt), refl))

pub full_scripts : FullScripts
full_scripts w number lines keeps few bytes = elim (runs_or_clashes w number lines keeps few bytes) [
  | inl runs ↦ inl (runs.0, (runs.1, λ other also. full_runs_are_unique w number lines other runs.0 keeps also runs.1))
  | inr clashes ↦ inr clashes
]

pub full_starts : FullStarts
full_starts number lines = full_scripts (empty_world, empty_ghost_state) number lines empty_keeps empty_publishes_few empty_has_bytes
