-- Each run is one in which memory was always there, or tells where it wasn't.
use Rattle.std.proofs.Common.{◌≡◌, ◌⊎◌, inl, inr, ℕ, ◌+◌, List, [], ◌∷◌, ◌++◌, refl, sym, ap, ◌∙◌, arith, append_assoc}
use Rattle.script_driver.specs.Run.{Outcome, Goes, Ends, Refuses, Exceeds, RunFollows, Obeys, Ran, Runs, WithLaw, behind, shown}
use Rattle.world_model.specs.Logs.{Played}
use Rattle.world_model.specs.Step.{IvyStep}
use Rattle.world_laws.specs.Laws.{HadMemory}
use Rattle.world_laws.proofs.EachLine.{each_line_keeps}
use Rattle.world_laws.proofs.MemoryDecided.{memory_is_decided}
use Rattle.stage_laws.specs.FullRuns.{ComesTo, HasMemoryAlong, LacksOrClashes, RunComesTo, RunsTellOfMemory}

-- ---- where a run comes to

module _ (Law : Played → List ℕ → Outcome Played → Type 0) where
  comes_first : (w : Played) (line : List ℕ) (lines : List (List ℕ)) (outcome : Outcome Played) → IvyStep w (shown line) outcome → Law w (shown line) outcome → ComesTo Law w (line ∷ lines)
  unfolding Obeys
  comes_first w line lines outcome step is = record {
    front = [];
    line = line;
    rest = lines;
    are = refl;
    text = [];
    mid = w;
    obeyed = (refl, refl);
    outcome = outcome;
    step = step;
    is = is;
  }

  comes_later : (w next : Played) (line : List ℕ) (lines : List (List ℕ)) (output : List ℕ) → WithLaw IvyStep HadMemory w (shown line) (Goes next output) → ComesTo Law next lines → ComesTo Law w (line ∷ lines)
  unfolding Obeys
  comes_later w next line lines output step later = record {
    front = line ∷ later.front;
    line = later.line;
    rest = later.rest;
    are = ap (λ (ls : List (List ℕ)). line ∷ ls) later.are;
    text = output ++ later.text;
    mid = later.mid;
    obeyed = (next, output, later.text, step, later.obeyed, refl);
    outcome = later.outcome;
    step = later.step;
    is = later.is;
  }

  run_comes_first : (w : Played) (number : ℕ) (line : List ℕ) (lines : List (List ℕ)) (ran : Ran) (outcome : Outcome Played) → IvyStep w (shown line) outcome → Law w (shown line) outcome
      → RunFollows (λ next. Runs IvyStep next (number + 1) lines) number outcome ran → RunComesTo Law w number (line ∷ lines) ran
  unfolding comes_first
  run_comes_first w number line lines ran outcome step is follows = record {
    comes = comes_first w line lines outcome step is;
    place = number;
    place_is = omega arith;
    later = ran;
    follows = follows;
    ran_is = refl;
  }

  run_comes_later : (w next : Played) (number : ℕ) (line : List ℕ) (lines : List (List ℕ)) (output : List ℕ) (ran later : Ran) → WithLaw IvyStep HadMemory w (shown line) (Goes next output)
      → ran ≡ behind output later → RunComesTo Law next (number + 1) lines later → RunComesTo Law w number (line ∷ lines) ran
  unfolding comes_later
  run_comes_later w next number line lines output ran later step is comes = record {
    comes = comes_later w next line lines output step comes.comes;
    place = comes.place;
    place_is = (let at = comes.place_is in omega (arith, at));
    later = comes.later;
    follows = comes.follows;
    ran_is = is ∙ ap (behind output) comes.ran_is ∙ (λ i. record { text = (sym (append_assoc output comes.comes.text comes.later.text)) i; ending = comes.later.ending });
  }

-- ---- runs

pub runs_tell_of_memory : RunsTellOfMemory
unfolding Runs
runs_tell_of_memory w number [] ran keeps runs = inl runs
runs_tell_of_memory w number (line ∷ lines) ran keeps runs =
    after runs.0 runs.1 runs.2 (memory_is_decided w (shown line) runs.0 keeps runs.1)
    (λ next output step later more. runs_tell_of_memory next (number + 1) lines later (each_line_keeps w next (shown line) output keeps step) more)
  where
    after : (outcome : Outcome Played) → IvyStep w (shown line) outcome → RunFollows (λ next. Runs IvyStep next (number + 1) lines) number outcome ran → HadMemory w (shown line) outcome ⊎ LacksOrClashes w (shown line) outcome
        → ((next : Played) (output : List ℕ) → IvyStep w (shown line) (Goes next output) → (later : Ran) → Runs IvyStep next (number + 1) lines later → HasMemoryAlong next (number + 1) lines later ⊎ RunComesTo LacksOrClashes next (number + 1) lines later)
        → HasMemoryAlong w number (line ∷ lines) ran ⊎ RunComesTo LacksOrClashes w number (line ∷ lines) ran
    after outcome step follows (inr lacks) more = inr (run_comes_first LacksOrClashes w number line lines ran outcome step lacks follows)
    after (Goes next output) step follows (inl memory) more = elim (more next output step follows.0 follows.1) [
      | inl sure ↦ inl (Goes next output, (step, memory), (follows.0, sure, follows.2))
      | inr comes ↦ inr (run_comes_later LacksOrClashes w next number line lines output ran follows.0 (step, memory) follows.2 comes)
    ]
    after Ends step follows (inl memory) more = inl (Ends, (step, tt), follows)
    after Refuses step follows (inl memory) more = inl (Refuses, (step, tt), follows)
    after Exceeds step follows (inl memory) more = inl (Exceeds, (step, tt), follows)
