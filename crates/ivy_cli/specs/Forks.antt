-- What is told of a fork proof in hexadecimal digits.
use Rattle.std.specs.Prelude.{◌≡◌, ◌⊎◌, ◌≤◌, ℕ, List, ◌++◌, codes, Option, Some, None}
use Rattle.std.specs.Fmt.{decimal}
use Rattle.hex.specs.Hex.{encode_lower}
use Rattle.ivy_io.specs.Causes.{Rose}
use Rattle.ivy_io.specs.Known.{then}
use Rattle.script_driver.specs.Run.{Ran, Ended, RefusedAt, refused}
use Rattle.script_driver.specs.Told.{ran_of, TellsAll, TellsFront, TellsLess}
use Rattle.fork_proof.specs.declared.checking.Forked.{Forked}
use Rattle.fork_proof.specs.Checks.{ShowsFork}
use Rattle.ivy_cli.specs.ProofLines.{bytes_of, most_read, TakesUpTo}
use Rattle.ivy_play.specs.Status.{status_of}
use Rattle.ivy_cli.specs.Streams.{Streams}

-- the log's head key, and the numbers of its heads, the smaller one first
abbrev pub forked_text : Forked → List ℕ
forked_text forked = codes "forked " ++ encode_lower forked.log.0 ++ codes " " ++ decimal forked.low ++ codes " " ++ decimal forked.high
    ++ codes "\n"

-- the fork that the bytes show, or that they show none
abbrev pub Tells : List ℕ → List ℕ → Type 0
Tells bytes text =
    ((forked : Forked) × ShowsFork bytes forked × (text ≡ forked_text forked))
    ⊎ (((forked : Forked) → ShowsFork bytes forked → ⊥) × (text ≡ codes "no proof\n"))

-- what comes of the bytes that an input is: they are told of. An input that is none is refused
abbrev pub Judges : Option (List ℕ) → Ran → Type 0
Judges None ran = ran ≡ refused 1
Judges (Some bytes) ran = Tells bytes ran.text × (ran.ending ≡ Ended)

-- what comes of all that a source has left
abbrev pub fork_runs : Option (List ℕ) → Ran → Type 0
fork_runs None ran = Unit {0}
fork_runs (Some input) ran = Judges (bytes_of input) ran

-- what comes of an input of which that is told; where there is nothing to tell it is refused
abbrev pub run_told : Option (List ℕ) → Ran
run_told None = refused 1
run_told (Some text) = ran_of text Ended

-- The check of a fork proof in digits ended with this status, and left the source and the sink so.
pub record IsFork (status : ℕ) (before after : Streams) : Type 0 where
  pub statuses : (status ≡ 0) ⊎ (status ≡ 3) ⊎ (status ≡ 4) ⊎ (status ≡ 5) ⊎ (status ≡ 6)
  -- 0: the input is a line of digits, and what their bytes show was told
  pub ended : status ≡ 0 → TellsAll Ended (fork_runs before.left) before.held after.held
  -- 3: the input is no such line, and that was told
  pub refused : status ≡ 3 → TellsAll (RefusedAt 1) (fork_runs before.left) before.held after.held
  -- 4: only where the source's count rose, and then nothing was reported
  pub read_fault : status ≡ 4 → Rose before.reads after.reads
  pub untold : status ≡ 4 → after.held ≡ before.held
  -- 5: only where the sink's count rose, and then less than all was reported
  pub write_fault : status ≡ 5 → Rose before.writes after.writes
  pub less : status ≡ 5 → TellsLess (fork_runs before.left) before.held after.held
  -- in each case nothing was reported, or a front of what is to be told
  pub front : (after.held ≡ before.held) ⊎ TellsFront (fork_runs before.left) before.held after.held
  -- where no count rose, all was reported, or memory ran out
  pub complete : ¬ Rose before.reads after.reads → ¬ Rose before.writes after.writes
      → ((ran : Ran) × fork_runs before.left ran × (status ≡ status_of ran.ending) × (after.held ≡ then before.held ran.text))
      ⊎ (status ≡ 6)
  pub takes : TakesUpTo most_read before.left after.left
  pub reads : before.reads ≤ after.reads
  pub writes : before.writes ≤ after.writes
