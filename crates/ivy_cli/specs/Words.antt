-- The words of the command line: what they ask for, by their positions.
use Rattle.std.specs.Prelude.{◌≡◌, ℕ, ◌*◌, ◌≤◌, true, ◌^◌, ◌==◌, ◌&&◌, nat_le, List, [], ◌∷◌, ◌++◌, codes, Option, Some, None}
use Rattle.std.specs.Prelude.{if◌then◌else◌}
use Rattle.std.specs.Str.{bytes_eq}
use Rattle.hash_signature_model.specs.Saved.{AreLevels}
use Rattle.script_model.specs.Lines.{command_of}
use Rattle.script_model.specs.Words.{◌>>=◌, number_below}
use Rattle.script_model.specs.declared.command.Command.{Command}
use Rattle.script_model.specs.declared.command.Command.TheVariants as command
use Rattle.ivy_cli.specs.declared.words.Asked.{Asked}
use Rattle.ivy_cli.specs.declared.words.Asked.TheVariants as asked
use Rattle.ivy_cli.specs.declared.words.Participant.{Participant}

-- ---- each form, of the words after its first

abbrev pub play_of : List (List ℕ) → Option Asked
play_of [] = Some asked.Play
play_of _ = None

-- a seed is below 2^64, and there are at most 10,000 calls
abbrev pub load_of : List (List ℕ) → Option Asked
load_of (s ∷ c ∷ []) = do
  seed ← number_below (2 ^ 64) s
  calls ← number_below 10001 c
  Some (asked.Load seed calls)
load_of _ = None

-- 1 to 16 threads with so many calls each, which are at most 1,000 in all
abbrev pub crowd_of : List (List ℕ) → Option Asked
crowd_of (t ∷ c ∷ []) = do
  threads ← number_below (2 ^ 32) t
  calls ← number_below (2 ^ 32) c
  if nat_le 1 threads && nat_le threads 16 && nat_le (threads * calls) 1000 then Some (asked.Crowd threads calls) else None
crowd_of _ = None

-- a port is 1 to 65,535
abbrev pub port_of : List ℕ → Option ℕ
port_of word = do
  port ← number_below (2 ^ 16) word
  if port == 0 then None else Some port

-- the script's line `log NAME ID SEED SETS`
abbrev pub log_line : List ℕ → List ℕ → List ℕ → List ℕ → List ℕ
log_line name id seed sets = codes "log " ++ name ++ codes " " ++ id ++ codes " " ++ seed ++ codes " " ++ sets

-- the participant whose log a command begins
abbrev pub participant_of : Command → Option Participant
participant_of (command.Log name id seed sets) = Some (record { name = name; id = id; seed = seed; sets = sets })
participant_of _ = None

-- the last four words are as in the script's line
abbrev pub serve_of : List (List ℕ) → Option Asked
serve_of (p ∷ name ∷ id ∷ seed ∷ sets ∷ []) = do
  port ← port_of p
  begins ← command_of (log_line name id seed sets)
  participant ← participant_of begins
  Some (asked.Serve port participant)
serve_of _ = None

abbrev pub fork_of : List (List ℕ) → Option Asked
fork_of [] = Some asked.Fork
fork_of _ = None

-- ---- all words

-- the forms: `play`, `load SEED CALLS`, `crowd T CALLS`, `serve PORT NAME ID SEED SETS`, and `fork`
abbrev pub asked_of : List (List ℕ) → Option Asked
asked_of [] = None
asked_of (word ∷ words) =
    if bytes_eq word (codes "play") then play_of words
    else if bytes_eq word (codes "load") then load_of words
    else if bytes_eq word (codes "crowd") then crowd_of words
    else if bytes_eq word (codes "serve") then serve_of words
    else if bytes_eq word (codes "fork") then fork_of words
    else None

abbrev pub usage_line : List ℕ
usage_line = codes "usage: ivy play | load SEED CALLS | crowd T CALLS | serve PORT NAME ID SEED SETS | fork\n"

-- ---- what comes of the forms

-- so many threads may make so many calls each
pub record IsCrowdSize (threads calls : ℕ) : Type 0 where
  pub some : 1 ≤ threads
  pub few : threads ≤ 16
  pub all : threads * calls ≤ 1000

-- the sizes that are asked for are within their limits
abbrev pub Fits : Option Asked → Type 0
Fits (Some (asked.Crowd threads calls)) = IsCrowdSize threads calls
Fits (Some (asked.Serve port participant)) = AreLevels participant.sets
Fits _ = Unit {0}

-- the first word is `serve`
abbrev pub AskService : List (List ℕ) → Type 0
AskService [] = ⊥
AskService (word ∷ words) = bytes_eq word (codes "serve") ≡ true
