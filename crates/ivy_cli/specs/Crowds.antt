-- What a crowd tells its sink.
use Rattle.std.specs.Prelude.{◌≡◌, ◌≢◌, ◌⊎◌, ◌<◌, ◌≤◌, ℕ, List, ◌++◌, codes, length, take, Option}
use Rattle.std.specs.Fmt.{decimal}
use Rattle.hex.specs.Hex.{encode_lower}
use Rattle.ivy_io.specs.Causes.{Rose}
use Rattle.ivy_io.specs.Known.{then}
use Rattle.ivy_crowd.specs.Crowds.{Asked, HasCome}
use Rattle.ivy_crowd.specs.declared.tally.Tally.{Tally}

-- the four lines of a tally: `turns N`, `files M`, `last NAME` with the name's 40 digits, and `stored S`
abbrev pub tally_text : Tally → List ℕ
tally_text tally =
    codes "turns " ++ decimal tally.turns ++ codes "\nfiles " ++ decimal tally.files
    ++ codes "\nlast " ++ encode_lower tally.last.0 ++ codes "\nstored " ++ decimal tally.stored ++ codes "\n"

-- a text of which the sink is told: the lines of what the crowd came to
pub record IsTold {C : Type 0} (asked : Asked C) (text : List ℕ) : Type 0 where
  pub tally : Tally
  pub has_come : HasCome asked tally
  pub lines : text ≡ tally_text tally

-- a crowd ended with this status, and left the sink and its count of faults so
pub record IsCrowd {C : Type 0} (asked : Asked C) (status : ℕ) (held holds : Option (List ℕ)) (wrote writes : ℕ) : Type 0 where
  pub statuses : (status ≡ 0) ⊎ (status ≡ 5) ⊎ (status ≡ 6)
  -- 0: all lines were reported
  pub ended : status ≡ 0 → (text : List ℕ) × IsTold asked text × (holds ≡ then held text)
  -- 5: only where the sink's count rose
  pub write_fault : status ≡ 5 → Rose wrote writes
  -- 5 and 6: nothing was reported, or less than all lines
  pub less : status ≢ 0 → (holds ≡ held)
      ⊎ ((text : List ℕ) × IsTold asked text × (k : ℕ) × (k < length text) × (holds ≡ then held (take k text)))
  pub later : wrote ≤ writes
