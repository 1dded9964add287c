-- Keepers: what is kept, and which saves fail.
use Rattle.std.specs.Prelude.{◌≡◌, ◌⊎◌, ◌+◌, ◌==◌, ℕ, Bool, true, false, List, [], ◌∷◌, find, MatchResult, Result, Ok, Err, Some, None}
use Rattle.std.specs.Prelude.{is_some, if◌then◌else◌}
use Rattle.std.specs.Option.{option_map, option_map_or}
use Rattle.std.specs.declared.option.Option.{Option}
use Rattle.ivy_io.specs.Causes.{counted}
use Rattle.ivy_io.specs.declared.fault.KeepFault.{KeepFault}
use Rattle.ivy_io.specs.declared.fault.KeepFault.TheVariants as fault
use Rattle.ivy_io.specs.declared.mem_keeper.Planned.{Planned}

-- ---- saving, and giving back

-- the save left the keeper so, by whether it failed
abbrev pub SaveIs : {K E : Type 0} → (Bool → K → Type 0) → K → Result Unit E → Type 0
SaveIs leaves new result = MatchResult result (λ _. leaves false new) (λ _. leaves true new)

-- where it is known what is kept: the new bytes are, or, after a fault, the old ones may be
abbrev pub SaveReplaces : {E : Type 0} → Option (Option (List ℕ)) → Option (Option (List ℕ)) → List ℕ → Result Unit E → Type 0
SaveReplaces None new bytes result = new ≡ None
SaveReplaces (Some old) new bytes result =
    MatchResult result (λ _. new ≡ Some (Some bytes)) (λ _. (new ≡ Some (Some bytes)) ⊎ (new ≡ Some old))

-- the count rises exactly where the save fails
abbrev pub SaveCounts : {E : Type 0} → ℕ → ℕ → Result Unit E → Type 0
SaveCounts old new result = MatchResult result (λ _. new ≡ old) (λ _. new ≡ counted old)

-- the count after a save, by whether it failed
abbrev pub after_try : Bool → ℕ → ℕ
after_try fails faults = if fails then counted faults else faults

-- where it is known what was kept: the new bytes are, or, where the save failed, the old ones may be
abbrev pub KeepsAfter : Option (Option (List ℕ)) → List ℕ → Bool → Option (Option (List ℕ)) → Type 0
KeepsAfter None bytes fails new = new ≡ None
KeepsAfter (Some old) bytes false new = new ≡ Some (Some bytes)
KeepsAfter (Some old) bytes true new = (new ≡ Some (Some bytes)) ⊎ (new ≡ Some old)

-- these bytes may be given, or that refusal, where it is known what is kept
abbrev pub GivesKept : Option (Option (List ℕ)) → Result (List ℕ) KeepFault → Type 0
GivesKept None result = Unit {0}
GivesKept (Some kept) (Ok bytes) = kept ≡ Some bytes
GivesKept (Some kept) (Err fault.Nothing) = kept ≡ None
GivesKept (Some kept) (Err fault.Failed) = Unit {0}
GivesKept (Some kept) (Err fault.Memory) = kept ≡ None → ⊥

abbrev pub LoadGives : Option (Option (List ℕ)) → Option (Option (List ℕ)) → Result (List ℕ) KeepFault → Type 0
LoadGives old new result = (new ≡ old) × GivesKept old result

-- the count rises exactly where the keeper failed
abbrev pub LoadCounts : ℕ → ℕ → Result (List ℕ) KeepFault → Type 0
LoadCounts old new (Err fault.Failed) = new ≡ counted old
LoadCounts old new _ = new ≡ old

-- ---- keepers in memory

-- What a keeper in memory keeps; how many saves there were (a count that reached 2^64 - 1 stays there); which of them fail, by their
-- numbers, and whether each of these leaves the new bytes, the newest plan first; and how many have failed.
pub record KeeperState : Type 0 where
  pub kept : Option (List ℕ)
  pub saves : ℕ
  pub failing : List Planned
  pub faults : ℕ

abbrev pub fresh_keeper_state : KeeperState
fresh_keeper_state = record { kept = None; saves = 0; failing = []; faults = 0 }

-- what is planned for the save of that number: None where it succeeds, else whether it leaves the new bytes
abbrev pub planned : ℕ → List Planned → Option Bool
planned number failing = option_map (λ f. f.new) (find (λ f. f.number == number) failing)

abbrev pub planned_next : KeeperState → Option Bool
planned_next k = planned (counted k.saves) k.failing

-- the next save fails
abbrev pub next_save_fails : KeeperState → Bool
next_save_fails k = is_some (planned_next k)

-- the keeper after a save, by what was planned for it
abbrev pub after_planned : Option Bool → KeeperState → List ℕ → KeeperState
after_planned None k bytes = record { kept = Some bytes; saves = counted k.saves; failing = k.failing; faults = k.faults }
after_planned (Some new) k bytes =
    record { kept = (if new then Some bytes else k.kept); saves = counted k.saves; failing = k.failing; faults = counted k.faults }

abbrev pub after_save : KeeperState → List ℕ → KeeperState
after_save k bytes = after_planned (planned_next k) k bytes

-- the save of that number is to fail; of two plans for one save the later counts
abbrev pub with_planned_fault : KeeperState → ℕ → Bool → KeeperState
with_planned_fault k number new = record k { failing = record { number = number; new = new } ∷ k.failing }

-- counted from now on, the next save being 1 and 0 naming none
abbrev pub with_plan : KeeperState → ℕ → Bool → KeeperState
with_plan k call new = if call == 0 then k else with_planned_fault k (k.saves + call) new
