-- What a save leaves of a keeper in memory. `Keeper` asks this of each kind of keepers, so the proofs stand here and not in proofs/.
use Rattle.std.proofs.Common.{◌≡◌, ◌⊎◌, ℕ, Bool, true, false, List, Option, Some, None, is_some, inl, inr, refl, rules}
use Rattle.ivy_io.specs.Causes.{counted}
use Rattle.ivy_io.specs.Keepers.{KeeperState, KeepsAfter, after_planned, after_save, after_try, next_save_fails, planned_next}

planned_counts : (plan : Option Bool) (k : KeeperState) (bytes : List ℕ)
    → (after_planned plan k bytes).faults ≡ after_try (is_some plan) k.faults
planned_counts None k bytes = refl
planned_counts (Some new) k bytes = refl

planned_keeps : (plan : Option Bool) (k : KeeperState) (bytes : List ℕ)
    → KeepsAfter (Some k.kept) bytes (is_some plan) (Some (after_planned plan k bytes).kept)
planned_keeps None k bytes = refl
planned_keeps (Some true) k bytes = inl refl
planned_keeps (Some false) k bytes = inr refl

module _ (before after : KeeperState) (bytes : List ℕ) (fails : Bool)
    (saved : (fails ≡ next_save_fails before) × (after ≡ after_save before bytes)) where
  pub memory_counts : after.faults ≡ after_try fails before.faults
  memory_counts = rw (saved.0, saved.1) (planned_counts (planned_next before) before bytes)

  pub memory_keeps : KeepsAfter (Some before.kept) bytes fails (Some after.kept)
  memory_keeps = rw (saved.0, saved.1) (planned_keeps (planned_next before) before bytes)
