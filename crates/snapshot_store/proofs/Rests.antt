-- What closing the names that are left comes to.
use Rattle.std.proofs.Common.{◌≡◌, ℕ, Bool, true, false, List, [], ◌∷◌, ◌++◌, length, ap, ◌∙◌}
use Rattle.std.specs.Prelude.{◌==◌}
use Rattle.ivy_base.specs.declared.key.Key.{Key}
use Rattle.snapshot_store.specs.Levels.{Closes, ClosesRest}

pub closes_rest : (level : ℕ) (names above above_then : List Key) (before after : List (List ℕ)) (key : Key) → (length names == 0) ≡ false → Closes level names before after key → above_then ≡ above ++ key ∷ []
    → ClosesRest level names above before above_then after
closes_rest level [] above above_then before after key some c e = absurd (cc some)
closes_rest level (n ∷ ns) above above_then before after key some c e = (e ∙ ap (λ (k : Key). above ++ k ∷ []) c.named, c.blocks)
