-- Blocks that are refused.
use Rattle.std.proofs.Common.{ℕ, List, [], sym, ◌∙◌}
use Rattle.std.proofs.lemmas.List.{append-nil}
use Rattle.wire_model.specs.OneReading.{HasNoFront}
use Rattle.block_parts.specs.declared.fault.BlockFault.{BlockFault}
use Rattle.block_parts.specs.declared.fault.BlockFault.TheVariants.{Malformed, Memory}
use Rattle.log_records.specs.Reading.{Refuses, IsSpelled, RefusesWhole}

-- where nothing follows
no_whole : {A : Type 0} {Fits : A → Type 0} {spell : A → List ℕ} {bytes : List ℕ} → HasNoFront Fits spell bytes → (x : A) → IsSpelled Fits spell bytes x → ⊥
no_whole {spell} absent x f = absent.none x [] (record { fits = f.fits; spelled = f.spelled ∙ sym (append-nil (spell x)) })

-- a whole is refused as its part is
pub refused_whole : {A B : Type 0} {Fits : A → Type 0} {spell : A → List ℕ} {Whole : B → Type 0} {written : B → List ℕ} {bytes middle : List ℕ}
    → (HasNoFront Fits spell middle → HasNoFront Whole written bytes) → (fault : BlockFault) → Refuses Fits spell middle fault → RefusesWhole Whole written bytes fault
refused_whole absent Malformed f = no_whole (absent f)
refused_whole absent Memory f = tt
