-- Parts of a block that are refused, and blocks that end with their value.
use Rattle.std.proofs.Common.{◌≡◌, ℕ, List, [], ◌++◌, sym, ap, ◌∙◌}
use Rattle.std.specs.Prelude.{◌≢◌}
use Rattle.std.proofs.lemmas.List.{append-nil}
use Rattle.wire_model.specs.OneReading.{ReadsOne, IsFront, HasNoFront}
use Rattle.snapshot_model.specs.Blocks.{Says}
use Rattle.block_parts.specs.declared.fault.BlockFault.{BlockFault}
use Rattle.block_parts.specs.declared.fault.BlockFault.TheVariants.{Malformed, Memory}
use Rattle.snapshot_blocks.specs.Refusals.{SaysNothing, Refuses, RefusesFront}

-- what is at the front is the whole where nothing follows
pub says_whole : {A : Type 0} {Fits : A → Type 0} {spell : A → List ℕ} {bytes rest : List ℕ} {x : A} → IsFront Fits spell bytes x rest → rest ≡ [] → Says Fits spell bytes x
says_whole {spell} {x} f e = record { fits = f.fits; spelled = f.spelled ∙ ap (λ (s : List ℕ). spell x ++ s) e ∙ append-nil (spell x) }

pub says_nothing : {A : Type 0} {Fits : A → Type 0} {spell : A → List ℕ} {bytes : List ℕ} → HasNoFront Fits spell bytes → SaysNothing Fits spell bytes
says_nothing {spell} absent x f = absent.none x [] (record { fits = f.fits; spelled = f.spelled ∙ sym (append-nil (spell x)) })

pub more_behind : {A : Type 0} {Fits : A → Type 0} {spell : A → List ℕ} {bytes rest : List ℕ} {x : A} → ReadsOne Fits spell → IsFront Fits spell bytes x rest → rest ≢ [] → SaysNothing Fits spell bytes
more_behind {spell} {rest} {x} reads f more y g = more (reads.one x y rest [] f.fits g.fits (sym f.spelled ∙ g.spelled ∙ sym (append-nil (spell y)))).1

-- one part is refused as another one is
pub refused : {A B : Type 0} {Fits : A → Type 0} {spell : A → List ℕ} {Whole : B → Type 0} {written : B → List ℕ} {bytes middle : List ℕ}
    → (HasNoFront Fits spell middle → HasNoFront Whole written bytes) → (fault : BlockFault) → RefusesFront Fits spell middle fault → RefusesFront Whole written bytes fault
refused absent Malformed f = absent f
refused absent Memory f = tt

pub refused_whole : {A B : Type 0} {Fits : A → Type 0} {spell : A → List ℕ} {Whole : B → Type 0} {written : B → List ℕ} {bytes middle : List ℕ}
    → (HasNoFront Fits spell middle → SaysNothing Whole written bytes) → (fault : BlockFault) → RefusesFront Fits spell middle fault → Refuses Whole written bytes fault
refused_whole absent Malformed f = absent f
refused_whole absent Memory f = tt

-- fewer values say nothing where more say nothing, and where the one that is said doesn't fit
pub fewer_say_nothing : {A : Type 0} {Fits Fewer : A → Type 0} {spell : A → List ℕ} {bytes : List ℕ} → ((x : A) → Fewer x → Fits x) → SaysNothing Fits spell bytes → SaysNothing Fewer spell bytes
fewer_say_nothing weaker none x f = none x (record { fits = weaker x f.fits; spelled = f.spelled })

pub misfit_says_nothing : {A : Type 0} {Fits Fewer : A → Type 0} {spell : A → List ℕ} {bytes : List ℕ} {x : A} → ReadsOne Fits spell → Says Fits spell bytes x
    → ((y : A) → Fewer y → Fits y) → (Fewer x → ⊥) → SaysNothing Fewer spell bytes
misfit_says_nothing {Fewer = Fewer} {spell = spell} {x = x} reads f weaker misfit y g =
    let same : x ≡ y = (reads.one x y [] [] f.fits (weaker y g.fits) (append-nil (spell x) ∙ (sym f.spelled ∙ g.spelled) ∙ sym (append-nil (spell y)))).0 in
    misfit (rw same g.fits)
