-- Blocks that were read are one forest.
use Rattle.std.proofs.Common.{◌≡◌, ℕ, List, [], ◌∷◌, ◌++◌, refl, sym, ap, ◌∙◌, subst, append_assoc}
use Rattle.ivy_base.specs.declared.key.Key.{Key}
use Rattle.ivy_base.specs.Naming.{name}
use Rattle.snapshot_model.specs.Spelling.{Made}
use Rattle.snapshot_model.specs.Reading.{SnapshotPart, NamesParts}
use Rattle.snapshot_model.proofs.OneNames.{names_are_unique}
use Rattle.snapshot_model.proofs.MadeLists.{readings}
use Rattle.snapshot_loading.specs.Forests.{Forest, nothing, block, named_in, mades, Fits}

-- the same blocks, and the same after them
pub record AreSame (f g : Forest) (rest others : List (List ℕ)) : Type 0 where
  pub forests : f ≡ g
  pub behind : rest ≡ others

reading_of : (bytes : List ℕ) (below beside : Forest) (part : SnapshotPart) (rest : List (List ℕ)) → readings (mades (block part bytes below beside)) ++ rest ≡ bytes ∷ readings (mades below) ++ (readings (mades beside) ++ rest)
reading_of bytes below beside part rest = ap (λ (l : List (List ℕ)). bytes ∷ l) (append_assoc (readings (mades below)) (readings (mades beside)) rest)

-- what is to be the same parts, and reads the same, is the same
pub same : (f g : Forest) → Fits f → Fits g → named_in f ≡ named_in g → (rest others : List (List ℕ)) → readings (mades f) ++ rest ≡ readings (mades g) ++ others → AreSame f g rest others
same nothing nothing h k e rest others r = record { forests = refl; behind = r }
same nothing (block part bytes below beside) h k e rest others r = cc
same (block part bytes below beside) nothing h k e rest others r = cc
same (block part bytes below beside) (block part' bytes' below' beside') h k e rest others r =
    let head : ◌≡◌ {A = SnapshotPart × Key} (part, name bytes) (part', name bytes') = cc in
    let tail : named_in beside ≡ named_in beside' = cc in
    let parts : part ≡ part' = ap (λ (p : SnapshotPart × Key). p.0) head in
    let all : bytes ∷ readings (mades below) ++ (readings (mades beside) ++ rest) ≡ bytes' ∷ readings (mades below') ++ (readings (mades beside') ++ others) =
    sym (reading_of bytes below beside part rest) ∙ r ∙ reading_of bytes' below' beside' part' others in
    let first : bytes ≡ bytes' = cc in
    let behind : readings (mades below) ++ (readings (mades beside) ++ rest) ≡ readings (mades below') ++ (readings (mades beside') ++ others) = cc in
    let names : named_in below ≡ named_in below' = names_are_unique part' bytes' (named_in below) (named_in below')
    (subst (λ (b : List ℕ). NamesParts part' b (named_in below)) first (subst (λ (p : SnapshotPart). NamesParts p bytes (named_in below)) parts h.0)) k.0 in
    let under = same below below' h.1 k.1 names (readings (mades beside) ++ rest) (readings (mades beside') ++ others) behind in
    let next = same beside beside' h.2 k.2 tail rest others under.behind in
    record { forests = rw (parts, first, under.forests, next.forests) refl; behind = next.behind }

pub same_forest : (f g : Forest) → Fits f → Fits g → named_in f ≡ named_in g → mades f ≡ mades g → f ≡ g
same_forest f g h k e m = (same f g h k e [] [] (ap (λ (ms : List Made). readings ms ++ []) m)).forests
