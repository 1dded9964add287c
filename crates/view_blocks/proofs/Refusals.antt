-- A view that may be made fails no test, and what fails has one fault.
use Rattle.std.proofs.Common.{◌≡◌, ◌≢◌, ℕ, ◌<◌, ◌≤◌, ◌⊎◌, inl, inr, true, List, [], ◌++◌, length, refl, sym, ap, ◌∙◌, subst, arith}
use Rattle.log_model.specs.View.{View, IsView, view_block, have_own_head_keys, most_members, most_former}
use Rattle.log_model.specs.ViewKeys.{HasKeys}
use Rattle.view_blocks.specs.declared.fault.ViewFault.{ViewFault}
use Rattle.view_blocks.specs.declared.fault.ViewFault.TheVariants.{Malformed, NoMember, TooMany, Order, Overlap, Memory}
use Rattle.view_blocks.specs.Faults.{FitsBlock, HasFewKeys, FailsAs, BlockFailsAs}
use Rattle.view_blocks.specs.Laws.{LegalViewsPass, FaultsAreUnique}
use Rattle.view_blocks.proofs.OneView.{fits_block, one_view_of_block}

some_members : (view : View) → IsView view → view.members ≢ []
some_members view legal e = let some : 1 ≤ length view.members = legal.some in let none : length view.members ≡ 0 = ap length e in omega arith

too_many : (m f : ℕ) → m ≤ most_members → f ≤ most_former → (most_members < m) ⊎ (most_former < f) → ⊥
too_many m f p q (inl h) = omega arith
too_many m f p q (inr h) = omega arith

pub legal_passes : (view : View) (fault : ViewFault) → IsView view → FailsAs view fault → fault ≡ Memory
legal_passes view Malformed legal h = absurd h
legal_passes view NoMember legal h = absurd (some_members view legal h)
legal_passes view TooMany legal h = absurd (too_many (length view.members) (length view.former) legal.few legal.few_former h.1)
legal_passes view Order legal h = absurd (h.1 (record { members = legal.members_ascend; former = legal.former_ascend }))
legal_passes view Overlap legal h = let e : have_own_head_keys (view.members ++ view.former) ≡ true = legal.apart in let f = h.2 in cc
legal_passes view Memory legal h = refl

-- ---- one fault

few_contradicts : (view : View) → HasFewKeys view → (most_members < length view.members) ⊎ (most_former < length view.former) → ⊥
few_contradicts view few h = too_many (length view.members) (length view.former) few.few few.few_former h

pub one_fault : (view : View) (f g : ViewFault) → f ≢ Memory → g ≢ Memory → FailsAs view f → FailsAs view g → f ≡ g
one_fault view Malformed g m n h k = absurd h
one_fault view f Malformed m n h k = absurd k
one_fault view Memory g m n h k = absurd (m refl)
one_fault view f Memory m n h k = absurd (n refl)
one_fault view NoMember NoMember m n h k = refl
one_fault view NoMember TooMany m n h k = absurd (k.0 h)
one_fault view NoMember Order m n h k = absurd (k.0.some h)
one_fault view NoMember Overlap m n h k = absurd (k.0.some h)
one_fault view TooMany NoMember m n h k = absurd (h.0 k)
one_fault view TooMany TooMany m n h k = refl
one_fault view TooMany Order m n h k = absurd (few_contradicts view k.0 h.1)
one_fault view TooMany Overlap m n h k = absurd (few_contradicts view k.0 h.1)
one_fault view Order NoMember m n h k = absurd (h.0.some k)
one_fault view Order TooMany m n h k = absurd (few_contradicts view h.0 k.1)
one_fault view Order Order m n h k = refl
one_fault view Order Overlap m n h k = absurd (h.1 k.1)
one_fault view Overlap NoMember m n h k = absurd (h.0.some k)
one_fault view Overlap TooMany m n h k = absurd (few_contradicts view h.0 k.1)
one_fault view Overlap Order m n h k = absurd (k.1 h.1)
one_fault view Overlap Overlap m n h k = refl

-- ---- of blocks

-- the fault of bytes that have a form is that of a view
pub record HasFaultOf (bytes : List ℕ) (fault : ViewFault) : Type 0 where
  pub view : View
  pub fits : FitsBlock view
  pub spelled : bytes ≡ view_block view
  pub fails : FailsAs view fault

block_cases : (bytes : List ℕ) (fault : ViewFault) → fault ≢ Memory → BlockFailsAs bytes fault → (fault ≡ Malformed) ⊎ HasFaultOf bytes fault
block_cases bytes Malformed m h = inl refl
block_cases bytes NoMember m h = inr (record { view = h.0; fits = h.1; spelled = h.2; fails = h.3 })
block_cases bytes TooMany m h = inr (record { view = h.0; fits = h.1; spelled = h.2; fails = h.3 })
block_cases bytes Order m h = inr (record { view = h.0; fits = h.1; spelled = h.2; fails = h.3 })
block_cases bytes Overlap m h = inr (record { view = h.0; fits = h.1; spelled = h.2; fails = h.3 })
block_cases bytes Memory m h = absurd (m refl)

no_form_contradicts : (bytes : List ℕ) (f g : ViewFault) → f ≡ Malformed → BlockFailsAs bytes f → HasFaultOf bytes g → ⊥
no_form_contradicts bytes f g e h k = let none = subst (λ (x : ViewFault). BlockFailsAs bytes x) e h in none k.view k.fits k.spelled

pub one_fault_of_bytes : (bytes : List ℕ) (f g : ViewFault) → f ≢ Memory → g ≢ Memory → BlockFailsAs bytes f → BlockFailsAs bytes g → f ≡ g
one_fault_of_bytes bytes f g m n h k = by (block_cases bytes f m h) (block_cases bytes g n k)
  where
    by : (f ≡ Malformed) ⊎ HasFaultOf bytes f → (g ≡ Malformed) ⊎ HasFaultOf bytes g → f ≡ g
    by (inl e) (inl d) = e ∙ sym d
    by (inl e) (inr q) = absurd (no_form_contradicts bytes f g e h q)
    by (inr p) (inl d) = absurd (no_form_contradicts bytes g f d k p)
    by (inr p) (inr q) =
        let same : p.view ≡ q.view = one_view_of_block p.view q.view p.fits q.fits (sym p.spelled ∙ q.spelled) in
        one_fault q.view f g m n (subst (λ (v : View). FailsAs v f) same p.fails) q.fails

block_of_view : (view : View) (fault : ViewFault) → FitsBlock view → HasFaultOf (view_block view) fault → FailsAs view fault
block_of_view view fault fits h = subst (λ (v : View). FailsAs v fault) (sym (one_view_of_block view h.view fits h.fits h.spelled)) h.fails

pub legal_block_passes : (view : View) (fault : ViewFault) → IsView view → HasKeys view → BlockFailsAs (view_block view) fault → fault ≡ Memory
legal_block_passes view Malformed legal keys h = absurd (h view (fits_block view legal keys) refl)
legal_block_passes view Memory legal keys h = refl
legal_block_passes view NoMember legal keys h = legal_passes view NoMember legal (block_of_view view NoMember (fits_block view legal keys) (record { view = h.0; fits = h.1; spelled = h.2; fails = h.3 }))
legal_block_passes view TooMany legal keys h = legal_passes view TooMany legal (block_of_view view TooMany (fits_block view legal keys) (record { view = h.0; fits = h.1; spelled = h.2; fails = h.3 }))
legal_block_passes view Order legal keys h = legal_passes view Order legal (block_of_view view Order (fits_block view legal keys) (record { view = h.0; fits = h.1; spelled = h.2; fails = h.3 }))
legal_block_passes view Overlap legal keys h = legal_passes view Overlap legal (block_of_view view Overlap (fits_block view legal keys) (record { view = h.0; fits = h.1; spelled = h.2; fails = h.3 }))

pub legal_views_pass : LegalViewsPass
legal_views_pass = record { made = legal_passes; read = legal_block_passes }

pub faults_are_unique : FaultsAreUnique
faults_are_unique = record { made = one_fault; read = one_fault_of_bytes }
