-- What holds of views and their blocks.
use Rattle.std.specs.Prelude.{◌≡◌, ◌≢◌, List, ℕ}
use Rattle.wire_model.specs.OneReading.{ReadsOne}
use Rattle.log_model.specs.View.{View, IsView, view_block}
use Rattle.log_model.specs.ViewKeys.{HasKeys}
use Rattle.view_blocks.specs.declared.fault.ViewFault.{ViewFault}
use Rattle.view_blocks.specs.declared.fault.ViewFault.TheVariants.{Memory}
use Rattle.view_blocks.specs.Faults.{FitsBlock, FailsAs, BlockFailsAs}

-- a block is that of one view, and no block begins another
abbrev pub OneViewForEachBlock : Type 0
OneViewForEachBlock = ReadsOne FitsBlock view_block

-- a view that may be made fails no test, and so is its block read: except when out of memory
pub record LegalViewsPass : Type 0 where
  pub made : (view : View) (fault : ViewFault) → IsView view → FailsAs view fault → fault ≡ Memory
  pub read : (view : View) (fault : ViewFault) → IsView view → HasKeys view → BlockFailsAs (view_block view) fault → fault ≡ Memory

-- the fault is one
pub record FaultsAreUnique : Type 0 where
  pub made : (view : View) (f g : ViewFault) → f ≢ Memory → g ≢ Memory → FailsAs view f → FailsAs view g → f ≡ g
  pub read : (bytes : List ℕ) (f g : ViewFault) → f ≢ Memory → g ≢ Memory → BlockFailsAs bytes f → BlockFailsAs bytes g → f ≡ g
