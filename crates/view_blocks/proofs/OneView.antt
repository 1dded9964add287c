-- One view for each block, and no view's block begins another's.
use Rattle.std.proofs.Common.{◌≡◌, ℕ, List, refl, ap, arith}
use Rattle.ivy_base.specs.declared.key.PubKey.{PubKey}
use Rattle.wire_model.specs.OneReading.{ReadsOne}
use Rattle.wire_model.proofs.OneReading.{◌▷◌, always, one_raw, one_array, of_parts, of_fewer, whole}
use Rattle.log_model.specs.View.{View, IsView, view_block, view_tag}
use Rattle.log_model.specs.ViewKeys.{IsPubKey, HasKeys}
use Rattle.view_blocks.specs.Faults.{AreKeys, keys_block, FitsBlock}

pub one_key : ReadsOne IsPubKey (λ key. key.0)
one_key = of_parts (λ (key : PubKey). key.0) (λ key fits. fits.size) (λ key. refl) (λ j k e. ap (λ (bytes : List ℕ). record { 0 = bytes }) e) (one_raw 60)

pub one_list : ReadsOne AreKeys keys_block
one_list = one_array one_key

-- of equal fronts, whatever follows each, the views are equal, and so is what follows
pub one_view : ReadsOne FitsBlock view_block
one_view = of_parts (λ (v : View). ((tt, v.members), v.former)) (λ v fits. ((tt, fits.members), fits.former)) (λ v. refl)
    (λ v w e. ap (λ (p : (Unit {0} × List PubKey) × List PubKey). record { members = p.0.1; former = p.1 }) e)
    (always view_tag ▷ one_list ▷ one_list)

-- a view that may be made has few keys
pub fits_block : (view : View) → IsView view → HasKeys view → FitsBlock view
fits_block view legal keys = record {
  members = (omega (arith, legal.few), keys.members);
  former = (omega (arith, legal.few_former), keys.former);
}

-- so it is for the views that may be made
pub one_legal_view : ReadsOne (λ view. IsView view × HasKeys view) view_block
one_legal_view = of_fewer (λ view h. fits_block view h.0 h.1) one_view

-- a block is that of one view
pub one_view_of_block : (view other : View) → FitsBlock view → FitsBlock other → view_block view ≡ view_block other → view ≡ other
one_view_of_block = whole one_view
