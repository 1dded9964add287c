-- The definitions at short keys.
use Rattle.std.proofs.Common.{◌≡◌, true, false, [], ◌∷◌, refl, arith}
use Rattle.ivy_base.specs.declared.key.PubKey.{PubKey}
use Rattle.log_model.specs.View.{view_block, ascend}
use Rattle.view_blocks.specs.declared.fault.ViewFault.TheVariants.{NoMember, Order}
use Rattle.view_blocks.specs.Faults.{HasFewKeys, FailsAs}

abbrev low : PubKey
low = record { 0 = 1 ∷ 9 ∷ [] }

abbrev high : PubKey
high = record { 0 = 2 ∷ 0 ∷ [] }

-- the mark, and each list after its count
a_block : view_block (record { members = low ∷ high ∷ []; former = low ∷ [] }) ≡ 73 ∷ 86 ∷ 86 ∷ 49 ∷ 0 ∷ 0 ∷ 0 ∷ 2 ∷ 1 ∷ 9 ∷ 2 ∷ 0 ∷ 0 ∷ 0 ∷ 0 ∷ 1 ∷ 1 ∷ 9 ∷ []
a_block = refl

in_order : ascend (low ∷ high ∷ []) ≡ true
in_order = refl

falling : ascend (high ∷ low ∷ []) ≡ false
falling = refl

twice : ascend (low ∷ low ∷ []) ≡ false
twice = refl

-- no member is the fault whatever the former members are
nobody : FailsAs (record { members = []; former = high ∷ low ∷ [] }) NoMember
nobody = refl

few : HasFewKeys (record { members = low ∷ []; former = high ∷ low ∷ [] })
few = record { some = λ e. cc e; few = omega arith; few_former = omega arith }

former_fall : FailsAs (record { members = low ∷ []; former = high ∷ low ∷ [] }) Order
former_fall = (few, λ ordered. let e : false ≡ true = ordered.former in cc)
