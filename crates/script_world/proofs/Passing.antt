-- Keys in order that are few and apart fail no test of a view.
use Rattle.std.proofs.Common.{◌≡◌, ◌≢◌, ◌≤◌, true, List, [], ◌∷◌, ◌++◌, length, refl, subst, arith}
use Rattle.ivy_base.specs.declared.key.PubKey.{PubKey}
use Rattle.log_model.specs.View.{View, have_own_head_keys, most_members, most_former}
use Rattle.view_blocks.specs.declared.fault.ViewFault.{ViewFault}
use Rattle.view_blocks.specs.declared.fault.ViewFault.TheVariants.{Memory}
use Rattle.view_blocks.specs.Faults.{FailsAs}
use Rattle.view_blocks.proofs.Refusals.{legal_passes}
use Rattle.world_model.specs.Logs.{in_key_order}
use Rattle.script_world.specs.Made.{view_of_keys}
use Rattle.world_laws.proofs.MadeViews.{made_view_is_view}

has_one : (ks : List PubKey) → ks ≢ [] → 1 ≤ length ks
has_one [] h = absurd (h refl)
has_one (k ∷ ks) h = omega arith

pub only_memory : (members former ordered ordered_former : List PubKey) (fault : ViewFault) → ordered ≡ in_key_order members → ordered_former ≡ in_key_order former
    → members ≢ [] → length members ≤ most_members → length former ≤ most_former → have_own_head_keys (members ++ former) ≡ true
    → FailsAs (record { members = ordered; former = ordered_former }) fault → fault ≡ Memory
only_memory members former ordered ordered_former fault ordered_is former_is some few few_former own fails =
    let view_is : (record { members = ordered; former = ordered_former }) ≡ view_of_keys members former = λ i. record { members = ordered_is i; former = former_is i } in
    legal_passes (view_of_keys members former) fault (made_view_is_view members former (has_one members some) few few_former own) (subst (λ (v : View). FailsAs v fault) view_is fails)
