-- What is taken of a batch, by what an engine holds.
use Rattle.std.proofs.Common.{◌≡◌, Option, Some, Result, Ok, Err, sym, subst}
use Rattle.std.specs.Prelude.{IfOk, IfSome}
use Rattle.ivy_base.specs.declared.key.PubKey.{PubKey}
use Rattle.log_model.specs.View.{View}
use Rattle.log_records.specs.Batches.{Batch}
use Rattle.turn_model.specs.Basis.{Holding}
use Rattle.turn_taking.specs.Taking.{IsHeld, Takes}
use Rattle.turn_taking.specs.declared.taking.Held.{Held}
use Rattle.turn_taking.specs.declared.taking.Taken.{Taken}

pub takes_in : {E : Type 0} (held : Held) (b : Batch) (h : Holding) (r : Result Taken E) → IfOk r (λ taken. (g : Holding) → IsHeld held g → Takes held.view.now held.own.now held.floor.now b g taken)
    → (o : Option View) → o ≡ Some held.view.now → (own : PubKey) → held.own.now ≡ own → IsHeld held h → IfOk r (λ taken. IfSome o (λ view. Takes view own held.floor.now b h taken))
takes_in held b h (Ok t) told o is own own_is is_held =
    subst (λ (x : Option View). IfSome x (λ view. Takes view own held.floor.now b h t)) (sym is)
    (subst (λ (k : PubKey). Takes held.view.now k held.floor.now b h t) own_is (told h is_held))
takes_in held b h (Err e) told o is own own_is is_held = tt
