-- Lists of checks in a row, and what a plan is by the first check that fails.
use Rattle.std.proofs.Common.{◌≡◌, Bool, true, false, cond, List, [], ◌∷◌, ◌++◌, Option, Some, None, refl, sym, ap, ◌∙◌}
use Rattle.std.specs.Option.{option_or, unwrap_or}
use Rattle.nfs_model.specs.declared.replies.NfsStatus.{NfsStatus}
use Rattle.nfs_model.specs.declared.replies.Tail.{Tail}
use Rattle.nfs_model.specs.declared.replies.Reply.TheVariants as reply
use Rattle.nfs_model.specs.Checks.{Check, first_failure}
use Rattle.nfs_model.specs.Changing.{Plan, Refuse, plan_unless}

or_first : (b : Bool) (fault : NfsStatus) (f g : Option NfsStatus) → option_or (cond b (Some fault) f) g ≡ cond b (Some fault) (option_or f g)
or_first true fault f g = refl
or_first false fault f g = refl

-- the first one's failure, or else the second one's
first_of : (xs ys : List Check) → option_or (first_failure xs) (first_failure ys) ≡ first_failure (xs ++ ys)
first_of [] ys = refl
first_of (x ∷ xs) ys = or_first x.0 x.1 (first_failure xs) (first_failure ys) ∙ ap (λ o. cond x.0 (Some x.1) o) (first_of xs ys)

pub in_turn : (xs ys : List Check) {r f g : Option NfsStatus} → r ≡ option_or f g → f ≡ first_failure xs → g ≡ first_failure ys → r ≡ first_failure (xs ++ ys)
in_turn xs ys h first second = h ∙ (λ i. option_or (first i) (second i)) ∙ first_of xs ys

or_some : (o : Option NfsStatus) (last : NfsStatus) → option_or o (Some last) ≡ Some (unwrap_or o last)
or_some None last = refl
or_some (Some fault) last = refl

-- a last check that always fails
pub refused_at_last : (xs : List Check) (last : NfsStatus) (with : Tail) (p : Plan) (fault : NfsStatus) → fault ≡ unwrap_or (first_failure xs) last → plan_unless (xs ++ (true, last) ∷ []) with p ≡ Refuse (reply.Refused fault with)
refused_at_last xs last with p fault h =
    let failed : first_failure (xs ++ (true, last) ∷ []) ≡ Some (unwrap_or (first_failure xs) last) = sym (first_of xs ((true, last) ∷ [])) ∙ or_some (first_failure xs) last in
    rw (failed, ← h) refl
