-- An agent that entered a view is in it.
use Rattle.std.proofs.Common.{◌≡◌, ℕ, Bool, true, false, cond, List, Option, Some, None, Ok, Err, refl, ap, ◌∙◌}
use Rattle.ivy_base.specs.declared.key.Key.{Key}
use Rattle.log_model.specs.View.{View}
use Rattle.log_model.specs.Signing.{Signing}
use Rattle.agent_model.specs.Agent.{Agent, Kept, entered, failed, kept_of}
use Rattle.agent_model.specs.Views.{Entering, entering, entering_with, is_own_member, not_named}
use Rattle.agent_model.specs.Views.Entering.{Entered, NotMember, NotNamed, KeeperFailed}
use Rattle.ivy_agent.specs.Entering.{Enters, EntersAs, agent_after, answer_of}
use Rattle.ivy_agent.specs.Holders.{Holder}

module _ {S : Type 0} (a : Agent S) (view : View) where
  abbrev IsIn : Entering S × Option (Kept S) → Type 0
  IsIn e = Ok tt ≡ answer_of e.0 → (agent_after a e.0).view ≡ Some view

  abbrev saving : Bool → Entering S × Option (Kept S)
  saving fails = (cond fails (KeeperFailed (failed a)) (Entered (entered a view)), Some (kept_of (entered a view)))

  by_flags : (failing fails : Bool) → IsIn (cond failing (KeeperFailed a, None) (saving fails))
  by_flags true fails done = absurd (cc done)
  by_flags false true done = absurd (cc done)
  by_flags false false done = refl

  is_in : (member fails : Bool) (unnamed : Option Key) → IsIn (cond member (entering_with a view fails unnamed) (NotMember, None))
  is_in false fails unnamed done = absurd (cc done)
  is_in true fails (Some log) done = absurd (cc done)
  is_in true fails None done = by_flags a.has_failed fails done

module _ {K S : Type 0} (signs : Signing S) (IsWhole : S → Type 0) (saves : K → List ℕ → Bool → K → Type 0) (view : View)
    (before after : Holder K S) where
  pub entered_view : Enters signs IsWhole saves view before (Ok tt) after → after.agent.view ≡ Some view
  entered_view e =
      let is = is_in before.agent view (is_own_member signs before.agent view) e.0 (not_named before.agent view) e.1.answered in
      ap (λ (a : Agent S). a.view) e.1.agent ∙ is
