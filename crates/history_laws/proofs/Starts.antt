-- A new agent stands where a fold starts.
use Rattle.std.proofs.Common.{◌≡◌, ℕ, ◌≤◌, ◌<◌, Bool, true, false, cond, List, [], ◌∷◌, Option, Some, None, Result, Ok, refl, sym, ap, ◌∙◌, subst, arith, Contains}
use Rattle.std.specs.Ordering.{eq_by_cmp}
use Rattle.ivy_base.specs.declared.key.Key.{Key}
use Rattle.ivy_base.specs.declared.key.PubKey.{PubKey}
use Rattle.ivy_base.specs.declared.operation.Moment.{Moment}
use Rattle.ivy_base.specs.Naming.{head_key_of, owner_cmp}
use Rattle.log_model.specs.Chain.{opening}
use Rattle.log_model.specs.Rank.{own_entry}
use Rattle.log_model.specs.Signing.{Signing}
use Rattle.log_model.specs.Spelling.{IsMoment}
use Rattle.log_model.specs.Vector.{seq_of}
use Rattle.log_model.specs.View.{View, IsView}
use Rattle.log_model.proofs.Lists.{who_passes}
use Rattle.log_model.proofs.Opening.{same_owner}
use Rattle.turn_model.specs.Basis.{Knows}
use Rattle.agent_model.specs.Agent.{Agent, entered, opened, own, own_key}
use Rattle.agent_model.specs.Views.{entering, entering_with, is_own_member, not_named}
use Rattle.agent_model.specs.Views.Entering.{NotMember}
use Rattle.ivy_agent.specs.Entering.{agent_after, answer_of}
use Rattle.ivy_agent.specs.declared.fault.EnterFault.{EnterFault}
use Rattle.agent_gate.specs.Folding.{Execution, StandsAt, start_of}
use Rattle.agent_gate.specs.Taking.{AgentKind, SignsOn}
use Rattle.agent_gate.proofs.Folds.{holds_what_is_known}
use Rattle.history_laws.specs.Starting.{NewHistoriesFold, NewStandsAtStart}
use Rattle.history_laws.proofs.Known.{knows_first, reaches_first}

-- ---- entering

abbrev done : Result Unit EnterFault
done = Ok tt

module _ {S : Type 0} (signs : Signing S) (signer : S) (now : Moment) (view : View) where
  abbrev new : Agent S
  new = opened signs signer now

  -- who was let in is a member, and is in the view
  let_in : (fails b : Bool) (o : Option Key) (after : Agent S)
      → done ≡ answer_of (cond b (entering_with new view fails o) (NotMember, None)).0
      → after ≡ agent_after new (cond b (entering_with new view fails o) (NotMember, None)).0 → (b ≡ true) × (after ≡ entered new view)
  let_in fails false o after ok is = absurd (cc ok)
  let_in fails true (Some log) after ok is = absurd (cc ok)
  let_in true true None after ok is = absurd (cc ok)
  let_in false true None after ok is = (refl, is)

  its_member : is_own_member signs new view ≡ true → Contains view.members (own signs new)
  its_member h = let found = who_passes (eq_by_cmp owner_cmp (own signs new)) view.members h in
      subst (Contains view.members) (same_owner (own signs new) found.0 found.2) found.1

-- ---- the start

module _ {K S : Type 0} (kind : AgentKind K S) where
  abbrev signs : Signing S
  signs = kind.signs

  module _ (on : SignsOn signs) (signer : S) (left : 0 < signs.remaining signer) (now : Moment) (fits : IsMoment now) (view : View) (well : IsView view) where
    abbrev there : Agent S
    there = entered (opened signs signer now) view

    -- the next key is the same
    same_key : own signs there ≡ own_key signs signer
    same_key = ap (λ (bytes : List ℕ). record { 0 = bytes }) (on.key signer left)

    starts : (keeper : K) (c : Execution) → c.view ≡ view → c.own ≡ own signs there → Contains view.members (own signs there)
        → StandsAt signs c (start_of signs (record { agent = there; keeper = keeper }) (opening c.own now ∷ [])) (record { agent = there; keeper = keeper })
    starts keeper c viewed owned member =
        let first : c.own ≡ own_key signs signer = owned ∙ same_key in
        let its : Contains view.members (own_key signs signer) = subst (Contains view.members) same_key member in
        let knows : Knows view (own_entry (opening (own_key signs signer) now) ∷ []) there.holding (opening (own_key signs signer) now ∷ []) = knows_first view (own_key signs signer) now well its fits in
        record {
          in_view = ap (λ (v : View). Some v) (sym viewed);
          own_is = sym owned;
          knows = subst (λ (v : View). Knows v there.floor there.holding (opening c.own now ∷ [])) (sym viewed)
              (subst (λ (o : PubKey). Knows view there.floor there.holding (opening o now ∷ [])) (sym first) knows);
          leaves = refl;
          failed = refl;
          begun = subst (λ (n : ℕ). 1 ≤ n) (sym (ap (λ (o : PubKey). seq_of there.floor (head_key_of o)) same_key ∙ reaches_first (own_key signs signer) now)) (omega arith);
        }

  pub new_stands_at_start : NewStandsAtStart kind
  new_stands_at_start c b on well owned is =
      let new : Agent S = opened signs b.signer b.now in
      let made : b.made.agent ≡ new = is.makes.0 in
      let some = is.makes.1.left in
      let left : 0 < signs.remaining b.signer = omega (arith, some) in
      let fails : Bool = is.enters.0 in
      let ok : done ≡ answer_of (entering signs new c.view fails).0 =
      subst (λ (a : Agent S). done ≡ answer_of (entering signs a c.view fails).0) made is.enters.1.answered in
      let after : b.entered.agent ≡ agent_after new (entering signs new c.view fails).0 =
      subst (λ (a : Agent S). b.entered.agent ≡ agent_after a (entering signs a c.view fails).0) made is.enters.1.agent in
      let in_it = let_in signs b.signer b.now c.view fails (is_own_member signs new c.view) (not_named new c.view) b.entered.agent ok after in
      let member : Contains c.view.members (own signs new) = its_member signs b.signer b.now c.view in_it.0 in
      let there : b.entered.agent ≡ entered new c.view = in_it.1 in
      let its : c.own ≡ own signs new = owned ∙ ap (own signs) there in
      record {
        member = subst (Contains c.view.members) (sym its) member;
        stands = subst (λ (a : Agent S). StandsAt signs c (start_of signs (record { agent = a; keeper = b.entered.keeper }) (opening c.own b.now ∷ [])) (record { agent = a; keeper = b.entered.keeper }))
            (sym there) (starts on b.signer left b.now is.moment c.view well b.entered.keeper c refl its member);
        fresh = ap (λ (a : Agent S). a.holding.basis) there;
        none_to_load = ap (λ (a : Agent S). a.to_load) there;
      }

  pub new_histories_fold : NewHistoriesFold kind
  new_histories_fold c b value history on apart well owned begins has grounded =
      let start = new_stands_at_start c b on well owned begins in
      holds_what_is_known kind c b.entered value (opening c.own b.now ∷ []) history on apart well start.member start.stands start.none_to_load start.fresh has grounded
