-- Entering a view: what is tested, what is saved, and what becomes of the agent.
use Rattle.std.proofs.Common.{◌≡◌, ℕ, Bool, true, false, cond, not, List, [], ◌∷◌, Contains, Option, Some, None, Result, Ok, Err, refl, sym, ap, ◌∙◌, subst, ◌||◌, ◌&&◌}
use Rattle.std.specs.Prelude.{IsTrue, IfSome, find, option_map}
use Rattle.std.specs.List.{AllByRecursion, list_any}
use Rattle.std.specs.Ordering.{eq_by_cmp}
use Rattle.ivy_base.specs.declared.key.Key.{Key}
use Rattle.ivy_base.specs.declared.key.PubKey.{PubKey}
use Rattle.ivy_base.specs.Naming.{owner_cmp}
use Rattle.log_model.specs.View.{View, IsView, is_member, is_named}
use Rattle.log_model.specs.Vector.{Stamp, Vector}
use Rattle.log_model.proofs.Lists.{who_passes}
use Rattle.log_model.proofs.Opening.{same_owner}
use Rattle.wire_model.specs.Xdr.{IsAny}
use Rattle.turn_model.specs.Basis.{nothing_held}
use Rattle.replay_engine.specs.Engines.{Engine, holding}
use Rattle.log_model.specs.Signing.{Signing}
use Rattle.log_model.specs.ViewKeys.{HasKeys}
use Rattle.agent_model.specs.Agent.{Agent, entered, failed, kept_of, own}
use Rattle.agent_model.specs.SavedBytes.{IsKept, kept_bytes}
use Rattle.agent_model.specs.Views.{Entering, entering, entering_with, is_own_member, is_refused_in, not_named, was_former}
use Rattle.agent_model.specs.Views.Entering.{Entered, NotMember, NotNamed, KeeperFailed}
use Rattle.ivy_agent.specs.Holders.{Holder, agent_of}
use Rattle.ivy_agent.specs.Saves.{HasSaved, IsWholeAfter, Saves, saved_of}
use Rattle.ivy_agent.specs.Entering.{EntersAs, Enters, GoesIn, IsRefused, IsSavedIn, IsTakenIn, agent_after, answer_of, kept_in}
use Rattle.ivy_agent.specs.declared.saving.Kept.{Kept}
use Rattle.ivy_agent.specs.declared.saving.SaveFault.{SaveFault}
use Rattle.ivy_agent.specs.declared.saving.SaveFault.TheVariants as save_fault
use Rattle.ivy_agent.specs.declared.fault.EnterFault.{EnterFault}
use Rattle.ivy_agent.specs.declared.fault.EnterFault.TheVariants as fault

-- ---- tests

module _ {S : Type 0} (signs : Signing S) (view : View) where
  named_by : (b c : Bool) → (not b || c) ≡ false → b ≡ true
  named_by true c h = refl
  named_by false c h = absurd (cc h)

  none_by : (b : Bool) (e : Key × Stamp) (rest : Option (Key × Stamp)) → option_map (λ (x : Key × Stamp). x.0) (cond b (Some e) rest) ≡ None → (b ≡ false) × (option_map (λ (x : Key × Stamp). x.0) rest ≡ None)
  none_by true e rest h = absurd (cc h)
  none_by false e rest h = (refl, h)

  -- where none is refused the view names each
  all_named : (before : Option View) (floor : Vector) → option_map (λ (e : Key × Stamp). e.0) (find (λ e. is_refused_in before view e.0) floor) ≡ None → AllByRecursion (λ e. IsTrue (is_named view e.0)) floor
  all_named before [] h = tt
  all_named before (e ∷ floor) h =
      let p = none_by (is_refused_in before view e.0) e (find (λ x. is_refused_in before view x.0) floor) h in
      (named_by (is_named view e.0) (is_member view e.0 && was_former before e.0) p.0, all_named before floor p.1)

  own_is_member : (k : PubKey) → list_any (eq_by_cmp owner_cmp k) view.members ≡ true → Contains view.members k
  own_is_member k h = let w = who_passes (eq_by_cmp owner_cmp k) view.members h in subst (λ (o : PubKey). Contains view.members o) (same_owner k w.0 w.2) w.1

  module _ (a : Agent S) (member : is_own_member signs a view ≡ true) where
    goes_on : (fails : Bool) → entering signs a view fails ≡ entering_with a view fails (not_named a view)
    goes_on fails = ap (λ (b : Bool). cond b (entering_with a view fails (not_named a view)) (NotMember, None)) member

    module _ (none : not_named a view ≡ None) where
      asks : (fails : Bool) → entering signs a view fails ≡ entering_with a view fails None
      asks fails = goes_on fails ∙ ap (λ (o : Option Key). entering_with a view fails o) none

      pub taken_in : a.has_failed ≡ false → IsView view → HasKeys view → IsTakenIn signs view a
      taken_in unfailed legal keys = record {
        legal = legal;
        keys = keys;
        member = own_is_member (own signs a) member;
        named = all_named a.view a.floor none;
        unfailed = unfailed;
        enters = asks false ∙ ap (λ (b : Bool). cond b (KeeperFailed a, None) (Entered (entered a view), Some (kept_of (entered a view)))) unfailed;
        fails = asks true ∙ ap (λ (b : Bool). cond b (KeeperFailed a, None) (KeeperFailed (failed a), Some (kept_of (entered a view)))) unfailed;
      }

-- by what was told of the tests
pub may_be_entered : {K S : Type 0} (signs : Signing S) (view : View) (now : Holder K S) (a : Agent S) (keeper : K) → record { agent = a; keeper = keeper } ≡ now
    → (own_told : PubKey) (members : List PubKey) (among : Bool) (named : Option Key) → own_told.0 ≡ signs.key a.signer → members ≡ view.members → among ≡ list_any (eq_by_cmp owner_cmp own_told) members → among ≡ true
    → named ≡ not_named a view → named ≡ None → a.has_failed ≡ false → IsView view → HasKeys view → IsTakenIn signs view now.agent
may_be_entered signs view now a keeper now_is own_told members among named own_is members_are told has named_told none unfailed legal keys =
    let own_there : list_any (eq_by_cmp owner_cmp own_told) members ≡ list_any (eq_by_cmp owner_cmp (own signs a)) view.members = (λ i. list_any (eq_by_cmp owner_cmp (record { 0 = own_is i })) (members_are i)) in
    subst (λ h. IsTakenIn signs view h.agent) now_is (taken_in signs view a (sym own_there ∙ sym told ∙ has) (sym named_told ∙ none) unfailed legal keys)

-- ---- what is saved

module _ {K S : Type 0} (signs : Signing S) (IsWhole : S → Type 0) (saves : K → List ℕ → Bool → K → Type 0) (view : View) where
  pub saved_in : (k : Kept S) (v : Option View) (s : Option Key) (keeper left : K) (result : Result Unit SaveFault) → v ≡ Some view → s ≡ None
      → HasSaved saves keeper (kept_bytes signs (saved_of (record k { view = v; snapshot = s }))) result left → HasSaved saves keeper (kept_bytes signs (saved_of (kept_in view k))) result left
  saved_in k v s keeper left result v_is s_is told =
      subst (λ (t : Option View × Option Key). HasSaved saves keeper (kept_bytes signs (saved_of (record k { view = t.0; snapshot = t.1 }))) result left) (λ i. (v_is i, s_is i)) told

  -- in a view that takes in what the agent knows it may be saved
  pub kept_there : (a : Agent S) → IsKept signs IsAny (kept_of a) → IsTakenIn signs view a → IsWhole a.signer → IsKept signs IsWhole (kept_of (entered a view))
  kept_there a h taken whole = record {
    signer = whole;
    some = h.some;
    few = h.few;
    floor = h.floor;
    view = (taken.legal, taken.keys, taken.member, taken.named);
    posts = h.posts;
    snapshot = tt;
  }

  module _ (before : Holder K S) (k : Kept S) (engine : Engine) (to_load : Option Key) (has_failed : Bool) (keeper : K) (is : record { agent = agent_of k engine to_load has_failed; keeper = keeper } ≡ before)
      (kept : IsKept signs IsAny (saved_of k)) (taken : IsTakenIn signs view before.agent) where
    abbrev here : Agent S
    here = agent_of k engine to_load has_failed

    taken_here : IsTakenIn signs view here
    taken_here = subst (λ h. IsTakenIn signs view h.agent) (sym is) taken

    saved_there : (fails : Bool) (left : K) → IsWhole k.signer → saves keeper (kept_bytes signs (saved_of (kept_in view k))) fails left → IsSavedIn signs IsWhole saves view before fails left
    saved_there fails left whole told = subst (λ h. IsSavedIn signs IsWhole saves view h fails left) is (record { kept = kept_there here kept taken_here whole; saved = told })

    pub went_in : (now : Kept S) (nothing : Engine) (left : K) → now ≡ kept_in view k → holding nothing ≡ nothing_held → IsWhole k.signer → saves keeper (kept_bytes signs (saved_of (kept_in view k))) false left
        → (agent_of now nothing None has_failed ≡ entered before.agent view) × IsSavedIn signs IsWhole saves view before false left
    went_in now nothing left now_is nothing_is whole told = (
      subst (λ h. agent_of now nothing None has_failed ≡ entered h.agent view) is (λ i. record {
        signer = (now_is i).signer;
        view = (now_is i).view;
        floor = (now_is i).floor;
        holding = nothing_is i;
        to_load = None;
        snapshot = (now_is i).snapshot;
        pending = (now_is i).pending;
        has_failed = has_failed;
      }),
      saved_there false left whole told,
    )

    pub stayed_out : (now : Kept S) (left : K) (result : Result Unit SaveFault) → now ≡ k → result ≡ Err save_fault.Keeper → IsWholeAfter (IsWhole k.signer) result
        → HasSaved saves keeper (kept_bytes signs (saved_of (kept_in view k))) result left → (agent_of now engine to_load true ≡ failed before.agent) × IsSavedIn signs IsWhole saves view before true left
    stayed_out now left result now_is result_is whole told = (
      subst (λ h. agent_of now engine to_load true ≡ failed h.agent) is (ap (λ (x : Kept S). agent_of x engine to_load true) now_is),
      saved_there true left (subst (λ (r : Result Unit SaveFault). IsWholeAfter (IsWhole k.signer) r) result_is whole) (subst (λ (r : Result Unit SaveFault). HasSaved saves keeper (kept_bytes signs (saved_of (kept_in view k))) r left) result_is told),
    )

  -- ---- how it ends

  never_memory : (e : Entering S) → Err fault.Memory ≡ answer_of e → ⊥
  never_memory (Entered after) h = cc h
  never_memory NotMember h = cc h
  never_memory (NotNamed log) h = cc h
  never_memory (KeeperFailed after) h = cc h

  module _ (before : Holder K S) where
    refused_as : (why : EnterFault) → IsRefused signs view before.agent why → EntersAs signs IsWhole saves view before false (Err why) before
    refused_as why h = record {
      answered = h.answered;
      agent = h.agent;
      keeper = subst (λ o. Saves saves before.keeper (option_map (kept_bytes signs) o) false before.keeper) (sym h.unsaved) refl;
      kept = subst (λ o. IfSome o (IsKept signs IsWhole)) (sym h.unsaved) tt;
    }

    pub enters_refused : (why : EnterFault) → IsRefused signs view before.agent why → Enters signs IsWhole saves view before (Err why) before
    enters_refused fault.NotMember h = (false, refused_as fault.NotMember h)
    enters_refused (fault.NotNamed log) h = (false, refused_as (fault.NotNamed log) h)
    enters_refused fault.Keeper h = (false, refused_as fault.Keeper h)
    enters_refused fault.Memory h = absurd (never_memory (entering signs before.agent view false).0 h.answered)

    pub enters_gone : IsTakenIn signs view before.agent → (result : Result Unit EnterFault) (after : Holder K S) → GoesIn signs IsWhole saves view before result after → Enters signs IsWhole saves view before result after
    enters_gone h (Ok done) after g = (
      false,
      record {
        answered = sym (ap (λ (e : Entering S × Option _). answer_of e.0) h.enters);
        agent = g.0 ∙ sym (ap (λ (e : Entering S × Option _). agent_after before.agent e.0) h.enters);
        keeper = subst (λ (e : Entering S × Option _). Saves saves before.keeper (option_map (kept_bytes signs) e.1) false after.keeper) (sym h.enters) g.1.saved;
        kept = subst (λ (e : Entering S × Option _). IfSome e.1 (IsKept signs IsWhole)) (sym h.enters) g.1.kept;
      },
    )
    enters_gone h (Err fault.Keeper) after g = (
      true,
      record {
        answered = sym (ap (λ (e : Entering S × Option _). answer_of e.0) h.fails);
        agent = g.0 ∙ sym (ap (λ (e : Entering S × Option _). agent_after before.agent e.0) h.fails);
        keeper = subst (λ (e : Entering S × Option _). Saves saves before.keeper (option_map (kept_bytes signs) e.1) true after.keeper) (sym h.fails) g.1.saved;
        kept = subst (λ (e : Entering S × Option _). IfSome e.1 (IsKept signs IsWhole)) (sym h.fails) g.1.kept;
      },
    )
    enters_gone h (Err fault.Memory) after g = g
    enters_gone h (Err fault.NotMember) after g = absurd g
    enters_gone h (Err (fault.NotNamed log)) after g = absurd g
