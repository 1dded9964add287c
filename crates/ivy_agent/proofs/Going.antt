-- What a turn may go on from: what is held, or a basis that the floor knows.
use Rattle.std.proofs.Common.{◌≡◌, ◌≤◌, Bool, true, false, ◌&&◌, cond, [], Option, Some, None, refl, sym, ap, ◌∙◌, subst, arith, Contains}
use Rattle.std.specs.Prelude.{IfSome, IsSomeAnd, IsTrue, is_some, option_map}
use Rattle.std.specs.List.{AllByRecursion}
use Rattle.ivy_base.specs.declared.key.Key.{Key}
use Rattle.ivy_base.specs.declared.key.PubKey.{PubKey}
use Rattle.ivy_base.specs.Naming.{head_key_of}
use Rattle.log_model.specs.Vector.{Stamp, Vector, reach, seq_of, stamp_at}
use Rattle.log_model.specs.View.{View, IsView, is_named}
use Rattle.log_model.proofs.Lists.{each, each_from}
use Rattle.log_records.specs.Batches.{Batch}
use Rattle.version_vectors.specs.Vectors.{EntryFits, IsVector}
use Rattle.log_model.specs.ViewKeys.{HasKeys}
use Rattle.causal_order.specs.Over.{GoesOnFrom, IsClosed}
use Rattle.turn_laws.proofs.Entries.{at_stamp}
use Rattle.turn_laws.proofs.Whole.{at_entry}
use Rattle.turn_model.specs.Basis.{Basis, Holding}
use Rattle.turn_taking.specs.Taking.{IsWithin}
use Rattle.turn_taking.proofs.Dominating.{far}
use Rattle.log_model.specs.Signing.{Signing}
use Rattle.agent_model.specs.Agent.{Agent, joined, own}
use Rattle.agent_model.specs.Standing.{dominates, going_on}
use Rattle.ivy_agent.specs.Bounds.{HasBounds}
use Rattle.ivy_agent.specs.Grounds.{IsGround, taken_basis}
use Rattle.ivy_agent.specs.Holders.{Holder, IsSound, Stands, StandsIn, agent_of}
use Rattle.ivy_agent.specs.Taking.{MayTakeFrom}
use Rattle.ivy_agent.specs.Turns.{IsFetchedIn}
use Rattle.ivy_agent.specs.declared.grounds.Ground.{Ground}
use Rattle.ivy_agent.specs.declared.saving.Kept.{Kept}
use Rattle.fs_tree.specs.Bases.{basis_of}
use Rattle.fs_tree.specs.declared.basis.Basis as kept
use Rattle.replay_engine.specs.Engines.{Engine, holding}

-- nothing is closed over any front
pub none_closed : (view : View) (front : Vector) → IsClosed view front []
none_closed view front = record { ascending = tt; members = tt; chains = (λ owner. by owner (stamp_at front (head_key_of owner))); causes = tt }
  where
    by : (owner : PubKey) (o : Option Stamp) → GoesOnFrom view owner o []
    by owner None = tt
    by owner (Some t) = tt

-- what a floor that names logs of the view knows names such logs too
within_floor : (view : View) (own : PubKey) (floor front : Vector) → AllByRecursion (λ e. IsTrue (is_named view e.0)) floor → IsVector front → dominates floor front ≡ true → IsWithin view own floor front
within_floor view own floor front named whole knows = record {
  named = each_from (λ e. IsTrue (is_named view e.0)) front (λ e c.
      let at : seq_of front e.0 ≡ e.1.seq = ap reach (at_entry front e whole.in_order c) in
      let low = far floor front knows e.0 in
      let some = (each EntryFits front e whole.entries c).1 in
      by e.0 (stamp_at floor e.0) refl (omega (arith, at, low, some)));
  own_log = far floor front knows (head_key_of own);
}
  where
    by : (log : Key) (o : Option Stamp) → stamp_at floor log ≡ o → 1 ≤ reach o → IsTrue (is_named view log)
    by log None e some = absurd (omega (arith, some))
    by log (Some t) e some = at_stamp (λ x. IsTrue (is_named view x.0)) floor log t named e

module _ {S : Type 0} (signs : Signing S) (a : Agent S) (log : Key) (front : Vector) (sound : IsSound signs a log front) (batch : Batch) where
  pub of_view : (view : View) → a.view ≡ Some view → IsView view × HasKeys view × Contains view.members (own signs a) × AllByRecursion (λ e. IsTrue (is_named view e.0)) a.floor
  of_view view is = subst (λ (o : Option View). IfSome o (λ v. IsView v × HasKeys v × Contains v.members (own signs a) × AllByRecursion (λ e. IsTrue (is_named v e.0)) a.floor)) is sound.kept.view

  stands_in : (view : View) → a.view ≡ Some view → StandsIn signs a view
  stands_in view is = subst (Stands signs a) is sound.stands

  from_held : (view : View) → a.view ≡ Some view → IsFetchedIn view batch → MayTakeFrom view (own signs a) a.floor a.holding batch
  from_held view is fetched = record {
    member = (of_view view is).2;
    begun = sound.kept.some;
    few = sound.kept.few;
    bounds = (stands_in view is).bounds;
    closed = (stands_in view is).closed;
    base = (stands_in view is).base;
    inside = (stands_in view is).front;
    under = fetched.under;
    members = fetched.members;
  }

  from_basis : (b : Basis) → IsVector b.front → dominates a.floor b.front ≡ true → HasBounds b.tree → (view : View) → a.view ≡ Some view → IsFetchedIn view batch
      → MayTakeFrom view (own signs a) a.floor (record { basis = b; held = [] }) batch
  from_basis b whole knows bounds view is fetched = record {
    member = (of_view view is).2;
    begun = sound.kept.some;
    few = sound.kept.few;
    bounds = bounds;
    closed = none_closed view b.front;
    base = within_floor view (own signs a) a.floor b.front (of_view view is).3 whole knows;
    inside = within_floor view (own signs a) a.floor b.front (of_view view is).3 whole knows;
    under = fetched.under;
    members = fetched.members;
  }

  pub held_from : (o : Option View) → a.view ≡ o → IsSomeAnd o (λ view. IsFetchedIn view batch) → IsSomeAnd o (λ view. MayTakeFrom view (own signs a) a.floor a.holding batch)
  held_from None is h = absurd h
  held_from (Some view) is h = from_held view is h

  pub well_in : (P : View → Type 0) (o : Option View) → a.view ≡ o → IsSomeAnd o P → IsSomeAnd o IsView
  well_in P None is h = absurd h
  well_in P (Some view) is h = (of_view view is).0

  pub basis_from : (b : Basis) → IsVector b.front → dominates a.floor b.front ≡ true → HasBounds b.tree → (o : Option View) → a.view ≡ o → IsSomeAnd o (λ view. IsFetchedIn view batch)
      → IsSomeAnd o (λ view. MayTakeFrom view (own signs a) a.floor (record { basis = b; held = [] }) batch)
  basis_from b whole knows bounds None is h = absurd h
  basis_from b whole knows bounds (Some view) is h = from_basis b whole knows bounds view is h

-- ---- what a turn goes on from, as it is kept

abbrev Test : Option Key → Vector → Basis → Bool
Test to_load floor b = is_some to_load && dominates floor b.front

-- it is a basis that was loaded
pub record IsLoaded (to_load : Option Key) (floor : Vector) (loaded : Option Basis) (g : Ground) : Type 0 where
  pub basis : Basis
  pub is : loaded ≡ Some basis
  pub taken : Test to_load floor basis ≡ true
  pub held : holding g.engine ≡ record { basis = basis; held = [] }
  pub front : g.front ≡ basis.front
  pub whole : IsVector basis.front

both_pass : (x y : Bool) → (x && y) ≡ true → y ≡ true
both_pass true y h = h
both_pass false y h = absurd (cc h)

module _ (to_load : Option Key) (floor : Vector) where
  pub is_loaded : (loaded : Option Basis) (g : Ground) → IsGround (taken_basis to_load floor loaded) (Some g) → IsLoaded to_load floor loaded g
  is_loaded None g h = absurd h
  is_loaded (Some b) g h = by (Test to_load floor b) refl h
    where
      by : (t : Bool) → Test to_load floor b ≡ t → IsGround (cond t (Some b) None) (Some g) → IsLoaded to_load floor (Some b) g
      by true e h = record { basis = b; is = refl; taken = e; held = h.0; front = h.1; whole = h.2 }
      by false e h = absurd h

  pub knows : (b : Basis) → Test to_load floor b ≡ true → dominates floor b.front ≡ true
  knows b h = both_pass (is_some to_load) (dominates floor b.front) h

module _ {S : Type 0} (a : Agent S) where
  -- it goes on from what it holds
  pub goes_on_held : (loaded : Option Basis) → IsGround (taken_basis a.to_load a.floor loaded) None → going_on a loaded ≡ a.holding
  goes_on_held None h = refl
  goes_on_held (Some b) h = by (Test a.to_load a.floor b) h
    where
      by : (t : Bool) → IsGround (cond t (Some b) None) None → cond t (record { basis = b; held = [] }) a.holding ≡ a.holding
      by true h = absurd h
      by false h = refl

  pub goes_on_basis : (b : Basis) → Test a.to_load a.floor b ≡ true → going_on a (Some b) ≡ record { basis = b; held = [] }
  goes_on_basis b taken = ap (λ (t : Bool). cond t (record { basis = b; held = [] }) a.holding) taken

loaded_bounds : (o : Option kept.Basis) (b : Basis) → option_map basis_of o ≡ Some b → IfSome o (λ x. HasBounds x.tree) → HasBounds b.tree
loaded_bounds None b is h = absurd (cc is)
loaded_bounds (Some x) b is h = let same : basis_of x ≡ b = cc is in subst (λ (y : Basis). HasBounds y.tree) same h

-- ---- of an agent and its keeper

module _ {K S : Type 0} (signs : Signing S) (k : Kept S) (e : Engine) (to_load : Option Key) (has_failed : Bool) (keeper : K) (before : Holder K S) (is : record { agent = agent_of k e to_load has_failed; keeper = keeper } ≡ before)
    (front : Vector) (sound : IsSound signs (agent_of k e to_load has_failed) k.log front) (batch : Batch) where
  abbrev a : Agent S
  a = agent_of k e to_load has_failed

  pub from_here : IsSomeAnd before.agent.view (λ view. IsFetchedIn view batch) → IsSomeAnd k.view (λ view. MayTakeFrom view (own signs a) k.floor (holding e) batch)
  from_here fetched = held_from signs a k.log front sound batch k.view refl (subst (λ (b : Holder K S). IsSomeAnd b.agent.view (λ view. IsFetchedIn view batch)) (sym is) fetched)

  pub well_here : (P : Agent S → View → Type 0) → IsSomeAnd before.agent.view (P before.agent) → IsSomeAnd k.view IsView
  well_here P h = well_in signs a k.log front sound batch (P a) k.view refl (subst (λ (b : Holder K S). IsSomeAnd b.agent.view (P b.agent)) (sym is) h)

  -- ---- by what was loaded

  module _ (loaded : Option kept.Basis) where
    pub going_here : IsGround (taken_basis to_load k.floor (option_map basis_of loaded)) None → going_on before.agent (option_map basis_of loaded) ≡ before.agent.holding
    going_here h = subst (λ (b : Holder K S). going_on b.agent (option_map basis_of loaded) ≡ b.agent.holding) is (goes_on_held a (option_map basis_of loaded) h)

    module _ (g : Ground) (h : IsGround (taken_basis to_load k.floor (option_map basis_of loaded)) (Some g)) where
      its : IsLoaded to_load k.floor (option_map basis_of loaded) g
      its = is_loaded to_load k.floor (option_map basis_of loaded) g h

      pub front_over : g.front ≡ joined (holding g.engine)
      front_over = its.front ∙ sym (ap joined its.held)

      pub going_over : going_on before.agent (option_map basis_of loaded) ≡ holding g.engine
      going_over = subst (λ (b : Holder K S). going_on b.agent (option_map basis_of loaded) ≡ holding g.engine) is
          (ap (going_on a) its.is ∙ goes_on_basis a its.basis its.taken ∙ sym its.held)

      pub from_over : IfSome loaded (λ x. HasBounds x.tree) → IsSomeAnd before.agent.view (λ view. IsFetchedIn view batch)
          → IsSomeAnd before.agent.view (λ view. MayTakeFrom view (own signs before.agent) before.agent.floor (holding g.engine) batch)
      from_over bounds fetched = subst (λ (b : Holder K S). IsSomeAnd b.agent.view (λ view. MayTakeFrom view (own signs b.agent) b.agent.floor (holding g.engine) batch)) is
          (subst (λ (x : Holding). IsSomeAnd k.view (λ view. MayTakeFrom view (own signs a) k.floor x batch)) (sym its.held)
          (basis_from signs a k.log front sound batch its.basis its.whole (knows to_load k.floor its.basis its.taken) (loaded_bounds loaded its.basis its.is bounds) k.view refl
          (subst (λ (b : Holder K S). IsSomeAnd b.agent.view (λ view. IsFetchedIn view batch)) (sym is) fetched)))
