-- One log's fetch, step by step.
use Rattle.std.proofs.Common.{◌≡◌, ℕ, List, [], ◌∷◌, ◌++◌, Option, None, Result, Ok, Err, IfOk, refl, sym, ap, ◌∙◌, subst}
use Rattle.ivy_base.specs.declared.key.PubKey.{PubKey}
use Rattle.ivy_base.specs.Naming.{head_key_of}
use Rattle.ivy_base.specs.declared.key.Key.{Key}
use Rattle.ivy_base.specs.declared.memory.Memory.{Memory}
use Rattle.log_model.specs.View.{View}
use Rattle.log_model.specs.Vector.{Stamp, Vector, stamp_at, seq_of}
use Rattle.log_model.specs.Fetched.{Edge}
use Rattle.log_records.specs.Batches.{Batch}
use Rattle.session_model.specs.Brought.{Brought, BlockOf}
use Rattle.session_model.specs.Walks.{Tries, GivesNone}
use Rattle.session_model.specs.Walks.Tries.{none as none_left}
use Rattle.log_fetch.specs.declared.trial.Settled.{Settled}
use Rattle.log_fetch.specs.declared.trial.Settled.TheVariants as settled
use Rattle.log_fetch.specs.Trying.{Trying, HasTried, IsBegunAt, HasBeenTold}
use Rattle.log_fetch.specs.Concluding.{SettlesAs}
use Rattle.log_fetch.proofs.Driven.{tries_first}
use Rattle.log_fetch.specs.Order.{AreToTry}
use Rattle.log_fetch.specs.Edges.{edge_in}
use Rattle.log_fetch.specs.Logs.{StandsAt, Opens, GoesOn}

module _ (view : View) (owner : PubKey) (edge : Option Edge) (old new : Batch) where
  -- from what the heads had come to, they come to this
  stands : (all : List Stamp) (brought : List Brought) (t : Trying) → t.walk.owner ≡ owner → HasTried view owner old.held old.floor edge all brought t → (s : Settled) → SettlesAs view edge t old new s → StandsAt view owner edge all brought old new s
  stands all brought t of_owner h (settled.Waits next) w = (w.0, w.1, w.2 ∙ of_owner, w.3 owner all brought h)
  stands all brought t of_owner h (settled.Over fault) w = w owner all brought h

  pub opened : (all : List Stamp) (t : Trying) → IsBegunAt owner (seq_of old.held (head_key_of owner)) all None t → (s : Settled) → SettlesAs view edge t old new s → StandsAt view owner edge all [] old new s
  opened all t is s w = stands all [] t (ap (λ x. x.owner) is.1) (tries_first view owner old.held old.floor edge all t is) s w

  pub went_on : (before t : Trying) (bytes : List ℕ) → t.walk.owner ≡ owner → HasBeenTold before t bytes → (s : Settled) → SettlesAs view edge t old new s → GoesOn view owner edge before bytes old new s
  went_on before t bytes of_owner told s w = λ all brought h. stands all (brought ++ BlockOf before.walk.next (Ok bytes) ∷ []) t of_owner (told view owner old.held old.floor edge all brought h) s w

-- where no head is to be tried, the log is through
pub nothing_to_try : (view : View) (owner : PubKey) (edge : Option Edge) (old : Batch) (all : List Stamp) → all ≡ [] → StandsAt view owner edge all [] old old (settled.Over None)
nothing_to_try view owner edge old all none = ([], GivesNone, subst (λ (l : List Stamp). Tries (record { view = view; owner = owner; start = old.held; floor = old.floor; edge = edge }) l [] [] GivesNone) (sym none) none_left, refl, refl)

weaken : {T E : Type 0} (P Q : T → Type 0) → ((x : T) → P x → Q x) → (r : Result T E) → IfOk r P → IfOk r Q
weaken P Q f (Ok x) h = f x h
weaken P Q f (Err e) h = tt

module _ (view : View) (owner : PubKey) (old new : Batch) (log : Key) (log_is : log ≡ head_key_of owner) (edges : List (Key × Edge)) (edge : Option Edge) (edge_is : edge ≡ edge_in edges log) where
  there : edge ≡ edge_in edges (head_key_of owner)
  there = edge_is ∙ ap (edge_in edges) log_is

  pub opens_some : (heads tried : List Stamp) (held : ℕ) (floor : Vector) → held ≡ seq_of old.held log → old.floor ≡ floor → AreToTry heads (stamp_at floor log) held tried → (t : Trying) → IsBegunAt owner held tried None t
      → (r : Result Settled Memory) → IfOk r (SettlesAs view edge t old new) → IfOk r (Opens view owner (edge_in edges (head_key_of owner)) heads old new)
  opens_some heads tried held floor held_is floor_is are t is r ok =
      let held_there : held ≡ seq_of old.held (head_key_of owner) = held_is ∙ ap (seq_of old.held) log_is in
      let are_there : AreToTry heads (stamp_at old.floor (head_key_of owner)) (seq_of old.held (head_key_of owner)) tried =
      subst (λ (h : ℕ). AreToTry heads (stamp_at old.floor (head_key_of owner)) h tried) held_there
      (subst (λ (v : Vector). AreToTry heads (stamp_at v (head_key_of owner)) held tried) (sym floor_is) (subst (λ (k : Key). AreToTry heads (stamp_at floor k) held tried) log_is are)) in
      weaken (SettlesAs view (edge_in edges (head_key_of owner)) t old new) (Opens view owner (edge_in edges (head_key_of owner)) heads old new)
      (λ s w. (tried, are_there, opened view owner (edge_in edges (head_key_of owner)) old new tried t (subst (λ (h : ℕ). IsBegunAt owner h tried None t) held_there is) s w))
      r (subst (λ (e : Option Edge). IfOk r (SettlesAs view e t old new)) there ok)

  pub goes_on_with : (before t : Trying) (bytes : List ℕ) → t.walk.owner ≡ owner → HasBeenTold before t bytes → (r : Result Settled Memory) → IfOk r (SettlesAs view edge t old new)
      → IfOk r (GoesOn view owner (edge_in edges (head_key_of owner)) before bytes old new)
  goes_on_with before t bytes of_owner told r ok =
      weaken (SettlesAs view (edge_in edges (head_key_of owner)) t old new) (GoesOn view owner (edge_in edges (head_key_of owner)) before bytes old new)
      (λ s w. went_on view owner (edge_in edges (head_key_of owner)) old new before t bytes of_owner told s w) r (subst (λ (e : Option Edge). IfOk r (SettlesAs view e t old new)) there ok)

-- where there are no heads to try
pub opens_none : (view : View) (owner : PubKey) (edge : Option Edge) (old : Batch) (heads tried : List Stamp) (log : Key) (held : ℕ) (floor : Vector) → log ≡ head_key_of owner → held ≡ seq_of old.held log → old.floor ≡ floor
    → AreToTry heads (stamp_at floor log) held tried → tried ≡ [] → Opens view owner edge heads old old (settled.Over None)
opens_none view owner edge old heads tried log held floor log_is held_is floor_is are none =
    let held_there : held ≡ seq_of old.held (head_key_of owner) = held_is ∙ ap (seq_of old.held) log_is in (
      tried,
      subst (λ (h : ℕ). AreToTry heads (stamp_at old.floor (head_key_of owner)) h tried) held_there
          (subst (λ (v : Vector). AreToTry heads (stamp_at v (head_key_of owner)) held tried) (sym floor_is) (subst (λ (k : Key). AreToTry heads (stamp_at floor k) held tried) log_is are)),
      nothing_to_try view owner edge old tried none,
    )
