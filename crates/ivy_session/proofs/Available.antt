-- The block that is wanted, where it is available.
use Rattle.std.proofs.Common.{◌≡◌, ◌≢◌, ◌<◌, ◌≤◌, ℕ, Bool, true, false, List, Option, Some, None, IfSome, Result, Ok, Err, refl, sym, ap, ◌∙◌, subst, arith}
use Rattle.ivy_base.specs.declared.key.Key.{Key}
use Rattle.ivy_base.specs.declared.memory.Memory.{Memory}
use Rattle.ivy_base.specs.Naming.{name}
use Rattle.dhash_client.specs.GetHead.{Judges}
use Rattle.dhash_model.specs.Cache.{block_of, moved_to_front}
use Rattle.session_model.specs.Sessions.{Cache, pending_block}
use Rattle.view_refresh.specs.States.{Refreshing as RefreshState, refresh_left, refresh_wanted}
use Rattle.view_refresh.specs.Steps.{RefreshWasGiven, TakesPending}
use Rattle.ivy_session.specs.Taking.{IsAway, TakesHand, TakesOne}
use Rattle.ivy_session.proofs.Taken.{HasTakenSome, all_taken, one_taken, some_taken, takes_cached, takes_posted}

some_or_none : {T : Type 0} (x : T) → Some x ≡ None → ⊥
some_or_none x e = cc e

-- ---- it is pending

module _ {J : Type 0} (judges : Judges J) (old mid : RefreshState J) (cache : Cache) (taken : Bool) (pending : TakesPending judges old mid taken) where
  pub one_pending : taken ≡ true → (taken ≡ true → refresh_left mid < refresh_left old) → TakesOne judges old mid cache cache (Ok true)
  one_pending is left =
      let p = subst (TakesPending judges old mid) is pending in
      (takes_posted judges old mid p.0 p.1 cache p.2 p.3 p.4, left is)

  -- ---- it isn't, but may be in the cache

  module _ (none : taken ≡ false) where
    unpended : (mid ≡ old) × IfSome (refresh_wanted old) (λ key. pending_block key old.pending ≡ None)
    unpended = subst (TakesPending judges old mid) none pending

    pub nothing_wanted : None ≡ refresh_wanted mid → TakesOne judges old mid cache cache (Ok false)
    nothing_wanted e = (unpended.0, refl, subst (λ (o : Option Key). IsAway o old.pending cache) (e ∙ ap refresh_wanted unpended.0) tt)

    module _ (key : Key) (want : Some key ≡ refresh_wanted mid) where
      wanted : refresh_wanted old ≡ Some key
      wanted = sym (want ∙ ap refresh_wanted unpended.0)

      not_pending : pending_block key old.pending ≡ None
      not_pending = subst (λ (o : Option Key). IfSome o (λ k. pending_block k old.pending ≡ None)) wanted unpended.1

      pub nothing_available : None ≡ block_of key cache → TakesOne judges old mid cache cache (Ok false)
      nothing_available away = (unpended.0, refl, subst (λ (o : Option Key). IsAway o old.pending cache) (sym wanted) (not_pending, sym away))

      pub one_cached : (new : RefreshState J) (after : Cache) (bytes : List ℕ) → Some bytes ≡ block_of key cache → after ≡ moved_to_front key cache → RefreshWasGiven judges mid new bytes → refresh_left new < refresh_left mid
          → TakesOne judges old new cache after (Ok true)
      one_cached new after bytes found moved given left =
          subst (λ (c : Cache). TakesOne judges old new cache c (Ok true)) (sym moved) (
            takes_cached judges old new key bytes cache wanted not_pending (sym found) (subst (λ (r : RefreshState J). RefreshWasGiven judges r new bytes) unpended.0 given),
            subst (λ (r : RefreshState J). refresh_left new < refresh_left r) unpended.0 left,
          )

-- what a refresh needs to know of the block
module _ {J : Type 0} (r : RefreshState J) (key : Key) (want : Some key ≡ refresh_wanted r) where
  pub is_wanted : refresh_wanted r ≢ None
  is_wanted none = some_or_none key (want ∙ none)

  pub is_named : (bytes : List ℕ) → key ≡ name bytes → refresh_wanted r ≡ Some (name bytes)
  is_named bytes named = sym want ∙ ap (λ (k : Key). Some k) named

-- ---- one after the other

module _ {J : Type 0} (judges : Judges J) (old mid new : RefreshState J) (before between after : Cache) (h : HasTakenSome judges old mid before between) where
  pub takes_on : (found : Bool) → TakesOne judges mid new between after (Ok found) → found ≡ true → HasTakenSome judges old new before after
  takes_on found one e = one_taken judges old mid new before between after h (subst (λ (b : Bool). TakesOne judges mid new between after (Ok b)) e one).0

  pub has_taken : (found : Bool) → TakesOne judges mid new between after (Ok found) → found ≡ false → TakesHand judges old new before after (Ok tt)
  has_taken found one e =
      let none = subst (λ (b : Bool). TakesOne judges mid new between after (Ok b)) e one in
      subst (λ (r : RefreshState J). TakesHand judges old r before after (Ok tt)) (sym none.0)
      (subst (λ (c : Cache). TakesHand judges old mid before c (Ok tt)) (sym none.1) (all_taken judges old mid before between h none.2))

  pub lacks_block : (lacks : Memory) → TakesOne judges mid new between after (Err lacks) → (given : Result (Unit {0}) Memory) → given ≡ Err lacks → TakesHand judges old new before after given
  lacks_block lacks one given e = subst (TakesHand judges old new before after) (sym e) (some_taken judges old mid new before between after lacks h one)

  pub leaves_no_more : (found : Bool) → TakesOne judges mid new between after (Ok found) → refresh_left mid ≤ refresh_left old → refresh_left new ≤ refresh_left old
  leaves_no_more true one no_more = let less = one.1 in omega (arith, less, no_more)
  leaves_no_more false one no_more = subst (λ (r : RefreshState J). refresh_left r ≤ refresh_left old) (sym one.0) no_more
