-- The fetch of all members begins, goes on, and is through.
use Rattle.std.proofs.Common.{◌≡◌, ℕ, ◌+◌, ◌-◌, ◌*◌, ◌^◌, ◌<◌, ◌≤◌, List, [], ◌∷◌, ◌++◌, take, drop, length, get_or, Contains, Some, None, refl, sym, ap, ◌∙◌, subst, arith}
use Rattle.std.specs.Prelude.{◌≢◌}
use Rattle.std.proofs.lemmas.List.{append-nil}
use Rattle.std.proofs.Math.Seq.{take-length}
use Rattle.ivy_base.specs.declared.key.PubKey.{PubKey}
use Rattle.ivy_base.specs.Naming.{head_key_of}
use Rattle.log_model.specs.View.{IsView}
use Rattle.log_model.specs.Vector.{Stamp, Vector, stamp_at, seq_of}
use Rattle.agent_model.specs.Standing as agent
use Rattle.session_model.specs.Brought.{Brought}
use Rattle.log_fetch.specs.Order.{AreToTry}
use Rattle.log_fetch.specs.Trying.{Trying, HasTried, trial_left}
use Rattle.log_fetch.specs.declared.gather.Known.{Known}
use Rattle.log_fetch.specs.declared.gather.Passed.{Passed}
use Rattle.log_fetch.specs.declared.gather.Stage.{Stage}
use Rattle.log_fetch.specs.declared.gather.Stage.TheVariants as stage
use Rattle.log_fetch.specs.Edges.{edge_in}
use Rattle.log_fetch.specs.Gathering.{HeadsCame, StandsSo, HasPassed, Gathers, IsPassing, IsNext, IsGathering, StandsWith, BeginsLog, GathersFrom, Advances, gathering_of, gets_in, seen}
use Rattle.log_fetch.specs.Gathering.HeadsCame.{of_own}
use Rattle.log_fetch.specs.Gathering.StandsSo.{wants_heads, wants_block, all_through}
use Rattle.log_fetch.proofs.Lefts.{heads_behind, blocks_behind, none_behind}
use Rattle.log_fetch.proofs.Members.{rest_at, no_rest, in_take}
use Rattle.log_fetch.proofs.Passing.{one_passed, still_passing}

pub next_at : (k : Known) (p : Passed) (items tested : List PubKey) (d : PubKey) → items ≡ k.view.members → tested ≡ k.view.members → IsView k.view → p.at < length tested → IsNext k p (get_or items p.at d)
next_at k p items tested d same also is_view less = record {
  is_view = is_view;
  owner_is = subst (λ (l : List PubKey). drop p.at l ≡ get_or items p.at d ∷ drop (p.at + 1) l) same (rest_at items p.at d (subst (λ (l : List PubKey). p.at < length l) (also ∙ sym same) less));
}

-- ---- where it stands

-- a block of the log in progress is wanted
pub record InProgress (s : agent.Standing) (start : Vector) (owners : List PubKey) (now : List Brought) (t : Trying) : Type 0 where
  pub owner : PubKey
  pub rest : List PubKey
  pub came : List Brought
  pub walked : List Brought
  pub all : List Stamp
  pub owners_are : owners ≡ owner ∷ rest
  pub now_is : now ≡ came ++ walked
  pub heads_came : HeadsCame s start owner came all
  pub left : t.walk.left ≢ 0
  pub of_owner : t.walk.owner ≡ owner
  pub tried : HasTried s.view owner start s.floor (edge_in s.edges (head_key_of owner)) all walked t

pub in_progress : (s : agent.Standing) (start : Vector) (owners : List PubKey) (now : List Brought) (t : Trying) → StandsSo s start owners now (stage.Log t) → InProgress s start owners now t
in_progress s start owners now t (wants_block owner rest came walked all t2 heads_came left of_owner tried) = record {
  owner = owner;
  rest = rest;
  came = came;
  walked = walked;
  all = all;
  owners_are = refl;
  now_is = refl;
  heads_came = heads_came;
  left = left;
  of_owner = of_owner;
  tried = tried;
}

-- heads are wanted
pub record Awaits (s : agent.Standing) (owners : List PubKey) (now : List Brought) (owner : PubKey) : Type 0 where
  pub rest : List PubKey
  pub owners_are : owners ≡ owner ∷ rest
  pub now_is : now ≡ []
  pub other : owner ≢ s.own

pub awaits : (s : agent.Standing) (start : Vector) (owners : List PubKey) (now : List Brought) (owner : PubKey) → StandsSo s start owners now (stage.Heads owner) → Awaits s owners now owner
awaits s start owners now owner (wants_heads o rest other) = record { rest = rest; owners_are = refl; now_is = refl; other = other }

-- so a fetch that comes there stands
module _ (k : Known) (p : Passed) (at : Stage) (now : List Brought) (stands : StandsSo (seen k) p.batch.held (drop p.at k.view.members) now at) where
  pub gathering : IsView k.view → IsPassing k p → IsGathering (record { known = k; passed = p; stage = at })
  gathering is_view passing = record { is_view = is_view; passing = passing; now = now; stands = stands }

  pub gathers : (start : Vector) (before brought : List Brought) → brought ≡ before ++ now → HasPassed k start before p → Gathers start brought (record { known = k; passed = p; stage = at })
  gathers start before brought brought_is h = record {
    before = before;
    now = now;
    brought_is = brought_is;
    passed = h;
    stands = subst (λ (v : Vector). StandsSo (seen k) v (drop p.at k.view.members) now at) h.started stands;
  }

-- ---- it advances

-- the own log was passed, for which nothing was brought
pub record GoesFrom (k : Known) (old new : Passed) : Type 0 where
  pub passing : IsPassing k new
  pub passed : (start : Vector) (brought : List Brought) → HasPassed k start brought old → HasPassed k start brought new
  pub up : old.at ≤ new.at

module _ (k : Known) (p : Passed) where
  -- to a member whose heads are wanted
  module _ (owner : PubKey) (next : IsNext k p owner) (other : owner ≢ k.own) where
    stands_at : StandsSo (seen k) p.batch.held (drop p.at k.view.members) [] (stage.Heads owner)
    stands_at = subst (λ (l : List PubKey). StandsSo (seen k) p.batch.held l [] (stage.Heads owner)) (sym next.owner_is) (wants_heads owner (drop (p.at + 1) k.view.members) other)

    heads_gather : GathersFrom k p (gathering_of k p (stage.Heads owner))
    heads_gather = λ start brought h. gathers k p (stage.Heads owner) [] stands_at start brought brought (sym (append-nil brought)) h

    pub to_heads : (from : Passed) → GoesFrom k from p → p.at < length k.view.members → Advances k from p (stage.Heads owner)
    to_heads from went less = record {
      legal = gathering k p (stage.Heads owner) [] stands_at next.is_view went.passing;
      from = λ start brought h. heads_gather start brought (went.passed start brought h);
      left = heads_behind (length k.view.members) from.at p.at went.up less;
    }

  -- to the end
  module _ (over : length k.view.members ≤ p.at) where
    stands_through : StandsSo (seen k) p.batch.held (drop p.at k.view.members) [] stage.Through
    stands_through = subst (λ (l : List PubKey). StandsSo (seen k) p.batch.held l [] stage.Through) (sym (no_rest k.view.members p.at over)) all_through

    pub through_gathering : IsView k.view → IsPassing k p → IsGathering (gathering_of k p stage.Through)
    through_gathering is_view passing = gathering k p stage.Through [] stands_through is_view passing

    through_gathers : GathersFrom k p (gathering_of k p stage.Through)
    through_gathers = λ start brought h. gathers k p stage.Through [] stands_through start brought brought (sym (append-nil brought)) h

    pub to_end : (from : Passed) → GoesFrom k from p → IsView k.view → Advances k from p stage.Through
    to_end from went is_view = record {
      legal = through_gathering is_view went.passing;
      from = λ start brought h. through_gathers start brought (went.passed start brought h);
      left = none_behind (length k.view.members) from.at p.at over;
    }

-- it may be left there at any time
pub ends_here : (k : Known) (p : Passed) (count : ℕ) → count ≡ length k.view.members → IsView k.view → IsPassing k p → IsGathering (gathering_of k (record p { at = count }) stage.Through)
ends_here k p count count_is is_view passing = through_gathering k (record p { at = count }) (omega (arith, count_is)) is_view (record {
  floor_is = passing.floor_is;
  of_passed = λ o c. subst (λ (l : List PubKey). Contains l o) (sym (ap (λ (n : ℕ). take n k.view.members) count_is ∙ take-length k.view.members)) (in_take k.view.members p.at o (passing.of_passed o c));
  under = passing.under;
})

-- ---- a member's log is begun with

module _ (k : Known) (old new : Passed) (owner : PubKey) (next : IsNext k old owner) where
  -- the next member is after it, where it is through
  pub at_next : {heads : List Stamp} → BeginsLog k old new owner heads None → new.at ≡ old.at + 1
  at_next b = ap (λ (p : Passed). p.at) b.2.4

  -- a block of it is wanted
  module _ (all : List Stamp) (came walked : List Brought) (heads_came : HeadsCame (seen k) old.batch.held owner came all) (t : Trying) (stands : StandsWith k old new owner all walked (Some t)) where
    stands_on : StandsSo (seen k) new.batch.held (drop new.at k.view.members) (came ++ walked) (stage.Log t)
    stands_on = subst (λ (p : Passed). StandsSo (seen k) p.batch.held (drop p.at k.view.members) (came ++ walked) (stage.Log t)) (sym stands.0)
        (subst (λ (l : List PubKey). StandsSo (seen k) old.batch.held l (came ++ walked) (stage.Log t)) (sym next.owner_is)
        (wants_block owner (drop (old.at + 1) k.view.members) came walked all t heads_came stands.1 stands.2 stands.3))

    pub log_gathering : IsPassing k old → IsGathering (record { known = k; passed = new; stage = stage.Log t })
    log_gathering passing = gathering k new (stage.Log t) (came ++ walked) stands_on next.is_view (subst (IsPassing k) (sym stands.0) passing)

    pub log_gathers : (start : Vector) (before brought : List Brought) → brought ≡ before ++ (came ++ walked) → HasPassed k start before old → Gathers start brought (record { known = k; passed = new; stage = stage.Log t })
    log_gathers start before brought brought_is h = gathers k new (stage.Log t) (came ++ walked) stands_on start before brought brought_is (subst (HasPassed k start before) (sym stands.0) h)

  -- the own one, for which nothing is brought
  module _ (own : owner ≡ k.own) where
    own_came : (start : Vector) → old.batch.held ≡ start → (all : List Stamp) → AreToTry [] (stamp_at k.floor (head_key_of owner)) (seq_of old.batch.held (head_key_of owner)) all → HeadsCame (seen k) start owner [] all
    own_came start started all are = of_own all own (subst (λ (v : Vector). AreToTry [] (stamp_at k.floor (head_key_of owner)) (seq_of v (head_key_of owner)) all) started are)

    pub to_block : (from : Passed) → GoesFrom k from old → old.at < length k.view.members → (t : Trying) → trial_left t < 2 ^ 96 → BeginsLog k old new owner [] (Some t) → Advances k from new (stage.Log t)
    to_block from went less t few b = record {
      legal = log_gathering b.0 [] [] (own_came old.batch.held refl b.0 b.1) t b.2 went.passing;
      from = λ start brought h. let h_old = went.passed start brought h in log_gathers b.0 [] [] (own_came old.batch.held refl b.0 b.1) t b.2 start brought brought (sym (append-nil brought)) h_old;
      left = subst (λ (p : Passed). gets_in (gathering_of k p (stage.Log t)) ≤ (2 + 2 ^ 96) * (length k.view.members - from.at)) (sym b.2.0) (blocks_behind (length k.view.members) from.at old.at (trial_left t) went.up less few);
    }

    pub to_next : (from : Passed) → GoesFrom k from old → BeginsLog k old new owner [] None → GoesFrom k from new
    to_next from went b = record {
      passing = still_passing k old new owner next b.0 [] b.2 went.passing;
      passed = λ start brought h. let h_old = went.passed start brought h in
          subst (λ (l : List Brought). HasPassed k start l new) (append-nil brought) (one_passed k old new owner next b.0 [] b.2 start brought h_old [] (own_came start h_old.started b.0 b.1));
      up = let up = went.up in let one = at_next b in omega (arith, up, one);
    }
