-- What was brought tells how the fetch stands that gathered it.
use Rattle.std.proofs.Common.{◌≡◌, ℕ, zero, suc, List, [], ◌++◌, map, drop, Option, Some, None, refl, ap, ◌∙◌, subst}
use Rattle.ivy_base.specs.declared.key.Key.{Key}
use Rattle.ivy_base.specs.declared.key.PubKey.{PubKey}
use Rattle.log_model.specs.Vector.{Vector}
use Rattle.agent_model.specs.Standing as agent
use Rattle.agent_model.specs.Standing.{chain_of}
use Rattle.session_model.specs.Brought.{Brought, Heads, Content}
use Rattle.session_model.specs.Refreshing as session
use Rattle.session_model.specs.Refreshing.{RefreshEnd, Needs, Done, FetchesAll}
use Rattle.log_fetch.specs.Trying.{Trying}
use Rattle.log_fetch.specs.Walking.{wanted_at, wanted_of}
use Rattle.log_fetch.specs.declared.gather.Stage.{Stage}
use Rattle.log_fetch.specs.declared.gather.Stage.TheVariants as stage
use Rattle.log_fetch.specs.Fetching.{IsSeen}
use Rattle.log_fetch.specs.Gathering.{Gathering, Gathers, StandsSo, heads_wanted, block_wanted, seen}
use Rattle.log_fetch.specs.Gathering.StandsSo.{wants_block}
use Rattle.log_fetch.proofs.Fetching.{fetches_as}
use Rattle.log_fetch.proofs.Stepping.{all_through, block_needed, heads_needed}

-- how it stands where these heads are wanted, or else this block
abbrev pub end_for : Option PubKey → Option Key → RefreshEnd
end_for (Some owner) block = Needs (Heads owner)
end_for None (Some key) = Needs (Content key)
end_for None None = Done

-- ---- where nothing is wanted all members are through

none_left : (left : ℕ) (next : Key) → wanted_at left next ≡ None → left ≡ 0
none_left zero next e = refl
none_left (suc left) next e = cc e

log_wants : (s : agent.Standing) (start : Vector) (owners : List PubKey) (now : List Brought) (t : Trying) → StandsSo s start owners now (stage.Log t) → wanted_of t.walk ≡ None → ⊥
log_wants s start owners now t (wants_block owner rest came walked all t2 heads_came left of_owner tried) e = left (none_left t.walk.left t.walk.next e)

module _ (s : agent.Standing) (start : Vector) (brought : List Brought) (g : Gathering) (is : IsSeen s g.known) (h : Gathers start brought g) where
  abbrev StandsAt : RefreshEnd → Type 0
  StandsAt end = (notes : List session.Note) × (chains : List agent.Chain) × FetchesAll (record { standing = s; start = start }) s.view.members brought notes chains end

  abbrev chains_so : List agent.Chain
  chains_so = map chain_of g.passed.batch.chains ++ []

  of_log : (t : Trying) → g.stage ≡ stage.Log t → (wanted : Option Key) → wanted_of t.walk ≡ wanted → StandsAt (end_for None wanted)
  of_log t at None e = absurd (log_wants (seen g.known) start (drop g.passed.at g.known.view.members) h.now t (subst (StandsSo (seen g.known) start (drop g.passed.at g.known.view.members) h.now) at h.stands) e)
  of_log t at (Some key) e = let w = block_needed start brought g h key (ap block_wanted at ∙ e) in (w.0, chains_so, fetches_as s start g.known is w.1)

  of_stage : (at : Stage) → g.stage ≡ at → StandsAt (end_for (heads_wanted at) (block_wanted at))
  of_stage (stage.Heads owner) e = (h.passed.noted ++ [], chains_so, fetches_as s start g.known is (heads_needed start brought g h owner (ap heads_wanted e)))
  of_stage (stage.Log t) e = of_log t e (wanted_of t.walk) refl
  of_stage stage.Through e = (h.passed.noted ++ [], chains_so, fetches_as s start g.known is (all_through start brought g h e))

  -- what is wanted of them is what the fetch of all needs
  pub gathers_stand : (notes : List session.Note) × (chains : List agent.Chain) × FetchesAll (record { standing = s; start = start }) s.view.members brought notes chains (end_for (heads_wanted g.stage) (block_wanted g.stage))
  gathers_stand = of_stage g.stage refl
