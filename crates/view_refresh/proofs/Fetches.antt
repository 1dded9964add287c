-- How a fetch stands by what it was brought: that it hasn't failed, or has, and what it wants.
use Rattle.std.proofs.Common.{◌≡◌, ◌≢◌, ℕ, true, false, List, Option, Some, None, refl, sym, ◌∙◌}
use Rattle.ivy_base.specs.declared.key.Key.{Key}
use Rattle.ivy_base.specs.declared.key.PubKey.{PubKey}
use Rattle.log_model.specs.Vector.{Vector}
use Rattle.dht_ids.specs.declared.ask.Ask.{Ask}
use Rattle.dht_ids.specs.declared.ask.Heard.{Heard}
use Rattle.dht_ids.specs.declared.peer.Peer.{Peer}
use Rattle.dhash_model.specs.declared.miss.Miss.{Miss}
use Rattle.dhash_client.specs.GetHead.{Judges}
use Rattle.agent_model.specs.Standing.{Chain, Standing}
use Rattle.session_model.specs.Brought.{Brought, Part, WantedOfRing, Content, brought_in}
use Rattle.session_model.specs.Refreshing.{FetchesAll, Note, RefreshEnd, Needs, FailsBy, Done}
use Rattle.session_laws.proofs.OneRefresh.{fetch_is_deterministic}
use Rattle.log_fetch.specs.declared.fetch.State.{State}
use Rattle.log_fetch.specs.declared.fetch.State.TheVariants as state
use Rattle.log_fetch.specs.declared.gather.Stage.{Stage}
use Rattle.log_fetch.specs.declared.get.Get.{Get}
use Rattle.log_fetch.specs.declared.get.Get.TheVariants as get
use Rattle.log_fetch.specs.Fetching.{Fetching, FetchIsAfter, IsAsking, IsFor, IsSound, aim, aim_in, awaited_in, failed_in, free_block, is_failed}
use Rattle.log_fetch.specs.Gathering.{heads_wanted, block_wanted}
use Rattle.view_refresh.proofs.Reaching.{end_for, gathers_stand}

true_or_false : true ≡ false → ⊥
true_or_false e = cc e

some_or_none : {T : Type 0} (x : T) → Some x ≡ None → ⊥
some_or_none x e = cc e

-- what was brought came to that
abbrev pub ComesTo : Standing → Vector → List Brought → RefreshEnd → Type 0
ComesTo s start brought end = (notes : List Note) × (chains : List Chain) × FetchesAll (record { standing = s; start = start }) s.view.members brought notes chains end

-- whatever end it has, it is one
pub one_end : (s : Standing) (start : Vector) (brought : List Brought) (end other : RefreshEnd) → ComesTo s start brought end → ComesTo s start brought other → end ≡ other
one_end s start brought end other a b = (fetch_is_deterministic s start s.view.members brought a.0 b.0 a.1 b.1 end other a.2 b.2).2

-- ---- it hasn't failed

abbrev pub end_in : {J : Type 0} → State J → RefreshEnd
end_in (state.Free g) = end_for (heads_wanted g.stage) (block_wanted g.stage)
end_in (state.Asking g x) = end_for (heads_wanted g.stage) (block_wanted g.stage)
end_in (state.Ended fetched) = Done
end_in state.Over = Done

module _ {J : Type 0} (judges : Judges J) (entries : List Peer) (s : Standing) (start : Vector) (brought : List Brought) (current : List Heard) where
  stands_at : (st : State J) → IsAsking judges entries s start brought current st → failed_in st ≡ false → ComesTo s start brought (end_in st)
  stands_at (state.Free g) h un = gathers_stand s start brought g h.0 h.1
  stands_at (state.Asking g x) h un = gathers_stand s start brought g h.0 h.1
  stands_at (state.Ended fetched) h un = absurd (true_or_false un)
  stands_at state.Over h un = absurd h

pub stands : {J : Type 0} (judges : Judges J) (s : Standing) (start : Vector) (f : Fetching J) {parts : List Part} {current : List Heard} → FetchIsAfter judges s start parts current f → is_failed f ≡ false → ComesTo s start (brought_in parts) (end_in f.state)
stands judges s start f {parts} {current} h un = stands_at judges f.entries s start (brought_in parts) current f.state h.asking un

not_fails : (heads : Option PubKey) (block : Option Key) (miss : Miss) → end_for heads block ≡ FailsBy miss → ⊥
not_fails (Some owner) block miss e = cc e
not_fails None (Some key) miss e = cc e
not_fails None None miss e = cc e

pub in_not_fails : {J : Type 0} (st : State J) (miss : Miss) → end_in st ≡ FailsBy miss → ⊥
in_not_fails (state.Free g) miss e = not_fails (heads_wanted g.stage) (block_wanted g.stage) miss e
in_not_fails (state.Asking g x) miss e = not_fails (heads_wanted g.stage) (block_wanted g.stage) miss e
in_not_fails (state.Ended fetched) miss e = cc e
in_not_fails state.Over miss e = cc e

-- ---- the block that is wanted next

block_of_end : (heads : Option PubKey) (block : Option Key) (key : Key) → end_for heads block ≡ Needs (Content key) → block ≡ Some key
block_of_end (Some owner) block key e = cc e
block_of_end None (Some other) key e = cc e
block_of_end None None key e = cc e

module _ {J : Type 0} (judge : J) (replicas : ℕ) where
  pub free_wants : (st : State J) (key : Key) → IsSound judge replicas st → failed_in st ≡ false → awaited_in st ≡ None → end_in st ≡ Needs (Content key) → free_block st ≡ Some key
  free_wants (state.Free g) key sound un free e = block_of_end (heads_wanted g.stage) (block_wanted g.stage) key e
  free_wants (state.Asking g x) key sound un free e = absurd (some_or_none (x.node, x.question) (sym sound.1 ∙ free))
  free_wants (state.Ended fetched) key sound un free e = absurd (true_or_false un)
  free_wants state.Over key sound un free e = cc e

-- ---- it has failed

module _ {J : Type 0} (judges : Judges J) (entries : List Peer) (s : Standing) (start : Vector) (brought : List Brought) (current : List Heard) where
  fails_at : (st : State J) → IsAsking judges entries s start brought current st → failed_in st ≡ true → (miss : Miss) × ComesTo s start brought (FailsBy miss)
  fails_at (state.Free g) h e = cc e
  fails_at (state.Asking g x) h e = cc e
  fails_at (state.Ended fetched) h e = (h.1, (h.2.0, h.2.1, h.2.2))
  fails_at state.Over h e = cc e

pub fails_by : {J : Type 0} (judges : Judges J) (s : Standing) (start : Vector) (f : Fetching J) {parts : List Part} {current : List Heard} → FetchIsAfter judges s start parts current f → is_failed f ≡ true → (miss : Miss) × ComesTo s start (brought_in parts) (FailsBy miss)
fails_by judges s start f {parts} {current} h e = fails_at judges f.entries s start (brought_in parts) current f.state h.asking e

-- then no node is to be heard
pub failed_is_free : {J : Type 0} (st : State J) → failed_in st ≡ true → awaited_in st ≡ None
failed_is_free (state.Free g) e = refl
failed_is_free (state.Asking g x) e = cc e
failed_is_free (state.Ended fetched) e = refl
failed_is_free state.Over e = refl

-- ---- a node is to be heard

-- what waits for an answer hasn't failed
pub waiting_goes_on : {J : Type 0} (st : State J) → awaited_in st ≢ None → failed_in st ≡ false
waiting_goes_on (state.Free g) some = refl
waiting_goes_on (state.Asking g x) some = refl
waiting_goes_on (state.Ended fetched) some = absurd (some refl)
waiting_goes_on state.Over some = refl

pub awaits_on : {J : Type 0} (st : State J) (x : Peer × Ask) → awaited_in st ≡ Some x → failed_in st ≡ false
awaits_on st x e = waiting_goes_on st (λ none. some_or_none x (sym e ∙ none))

-- and something is wanted
heads_lack : (heads : Option PubKey) (block : Option Key) (owner : PubKey) → heads ≡ Some owner → end_for heads block ≡ Done → ⊥
heads_lack None block owner some e = cc some
heads_lack (Some other) block owner some e = cc e

block_lacks : (heads : Option PubKey) (block : Option Key) (key : Key) → block ≡ Some key → end_for heads block ≡ Done → ⊥
block_lacks (Some owner) block key some e = cc e
block_lacks None None key some e = cc some
block_lacks None (Some other) key some e = cc e

get_lacks : {J : Type 0} (judge : J) (replicas : ℕ) (at : Stage) (x : Get J) → IsFor judge replicas at x → end_for (heads_wanted at) (block_wanted at) ≡ Done → ⊥
get_lacks judge replicas at (get.Heads owner s) fits e = heads_lack (heads_wanted at) (block_wanted at) owner fits.0 e
get_lacks judge replicas at (get.Block s) fits e = block_lacks (heads_wanted at) (block_wanted at) s.execution.look.key fits.0 e

pub waits_or_done : {J : Type 0} (judge : J) (replicas : ℕ) (st : State J) (x : Peer × Ask) → IsSound judge replicas st → awaited_in st ≡ Some x → end_in st ≡ Done → ⊥
waits_or_done judge replicas (state.Free g) x sound waits e = some_or_none x (sym waits)
waits_or_done judge replicas (state.Asking g w) x sound waits e = get_lacks judge replicas g.stage w.get sound.0 e
waits_or_done judge replicas (state.Ended fetched) x sound waits e = some_or_none x (sym waits)
waits_or_done judge replicas state.Over x sound waits e = some_or_none x (sym waits)

pub there_is_aim : {J : Type 0} (st : State J) (x : Peer × Ask) → awaited_in st ≡ Some x → (want : WantedOfRing) × (aim_in st ≡ Some want)
there_is_aim (state.Free g) x waits = absurd (some_or_none x (sym waits))
there_is_aim (state.Asking g w) x waits = (aim w.get, refl)
there_is_aim (state.Ended fetched) x waits = absurd (some_or_none x (sym waits))
there_is_aim state.Over x waits = absurd (some_or_none x (sym waits))

pub there_is : {T : Type 0} (o : Option T) → o ≢ None → (x : T) × (o ≡ Some x)
there_is None some = absurd (some refl)
there_is (Some x) some = (x, refl)
