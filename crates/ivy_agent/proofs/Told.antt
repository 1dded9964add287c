-- What a session is told that an agent stands for.
use Rattle.std.proofs.Common.{◌≡◌, Bool, List, Option, Some, sym, ap, ◌∙◌, subst, Contains}
use Rattle.std.specs.Prelude.{IfSome}
use Rattle.std.specs.List.{AllByRecursion}
use Rattle.ivy_base.specs.declared.key.Key.{Key}
use Rattle.ivy_base.specs.declared.key.PubKey.{PubKey}
use Rattle.log_model.specs.Record.{Record}
use Rattle.log_model.specs.Spelling.{HasSpelling, IsKey}
use Rattle.log_model.specs.Vector.{Vector}
use Rattle.log_model.specs.View.{View}
use Rattle.log_model.proofs.Lists.{each, each_from}
use Rattle.dht_ids.specs.declared.post.Post.{Post}
use Rattle.replay_engine.specs.Rows.{IsRow}
use Rattle.log_fetch.specs.Standings.{standing_of}
use Rattle.log_fetch.specs.declared.standing.Standing.{Standing}
use Rattle.replay_engine.specs.Engines.{Engine, holding}
use Rattle.log_model.specs.Signing.{Signing}
use Rattle.agent_model.specs.SavedBytes.{AreOpaque, ArePostsSpelled, HasItsName}
use Rattle.agent_model.specs.Standing.{standing_in}
use Rattle.ivy_agent.specs.Edges.{IsBeyond, KnowsOthers, newest_edges}
use Rattle.ivy_agent.proofs.Reached.{all_beyond}
use Rattle.agent_model.specs.Agent.{joined}
use Rattle.ivy_agent.specs.Holders.{Holder, IsSound, Stands, StandsIn, agent_of}
use Rattle.ivy_agent.specs.declared.saving.Kept.{Kept}
use Rattle.ivy_agent.proofs.Drafting.{owner_is}

-- a record knows nothing of its own log
pub know_others : (rs : List Record) → IsRow rs → AllByRecursion KnowsOthers rs
know_others rs row = each_from KnowsOthers rs (λ r c. (each HasSpelling rs r row.spelled c).of_others)

-- posts that have a spelling have their names
have_names : (posts : List Post) → ArePostsSpelled posts → AllByRecursion HasItsName posts
have_names posts h = each_from HasItsName posts (λ p c. (each (λ q. IsKey q.key × HasItsName q × AreOpaque q.bytes) posts p h.each c).1)

pub told_named : {told : List Post} (posts : List Post) → told ≡ posts → ArePostsSpelled posts → AllByRecursion HasItsName told
told_named posts same h = subst (λ (told : List Post). AllByRecursion HasItsName told) (sym same) (have_names posts h)

module _ {K S : Type 0} (signs : Signing S) (k : Kept S) (e : Engine) (to_load : Option Key) (has_failed : Bool) (keeper : K) (before : Holder K S) (is : record { agent = agent_of k e to_load has_failed; keeper = keeper } ≡ before)
    (front : Vector) (sound : IsSound signs (agent_of k e to_load has_failed) k.log front) where
  pub told : (view : View) → k.view ≡ Some view → (own : PubKey) → own.0 ≡ signs.key k.signer → (records : List Record) → records ≡ (holding e).held → (blank s : Standing) → blank.view ≡ view → blank.own ≡ own → blank.basis ≡ to_load
      → s ≡ record blank { held = front; floor = k.floor; edges = newest_edges records; pending = k.pending } → IfSome before.agent.view (λ view. standing_of s ≡ standing_in signs before.agent view)
  told view in_view own key records held blank s view_is own_is basis_is s_is =
      let own_so = own_is ∙ owner_is signs k.signer own key in
      subst (λ (h : Holder K S). IfSome h.agent.view (λ view. standing_of s ≡ standing_in signs h.agent view)) is
      (subst (λ (o : Option View). IfSome o (λ view. standing_of s ≡ standing_in signs (agent_of k e to_load has_failed) view)) (sym in_view)
      (ap standing_of s_is ∙ (λ i. record {
        view = view_is i;
        own = own_so i;
        floor = k.floor;
        held = sound.its_front i;
        edges = newest_edges (held i);
        to_load = basis_is i;
        pending = k.pending;
      })))

  -- what is held is of the view's members
  pub of_members : (view : View) → k.view ≡ Some view → (told : View) → told ≡ view → (records : List Record) → records ≡ (holding e).held → AllByRecursion (λ r. Contains told.members r.owner) records
  of_members view in_view told told_is records held =
      let stands : StandsIn signs (agent_of k e to_load has_failed) view = subst (Stands signs (agent_of k e to_load has_failed)) in_view sound.stands in
      subst (λ (v : View). AllByRecursion (λ r. Contains v.members r.owner) records) (sym told_is)
      (subst (λ (rs : List Record). AllByRecursion (λ r. Contains view.members r.owner) rs) (sym held) stands.closed.members)

  -- and beyond the basis
  pub are_beyond : (view : View) → k.view ≡ Some view → (base : Vector) → base ≡ (holding e).basis.front → (records : List Record) → records ≡ (holding e).held → IsRow records → AllByRecursion (IsBeyond base front) records
  are_beyond view in_view base base_is records held row =
      let stands : StandsIn signs (agent_of k e to_load has_failed) view = subst (Stands signs (agent_of k e to_load has_failed)) in_view sound.stands in
      let all : AllByRecursion (IsBeyond (holding e).basis.front (joined (holding e))) (holding e).held =
      all_beyond view (holding e).basis.front (holding e).held stands.closed (subst (AllByRecursion KnowsOthers) held (know_others records row)) in
      subst (λ (b : Vector). AllByRecursion (IsBeyond b front) records) (sym base_is)
      (subst (λ (f : Vector). AllByRecursion (IsBeyond (holding e).basis.front f) records) (sym sound.its_front)
      (subst (λ (rs : List Record). AllByRecursion (IsBeyond (holding e).basis.front (joined (holding e))) rs) (sym held) all))
