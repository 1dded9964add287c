-- How a session in code settles, is over, and begins.
use Rattle.std.proofs.Common.{◌≡◌, ◌≢◌, ⊎_elim, ℕ, true, false, List, [], ◌∷◌, Option, Some, None, Result, Ok, refl, sym, ap, ◌∙◌, subst}
use Rattle.std.specs.Prelude.{IfOk, IfSome, IsSomeAnd}
use Rattle.ivy_base.specs.declared.memory.Memory.{Memory}
use Rattle.dht_ids.specs.declared.peer.Peer.{Peer}
use Rattle.dht_ids.specs.declared.post.Ack.{Ack}
use Rattle.dhash_model.specs.Signed.{hss_judged}
use Rattle.log_heads.specs.declared.judge.HssJudge.{HssJudge}
use Rattle.log_model.specs.View.{View}
use Rattle.agent_model.specs.Standing.{Standing as ModelStanding, standing_in}
use Rattle.session_model.specs.Executions.{Begins}
use Rattle.session_model.specs.Executions.Begins.{alone, refreshes}
use Rattle.session_model.specs.Sessions.{Over, Publishing, Session, TakesSome}
use Rattle.log_fetch.specs.declared.standing.Standing.{Standing}
use Rattle.log_fetch.specs.Standings.{standing_of}
use Rattle.ivy_agent.specs.Calls as calls
use Rattle.ivy_session.specs.declared.served.Served.{Served}
use Rattle.ivy_session.specs.declared.session.Next.TheVariants as next
use Rattle.ivy_session.specs.Cutting.{IsCutAsWanted}
use Rattle.ivy_session.specs.States.{BeginsAs, SessionState, is_turning, served_of, session_awaited}
use Rattle.ivy_session.specs.Stepping.{IsSameSession, NextIs}
use Rattle.ivy_session.specs.Stepping.NextIs.{settles as next_settles, is_over as next_over, lacks_memory as next_lacks, is_cut as next_cut, is_unrouted}
use Rattle.ivy_session.proofs.Ended.{over_has_asked, over_is_past}
use Rattle.ivy_session.proofs.Staying.{some_same, taken_same}
use Rattle.server_model.specs.Acts.{Settling}
use Rattle.server_model.specs.Driving.{Driven, over_with}
use Rattle.server_model.specs.Driving.Does.{settles}
use Rattle.server_model.specs.Driving.Went.{none, is_cut, lacks_memory}
use Rattle.server_model.specs.Takers.Follows.{none as follows_none, settles as follows_settles}
use Rattle.ivy_server.specs.Passes.{GivesNothing, GivesSettling, GivesStanding, Passes}
use Rattle.ivy_server.specs.Served.{Leave}
use Rattle.ivy_server.specs.Sessions.{BeginsWith, GoesOn, Held, IsDriven, IsOver, Place, Setting, Touched, judges}
use Rattle.ivy_server.proofs.Asks.{as_place, driven_then}
use Rattle.ivy_server.proofs.Marks.{leave_settle}
use Rattle.ivy_server.proofs.Ways.{one_act}
use Rattle.ivy_server.proofs.Whole.{lacking_refreshed, more_is_whole, over_is_whole, refreshing_is_whole}

module _ (place : Place) (here : Driven) (old : Held) (is : IsDriven place here old) where
  no_entry : here.session.entries ≢ []
  no_entry empty = is.some_entry (sym is.entries ∙ is.is.entries ∙ empty)

module _ {P K S C : Type 0} (setting : Setting P K S C) (here : Driven) (old : Held) (is : IsDriven setting.place here old) where
  -- ---- a settling

  pub settle_goes : (acks : List Ack) (new : Held) (before after : Touched P C) → IsSameSession old.session new.session
      → IsCutAsWanted old.session new.session (next.Settle acks)
      → NextIs judges old.session new.session here.session here.cache new.cache (next.Settle acks) → GivesSettling setting.by before.pass acks after.pass → after.marks ≡ before.marks → GoesOn setting here new before after
  settle_goes acks new before after same cut (next_settles said _ at free stays session) gives marks =
      let publishes : here.session.stage ≡ Publishing said [] acks = ⊎_elim (λ e. e) (λ nobody. absurd (no_entry setting.place here old is nobody.0)) at in
      record {
        acts = Settling acks ∷ [];
        there = over_with here said;
        went = one_act _ (settles said acks publishes);
        follows = follows_settles acks follows_none gives;
        leave = subst (λ m. Leave setting.gives before.marks (Settling acks ∷ []) m) (sym marks) (leave_settle before.marks acks);
        driven = driven_then setting.place here old is (over_with here said) new same session (sym stays) (more_is_whole old.session new.session (next.Settle acks) cut refl ∙ is.cut) is.viewed (over_has_asked judges (record here.session { stage = Over said }) new.session said refl session)
            (over_is_past judges (record here.session { stage = Over said }) new.session said refl session);
      }

  -- ---- the end

  pub done_is_over : (served : Served) (new : Held) → IsCutAsWanted old.session new.session (next.Done served) → NextIs judges old.session new.session here.session here.cache new.cache (next.Done served) → IsOver setting here new served
  done_is_over _ new cut (next_over said at stays noted) = record {
    there = here;
    said = said;
    went = none;
    over = at;
    is_told = refl;
    cache = sym stays;
    cut = over_is_whole old.session new.session (next.Done (served_of said)) cut judges here.session said is.is at ∙ is.cut;
  }
  done_is_over _ new cut (next_lacks t u said takes lacking at noted) = record {
    there = record { session = u; cache = new.cache; is_cut = here.is_cut };
    said = Some said;
    went = lacks_memory (record { session = t; cache = new.cache; is_cut = here.is_cut }) u none (as_place setting.place here old is (λ n. TakesSome hss_judged n here.session here.cache t new.cache) takes, refl) lacking;
    over = at;
    is_told = refl;
    cache = refl;
    cut = refreshing_is_whole old.session new.session (next.Done (served_of (Some said))) cut judges here.session is.is (sym (ap (λ (s : Session). s.stage) (some_same takes)) ∙ lacking_refreshed lacking) ∙ is.cut;
  }
  done_is_over _ new cut (next_cut said posts acks at flag noted stays) = record {
    there = record (over_with here said) { is_cut = true };
    said = said;
    went = is_cut said posts acks none at;
    over = refl;
    is_told = refl;
    cache = sym stays;
    cut = flag;
  }
  done_is_over _ new cut (is_unrouted t told takes nobody) = absurd (no_entry setting.place here old is (sym (ap (λ (s : Session). s.entries) (taken_same takes)) ∙ nobody.none))

-- ---- the beginning

begins_so : (message : List ℕ) (entries : List Peer) (standing : ModelStanding) (s : Session) → Begins [] message entries standing s → s.standing ≡ standing
begins_so message entries standing _ (alone given by_message) = refl
begins_so message entries standing _ (refreshes xid asked is_asked) = refl

module _ {P K S : Type 0} (by : Passes P K S) (place : Place) (some : IsSomeAnd place.view (λ v. Unit {0})) (message : List ℕ) (p q : P) (result : Result Standing Memory) (stands : calls.Stands by.signs (by.comes p) (by.leaves q) place.view result) where
  -- it only looked
  pub looked : GivesNothing by p q
  looked = record { found = stands.found; came = stands.came; left = stands.left }

  module _ (standing : Standing) (is : result ≡ Ok standing) where
    gives_so : (o : Option View) → place.view ≡ o → GivesStanding by p (standing_of standing) q × (place.view ≡ Some standing.view)
    gives_so None nothing = absurd (subst (λ (o : Option View). IsSomeAnd o (λ v. Unit {0})) nothing some)
    gives_so (Some v) at =
        let stands_so : standing_of standing ≡ standing_in by.signs stands.found.agent v =
        subst (λ (o : Option View). IfSome o (λ view. standing_of standing ≡ standing_in by.signs stands.found.agent view)) at
        (subst (λ (r : Result Standing Memory). IfOk r (λ s. IfSome place.view (λ view. standing_of s ≡ standing_in by.signs stands.found.agent view))) is stands.stands) in (
          record { found = stands.found; came = stands.came; left = stands.left; view = v; in_view = stands.in_view ∙ at; stands = stands_so },
          at ∙ ap (λ (s : ModelStanding). Some s.view) (sym stands_so),
        )

    -- the session is on its way
    pub begun_with : (st : SessionState HssJudge) → st.replicas ≡ place.replicas → st.entries ≡ place.entries → place.entries ≢ [] → BeginsAs judges message (standing_of standing) st → session_awaited st ≡ None → is_turning st.stage ≡ false → st.is_cut ≡ false
        → BeginsWith by place message p q (Some st)
    begun_with st replicas entries some_entry begins free no_turn whole cache =
        let b = begins [] in
        let g = gives_so place.view refl in
        record {
          standing = standing_of standing;
          session = b.0;
          stands = g.0;
          begins = subst (λ (es : List Peer). Begins [] message es (standing_of standing) b.0) entries b.1;
          driven = record {
            is = b.2;
            cache = refl;
            cut = whole;
            viewed = g.1 ∙ ap (λ (s : ModelStanding). Some s.view) (sym (begins_so message st.entries (standing_of standing) b.0 b.1));
            asked = λ waits. absurd (waits free);
            replicas = replicas;
            entries = entries;
            some_entry = some_entry;
            no_turn = no_turn;
          };
        }
