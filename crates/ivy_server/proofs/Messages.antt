-- A message whose session goes its way in code is served, as the definitions have it.
use Rattle.std.proofs.Common.{◌≡◌, ℕ, Bool, true, false, List, [], ◌++◌, Option, Some, None, refl, sym, ap, ◌∙◌, subst}
use Rattle.std.proofs.lemmas.List.{append-nil}
use Rattle.nfs_model.specs.declared.replies.Reply.{Reply}
use Rattle.dht_ids.specs.declared.ask.Answer.{Answer as Answered}
use Rattle.dht_ids.specs.declared.ask.Ask.{Ask}
use Rattle.dht_ids.specs.declared.peer.Peer.{Peer}
use Rattle.dht_ids.specs.declared.post.Ack.{Ack}
use Rattle.dht_ids.specs.declared.post.Post.{Post}
use Rattle.log_heads.specs.declared.judge.HssJudge.{HssJudge}
use Rattle.agent_model.specs.Standing.{Standing}
use Rattle.session_model.specs.Executions.{Begins, Fails, LacksMemory}
use Rattle.session_model.specs.Executions.Begins.{alone, refreshes}
use Rattle.session_model.specs.Executions.Fails.{fails, goes_on}
use Rattle.session_model.specs.Executions.LacksMemory.{lacks}
use Rattle.session_model.specs.Refreshing.{Note}
use Rattle.session_model.specs.Replies.{missed_reply, said_bare, said_no_memory, said_of}
use Rattle.session_model.specs.Sessions.{Cache, Hears, Over, Publishing, Refreshing, Said, Session, Stage, acknowledged, after_put}
use Rattle.session_model.specs.Sessions.Hears.{gets_on, got, puts_on, puts}
use Rattle.ivy_session.specs.declared.served.Served.{Served}
use Rattle.ivy_session.specs.States.{SessionState, reply_or_none, served_of}
use Rattle.ivy_session.proofs.Staying.{taken_same}
use Rattle.server_model.specs.Acts.{Act, Gave}
use Rattle.server_model.specs.Driving.{Does, Driven, Makes, Went}
use Rattle.server_model.specs.Driving.Does.{asks, asks_in_vain, turns, settles}
use Rattle.server_model.specs.Driving.Makes.{answers, begins_again, gives_up, lacks_memory as makes_lacking}
use Rattle.server_model.specs.Driving.Went.{none, more, lacks_memory, is_cut}
use Rattle.server_model.specs.Serving.{Serves, driven_first}
use Rattle.server_model.specs.Serving.Serves.{serves}
use Rattle.server_model.specs.Takers.{Ring}
use Rattle.server_model.specs.Takers.Follows.{none as follows_none}
use Rattle.log_model.specs.View.{View}
use Rattle.ivy_agent.specs.Calls.{Made}
use Rattle.ivy_server.specs.Passes.{Passes, by_passes}
use Rattle.ivy_server.specs.Sessions.{BeginsWith, CameOf, Held, IsDriven, IsServingOf, IsInProgress, Place, Setting, StepsFrom, Touched, outcome_for, place_of, ring_in}
use Rattle.ivy_server.specs.declared.message.Outcome.{Outcome}
use Rattle.ivy_server.proofs.Marks.{leave_none, leave_then}
use Rattle.ivy_server.proofs.Ways.{WentTo, follows_then, went_then}

-- ---- what a session says

-- what is to be said, where that is settled, is one of these
abbrev pub Says : (Option Said → Type 0) → Stage → Type 0
Says Q Refreshing = Unit {0}
Says Q (Publishing said posts acks) = Q said
Says Q (Over said) = Q said

module _ (Q : Option Said → Type 0) (of_reply : (xid : ℕ) (reply : Reply) → Q (Some (said_of xid reply))) (of_none : (xid : ℕ) → Q (Some (said_no_memory xid))) (ring : Ring) where
  put_says : (said : Option Said) (p : Post) (posts : List Post) (acks : List Ack) (held : Bool) → Q said → Says Q (after_put said p posts acks held)
  put_says said p posts acks true q = q
  put_says said p posts acks false q = q

  hears_says : {s t : Session} {cache after : Cache} {node : Peer} {question : Ask} {given : Answered} → Hears ring.judged ring.replicas s cache node question given t after → Says Q s.stage → Says Q t.stage
  hears_says (gets_on want wants next part) q = q
  hears_says (got want brought wants next whole) q = q
  hears_says (puts_on said p posts acks at next part) q = q
  hears_says (puts said p posts acks came at next whole) q = put_says said p posts acks (acknowledged came) (subst (Says Q) at q)

  fails_says : {s t : Session} → Fails s t → Says Q s.stage → Says Q t.stage
  fails_says (fails notes given miss xid asked is failing asking) q = of_reply xid (missed_reply asked miss)
  fails_says (goes_on not) q = q

  lacks_says : {s t : Session} → LacksMemory s t → Says Q t.stage
  lacks_says (lacks notes shown given end xid asked at refreshed asking rest front) = of_none xid

  makes_says : (xid : ℕ) (s : Session) (notes : List Note) {gave : Gave} {t : Session} → Makes s notes xid gave t → Says Q s.stage → Says Q t.stage
  makes_says xid s notes (answers reply posts) q = of_reply xid reply
  makes_says xid s notes (begins_again standing few) q = q
  makes_says xid s notes (gives_up standing many) q = of_none xid
  makes_says xid s notes (makes_lacking t lacking) q = lacks_says lacking

  does_says : {here there : Driven} {act : Act} → Does ring here act there → Says Q here.session.stage → Says Q there.session.stage
  does_says (asks taken heard t node question answer takes hears ends) q = fails_says ends (hears_says hears.0 (subst (Says Q) (sym (ap (λ (t : Session). t.stage) (taken_same takes.0))) q))
  does_says (asks_in_vain taken heard t node question answer takes hears lacking) q = lacks_says lacking
  does_says (turns taken t notes xid turn gave takes refreshed asking makes) q = makes_says xid taken.session notes makes (subst (Says Q) (sym (ap (λ (t : Session). t.stage) (taken_same takes.0))) q)
  does_says (settles said acks at) q = subst (Says Q) at q

  pub went_says : {start there : Driven} {acts : List Act} → Went ring start acts there → Says Q start.session.stage → Says Q there.session.stage
  went_says none q = q
  went_says (more act way does) q = does_says does (went_says way q)
  went_says (lacks_memory taken t way takes lacking) q = lacks_says lacking
  went_says (is_cut said posts acks way at) q = subst (Says Q) at (went_says way q)

-- of a session that began with a message something is said
abbrev IsSaid : Option Said → Type 0
IsSaid o = (said : Said) × (o ≡ Some said)

begins_saying : {message : List ℕ} {entries : List Peer} {standing : Standing} {s : Session} → Begins [] message entries standing s → Says IsSaid s.stage
begins_saying (alone given by_message) = (said_bare given, refl)
begins_saying (refreshes xid asked is_asked) = tt

says_something : (ring : Ring) {message : List ℕ} {entries : List Peer} {standing : Standing} {s : Session} {cache : Cache} {acts : List Act} {there : Driven} (o : Option Said)
    → Begins [] message entries standing s → Went ring (driven_first s cache) acts there → there.session.stage ≡ Over o → IsSaid o
says_something ring o begins way at =
    subst (Says IsSaid) at (went_says IsSaid (λ xid reply. (said_of xid reply, refl)) (λ xid. (said_no_memory xid, refl)) ring way (begins_saying begins))

-- ---- a message

module _ {P K S C : Type 0} (setting : Setting P K S C) (message : List ℕ) (old : Cache) (before : Touched P C) where
  pub begun_serving : (q : P) (st : SessionState HssJudge) → BeginsWith setting.by setting.place message before.pass q (Some st)
      → IsServingOf setting message old before (record { pass = q; marks = before.marks }) (record { session = st; cache = old })
  begun_serving q st begins =
      let b = begins old in
      record {
        standing = b.standing;
        began = q;
        session = b.session;
        stands = b.stands;
        begins = b.begins;
        there = driven_first b.session old;
        acts = [];
        went = none;
        follows = follows_none;
        leave = leave_none before.marks;
        driven = b.driven;
      }

  module _ (now after : Touched P C) (held new : Held) (serving : IsServingOf setting message old before now held) where
    pub serving_goes : StepsFrom setting held new now after None → IsServingOf setting message old before after new
    serving_goes steps =
        let g = steps serving.there serving.driven in
        record {
          standing = serving.standing;
          began = serving.began;
          session = serving.session;
          stands = serving.stands;
          begins = serving.begins;
          there = g.there;
          acts = serving.acts ++ g.acts;
          went = went_then serving.went g.went;
          follows = follows_then serving.follows g.follows;
          leave = leave_then before.marks now.marks after.marks serving.acts g.acts serving.leave g.leave;
          driven = g.driven;
        }

    came_so : (reply : Option (List ℕ)) (flag : Bool) → Serves (by_passes setting.by) (ring_in setting.place) (record { taker = before.pass; cache = old }) message serving.acts (record { reply = reply; is_cut = flag }) (record { taker = now.pass; cache = new.cache })
        → CameOf setting message old new.cache before now (outcome_for (reply_or_none reply) flag)
    came_so None flag is = (flag, record { acts = serving.acts; serves = is; leave = serving.leave })
    came_so (Some reply) flag is = record { acts = serving.acts; serves = is; leave = serving.leave }

    pub serving_ends : (served : Served) → StepsFrom setting held new now after (Some served) → CameOf setting message old new.cache before after (outcome_for served new.session.is_cut)
    serving_ends served steps =
        let e = steps serving.there serving.driven in
        let over = e.0 in
        let way : Went (ring_in setting.place) (driven_first serving.session old) serving.acts over.there =
        subst (WentTo (ring_in setting.place) (driven_first serving.session old) over.there) (append-nil serving.acts) (went_then serving.went over.went) in
        let said = says_something (ring_in setting.place) over.said serving.begins way over.over in
        let is : Serves (by_passes setting.by) (ring_in setting.place) (record { taker = before.pass; cache = old }) message serving.acts (record { reply = said.0.message; is_cut = over.there.is_cut }) (record { taker = now.pass; cache = over.there.cache }) =
        serves serving.standing serving.began now.pass serving.session over.there serving.acts said.0 serving.stands serving.begins way (over.over ∙ ap (λ (o : Option Said). Over o) said.1) serving.follows in
        subst (λ (t : Touched P C). CameOf setting message old new.cache before t (outcome_for served new.session.is_cut)) (sym e.1)
        (subst (λ (s : Served). CameOf setting message old new.cache before now (outcome_for s new.session.is_cut)) (ap (λ (o : Option Said). served_of o) (sym said.1) ∙ sym over.is_told)
        (came_so said.0.message new.session.is_cut
        (subst (λ (b : Bool). Serves (by_passes setting.by) (ring_in setting.place) (record { taker = before.pass; cache = old }) message serving.acts (record { reply = said.0.message; is_cut = b }) (record { taker = now.pass; cache = new.cache })) (sym over.cut)
        (subst (λ (c : Cache). Serves (by_passes setting.by) (ring_in setting.place) (record { taker = before.pass; cache = old }) message serving.acts (record { reply = said.0.message; is_cut = over.there.is_cut }) (record { taker = now.pass; cache = c })) over.cache is))))

-- ---- in a place that stayed

pub same_place : {replicas other : ℕ} {entries others : List Peer} {view seen : Option View} → replicas ≡ other → entries ≡ others → view ≡ seen → place_of replicas entries view ≡ place_of other others seen
same_place r e v = λ i. place_of (r i) (e i) (v i)

module _ {P K S C : Type 0} (by : Passes P K S) (gives : C → ℕ × ℕ → C → Type 0) (place later : Place) (same : later ≡ place) (message : List ℕ) (old : Cache) (before now : Touched P C) (held : Held)
    (serving : IsServingOf (record { by = by; gives = gives; place = place }) message old before now held) where
  pub in_progress_still : IsInProgress later held
  in_progress_still = (serving.there, subst (λ (p : Place). IsDriven p serving.there held) (sym same) serving.driven)

  module _ (after : Touched P C) (new : Held) where
    abbrev StepsIn : Option Served → Place → Type 0
    StepsIn told p = StepsFrom (record { by = by; gives = gives; place = p }) held new now after told

    pub still_goes : StepsIn None later → IsServingOf (record { by = by; gives = gives; place = place }) message old before after new
    still_goes steps = serving_goes (record { by = by; gives = gives; place = place }) message old before now after held new serving (subst (StepsIn None) same steps)

    pub still_ends : (told : Served) → StepsIn (Some told) later → (flag : Bool) → flag ≡ new.session.is_cut → (out : Outcome) → out ≡ outcome_for told flag
        → CameOf (record { by = by; gives = gives; place = place }) message old new.cache before after out
    still_ends told steps flag is out out_is =
        subst (CameOf (record { by = by; gives = gives; place = place }) message old new.cache before after) (sym (out_is ∙ ap (λ (b : Bool). outcome_for told b) is))
        (serving_ends (record { by = by; gives = gives; place = place }) message old before now after held new serving told (subst (StepsIn (Some told)) same steps))

-- it begins in such a place
module _ {P K S C : Type 0} (by : Passes P K S) (gives : C → ℕ × ℕ → C → Type 0) (place begun : Place) (same : begun ≡ place) (message written : List ℕ) (is : written ≡ message) (old : Cache) (before : Touched P C) where
  abbrev BeganIn : P → SessionState HssJudge → Place → List ℕ → Type 0
  BeganIn q st p m = BeginsWith by p m before.pass q (Some st)

  pub first_serving : (q : P) (st : SessionState HssJudge) → BeganIn q st begun written → (made : Option (List Made)) → made ≡ before.marks.made
      → IsServingOf (record { by = by; gives = gives; place = place }) message old before (record { pass = q; marks = record before.marks { made = made } }) (record { session = st; cache = old })
  first_serving q st begins made made_is =
      subst (λ (m : Option (List Made)). IsServingOf (record { by = by; gives = gives; place = place }) message old before (record { pass = q; marks = record before.marks { made = m } }) (record { session = st; cache = old })) (sym made_is)
      (begun_serving (record { by = by; gives = gives; place = place }) message old before q st (subst (λ (p : Place). BeganIn q st p message) same (subst (BeganIn q st begun) is begins)))
