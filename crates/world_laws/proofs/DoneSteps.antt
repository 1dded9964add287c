-- The next step of a session whose refresh is done: its turn, or memory runs out.
use Rattle.std.proofs.Common.{◌≡◌, ◌⊎◌, inl, inr, ⊎_elim, ℕ, ◌+◌, ◌≤◌, Bool, List, [], ◌∷◌, Option, Some, refl, sym, ap, ◌∙◌, subst, arith}
use Rattle.ivy_base.specs.declared.key.Key.{Key}
use Rattle.ivy_base.specs.declared.operation.Moment.{Moment}
use Rattle.dhash_model.specs.Signed.{hss_judged}
use Rattle.log_model.specs.View.{View}
use Rattle.dht_ids.specs.declared.ask.Answer.{Answer}
use Rattle.dht_ids.specs.declared.ask.Ask.{Ask}
use Rattle.dht_ids.specs.declared.judge.Judged.{Judged}
use Rattle.dht_ids.specs.declared.peer.Peer.{Peer}
use Rattle.dht_ids.specs.declared.post.Ack.{Ack}
use Rattle.dht_ids.specs.declared.post.Post.{Post}
use Rattle.nfs_model.specs.declared.replies.Reply.{Reply}
use Rattle.turn_model.specs.Turn.{Asked}
use Rattle.agent_model.specs.Standing.{Refresh}
use Rattle.agent_model.specs.Turning.{Answered, Turns, TurnEnd}
use Rattle.session_model.specs.Brought.{WantedOfRing, brought_in}
use Rattle.session_model.specs.Executions.{HasRefreshed, IsRefusal, LacksMemory}
use Rattle.session_model.specs.Executions.Settles.{settles as settles_all}
use Rattle.session_model.specs.Executions.TakesTurn.{answers, begins_again, gives_up}
use Rattle.session_model.specs.Refreshing.{Done, Needs, Note}
use Rattle.session_model.specs.Sessions.{Cache, Hears, Refreshing, Publishing, Said, Session, Takes, TakesAll, TakesSome, Wants}
use Rattle.session_model.specs.Sessions.Hears.{gets_on, got, puts_on, puts}
use Rattle.session_model.specs.Sessions.Takes.{posted, cached}
use Rattle.session_model.specs.Sessions.TakesAll.{none as takes_no_more, more as takes_more}
use Rattle.session_model.specs.Sessions.TakesSome.{none as took_no_more, more as took_more}
use Rattle.session_laws.proofs.OneRefresh.{refresh_is_deterministic}
use Rattle.world_model.specs.Agents.{HssAgent, HssKept, TakesHssTurn, hss_signing}
use Rattle.world_model.specs.World.{Participant, named_bytes, participant}
use Rattle.world_model.specs.GhostState.{HadTurn, knowing_of}
use Rattle.world_model.specs.Keepers.{fails_next}
use Rattle.world_model.specs.Steps.{Acts, Configuration, Steps, with_cache}
use Rattle.world_model.specs.Steps.Acts.{asks as acts_asks, asks_in_vain, turns as acts_turns, is_refused, settles}
use Rattle.world_model.specs.Steps.Steps.{acts, lacks_memory}
use Rattle.world_laws.specs.Causes.{IsOf}
use Rattle.world_laws.specs.Laws.{FreshTurnsAreAnswered, HasTurned, RefreshEndsInTurn}
use Rattle.world_laws.proofs.Bringing.{its_key, its_view, some_same}
use Rattle.world_laws.proofs.SecondTurns.{IsFreshNow, none_refused_later, turn_not_refused}

-- ---- nothing is wanted

wants_or_done : (want : WantedOfRing) → Needs want ≡ Done → ⊥
wants_or_done want e = cc e

module _ (s : Session) (refreshes : s.stage ≡ Refreshing) where
  not_putting : (said : Option Said) (posts : List Post) (acks : List Ack) → s.stage ≡ Publishing said posts acks → ⊥
  not_putting said posts acks is = cc (sym refreshes ∙ is)

-- a session whose refresh wants nothing takes nothing, and hears nothing
module _ {judged : Key → List ℕ → Option Judged} {replicas : ℕ} (s : Session) (done : (want : WantedOfRing) → Wants judged replicas s want → ⊥) where
  takes_nothing : {cache after : Cache} {t : Session} → Takes judged replicas s cache t after → ⊥
  takes_nothing (posted key bytes wants none is) = done _ wants
  takes_nothing (cached key bytes wants none not is) = done _ wants

  hears_nothing : {cache after : Cache} {node : Peer} {question : Ask} {answer : Answer} {t : Session} → s.stage ≡ Refreshing → Hears judged replicas s cache node question answer t after → ⊥
  hears_nothing stage (gets_on want wants next on) = done want wants
  hears_nothing stage (got want brought wants next gets) = done want wants
  hears_nothing stage (puts_on said p posts acks is next on) = not_putting s stage said (p ∷ posts) acks is
  hears_nothing stage (puts said p posts acks came is next put) = not_putting s stage said (p ∷ posts) acks is

all_taken : {judged : Key → List ℕ → Option Judged} {replicas : ℕ} {s t : Session} {cache after : Cache} → ((want : WantedOfRing) → Wants judged replicas s want → ⊥) → TakesAll judged replicas s cache t after → t ≡ s
all_taken done (takes_no_more none) = refl
all_taken {s = s} done (takes_more take rest) = absurd (takes_nothing s done take)

some_taken : {judged : Key → List ℕ → Option Judged} {replicas : ℕ} {s t : Session} {cache after : Cache} → ((want : WantedOfRing) → Wants judged replicas s want → ⊥) → TakesSome judged replicas s cache t after → t ≡ s
some_taken done took_no_more = refl
some_taken {s = s} done (took_more take rest) = absurd (takes_nothing s done take)

-- ---- what it does

-- its turn was refused, and the session is that one now
record IsRefusedTo (p : Participant) (now : Moment) (s t : Session) : Type 0 where
  view : View
  end : TurnEnd
  after : HssAgent
  saving : Option HssKept
  entered : p.agent.view ≡ Some view
  refused : IsRefusal end
  takes : TakesHssTurn (record { agent = p.agent; view = view; now = now; fails = fails_next p.keeper }) s end after saving t

-- what was answered is said of the session that had the turn
answered_of : (had : HadTurn) (s t : Session) (now : Moment) (a : HssAgent) (view : View) (fails : Bool) (reply : Reply) (applied : ℕ) (after : HssAgent) (saving : Option HssKept) → had.session ≡ s
    → TakesHssTurn (record { agent = a; view = view; now = now; fails = fails }) s (Answered reply applied) after saving t → IsOf had had.began.number t
answered_of had s _ now a view fails _ _ _ _ is (answers notes given xid asked reply applied after saving done asks turns) = record {
  number_is = refl;
  by = ap (λ (x : Session). x.by) is;
  message = ap (λ (x : Session). x.message) is;
  entries = ap (λ (x : Session). x.entries) is;
  standing = ap (λ (x : Session). x.standing) is;
  parts = ap (λ (x : Session). x.parts) is;
}
answered_of had s _ now a view fails _ _ _ _ is (begins_again notes given xid asked end after saving done asks turns refused few) = absurd refused
answered_of had s _ now a view fails _ _ _ _ is (gives_up notes given xid asked end after saving done asks turns refused many) = absurd refused

acts_done : {judged : Key → List ℕ → Option Judged} {replicas : ℕ} {p : Participant} {c next : Configuration} → c.session.stage ≡ Refreshing → ((want : WantedOfRing) → Wants judged replicas c.session want → ⊥)
    → Acts judged replicas p c next → HasTurned c next ⊎ IsRefusedTo p c.world.now c.session next.session
acts_done {c = c} stage done (acts_asks node question answer next heard t cache fate hears failed) = absurd (hears_nothing c.session done stage hears)
acts_done {c = c} stage done (asks_in_vain node question answer next heard t cache fate hears lacking) = absurd (hears_nothing c.session done stage hears)
acts_done {p = p} {c = c} stage done (acts_turns view reply applied after saving t turned entered takes replies is_turn) =
    let had : HadTurn = record {
      session = c.session;
      began = c.began;
      by = p;
      knowing = knowing_of c.ghost_state p.name;
      view = view;
      met = named_bytes c.world;
      now = c.world.now;
      after = after;
      turned = turned;
    } in
    inl (record { had = had; new = refl; its = answered_of had c.session t c.world.now p.agent view (fails_next p.keeper) reply applied after saving refl takes })
acts_done {c = c} stage done (is_refused view end after saving t entered refusal takes) = inr (record { view = view; end = end; after = after; saving = saving; entered = entered; refused = refusal; takes = takes })
acts_done {c = c} stage done (settles after t (settles_all said acks is)) = absurd (not_putting c.session stage said [] acks is)

-- ---- refusals

-- a refused turn was one of a done refresh; the session begins again, or gives up
refused_turn : (p : Participant) (now : Moment) (s t : Session) (r : IsRefusedTo p now s t)
    → ((notes : List Note) × (given : Refresh) × (asked : Asked) × HasRefreshed s notes given × Turns hss_signing given (record { agent = p.agent; view = r.view; now = now; fails = fails_next p.keeper }) asked r.end r.after r.saving)
    × ((t.starts ≡ s.starts + 1) ⊎ (2 ≤ s.starts))
refused_turn p now s t r = by r.takes r.refused
  where
    by : {end : TurnEnd} {after : HssAgent} {saving : Option HssKept} {t : Session} → TakesHssTurn (record { agent = p.agent; view = r.view; now = now; fails = fails_next p.keeper }) s end after saving t → IsRefusal end
        → ((notes : List Note) × (given : Refresh) × (asked : Asked) × HasRefreshed s notes given × Turns hss_signing given (record { agent = p.agent; view = r.view; now = now; fails = fails_next p.keeper }) asked end after saving)
        × ((t.starts ≡ s.starts + 1) ⊎ (2 ≤ s.starts))
    by (answers notes given xid asked reply applied after saving done asks turns) refusal = absurd refusal
    by (begins_again notes given xid asked end after saving done asks turns refused few) refusal = ((notes, given, asked, done, turns), inl refl)
    by (gives_up notes given xid asked end after saving done asks turns refused many) refusal = ((notes, given, asked, done, turns), inr many)

-- ---- the step

-- its turn; or it was refused; or memory runs out
abbrev EndsSo : Configuration → Configuration → Type 0
EndsSo c next = HasTurned c next ⊎ (((p : Participant) × (participant c.world c.session.by ≡ Some p) × IsRefusedTo p c.world.now c.session next.session) ⊎ LacksMemory c.session next.session)

module _ (c : Configuration) (r : ℕ) (notes : List Note) (given : Refresh) (done : HasRefreshed c.session notes given) where
  wants_nothing : (want : WantedOfRing) → Wants hss_judged r c.session want → ⊥
  wants_nothing want wants = wants_or_done want (refresh_is_deterministic c.session.standing (brought_in c.session.parts) wants.1 notes wants.2 given (Needs want) Done wants.3 done.1).2

  step_done : {next : Configuration} → Steps hss_judged r c.session.by c next → EndsSo c next
  step_done (acts p taken cache next is takes act) =
      let same : taken ≡ c.session = all_taken wants_nothing takes in
      ⊎_elim
      (λ turn. inl (record { had = turn.had; new = turn.new; its = turn.its }))
      (λ refused. inr (inl (
        p,
        is,
        subst (λ (t : Session). IsRefusedTo p c.world.now t next.session) same (record {
          view = refused.view;
          end = refused.end;
          after = refused.after;
          saving = refused.saving;
          entered = refused.entered;
          refused = refused.refused;
          takes = refused.takes;
        }),
      )))
      (acts_done {c = with_cache hss_judged r c p taken cache} (ap (λ (t : Session). t.stage) same ∙ done.0) (λ want. subst (λ (t : Session). Wants hss_judged r t want → ⊥) (sym same) (wants_nothing want)) act)
  step_done (lacks_memory p taken t cache is takes lacking) = inr (inr (subst (λ (x : Session). LacksMemory x t) (some_taken wants_nothing takes) lacking))

pub refresh_ends_in_turn : RefreshEndsInTurn
refresh_ends_in_turn c next r notes given keeps apart replicas hand done step = ⊎_elim
    (λ turn. inl turn)
    (λ else. inr (⊎_elim (λ refused. inl (anew refused.0 refused.1 refused.2)) (λ lacks. inr lacks) else))
    (step_done c r notes given done step)
  where
    anew : (p : Participant) → participant c.world c.session.by ≡ Some p → IsRefusedTo p c.world.now c.session next.session → next.session.starts ≡ c.session.starts + 1
    anew p is refused =
        let w = refused_turn p c.world.now c.session next.session refused in
        let none : c.session.starts ≡ 0 = none_refused_later c r keeps apart hand p is w.0.0 w.0.1 w.0.3 refused.view (fails_next p.keeper) w.0.2 c.world.now refused.end refused.after refused.saving refused.entered w.0.4 refused.refused in
        ⊎_elim (λ more. more) (λ many. absurd (omega (arith, none, many))) w.1

pub fresh_turns_are_answered : FreshTurnsAreAnswered
fresh_turns_are_answered c next r notes given keeps apart replicas hand sound fresh done step = ⊎_elim
    (λ turn. inl turn)
    (λ else. inr (⊎_elim (λ refused. absurd (never refused.0 refused.1 refused.2)) (λ lacks. lacks) else))
    (step_done c r notes given done step)
  where
    never : (p : Participant) → participant c.world c.session.by ≡ Some p → IsRefusedTo p c.world.now c.session next.session → ⊥
    never p is refused =
        let w = refused_turn p c.world.now c.session next.session refused in
        let usual : IsFreshNow p.agent = subst (λ (q : Participant). IsFreshNow q.agent) (some_same sound.by p (sym sound.is_by ∙ is)) (sound.stays_fresh fresh) in
        turn_not_refused c keeps apart sound p is (its_view c r hand p is) (its_key c r hand p is) usual.0 usual.1 (λ other first. other fresh)
        w.0.0 w.0.1 w.0.3 refused.view (fails_next p.keeper) w.0.2 c.world.now refused.end refused.after refused.saving refused.entered w.0.4 refused.refused
