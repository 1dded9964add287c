-- An ask of a session in code, with its answer or without memory for one, is a way of the session of the definitions.
use Rattle.std.proofs.Common.{◌≡◌, ℕ, true, false, List, [], ◌∷◌, Option, Some, Result, Ok, Err, refl, sym, ap, ◌∙◌, subst}
use Rattle.std.specs.Prelude.{IfOk, OnErr}
use Rattle.ivy_base.specs.declared.memory.Memory.{Memory}
use Rattle.dht_ids.specs.Asked.{longer, told}
use Rattle.dht_ids.specs.declared.ask.Answer.{Answer}
use Rattle.dht_ids.specs.declared.ask.Ask.{Ask}
use Rattle.dht_ids.specs.declared.ask.Heard.{Heard}
use Rattle.dht_ids.specs.declared.peer.Peer.{Peer}
use Rattle.dht_ids.specs.declared.post.Ack.{Ack}
use Rattle.dht_ids.specs.declared.post.Post.{Post}
use Rattle.dhash_model.specs.Signed.{hss_judged}
use Rattle.session_model.specs.Executions.{Fails, LacksMemory}
use Rattle.session_model.specs.Executions.Fails.{goes_on as refresh_goes}
use Rattle.session_model.specs.Sessions.{Cache, Hears, Over, Publishing, Said, Session}
use Rattle.ivy_session.specs.declared.session.Next.{Next}
use Rattle.ivy_session.specs.declared.session.Next.TheVariants as next
use Rattle.ivy_session.specs.Cutting.{IsCutAsHeard}
use Rattle.ivy_session.specs.States.{HasAsked, IsSession, is_turning}
use Rattle.ivy_session.specs.Stepping.{HeardIs, IsNext, IsSameSession, NextIs}
use Rattle.ivy_session.specs.Stepping.HeardIs.{hears as heard_it, lacks_memory as no_memory_heard, is_cut as cut_heard}
use Rattle.ivy_session.proofs.Ended.{lacking_is_over, over_alike, over_has_asked}
use Rattle.ivy_session.proofs.Hearing.{PutHears, hears_some, publishing_hears, publishing_now}
use Rattle.ivy_session.proofs.Staying.{all_some, failed_standing, heard_standing, lacking_standing, taken_same, took_none}
use Rattle.ivy_session.proofs.Wanted.{AsksThen, asks_then as session_asks, then_same}
use Rattle.server_model.specs.Acts.{Asking}
use Rattle.server_model.specs.Driving.{Driven, as_session, over_with}
use Rattle.server_model.specs.Driving.Does.{asks, asks_in_vain}
use Rattle.server_model.specs.Driving.Went.{none, lacks_memory, is_cut}
use Rattle.server_model.specs.Takers.Follows.{none as follows_none, asks as follows_asks}
use Rattle.ivy_server.specs.Sessions.{GoesOn, HasHeardOf, Held, IsDriven, Place, Setting, Touched, judges}
use Rattle.ivy_server.proofs.Marks.{leave_ask, leave_same}
use Rattle.ivy_server.proofs.Ways.{one_act}
use Rattle.ivy_server.proofs.Whole.{heard_is_whole, lacking_is_whole}

same_answer : (a b : Answer) → ◌≡◌ {A = Result Answer Memory} (Ok a) (Ok b) → a ≡ b
same_answer a b e = cc e

module _ (place : Place) (here : Driven) (old : Held) (is : IsDriven place here old) where
  -- what is wanted next of the session, after the link's cache
  pub wants : (mid : Held) (wanted : Next) → IsNext judges old.session mid.session old.cache mid.cache wanted → NextIs judges old.session mid.session here.session here.cache mid.cache wanted
  wants mid wanted following = subst (λ (c : Cache). NextIs judges old.session mid.session here.session c mid.cache wanted) (sym is.cache) (following.1 here.session is.is)

  -- by as many owners as the mesh has
  pub as_place : (Q : ℕ → Type 0) → Q old.session.replicas → Q place.replicas
  as_place Q h = subst Q is.replicas h

  -- the session in code is then another one on its way
  pub driven_then : (there : Driven) (new : Held) → IsSameSession old.session new.session → IsSession judges there.session new.session → there.cache ≡ new.cache → new.session.is_cut ≡ there.is_cut
      → place.view ≡ Some there.session.standing.view → HasAsked new.session there.session → is_turning new.session.stage ≡ false → IsDriven place there new
  driven_then there new same session cache cut viewed asked no_turn = record {
    is = session;
    cache = cache;
    cut = cut;
    viewed = viewed;
    asked = asked;
    replicas = same.1 ∙ is.replicas;
    entries = same.2 ∙ is.entries;
    some_entry = is.some_entry;
    no_turn = no_turn;
  }

  -- what was available is taken, and then the session asks that
  abbrev pub Asks : Held → Peer → Ask → Type 0
  Asks mid node question = AsksThen judges hss_judged place.replicas here.session here.cache mid.session mid.cache node question

  pub asks_then : (mid : Held) (node : Peer) (question : Ask) → NextIs judges old.session mid.session here.session here.cache mid.cache (next.Ask node question) → Asks mid node question
  asks_then mid node question wanted = session_asks judges hss_judged place.replicas here.session here.cache old.session refl is.replicas mid.session mid.cache node question is.asked wanted

module _ {P K S C : Type 0} (setting : Setting P K S C) (here : Driven) (old mid new : Held) (is : IsDriven setting.place here old) (node : Peer) (question : Ask) (first : IsSameSession old.session mid.session)
    (whole : mid.session.is_cut ≡ here.is_cut) (asking : Asks setting.place here old is mid node question) (second : IsSameSession mid.session new.session) (past : is_turning new.session.stage ≡ false) (before : Touched P C) (later : Option (List Heard)) where
  abbrev taken : Driven
  taken = record { session = asking.taken; cache = mid.cache; is_cut = here.is_cut }

  abbrev after : Touched P C
  after = record before { marks = record before.marks { trail = later } }

  abbrev Goes : Type 0
  Goes = GoesOn setting here new before after

  abbrev same : IsSameSession old.session new.session
  same = then_same old.session mid.session new.session first second

  taken_view : setting.place.view ≡ Some asking.taken.standing.view
  taken_view = is.viewed ∙ ap (λ (s : Session). Some s.standing.view) (sym (taken_same asking.takes))

  -- of a session that is over
  over_driven : (there : Driven) (said : Option Said) → there.session.stage ≡ Over said → IsSession judges there.session new.session → there.cache ≡ new.cache → new.session.is_cut ≡ there.is_cut → there.session.standing ≡ asking.taken.standing
      → IsDriven setting.place there new
  over_driven there said over session cache cut standing =
      driven_then setting.place here old is there new same session cache cut (taken_view ∙ ap (λ s. Some s.view) (sym standing)) (over_has_asked judges there.session new.session said over session) past

  -- ---- an answer was heard

  by_answer : (answer : Answer) (heard t : Session) → later ≡ longer before.marks.trail (told node question answer) → Hears hss_judged setting.place.replicas asking.taken mid.cache node question answer heard new.cache
      → Fails heard t → IsSession judges t new.session → HasAsked new.session t → new.session.is_cut ≡ mid.session.is_cut → Goes
  by_answer answer heard t is_later hearing goes session waits same_flag = record {
    acts = Asking node question answer ∷ [];
    there = record { session = t; cache = new.cache; is_cut = here.is_cut };
    went = one_act _ (asks taken (record { session = heard; cache = new.cache; is_cut = here.is_cut }) t node question answer (asking.takes, refl) (hearing, refl) goes);
    follows = follows_asks node question answer follows_none;
    leave = leave_ask before.marks later node question answer is_later;
    driven = driven_then setting.place here old is _ new same session refl (same_flag ∙ whole) (taken_view ∙ ap (λ s. Some s.view) (sym (failed_standing goes ∙ heard_standing hearing))) waits past;
  }

  -- ---- memory ran out in a refresh

  in_vain : (answer : Answer) (t : Session) → later ≡ longer before.marks.trail (told node question answer) → LacksMemory asking.taken t → new.cache ≡ mid.cache → IsSession judges t new.session → new.session.is_cut ≡ mid.session.is_cut → Goes
  in_vain answer t is_later lacking stays session same_flag =
      let h = hears_some hss_judged setting.place.replicas asking.taken mid.cache node question answer asking.asks in
      let over = lacking_is_over lacking in
      record {
        acts = Asking node question answer ∷ [];
        there = as_session taken t;
        went = one_act _ (asks_in_vain taken (record { session = h.0; cache = h.1; is_cut = here.is_cut }) t node question answer (asking.takes, refl) (h.2, refl) lacking);
        follows = follows_asks node question answer follows_none;
        leave = leave_ask before.marks later node question answer is_later;
        driven = over_driven (as_session taken t) over.0 over.1 session (sym stays) (same_flag ∙ whole) (lacking_standing lacking);
      }

  unasked : (t : Session) → later ≡ before.marks.trail → LacksMemory asking.taken t → new.cache ≡ mid.cache → IsSession judges t new.session → new.session.is_cut ≡ mid.session.is_cut → Goes
  unasked t is_later lacking stays session same_flag =
      let over = lacking_is_over lacking in
      record {
        acts = [];
        there = as_session taken t;
        went = lacks_memory taken t none (all_some asking.takes, refl) lacking;
        follows = follows_none;
        leave = leave_same before.marks after.marks (ap (λ (l : Option (List Heard)). record before.marks { trail = l }) is_later);
        driven = over_driven (as_session taken t) over.0 over.1 session (sym stays) (same_flag ∙ whole) (lacking_standing lacking);
      }

  -- ---- memory ran out for a put

  module _ (said : Option Said) (posts : List Post) (acks : List Ack) (at : asking.taken.stage ≡ Publishing said posts acks) (flag : new.session.is_cut ≡ true) (stays : new.cache ≡ mid.cache)
      (session : IsSession judges (record asking.taken { stage = Over said; current = [] }) new.session) where
    cut_behind : (answer : Answer) → later ≡ longer before.marks.trail (told node question answer) → Goes
    cut_behind answer is_later =
        let h : PutHears hss_judged setting.place.replicas asking.taken mid.cache (node, question) answer said =
        publishing_hears hss_judged setting.place.replicas asking.taken mid.cache node question answer said posts acks at asking.asks in
        let heard : Driven = record { session = h.heard; cache = mid.cache; is_cut = here.is_cut } in
        record {
          acts = Asking node question answer ∷ [];
          there = record (over_with heard said) { is_cut = true };
          went = is_cut said h.publishes.0 h.publishes.1
              (one_act _ (asks taken heard h.heard node question answer (asking.takes, refl) (h.hears, refl) (refresh_goes (λ notes brought miss stage refreshes. publishing_now h.heard said h.publishes.0 h.publishes.1 h.publishes.2 stage))))
              h.publishes.2;
          follows = follows_asks node question answer follows_none;
          leave = leave_ask before.marks later node question answer is_later;
          driven = over_driven _ said refl
              (over_alike judges (record asking.taken { stage = Over said; current = [] }) new.session said refl (record h.heard { stage = Over said }) refl h.entries h.starts h.notes h.missed session)
              (sym stays) flag (heard_standing h.hears);
        }

    cut_before : later ≡ before.marks.trail → Goes
    cut_before is_later =
        let there : here.session.stage ≡ Publishing said posts acks = sym (ap (λ (s : Session). s.stage) (taken_same asking.takes)) ∙ at in
        let none_taken = took_none (publishing_now here.session said posts acks there) asking.takes in
        record {
          acts = [];
          there = record (over_with here said) { is_cut = true };
          went = is_cut said posts acks none there;
          follows = follows_none;
          leave = leave_same before.marks after.marks (ap (λ (l : Option (List Heard)). record before.marks { trail = l }) is_later);
          driven = over_driven _ said refl
              (over_alike judges (record asking.taken { stage = Over said; current = [] }) new.session said refl (record here.session { stage = Over said }) refl
              (ap (λ (s : Session). s.entries) (sym none_taken.0)) (ap (λ (s : Session). s.starts) (sym none_taken.0)) (ap (λ (s : Session). s.notes) (sym none_taken.0)) (ap (λ (s : Session). s.missed) (sym none_taken.0)) session)
              (sym none_taken.1 ∙ sym stays) flag (ap (λ (s : Session). s.standing) (sym none_taken.0));
        }

  -- ---- whatever it was

  by_heard : (given : Result Answer Memory) → IfOk given (λ a. later ≡ longer before.marks.trail (told node question a)) → OnErr given (later ≡ before.marks.trail) → IsCutAsHeard mid.session new.session
      → HeardIs judges mid.session new.session asking.taken mid.cache new.cache node question given → Goes
  by_heard (Ok given) asked not_asked cut (heard_it answer heard t is_answer hearing goes session waits) =
      by_answer given heard t asked
      (subst (λ (a : Answer). Hears hss_judged setting.place.replicas asking.taken mid.cache node question a heard new.cache) (sym (same_answer given answer is_answer))
      (subst (λ (n : ℕ). Hears hss_judged n asking.taken mid.cache node question answer heard new.cache) (first.1 ∙ is.replicas) hearing))
      goes session waits (heard_is_whole judges asking.taken mid.session new.session asking.session cut hearing t goes session)
  by_heard (Ok given) asked not_asked cut (no_memory_heard t lacking stays session) =
      in_vain given t asked lacking stays session (lacking_is_whole judges asking.taken mid.session new.session asking.session cut lacking)
  by_heard (Ok given) asked not_asked cut (cut_heard said posts acks at flag stays session) = cut_behind said posts acks at flag stays session given asked
  by_heard (Err given) asked not_asked cut (heard_it answer heard t is_answer hearing goes session waits) = cc is_answer
  by_heard (Err given) asked not_asked cut (no_memory_heard t lacking stays session) =
      unasked t not_asked lacking stays session (lacking_is_whole judges asking.taken mid.session new.session asking.session cut lacking)
  by_heard (Err given) asked not_asked cut (cut_heard said posts acks at flag stays session) = cut_before said posts acks at flag stays session not_asked

  pub ask_goes : (heard : HasHeardOf (node, question) mid new before.marks.trail later) → Goes
  ask_goes heard = by_heard heard.answer heard.asked heard.unasked heard.cut (heard.heard.1 asking.taken node question asking.awaited asking.session)
