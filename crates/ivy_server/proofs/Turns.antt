-- A turn of a session in code, whatever came of it, is a way of the session of the definitions.
use Rattle.std.proofs.Common.{◌≡◌, ⊎_elim, ℕ, Bool, true, false, List, [], ◌∷◌, Option, Some, None, Result, Ok, Err, refl, sym, ap, ◌∙◌, subst}
use Rattle.std.specs.Prelude.{IfErr, IfSome, IsSomeAnd}
use Rattle.ivy_base.specs.declared.operation.Moment.{Moment}
use Rattle.dhash_model.specs.Signed.{hss_judged}
use Rattle.log_model.specs.Signing.{Signing}
use Rattle.log_model.specs.View.{View}
use Rattle.log_records.specs.Batches.{Batch}
use Rattle.turn_model.specs.Turn.{Asked as ModelAsked}
use Rattle.dht_ids.specs.declared.post.Post.{Post}
use Rattle.agent_model.specs.Standing.{Refresh as ModelRefresh, Standing as ModelStanding, begun_again_in}
use Rattle.agent_model.specs.Turning.{Behind, BelowTide, TurnEnd}
use Rattle.session_model.specs.Executions.{HasRefreshed, IsRefusal, LacksMemory, anew, answered_by_turn, ended}
use Rattle.session_model.specs.Refreshing.{Note}
use Rattle.session_model.specs.Replies.{Asks, said_no_memory, said_of}
use Rattle.session_model.specs.Sessions.{Over, Publishing, Said, Session, in_publishing_order}
use Rattle.session_model.specs.Sessions.TakesSome.{none as some_none}
use Rattle.log_fetch.specs.declared.refresh.Refresh.{Refresh}
use Rattle.log_fetch.specs.declared.turned.Turned.{Turned}
use Rattle.log_fetch.specs.declared.turned.TurnFault.{TurnFault}
use Rattle.log_fetch.specs.declared.turned.TurnFault.TheVariants as fault
use Rattle.log_fetch.specs.Edges.{edge_in}
use Rattle.log_fetch.specs.Standings.{asked_of, refresh_of, standing_of}
use Rattle.ivy_agent.specs.Calls as calls
use Rattle.ivy_agent.specs.Holders.{Holder}
use Rattle.ivy_agent.specs.Turns.{IsFetchedIn, TakesTurn, TurnsAs}
use Rattle.ivy_agent.proofs.Bounds.{bounds_in}
use Rattle.ivy_session.specs.declared.session.Next.TheVariants as next
use Rattle.ivy_session.specs.Cutting.{IsCutAsTurned}
use Rattle.ivy_session.specs.States.{HasAsked, IsSession, is_turning}
use Rattle.ivy_session.specs.Stepping as code
use Rattle.ivy_session.specs.Stepping.{IsAgainFor, IsBatchOf, IsSameSession, NextIs, TurnedIs}
use Rattle.ivy_session.specs.Stepping.IsRefused.{begins_again as code_begins, lacks_memory as code_lacks, gives_up as code_gives_up}
use Rattle.ivy_session.proofs.Called.{IsAskedOf, asks_as, batch_of_members, refreshed_as, turn_is_asked}
use Rattle.ivy_session.proofs.Staying.{lacking_standing, taken_same}
use Rattle.ivy_session.proofs.Wanted.{TurnsThen, then_same, turns_then as session_turns}
use Rattle.server_model.specs.Acts.{Gave, Lacked, Refused, Replied, TakingTurn, TurnAsked}
use Rattle.server_model.specs.Driving.{Driven, Makes, as_session, over_with}
use Rattle.server_model.specs.Driving.Does.{turns}
use Rattle.server_model.specs.Driving.Makes.{answers, begins_again, gives_up, lacks_memory as makes_lacking}
use Rattle.server_model.specs.Driving.Went.{is_cut, lacks_memory}
use Rattle.server_model.specs.Takers.Follows.{none as follows_none, turns as follows_turns}
use Rattle.ivy_server.specs.Passes.{GivesTurn}
use Rattle.ivy_server.specs.Passes.GivesTurn.{replies as gives_reply, refuses as gives_refusal, lacks_memory as gives_nothing}
use Rattle.ivy_server.specs.Served.{Leave, moment_of}
use Rattle.ivy_server.specs.Sessions.{GoesOn, HasHadTurn, Held, IsDriven, MayTurn, Place, Setting, Touched, judges}
use Rattle.ivy_server.proofs.Asks.{driven_then}
use Rattle.ivy_server.proofs.Marks.{leave_lacked, leave_refused, leave_replied}
use Rattle.ivy_server.proofs.Ways.{one_act}
use Rattle.ivy_server.proofs.Whole.{answered_is_whole, refused_is_whole}

-- ---- what a refresh brought may be given to a turn

fetched_in : (s : ModelStanding) (b : Batch) → IsBatchOf s b → IsFetchedIn s.view b
fetched_in s b h = record { under = (edge_in s.edges, h.under); members = batch_of_members s b h }

some_view : (view : Option View) (v : View) (b : Batch) → view ≡ Some v → IsFetchedIn v b → IsSomeAnd view (λ w. IsFetchedIn w b)
some_view view v b is fetched = subst (λ (o : Option View). IsSomeAnd o (λ w. IsFetchedIn w b)) (sym is) fetched

-- ---- where a turn is wanted

module _ (place : Place) (here : Driven) (old : Held) (is : IsDriven place here old) where
  -- what was available is taken, and the refresh is done
  abbrev pub Turns : Held → Refresh → Type 0
  Turns mid refresh = TurnsThen judges hss_judged place.replicas here.session here.cache mid.session mid.cache refresh

  pub turns_then : (mid : Held) (refresh : Refresh) → NextIs judges old.session mid.session here.session here.cache mid.cache (next.Turn refresh) → Turns mid refresh
  turns_then mid refresh wanted = session_turns judges hss_judged place.replicas here.session here.cache old.session refl is.replicas mid.session mid.cache refresh wanted

  pub may_turn : (mid : Held) (refresh : Refresh) → Turns mid refresh → MayTurn place.view refresh mid.session
  may_turn mid refresh h =
      let viewed : place.view ≡ Some h.taken.standing.view = is.viewed ∙ ap (λ (s : Session). Some s.standing.view) (sym (taken_same h.takes)) in
      record {
        waits = h.turning;
        session = h.taken;
        is = h.session;
        viewed = viewed;
        batch = some_view place.view h.taken.standing.view refresh.batch viewed (fetched_in h.taken.standing refresh.batch h.batch);
        bounds = bounds_in h.taken h.notes refresh h.done;
        is_call = λ asked now is_asked moment.
            let a = turn_is_asked judges h.taken mid.session asked h.session h.turning is_asked in record { caller = a.caller; args = a.args; moment = moment };
      }

-- ---- the turn

module _ {P K S C : Type 0} (setting : Setting P K S C) (here : Driven) (old mid new : Held) (is : IsDriven setting.place here old) (refresh : Refresh) (first : IsSameSession old.session mid.session)
    (whole : mid.session.is_cut ≡ here.is_cut) (wanted : Turns setting.place here old is mid refresh) (stays : new.cache ≡ mid.cache) (before after : Touched P C) (had : HasHadTurn setting refresh mid.session new.session before after) (past : is_turning new.session.stage ≡ false) where
  abbrev taken : Driven
  taken = record { session = wanted.taken; cache = mid.cache; is_cut = here.is_cut }

  abbrev view : View
  view = wanted.taken.standing.view

  abbrev turn : TurnAsked
  turn = record { brought = refresh_of refresh; asked = asked_of had.asked; now = moment_of had.moment }

  abbrev Goes : Type 0
  Goes = GoesOn setting here new before after

  same : IsSameSession old.session new.session
  same = then_same old.session mid.session new.session first had.told.0

  viewed : setting.place.view ≡ Some view
  viewed = is.viewed ∙ ap (λ (s : Session). Some s.standing.view) (sym (taken_same wanted.takes))

  in_view : had.turn.found.agent.view ≡ Some view
  in_view = had.turn.in_view ∙ viewed

  call : IsAskedOf wanted.taken had.asked
  call = turn_is_asked judges wanted.taken mid.session had.asked wanted.session wanted.turning had.is_asked

  asks_so : (xid : ℕ) (other : ModelAsked) → Asks view wanted.taken.message xid other → Asks view wanted.taken.message xid (asked_of had.asked)
  asks_so xid other a = asks_as view wanted.taken.message call.xid xid (asked_of had.asked) other call.asks a

  done_so : (notes : List Note) (given : ModelRefresh) → HasRefreshed wanted.taken notes given → HasRefreshed wanted.taken notes (refresh_of refresh)
  done_so notes given d = refreshed_as wanted.taken wanted.notes notes (refresh_of refresh) given wanted.done d

  waits_for_none : (t : Session) → HasAsked new.session t
  waits_for_none t waits = absurd (waits had.free)

  -- ---- the act

  record HasActed (gave : Gave) : Type 0 where
    gives : GivesTurn setting.by before.pass turn gave after.pass
    leave : Leave setting.gives before.marks (TakingTurn turn gave ∷ []) after.marks

  module _ (gave : Gave) (acted : HasActed gave) (notes : List Note) (xid : ℕ) (done : HasRefreshed wanted.taken notes (refresh_of refresh)) (asks : Asks view wanted.taken.message xid (asked_of had.asked)) where
    goes_by : (t : Session) → Makes wanted.taken notes xid gave t → IsSession judges t new.session → new.session.is_cut ≡ mid.session.is_cut → setting.place.view ≡ Some t.standing.view → Goes
    goes_by t makes session same_flag also = record {
      acts = TakingTurn turn gave ∷ [];
      there = as_session taken t;
      went = one_act _ (turns taken t notes xid turn gave (wanted.takes, refl) done asks makes);
      follows = follows_turns turn gave follows_none acted.gives;
      leave = acted.leave;
      driven = driven_then setting.place here old is (as_session taken t) new same session (sym stays) (same_flag ∙ whole) also (waits_for_none t) past;
    }

    -- and the session is cut after it
    goes_cut : (t : Session) (said : Option Said) (posts : List Post) → Makes wanted.taken notes xid gave t → t.stage ≡ Publishing said posts [] → new.session.is_cut ≡ true → IsSession judges (record t { stage = Over said }) new.session
        → setting.place.view ≡ Some t.standing.view → Goes
    goes_cut t said posts makes at flag session also = record {
      acts = TakingTurn turn gave ∷ [];
      there = record (over_with (as_session taken t) said) { is_cut = true };
      went = is_cut said posts [] (one_act _ (turns taken t notes xid turn gave (wanted.takes, refl) done asks makes)) at;
      follows = follows_turns turn gave follows_none acted.gives;
      leave = acted.leave;
      driven = driven_then setting.place here old is _ new same session (sym stays) flag also (waits_for_none (record t { stage = Over said })) past;
    }

    -- or memory runs out then
    goes_lacking : (t u : Session) → Makes wanted.taken notes xid gave t → LacksMemory t u → IsSession judges u new.session → new.session.is_cut ≡ mid.session.is_cut → setting.place.view ≡ Some t.standing.view → Goes
    goes_lacking t u makes lacking session same_flag also = record {
      acts = TakingTurn turn gave ∷ [];
      there = as_session taken u;
      went = lacks_memory (as_session taken t) u (one_act _ (turns taken t notes xid turn gave (wanted.takes, refl) done asks makes)) (some_none, refl) lacking;
      follows = follows_turns turn gave follows_none acted.gives;
      leave = acted.leave;
      driven = driven_then setting.place here old is (as_session taken u) new same session (sym stays) (same_flag ∙ whole) (also ∙ ap (λ s. Some s.view) (sym (lacking_standing lacking))) (waits_for_none u) past;
    }

  abbrev Took : Result Turned TurnFault → Type 0
  Took result = TakesTurn setting.by.signs setting.by.is_whole setting.by.saves view (refresh_of refresh) (asked_of had.asked) (moment_of had.moment) had.turn.found result had.turn.after

  abbrev MadeSo : Result Turned TurnFault → Type 0
  MadeSo result = calls.MadeThen before.marks.made after.marks.made refresh had.asked (moment_of had.moment) result

  -- ---- it was answered

  replied : (turned : Turned) (took : Took (Ok turned)) → MadeSo (Ok turned) → HasActed (Replied took.reply turned.posts)
  replied turned took made = record {
    gives = gives_reply had.turn.found had.turn.after view took.fails took.reply turned after.pass had.turn.came had.turn.left in_view took.turns took.gives;
    leave = leave_replied before.marks after.marks had.moment turn refl had.gave had.trail took.reply turned.posts
        (record { refresh = refresh; asked = had.asked; now = moment_of had.moment; turned = turned })
        (record { brought = refl; asked = refl; now = refl; reply = took.gives.bytes }) made;
  }

  by_answer : (turned : Turned) (took : Took (Ok turned)) → MadeSo (Ok turned) → IsCutAsTurned mid.session new.session (Ok turned) → code.IsAnswered judges mid.session new.session wanted.taken turned took.reply → Goes
  by_answer turned took made cut_so a =
      let acted = replied turned took made in
      let done = done_so a.notes a.given a.refreshed in
      let asks = asks_so a.xid a.asked a.asks in
      ⊎_elim (λ session. goes_by (Replied took.reply turned.posts) acted a.notes a.xid done asks (answered_by_turn wanted.taken (said_of a.xid took.reply) a.notes turned.posts) (answers took.reply turned.posts) session
      (answered_is_whole mid.session new.session (Ok turned) cut_so judges (answered_by_turn wanted.taken (said_of a.xid took.reply) a.notes turned.posts) session (Some (said_of a.xid took.reply), in_publishing_order turned.posts, [], refl)) viewed)
      (λ cut. goes_cut (Replied took.reply turned.posts) acted a.notes a.xid done asks (answered_by_turn wanted.taken (said_of a.xid took.reply) a.notes turned.posts) (Some (said_of a.xid took.reply)) (in_publishing_order turned.posts)
      (answers took.reply turned.posts) refl cut.0 cut.1 viewed)
      a.publishes

  -- ---- memory ran out for it

  lacked : Took (Err fault.Memory) → MadeSo (Err fault.Memory) → HasActed Lacked
  lacked took made = record {
    gives = gives_nothing had.turn.found after.pass had.turn.came (subst (λ (h : Holder K S). setting.by.leaves after.pass h) took had.turn.left);
    leave = leave_lacked before.marks after.marks had.moment turn refl had.gave had.trail made;
  }

  by_lack : Took (Err fault.Memory) → MadeSo (Err fault.Memory) → (t : Session) → LacksMemory wanted.taken t → IsSession judges t new.session → new.session.is_cut ≡ mid.session.is_cut → Goes
  by_lack took made t lacking session same_flag =
      goes_by Lacked (lacked took made) wanted.notes call.xid wanted.done call.asks t (makes_lacking t lacking) session same_flag (viewed ∙ ap (λ s. Some s.view) (sym (lacking_standing lacking)))

  -- ---- it was refused

  module _ (end : TurnEnd) (refusal : IsRefusal end) (standing : ModelStanding) (took : TurnsAs setting.by.signs setting.by.is_whole setting.by.saves view (refresh_of refresh) (asked_of had.asked) (moment_of had.moment) had.turn.found false end had.turn.after)
      (anew_is : standing ≡ begun_again_in setting.by.signs had.turn.after.agent view) (made : after.marks.made ≡ before.marks.made) (same_flag : new.session.is_cut ≡ mid.session.is_cut) where
    refused : HasActed (Refused standing)
    refused = record {
      gives = subst (λ (s : ModelStanding). GivesTurn setting.by before.pass turn (Refused s) after.pass) (sym anew_is)
          (gives_refusal had.turn.found had.turn.after view end after.pass had.turn.came had.turn.left in_view refusal took);
      leave = leave_refused before.marks after.marks had.moment turn refl had.gave had.trail standing made;
    }

    anew_viewed : setting.place.view ≡ Some standing.view
    anew_viewed = viewed ∙ ap (λ (s : ModelStanding). Some s.view) (sym anew_is)

    by_refusal : code.IsRefused judges mid.session new.session wanted.taken standing → Goes
    by_refusal (code_begins few session) = goes_by (Refused standing) refused wanted.notes call.xid wanted.done call.asks (anew wanted.taken standing) (begins_again standing few) session same_flag anew_viewed
    by_refusal (code_lacks t few lacking session) = goes_lacking (Refused standing) refused wanted.notes call.xid wanted.done call.asks (anew wanted.taken standing) t (begins_again standing few) lacking session same_flag anew_viewed
    by_refusal (code_gives_up xid notes given other many done asks session) =
        goes_by (Refused standing) refused notes xid (done_so notes given done) (asks_so xid other asks) (ended wanted.taken (said_no_memory xid) notes None) (gives_up standing many) session same_flag viewed

  -- ---- whatever it was

  by_turn : (result : Result Turned TurnFault) → Took result → MadeSo result → IsCutAsTurned mid.session new.session result → TurnedIs judges mid.session new.session wanted.taken result → Goes
  by_turn (Ok turned) took made cut told = by_answer turned took made cut (told took.reply took.gives.bytes)
  by_turn (Err fault.Memory) took made cut told = by_lack took made told.0 told.1 told.2 (refused_is_whole mid.session new.session (Err fault.Memory) cut refl)
  by_turn (Err (fault.Behind standing)) took made cut told =
      by_refusal Behind tt (standing_of standing) took.turns took.anew made (refused_is_whole mid.session new.session (Err (fault.Behind standing)) cut refl) told
  by_turn (Err (fault.BelowTide standing)) took made cut told =
      by_refusal BelowTide tt (standing_of standing) took.turns took.anew made (refused_is_whole mid.session new.session (Err (fault.BelowTide standing)) cut refl) told

  pub turn_goes : Goes
  turn_goes = by_turn had.result
      (subst (λ (o : Option View). IfSome o (λ v. TakesTurn setting.by.signs setting.by.is_whole setting.by.saves v (refresh_of refresh) (asked_of had.asked) (moment_of had.moment) had.turn.found had.result had.turn.after)) viewed had.turn.turn)
      had.made had.cut (had.told.1 wanted.taken wanted.session)

-- ---- what the session is told of its turn

module _ {K S : Type 0} (signs : Signing S) (is_whole : S → Type 0) (saves : K → List ℕ → Bool → K → Type 0) (brought : ModelRefresh) (asked : ModelAsked) (now : Moment) (before after : Holder K S) where
  anew_so : (v : View) (result : Result Turned TurnFault) → TakesTurn signs is_whole saves v brought asked now before result after → IfErr result IsAgainFor
  anew_so v (Ok turned) takes = tt
  anew_so v (Err fault.Memory) takes = tt
  anew_so v (Err (fault.Behind standing)) takes = ap (λ (x : ModelStanding). x.to_load) takes.anew
  anew_so v (Err (fault.BelowTide standing)) takes = ap (λ (x : ModelStanding). x.to_load) takes.anew

  pub turn_is_again : (seen : Option View) (s : Session) (result : Result Turned TurnFault) → seen ≡ Some s.standing.view
      → IfSome seen (λ v. TakesTurn signs is_whole saves v brought asked now before result after) → IfErr result IsAgainFor
  turn_is_again seen s result is takes = anew_so s.standing.view result (subst (λ (o : Option View). IfSome o (λ v. TakesTurn signs is_whole saves v brought asked now before result after)) is takes)
