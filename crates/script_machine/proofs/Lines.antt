-- Lines that sessions go on by, in a world that the code's may be.
use Rattle.std.proofs.Common.{◌≡◌, ℕ, true, false, List, [], ◌∷◌, ◌++◌, map, filter, set, get_or, refl, sym, ap, ◌∙◌, subst, Option, Some, None}
use Rattle.std.specs.Prelude.{find, is_some, not, option_map}
use Rattle.std.specs.List.{position, remove}
use Rattle.std.specs.Str.{bytes_eq}
use Rattle.dhash_model.specs.Signed.{hss_judged}
use Rattle.ring_nodes.proofs.Places.{found_at, none_found}
use Rattle.script_driver.specs.Run.{Outcome, Goes, Refuses}
use Rattle.script_model.specs.declared.command.Piece.{Piece}
use Rattle.session_model.specs.Sessions.{Session}
use Rattle.world_model.specs.Calls.{AsLine, FinishLine, OpenLine, Sending, StepLine, is_step_count, replied, sending_of}
use Rattle.world_model.specs.Calls.AsLine.{sends_nothing as as_nothing, calls}
use Rattle.world_model.specs.Calls.FinishLine.{not_open as none_to_end, ends}
use Rattle.world_model.specs.Calls.OpenLine.{sends_nothing as open_nothing, is_open, opens}
use Rattle.world_model.specs.Calls.StepLine.{not_open as none_to_step, out_of_range, steps}
use Rattle.world_model.specs.Logs.{Played}
use Rattle.world_model.specs.Steps.{RunsOut, Configuration, StepsOn}
use Rattle.world_model.specs.GhostState.{beginning, having_begun, with_began, without_began}
use Rattle.world_model.specs.World.{NamedSession, session_named, with_session, without_session}
use Rattle.world_laws.proofs.Placed.{found_among}
use Rattle.world_laws.specs.Invariant.{IsInHand}
use Rattle.world_laws.proofs.SessionLinesSteps.{Leads, steps_on_lead}
use Rattle.script_world.specs.CallsState.{CallState}
use Rattle.script_world.specs.PartsState.{HasParts, PartsState}
use Rattle.script_world.specs.Running.{BeginsOf, HasConfigurationIn, IsConfigurationIn, LeadsTo, StepsOnIn}
use Rattle.script_machine.specs.Ends.{EndsIn, IsEnd}
use Rattle.script_machine.specs.WorldState.{AreOpenAs, HasWorld, IsOpenAs, KeepsAll, OpenState, RepresentsWorld, WorldState}
use Rattle.script_machine.proofs.Hands.{IsBegun, begun_by, begun_hand, begun_configuration, begun_so, here, named, nothing_sent, open_hand, open_configuration, replied_ring, ringed, start}
use Rattle.script_machine.proofs.Opened.{IsFoundAs, closed, found_as, has_name, is_named, moved, one_more, placed, put_back}

module _ (s : WorldState) (w : Played) (shows : RepresentsWorld s w) (keeps : KeepsAll w) where
  -- the line goes on in that world, and leaves one that the code's may be then
  abbrev pub GoesOnTo : (Outcome Played → Type 0) → List ℕ → WorldState → Type 0
  GoesOnTo Line text after = (next : Played) × Line (Goes next text) × RepresentsWorld after next

  -- ---- as

  module _ (log : List ℕ) (pieces : List Piece) where
    pub sends_none : BeginsOf s.parts None w.0 (sending_of w.0 log pieces) → AsLine hss_judged w (sending_of w.0 log pieces) Refuses
    sends_none begins = subst (λ (o : Option Sending). AsLine hss_judged w o Refuses) (sym (nothing_sent s.parts w.0 log pieces begins)) as_nothing

    pub calls_whole : (call : CallState) → BeginsOf s.parts (Some call) w.0 (sending_of w.0 log pieces) → (after : PartsState) (text : List ℕ) → EndsIn log s.parts call after text
        → GoesOnTo (AsLine hss_judged w (sending_of w.0 log pieces)) text (record s { parts = after })
    calls_whole call begins after text ends_so = (next, line, record { parts = counts.0; sessions = moved next.0.replicas w.0.replicas next.0.sessions w.0.sessions s.sessions (replied_ring e.end.world e.said ∙ e.ring) (counts.1 ∙ e.sessions) shows.sessions })
      where
        is : IsBegun s.parts w.0 log pieces call
        is = begun_so s.parts w.0 log pieces call begins

        r : ℕ
        r = call.session.replicas

        first : Configuration
        first = start s w shows keeps log pieces call is

        e : IsEnd after text log first r
        e = ends_so first r (begun_configuration s w shows keeps log pieces call is) (begun_hand s w shows keeps log pieces call is)

        next : Played
        next = (replied e.end.world e.said, e.end.ghost_state)

        counts : HasParts next.0 after × (next.0.sessions ≡ e.end.world.sessions)
        counts = e.counts e.end.world.sessions

        line : AsLine hss_judged w (sending_of w.0 log pieces) (Goes next text)
        line = subst (λ (o : Option Sending). AsLine hss_judged w o (Goes next text)) (sym is.sends) (subst (λ (l : List ℕ). AsLine hss_judged w (Some is.sending) (Goes next l)) (sym e.shown)
            (calls is.sending r is.session e.end e.said (ringed s w shows keeps log pieces call is) is.begins
            (subst (λ (n : List ℕ). RunsOut hss_judged r n first e.end) (sym (named s w shows keeps log pieces call is)) e.runs) e.over))

    -- ---- open

    module _ (name : List ℕ) where
      pub open_sends_none : BeginsOf s.parts None w.0 (sending_of w.0 log pieces) → OpenLine hss_judged w name (sending_of w.0 log pieces) Refuses
      open_sends_none begins = subst (λ (o : Option Sending). OpenLine hss_judged w name o Refuses) (sym (nothing_sent s.parts w.0 log pieces begins)) open_nothing

      pub opens_one : position (is_named name) s.sessions ≡ None → (call : CallState) → BeginsOf s.parts (Some call) w.0 (sending_of w.0 log pieces)
          → GoesOnTo (OpenLine hss_judged w name (sending_of w.0 log pieces)) [] (record s { sessions = s.sessions ++ record { name = name; by = log; call = call } ∷ [] })
      opens_one free call begins = (next, line, record { parts = parts; sessions = one_more w.0.replicas w.0.sessions s.sessions new o shows.sessions is_new })
        where
          is : IsBegun s.parts w.0 log pieces call
          is = begun_so s.parts w.0 log pieces call begins

          new : NamedSession
          new = record { name = name; session = is.session }

          o : OpenState
          o = record { name = name; by = log; call = call }

          next : Played
          next = (record w.0 { sessions = w.0.sessions ++ new ∷ [] }, record (having_begun w.1) { sessions = w.1.sessions ++ (name, beginning w.1 is.sending.by.name) ∷ [] })

          parts : HasParts next.0 s.parts
          parts = record { replicas = shows.parts.replicas; nodes = shows.parts.nodes; participants = shows.parts.participants; views = shows.parts.views; replies = shows.parts.replies; moment = shows.parts.moment; met = shows.parts.met }

          is_new : IsOpenAs w.0.replicas new o
          is_new = record { name = refl; by = begun_by s w shows keeps log pieces call is; replicas = ringed s w shows keeps log pieces call is; shows = is.shown.shows }

          nobody : find (has_name name) w.0.sessions ≡ None
          nobody = subst (λ (x : Option OpenState). IsFoundAs w.0.replicas name w.0.sessions x) (none_found (is_named name) s.sessions free) (found_as w.0.replicas name w.0.sessions s.sessions shows.sessions)

          line : OpenLine hss_judged w name (sending_of w.0 log pieces) (Goes next [])
          line = subst (λ (x : Option Sending). OpenLine hss_judged w name x (Goes next [])) (sym is.sends)
              (opens is.sending is.session (ap (λ (x : Option NamedSession). is_some (option_map (λ (t : NamedSession). t.session) x)) nobody) is.begins)

  -- ---- sessions that are open

  module _ (name : List ℕ) where
    not_found : position (is_named name) s.sessions ≡ None → session_named w.0 name ≡ None
    not_found none = ap (option_map (λ (t : NamedSession). t.session))
        (subst (λ (x : Option OpenState). IsFoundAs w.0.replicas name w.0.sessions x) (none_found (is_named name) s.sessions none) (found_as w.0.replicas name w.0.sessions s.sessions shows.sessions))

    pub none_steps : (count : ℕ) → position (is_named name) s.sessions ≡ None → StepLine hss_judged w name count (session_named w.0 name) Refuses
    none_steps count none = subst (λ (x : Option Session). StepLine hss_judged w name count x Refuses) (sym (not_found none)) none_to_step

    pub none_ends : position (is_named name) s.sessions ≡ None → FinishLine hss_judged w name (session_named w.0 name) Refuses
    none_ends none = subst (λ (x : Option Session). FinishLine hss_judged w name x Refuses) (sym (not_found none)) none_to_end

    module _ (place : ℕ) (at : position (is_named name) s.sessions ≡ Some place) where
      -- the session at a place that has a name
      pub is_there : (o : OpenState) → o ≡ get_or s.sessions place o → (t : NamedSession) × (find (has_name name) w.0.sessions ≡ Some t) × IsOpenAs w.0.replicas t o
      is_there o is = subst (λ (x : Option OpenState). IsFoundAs w.0.replicas name w.0.sessions x) (found_at (is_named name) s.sessions place o at ∙ ap (λ (x : OpenState). Some x) (sym is))
          (found_as w.0.replicas name w.0.sessions s.sessions shows.sessions)

      some_there : (t : NamedSession) × (find (has_name name) w.0.sessions ≡ Some t)
      some_there =
          let o = some_named s.sessions at in
          let t : IsFoundAs w.0.replicas name w.0.sessions (Some o.0) = subst (λ (x : Option OpenState). IsFoundAs w.0.replicas name w.0.sessions x) o.1 (found_as w.0.replicas name w.0.sessions s.sessions shows.sessions) in
          (t.0, t.1)
        where
          some_named : (os : List OpenState) → position (is_named name) os ≡ Some place → (o : OpenState) × (find (is_named name) os ≡ Some o)
          some_named [] e = absurd (cc e)
          some_named (o ∷ os) e = (get_or (o ∷ os) place o, found_at (is_named name) (o ∷ os) place o e)

      pub far_steps : (count : ℕ) → is_step_count count ≡ false → StepLine hss_judged w name count (session_named w.0 name) Refuses
      far_steps count far = let t = some_there in
          subst (λ (x : Option Session). StepLine hss_judged w name count x Refuses) (sym (ap (option_map (λ (u : NamedSession). u.session)) t.1)) (out_of_range t.0.session far)

      pub is_open_already : (x : Option Sending) → OpenLine hss_judged w name x Refuses
      is_open_already None = open_nothing
      is_open_already (Some sending) = is_open sending (ap (λ (x : Option NamedSession). is_some (option_map (λ (t : NamedSession). t.session) x)) some_there.1)

      module _ (o : OpenState) (is : o ≡ get_or s.sessions place o) where
        abbrev t : NamedSession
        t = (is_there o is).0

        abbrev found : find (has_name name) w.0.sessions ≡ Some t
        found = (is_there o is).1

        abbrev as_open : IsOpenAs w.0.replicas t o
        as_open = (is_there o is).2

        abbrev r : ℕ
        r = o.call.session.replicas

        abbrev pub first : Configuration
        first = here s w shows keeps name t o found as_open

        pub its_configuration : IsConfigurationIn s.parts o.by o.call first r
        its_configuration = open_configuration s w shows keeps name t o found as_open

        its_hand : IsInHand first r
        its_hand = open_hand s w shows keeps name t o found as_open

        its_session : session_named w.0 name ≡ Some t.session
        its_session = ap (option_map (λ (u : NamedSession). u.session)) found

        -- ---- step

        pub steps_one : (count : ℕ) → is_step_count count ≡ true → (after : PartsState) (new : CallState) → StepsOnIn o.by s.parts o.call after new count
            → GoesOnTo (StepLine hss_judged w name count (session_named w.0 name)) [] (record { parts = after; sessions = set s.sessions place (record o { call = new }) })
        steps_one count within after new on = (next, line, record { parts = parts; sessions = sessions })
          where
            to : (end : Configuration) × StepsOn hss_judged r o.by count first end × LeadsTo after new first end
            to = on first r its_configuration

            end : Configuration
            end = to.0

            led : Leads first end r
            led = steps_on_lead r o.by to.1 its_configuration.named its_configuration.way.keeps its_hand its_configuration.way.ring

            again : NamedSession
            again = record { name = name; session = end.session }

            next : Played
            next = (with_session end.world name end.session, with_began end.ghost_state name end.began)

            line : StepLine hss_judged w name count (session_named w.0 name) (Goes next [])
            line = subst (λ (x : Option Session). StepLine hss_judged w name count x (Goes next [])) (sym its_session)
                (steps t.session r end within as_open.replicas (subst (λ (n : List ℕ). StepsOn hss_judged r n count first end) (sym as_open.by) to.1))

            parts : HasParts next.0 after
            parts = let has = to.2.goes_on.0 in record { replicas = has.replicas; nodes = has.nodes; participants = has.participants; views = has.views; replies = has.replies; moment = has.moment; met = has.met }

            put : IsOpenAs w.0.replicas again (record o { call = new })
            put = record {
              name = sym (found_among (λ (u : NamedSession). u.name) w.0.sessions name t found).1 ∙ as_open.name;
              by = led.same.call.0 ∙ as_open.by;
              replicas = sym to.2.ring ∙ to.2.goes_on.0.replicas ∙ to.2.shown.replicas;
              shows = to.2.shown.shows;
            }

            sessions : AreOpenAs next.0.replicas next.0.sessions (set s.sessions place (record o { call = new }))
            sessions = moved next.0.replicas w.0.replicas next.0.sessions (map (placed w.0.replicas name again) w.0.sessions) (set s.sessions place (record o { call = new })) to.2.ring (ap (map (placed w.0.replicas name again)) to.2.goes_on.1)
                (put_back w.0.replicas name w.0.sessions s.sessions place at shows.sessions keeps.0.named_once again (record o { call = new }) put)

        -- ---- end

        pub ends_one : (after : PartsState) (text : List ℕ) → EndsIn o.by s.parts o.call after text
            → GoesOnTo (FinishLine hss_judged w name (session_named w.0 name)) text (record { parts = after; sessions = remove s.sessions place })
        ends_one after text ends_so = (next, line, record { parts = counts.0; sessions = sessions })
          where
            e : IsEnd after text o.by first r
            e = ends_so first r its_configuration its_hand

            next : Played
            next = (replied (without_session e.end.world name) e.said, without_began e.end.ghost_state name)

            counts : HasParts next.0 after × (next.0.sessions ≡ filter (λ (u : NamedSession). not (bytes_eq u.name name)) e.end.world.sessions)
            counts = e.counts (filter (λ (u : NamedSession). not (bytes_eq u.name name)) e.end.world.sessions)

            line : FinishLine hss_judged w name (session_named w.0 name) (Goes next text)
            line = subst (λ (x : Option Session). FinishLine hss_judged w name x (Goes next text)) (sym its_session) (subst (λ (l : List ℕ). FinishLine hss_judged w name (Some t.session) (Goes next l)) (sym e.shown)
                (ends t.session r e.end e.said as_open.replicas (subst (λ (n : List ℕ). RunsOut hss_judged r n first e.end) (sym as_open.by) e.runs) e.over))

            sessions : AreOpenAs next.0.replicas next.0.sessions (remove s.sessions place)
            sessions = moved next.0.replicas w.0.replicas next.0.sessions (filter (λ (u : NamedSession). not (bytes_eq u.name name)) w.0.sessions) (remove s.sessions place)
                (replied_ring (without_session e.end.world name) e.said ∙ e.ring) (counts.1 ∙ ap (filter (λ (u : NamedSession). not (bytes_eq u.name name))) e.sessions)
                (closed w.0.replicas name w.0.sessions s.sessions place at shows.sessions keeps.0.named_once)

-- whether a session of that name is open
pub not_yet : (name : List ℕ) (place : Option ℕ) (os : List OpenState) → place ≡ position (is_named name) os → is_some place ≡ false → position (is_named name) os ≡ None
not_yet name None os is none = sym is
not_yet name (Some i) os is none = absurd (cc none)

pub found_already : (s : WorldState) (w : Played) → RepresentsWorld s w → KeepsAll w → (name : List ℕ) (place : Option ℕ) → place ≡ position (is_named name) s.sessions → is_some place ≡ true → (x : Option Sending) → OpenLine hss_judged w name x Refuses
found_already s w shows keeps name None is some x = absurd (cc some)
found_already s w shows keeps name (Some i) is some x = is_open_already s w shows keeps name i (sym is) x

-- some configuration in hand is that of the open session at a place
pub has_configuration : (s : WorldState) → HasWorld s → (name : List ℕ) (place : ℕ) → position (is_named name) s.sessions ≡ Some place → (o : OpenState) → o ≡ get_or s.sessions place o → HasConfigurationIn s.parts o.by o.call
has_configuration s (w, shows, keeps) name place at o is = (first s w shows keeps name place at o is, o.call.session.replicas, its_configuration s w shows keeps name place at o is)
