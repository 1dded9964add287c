-- The effects of a line that goes on: what its command leaves of a world with its ghost state. Of most commands that is one effect; of some
-- there is a later one.
use Rattle.std.specs.Prelude.{◌≡◌, ℕ, ◌+◌, Bool, true, false, List, [], ◌∷◌, ◌++◌, Contains, codes, Option, Some, None, is_some}
use Rattle.ivy_base.specs.declared.key.Key.{Key}
use Rattle.ivy_base.specs.declared.key.PubKey.{PubKey}
use Rattle.hash_signature_model.specs.declared.set.Set.{Set}
use Rattle.dhash_model.specs.Signed.{hss_judged}
use Rattle.log_model.specs.Record.{Record}
use Rattle.log_model.specs.View.{View, have_own_head_keys, view_block, view_name}
use Rattle.dht_ids.specs.declared.ask.Ask.TheVariants as ask
use Rattle.dht_ids.specs.declared.judge.Judged.{Judged}
use Rattle.dht_ids.specs.declared.post.Post.{Post}
use Rattle.agent_model.specs.Agent.{entered, failed, kept_of, restored}
use Rattle.agent_model.specs.Others.{basis_of, snapped}
use Rattle.snapshot_model.specs.Spelling.{root_name, snapshot_blocks}
use Rattle.agent_model.specs.SavedBytes.{ArePostsSpelled}
use Rattle.agent_model.specs.Views.{is_own_member, not_named}
use Rattle.session_model.specs.Sessions.{Over, Said, Session}
use Rattle.script_driver.specs.Run.{Goes}
use Rattle.script_model.specs.declared.command.Command.{Command}
use Rattle.script_model.specs.declared.command.Command.TheVariants as command
use Rattle.script_model.specs.declared.command.Piece.{Piece}
use Rattle.script_model.specs.declared.command.Shown.{Shown}
use Rattle.world_model.specs.Agents.{HssAgent, IsHssKept, HssKept, hss_signing, hss_kept_bytes, hss_opened}
use Rattle.world_model.specs.Calls.{BeginsWith, Sending, replied, configuration_of, sending_of}
use Rattle.world_model.specs.Fates.{Puts}
use Rattle.world_model.specs.Keepers.{asked_to_save, fails_next, with_fault}
use Rattle.world_model.specs.Logs.{IsKnownAgain, Played, acked_view, afresh, afresh_told, fresh_signer, in_key_order, is_too_large, keys_of}
use Rattle.world_model.specs.Logs.{failed_text, new_participant, of_members, restarted, snap_text, to_publish, with_new_participant}
use Rattle.world_model.specs.Logs.{with_view}
use Rattle.world_model.specs.Step.{Does}
use Rattle.world_model.specs.Ring.{failed_join_text}
use Rattle.world_model.specs.Shows.{word_of}
use Rattle.world_model.specs.Steps.{RunsOut, Configuration, StepsOn, having_made, met_by}
use Rattle.world_model.specs.GhostState.{began_nothing, began_of, beginning, having_begun, known_of, with_began, without_began}
use Rattle.world_model.specs.World.{Participant, World, participant, session_named, view_named, with_participant, with_session}
use Rattle.world_model.specs.World.{without_session}

-- ---- sorts of commands

-- it may be that it shows something at most
abbrev pub MayOnlyShow : Command → Type 0
MayOnlyShow (command.Snap log) = Unit {0}
MayOnlyShow (command.Show shown) = Unit {0}
MayOnlyShow command.Nothing = Unit {0}
MayOnlyShow _ = ⊥

-- it changes nodes, and not by a session's asks
abbrev pub IsRingCommand : Command → Type 0
IsRingCommand (command.Ring nodes replicas) = Unit {0}
IsRingCommand (command.Join node) = Unit {0}
IsRingCommand (command.Stop node) = Unit {0}
IsRingCommand command.Round = Unit {0}
IsRingCommand (command.Damage node key offset byte) = Unit {0}
IsRingCommand _ = ⊥

-- all that a participant has to publish is published by it
abbrev pub PublishesAlone : Command → Type 0
PublishesAlone (command.Log log id seed sets) = Unit {0}
PublishesAlone (command.Snap log) = Unit {0}
PublishesAlone _ = ⊥

-- a session comes to its end by it
abbrev pub EndsSession : Command → Type 0
EndsSession (command.As log pieces) = Unit {0}
EndsSession (command.Finish session) = Unit {0}
EndsSession _ = ⊥

-- a session begins by it or goes on
abbrev pub IsOfSessions : Command → Type 0
IsOfSessions (command.As log pieces) = Unit {0}
IsOfSessions (command.Open session log pieces) = Unit {0}
IsOfSessions (command.Step session count) = Unit {0}
IsOfSessions (command.Finish session) = Unit {0}
IsOfSessions _ = ⊥

-- by it this participant's agent is to save something
abbrev pub SavesFor : List ℕ → Command → Type 0
SavesFor name (command.Use log view) = log ≡ name
SavesFor name (command.Snap log) = log ≡ name
SavesFor name _ = ⊥

-- ---- what is shown

-- what a command shows; what one of sessions shows is told elsewhere
pub data ShowsText : Command → List ℕ → Type 0 where
  shows_nothing : (k : Command) → ShowsText k []
  join_failed : (node : ℕ) → ShowsText (command.Join node) (failed_join_text node)
  use_failed : (log called name : List ℕ) → ShowsText (command.Use log called) (failed_text (codes "use") name)
  snap_failed : (log name : List ℕ) → ShowsText (command.Snap log) (failed_text (codes "snap") name)
  snap_made : (log name : List ℕ) (root : Key) → ShowsText (command.Snap log) (snap_text name root)
  shows_text : (s : Shown) (text : List ℕ) → ShowsText (command.Show s) (word_of s ++ 32 ∷ text)
  of_session : (k : Command) (output : List ℕ) → IsOfSessions k → ShowsText k output

-- ---- participants

-- the snapshot that it makes
abbrev pub snapped_in : Participant → View → HssAgent
snapped_in p view = snapped p.agent (root_name view (basis_of p.agent.holding)) (snapshot_blocks view (basis_of p.agent.holding))

-- what it would save as it enters a view, or makes a snapshot
pub data IsAttempt (w : World) (p : Participant) (name : List ℕ) : Command → HssKept → Type 0 where
  to_enter : (called : List ℕ) (view : View) → view_named w called ≡ Some view → is_own_member hss_signing p.agent view ≡ true
      → not_named p.agent view ≡ None
      → IsAttempt w p name (command.Use name called) (kept_of (entered p.agent view))
  to_snap : (view : View) → p.agent.view ≡ Some view → ArePostsSpelled (snapped_in p view).pending
      → IsAttempt w p name (command.Snap name) (kept_of (snapped_in p view))

-- A participant in its own place, that neither enters a view nor starts again, and what is met by it.
pub data Touches (w : World) (p : Participant) (name : List ℕ) : Command → Participant → List Post → Type 0 where
  plans : (count : ℕ) (new : Bool) → Touches w p name (command.Keep name count new) (record p { keeper = with_fault p.keeper count new }) []
  unable : (k : Command) → SavesFor name k → p.agent.has_failed ≡ true → Touches w p name k p []
  fails : (k : Command) (saving : HssKept) → p.agent.has_failed ≡ false → fails_next p.keeper ≡ true → IsAttempt w p name k saving
      → Touches w p name k (record p { agent = failed p.agent; keeper = asked_to_save p.keeper (Some saving) }) []
  snaps : (view : View) → p.agent.has_failed ≡ false → fails_next p.keeper ≡ false → p.agent.view ≡ Some view
      → ArePostsSpelled (snapped_in p view).pending
      → Touches w p name (command.Snap name)
      (record p {
        agent = snapped_in p view;
        keeper = asked_to_save p.keeper (Some (kept_of (snapped_in p view)));
        printed = Some (root_name view (basis_of p.agent.holding));
      }) (snapped_in p view).pending

-- One that enters a view or starts again, what is met by it, and what it knows then.
pub data Renews (w : Played) (p : Participant) (name : List ℕ) : Command → Participant → List Post → List Record → Type 0 where
  enters : (called : List ℕ) (view : View) → view_named w.0 called ≡ Some view → is_own_member hss_signing p.agent view ≡ true
      → not_named p.agent view ≡ None → p.agent.has_failed ≡ false → fails_next p.keeper ≡ false
      → Renews w p name (command.Use name called)
      (record p { agent = entered p.agent view; keeper = asked_to_save p.keeper (Some (kept_of (entered p.agent view))) }) []
      (of_members view (known_of w.1 p.name))
  starts_again : (view : View) (k : HssKept) (set : List Record) → p.agent.view ≡ Some view → IsHssKept k
      → p.keeper.kept ≡ Some (hss_kept_bytes k)
      → IsKnownAgain (restarted w.0 p k) k set
      → Renews w p name (command.Restart name) (having_made (record p { agent = restored k }) k.pending) k.pending set

-- ---- nodes

-- nodes alone, how many asks there were, and what was met
pub record NodesChange (w next : World) : Type 0 where
  pub rest : next ≡ record w { replicas = next.replicas; nodes = next.nodes; asked = next.asked; met = next.met }
  pub ringed : (r : ℕ) → w.replicas ≡ Some r → next.replicas ≡ Some r
  pub grows : (b : List ℕ) → Contains w.met b → Contains next.met b

-- ---- changes

abbrev pub ConfigurationIsOver : Configuration → Type 0
ConfigurationIsOver c = (said : Option Said) × (c.session.stage ≡ Over said)

-- a whole call, as it begins
abbrev pub begun_configuration : Played → Sending → Session → Configuration
begun_configuration w s t = record { world = w.0; ghost_state = having_begun w.1; session = t; began = beginning w.1 s.by.name }

module _ (judged : Key → List ℕ → Option Judged) where
  -- A session that goes on in a line: whose it is, how it begins and ends, and what is left.
  pub data Plays (w : Played) (r : ℕ) : Command → List ℕ → Configuration → Configuration → Played → Type 0 where
    calls : (log : List ℕ) (pieces : List Piece) (s : Sending) (t : Session) (end : Configuration) → sending_of w.0 log pieces ≡ Some s
        → BeginsWith w.0 s t
        → RunsOut judged r s.by.name (begun_configuration w s t) end → ConfigurationIsOver end
        → Plays w r (command.As log pieces) s.by.name (begun_configuration w s t) end (end.world, end.ghost_state)
    steps : (name : List ℕ) (count : ℕ) (s : Session) (end : Configuration) → session_named w.0 name ≡ Some s
        → StepsOn judged r s.by count (configuration_of w s (began_of w.1 name)) end
        → Plays w r (command.Step name count) s.by (configuration_of w s (began_of w.1 name)) end
        (with_session end.world name end.session, with_began end.ghost_state name end.began)
    ends : (name : List ℕ) (s : Session) (end : Configuration) → session_named w.0 name ≡ Some s
        → RunsOut judged r s.by (configuration_of w s (began_of w.1 name)) end → ConfigurationIsOver end
        → Plays w r (command.Finish name) s.by (configuration_of w s (began_of w.1 name)) end
        (without_session end.world name, without_began end.ghost_state name)

  -- What a command does first; of most commands that is all.
  pub data Effect (w : Played) : Command → Played → Type 0 where
    shows : (k : Command) → MayOnlyShow k → Effect w k w
    times : (sec nsec : ℕ) → Effect w (command.At sec nsec) (record w.0 { now = record { sec = sec; nsec = nsec } }, w.1)
    loses : (count : ℕ) → Effect w (command.Lose count) (record w.0 { lost = (w.0.asked + count) ∷ w.0.lost }, w.1)
    of_nodes : (k : Command) → IsRingCommand k → (next : World) → NodesChange w.0 next → Effect w k (next, w.1)
    makes_view : (name : List ℕ) (names others : List (List ℕ)) (members former : List PubKey) (r : ℕ) (view : View) (next : World)
        → keys_of w.0 names ≡ Some members → keys_of w.0 others ≡ Some former
        → is_some (view_named w.0 name) ≡ false → have_own_head_keys (members ++ former) ≡ true → is_too_large members former ≡ false
        → w.0.replicas ≡ Some r
        → view ≡ record { members = in_key_order members; former = in_key_order former }
        → (put : Puts judged (with_view w.0 name view) r (view_name view) (ask.PutBlock (view_name view) (view_block view)) next)
        → Effect w (command.View name names others) (next, record w.1 { acked = w.1.acked ++ acked_view view put.came })
    comes : (name id seed : List ℕ) (sets : List Set) → is_some (participant w.0 name) ≡ false
        → Effect w (command.Log name id seed sets)
        (with_new_participant w (new_participant name (hss_opened (fresh_signer id seed sets) w.0.now)))
    touches : (k : Command) (name : List ℕ) (p q : Participant) (posts : List Post) → participant w.0 name ≡ Some p
        → Touches w.0 p name k q posts
        → Effect w k (record (with_participant w.0 q) { met = met_by w.0.met posts }, w.1)
    renews : (k : Command) (name : List ℕ) (p q : Participant) (posts : List Post) (set : List Record) → participant w.0 name ≡ Some p
        → Renews w p name k q posts set
        → Effect w k (record (afresh w.0 q) { met = met_by w.0.met posts }, afresh_told w p.name set)
    opens : (name log : List ℕ) (pieces : List Piece) (s : Sending) (t : Session) → is_some (session_named w.0 name) ≡ false
        → sending_of w.0 log pieces ≡ Some s → BeginsWith w.0 s t
        → Effect w (command.Open name log pieces) (
          record w.0 { sessions = w.0.sessions ++ record { name = name; session = t } ∷ [] },
          record
              (having_begun w.1) { sessions = w.1.sessions ++ (name, beginning w.1 s.by.name) ∷ [] },
        )
    plays : (k : Command) (r : ℕ) (name : List ℕ) (c end : Configuration) (next : Played) → w.0.replicas ≡ Some r
        → Plays w r k name c end next
        → Effect w k next

  -- What some commands do then: all that a participant has is published, or a reply counts for later lines.
  pub data LaterEffect (w : Played) : Command → Played → Type 0 where
    publishes : (k : Command) → PublishesAlone k → (r : ℕ) (p : Participant) (end : Configuration) → w.0.replicas ≡ Some r
        → participant w.0 p.name ≡ Some p → ConfigurationIsOver end
        → RunsOut judged r p.name (record { world = w.0; ghost_state = w.1; session = to_publish w.0 p; began = began_nothing }) end
        → LaterEffect w k (end.world, end.ghost_state)
    replies : (k : Command) → EndsSession k → (said : Said) → LaterEffect w k (replied w.0 said, w.1)

  pub data Effects (w : Played) : Command → Played → Type 0 where
    once : {k : Command} {next : Played} → Effect w k next → Effects w k next
    twice : {k : Command} {mid next : Played} → Effect w k mid → LaterEffect mid k next → Effects w k next

-- ---- the law

-- A line that goes on has the effects of its command.
abbrev pub LinesHaveEffects : Type 0
LinesHaveEffects = (w next : Played) (c : Command) (output : List ℕ) → Does hss_judged w c (Goes next output) → Effects hss_judged w c next

-- And it shows what its command may show.
abbrev pub LinesShowTexts : Type 0
LinesShowTexts = (w next : Played) (c : Command) (output : List ℕ) → Does hss_judged w c (Goes next output) → ShowsText c output
