-- Lines of participants, in a world that the code's may be.
use Rattle.std.proofs.Common.{◌≡◌, ℕ, Bool, true, false, cond, List, [], ◌∷◌, filter, map, refl, sym, ap, ◌∙◌, subst, Option, Some, None, Contains}
use Rattle.std.specs.Prelude.{codes, not}
use Rattle.std.specs.Str.{bytes_eq}
use Rattle.dhash_model.specs.Signed.{hss_judged}
use Rattle.log_model.specs.Chain.{opening}
use Rattle.log_model.specs.View.{View}
use Rattle.agent_model.specs.Views.Entering.{Entered, NotMember, NotNamed, KeeperFailed}
use Rattle.hash_signature_model.specs.declared.set.Set.{Set}
use Rattle.hash_signature_model.specs.Saved.{IsSigner}
use Rattle.hash_signature_model.specs.Signer.{Signer}
use Rattle.dht_ids.specs.declared.post.Post.{Post}
use Rattle.script_driver.specs.declared.machine.Taken.{Taken}
use Rattle.script_driver.specs.declared.machine.Taken.TheVariants as taken
use Rattle.script_driver.specs.Run.{Outcome, Goes, Ends, Refuses, Exceeds}
use Rattle.world_model.specs.Agents.{HssEntering, HssKept, hss_entering, hss_opened, own_hss_key}
use Rattle.world_model.specs.Keepers.{fails_next}
use Rattle.world_model.specs.Logs.{LogLine, Played, RestartLine, after_entering, failed_text, fresh_signer, new_participant, use_by, use_line, with_new_participant}
use Rattle.world_model.specs.Logs.LogLine.{begins}
use Rattle.world_model.specs.Logs.RestartLine.{nobody, outside, starts}
use Rattle.world_model.specs.Steps.{met_by}
use Rattle.world_model.specs.GhostState.{Knowing}
use Rattle.world_model.specs.World.{NamedSession, Participant, participant, view_named}
use Rattle.world_laws.specs.Invariant.{Invariant}
use Rattle.world_laws.proofs.Bringing.{found_named}
use Rattle.world_laws.proofs.LogLines.{fits}
use Rattle.world_laws.proofs.NewParticipant.{IsFitToCome, comes, found_new}
use Rattle.world_laws.proofs.SignedAmong.{met_stays}
use Rattle.script_world.specs.NewParticipants.{BeginsIn, HasNewParticipant}
use Rattle.script_world.specs.PartsState.{EndsSessionsIn, HasParts, IsTaken, PartsState}
use Rattle.script_world.specs.Running.{CanPublish, HasPublisher, PublishesIn}
use Rattle.script_world.specs.Starting.{EndsSessionsWell}
use Rattle.script_machine.specs.Ends.{is_nothing, left_open}
use Rattle.script_machine.specs.WorldState.{AreOpenAs, HasWorld, KeepsAll, LineDoes, OpenState, RepresentsWorld, WorldState}
use Rattle.script_machine.proofs.Opened.{moved, without}

-- ---- log

module _ (w : Played) (keeps : Invariant w) (name id seed : List ℕ) (sets : List Set) (whole : IsSigner (fresh_signer id seed sets)) (mid : PartsState) (came : HasNewParticipant w name id seed sets mid) where
  abbrev signer : Signer
  signer = fresh_signer id seed sets

  abbrev one : Participant
  one = new_participant name (hss_opened signer w.0.now)

  abbrev known : Knowing
  known = record { name = name; known = opening (own_hss_key one.agent) w.0.now ∷ []; received = [] }

  abbrev met : List (List ℕ)
  met = met_by w.0.met one.agent.pending

  grows : (b : List ℕ) → Contains w.0.met b → Contains met b
  grows b h = met_stays w.0.met (map (λ (o : Post). o.bytes) one.agent.pending) b h

  fit : IsFitToCome met one known
  fit = fits signer whole refl w.0.now keeps.moment name w.0.met

  -- it may publish
  pub can_publish : CanPublish mid name (with_new_participant w came.one) came.one
  can_publish = record {
    parts = came.goes_on.0;
    keeps = subst (λ (p : Participant). Invariant (with_new_participant w p)) (sym came.is_new) (comes w keeps came.replicas came.ring one came.unknown known met grows fit);
    named = subst (λ (p : Participant). participant (with_new_participant w p).0 name ≡ Some p) (sym came.is_new) (found_new w keeps came.replicas came.ring one came.unknown known met grows fit);
  }

pub has_publisher : (s : WorldState) (name id seed : List ℕ) (sets : List Set) → IsSigner (fresh_signer id seed sets) → (mid : PartsState) → HasWorld s → BeginsIn name id seed sets s.parts true mid → HasPublisher mid name
has_publisher s name id seed sets whole mid (w, shows, keeps) begun = let came = begun w shows.parts in (with_new_participant w came.one, came.one, can_publish w keeps.0 name id seed sets whole mid came)

pub log_goes : (s : WorldState) (name id seed : List ℕ) (sets : List Set) → IsSigner (fresh_signer id seed sets) → (mid after : PartsState) → BeginsIn name id seed sets s.parts true mid → PublishesIn name mid after
    → (w : Played) → RepresentsWorld s w → KeepsAll w → (next : Played) × LogLine hss_judged w name id seed sets (Goes next []) × RepresentsWorld (record s { parts = after }) next
log_goes s name id seed sets whole mid after begun publishes w shows keeps =
    let came = begun w shows.parts in
    let to = publishes (with_new_participant w came.one) came.replicas came.one (can_publish w keeps.0 name id seed sets whole mid came) came.ring in
    (to.0, begins came.replicas came.one to.0 came.ring came.unknown came.is_new to.1, record { parts = to.2.0; sessions = moved to.0.0.replicas w.0.replicas to.0.0.sessions w.0.sessions s.sessions to.3 to.2.1 shows.sessions })

-- ---- use, and restart

-- what becomes of open sessions: where something is shown they stay
pub record EndsSessions (w : Played) (log output : List ℕ) (next : Played) : Type 0 where
  pub ring : next.0.replicas ≡ w.0.replicas
  pub gone : is_nothing output ≡ true → next.0.sessions ≡ filter (λ t. not (bytes_eq t.session.by log)) w.0.sessions
  pub stay : is_nothing output ≡ false → next.0.sessions ≡ w.0.sessions

module _ (w : Played) (log view : List ℕ) where
  same_goes : {a b : Played} {x y : List ℕ} → Goes a x ≡ Goes b y → (a ≡ b) × (x ≡ y)
  same_goes e = (cc e, cc e)

  used_after : (p : Participant) → p.name ≡ log → (v : View) (e : HssEntering) (saving : Option HssKept) (next : Played) (output : List ℕ) → Goes next output ≡ after_entering w p v e saving → EndsSessions w log output next
  used_after p named v (Entered after) saving next output e =
      let same = same_goes e in
      record {
        ring = ap (λ (x : Played). x.0.replicas) same.0;
        gone = λ none. ap (λ (x : Played). x.0.sessions) same.0 ∙ ap (λ (n : List ℕ). filter (λ (t : NamedSession). not (bytes_eq t.session.by n)) w.0.sessions) named;
        stay = λ some. absurd (nothing_or_some (sym (ap is_nothing same.1) ∙ some));
      }
    where
      nothing_or_some : is_nothing [] ≡ false → ⊥
      nothing_or_some e = cc e
  used_after p named v NotMember saving next output e = absurd (cc e)
  used_after p named v (NotNamed other) saving next output e = absurd (cc e)
  used_after p named v (KeeperFailed after) saving next output e =
      let same = same_goes e in
      record {
        ring = ap (λ (x : Played). x.0.replicas) same.0;
        gone = λ none. absurd (some_or_nothing (sym (ap is_nothing same.1) ∙ none));
        stay = λ some. ap (λ (x : Played). x.0.sessions) same.0;
      }
    where
      some_or_nothing : is_nothing (failed_text (codes "use") p.name) ≡ true → ⊥
      some_or_nothing e = cc e

  used : (next : Played) (output : List ℕ) → Goes next output ≡ use_line w log view → EndsSessions w log output next
  used next output e = by (participant w.0 log) refl (view_named w.0 view) e
    where
      by : (o : Option Participant) → participant w.0 log ≡ o → (v : Option View) → Goes next output ≡ use_by w o v → EndsSessions w log output next
      by None is v e = absurd (cc e)
      by (Some p) is None e = absurd (cc e)
      by (Some p) is (Some v) e = let came = hss_entering p.agent v (fails_next p.keeper) in used_after p (found_named w.0.participants log p is).1 v came.0 came.1 next output e

-- a line that starts an agent again shows nothing
abbrev EndsOnly : Played → List ℕ → Outcome Played → Type 0
EndsOnly w log (Goes next output) = EndsSessions w log output next
EndsOnly w log o = Unit {0}

starting : (w : Played) (log : List ℕ) (o : Option Participant) → participant w.0 log ≡ o → (outcome : Outcome Played) → RestartLine w o outcome → EndsOnly w log outcome
starting w log _ is _ nobody = tt
starting w log _ is _ (outside p none) = tt
starting w log _ is _ (starts p view k set within well holding known) = record {
  ring = refl;
  gone = λ none. ap (λ (n : List ℕ). filter (λ (t : NamedSession). not (bytes_eq t.session.by n)) w.0.sessions) (found_named w.0.participants log p is).1;
  stay = λ some. cc some;
}

-- a line by which a participant's sessions may end, in a world that the code's may be
module _ (s : WorldState) (log : List ℕ) (after : PartsState) (w : Played) (shows : RepresentsWorld s w) (Line : Outcome Played → Type 0) (ends : (next : Played) (output : List ℕ) → Line (Goes next output) → EndsSessions w log output next) where
  taken_so : (how : Taken) → IsTaken (λ (next : Played). HasParts next.0 after) Line how → IsTaken (RepresentsWorld (record { parts = after; sessions = left_open log how s.sessions })) Line how
  taken_so (taken.Went text) its = (next, its.1, record { parts = its.2; sessions = by (is_nothing text.items) refl })
    where
      next : Played
      next = its.0

      is : EndsSessions w log text.items next
      is = ends next text.items its.1

      by : (b : Bool) → is_nothing text.items ≡ b → AreOpenAs next.0.replicas next.0.sessions (cond b (filter (λ (o : OpenState). not (bytes_eq o.by log)) s.sessions) s.sessions)
      by true none = moved next.0.replicas w.0.replicas next.0.sessions (filter (λ (t : NamedSession). not (bytes_eq t.session.by log)) w.0.sessions) (filter (λ (o : OpenState). not (bytes_eq o.by log)) s.sessions) is.ring (is.gone none)
          (without w.0.replicas log w.0.sessions s.sessions shows.sessions)
      by false some = moved next.0.replicas w.0.replicas next.0.sessions w.0.sessions s.sessions is.ring (is.stay some) shows.sessions
  taken_so taken.Ended its = its
  taken_so taken.Refused its = its
  taken_so taken.Exceeded its = its

-- the world in code after such a line
abbrev pub IsLeft : WorldState → List ℕ → Taken → PartsState → WorldState → Type 0
IsLeft s log how parts new = (new.parts ≡ parts) × (new.sessions ≡ left_open log how s.sessions)

pub use_taken : (s new : WorldState) (log view : List ℕ) (how : Taken) (after : PartsState) → EndsSessionsIn (λ w outcome. outcome ≡ use_line w log view) s.parts how after → IsLeft s log how after new
    → LineDoes (λ w outcome. outcome ≡ use_line w log view) s how new
use_taken s new log view how after ends left w shows keeps =
    subst (λ (x : WorldState). IsTaken (RepresentsWorld x) (λ outcome. outcome ≡ use_line w log view) how) (λ i. record { parts = sym left.0 i; sessions = sym left.1 i })
    (taken_so s log after w shows (λ outcome. outcome ≡ use_line w log view) (used w log view) how (ends w shows.parts))

pub restart_taken : (s new : WorldState) (log : List ℕ) (how : Taken) (after : PartsState) → EndsSessionsWell (λ w outcome. RestartLine w (participant w.0 log) outcome) s.parts how after → IsLeft s log how after new
    → LineDoes (λ w outcome. RestartLine w (participant w.0 log) outcome) s how new
restart_taken s new log how after ends left w shows keeps =
    subst (λ (x : WorldState). IsTaken (RepresentsWorld x) (RestartLine w (participant w.0 log)) how) (λ i. record { parts = sym left.0 i; sessions = sym left.1 i })
    (taken_so s log after w shows (RestartLine w (participant w.0 log)) (λ next output. starting w log (participant w.0 log) refl (Goes next output)) how (ends w shows.parts keeps.0))
