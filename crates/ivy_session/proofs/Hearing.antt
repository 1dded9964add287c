-- Whatever a node answers that a session asks, the session may hear it; and what it asks is for data.
use Rattle.std.proofs.Common.{◌≡◌, ◌⊎◌, ⊎_elim, ℕ, Bool, true, false, List, ◌∷◌, Option, refl, sym, ◌∙◌, subst}
use Rattle.ivy_base.specs.declared.key.Key.{Key}
use Rattle.dht_ids.specs.Asked.{IsForData}
use Rattle.dht_ids.specs.declared.ask.Answer.{Answer}
use Rattle.dht_ids.specs.declared.ask.Ask.{Ask}
use Rattle.dht_ids.specs.declared.ask.Ask.TheVariants as ask
use Rattle.dht_ids.specs.declared.judge.Judged.{Judged}
use Rattle.dht_ids.specs.declared.peer.Peer.{Peer}
use Rattle.dht_ids.specs.declared.post.Ack.{Ack}
use Rattle.dht_ids.specs.declared.post.Post.{Post}
use Rattle.session_model.specs.Asking.{AsksNext}
use Rattle.session_model.specs.Sessions.{Cache, Hears, IsPut, Publishing, Refreshing, Said, Session, Stage, acknowledged, after_put, put_question, wanted_key}
use Rattle.session_model.specs.Sessions.Hears.{gets_on, got, puts_on, puts}
use Rattle.session_laws.proofs.AskedGets.{gets_are_deterministic}
use Rattle.session_laws.proofs.AskedPuts.{puts_are_deterministic}
use Rattle.ivy_session.specs.Stepping.{AsksOf}
use Rattle.ivy_session.specs.Stepping.AsksOf.{gets as asks_get, puts as asks_put}
use Rattle.ivy_session.proofs.AskSteps.{put_is_for_data}

-- ---- stages

-- what publishes doesn't refresh
pub publishing_now : (s : Session) (said : Option Said) (posts : List Post) (acks : List Ack) → s.stage ≡ Publishing said posts acks → s.stage ≡ Refreshing → ⊥
publishing_now s said posts acks at e = cc (sym at ∙ e)

pub same_said : (said other : Option Said) (posts rest : List Post) (acks others : List Ack) → Publishing said posts acks ≡ Publishing other rest others → said ≡ other
same_said said other posts rest acks others e = cc e

-- it publishes for that reply
abbrev pub PublishesFor : Option Said → Stage → Type 0
PublishesFor said stage = (posts : List Post) × (acks : List Ack) × (stage ≡ Publishing said posts acks)

put_publishes : (said : Option Said) (p : Post) (posts : List Post) (acks : List Ack) (held : Bool) → PublishesFor said (after_put said p posts acks held)
put_publishes said p posts acks true = (_, _, refl)
put_publishes said p posts acks false = (_, _, refl)

-- ---- some session hears it

abbrev pub HearsSome : (Key → List ℕ → Option Judged) → ℕ → Session → Cache → Peer → Ask → Answer → Type 0
HearsSome judged r s cache node question given = (heard : Session) × (after : Cache) × Hears judged r s cache node question given heard after

-- where it publishes the cache stays, and it publishes for the same reply
pub record PutHears (judged : Key → List ℕ → Option Judged) (r : ℕ) (s : Session) (cache : Cache) (asking : Peer × Ask) (given : Answer) (said : Option Said) : Type 0 where
  pub heard : Session
  pub hears : Hears judged r s cache asking.0 asking.1 given heard cache
  pub publishes : PublishesFor said heard.stage
  pub entries : heard.entries ≡ s.entries
  pub starts : heard.starts ≡ s.starts
  pub notes : heard.notes ≡ s.notes
  pub missed : heard.missed ≡ s.missed

module _ (judged : Key → List ℕ → Option Judged) (r : ℕ) (s : Session) (cache : Cache) (node : Peer) (question : Ask) (given : Answer) where
  put_hears_some : (said : Option Said) (p : Post) (posts : List Post) (acks : List Ack) → s.stage ≡ Publishing said (p ∷ posts) acks → AsksNext p.key (put_question p) (IsPut judged r s p) s.current node question
      → PutHears judged r s cache (node, question) given said
  put_hears_some said p posts acks at next = ⊎_elim
      (λ whole. record { heard = _; hears = puts said p posts acks whole.0 at next whole.1; publishes = put_publishes said p posts acks (acknowledged whole.0); entries = refl; starts = refl; notes = refl; missed = refl })
      (λ begun. record { heard = _; hears = puts_on said p posts acks at next begun.0; publishes = (p ∷ posts, acks, at); entries = refl; starts = refl; notes = refl; missed = refl })
      ((puts_are_deterministic judged r s p).2 s.current node question given next)

  pub hears_some : AsksOf judged r s node question → HearsSome judged r s cache node question given
  hears_some (asks_get want wants next) = ⊎_elim
      (λ whole. (_, _, got want whole.0 wants next whole.1))
      (λ begun. (_, _, gets_on want wants next begun.0))
      ((gets_are_deterministic judged r s.entries want).2 s.current node question given next)
  hears_some (asks_put said p posts acks at next) = let h = put_hears_some said p posts acks at next in (h.heard, cache, h.hears)

  pub publishing_hears : (said : Option Said) (posts : List Post) (acks : List Ack) → s.stage ≡ Publishing said posts acks → AsksOf judged r s node question → PutHears judged r s cache (node, question) given said
  publishing_hears said posts acks at (asks_get want wants next) = absurd (publishing_now s said posts acks at wants.0)
  publishing_hears said posts acks at (asks_put other p rest heard is next) =
      subst (PutHears judged r s cache (node, question) given) (same_said other said (p ∷ rest) posts heard acks (sym is ∙ at)) (put_hears_some other p rest heard is next)

-- ---- what is asked is for data

one_of : (question other another : Ask) → IsForData other → IsForData another → (question ≡ other) ⊎ (question ≡ another) → IsForData question
one_of question other another first second is = ⊎_elim (λ e. subst IsForData (sym e) first) (λ e. subst IsForData (sym e) second) is

pub asks_for_data : {judged : Key → List ℕ → Option Judged} {r : ℕ} {s : Session} {node : Peer} {question : Ask} → AsksOf judged r s node question → IsForData question
asks_for_data {question = question} (asks_get want wants next) = one_of question (ask.Route (wanted_key want)) (ask.Get (wanted_key want)) tt tt next.is_of
asks_for_data {question = question} (asks_put said p posts acks at next) = one_of question (ask.Route p.key) (put_question p) tt (put_is_for_data p) next.is_of
