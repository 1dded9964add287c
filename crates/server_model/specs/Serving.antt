-- Messages that are served one after the other.
use Rattle.std.specs.Prelude.{◌≡◌, ℕ, Bool, false, List, [], ◌∷◌, ◌++◌, Option, Some}
use Rattle.agent_model.specs.Standing.{Standing}
use Rattle.session_model.specs.Sessions.{Session, Cache, Over, Said}
use Rattle.session_model.specs.Executions.{Begins}
use Rattle.server_model.specs.Acts.{Act}
use Rattle.server_model.specs.Driving.{Driven, Went}
use Rattle.server_model.specs.Takers.{Follows, Ring, Taker}

-- Between two messages of a link: whoever takes the turns, and the link's cache.
pub record Between (P : Type 0) : Type 0 where
  pub taker : P
  pub cache : Cache

-- What came of a message: the reply, where it is a call, and whether the session was cut.
pub record Answer : Type 0 where
  pub reply : Option (List ℕ)
  pub is_cut : Bool

-- a session that begins on a link with this cache
abbrev pub driven_first : Session → Cache → Driven
driven_first s cache = record { session = s; cache = cache; is_cut = false }

module _ {P : Type 0} (taker : Taker P) (ring : Ring) where
  -- One message: its session begins with a standing, goes its way, and is over.
  pub data Serves (before : Between P) (message : List ℕ) : List Act → Answer → Between P → Type 0 where
    serves : (standing : Standing) (began after : P) (s : Session) (last : Driven) (acts : List Act) (said : Said)
        → taker.stands before.taker standing began → Begins [] message ring.entries standing s
        → Went ring (driven_first s before.cache) acts last → last.session.stage ≡ Over (Some said) → Follows taker began acts after
        → Serves before message acts (record { reply = said.message; is_cut = last.is_cut }) (record { taker = after; cache = last.cache })

  -- Each of these messages, one after the other, has its reply; no session was cut.
  pub data ServesEach (first : Between P) : List (List ℕ) → List Act → List (List ℕ) → Between P → Type 0 where
    none : ServesEach first [] [] [] first
    more : {messages replies : List (List ℕ)} {acts next : List Act} {before after : Between P} (message reply : List ℕ)
        → ServesEach first messages acts replies before → Serves before message next (record { reply = Some reply; is_cut = false }) after
        → ServesEach first (messages ++ message ∷ []) (acts ++ next) (replies ++ reply ∷ []) after
