-- The machine of a look-up: what it keeps, what it wants, and which asks may still follow.
use Rattle.std.specs.Prelude.{◌≡◌, ℕ, ◌-◌, ◌<◌, List, [], ◌∷◌, ◌++◌, length, Option, Some, None, Result}
use Rattle.ivy_base.specs.declared.key.Key.{Key}
use Rattle.dht_ids.specs.Asked.{route_in}
use Rattle.dht_ids.specs.declared.ask.Answer.{Answer}
use Rattle.dht_ids.specs.declared.ask.Ask.TheVariants as ask
use Rattle.dht_ids.specs.declared.ask.Want.{Want}
use Rattle.dht_ids.specs.declared.ask.Want.TheVariants as want
use Rattle.dht_ids.specs.declared.peer.Peer.{Peer}
use Rattle.ring_model.specs.Members.{IsAmong}
use Rattle.ring_model.specs.Route.{Route}
use Rattle.ring_model.specs.Lookup.{IsLookup}
use Rattle.dhash_model.specs.declared.miss.Miss.{Miss}
use Rattle.dhash_model.specs.Execution.{outcome}

-- a look-up of a key: the nodes asked and heard, the newest first, the owners that the last answer named, the nodes
-- still to ask, and the node that was asked and not yet heard
pub record State : Type 0 where
  pub key : Key
  pub asked : List Peer
  pub last : Option (List Peer)
  pub rest : List Peer
  pub waiting : Option Peer

-- a look-up that begins
abbrev pub fresh : Key → List Peer → State
fresh key entries = record { key = key; asked = []; last = None; rest = entries; waiting = None }

-- how many asks the look-up may still make: 512 less those that it made and heard
abbrev pub looks_left : State → ℕ
looks_left s = 512 - length s.asked

-- the node to be heard and those still to ask
abbrev pub to_ask : Option Peer → List Peer → List Peer
to_ask None rest = rest
to_ask (Some p) rest = p ∷ rest

-- what a machine was told: the nodes that it asked and their routes, or None of those that were silent
abbrev pub Trail : Type 0
Trail = List (Peer × Option (Route Peer))

-- from this state these asks and answers may follow, and then these owners are found
abbrev pub Follow : State → Trail → Option (List Peer) → Type 0
Follow s trail found = IsLookup s.asked s.last (to_ask s.waiting s.rest) trail found

-- what may follow from the new state may follow from the old one after those asks
abbrev pub FollowsAfter : Trail → State → State → Type 0
FollowsAfter first old new = (trail : Trail) (found : Option (List Peer)) → Follow new trail found → Follow old (first ++ trail) found

-- with qs to ask no other look-ups follow than with ps
abbrev pub IsRest : List Peer → List Peer → List Peer → Type 0
IsRest asked ps qs = (last : Option (List Peer)) (trail : Trail) (found : Option (List Peer)) → IsLookup asked last qs trail found
    → IsLookup asked last ps trail found

-- what the machine wants: to ask a node for the route, that it didn't ask before, as one of 512, or nothing more,
-- since no ask may follow
abbrev pub IsWanted : State → State → Want (Result (List Peer) Miss) → Type 0
IsWanted old new (want.Ask node question) =
    (question ≡ ask.Route old.key) × (new.waiting ≡ Some node) × (length old.asked < 512) × (IsAmong node old.asked → ⊥)
IsWanted old new (want.Done result) =
    (new.waiting ≡ None) × (found : Option (List Peer)) × Follow old [] found × (result ≡ outcome old.key found)

-- the node that was to be heard was heard: it counts as asked, and its ask and answer are the next of the look-up
pub record HasHeard (old new : State) (given : Answer) : Type 0 where
  pub key : new.key ≡ old.key
  pub waiting : new.waiting ≡ None
  pub asked : (node : Peer) → old.waiting ≡ Some node → new.asked ≡ node ∷ old.asked
  pub follows : (node : Peer) → old.waiting ≡ Some node → FollowsAfter ((node, route_in given) ∷ []) old new
