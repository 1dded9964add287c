-- The laws of look-ups by what nodes answer.
use Rattle.std.specs.Prelude.{◌≡◌, ℕ, ◌+◌, ◌≤◌, Bool, true, List, [], take, filter, Option, Some, None, MatchBool}
use Rattle.std.specs.List.{AllByRecursion}
use Rattle.ivy_base.specs.declared.key.Key.{Key}
use Rattle.dht_ids.specs.Asked.{routes}
use Rattle.dht_ids.specs.declared.ask.Answer.{Answer}
use Rattle.dht_ids.specs.declared.ask.Answer.TheVariants as answer
use Rattle.dht_ids.specs.declared.ask.Ask.TheVariants as ask
use Rattle.dht_ids.specs.declared.peer.Peer.{Peer}
use Rattle.dht_ids.specs.Peers.{place}
use Rattle.ring_model.specs.Circle.{number, identifier_bits}
use Rattle.ring_model.specs.Members.{IsAmong, owners}
use Rattle.ring_model.specs.Ring.{Links, IsCoveredRing, IsSettledRing}
use Rattle.ring_model.specs.Route.{HasOneAtEach}
use Rattle.ring_model.specs.Lookup.{IsLookup, IsFate, AreNames, answers_in}
use Rattle.dhash_model.specs.State.{State}
use Rattle.chord_core.specs.State.{ring_answer}

-- what each node knows of others
abbrev pub links_of : (Peer → State) → Peer → Links Peer
links_of nodes p = (nodes p).links

-- each live peer has a node of its own, by which r nodes own a key, and which knows one peer at a place
pub record AreNodes (r : ℕ) (lives : Peer → Bool) (nodes : Peer → State) : Type 0 where
  pub itself : (p : Peer) → lives p ≡ true → (nodes p).me ≡ p
  pub replicas : (p : Peer) → lives p ≡ true → (nodes p).replicas ≡ r
  pub places : (p : Peer) → lives p ≡ true → HasOneAtEach place (nodes p).links

-- what came of an ask for the route to the key: what the peer's node answers, where the peer lives, and else silence
abbrev pub IsAnswered : (Peer → Bool) → (Peer → State) → Key → Peer × Answer → Type 0
IsAnswered lives nodes key (p, given) = MatchBool (lives p) (ring_answer (nodes p) (ask.Route key) ≡ Some given) (given ≡ answer.Silent)

-- What nodes answer is what the laws of rings take for the answers of a ring: all that they say of look-ups holds.
abbrev pub AnswersAreFates : Type 0
AnswersAreFates = (r : ℕ) (lives : Peer → Bool) (nodes : Peer → State) (key : Key) (looks : List (Peer × Answer)) → AreNodes r lives nodes
    → AllByRecursion (IsAnswered lives nodes key) looks → AllByRecursion (IsFate place r lives (links_of nodes) (number key)) (routes looks)

-- A look-up by what the nodes of a covered ring answer, whose entries have a live one, and in which at most 512 peers are
-- named in all, ends with a list whose first r live peers are the key's owners, in their order.
abbrev pub AnswersLeadToOwners : Type 0
AnswersLeadToOwners = (r : ℕ) (live : List Peer) (lives : Peer → Bool) (nodes : Peer → State) (key : Key) (entries names : List Peer)
    (looks : List (Peer × Answer)) (found : Option (List Peer))
    → AreNodes r lives nodes → IsCoveredRing place r live lives (links_of nodes) → AreNames live (links_of nodes) entries names
    → AllByRecursion (IsAnswered lives nodes key) looks
    → (e : Peer) → lives e ≡ true → IsAmong e entries → IsLookup [] None entries (routes looks) found
    → (last : List Peer) × (found ≡ Some last) × (take r (filter lives last) ≡ owners place r live (number key))

-- By what the nodes of a settled ring answer, a look-up hears at most one answer for each bit after the first.
abbrev pub FewNodesAnswer : Type 0
FewNodesAnswer = (r : ℕ) (live : List Peer) (lives : Peer → Bool) (nodes : Peer → State) (key : Key) (entries : List Peer)
    (looks : List (Peer × Answer)) (found : Option (List Peer))
    → AreNodes r lives nodes → IsSettledRing place r identifier_bits live lives (links_of nodes)
    → AllByRecursion (IsAnswered lives nodes key) looks
    → IsLookup [] None entries (routes looks) found → (x : Peer) → IsAmong x live → answers_in (routes looks) ≤ identifier_bits + 1
