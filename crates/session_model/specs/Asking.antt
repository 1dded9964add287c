-- Gets and puts on their way: a part of a trail that some whole one begins with, and what is asked next.
use Rattle.std.specs.Prelude.{◌≡◌, ◌⊎◌, List, [], ◌++◌}
use Rattle.ivy_base.specs.declared.key.Key.{Key}
use Rattle.dht_ids.specs.declared.ask.Answer.{Answer}
use Rattle.dht_ids.specs.declared.ask.Ask.{Ask}
use Rattle.dht_ids.specs.declared.ask.Ask.TheVariants as ask
use Rattle.dht_ids.specs.declared.ask.Heard.{Heard}
use Rattle.dht_ids.specs.declared.peer.Peer.{Peer}
use Rattle.dht_ids.specs.Asked.{told}

-- what is asked so far is the beginning of a whole one, and isn't whole
abbrev pub IsBegun : (List Heard → Type 0) → List Heard → Type 0
IsBegun Whole asked = (Whole asked → ⊥) × (more : List Heard) × Whole (asked ++ more)

-- after this part of a trail that node is asked, for the route to the key or what its owners are asked: a whole one goes on so, whatever is
-- answered
pub record AsksNext (key : Key) (of_owners : Ask) (Whole : List Heard → Type 0) (trail : List Heard) (node : Peer)
    (question : Ask) : Type 0 where
  pub is_of : (question ≡ ask.Route key) ⊎ (question ≡ of_owners)
  pub answer : Answer
  pub more : List Heard
  pub whole : Whole (trail ++ told node question answer ++ more)

-- ---- laws

-- a whole one begins no other
abbrev pub BeginsNoOther : (List Heard → Type 0) → Type 0
BeginsNoOther Whole = (asked more : List Heard) → Whole asked → Whole (asked ++ more) → more ≡ []

-- one ask is the next
abbrev pub AsksOneNext : Key → Ask → (List Heard → Type 0) → Type 0
AsksOneNext key of_owners Whole = (asked : List Heard) (node other : Peer) (question another : Ask)
    → AsksNext key of_owners Whole asked node question → AsksNext key of_owners Whole asked other another
    → (node ≡ other) × (question ≡ another)

-- whatever is answered, it goes on, or is whole
abbrev pub GoesOnAlways : Key → Ask → (List Heard → Type 0) → Type 0
GoesOnAlways key of_owners Whole =
    (asked : List Heard) (node : Peer) (question : Ask) (answer : Answer) → AsksNext key of_owners Whole asked node question
    → Whole (asked ++ told node question answer) ⊎ IsBegun Whole (asked ++ told node question answer)
