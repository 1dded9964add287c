-- What gets and puts share: a look-up, and then asks of the owners that it found, in one trail.
use Rattle.std.specs.Prelude.{◌≡◌, List, [], ◌∷◌, ◌++◌, Option, Some, None, Result, Ok, Err, flat_map}
use Rattle.ivy_base.specs.declared.key.Key.{Key}
use Rattle.dht_ids.specs.declared.ask.Answer.{Answer}
use Rattle.dht_ids.specs.declared.ask.Ask.TheVariants as ask
use Rattle.dht_ids.specs.declared.peer.Peer.{Peer}
use Rattle.ring_model.specs.Lookup.{IsLookup}
use Rattle.dhash_model.specs.declared.miss.Miss.TheVariants as miss
use Rattle.dhash_model.specs.declared.miss.Miss.{Miss}
use Rattle.dht_ids.specs.Asked.{told, routes}
use Rattle.dht_ids.specs.declared.ask.Ask.{Ask}
use Rattle.dht_ids.specs.declared.ask.Heard.{Heard}
use Rattle.ring_model.specs.Gets.{Got, Right, Damaged, Missing}

-- the result of a look-up that found these owners
abbrev pub outcome : Key → Option (List Peer) → Result (List Peer) Miss
outcome key None = Err (miss.NoRoute key)
outcome key (Some []) = Err (miss.NoRoute key)
outcome key (Some (p ∷ ps)) = Ok (p ∷ ps)

-- nodes that were asked the same, and what each answered
abbrev pub Told : Type 0
Told = List (Peer × Answer)

-- the entries that tell of them in a trail
abbrev pub told_all : Ask → Told → List Heard
told_all question asks = flat_map (λ s. told s.0 question s.1) asks

-- A trail of a get or a put: the asks of a look-up and then, where it found owners, those asks of them that the last
-- relation describes.
pub data IsExecution {T : Type 0} (key : Key) (question : Ask) (entries : List Peer) (Ends : List Peer → Told → Result T Miss → Type 0)
    (trail : List Heard) (result : Result T Miss) : Type 0 where
  no_route : (looks : Told) (found : Option (List Peer)) → trail ≡ told_all (ask.Route key) looks
      → IsLookup [] None entries (routes looks) found
      → outcome key found ≡ Err (miss.NoRoute key) → result ≡ Err (miss.NoRoute key) → IsExecution key question entries Ends trail result
  of_owners : (looks asks : Told) (found : Option (List Peer)) (owners : List Peer)
      → trail ≡ told_all (ask.Route key) looks ++ told_all question asks → IsLookup [] None entries (routes looks) found
      → outcome key found ≡ Ok owners → Ends owners asks result → IsExecution key question entries Ends trail result

-- the result of a get that ended so
abbrev pub result_of : {B : Type 0} → Key → Got Peer B → Result B Miss
result_of key (Right found) = Ok found
result_of key (Damaged node) = Err (miss.Damaged key node)
result_of key (Missing asked) = Err (miss.Missing key asked)
