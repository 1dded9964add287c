-- A put of a content block or of a head.
use Rattle.std.specs.Prelude.{◌≡◌, ℕ, Bool, true, false, List, Result, Ok}
use Rattle.dht_ids.specs.declared.ask.Answer.{Answer}
use Rattle.dht_ids.specs.declared.ask.Answer.TheVariants as answer
use Rattle.dht_ids.specs.declared.ask.StoreFault.{StoreFault}
use Rattle.dht_ids.specs.declared.ask.StoreFault.TheVariants as fault
use Rattle.dht_ids.specs.declared.peer.Peer.{Peer}
use Rattle.ring_model.specs.Gets.{IsPutTrail}
use Rattle.dhash_model.specs.Execution.{Told}
use Rattle.dhash_model.specs.declared.miss.Miss.{Miss}

-- a put is answered by the word that the block is held, or by a refusal; anything else is silence
abbrev pub is_of_put : Answer → Bool
is_of_put (answer.Route nearer owners) = false
is_of_put (answer.Near before list) = false
is_of_put (answer.Found bytes) = false
is_of_put answer.Nothing = false
is_of_put answer.Stored = true
is_of_put (answer.Refused why) = true
is_of_put answer.Noted = false
is_of_put answer.Silent = false

-- a refusal because a head of the same or a greater number is held
abbrev pub is_older : StoreFault → Bool
is_older fault.WrongName = false
is_older fault.NotJudged = false
is_older (fault.Older seq) = true
is_older fault.Full = false

-- the node holds the block now, or a newer head
abbrev pub holds : Answer → Bool
holds (answer.Route nearer owners) = false
holds (answer.Near before list) = false
holds (answer.Found bytes) = false
holds answer.Nothing = false
holds answer.Stored = true
holds (answer.Refused why) = is_older why
holds answer.Noted = false
holds answer.Silent = false

-- the asks of the owners are a put, which ends with this result
abbrev pub EndsPut : ℕ → List Peer → Told → Result Bool Miss → Type 0
EndsPut r owners asks result = (acknowledged : Bool) × IsPutTrail is_of_put holds r owners asks acknowledged × (result ≡ Ok acknowledged)
