-- A get of a content block.
use Rattle.std.specs.Prelude.{◌≡◌, ℕ, Bool, true, false, List, Option, Some, None, Result}
use Rattle.ivy_base.specs.declared.key.Key.{Key}
use Rattle.dht_ids.specs.declared.ask.Answer.{Answer}
use Rattle.dht_ids.specs.declared.ask.Answer.TheVariants as answer
use Rattle.dht_ids.specs.declared.ask.Ask.TheVariants as ask
use Rattle.dht_ids.specs.declared.ask.Heard.{Heard}
use Rattle.dht_ids.specs.declared.peer.Peer.{Peer}
use Rattle.ring_model.specs.Gets.{Got, IsBlockGet}
use Rattle.dhash_model.specs.Execution.{Told, IsExecution, result_of}
use Rattle.dhash_model.specs.declared.miss.Miss.{Miss}

-- a get is answered by a block or by the word that there is none; anything else is silence
abbrev pub is_of_get : Answer → Bool
is_of_get (answer.Route nearer owners) = false
is_of_get (answer.Near before list) = false
is_of_get (answer.Found bytes) = true
is_of_get answer.Nothing = true
is_of_get answer.Stored = false
is_of_get (answer.Refused fault) = false
is_of_get answer.Noted = false
is_of_get answer.Silent = false

-- the block that was given
abbrev pub block_in : Answer → Option (List ℕ)
block_in (answer.Route nearer owners) = None
block_in (answer.Near before list) = None
block_in (answer.Found bytes) = Some bytes
block_in answer.Nothing = None
block_in answer.Stored = None
block_in (answer.Refused fault) = None
block_in answer.Noted = None
block_in answer.Silent = None

-- the asks of the owners are a get of the content block of that name, which ends with this result
abbrev pub EndsGet : Key → ℕ → List Peer → Told → Result (List ℕ) Miss → Type 0
EndsGet key r owners asks result =
    (got : Got Peer (List ℕ)) × IsBlockGet is_of_get block_in key r owners asks got × (result ≡ result_of key got)

-- A get of the content block of that name, over a whole trail.
abbrev pub IsGetOfBlock : Key → ℕ → List Peer → List Heard → Result (List ℕ) Miss → Type 0
IsGetOfBlock key r entries = IsExecution key (ask.Get key) entries (EndsGet key r)
