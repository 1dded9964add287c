-- A get of a log's heads.
use Rattle.std.specs.Prelude.{◌≡◌, ℕ, List, Option, Result}
use Rattle.ivy_base.specs.declared.key.Key.{Key}
use Rattle.dht_ids.specs.declared.ask.Ask.TheVariants as ask
use Rattle.dht_ids.specs.declared.ask.Heard.{Heard}
use Rattle.dht_ids.specs.declared.judge.Judged.{Judged}
use Rattle.dht_ids.specs.declared.peer.Peer.{Peer}
use Rattle.ring_model.specs.Gets.{Got, IsHeadGet}
use Rattle.dhash_model.specs.Execution.{Told, IsExecution, result_of}
use Rattle.dhash_model.specs.GetBlock.{is_of_get, block_in}
use Rattle.dhash_model.specs.declared.miss.Miss.{Miss}

-- the asks of the owners are a get of the head under that key, which ends with this result
abbrev pub EndsHeadGet : (List ℕ → Option Judged) → Key → ℕ → List Peer → Told → Result (List Judged) Miss → Type 0
EndsHeadGet judge key r owners asks result =
    (got : Got Peer (List Judged)) × IsHeadGet is_of_get block_in judge r owners asks got × (result ≡ result_of key got)

-- A get of the head under that key, over a whole trail.
abbrev pub IsGetOfHead : (List ℕ → Option Judged) → Key → ℕ → List Peer → List Heard → Result (List Judged) Miss → Type 0
IsGetOfHead judge key r entries = IsExecution key (ask.Get key) entries (EndsHeadGet judge key r)
