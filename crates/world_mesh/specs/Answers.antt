-- Answers that need room to be told of.
use Rattle.std.specs.Prelude.{⊤}
use Rattle.dht_ids.specs.declared.ask.Answer.{Answer}
use Rattle.dht_ids.specs.declared.ask.Answer.TheVariants as answer

-- neither an answer to a put nor silence
abbrev pub IsOfRead : Answer → Type 0
IsOfRead (answer.Route nearer owners) = ⊤
IsOfRead (answer.Near before list) = ⊤
IsOfRead (answer.Found bytes) = ⊤
IsOfRead answer.Nothing = ⊤
IsOfRead answer.Stored = ⊥
IsOfRead (answer.Refused fault) = ⊥
IsOfRead answer.Noted = ⊤
IsOfRead answer.Silent = ⊥
