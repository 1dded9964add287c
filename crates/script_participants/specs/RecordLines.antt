-- Lines of records, by the participants that there are.
use Rattle.std.specs.Prelude.{ℕ, List, [], ◌∷◌, ◌++◌, find}
use Rattle.std.specs.Fmt.{decimal}
use Rattle.std.specs.List.{flat_map}
use Rattle.std.specs.Option.{option_map_or}
use Rattle.std.specs.Ordering.{eq_by_cmp}
use Rattle.ivy_base.specs.declared.key.PubKey.{PubKey}
use Rattle.ivy_base.specs.Naming.{owner_cmp}
use Rattle.log_model.specs.Record.{Record}
use Rattle.log_model.specs.Rank.{weight}
use Rattle.world_model.specs.Agents.{own_hss_key}
use Rattle.script_participants.specs.ParticipantState.{ParticipantState}

-- the name of the first log of that key
abbrev pub owner_name : List ParticipantState → PubKey → List ℕ
owner_name ps owner = option_map_or (λ p. p.name) (find (λ p. eq_by_cmp owner_cmp owner (own_hss_key p.agent)) ps) []

-- a record by its weight, its log and its number
abbrev pub line_of : List ParticipantState → Record → List ℕ
line_of ps r = decimal (weight r) ++ 32 ∷ owner_name ps r.owner ++ 32 ∷ decimal r.seq ++ 10 ∷ []

abbrev pub lines_of : List ParticipantState → List Record → List ℕ
lines_of ps rs = flat_map (line_of ps) rs
