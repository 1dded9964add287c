-- What lines show of participants, as texts, by the participants that there are.
use Rattle.std.specs.Prelude.{◌≡◌, ℕ, List, [], ◌∷◌, ◌++◌, Option, Some, None}
use Rattle.std.specs.Fmt.{decimal}
use Rattle.std.specs.List.{flat_map}
use Rattle.log_model.specs.Conflicts.{Clash}
use Rattle.world_model.specs.Shows.{Showing, Absent, TooMuch, Text, touched_text}
use Rattle.script_participants.specs.ParticipantState.{ParticipantState}
use Rattle.script_participants.specs.RecordLines.{owner_name}

-- the text is the line's word and what there is to show after it, and none where that is too much
abbrev pub Shows : List ℕ → Option (List ℕ) → Showing → Type 0
Shows word text Absent = ⊥
Shows word text TooMuch = text ≡ None
Shows word text (Text rest) = text ≡ Some (word ++ 32 ∷ rest)

-- two records in conflict by their logs and numbers, and what both touch
abbrev pub clash_line_of : List ParticipantState → Clash → List ℕ
clash_line_of ps c =
    owner_name ps c.first.owner ++ 32 ∷ decimal c.first.seq ++ 32 ∷ owner_name ps c.second.owner ++ 32 ∷ decimal c.second.seq
    ++ 32 ∷ touched_text c.bytes ++ 10 ∷ []

abbrev pub clash_lines_of : List ParticipantState → List Clash → List ℕ
clash_lines_of ps list = flat_map (clash_line_of ps) list
