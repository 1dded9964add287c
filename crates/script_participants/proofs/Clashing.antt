-- What lines show of records in conflict.
use Rattle.std.proofs.Common.{◌≡◌, ◌≤◌, ℕ, Bool, true, false, cond, List, [], ◌∷◌, ◌++◌, length, Option, Some, None, refl, sym, ap, ◌∙◌, subst, nat_lt}
use Rattle.std.specs.Prelude.{◌<◌, codes}
use Rattle.std.specs.Fmt.{decimal}
use Rattle.std.specs.List.{flat_map}
use Rattle.std.proofs.lemmas.Bool.{le-ltb, lt-ltb}
use Rattle.log_model.specs.Conflicts.{Clash, clashes, most_clashes}
use Rattle.world_model.specs.Shows.{Showing, TooMuch, Text, clash_line, clashes_shown, clashes_text, conflicts_shown, touched_text}
use Rattle.world_model.specs.World.{World, Participant}
use Rattle.script_participants.specs.ParticipantState.{ParticipantState, HasParticipants, state_of}
use Rattle.script_participants.specs.Texts.{Shows, clash_line_of, clash_lines_of}
use Rattle.script_participants.proofs.Shown.{owner_named}

module _ (w : World) (ps : List ParticipantState) (has : HasParticipants w ps) where
  line_is : (c : Clash) → clash_line_of ps c ≡ clash_line w c
  line_is c = λ i.
      owner_named w ps has c.first.owner i ++ 32 ∷ decimal c.first.seq ++ 32 ∷ owner_named w ps has c.second.owner i ++ 32 ∷ decimal c.second.seq
      ++ 32 ∷ touched_text c.bytes ++ 10 ∷ []

  lines_are : (list : List Clash) → clash_lines_of ps list ≡ flat_map (clash_line w) list
  lines_are list = ap (λ (f : Clash → List ℕ). flat_map f list) (λ i c. line_is c i)

  -- the list that it shows, by how it is kept
  shown_of : (s : ParticipantState) (list : List Clash) → list ≡ clashes s.agent.holding.held → (p : Participant) → state_of p ≡ s → clashes_shown w s.name list ≡ conflicts_shown w p
  shown_of s list is p same = ap (clashes_shown w s.name) is ∙ ap (λ (t : ParticipantState). clashes_shown w t.name (clashes t.agent.holding.held)) (sym same)

  pub list_shown : (s : ParticipantState) (text : List ℕ) (list : List Clash) → list ≡ clashes s.agent.holding.held → length list ≤ most_clashes
      → text ≡ codes "conflicts " ++ s.name ++ 32 ∷ decimal (length list) ++ 10 ∷ clash_lines_of ps list
      → (p : Participant) → state_of p ≡ s → Shows (codes "conflicts") (Some text) (conflicts_shown w p)
  list_shown s text list is few line p same = subst (Shows (codes "conflicts") (Some text))
      (ap (λ (b : Bool). cond b TooMuch (Text (clashes_text w s.name list))) (sym (le-ltb most_clashes (length list) few)) ∙ shown_of s list is p same)
      (ap (λ (o : List ℕ). Some o) (line ∙ ap (λ (lines : List ℕ). codes "conflicts " ++ s.name ++ 32 ∷ decimal (length list) ++ 10 ∷ lines) (lines_are list)))

  pub too_many_shown : (s : ParticipantState) → most_clashes < length (clashes s.agent.holding.held) → (p : Participant) → state_of p ≡ s → Shows (codes "conflicts") None (conflicts_shown w p)
  too_many_shown s many p same = subst (Shows (codes "conflicts") None)
      (ap (λ (b : Bool). cond b TooMuch (Text (clashes_text w s.name (clashes s.agent.holding.held)))) (sym (lt-ltb most_clashes (length (clashes s.agent.holding.held)) many)) ∙ shown_of s (clashes s.agent.holding.held) refl p same)
      refl
