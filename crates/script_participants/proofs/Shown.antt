-- What lines show of participants.
use Rattle.std.proofs.Common.{◌≡◌, ℕ, List, [], ◌∷◌, ◌++◌, find, length, Option, Some, None, refl, sym, ap, ◌∙◌, append_assoc}
use Rattle.std.specs.Prelude.{codes, option_map}
use Rattle.std.specs.Fmt.{decimal}
use Rattle.std.specs.List.{flat_map}
use Rattle.std.specs.Option.{option_map_or}
use Rattle.std.specs.Ordering.{eq_by_cmp}
use Rattle.ivy_base.specs.declared.key.PubKey.{PubKey}
use Rattle.ivy_base.specs.Naming.{owner_cmp}
use Rattle.log_model.specs.Record.{Record}
use Rattle.log_model.specs.Rank.{weight}
use Rattle.world_model.specs.Agents.{own_hss_key}
use Rattle.world_model.specs.Shows.{order_text, record_line, work_text}
use Rattle.world_model.specs.World.{World, Participant, name_of_owner}
use Rattle.script_participants.specs.ParticipantState.{ParticipantState, HasParticipants, state_of}
use Rattle.script_participants.specs.RecordLines.{line_of, lines_of, owner_name}
use Rattle.script_participants.proofs.Named.{find_seen}

pub work_shown : (s : ParticipantState) (text : List ℕ) → text ≡ codes "work " ++ s.name ++ 32 ∷ decimal s.work ++ 10 ∷ [] → (p : Participant) → state_of p ≡ s → text ≡ codes "work " ++ work_text p
work_shown s text is p same = is ∙ ap (λ (t : ParticipantState). codes "work " ++ t.name ++ 32 ∷ decimal t.work ++ 10 ∷ []) (sym same)

module _ (w : World) (ps : List ParticipantState) (has : HasParticipants w ps) where
  pub owner_named : (owner : PubKey) → owner_name ps owner ≡ name_of_owner w owner
  owner_named owner =
      ap (λ (l : List ParticipantState). owner_name l owner) (sym has)
      ∙ ap (λ (o : Option ParticipantState). option_map_or (λ (p : ParticipantState). p.name) o []) (find_seen state_of (λ p. eq_by_cmp owner_cmp owner (own_hss_key p.agent)) w.participants)
      ∙ by (find (λ (p : Participant). eq_by_cmp owner_cmp owner (own_hss_key p.agent)) w.participants)
    where
      by : (o : Option Participant) → option_map_or (λ (p : ParticipantState). p.name) (option_map state_of o) [] ≡ option_map_or (λ (p : Participant). p.name) o []
      by None = refl
      by (Some p) = refl

  -- by what a walk finds
  pub owner_found : (owner : PubKey) (read : List ParticipantState) (o : Option ParticipantState) → o ≡ find (λ p. eq_by_cmp owner_cmp owner (own_hss_key p.agent)) read → read ≡ ps → option_map_or (λ (p : ParticipantState). p.name) o [] ≡ name_of_owner w owner
  owner_found owner read o is same = ap (λ (q : Option ParticipantState). option_map_or (λ (p : ParticipantState). p.name) q []) (is ∙ ap (find (λ (p : ParticipantState). eq_by_cmp owner_cmp owner (own_hss_key p.agent))) same) ∙ owner_named owner

  line_shown : (r : Record) → line_of ps r ≡ record_line w r
  line_shown r = ap (λ (name : List ℕ). decimal (weight r) ++ 32 ∷ name ++ 32 ∷ decimal r.seq ++ 10 ∷ []) (owner_named r.owner)

  pub lines_shown : (rs : List Record) → lines_of ps rs ≡ flat_map (record_line w) rs
  lines_shown rs = ap (λ (f : Record → List ℕ). flat_map f rs) (λ i r. line_shown r i)

  joined : (name number lines : List ℕ) → (codes "order " ++ name ++ 32 ∷ number ++ 10 ∷ []) ++ lines ≡ codes "order " ++ name ++ 32 ∷ number ++ 10 ∷ lines
  joined name number lines = append_assoc (codes "order " ++ name ++ 32 ∷ number) (10 ∷ []) lines

  abbrev order_seen : ParticipantState → List Record → List ℕ
  order_seen s rs = codes "order " ++ s.name ++ 32 ∷ decimal (length rs) ++ 10 ∷ flat_map (record_line w) rs

  pub order_shown : (s : ParticipantState) (count : ℕ) (front text : List ℕ) (rs : List Record) → rs ≡ s.agent.holding.held → count ≡ length rs → front ≡ codes "order " ++ s.name ++ 32 ∷ decimal count ++ 10 ∷ []
      → text ≡ front ++ lines_of ps rs → (p : Participant) → state_of p ≡ s → text ≡ codes "order " ++ order_text w p
  order_shown s count front text rs held counted line is p same =
      is ∙ ap (λ f. f ++ lines_of ps rs) line ∙ joined s.name (decimal count) (lines_of ps rs)
      ∙ (λ i. codes "order " ++ s.name ++ 32 ∷ decimal (counted i) ++ 10 ∷ lines_shown rs i)
      ∙ ap (order_seen s) held
      ∙ ap (λ (t : ParticipantState). order_seen t t.agent.holding.held) (sym same)
