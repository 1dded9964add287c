-- Participants by their names, and the keys of logs.
use Rattle.std.proofs.Common.{◌≡◌, ℕ, Bool, true, false, cond, List, [], ◌∷◌, ◌++◌, map, find, Option, Some, refl, sym, ap, ◌∙◌}
use Rattle.std.specs.Prelude.{option_map}
use Rattle.std.specs.Str.{bytes_eq}
use Rattle.ivy_base.specs.declared.key.PubKey.{PubKey}
use Rattle.world_model.specs.Logs.{keys_of}
use Rattle.world_model.specs.World.{World, participant}
use Rattle.script_participants.specs.ParticipantState.{ParticipantState, HasParticipants, state_of}

-- ---- names

-- the first that passes, of what each is seen as
pub find_seen : {X Y : Type 0} (f : X → Y) (q : Y → Bool) (xs : List X) → find q (map f xs) ≡ option_map f (find (λ x. q (f x)) xs)
find_seen f q [] = refl
find_seen f q (x ∷ xs) = by (q (f x)) (find_seen f q xs)
  where
    by : (b : Bool) → find q (map f xs) ≡ option_map f (find (λ y. q (f y)) xs) → cond b (Some (f x)) (find q (map f xs)) ≡ option_map f (cond b (Some x) (find (λ y. q (f y)) xs))
    by true e = refl
    by false e = e

-- by what a walk finds
pub named_in : (w : World) (ps read : List ParticipantState) (name : List ℕ) (o : Option ParticipantState) → HasParticipants w ps → o ≡ find (λ p. bytes_eq p.name name) read → read ≡ ps → o ≡ option_map state_of (participant w name)
named_in w ps read name o has is same =
    is ∙ ap (find (λ (p : ParticipantState). bytes_eq p.name name)) (same ∙ sym has) ∙ find_seen state_of (λ p. bytes_eq p.name name) w.participants

-- ---- the keys of logs

-- the keys so far and those of the names that are left
abbrev pub with_left : World → List PubKey → List (List ℕ) → Option (List PubKey)
with_left w keys names = option_map (λ (more : List PubKey). keys ++ more) (keys_of w names)
