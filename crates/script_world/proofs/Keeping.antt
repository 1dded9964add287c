-- A participant that a line names, and changes.
use Rattle.std.proofs.Common.{◌≡◌, ℕ, Bool, true, false, cond, List, [], ◌∷◌, map, set, get_or, refl, sym, ap, ◌∙◌, Option, Some, None}
use Rattle.std.specs.Prelude.{nat_lt, find, option_map}
use Rattle.std.specs.List.{position}
use Rattle.std.specs.Str.{bytes_eq}
use Rattle.std.proofs.lemmas.Bool.{cond-true}
use Rattle.std.proofs.lemmas.Slice.Eq.{bytes_eq-Decides}
use Rattle.script_driver.specs.Run.{Goes, Refuses}
use Rattle.world_model.specs.Keepers.{with_fault}
use Rattle.world_model.specs.Logs.{keep_by, keep_line}
use Rattle.world_model.specs.World.{Participant, World, participant, with_participant}
use Rattle.ring_nodes.proofs.Places.{found_at, none_found}
use Rattle.script_participants.specs.ParticipantState.{AreNamedApart, HasParticipants, ParticipantState, state_of}
use Rattle.script_participants.proofs.Places.{changed_has as placed_has}
use Rattle.script_world.specs.PartsState.{HasParts, PartsState}
use Rattle.script_world.proofs.Faulting.{GoesTo, went_so}

abbrev pub find_named : List ℕ → List ParticipantState → Option ParticipantState
find_named name ps = find (λ (q : ParticipantState). bytes_eq q.name name) ps

-- a participant of that name is one of the world's
found_in : (qs : List Participant) (name : List ℕ) → find_named name (map state_of qs) ≡ option_map state_of (find (λ (q : Participant). bytes_eq q.name name) qs)
found_in [] name = refl
found_in (q ∷ qs) name = by (bytes_eq q.name name) (found_in qs name)
  where
    by : (b : Bool) → find_named name (map state_of qs) ≡ option_map state_of (find (λ (q : Participant). bytes_eq q.name name) qs)
        → cond b (Some (state_of q)) (find_named name (map state_of qs)) ≡ option_map state_of (cond b (Some q) (find (λ (q : Participant). bytes_eq q.name name) qs))
    by true rest = refl
    by false rest = rest

pub named_in : (w : World) (ps : List ParticipantState) (name : List ℕ) → HasParticipants w ps → find_named name ps ≡ option_map state_of (participant w name)
named_in w ps name has = ap (find_named name) (sym has) ∙ found_in w.participants name

-- whose state that is
pub one_named : (o : Option Participant) (x : ParticipantState) → option_map state_of o ≡ Some x → (p : Participant) × (o ≡ Some p) × (state_of p ≡ x)
one_named None x e = absurd cc
one_named (Some p) x e = (p, refl, cc)

pub nobody_named : (o : Option Participant) → option_map state_of o ≡ None → o ≡ None
nobody_named None e = refl
nobody_named (Some p) e = absurd cc

-- a participant that is found has the name
named_so_in : (qs : List Participant) (name : List ℕ) (p : Participant) → find (λ (q : Participant). bytes_eq q.name name) qs ≡ Some p → p.name ≡ name
named_so_in [] name p e = absurd cc
named_so_in (q ∷ qs) name p e = by (bytes_eq q.name name) refl e (named_so_in qs name p)
  where
    by : (b : Bool) → bytes_eq q.name name ≡ b → cond b (Some q) (find (λ (q : Participant). bytes_eq q.name name) qs) ≡ Some p
        → (find (λ (q : Participant). bytes_eq q.name name) qs ≡ Some p → p.name ≡ name) → p.name ≡ name
    by true is e rest = let same : q ≡ p = cc e in ap (λ (r : Participant). r.name) (sym same) ∙ (bytes_eq-Decides q.name name).0 is
    by false is e rest = rest e

module _ (w : World) (s : PartsState) (has : HasParts w s) where
  pub named_so : (name : List ℕ) (p : Participant) → participant w name ≡ Some p → p.name ≡ name
  named_so name p e = named_so_in w.participants name p e

  pub nobody_in : (name : List ℕ) → find_named name s.participants ≡ None → participant w name ≡ None
  nobody_in name none = nobody_named (participant w name) (sym (named_in w s.participants name has.participants) ∙ none)

  pub one_in : (name : List ℕ) (x : ParticipantState) → find_named name s.participants ≡ Some x → (p : Participant) × (participant w name ≡ Some p) × (state_of p ≡ x)
  one_in name x found = one_named (participant w name) x (sym (named_in w s.participants name has.participants) ∙ found)

  -- the world with the participant that was changed, where it was found
  pub changed_has : (name : List ℕ) (place : ℕ) (new : ParticipantState) (p : Participant) → AreNamedApart s.participants → position (λ (q : ParticipantState). bytes_eq q.name name) s.participants ≡ Some place
      → state_of p ≡ new → p.name ≡ name → HasParts (with_participant w p) (record s { participants = set s.participants place new })
  changed_has name place new p apart found state named = record {
    replicas = has.replicas;
    nodes = has.nodes;
    participants = placed_has w s.participants place p has.participants apart (ap (λ (n : List ℕ). position (λ (q : ParticipantState). bytes_eq q.name n) s.participants) named ∙ found) ∙ ap (set s.participants place) state;
    views = has.views;
    replies = has.replies;
    moment = has.moment;
    met = has.met;
  }

  -- the participant that was found, and its name
  pub found_so : (name : List ℕ) (place : ℕ) (old : ParticipantState) → position (λ (q : ParticipantState). bytes_eq q.name name) s.participants ≡ Some place → old ≡ get_or s.participants place old
      → (p : Participant) × (participant w name ≡ Some p) × (state_of p ≡ old)
  found_so name place old found is = one_in name old (found_at (λ (q : ParticipantState). bytes_eq q.name name) s.participants place old found ∙ ap (λ (x : ParticipantState). Some x) (sym is))

  -- ---- keep

  pub keeps_fault : (name : List ℕ) (count place : ℕ) (new : Bool) (old next : ParticipantState) (output : List ℕ) → AreNamedApart s.participants → nat_lt 0 count ≡ true
      → position (λ (q : ParticipantState). bytes_eq q.name name) s.participants ≡ Some place → old ≡ get_or s.participants place old → next ≡ record old { keeper = with_fault old.keeper count new } → output ≡ []
      → GoesTo w s has (keep_line w name count new) output (record s { participants = set s.participants place next })
  keeps_fault name count place new old next output apart some found is then nothing =
      let its = found_so name place old found is in
      let p : Participant = record its.0 { keeper = with_fault its.0.keeper count new } in
      went_so w s has (keep_line w name count new) (with_participant w p) output (record s { participants = set s.participants place next })
      (ap (λ (o : Option Participant). keep_by w o count new) its.1 ∙ cond-true (nat_lt 0 count) (Goes (with_participant w p) []) Refuses some) nothing
      (changed_has name place next p apart found (ap (λ (x : ParticipantState). record x { keeper = with_fault x.keeper count new }) its.2 ∙ sym then) (named_so name its.0 its.1)) refl

  pub nobody_keeps : (name : List ℕ) (count : ℕ) (new : Bool) → position (λ (q : ParticipantState). bytes_eq q.name name) s.participants ≡ None → Refuses ≡ keep_line w name count new
  nobody_keeps name count new none = sym (ap (λ (o : Option Participant). keep_by w o count new) (nobody_in name (none_found (λ (q : ParticipantState). bytes_eq q.name name) s.participants none)))
