-- What is so of the parts at all times, where a participant is changed, or one comes after the others.
use Rattle.std.proofs.Common.{◌≡◌, ℕ, zero, suc, Bool, true, false, List, [], ◌∷◌, ◌++◌, cond, set, get_or, refl, sym, ap, ◌∙◌, subst, Option, Some, None}
use Rattle.std.specs.Prelude.{is_some}
use Rattle.std.specs.List.{AllByRecursion}
use Rattle.std.specs.Str.{bytes_eq}
use Rattle.std.proofs.lemmas.Slice.Eq.{bytes_eq-Decides}
use Rattle.script_participants.specs.ParticipantState.{AreNamedApart, ParticipantState}
use Rattle.script_world.specs.PartsState.{AreKept}
use Rattle.script_world.proofs.Keeping.{find_named}

-- none of them has that name
abbrev NobodyHas : List ℕ → List ParticipantState → Type 0
NobodyHas name ps = AllByRecursion (λ (q : ParticipantState). bytes_eq q.name name ≡ false) ps

-- ---- one is changed, but not its name

others_set : (name : List ℕ) (ps : List ParticipantState) (i : ℕ) (old new : ParticipantState) → NobodyHas name ps → old ≡ get_or ps i old → new.name ≡ old.name → NobodyHas name (set ps i new)
others_set name [] i old new apart is named = tt
others_set name (p ∷ ps) zero old new apart is named = (subst (λ (l : List ℕ). bytes_eq l name ≡ false) (sym (named ∙ ap (λ (q : ParticipantState). q.name) is)) apart.0, apart.1)
others_set name (p ∷ ps) (suc i) old new apart is named = (apart.0, others_set name ps i old new apart.1 is named)

apart_set : (ps : List ParticipantState) (i : ℕ) (old new : ParticipantState) → AreNamedApart ps → old ≡ get_or ps i old → new.name ≡ old.name → AreNamedApart (set ps i new)
apart_set [] i old new apart is named = tt
apart_set (p ∷ ps) zero old new apart is named = (subst (λ (l : List ℕ). NobodyHas l ps) (sym (named ∙ ap (λ (q : ParticipantState). q.name) is)) apart.0, apart.1)
apart_set (p ∷ ps) (suc i) old new apart is named = (others_set p.name ps i old new apart.0 is named, apart_set ps i old new apart.1 is named)

pub kept_changed : (r : Option ℕ) (ps : List ParticipantState) (i : ℕ) (old new : ParticipantState) → AreKept r ps → old ≡ get_or ps i old → new.name ≡ old.name → AreKept r (set ps i new)
kept_changed r ps i old new kept is named = record {
  apart = apart_set ps i old new kept.apart is named;
  few = kept.few;
  nobody = λ none. ap (λ (l : List ParticipantState). set l i new) (kept.nobody none);
}

-- ---- one comes after the others

not_either : (a b : List ℕ) → bytes_eq a b ≡ false → bytes_eq b a ≡ false
not_either a b other = by (bytes_eq b a) refl
  where
    by : (t : Bool) → bytes_eq b a ≡ t → t ≡ false
    by false is = refl
    by true is = let same : bytes_eq a b ≡ true = (bytes_eq-Decides a b).1 (sym ((bytes_eq-Decides b a).0 is)) in absurd cc

others_push : (name : List ℕ) (ps : List ParticipantState) (p : ParticipantState) → NobodyHas name ps → bytes_eq p.name name ≡ false → NobodyHas name (ps ++ p ∷ [])
others_push name [] p apart other = (other, tt)
others_push name (q ∷ ps) p apart other = (apart.0, others_push name ps p apart.1 other)

apart_push : (ps : List ParticipantState) (p : ParticipantState) → AreNamedApart ps → find_named p.name ps ≡ None → AreNamedApart (ps ++ p ∷ [])
apart_push [] p apart none = (tt, tt)
apart_push (q ∷ ps) p apart none = by (bytes_eq q.name p.name) refl none (apart_push ps p apart.1)
  where
    by : (t : Bool) → bytes_eq q.name p.name ≡ t → cond t (Some q) (find_named p.name ps) ≡ None → (find_named p.name ps ≡ None → AreNamedApart (ps ++ p ∷ [])) → AreNamedApart (q ∷ ps ++ p ∷ [])
    by true is found rest = absurd cc
    by false is found rest = (others_push q.name ps p apart.0 (not_either q.name p.name is), rest found)

pub kept_pushed : (r : Option ℕ) (ps after : List ParticipantState) (p : ParticipantState) (name : List ℕ) → AreKept r ps → is_some r ≡ true → p.name ≡ name → find_named name ps ≡ None → after ≡ ps ++ p ∷ [] → AreKept r after
kept_pushed None ps after p name kept ring named none are = absurd cc
kept_pushed (Some r) ps after p name kept ring named none are =
    subst (AreKept (Some r)) (sym are)
    (record { apart = apart_push ps p kept.apart (ap (λ (l : List ℕ). find_named l ps) named ∙ none); few = kept.few; nobody = λ e. absurd cc })
