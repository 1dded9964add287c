-- What is shown of a call that is over.
use Rattle.std.proofs.Common.{◌≡◌, ℕ, Bool, true, false, cond, not, List, [], ◌∷◌, ◌++◌, map, filter, Option, Some, None, refl, sym, ap, ◌∙◌, subst}
use Rattle.std.specs.Prelude.{codes}
use Rattle.std.specs.List.{flat_map}
use Rattle.std.proofs.lemmas.Grind.{flat_map-append}
use Rattle.std.proofs.lemmas.List.{append-nil}
use Rattle.std.proofs.lemmas.List.Elements.{filter-append}
use Rattle.dhash_model.specs.declared.miss.Miss.TheVariants as miss
use Rattle.dhash_model.specs.declared.miss.Miss.{Miss}
use Rattle.log_fetch.specs.declared.note.Note.{Note as Noted}
use Rattle.log_fetch.specs.declared.note.Note.TheVariants as note
use Rattle.log_fetch.specs.Standings.{note_of, note_of_miss, notes_of}
use Rattle.session_model.specs.Refreshing.{Note}
use Rattle.session_model.specs.Sessions.{Over, Said}
use Rattle.ivy_session.specs.declared.served.Served.{Served}
use Rattle.ivy_session.specs.States.{reply_or_none, served_of}
use Rattle.world_model.specs.Calls.{key_line, shown_end, shown_message, shown_miss, shown_note}
use Rattle.session_steps.specs.Ending.{IsRepresentedOf, is_miss, is_shown, note_line, served_line}
use Rattle.session_steps.specs.Representing.{CallState, IsTold, RepresentsBy}

-- the lines of the notes that are shown then
abbrev pub lines_of : Bool → List Noted → List ℕ
lines_of misses notes = flat_map note_line (filter (is_shown misses) notes)

-- ---- the notes of logs

module _ (n : Note) where
  abbrev as_noted : Bool → Noted
  as_noted is_fork = cond is_fork (note.Fork n.log) (note.Bad n.log)

  no_miss : (b : Bool) → is_miss (as_noted b) ≡ false
  no_miss true = refl
  no_miss false = refl

  same_line : (b : Bool) → note_line (as_noted b) ≡ key_line (cond b (codes "fork") (codes "bad")) n.log
  same_line true = refl
  same_line false = refl

-- they are no misses, and each is shown as in the definitions
no_misses : (ns : List Note) → lines_of true (map note_of ns) ≡ []
no_misses [] = refl
no_misses (n ∷ ns) = ap (λ (b : Bool). flat_map note_line (cond b (note_of n ∷ filter (is_shown true) (map note_of ns)) (filter (is_shown true) (map note_of ns)))) (no_miss n n.is_fork) ∙ no_misses ns

all_others : (ns : List Note) → lines_of false (map note_of ns) ≡ flat_map shown_note ns
all_others [] = refl
all_others (n ∷ ns) =
    ap (λ (b : Bool). flat_map note_line (cond (not b) (note_of n ∷ filter (is_shown false) (map note_of ns)) (filter (is_shown false) (map note_of ns)))) (no_miss n n.is_fork)
    ∙ ap (λ (line : List ℕ). line ++ lines_of false (map note_of ns)) (same_line n n.is_fork)
    ∙ ap (λ (lines : List ℕ). shown_note n ++ lines) (all_others ns)

-- ---- why the refresh failed

the_miss : (m : Miss) → lines_of true (note_of_miss m ∷ []) ≡ shown_miss (Some m)
the_miss (miss.NoRoute key) = append-nil (key_line (codes "noroute") key)
the_miss (miss.Missing key asked) = append-nil (key_line (codes "missing") key)
the_miss (miss.Damaged key node) = append-nil (key_line (codes "damaged") key)

no_other : (m : Miss) → lines_of false (note_of_miss m ∷ []) ≡ []
no_other (miss.NoRoute key) = refl
no_other (miss.Missing key asked) = refl
no_other (miss.Damaged key node) = refl

lines_joined : (misses : Bool) (ns ms : List Noted) → lines_of misses (ns ++ ms) ≡ lines_of misses ns ++ lines_of misses ms
lines_joined misses ns ms = ap (flat_map note_line) (filter-append (is_shown misses) ns ms) ∙ flat_map-append note_line (filter (is_shown misses) ns) (filter (is_shown misses) ms)

-- it is noted last, and shown first
misses_first : (ns : List Note) (m : Option Miss) → lines_of true (notes_of ns m) ≡ shown_miss m
misses_first ns None = no_misses ns
misses_first ns (Some m) = lines_joined true (map note_of ns) (note_of_miss m ∷ []) ∙ ap (λ (lines : List ℕ). lines ++ lines_of true (note_of_miss m ∷ [])) (no_misses ns) ∙ the_miss m

others_behind : (ns : List Note) (m : Option Miss) → lines_of false (notes_of ns m) ≡ flat_map shown_note ns
others_behind ns None = all_others ns
others_behind ns (Some m) = lines_joined false (map note_of ns) (note_of_miss m ∷ []) ∙ ap (λ (lines : List ℕ). lines_of false (map note_of ns) ++ lines) (no_other m) ∙ append-nil (lines_of false (map note_of ns)) ∙ all_others ns

-- ---- the whole

served_first : (message : Option (List ℕ)) → served_line (reply_or_none message) ≡ shown_message message
served_first None = refl
served_first (Some message) = refl

same_said : (a b : Option Said) → Over a ≡ Over b → a ≡ b
same_said a b e = cc e

pub all_shown : (call : CallState) (told : Served) → call.told ≡ Some told → IsRepresentedOf call (served_line told ++ lines_of true call.session.notes ++ lines_of false call.session.notes)
all_shown call told is s said shows at = by (subst (λ (o : Option Served). RepresentsBy s call o) is shows)
  where
    by : IsTold s call told → served_line told ++ lines_of true call.session.notes ++ lines_of false call.session.notes ≡ shown_end s said
    by over =
        ap (λ (notes : List Noted). served_line told ++ lines_of true notes ++ lines_of false notes) over.noted
        ∙ ap (λ (t : Served). served_line t ++ lines_of true (notes_of s.notes s.missed) ++ lines_of false (notes_of s.notes s.missed)) (over.is_told ∙ ap served_of (same_said over.said (Some said) (sym over.is_over ∙ at)))
        ∙ ap (λ (lines : List ℕ). lines ++ lines_of true (notes_of s.notes s.missed) ++ lines_of false (notes_of s.notes s.missed)) (served_first said.message)
        ∙ ap (λ (lines : List ℕ). shown_message said.message ++ lines ++ lines_of false (notes_of s.notes s.missed)) (misses_first s.notes s.missed)
        ∙ ap (λ (lines : List ℕ). shown_message said.message ++ shown_miss s.missed ++ lines) (others_behind s.notes s.missed)

-- the text, as it was put
pub shown_so : (call : CallState) (told : Served) (notes : List Noted) (fresh first second third : List ℕ) → call.told ≡ Some told → notes ≡ call.session.notes → fresh ≡ [] → first ≡ fresh ++ served_line told → second ≡ first ++ lines_of true notes
    → third ≡ second ++ lines_of false notes → IsRepresentedOf call third
shown_so call told notes fresh first second third is same none e f g = subst (IsRepresentedOf call) (sym all) (all_shown call told is)
  where
    front : second ≡ served_line told ++ lines_of true call.session.notes
    front = f ∙ ap (λ (ns : List Noted). first ++ lines_of true ns) same ∙ ap (λ (text : List ℕ). text ++ lines_of true call.session.notes) (e ∙ ap (λ (text : List ℕ). text ++ served_line told) none)

    all : third ≡ served_line told ++ lines_of true call.session.notes ++ lines_of false call.session.notes
    all = g ∙ ap (λ (ns : List Noted). second ++ lines_of false ns) same ∙ ap (λ (text : List ℕ). text ++ lines_of false call.session.notes) front
