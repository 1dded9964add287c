-- Which log of a floor is found.
use Rattle.std.proofs.Common.{◌≡◌, Bool, true, false, cond, List, [], ◌∷◌, Option, Some, None, refl, sym, ap, ◌∙◌}
use Rattle.std.specs.Prelude.{find, option_map}
use Rattle.ivy_base.specs.declared.key.Key.{Key}
use Rattle.log_model.specs.Vector.{Stamp, Vector}
use Rattle.version_vectors.specs.declared.entry.Entry.{Entry}
use Rattle.version_vectors.specs.Entries.{stamped, vector_of}

chosen : (b : Bool) (x : Entry) (o : Option (Key × Stamp)) (q : Option Entry) → option_map (λ e. e.0) o ≡ option_map (λ e. e.log) q
    → option_map (λ e. e.0) (cond b (Some (stamped x)) o) ≡ option_map (λ e. e.log) (cond b (Some x) q)
chosen true x o q h = refl
chosen false x o q h = h

-- the log of the first entry that passes, of entries as they are kept
pub first_log : (p : Key × Stamp → Bool) (es : List Entry) → option_map (λ e. e.0) (find p (vector_of es)) ≡ option_map (λ e. e.log) (find (λ e. p (stamped e)) es)
first_log p [] = refl
first_log p (x ∷ es) = chosen (p (stamped x)) x (find p (vector_of es)) (find (λ e. p (stamped e)) es) (first_log p es)

module _ (p : Key × Stamp → Bool) (es : List Entry) (floor : Vector) (is : vector_of es ≡ floor) where
  pub none_refused : None ≡ find (λ e. p (stamped e)) es → None ≡ option_map (λ e. e.0) (find p floor)
  none_refused none = ap (option_map (λ (e : Entry). e.log)) none ∙ sym (first_log p es) ∙ ap (λ (v : Vector). option_map (λ e. e.0) (find p v)) is

  pub one_refused : (x : Entry) → Some x ≡ find (λ e. p (stamped e)) es → Some x.log ≡ option_map (λ e. e.0) (find p floor)
  one_refused x found = ap (option_map (λ (e : Entry). e.log)) found ∙ sym (first_log p es) ∙ ap (λ (v : Vector). option_map (λ e. e.0) (find p v)) is
