-- Whether a floor knows all that a front does.
use Rattle.std.proofs.Common.{◌≡◌, ◌↔◌, Bool, true, ◌&&◌, List, [], ◌∷◌, refl, sym, ap, ◌∙◌, subst}
use Rattle.std.specs.Prelude.{IsTrue, nat_le}
use Rattle.std.specs.Bool.{one_answer}
use Rattle.std.specs.List.{list_all}
use Rattle.std.specs.FinMap.Entries.{is_sorted}
use Rattle.ivy_base.specs.Naming.{key_cmp}
use Rattle.log_model.specs.Vector.{Dominates, Vector, seq_of}
use Rattle.version_vectors.specs.declared.entry.Entry.{Entry}
use Rattle.version_vectors.specs.Entries.{vector_of}
use Rattle.version_vectors.specs.Vectors.{IsVector}
use Rattle.version_vectors.proofs.Domination.{dominates_by_entries}
use Rattle.agent_model.specs.Standing.{dominates}

abbrev reaches_each : Vector → List Entry → Bool
reaches_each v es = list_all (λ e. nat_le e.seq (seq_of v e.log)) es

tests_each : (v : Vector) (es : List Entry) → dominates v (vector_of es) ≡ reaches_each v es
tests_each v [] = refl
tests_each v (e ∷ es) = ap (λ (b : Bool). nat_le e.seq (seq_of v e.log) && b) (tests_each v es)

pub tests_front : (v w : Vector) (es : List Entry) (b : Bool) → vector_of es ≡ w → IsVector w → (IsTrue b ↔ Dominates v w) → b ≡ dominates v w
tests_front v w es b is fits h =
    let sorted : is_sorted key_cmp (vector_of es) ≡ true = subst (λ (x : Vector). is_sorted key_cmp x ≡ true) (sym is) fits.in_order in
    let test : IsTrue (reaches_each v es) ↔ Dominates v w = subst (λ (x : Vector). IsTrue (reaches_each v es) ↔ Dominates v x) is (dominates_by_entries v es (reaches_each v es) sorted refl) in
    one_answer b (reaches_each v es) h test ∙ sym (tests_each v es) ∙ ap (dominates v) is
