-- A directory of whose names none is listed is empty.
use Rattle.std.proofs.Common.{◌≡◌, ℕ, Bool, true, false, cond, List, [], ◌∷◌, length, Some, None, filter_map, refl, arith}
use Rattle.std.specs.Prelude.{not, ◌||◌, ◌==◌}
use Rattle.std.specs.List.{list_any, cons_option}
use Rattle.std.proofs.lemmas.Bool.{ne_eqb}
use Rattle.ivy_base.specs.declared.key.Key.{Key}
use Rattle.tree_model.specs.Tree.{Place, Tree, same_key, listing, is_empty_directory}

none_by : (b : Bool) (x : List ℕ × Key) (rest : List (List ℕ × Key)) (any : Bool) → (length rest == 0) ≡ not any → (length (cons_option (cond b (Some x) None) rest) == 0) ≡ not (b || any)
none_by true x rest any h = ne_eqb (length (x ∷ rest)) 0 (λ e. absurd (omega (arith, e)))
none_by false x rest any h = h

abbrev listed : Key → List (Place × Key) → List (List ℕ × Key)
listed d es = filter_map (λ e. cond (same_key d e.0.0) (Some (e.0.1, e.1)) None) es

none_in : (d : Key) (es : List (Place × Key)) → (length (listed d es) == 0) ≡ not (list_any (λ e. same_key d e.0.0) es)
none_in d [] = refl
none_in d (e ∷ es) = none_by (same_key d e.0.0) (e.0.1, e.1) (listed d es) (list_any (λ f. same_key d f.0.0) es) (none_in d es)

pub none_listed : (t : Tree) (d : Key) → (length (listing t d) == 0) ≡ is_empty_directory t d
none_listed t d = none_in d t.names
