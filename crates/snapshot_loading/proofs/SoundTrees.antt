-- A tree of a snapshot is one without contradictions.
use Rattle.std.proofs.Common.{◌≡◌, ℕ, ◌+◌, ◌≤◌, Bool, true, false, cond, List, [], ◌∷◌, Option, Some, None, refl, sym, ap, ◌∙◌, subst, arith, Contains, count_by, is_some}
use Rattle.std.specs.Prelude.{IsTrue}
use Rattle.std.specs.List.{AllByRecursion}
use Rattle.std.specs.Ordering.{is_lt, eq_by_cmp}
use Rattle.std.specs.declared.cmp.Ordering.{Ordering}
use Rattle.std.specs.FinMap.Entries.{find as value_at, is_sorted, below_all}
use Rattle.std.proofs.lemmas.List.Sums.{sum_by-cons}
use Rattle.ivy_base.specs.declared.key.Key.{Key}
use Rattle.ivy_base.specs.Naming.{key_cmp, root_number}
use Rattle.tree_model.specs.Tree.{Tree, Inode, Place, place_cmp, same_key, inode_at, is_directory, is_inside, IsInside, name_count}
use Rattle.tree_model.specs.Sound.{IsSound, Names}
use Rattle.tree_model.proofs.Climb.{inside_by_test, test_of_inside}
use Rattle.tree_model.proofs.Keys.{keys_total, places_total, same_key_is, same_key_itself, same_place_is}
use Rattle.tree_model.proofs.Parents.{has_name_by}
use Rattle.tree_model.proofs.Sound.{both_true}
use Rattle.log_model.proofs.Lists.{here, there, each, each_from, who_passes}
use Rattle.snapshot_model.specs.Reading.{IsWholeTree}
use Rattle.snapshot_model.proofs.SortedEntries.{all_behind, each_found, not_below_itself}
use Rattle.snapshot_loading.specs.WholeLaws.{WholeTreesAreSound}

-- ---- one name at most

module _ (x : Key) where
  abbrev is_of : Place × Key → Bool
  is_of e = same_key x e.1

  one_more : (e : Place × Key) (es : List (Place × Key)) → count_by is_of (e ∷ es) ≡ cond (is_of e) 1 0 + count_by is_of es
  one_more e es = sum_by-cons (λ (d : Place × Key). cond (is_of d) 1 0) e es

  count_none : (es : List (Place × Key)) → AllByRecursion (λ e. is_of e ≡ true → ⊥) es → count_by is_of es ≡ 0
  count_none [] h = refl
  count_none (e ∷ es) h = one_more e es ∙ by (is_of e) refl (count_none es h.1)
    where
      by : (b : Bool) → is_of e ≡ b → count_by is_of es ≡ 0 → cond b 1 0 + count_by is_of es ≡ 0
      by true same rest = absurd (h.0 same)
      by false other rest = omega (arith, rest)

  count_once : (es : List (Place × Key)) → is_sorted place_cmp es ≡ true → ((d e : Place × Key) → Contains es d → Contains es e → d.1 ≡ x → e.1 ≡ x → d.0 ≡ e.0) → count_by is_of es ≤ 1
  count_once [] h once = omega arith
  count_once (e ∷ es) h once =
      let parts = both_true (below_all place_cmp e.0 es) (is_sorted place_cmp es) h in
      subst (λ (n : ℕ). n ≤ 1) (sym (one_more e es)) (by (is_of e) refl (all_behind place_cmp e.0 es parts.0) (count_once es parts.1 (λ d f c b. once d f (there e es d c) (there e es f b))))
    where
      by : (b : Bool) → is_of e ≡ b → AllByRecursion (λ (d : Place × Key). is_lt (place_cmp e.0 d.0) ≡ true) es → count_by is_of es ≤ 1 → cond b 1 0 + count_by is_of es ≤ 1
      by true same after rest =
          let none = count_none es (each_from (λ (d : Place × Key). is_of d ≡ true → ⊥) es (λ d c its.
          not_below_itself place_cmp places_total e.0 d.0 (each (λ (f : Place × Key). is_lt (place_cmp e.0 f.0) ≡ true) es d after c)
          (once e d (here e es) (there e es d c) (sym (same_key_is x e.1 same)) (sym (same_key_is x d.1 its))))) in
          omega (arith, none)
      by false other after rest = omega (arith, rest)

-- ---- the whole

some_inode : (o : Option Inode) → is_some o ≡ true → (i : Inode) × (o ≡ Some i)
some_inode None h = cc h
some_inode (Some i) h = (i, refl)

module _ (t : Tree) (sound : IsSound t) (exact : (a dir : Key) → is_directory (inode_at t a) ≡ true → is_inside t a dir ≡ true → IsInside t.names dir a) where
  -- each name leads to its inode
  leads : (e : Place × Key) → Contains t.names e → Names t e.0 e.1
  leads e c = each (λ (d : Place × Key). Names t d.0 d.1) t.names e (each_found place_cmp places_total t.names sound.order.names) c

  in_directory : (e : Place × Key) → Contains t.names e → is_directory (inode_at t e.0.0) ≡ true
  in_directory e c = sound.in_directories e.0 e.1 (leads e c)

  named_once : (i : Key × Inode) → Contains t.inodes i → is_directory (Some i.1) ≡ true → name_count t i.0 ≤ 1
  named_once i c directory =
      let found : inode_at t i.0 ≡ Some i.1 = each (λ (j : Key × Inode). value_at key_cmp j.0 t.inodes ≡ Some j.1) t.inodes i (each_found key_cmp keys_total t.inodes sound.order.inodes) c in
      let is : is_directory (inode_at t i.0) ≡ true = ap is_directory found ∙ directory in
      count_once i.0 t.names sound.order.names (λ d e c_d c_e its_d its_e. sound.once d.0 e.0 i.0 is
      (subst (λ (x : Key). Names t d.0 x) its_d (leads d c_d)) (subst (λ (x : Key). Names t e.0 x) its_e (leads e c_e)))

  pub whole : IsWholeTree t
  whole = record {
    in_order = sound.order;
    root = sound.root;
    no_name = λ h.
        let w = who_passes (λ (e : Place × Key). same_key root_number e.1) t.names h in
        sound.root_unnamed w.0.0 (subst (λ (x : Key). Names t w.0.0 x) (sym (same_key_is root_number w.0.1 w.2)) (leads w.0 w.1));
    parents = each_from (λ (e : Place × Key). IsTrue (is_directory (inode_at t e.0.0))) t.names in_directory;
    known = each_from (λ (e : Place × Key). (i : Inode) × (inode_at t e.1 ≡ Some i)) t.names (λ e c. some_inode (inode_at t e.1) (sound.there e.0 e.1 (leads e c)));
    once = each_from (λ (i : Key × Inode). IsTrue (is_directory (Some i.1)) → name_count t i.0 ≤ 1) t.inodes named_once;
    no_loop = each_from (λ (e : Place × Key). IsTrue (is_directory (inode_at t e.1)) → IsTrue (is_inside t e.0.0 e.1) → ⊥) t.names
        (λ e c directory inside. sound.apart e.0 e.1 directory (leads e c) (exact e.0.0 e.1 (in_directory e c) inside));
  }

-- ---- and the other way round

-- what is found is there
module _ {K X : Type 0} (R : K → K → Ordering) (exact : (a b : K) → eq_by_cmp R a b ≡ true → a ≡ b) where
  found_there : (q : K) (x : X) (es : List (K × X)) → value_at R q es ≡ Some x → Contains es (q, x)
  found_there q x [] h = cc
  found_there q x (e ∷ es) h = by (eq_by_cmp R q e.0) refl (found_there q x es) h
    where
      by : (b : Bool) → eq_by_cmp R q e.0 ≡ b → (value_at R q es ≡ Some x → Contains es (q, x)) → cond b (Some e.1) (value_at R q es) ≡ Some x → Contains (e ∷ es) (q, x)
      by true is more f =
          let value : e.1 ≡ x = cc in
          subst (λ (d : K × X). Contains (e ∷ es) d) (ap (λ (k : K). (k, e.1)) (sym (exact q e.0 is)) ∙ ap (λ (v : X). (q, v)) value) (here e es)
      by false is more f = there e es (q, x) (more f)

module _ (x : Key) where
  count_some : (p : Place) (es : List (Place × Key)) → value_at place_cmp p es ≡ Some x → 1 ≤ count_by (is_of x) es
  count_some p [] h = cc
  count_some p (e ∷ es) h = subst (λ (n : ℕ). 1 ≤ n) (sym (one_more x e es)) (by (eq_by_cmp place_cmp p e.0) (count_some p es) h)
    where
      by : (b : Bool) → (value_at place_cmp p es ≡ Some x → 1 ≤ count_by (is_of x) es) → cond b (Some e.1) (value_at place_cmp p es) ≡ Some x → 1 ≤ cond (is_of x e) 1 0 + count_by (is_of x) es
      by true more f =
          let value : e.1 ≡ x = cc in
          let its : is_of x e ≡ true = ap (λ (k : Key). same_key x k) value ∙ same_key_itself x in
          subst (λ (b : Bool). 1 ≤ cond b 1 0 + count_by (is_of x) es) (sym its) (omega arith)
      by false more f = let rest = more f in omega (arith, rest)

  count_two : (p q : Place) → eq_by_cmp place_cmp p q ≡ false → (es : List (Place × Key)) → value_at place_cmp p es ≡ Some x → value_at place_cmp q es ≡ Some x → 2 ≤ count_by (is_of x) es
  count_two p q other [] h g = cc
  count_two p q other (e ∷ es) h g = subst (λ (n : ℕ). 2 ≤ n) (sym (one_more x e es)) (by (eq_by_cmp place_cmp p e.0) (eq_by_cmp place_cmp q e.0) refl refl (count_two p q other es) h g)
    where
      its : e.1 ≡ x → 1 ≤ count_by (is_of x) es → 2 ≤ cond (is_of x e) 1 0 + count_by (is_of x) es
      its value some = subst (λ (b : Bool). 2 ≤ cond b 1 0 + count_by (is_of x) es) (sym (ap (λ (k : Key). same_key x k) value ∙ same_key_itself x)) (omega (arith, some))

      by : (b c : Bool) → eq_by_cmp place_cmp p e.0 ≡ b → eq_by_cmp place_cmp q e.0 ≡ c → (value_at place_cmp p es ≡ Some x → value_at place_cmp q es ≡ Some x → 2 ≤ count_by (is_of x) es)
          → cond b (Some e.1) (value_at place_cmp p es) ≡ Some x → cond c (Some e.1) (value_at place_cmp q es) ≡ Some x → 2 ≤ cond (is_of x e) 1 0 + count_by (is_of x) es
      by true true is_p is_q more f k =
          let same : eq_by_cmp place_cmp p q ≡ true = ap (λ (r : Place). eq_by_cmp place_cmp p r) (same_place_is q e.0 is_q) ∙ is_p in
          let differ = other in
          cc
      by true false is_p is_q more f k = let value : e.1 ≡ x = cc in its value (count_some q es k)
      by false true is_p is_q more f k = let value : e.1 ≡ x = cc in its value (count_some p es f)
      by false false is_p is_q more f k = let rest = more f k in omega (arith, rest)

module _ (t : Tree) (w : IsWholeTree t) where
  name_there : (p : Place) (x : Key) → Names t p x → Contains t.names (p, x)
  name_there p x h = found_there place_cmp same_place_is p x t.names h

  is_known : (p : Place) (x : Key) → Names t p x → (i : Inode) × (inode_at t x ≡ Some i)
  is_known p x h = each (λ (e : Place × Key). (i : Inode) × (inode_at t e.1 ≡ Some i)) t.names (p, x) w.known (name_there p x h)

  one_name : (p q : Place) (x : Key) → is_directory (inode_at t x) ≡ true → Names t p x → Names t q x → p ≡ q
  one_name p q x directory h g = by (eq_by_cmp place_cmp p q) refl
    where
      by : (b : Bool) → eq_by_cmp place_cmp p q ≡ b → p ≡ q
      by true is = same_place_is p q is
      by false is =
          let k = is_known p x h in
          let few = each (λ (i : Key × Inode). IsTrue (is_directory (Some i.1)) → name_count t i.0 ≤ 1) t.inodes (x, k.0) w.once (found_there key_cmp same_key_is x k.0 t.inodes k.1) (sym (ap is_directory k.1) ∙ directory) in
          let two = count_two x p q is t.names h g in
          absurd (omega (arith, few, two))

  pub sound_whole : IsSound t
  sound_whole = record {
    order = w.in_order;
    root = w.root;
    root_unnamed = λ p h. w.no_name (has_name_by t p root_number h);
    in_directories = λ p x h. each (λ (e : Place × Key). IsTrue (is_directory (inode_at t e.0.0))) t.names (p, x) w.parents (name_there p x h);
    there = λ p x h. ap is_some (is_known p x h).1;
    once = one_name;
    apart = λ p x directory h inside.
        each (λ (e : Place × Key). IsTrue (is_directory (inode_at t e.1)) → IsTrue (is_inside t e.0.0 e.1) → ⊥) t.names (p, x) w.no_loop (name_there p x h) directory (test_of_inside t p.0 x inside (is_inside t p.0 x) refl);
  }

pub whole_trees_are_sound : WholeTreesAreSound
whole_trees_are_sound t = (λ w. sound_whole t w, λ s. whole t s (λ a dir is inside. inside_by_test t s a dir is inside))
