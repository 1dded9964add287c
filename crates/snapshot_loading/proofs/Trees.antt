-- What the directories of a tree contain.
use Rattle.std.proofs.Common.{◌≡◌, ℕ, inl, inr, Bool, true, false, cond, List, [], ◌∷◌, Some, None, refl, sym, ap, ◌∙◌, subst}
use Rattle.std.specs.Prelude.{IsTrue, if◌then◌else◌}
use Rattle.std.specs.List.{AllByRecursion, filter_map, cons_option}
use Rattle.std.specs.Ordering.{is_lt, is_eq, ordering_reverse}
use Rattle.std.specs.declared.cmp.Ordering.{Ordering}
use Rattle.std.specs.declared.cmp.Ordering.TheVariants.{Less, Equal, Greater}
use Rattle.std.specs.FinMap.Entries.{find as value_at, is_sorted, below_all}
use Rattle.ivy_base.specs.declared.key.Key.{Key}
use Rattle.ivy_base.specs.declared.operation.Kind.{Kind}
use Rattle.ivy_base.specs.declared.operation.Kind.TheVariants.{Reg, Dir, Lnk}
use Rattle.ivy_base.specs.Naming.{key_cmp}
use Rattle.tree_model.specs.Tree.{Tree, Inode, Place, same_key, directory_kind, inode_at, is_directory, listing}
use Rattle.tree_model.proofs.Keys.{keys_total, same_key_is, same_key_itself}
use Rattle.tree_model.proofs.Sound.{both_true}
use Rattle.snapshot_model.specs.Reading.{IsWholeTree}
use Rattle.snapshot_model.proofs.SameNames.{Has}
use Rattle.snapshot_loading.specs.Inodes.{contained}

-- ---- what holds of all that a list has

pub each_has : {A : Type 0} (P : A → Type 0) (xs : List A) → ((x : A) → Has xs x → P x) → AllByRecursion P xs
each_has P [] h = tt
each_has P (x ∷ xs) h = (h x (inl refl), each_has P xs (λ y b. h y (inr b)))

pub all_have : {A : Type 0} (P Q : A → Type 0) (xs : List A) → ((x : A) → P x → Q x) → AllByRecursion P xs → AllByRecursion Q xs
all_have P Q [] f h = tt
all_have P Q (x ∷ xs) f h = (f x h.0, all_have P Q xs f h.1)

-- ---- numbers rise

is_less : (o : Ordering) → is_lt o ≡ true → o ≡ Less
is_less Less h = refl
is_less Equal h = cc
is_less Greater h = cc

pub not_above : (a b : Key) → is_lt (key_cmp a b) ≡ true → same_key b a ≡ false
not_above a b less = ap is_eq (keys_total.antisymm b a ∙ ap ordering_reverse (is_less (key_cmp a b) less))

pub not_below : (a b : Key) → is_lt (key_cmp a b) ≡ true → same_key a b ≡ false
not_below a b less = ap is_eq (is_less (key_cmp a b) less)

below_has : (k : Key) (inodes : List (Key × Inode)) (i : Key × Inode) → below_all key_cmp k inodes ≡ true → Has inodes i → is_lt (key_cmp k i.0) ≡ true
below_has k [] i h b = absurd b
below_has k (j ∷ inodes) i h (inl e) = subst (λ (x : Key × Inode). is_lt (key_cmp k x.0) ≡ true) (sym e) (both_true (is_lt (key_cmp k j.0)) (below_all key_cmp k inodes) h).0
below_has k (j ∷ inodes) i h (inr b) = below_has k inodes i (both_true (is_lt (key_cmp k j.0)) (below_all key_cmp k inodes) h).1 b

-- each inode is found by its number
pub found_inode : (inodes : List (Key × Inode)) (i : Key × Inode) → is_sorted key_cmp inodes ≡ true → Has inodes i → value_at key_cmp i.0 inodes ≡ Some i.1
found_inode [] i h b = absurd b
found_inode (j ∷ inodes) i h (inl e) = subst (λ (x : Key × Inode). value_at key_cmp x.0 (j ∷ inodes) ≡ Some x.1) (sym e) (ap (λ (b : Bool). cond b (Some j.1) (value_at key_cmp j.0 inodes)) (same_key_itself j.0))
found_inode (j ∷ inodes) i h (inr b) =
    let parts = both_true (below_all key_cmp j.0 inodes) (is_sorted key_cmp inodes) h in
    ap (λ (b : Bool). cond b (Some j.1) (value_at key_cmp i.0 inodes)) (not_above j.0 i.0 (below_has j.0 inodes i parts.0 b)) ∙ found_inode inodes i parts.1 b

-- ---- only directories contain something

abbrev listed : List (Place × Key) → Key → List (List ℕ × Key)
listed names d = filter_map (λ e. if same_key d e.0.0 then Some (e.0.1, e.1) else None) names

pub none_listed : (names : List (Place × Key)) (d : Key) → AllByRecursion (λ e. same_key d e.0.0 ≡ false) names → listed names d ≡ []
none_listed [] d h = refl
none_listed (e ∷ names) d h = ap (λ (b : Bool). cons_option (if b then Some (e.0.1, e.1) else None) (listed names d)) h.0 ∙ none_listed names d h.1

no_listing : (t : Tree) → IsWholeTree t → (i : Key × Inode) → Has t.inodes i → directory_kind i.1.kind ≡ false → listing t i.0 ≡ []
no_listing t w i b kind =
    none_listed t.names i.0 (all_have (λ e. IsTrue (is_directory (inode_at t e.0.0))) (λ e. same_key i.0 e.0.0 ≡ false) t.names (λ e parent. by e (same_key i.0 e.0.0) refl parent) w.parents)
  where
    by : (e : Place × Key) (c : Bool) → same_key i.0 e.0.0 ≡ c → is_directory (inode_at t e.0.0) ≡ true → same_key i.0 e.0.0 ≡ false
    by e false is parent = is
    by e true is parent =
        let here : is_directory (inode_at t i.0) ≡ true = ap (λ (k : Key). is_directory (inode_at t k)) (same_key_is i.0 e.0.0 is) ∙ parent in
        let no_directory : is_directory (inode_at t i.0) ≡ false = ap is_directory (found_inode t.inodes i w.in_order.inodes b) ∙ kind in
        let both : true ≡ false = sym here ∙ no_directory in
        absurd (cc both)

pub contained_is : (t : Tree) → IsWholeTree t → (i : Key × Inode) → Has t.inodes i → listing t i.0 ≡ contained i.1.kind (listing t i.0)
contained_is t w i b = by i.1.kind refl
  where
    by : (kind : Kind) → i.1.kind ≡ kind → listing t i.0 ≡ contained kind (listing t i.0)
    by Reg e = no_listing t w i b (ap directory_kind e)
    by Dir e = refl
    by Lnk e = no_listing t w i b (ap directory_kind e)
