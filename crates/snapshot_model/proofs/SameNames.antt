-- Names of a tree by the listings of its directories.
use Rattle.std.proofs.Common.{◌≡◌, ℕ, ◌⊎◌, inl, inr, Bool, true, false, List, [], ◌∷◌, refl, sym, ap, ◌∙◌, subst, Some, None}
use Rattle.std.specs.Prelude.{IsTrue, if◌then◌else◌, cond}
use Rattle.std.specs.List.{AllByRecursion, filter_map, cons_option}
use Rattle.std.specs.Cmp.{tied_itself}
use Rattle.std.specs.Ordering.{is_lt, eq_by_cmp}
use Rattle.std.specs.declared.cmp.Ordering.{Ordering}
use Rattle.std.specs.declared.cmp.Ordering.TheVariants.{Less, Equal, Greater}
use Rattle.std.specs.FinMap.Entries.{is_sorted, below_all, find as value_at}
use Rattle.ivy_base.specs.declared.key.Key.{Key}
use Rattle.ivy_base.specs.declared.operation.Kind.{Kind}
use Rattle.ivy_base.specs.declared.operation.Kind.TheVariants.{Reg, Dir, Lnk}
use Rattle.ivy_base.specs.Naming.{IsFileName, key_cmp}
use Rattle.tree_model.specs.Tree.{Tree, Inode, Place, place_cmp, same_key, directory_kind, inode_at, is_directory, listing}
use Rattle.tree_model.proofs.Keys.{places_total, same_key_is, same_key_itself}
use Rattle.tree_model.proofs.Sound.{both_true}
use Rattle.log_model.specs.Spelling.{IsKey}
use Rattle.snapshot_model.specs.Blocks.{IsEntry}

-- the list has the element
abbrev pub Has : {A : Type 0} → List A → A → Type 0
Has [] x = ⊥
Has (y ∷ ys) x = (x ≡ y) ⊎ Has ys x

pub has_each : {A : Type 0} (P : A → Type 0) (xs : List A) (x : A) → AllByRecursion P xs → Has xs x → P x
has_each P [] x h b = absurd b
has_each P (y ∷ ys) x h (inl e) = subst P (sym e) h.0
has_each P (y ∷ ys) x h (inr b) = has_each P ys x h.1 b

abbrev Names : Type 0
Names = List (Place × Key)

abbrev listed : Names → Key → List (List ℕ × Key)
listed names d = filter_map (λ e. if same_key d e.0.0 then Some (e.0.1, e.1) else None) names

-- a name of the directory stands in its listing
pub has_listed : (names : Names) (d : Key) (n : List ℕ) (x : Key) → Has names ((d, n), x) → Has (listed names d) (n, x)
has_listed [] d n x h = h
has_listed (e ∷ names) d n x h = by (same_key d e.0.0) refl (has_listed names d n x) h
  where
    by : (b : Bool) → b ≡ same_key d e.0.0 → (Has names ((d, n), x) → Has (listed names d) (n, x)) → (((d, n), x) ≡ e) ⊎ Has names ((d, n), x)
        → Has (cons_option (if b then Some (e.0.1, e.1) else None) (listed names d)) (n, x)
    by true t more (inl q) = inl (ap (λ (p : Place × Key). (p.0.1, p.1)) q)
    by true t more (inr r) = inr (more r)
    by false t more (inl q) = let same = ap (λ (p : Place × Key). same_key d p.0.0) q in absurd (cc (t, same, same_key_itself d))
    by false t more (inr r) = more r

-- and the other way round
listed_has : (names : Names) (d : Key) (n : List ℕ) (x : Key) → Has (listed names d) (n, x) → Has names ((d, n), x)
listed_has [] d n x h = h
listed_has (e ∷ names) d n x h = by (same_key d e.0.0) refl (listed_has names d n x) h
  where
    by : (b : Bool) → b ≡ same_key d e.0.0 → (Has (listed names d) (n, x) → Has names ((d, n), x)) → Has (cons_option (if b then Some (e.0.1, e.1) else None) (listed names d)) (n, x)
        → (((d, n), x) ≡ e) ⊎ Has names ((d, n), x)
    by true t more (inl q) = inl (ap (λ (p : List ℕ × Key). ((d, p.0), p.1)) q ∙ ap (λ (k : Key). ((k, e.0.1), e.1)) (same_key_is d e.0.0 (sym t)))
    by true t more (inr r) = inr (more r)
    by false t more r = inr (more r)

-- what is listed has the bounds of names
pub listed_fit : (names : Names) (d : Key) → AllByRecursion (λ e. IsKey e.0.0 × IsFileName e.0.1 × IsKey e.1) names → AllByRecursion IsEntry (listed names d)
listed_fit [] d h = tt
listed_fit (e ∷ names) d h = by (same_key d e.0.0) (listed_fit names d h.1)
  where
    by : (b : Bool) → AllByRecursion IsEntry (listed names d) → AllByRecursion IsEntry (cons_option (if b then Some (e.0.1, e.1) else None) (listed names d))
    by true rest = ((h.0.1, h.0.2), rest)
    by false rest = rest

-- ---- directories

pub record IsDirectoryOf (inodes : List (Key × Inode)) (d : Key) : Type 0 where
  pub inode : Inode
  pub has : Has inodes (d, inode)
  pub kind : inode.kind ≡ Dir

is_dir : (kind : Kind) → directory_kind kind ≡ true → kind ≡ Dir
is_dir Reg h = cc
is_dir Dir h = refl
is_dir Lnk h = cc

pub directory_of : (inodes : List (Key × Inode)) (d : Key) → is_directory (value_at key_cmp d inodes) ≡ true → IsDirectoryOf inodes d
directory_of [] d h = cc
directory_of (e ∷ inodes) d h = by (eq_by_cmp key_cmp d e.0) refl (directory_of inodes d) h
  where
    by : (b : Bool) → b ≡ eq_by_cmp key_cmp d e.0 → (is_directory (value_at key_cmp d inodes) ≡ true → IsDirectoryOf inodes d) → is_directory (cond b (Some e.1) (value_at key_cmp d inodes)) ≡ true → IsDirectoryOf (e ∷ inodes) d
    by true t more g = record { inode = e.1; has = inl (ap (λ (k : Key). (k, e.1)) (same_key_is d e.0 (sym t))); kind = is_dir e.1.kind g }
    by false t more g = let rest = more g in record { inode = rest.inode; has = inr rest.has; kind = rest.kind }

-- the entries where it is a directory
abbrev pub shown : Kind → List (List ℕ × Key) → List (List ℕ × Key)
shown Dir es = es
shown Reg es = []
shown Lnk es = []

-- where the directories of one tree show the same in the other one, its names are names there
pub names_there : (t u : Tree) → AllByRecursion (λ e. IsTrue (is_directory (inode_at t e.0.0))) t.names
    → AllByRecursion (λ i. shown i.1.kind (listing t i.0) ≡ shown i.1.kind (listing u i.0)) t.inodes → (e : Place × Key) → Has t.names e → Has u.names e
names_there t u parents same e h =
    let parent = has_each (λ (e : Place × Key). IsTrue (is_directory (inode_at t e.0.0))) t.names e parents h in
    let dir = directory_of t.inodes e.0.0 parent in
    let lists = has_each (λ (i : Key × Inode). shown i.1.kind (listing t i.0) ≡ shown i.1.kind (listing u i.0)) t.inodes (e.0.0, dir.inode) same dir.has in
    let of_directory : listed t.names e.0.0 ≡ listed u.names e.0.0 = subst (λ (k : Kind). shown k (listing t e.0.0) ≡ shown k (listing u e.0.0)) dir.kind lists in
    listed_has u.names e.0.0 e.0.1 e.1 (subst (λ es. Has es (e.0.1, e.1)) of_directory (has_listed t.names e.0.0 e.0.1 e.1 h))

-- ---- sorted lists

less : (o : Ordering) → is_lt o ≡ true → o ≡ Less
less Less h = refl
less Equal h = cc
less Greater h = cc

below_has : (p : Place) (es : Names) (e : Place × Key) → below_all place_cmp p es ≡ true → Has es e → place_cmp p e.0 ≡ Less
below_has p [] e h b = absurd b
below_has p (f ∷ es) e h (inl q) = subst (λ (c : Place × Key). place_cmp p c.0 ≡ Less) (sym q) (less (place_cmp p f.0) (both_true (is_lt (place_cmp p f.0)) (below_all place_cmp p es) h).0)
below_has p (f ∷ es) e h (inr b) = below_has p es e (both_true (is_lt (place_cmp p f.0)) (below_all place_cmp p es) h).1 b

never : (p : Place) → place_cmp p p ≡ Less → ⊥
never p h = let tied = tied_itself places_total p in absurd (cc (h, tied))

-- two sorted lists with the same elements are one
pub sorted_same : (xs ys : Names) → is_sorted place_cmp xs ≡ true → is_sorted place_cmp ys ≡ true → ((e : Place × Key) → Has xs e → Has ys e) → ((e : Place × Key) → Has ys e → Has xs e) → xs ≡ ys
sorted_same [] [] s t f g = refl
sorted_same [] (y ∷ ys) s t f g = absurd (g y (inl refl))
sorted_same (x ∷ xs) [] s t f g = absurd (f x (inl refl))
sorted_same (x ∷ xs) (y ∷ ys) s t f g =
    let first = heads (f x (inl refl)) (g y (inl refl)) in
    let rest = sorted_same xs ys after_x.1 after_y.1 (λ e h. in_rest e h (f e (inr h)) first) (λ e h. in_other e h (g e (inr h)) first) in
    rw (first, rest) refl
  where
    after_x : (below_all place_cmp x.0 xs ≡ true) × (is_sorted place_cmp xs ≡ true)
    after_x = both_true (below_all place_cmp x.0 xs) (is_sorted place_cmp xs) s

    after_y : (below_all place_cmp y.0 ys ≡ true) × (is_sorted place_cmp ys ≡ true)
    after_y = both_true (below_all place_cmp y.0 ys) (is_sorted place_cmp ys) t

    heads : (x ≡ y) ⊎ Has ys x → (y ≡ x) ⊎ Has xs y → x ≡ y
    heads (inl q) b = q
    heads (inr a) (inl q) = sym q
    heads (inr a) (inr b) = absurd (never x.0 (places_total.trans x.0 y.0 x.0 (below_has x.0 xs y after_x.0 b) (below_has y.0 ys x after_y.0 a)))

    in_rest : (e : Place × Key) → Has xs e → (e ≡ y) ⊎ Has ys e → x ≡ y → Has ys e
    in_rest e h (inl q) first = absurd (never x.0 (subst (λ (c : Place × Key). place_cmp x.0 c.0 ≡ Less) (q ∙ sym first) (below_has x.0 xs e after_x.0 h)))
    in_rest e h (inr r) first = r

    in_other : (e : Place × Key) → Has ys e → (e ≡ x) ⊎ Has xs e → x ≡ y → Has xs e
    in_other e h (inl q) first = absurd (never y.0 (subst (λ (c : Place × Key). place_cmp y.0 c.0 ≡ Less) (q ∙ first) (below_has y.0 ys e after_y.0 h)))
    in_other e h (inr r) first = r
