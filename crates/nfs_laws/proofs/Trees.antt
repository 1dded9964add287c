-- The names of a tree that records make are keys, and its links are short.
use Rattle.std.proofs.Common.{◌≡◌, ℕ, ◌-◌, ◌≤◌, Bool, true, false, cond, not, ◌&&◌, List, [], ◌∷◌, length, take, replicate, filter_map, Option, Some, None, refl, sym, ap, ◌∙◌, subst, arith, length-append, length-take}
use Rattle.std.specs.Prelude.{is_some, option_map, unwrap_or, find, IfSome}
use Rattle.std.specs.List.{AllByRecursion, cons_option}
use Rattle.std.specs.declared.cmp.Ordering.{Ordering}
use Rattle.std.specs.declared.cmp.Ordering.TheVariants.{Less, Equal, Greater}
use Rattle.std.specs.Ordering.{eq_by_cmp}
use Rattle.std.specs.FinMap.Entries.{find as value_at, put, where_key, by_order}
use Rattle.std.proofs.lemmas.List.{length-replicate}
use Rattle.ivy_base.specs.declared.key.Key.{Key}
use Rattle.ivy_base.specs.declared.operation.Kind.{Kind}
use Rattle.ivy_base.specs.declared.operation.Kind.TheVariants.{Reg, Dir, Lnk}
use Rattle.ivy_base.specs.declared.operation.Moment.{Moment}
use Rattle.ivy_base.specs.declared.operation.Change.{Change}
use Rattle.ivy_base.specs.declared.operation.Op.{Op}
use Rattle.ivy_base.specs.declared.operation.Op.TheVariants as op
use Rattle.ivy_base.specs.Naming.{root_number, IsFileName}
use Rattle.tree_model.specs.Tree.{Tree, Inode, Place, place_cmp, inode_at, entry, parent_in, same_key, is_file, file_kind}
use Rattle.tree_model.specs.Apply.{apply, apply_all, empty_tree, with_inode, changed_inode, at_inode, touched, move, set_attributes, with_name, without_name, resized, may_link, may_rename}
use Rattle.tree_model.proofs.Names.{inode_at-with_inode, names-touched, names-changed_inode}
use Rattle.tree_model.proofs.Sound.{not_false}
use Rattle.log_model.specs.Spelling.{IsKey, IsTarget, OperationFits}
use Rattle.nfs_laws.specs.Lengths.{LinksAreShort, RecordsMakeNames, RecordsMakeShortLinks}

-- ---- names

-- what holds of each place and of each number that a place leads to, since it holds of those of the operations
module _ (P : Place → Type 0) (N : Key → Type 0) where
  abbrev AreNamed : List (Place × Key) → Type 0
  AreNamed names = AllByRecursion (λ e. P e.0 × N e.1) names

  named_by_order : (r : Ordering) (less equal greater : List (Place × Key)) → AreNamed less → AreNamed equal → AreNamed greater → AreNamed (by_order r less equal greater)
  named_by_order Less less equal greater a b c = a
  named_by_order Equal less equal greater a b c = b
  named_by_order Greater less equal greater a b c = c

  named_put : (p : Place) (number : Key) (names : List (Place × Key)) → P p → N number → AreNamed names → AreNamed (put place_cmp p number names)
  named_put p number [] place key named = ((place, key), tt)
  named_put p number (e ∷ es) place key named =
      named_by_order (place_cmp p e.0) _ _ _ ((place, key), named) ((named.0.0, key), named.1) (named.0, named_put p number es place key named.1)

  named_where : (test : Place → Bool) (names : List (Place × Key)) → AreNamed names → AreNamed (where_key place_cmp test names)
  named_where test [] named = tt
  named_where test (e ∷ es) named = by (test e.0) (named_where test es named.1)
    where
      by : (b : Bool) → AreNamed (where_key place_cmp test es) → AreNamed (cond b (e ∷ where_key place_cmp test es) (where_key place_cmp test es))
      by true again = (named.0, again)
      by false again = again

  -- what a name leads to
  leads_to : (names : List (Place × Key)) (p : Place) → AreNamed names → IfSome (value_at place_cmp p names) N
  leads_to [] p named = tt
  leads_to (e ∷ es) p named = by (eq_by_cmp place_cmp p e.0) (leads_to es p named.1)
    where
      by : (b : Bool) → IfSome (value_at place_cmp p es) N → IfSome (cond b (Some e.1) (value_at place_cmp p es)) N
      by true again = named.0.1
      by false again = again

  either : (b : Bool) (x y : Tree) → AreNamed x.names → AreNamed y.names → AreNamed (cond b x y).names
  either true x y h g = h
  either false x y h g = g

  named_touched : (now : Moment) (dir : Key) (t : Tree) → AreNamed t.names → AreNamed (touched now dir t).names
  named_touched now dir t named = subst (λ (names : List (Place × Key)). AreNamed names) (sym (names-touched now dir t)) named

  named_at_inode : (t : Tree) (number : Key) (f : Inode → Inode) → AreNamed t.names → AreNamed (at_inode t number f).names
  named_at_inode t number f named = subst (λ (names : List (Place × Key)). AreNamed names) (sym (names-changed_inode t number (inode_at t number) f)) named

  named_move : (t : Tree) (now : Moment) (dir : Key) (name : List ℕ) (to_dir : Key) (to_name : List ℕ) (o : Option Key) → AreNamed t.names → P (to_dir, to_name) → IfSome o N
      → AreNamed (move t now dir name to_dir to_name o).names
  named_move t now dir name to_dir to_name None named to moved = named
  named_move t now dir name to_dir to_name (Some number) named to moved =
      let left : Tree = without_name t dir name in
      let put_there = named_put (to_dir, to_name) number left.names to moved (named_where (λ p. not (eq_by_cmp place_cmp p (dir, name))) t.names named) in
      either (may_rename t number to_dir to_name) _ t (named_touched now to_dir _ (named_touched now dir (with_name left to_dir to_name number) put_there)) named

  module _ (place : (dir : Key) (name : List ℕ) → IsKey dir → IsFileName name → P (dir, name)) (target : (number : Key) → IsKey number → N number) where
    named_apply : (t : Tree) (now : Moment) (o : Op) → AreNamed t.names → OperationFits o → AreNamed (apply t now o).names
    named_apply t now (op.Inode number kind mode uid gid text) named fits = either (is_some (inode_at t number)) t _ named named
    named_apply t now (op.Write number offset bytes) named fits = either _ _ t (named_at_inode t number _ named) named
    named_apply t now (op.Link dir name number) named fits =
        let put_there = named_put (dir, name) number t.names (place dir name fits.0 fits.1) (target number fits.2) named in
        either (may_link t dir name number) _ t (named_touched now dir (with_name t dir name number) put_there) named
    named_apply t now (op.Unlink dir name) named fits =
        either _ _ t (named_touched now dir (without_name t dir name) (named_where (λ p. not (eq_by_cmp place_cmp p (dir, name))) t.names named)) named
    named_apply t now (op.Rename dir name to_dir to_name) named fits =
        named_move t now dir name to_dir to_name (entry t dir name) named (place to_dir to_name fits.2 fits.3) (leads_to t.names (dir, name) named)
    named_apply t now (op.Prepare dir name verifier) named fits = named
    named_apply t now (op.Cancel seq) named fits = named
    named_apply t now (op.SetAttrs number change) named fits = either _ t _ named (named_at_inode t number _ named)
    named_apply t now op.End named fits = named

    pub named_apply_all : (t : Tree) (ops : List (Moment × Op)) → AreNamed t.names → AllByRecursion (λ o. OperationFits o.1) ops → AreNamed (apply_all t ops).names
    named_apply_all t [] named fit = named
    named_apply_all t (o ∷ ops) named fit = named_apply_all (apply t o.0 o.1) ops (named_apply t o.0 o.1 named fit.0) fit.1

abbrev AreKeys : List (Place × Key) → Type 0
AreKeys names = AllByRecursion (λ e. IsKey e.0.0 × IsKey e.1) names

-- what a name leads to
pub key_at : (names : List (Place × Key)) (p : Place) → AreKeys names → IfSome (value_at place_cmp p names) IsKey
key_at names p keys = leads_to (λ q. IsKey q.0) IsKey names p keys

-- what is above
pub key_above : (names : List (Place × Key)) (dir : Key) → AreKeys names → IfSome (parent_in names dir) IsKey
key_above [] dir keys = tt
key_above (e ∷ es) dir keys = by (same_key dir e.1) (key_above es dir keys.1)
  where
    by : (b : Bool) → IfSome (parent_in es dir) IsKey → IfSome (option_map (λ (x : Place × Key). x.0.0) (cond b (Some e) (find (λ (x : Place × Key). same_key dir x.1) es))) IsKey
    by true again = keys.0.0
    by false again = again

-- what a directory contains
pub keys_in : (names : List (Place × Key)) (dir : Key) → AreKeys names → AllByRecursion (λ (e : List ℕ × Key). IsKey e.1) (filter_map (λ (e : Place × Key). cond (same_key dir e.0.0) (Some (e.0.1, e.1)) None) names)
keys_in [] dir keys = tt
keys_in (e ∷ es) dir keys = by (same_key dir e.0.0) (keys_in es dir keys.1)
  where
    rest : List (List ℕ × Key)
    rest = filter_map (λ (x : Place × Key). cond (same_key dir x.0.0) (Some (x.0.1, x.1)) None) es

    by : (b : Bool) → AllByRecursion (λ (x : List ℕ × Key). IsKey x.1) rest → AllByRecursion (λ (x : List ℕ × Key). IsKey x.1) (cons_option (cond b (Some (e.0.1, e.1)) None) rest)
    by true again = (keys.0.1, again)
    by false again = again

pub records_make_names : RecordsMakeNames
records_make_names ops fit = named_apply_all (λ p. IsKey p.0) IsKey (λ dir name key file. key) (λ number key. key) empty_tree ops tt fit

-- ---- inodes

-- what holds of each inode, since it holds of those that are put
module _ (P : Inode → Type 0) where
  abbrev InodesAre : Tree → Type 0
  InodesAre t = (number : Key) (i : Inode) → inode_at t number ≡ Some i → P i

  pub inodes_if : (b : Bool) (x y : Tree) → (b ≡ true → InodesAre x) → (b ≡ false → InodesAre y) → InodesAre (cond b x y)
  inodes_if true x y h g = h refl
  inodes_if false x y h g = g refl

  pub inodes_with : (t : Tree) (number : Key) (i : Inode) → InodesAre t → P i → InodesAre (with_inode t number i)
  inodes_with t number i all fits k j at = by (same_key k number) (sym (inode_at-with_inode t number i k) ∙ at)
    where
      by : (b : Bool) → cond b (Some i) (inode_at t k) ≡ Some j → P j
      by true e = let same : i ≡ j = cc in subst (λ (x : Inode). P x) same fits
      by false e = all k j e

  inodes_changed : (t : Tree) (number : Key) (o : Option Inode) (f : Inode → Inode) → inode_at t number ≡ o → InodesAre t
      → ((i : Inode) → o ≡ Some i → P i → P (f i)) → InodesAre (changed_inode t number o f)
  inodes_changed t number None f e all keeps = all
  inodes_changed t number (Some i) f e all keeps = inodes_with t number (f i) all (keeps i refl (all number i e))

  pub inodes_at : (t : Tree) (number : Key) (f : Inode → Inode) → InodesAre t
      → ((i : Inode) → inode_at t number ≡ Some i → P i → P (f i)) → InodesAre (at_inode t number f)
  inodes_at t number f all keeps = inodes_changed t number (inode_at t number) f refl all keeps

  -- the root alone
  pub inodes_root : (i j : Inode) (b : Bool) → P i → cond b (Some i) None ≡ Some j → P j
  inodes_root i j true root e = let same : i ≡ j = cc in subst (λ (x : Inode). P x) same root
  inodes_root i j false root e = cc

-- ---- links

abbrev IsShortLink : Inode → Type 0
IsShortLink i = i.kind ≡ Lnk → length i.body ≤ 1024

short_if : (b : Bool) (x y : Tree) → (b ≡ true → LinksAreShort x) → (b ≡ false → LinksAreShort y) → LinksAreShort (cond b x y)
short_if = inodes_if IsShortLink

short_with_inode : (t : Tree) (number : Key) (i : Inode) → LinksAreShort t → IsShortLink i → LinksAreShort (with_inode t number i)
short_with_inode = inodes_with IsShortLink

short_at_inode : (t : Tree) (number : Key) (f : Inode → Inode) → LinksAreShort t
    → ((i : Inode) → inode_at t number ≡ Some i → IsShortLink i → IsShortLink (f i)) → LinksAreShort (at_inode t number f)
short_at_inode = inodes_at IsShortLink

-- only the times are others
short_touched : (now : Moment) (dir : Key) (t : Tree) → LinksAreShort t → LinksAreShort (touched now dir t)
short_touched now dir t short = short_at_inode t dir _ short (λ i at h. h)

-- names don't matter
short_named : (t : Tree) (names : List (Place × Key)) → LinksAreShort t → LinksAreShort (record t { names = names })
short_named t names short = short

-- a file is no link
file_is_no_link : (o : Option Inode) (i : Inode) → is_file o ≡ true → o ≡ Some i → i.kind ≡ Lnk → ⊥
file_is_no_link o i file at link = let f : file_kind i.kind ≡ true = subst (λ (m : Option Inode). is_file m ≡ true) at file in let g = ap file_kind link in cc

short_file : (t : Tree) (number : Key) (f : Inode → Inode) → LinksAreShort t → is_file (inode_at t number) ≡ true → ((i : Inode) → (f i).kind ≡ i.kind) → LinksAreShort (at_inode t number f)
short_file t number f short file same = short_at_inode t number f short (λ i at h link. absurd (file_is_no_link (inode_at t number) i file at (sym (same i) ∙ link)))

unsized : (bytes : List ℕ) → length (resized (length bytes) bytes) ≤ length bytes
unsized bytes = omega (arith, length-append (take (length bytes) bytes) (replicate (length bytes - length bytes) 0), length-take (length bytes) bytes, length-replicate {A = ℕ} (length bytes - length bytes) 0)

-- attributes without a size leave the text
short_attributes : (t : Tree) (now : Moment) (number : Key) (change : Change) (size : Option ℕ) → change.size ≡ size → LinksAreShort t
    → (is_some size && not (is_file (inode_at t number))) ≡ false → LinksAreShort (at_inode t number (set_attributes now change))
short_attributes t now number change None e short free = short_at_inode t number (set_attributes now change) short (λ i at h link.
    let text = h link in
    let same : length (resized (unwrap_or change.size (length i.body)) i.body) ≤ length i.body = rw e (unsized i.body) in
    omega (arith, text, same))
short_attributes t now number change (Some n) e short free =
    short_file t number (set_attributes now change) short (not_false (is_file (inode_at t number)) free) (λ i. refl)

short_target : (kind : Kind) (target : List ℕ) → IsTarget kind target → kind ≡ Lnk → length target ≤ 1024
short_target Reg target fits e = cc
short_target Dir target fits e = cc
short_target Lnk target fits e = fits.1

short_move : (t : Tree) (now : Moment) (dir : Key) (name : List ℕ) (to_dir : Key) (to_name : List ℕ) (o : Option Key) → LinksAreShort t → LinksAreShort (move t now dir name to_dir to_name o)
short_move t now dir name to_dir to_name None short = short
short_move t now dir name to_dir to_name (Some moved) short =
    short_if (may_rename t moved to_dir to_name) _ t (λ may. short_touched now to_dir _ (short_touched now dir (with_name (without_name t dir name) to_dir to_name moved) short)) (λ no. short)

short_apply : (t : Tree) (now : Moment) (o : Op) → LinksAreShort t → OperationFits o → LinksAreShort (apply t now o)
short_apply t now (op.Inode number kind mode uid gid target) short fits = short_if (is_some (inode_at t number)) t _ (λ there. short) (λ free. short_with_inode t number _ short (short_target kind target fits.4))
short_apply t now (op.Write number offset bytes) short fits = short_if (is_file (inode_at t number)) _ t (λ file. short_file t number _ short file (λ i. refl)) (λ none. short)
short_apply t now (op.Link dir name number) short fits = short_if (may_link t dir name number) _ t (λ may. short_touched now dir (with_name t dir name number) short) (λ no. short)
short_apply t now (op.Unlink dir name) short fits = short_if _ _ t (λ may. short_touched now dir (without_name t dir name) short) (λ no. short)
short_apply t now (op.Rename dir name to_dir to_name) short fits = short_move t now dir name to_dir to_name (entry t dir name) short
short_apply t now (op.Prepare dir name verifier) short fits = short
short_apply t now (op.Cancel seq) short fits = short
short_apply t now (op.SetAttrs number change) short fits = short_if (is_some change.size && not (is_file (inode_at t number))) t _ (λ wrong. short) (λ free. short_attributes t now number change change.size refl short free)
short_apply t now op.End short fits = short

pub short_apply_all : (t : Tree) (ops : List (Moment × Op)) → LinksAreShort t → AllByRecursion (λ o. OperationFits o.1) ops → LinksAreShort (apply_all t ops)
short_apply_all t [] short fit = short
short_apply_all t (o ∷ ops) short fit = short_apply_all (apply t o.0 o.1) ops (short_apply t o.0 o.1 short fit.0) fit.1

-- the root is no link
pub short_at_first : LinksAreShort empty_tree
short_at_first number i at = inodes_root IsShortLink _ i (same_key number root_number) (λ link. cc) at

pub records_make_short_links : RecordsMakeShortLinks
records_make_short_links ops fit = short_apply_all empty_tree ops short_at_first fit
