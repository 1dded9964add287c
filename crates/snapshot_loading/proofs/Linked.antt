-- Names are given one by one.
use Rattle.std.proofs.Common.{◌≡◌, ℕ, Bool, true, false, cond, ◌&&◌, ◌||◌, List, [], ◌∷◌, ◌++◌, Option, Some, None, option_map, is_some, is_none, refl, sym, ap, ◌∙◌, subst, append_assoc, append-nil}
use Rattle.std.specs.FinMap.Entries.{find as value_at, is_sorted, find-append}
use Rattle.ivy_base.specs.declared.key.Key.{Key}
use Rattle.ivy_base.specs.declared.operation.Kind.{Kind}
use Rattle.ivy_base.specs.declared.operation.Op.TheVariants as op
use Rattle.ivy_base.specs.Naming.{root_number}
use Rattle.tree_model.specs.Tree.{Tree, Inode, Place, place_cmp, inode_at, entry, has_name, is_directory, is_inside, directory_kind, same_key}
use Rattle.tree_model.specs.Apply.{link, may_link, with_name, touched}
use Rattle.tree_model.specs.Sound.{IsSound, Names}
use Rattle.tree_model.proofs.Climb.{inside_by_test}
use Rattle.tree_model.proofs.Keys.{places_total, same_key_is, same_place_itself}
use Rattle.tree_model.proofs.Made.{entry-link}
use Rattle.tree_model.proofs.Parents.{some_name}
use Rattle.tree_model.proofs.Sound.{IsInside-fewer}
use Rattle.std.proofs.lemmas.List.{map-append}
use Rattle.std.proofs.lemmas.Grind.{flat_map-append}
use Rattle.dir_replay.specs.View.{names_in}
use Rattle.snapshot_loading.specs.declared.parts.InodeParts.{InodeParts}
use Rattle.snapshot_loading.specs.Parts.{names_of, tree_of}
use Rattle.snapshot_loading.specs.Steps.{IsMade, Links, beginning, kind_at, sort, sort_at}
use Rattle.snapshot_loading.proofs.Sorted.{absent_last, put_last, found_front, sorted_front}
use Rattle.snapshot_loading.proofs.Made.{made_more, sound_made, names_kept, sort_kept}

abbrev NameList : Type 0
NameList = List (Place × Key)

-- ---- a name may be given

directory_by_kind : (o p : Option Inode) → option_map (λ i. i.kind) o ≡ option_map (λ i. i.kind) p → is_directory p ≡ true → is_directory o ≡ true
directory_by_kind None None e h = cc
directory_by_kind None (Some j) e h = cc
directory_by_kind (Some i) None e h = cc
directory_by_kind (Some i) (Some j) e h = let same : i.kind ≡ j.kind = cc in ap directory_kind same ∙ h

some_by_kind : (o p : Option Inode) → option_map (λ i. i.kind) o ≡ option_map (λ i. i.kind) p → is_some p ≡ true → is_some o ≡ true
some_by_kind None None e h = cc
some_by_kind None (Some j) e h = cc
some_by_kind (Some i) p e h = refl

false_if : (b : Bool) → (b ≡ true → ⊥) → b ≡ false
false_if true h = absurd (h refl)
false_if false h = refl

not_both : (a b c : Bool) → (a ≡ true → b ≡ true → ⊥) → (a ≡ true → c ≡ true → ⊥) → (a && (b || c)) ≡ false
not_both false b c f g = refl
not_both true true c f g = absurd (f refl refl)
not_both true false true f g = absurd (g refl refl)
not_both true false false f g = refl

module _ (old : Tree) (made : IsMade old) (d : Key) (n : List ℕ) (x : Key) (order : is_sorted place_cmp (old.names ++ ((d, n), x) ∷ []) ≡ true) where
  free : entry old d n ≡ None
  free = absent_last place_cmp places_total (d, n) x old.names order

  module _ (t : Tree) (rest : NameList) (kinds : (k : Key) → kind_at old k ≡ kind_at t k) (begins : t.names ≡ (old.names ++ ((d, n), x) ∷ []) ++ rest) (sound : IsSound t) where
    known : (p : Place) (y : Key) → value_at place_cmp p old.names ≡ Some y → Names t p y
    known p y found =
        subst (λ (names : NameList). value_at place_cmp p names ≡ Some y) (sym begins) (found_front place_cmp p (old.names ++ ((d, n), x) ∷ []) rest y (found_front place_cmp p old.names (((d, n), x) ∷ []) y found))

    given : Names t (d, n) x
    given =
        subst (λ (names : NameList). value_at place_cmp (d, n) names ≡ Some x) (sym begins)
        (found_front place_cmp (d, n) (old.names ++ ((d, n), x) ∷ []) rest x
        (find-append place_cmp places_total old.names (d, n) x (d, n) free ∙ ap (λ (b : Bool). cond b (Some x) (value_at place_cmp (d, n) old.names)) (same_place_itself (d, n))))

    in_directory : is_directory (inode_at old d) ≡ true
    in_directory = directory_by_kind (inode_at old d) (inode_at t d) (kinds d) (sound.in_directories (d, n) x given)

    there : is_some (inode_at old x) ≡ true
    there = some_by_kind (inode_at old x) (inode_at t x) (kinds x) (sound.there (d, n) x given)

    no_root : same_key x root_number ≡ false
    no_root = false_if (same_key x root_number) (λ same. sound.root_unnamed (d, n) (subst (λ (k : Key). Names t (d, n) k) (same_key_is x root_number same) given))

    is_one : is_directory (inode_at old x) ≡ true → is_directory (inode_at t x) ≡ true
    is_one directory = directory_by_kind (inode_at t x) (inode_at old x) (sym (kinds x)) directory

    named_before : is_directory (inode_at old x) ≡ true → has_name old x ≡ true → ⊥
    named_before directory has =
        let w = some_name old (sound_made old made) x has in
        let same : w.0 ≡ (d, n) = sound.once w.0 (d, n) x (is_one directory) (known w.0 x w.1) given in
        let found : value_at place_cmp (d, n) old.names ≡ Some x = subst (λ (p : Place). value_at place_cmp p old.names ≡ Some x) same w.1 in
        let none = free in
        cc

    inside_before : is_directory (inode_at old x) ≡ true → is_inside old d x ≡ true → ⊥
    inside_before directory inside = sound.apart (d, n) x (is_one directory) given (IsInside-fewer known (inside_by_test old (sound_made old made) d x in_directory inside))

    pub may_be : may_link old d n x ≡ true
    may_be =
        let e_free : is_none (entry old d n) ≡ true = ap is_none free in
        let e_loop : (is_directory (inode_at old x) && (has_name old x || is_inside old d x)) ≡ false = not_both (is_directory (inode_at old x)) (has_name old x) (is_inside old d x) named_before inside_before in
        rw (in_directory, there, e_free, no_root, e_loop) refl

  by_may : (may : Bool) → may_link old d n x ≡ may → (new : Tree) → new ≡ link old beginning d n x → (b : Bool) → b ≡ is_some (entry new d n) → Links (((d, n), x) ∷ []) old new b
  by_may true may new is b answer =
      let given_is : new ≡ touched beginning d (with_name old d n x) = is ∙ ap (λ (m : Bool). cond m (touched beginning d (with_name old d n x)) old) may in
      let found : entry new d n ≡ Some x = ap (λ (u : Tree). entry u d n) is ∙ entry-link old beginning d n x may in
      let yes_b : b ≡ true = answer ∙ ap is_some found in
      subst (λ (c : Bool). Links (((d, n), x) ∷ []) old new c) (sym yes_b) (
        subst IsMade (sym is) (made_more old made beginning (op.Link d n x)),
        ap (λ (u : Tree). u.names) given_is ∙ names_kept (with_name old d n x) d _ ∙ put_last place_cmp places_total (d, n) x old.names order,
        λ k. ap (λ (u : Tree). sort_at u k) given_is ∙ sort_kept (with_name old d n x) d _ (λ i. refl) k,
      )
  by_may false may new is b answer =
      let given_is : new ≡ old = is ∙ ap (λ (m : Bool). cond m (touched beginning d (with_name old d n x)) old) may in
      let no_b : b ≡ false = answer ∙ ap (λ (u : Tree). is_some (entry u d n)) given_is ∙ ap is_some free in
      subst (λ (c : Bool). Links (((d, n), x) ∷ []) old new c) (sym no_b)
      (λ t rest kinds begins sound. let may_not = may in let must = may_be t rest kinds begins sound in cc)

  pub linked : (new : Tree) → new ≡ link old beginning d n x → (b : Bool) → b ≡ is_some (entry new d n) → Links (((d, n), x) ∷ []) old new b
  linked new is b answer = by_may (may_link old d n x) refl new is b answer

-- ---- many names

kinds_kept : (old new : Tree) → ((k : Key) → sort_at new k ≡ sort_at old k) → (k : Key) → kind_at new k ≡ kind_at old k
kinds_kept old new same k = by (inode_at new k) (inode_at old k) (same k)
  where
    by : (o p : Option Inode) → option_map sort o ≡ option_map sort p → option_map (λ i. i.kind) o ≡ option_map (λ i. i.kind) p
    by None None e = refl
    by None (Some j) e = cc
    by (Some i) None e = cc
    by (Some i) (Some j) e = let same_sort : sort i ≡ sort j = cc in ap (λ (s : Kind × List ℕ). Some s.0) same_sort

pub links_nothing : (t : Tree) → IsMade t → Links [] t t true
links_nothing t made = (made, sym (append-nil t.names), λ k. refl)

pub links_more : (some others : NameList) (old mid new : Tree) (b : Bool) → Links some old mid true → Links others mid new b → Links (some ++ others) old new b
links_more some others old mid new true first then =
    (then.0, then.1 ∙ ap (λ (l : NameList). l ++ others) first.1 ∙ append_assoc old.names some others, λ k. then.2 k ∙ first.2 k)
links_more some others old mid new false first then = λ t rest kinds begins sound.
    then t rest (λ k. kinds_kept old mid first.2 k ∙ kinds k)
    (begins ∙ ap (λ (l : NameList). l ++ rest) (sym (append_assoc old.names some others) ∙ ap (λ (l : NameList). l ++ others) (sym first.1))) sound

pub links_short : (some others : NameList) (old mid new : Tree) → Links some old mid false → Links (some ++ others) old new false
links_short some others old mid new first = λ t rest kinds begins sound.
    first t (others ++ rest) kinds (begins ∙ ap (λ (l : NameList). l ++ rest) (sym (append_assoc old.names some others)) ∙ append_assoc (old.names ++ some) others rest) sound

-- ---- the names of some entries, and of some parts

pub names_cut : (d : Key) (es : List (List ℕ × Key)) (done rest : List (List ℕ × Key)) (e : List ℕ × Key) → es ≡ (done ++ e ∷ []) ++ rest → names_in d es ≡ (names_in d done ++ ((d, e.0), e.1) ∷ []) ++ names_in d rest
names_cut d es done rest e is =
    let f : List ℕ × Key → Place × Key = λ x. ((d, x.0), x.1) in
    ap (λ (l : List (List ℕ × Key)). names_in d l) is ∙ map-append f (done ++ e ∷ []) rest ∙ ap (λ (l : NameList). l ++ names_in d rest) (map-append f done (e ∷ []))

pub parts_cut : (parts done rest : List InodeParts) (p : InodeParts) → parts ≡ (done ++ p ∷ []) ++ rest → (tree_of parts).names ≡ ((tree_of done).names ++ names_of p) ++ (tree_of rest).names
parts_cut parts done rest p is =
    ap (λ (l : List InodeParts). (tree_of l).names) is ∙ flat_map-append names_of (done ++ p ∷ []) rest
    ∙ ap (λ (l : NameList). l ++ (tree_of rest).names) (flat_map-append names_of done (p ∷ []) ∙ ap (λ (l : NameList). (tree_of done).names ++ l) (append-nil (names_of p)))

-- the names up to these are in order
pub order_part : (base done some rest all now : NameList) → all ≡ (done ++ some) ++ rest → is_sorted place_cmp (base ++ all) ≡ true → now ≡ base ++ done → is_sorted place_cmp (now ++ some) ≡ true
order_part base done some rest all now is sorted so_far =
    let here : base ++ all ≡ (now ++ some) ++ rest =
    ap (λ (l : NameList). base ++ l) is ∙ sym (append_assoc base (done ++ some) rest) ∙ ap (λ (l : NameList). l ++ rest) (sym (append_assoc base done some) ∙ ap (λ (l : NameList). l ++ some) (sym so_far)) in
    sorted_front place_cmp (now ++ some) rest (subst (λ (l : NameList). is_sorted place_cmp l ≡ true) here sorted)

-- one that couldn't be given stops all
pub stops_all : (done some rest all : NameList) (old mid new : Tree) → all ≡ (done ++ some) ++ rest → Links done old mid true → Links some mid new false → Links all old new false
stops_all done some rest all old mid new is so_far stops =
    subst (λ (l : NameList). Links l old new false) (sym is) (links_short (done ++ some) rest old new new (links_more done some old mid new false so_far stops))
