-- What blocks that were read come to.
use Rattle.std.proofs.Common.{◌≡◌, ℕ, true, false, List, [], ◌∷◌, map, Option, Some, None, Result, Ok, Err, refl, sym, ap, ◌∙◌, subst, arith, append-nil}
use Rattle.std.specs.Prelude.{IfOk, IfSome}
use Rattle.ivy_base.specs.declared.key.Key.{Key}
use Rattle.tree_model.specs.Tree.{Tree}
use Rattle.tree_model.specs.Sound.{IsSound}
use Rattle.log_model.specs.Rank.{Rank}
use Rattle.log_model.specs.Spelling.{IsKey}
use Rattle.turn_model.specs.Basis.{Basis}
use Rattle.snapshot_model.specs.Blocks.{RootBlock, IsRankSpelled, IsRootBlock, IsVectorSpelled, Says, root_block}
use Rattle.snapshot_model.specs.Reading.{SnapshotPart, Root, AnInode, AreOf, HasBounds, IsBasisSpelled, IsWholeTree, top_of}
use Rattle.snapshot_model.proofs.OneBlock.{one_root}
use Rattle.snapshot_model.proofs.OneNames.{one_said}
use Rattle.snapshot_model.proofs.SameNames.{listed_fit}
use Rattle.snapshot_loading.specs.declared.load.Read.{Read}
use Rattle.snapshot_loading.specs.Roles.{part_of}
use Rattle.snapshot_loading.specs.Loading.{bytes_of}
use Rattle.snapshot_loading.proofs.PiecesInOrder.{listed_ascend}
use Rattle.snapshot_loading.specs.Forests.{Forest, nothing, block, flat, named_in, Fits, below_by}
use Rattle.snapshot_loading.specs.Wholes.{ShowsBasis}
use Rattle.snapshot_loading.specs.WholeLaws.{blocks_read}
use Rattle.snapshot_loading.proofs.ShownInodes.{items_are}
use Rattle.snapshot_loading.proofs.OneForest.{read_is_forest}
use Rattle.snapshot_loading.proofs.Canon.{loaded_is_shown}
use Rattle.snapshot_loading.proofs.OneBasis.{snapshot_is_unique}
use Rattle.snapshot_loading.proofs.SoundTrees.{whole_trees_are_sound}
use Rattle.snapshot_loading.specs.declared.parts.InodeParts.{InodeParts}
use Rattle.snapshot_loading.specs.Parts.{IsTreeOf, tree_of}
use Rattle.snapshot_loading.specs.Picks.{Blocks, inodes_in}
use Rattle.snapshot_loading.specs.Evenness.{is_even}
use Rattle.snapshot_loading.specs.Inodes.{AreInodes, items_in}
use Rattle.snapshot_loading.specs.Ends.{AreOfBasis, IsBasis}
use Rattle.snapshot_loading.specs.Answers.{AreReadFrom, IsABasis, item_of}
use Rattle.snapshot_loading.proofs.Layers.{inodes_are}
use Rattle.snapshot_loading.proofs.Sizes.{told_even, even_told}
use Rattle.snapshot_loading.proofs.Stretches.{inodes_stretch}
use Rattle.snapshot_loading.proofs.Told.{all_told, all_shown, one_list}
use Rattle.snapshot_loading.proofs.Trees.{all_have}
use Rattle.snapshot_loading.proofs.Bounds.{IsBounded, all_bounded, as_many, bottom_few, few_listed, names_bounded}
use Rattle.snapshot_loading.proofs.Built.{built_has, one_tree}

-- ---- no tree

-- the tree can't be built, so there is no such basis
pub no_tree : (bytes : List ℕ) (blocks : Blocks) (ps : List InodeParts) → AreInodes (inodes_in blocks) (map item_of ps) → (IsSound (tree_of ps) → ⊥) → (b : Basis) → IsBasis bytes blocks b → ⊥
no_tree bytes blocks ps are unsound b h =
    let tree = one_tree b.tree ((whole_trees_are_sound b.tree).1 h.sound) ps (one_list (inodes_in blocks) (map item_of ps) (items_in b.tree) are h.inodes) in
    unsound (subst IsSound tree h.sound)

-- ---- shown and told

module _ (bytes : List ℕ) (below : Forest) (fits : Fits (block Root bytes below nothing)) where
  named_by_said : (said : RootBlock) → fits.0.0 ≡ said → named_in below ≡ top_of AnInode said.inodes.level said.inodes.top
  named_by_said said one = fits.0.2 ∙ ap (λ (r : RootBlock). top_of AnInode r.inodes.level r.inodes.top) one

  pub basis_told : (b : Basis) → IsWholeTree b.tree → IsBasisSpelled b → ShowsBasis bytes below b → IsBasis bytes (flat below) b
  basis_told b whole spelled s =
      let level = s.said.inodes.level in
      let top = s.said.inodes.top in
      let named = named_by_said s.said (one_said one_root fits.0.1 s.says) in
      let are = items_are AnInode level top below named fits.1 in
      record {
        said = s.said;
        says = s.says;
        front = s.front;
        tide = s.tide;
        even = even_told true AnInode inodes_are level top below named fits.1 s.even;
        inodes = subst (λ (l : List (List ℕ × Blocks)). AreInodes l (items_in b.tree)) (sym (inodes_stretch level top below named fits.1))
            (all_told b.tree (below_by level below) b.tree.inodes are.0 are.1 (λ d. listed_fit b.tree.names d spelled.names) (λ d. listed_ascend b.tree.names d whole.in_order.names) s.inodes);
        sound = (whole_trees_are_sound b.tree).0 whole;
      }

  pub basis_shown : (b : Basis) → IsBasis bytes (flat below) b → IsBasisSpelled b × ShowsBasis bytes below b
  basis_shown b h =
      let level = h.said.inodes.level in
      let top = h.said.inodes.top in
      let named = named_by_said h.said (one_said one_root fits.0.1 h.says) in
      let are = items_are AnInode level top below named fits.1 in
      let whole = (whole_trees_are_sound b.tree).1 h.sound in
      let inodes = subst (λ (l : List (List ℕ × Blocks)). AreInodes l (items_in b.tree)) (inodes_stretch level top below named fits.1) h.inodes in
      let bounded = all_bounded b.tree (below_by level below) b.tree.inodes are.0 are.1 inodes in (
        record {
          front = subst IsVectorSpelled h.front h.says.fits.front;
          tide = subst (λ (t : Option Rank). IfSome t IsRankSpelled) h.tide h.says.fits.tide;
          inodes = all_have (IsBounded b.tree) (λ i. IsKey i.0 × HasBounds i.1) b.tree.inodes (λ i g. (g.key, g.bounds)) bounded;
          names = names_bounded b.tree whole bounded;
          few = omega (arith, as_many b.tree (below_by level below) b.tree.inodes inodes, bottom_few true AnInode inodes_are level top below h.says.fits.inodes.few named fits.1);
          few_names = few_listed b.tree whole bounded;
        },
        record {
          said = h.said;
          says = h.says;
          front = h.front;
          tide = h.tide;
          even = told_even true AnInode inodes_are level top below named fits.1 h.even;
          inodes = all_shown b.tree (below_by level below) b.tree.inodes are.0 are.1 inodes;
        },
      )

  pub are_of : (basis : Option Basis) → IsABasis bytes (flat below) basis → AreOfBasis (map (λ p. p.1) (flat (block Root bytes below nothing))) basis
  are_of (Some b) h =
      let s = basis_shown b h in
      let its : AreOf (map (λ p. p.1) (flat (block Root bytes below nothing))) b = (loaded_is_shown bytes below b fits).1 ((whole_trees_are_sound b.tree).1 h.sound, s.0, s.1) in
      (its, λ c are. snapshot_is_unique (map (λ p. p.1) (flat (block Root bytes below nothing))) b c its are)
  are_of None h = λ b are. let g = (loaded_is_shown bytes below b fits).0 are in h b (basis_told b g.0 g.1 g.2)

-- ---- what was read

bytes_read : (read : List Read) → map (λ p. p.1) (blocks_read read) ≡ bytes_of read
bytes_read [] = refl
bytes_read (r ∷ read) = ap (λ (l : List (List ℕ)). r.bytes ∷ l) (bytes_read read)

pub read_is_of : (root : Key) (first : Read) (rest : List Read) (basis : Option Basis) → AreReadFrom (first ∷ rest) root → IsABasis first.bytes (blocks_read rest) basis → AreOfBasis (bytes_of (first ∷ rest)) basis
read_is_of root first rest basis h is =
    let w = read_is_forest root (first ∷ rest) h in
    let head : ◌≡◌ {A = SnapshotPart × List ℕ} (Root, w.bytes) (part_of first.role, first.bytes) = by_first w.order in
    let tail : flat w.below ≡ blocks_read rest = sym (append-nil (flat w.below)) ∙ by_rest w.order in
    let bytes : first.bytes ≡ w.bytes = sym (ap (λ (p : SnapshotPart × List ℕ). p.1) head) in
    let same : map (λ p. p.1) (flat (block Root w.bytes w.below nothing)) ≡ bytes_of (first ∷ rest) = ap (λ (bs : Blocks). map (λ p. p.1) bs) w.order ∙ bytes_read (first ∷ rest) in
    subst (λ (bs : List (List ℕ)). AreOfBasis bs basis) same
    (are_of w.bytes w.below w.fits basis (subst (λ (x : List ℕ). IsABasis x (flat w.below) basis) bytes (subst (λ (bs : Blocks). IsABasis first.bytes bs basis) (sym tail) is)))
  where
    by_first : {a b : SnapshotPart × List ℕ} {xs ys : Blocks} → a ∷ xs ≡ b ∷ ys → a ≡ b
    by_first e = cc

    by_rest : {a b : SnapshotPart × List ℕ} {xs ys : Blocks} → a ∷ xs ≡ b ∷ ys → xs ≡ ys
    by_rest e = cc

-- ---- and what wasn't told

module _ (bytes : List ℕ) (blocks : Blocks) (said : RootBlock) (says : Says IsRootBlock root_block bytes said) (b : Basis) (h : IsBasis bytes blocks b) where
  pub not_even : is_even true said.inodes.level blocks ≡ false → ⊥
  not_even none =
      let found : is_even true said.inodes.level blocks ≡ true = subst (λ (r : RootBlock). is_even true r.inodes.level blocks ≡ true) (one_said one_root h.says says) h.even in
      let both : true ≡ false = sym found ∙ none in
      cc both

pub told : (bytes : List ℕ) (blocks : Blocks) (said : RootBlock) (b : Basis) (ps : List InodeParts) → Says IsRootBlock root_block bytes said → is_even true said.inodes.level blocks ≡ true → AreInodes (inodes_in blocks) (map item_of ps)
    → said.front ≡ b.front → said.tide ≡ b.tide → IsTreeOf (tree_of ps) (Some b.tree) → IsBasis bytes blocks b
told bytes blocks said b ps says even are front tide is = record {
  said = said;
  says = says;
  front = front;
  tide = tide;
  even = even;
  inodes = subst (λ (t : Tree). AreInodes (inodes_in blocks) (items_in t)) (sym is.0) (built_has (inodes_in blocks) ps is.1 are);
  sound = subst IsSound (sym is.0) is.1;
}

-- ---- as functions answer

pub if_ok : {A E : Type 0} (P Q : A → Type 0) (r : Result A E) → ((x : A) → P x → Q x) → IfOk r P → IfOk r Q
if_ok P Q (Ok x) f h = f x h
if_ok P Q (Err e) f h = tt

pub whole_is_of : (read : List Read) (first : Read) (rest : List Read) (bytes : List ℕ) (basis : Option Basis) → read ≡ first ∷ rest → bytes ≡ first.bytes → (root : Key) × AreReadFrom read root → IsABasis bytes (blocks_read rest) basis
    → AreOfBasis (bytes_of read) basis
whole_is_of read first rest bytes basis e same h is =
    subst (λ (l : List Read). AreOfBasis (bytes_of l) basis) (sym e)
    (read_is_of h.0 first rest basis (subst (λ (l : List Read). AreReadFrom l h.0) e h.1) (subst (λ (b : List ℕ). IsABasis b (blocks_read rest) basis) same is))
