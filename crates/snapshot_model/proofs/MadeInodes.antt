-- Inodes by the names of their blocks.
use Rattle.std.proofs.Common.{◌≡◌, ℕ, ◌^◌, ◌<◌, ◌≤◌, List, [], ◌∷◌, length, refl, sym, ap, ◌∙◌, arith}
use Rattle.std.specs.List.{AllByRecursion}
use Rattle.ivy_base.specs.declared.key.Key.{Key}
use Rattle.ivy_base.specs.declared.operation.Kind.{Kind}
use Rattle.ivy_base.specs.declared.operation.Kind.TheVariants.{Reg, Dir, Lnk}
use Rattle.ivy_base.specs.Naming.{IsCollisionFree}
use Rattle.tree_model.specs.Tree.{Attributes, Inode, longest_file}
use Rattle.wire_model.proofs.OneReading.{whole}
use Rattle.log_model.specs.Spelling.{IsKey, IsTarget}
use Rattle.snapshot_model.specs.Blocks.{InodeBlock, entries_block, IsEntry, IsInodeBlock, IsListed, most_content_bytes, most_levels, most_entries}
use Rattle.snapshot_model.specs.Spelling.{Made, list_of, named_by, in_pieces, piece_made, entries_made, items_of, content_size, symbolic_link_text, inode_over}
use Rattle.snapshot_model.specs.Reading.{IsBodyOf, HasBounds}
use Rattle.snapshot_model.proofs.OneBlock.{one_of_entries, one_inode}
use Rattle.snapshot_model.proofs.Pieces.{same_pieces, few_pieces, short_pieces, each_joined}
use Rattle.snapshot_model.proofs.MadeLists.{readings, is_listed, AllMet, IsOneMade, one_listed_made}

abbrev pub Entries : Type 0
Entries = List (List ℕ × Key)

-- an inode and a directory's entries
abbrev pub Item : Type 0
Item = (Key × Inode) × Entries

abbrev pub inode_by : Item → Made
inode_by x = inode_over x.0.0 x.0.1 (list_of (items_of x.1 x.0.1.body x.0.1.kind))

abbrev pub FitEntries : Kind → Entries → Type 0
FitEntries Dir es = AllByRecursion IsEntry es × (length es ≤ 4294967296)
FitEntries Reg es = es ≡ []
FitEntries Lnk es = es ≡ []

abbrev pub FitsInode : Item → Type 0
FitsInode x = IsKey x.0.0 × HasBounds x.0.1 × FitEntries x.0.1.kind x.1

any : {A : Type 0} (xs : List A) → AllByRecursion (λ x. Unit {0}) xs
any [] = tt
any (x ∷ xs) = (tt, any xs)

each_both : {A : Type 0} (P Q : A → Type 0) (xs : List A) → AllByRecursion P xs → AllByRecursion Q xs → AllByRecursion (λ x. P x × Q x) xs
each_both P Q [] h g = tt
each_both P Q (x ∷ xs) h g = ((h.0, g.0), each_both P Q xs h.1 g.1)

-- ---- the block

abbrev block_of : Item → InodeBlock
block_of x = record {
  number = x.0.0;
  kind = x.0.1.kind;
  attributes = x.0.1.attributes;
  size = content_size x.0.1.body x.0.1.kind;
  target = symbolic_link_text x.0.1.body x.0.1.kind;
  items = named_by (list_of (items_of x.1 x.0.1.body x.0.1.kind));
}

size_fits : (kind : Kind) (body : List ℕ) → IsBodyOf kind body → content_size body kind ≤ most_content_bytes kind
size_fits Reg body h = h
size_fits Dir body h = omega arith
size_fits Lnk body h = omega arith

target_fits : (kind : Kind) (body : List ℕ) → IsBodyOf kind body → IsTarget kind (symbolic_link_text body kind)
target_fits Reg body h = refl
target_fits Dir body h = refl
target_fits Lnk body h = h

list_fits : (kind : Kind) (body : List ℕ) (es : Entries) → IsListed (most_levels kind) (named_by (list_of (items_of es body kind)))
list_fits Reg body es = is_listed (items_of es body Reg)
list_fits Dir body es = is_listed (items_of es body Dir)
list_fits Lnk body es = let l = is_listed [] in record { few = omega arith; top = l.top; none = l.none }

block_fits : (x : Item) → FitsInode x → IsInodeBlock (block_of x)
block_fits x f = record {
  number = f.0;
  attributes = f.1.attributes;
  size = size_fits x.0.1.kind x.0.1.body f.1.body;
  target = target_fits x.0.1.kind x.0.1.body f.1.body;
  items = list_fits x.0.1.kind x.0.1.body x.1;
}

module _ (met : List (List ℕ)) (apart : IsCollisionFree met) where
  -- ---- pieces and entries

  one_piece : IsOneMade met apart (λ (bytes : List ℕ). Unit {0}) piece_made
  one_piece x y f g m n e = apart x y m.0 n.0 e

  one_body : (b c : List ℕ) → length b ≤ longest_file → length c ≤ longest_file → AllMet met apart (readings (list_of (items_of [] b Reg)).1) → AllMet met apart (readings (list_of (items_of [] c Reg)).1)
      → named_by (list_of (items_of [] b Reg)) ≡ named_by (list_of (items_of [] c Reg)) → b ≡ c
  one_body b c f g m n e =
      same_pieces 8192 b c (omega arith)
      (one_listed_made met apart 3 1 (λ (bytes : List ℕ). Unit {0}) piece_made (omega arith) one_piece (in_pieces 8192 b) (in_pieces 8192 c) (any (in_pieces 8192 b)) (any (in_pieces 8192 c))
      (omega (arith, few_pieces (length b) 8192 b 2048 (omega (arith, f)))) (omega (arith, few_pieces (length c) 8192 c 2048 (omega (arith, g)))) m n e)

  abbrev AreFew : Entries → Type 0
  AreFew es = (length es < 2 ^ 32) × AllByRecursion IsEntry es

  one_entries : IsOneMade met apart AreFew entries_made
  one_entries x y f g m n e = whole one_of_entries x y f g (apart (entries_block x) (entries_block y) m.0 n.0 e)

  few_each : (ess : List Entries) → AllByRecursion (λ es. length es ≤ most_entries) ess → AllByRecursion (AllByRecursion IsEntry) ess → AllByRecursion AreFew ess
  few_each [] h g = tt
  few_each (es ∷ ess) h g = ((omega (arith, h.0), g.0), few_each ess h.1 g.1)

  one_directory : (es fs : Entries) → FitEntries Dir es → FitEntries Dir fs → AllMet met apart (readings (list_of (items_of es [] Dir)).1) → AllMet met apart (readings (list_of (items_of fs [] Dir)).1)
      → named_by (list_of (items_of es [] Dir)) ≡ named_by (list_of (items_of fs [] Dir)) → es ≡ fs
  one_directory es fs f g m n e =
      same_pieces most_entries es fs (omega arith)
      (one_listed_made met apart 3 1 AreFew entries_made (omega arith) one_entries (in_pieces most_entries es) (in_pieces most_entries fs)
      (few_each (in_pieces most_entries es) (short_pieces (length es) most_entries es) (each_joined IsEntry (length es) most_entries es f.0)) (few_each (in_pieces most_entries fs) (short_pieces (length fs) most_entries fs) (each_joined IsEntry (length fs) most_entries fs g.0))
      (omega (arith, few_pieces (length es) most_entries es 134217728 (omega (arith, f.1)))) (omega (arith, few_pieces (length fs) most_entries fs 134217728 (omega (arith, g.1)))) m n e)

  -- ---- inodes

  by_kind : (k l : Kind) → k ≡ l → (b c : List ℕ) (es fs : Entries) → IsBodyOf k b → IsBodyOf l c → FitEntries k es → FitEntries l fs
      → AllMet met apart (readings (list_of (items_of es b k)).1) → AllMet met apart (readings (list_of (items_of fs c l)).1)
      → named_by (list_of (items_of es b k)) ≡ named_by (list_of (items_of fs c l)) → symbolic_link_text b k ≡ symbolic_link_text c l → (b ≡ c) × (es ≡ fs)
  by_kind Reg Reg d b c es fs f g h i m n e t = (one_body b c f g m n e, h ∙ sym i)
  by_kind Reg Dir d b c es fs f g h i m n e t = cc
  by_kind Reg Lnk d b c es fs f g h i m n e t = cc
  by_kind Dir Reg d b c es fs f g h i m n e t = cc
  by_kind Dir Dir d b c es fs f g h i m n e t = (f ∙ sym g, one_directory es fs h i m n e)
  by_kind Dir Lnk d b c es fs f g h i m n e t = cc
  by_kind Lnk Reg d b c es fs f g h i m n e t = cc
  by_kind Lnk Dir d b c es fs f g h i m n e t = cc
  by_kind Lnk Lnk d b c es fs f g h i m n e t = (t, h ∙ sym i)

  abbrev ItemParts : Type 0
  ItemParts = (((Key × Kind) × Attributes) × List ℕ) × Entries

  abbrev item_parts : Item → ItemParts
  item_parts x = ((((x.0.0, x.0.1.kind), x.0.1.attributes), x.0.1.body), x.1)

  same_item : (x y : Item) → item_parts x ≡ item_parts y → x ≡ y
  same_item x y e = ap (λ (p : ItemParts). ((p.0.0.0.0, record { kind = p.0.0.0.1; attributes = p.0.0.1; body = p.0.1 }), p.1)) e

  pub one_inode_made : IsOneMade met apart FitsInode inode_by
  one_inode_made x y f g m n e =
      let blocks : block_of x ≡ block_of y = whole one_inode (block_of x) (block_of y) (block_fits x f) (block_fits y g) (apart (inode_by x).bytes (inode_by y).bytes m.0 n.0 e) in
      let number : x.0.0 ≡ y.0.0 = ap (λ (b : InodeBlock). b.number) blocks in
      let kind : x.0.1.kind ≡ y.0.1.kind = ap (λ (b : InodeBlock). b.kind) blocks in
      let attributes : x.0.1.attributes ≡ y.0.1.attributes = ap (λ (b : InodeBlock). b.attributes) blocks in
      let rest = by_kind x.0.1.kind y.0.1.kind kind x.0.1.body y.0.1.body x.1 y.1 f.1.body g.1.body f.2 g.2 m.1 n.1 (ap (λ (b : InodeBlock). b.items) blocks) (ap (λ (b : InodeBlock). b.target) blocks) in
      let body : x.0.1.body ≡ y.0.1.body = rest.0 in
      let entries : x.1 ≡ y.1 = rest.1 in
      same_item x y (rw (number, kind, attributes, body, entries) refl)
