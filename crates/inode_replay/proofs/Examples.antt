-- What operations make of small inodes, computed.
use Rattle.std.proofs.Common.{◌≡◌, ℕ, Bool, true, false, List, [], ◌∷◌, Some, None, refl}
use Rattle.ivy_base.specs.declared.key.Key.{Key}
use Rattle.ivy_base.specs.declared.operation.Kind.{Kind}
use Rattle.ivy_base.specs.declared.operation.Kind.TheVariants.{Reg, Dir, Lnk}
use Rattle.ivy_base.specs.declared.operation.Moment.{Moment}
use Rattle.ivy_base.specs.declared.operation.Change.{Change}
use Rattle.ivy_base.specs.declared.operation.Op.TheVariants as op
use Rattle.tree_model.specs.Tree.{Inode}
use Rattle.inode_replay.specs.Contents.{new_inode, made, changed}
use Rattle.inode_replay.specs.Kept.{Kept, made_kept, changed_kept}

abbrev at : ℕ → Moment
at n = record { sec = n; nsec = 0 }

abbrev key : Key
key = record { 0 = [] }

abbrev inode : Kind → List ℕ → Inode
inode kind body = new_inode (at 1) kind 420 10 20 body

abbrev size_change : ℕ → Change
size_change size = record { mode = None; uid = None; gid = None; size = Some size; atime = None; mtime = None }

added : made (at 1) (op.Inode key Lnk 420 10 20 (47 ∷ [])) ≡ Some (inode Lnk (47 ∷ []))
added = refl

-- bytes after the end, with a gap of one; and in the middle
behind : (changed (at 2) (op.Write key 3 (8 ∷ 9 ∷ [])) (inode Reg (5 ∷ 6 ∷ []))).body ≡ 5 ∷ 6 ∷ 0 ∷ 8 ∷ 9 ∷ []
behind = refl

between : (changed (at 2) (op.Write key 1 (8 ∷ [])) (inode Reg (5 ∷ 6 ∷ 7 ∷ []))).body ≡ 5 ∷ 8 ∷ 7 ∷ []
between = refl

written_then : (changed (at 2) (op.Write key 1 (8 ∷ [])) (inode Reg [])).attributes ≡ record { mode = 420; uid = 10; gid = 20; atime = at 1; mtime = at 2; ctime = at 2 }
written_then = refl

not_written : changed (at 2) (op.Write key 0 (8 ∷ [])) (inode Lnk (47 ∷ [])) ≡ inode Lnk (47 ∷ [])
not_written = refl

-- a size that cuts, and one that fills
cut : changed (at 2) (op.SetAttrs key (size_change 1)) (inode Reg (5 ∷ 6 ∷ [])) ≡ record { kind = Reg; attributes = record { mode = 420; uid = 10; gid = 20; atime = at 1; mtime = at 2; ctime = at 2 }; body = 5 ∷ [] }
cut = refl

filled : (changed (at 2) (op.SetAttrs key (size_change 4)) (inode Reg (5 ∷ 6 ∷ []))).body ≡ 5 ∷ 6 ∷ 0 ∷ 0 ∷ []
filled = refl

no_size : changed (at 2) (op.SetAttrs key (size_change 1)) (inode Dir []) ≡ inode Dir []
no_size = refl

-- which places are written: a byte after the end leaves a gap, a cut takes places away, and a Write after it fills
abbrev file : List Bool → Kept
file written = record { inode = inode Reg (5 ∷ 6 ∷ []); written = written }

gap : (changed_kept (at 2) (op.Write key 3 (8 ∷ [])) (file (true ∷ false ∷ []))).written ≡ true ∷ false ∷ false ∷ true ∷ []
gap = refl

again : (changed_kept (at 2) (op.Write key 1 (8 ∷ 9 ∷ [])) (file (false ∷ false ∷ []))).written ≡ false ∷ true ∷ true ∷ []
again = refl

places_cut : (changed_kept (at 2) (op.SetAttrs key (size_change 1)) (file (false ∷ true ∷ []))).written ≡ false ∷ []
places_cut = refl

places_filled : (changed_kept (at 2) (op.SetAttrs key (size_change 4)) (file (false ∷ true ∷ []))).written ≡ false ∷ true ∷ false ∷ false ∷ []
places_filled = refl

fresh_link : made_kept (at 1) (op.Inode key Lnk 420 10 20 (47 ∷ [])) ≡ Some (record { inode = inode Lnk (47 ∷ []); written = false ∷ [] })
fresh_link = refl

link_not_written : changed_kept (at 2) (op.Write key 0 (8 ∷ [])) (record { inode = inode Lnk (47 ∷ []); written = false ∷ [] }) ≡ record { inode = inode Lnk (47 ∷ []); written = false ∷ [] }
link_not_written = refl
