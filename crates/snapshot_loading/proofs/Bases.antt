-- Bases by what their roots show.
use Rattle.std.proofs.Common.{◌≡◌, ℕ, List, [], ◌∷◌, map, refl, sym, ap, ◌∙◌, subst, append-nil}
use Rattle.ivy_base.specs.declared.key.Key.{Key}
use Rattle.tree_model.specs.Tree.{Tree, Inode, listing}
use Rattle.log_model.specs.Rank.{Rank}
use Rattle.log_model.specs.Vector.{Vector}
use Rattle.turn_model.specs.Basis.{Basis}
use Rattle.std.specs.Prelude.{Option}
use Rattle.snapshot_model.specs.Blocks.{RootBlock, NamedList, root_block}
use Rattle.snapshot_model.specs.Spelling.{Made, over, list_of, named_by, inode_made, root_over, snapshot_named}
use Rattle.snapshot_model.specs.Reading.{SnapshotPart, Root, AnInode, top_of, IsWholeTree, IsBasisSpelled, AreOf}
use Rattle.snapshot_model.proofs.OneBlock.{one_root}
use Rattle.snapshot_model.proofs.OneNames.{one_said}
use Rattle.snapshot_loading.specs.Forests.{Forest, nothing, block, flat, named_in, mades, Fits, below_by}
use Rattle.snapshot_loading.specs.Wholes.{ShowInodes, ShowsBasis}
use Rattle.snapshot_loading.proofs.Forests.{AllAre}
use Rattle.snapshot_loading.proofs.ShownInodes.{items_are, spelled_list, shown_inodes_are_made}
use Rattle.snapshot_loading.proofs.OneForest.{reads_flat}

first_made : (m : Made) (ms : List Made) (k : Made) → m ∷ [] ≡ k ∷ [] → m ∷ ms ≡ k ∷ ms
first_made m ms k e = let same : m ≡ k = cc in ap (λ (x : Made). x ∷ ms) same

pub inodes_made : (t : Tree) (f : Forest) (inodes : List (Key × Inode)) → AllAre AnInode f → Fits f → ShowInodes t f inodes → mades f ≡ map (inode_made t) inodes
inodes_made t nothing [] are fits shows = refl
inodes_made t nothing (i ∷ inodes) are fits shows = absurd shows
inodes_made t (block part bytes below beside) [] are fits shows = absurd shows
inodes_made t (block part bytes below beside) (i ∷ inodes) are fits shows =
    let one : over bytes (mades below) ∷ [] ≡ inode_made t i ∷ [] = shown_inodes_are_made i.0 i.1 (listing t i.0) bytes below (subst (λ (p : SnapshotPart). Fits (block p bytes below nothing)) are.0 (fits.0, fits.1, tt)) shows.0 in
    first_made (over bytes (mades below)) (mades beside) (inode_made t i) one ∙ ap (λ (ms : List Made). inode_made t i ∷ ms) (inodes_made t beside inodes are.1 fits.2 shows.1)

abbrev RootParts : Type 0
RootParts = (Vector × Option Rank) × NamedList

abbrev root_with : Key → RootParts → RootBlock
root_with view p = record { view = view; front = p.0.0; tide = p.0.1; inodes = p.1 }

-- a root that shows a basis is that basis's snapshot
pub shown_made : (bytes : List ℕ) (below : Forest) (b : Basis) → Fits (block Root bytes below nothing) → (s : ShowsBasis bytes below b) → over bytes (mades below) ≡ snapshot_named s.said.view b
shown_made bytes below b fits s =
    let one : fits.0.0 ≡ s.said = one_said one_root fits.0.1 s.says in
    let named : named_in below ≡ top_of AnInode s.said.inodes.level s.said.inodes.top = fits.0.2 ∙ ap (λ (r : RootBlock). top_of AnInode r.inodes.level r.inodes.top) one in
    let list = spelled_list AnInode s.said.inodes.level s.said.inodes.top below s.says.fits.inodes.few s.says.fits.inodes.none named fits.1 s.even in
    let are = items_are AnInode s.said.inodes.level s.said.inodes.top below named fits.1 in
    let items : mades (below_by s.said.inodes.level below) ≡ map (inode_made b.tree) b.tree.inodes = inodes_made b.tree (below_by s.said.inodes.level below) b.tree.inodes are.0 are.1 s.inodes in
    let all : list_of (map (inode_made b.tree) b.tree.inodes) ≡ (s.said.inodes.level, mades below) = ap list_of (sym items) ∙ list.list in
    let parts : ◌≡◌ {A = RootParts} ((s.said.front, s.said.tide), s.said.inodes) ((b.front, b.tide), named_by (s.said.inodes.level, mades below)) = rw (s.front, s.tide, list.named) refl in
    ap (λ (x : List ℕ). over x (mades below)) (s.says.spelled ∙ ap (λ (p : RootParts). root_block (root_with s.said.view p)) parts) ∙ ap (λ (p : ℕ × List Made). root_over s.said.view b p) (sym all)

-- so it is read as that
pub shown_reading : (bytes : List ℕ) (below : Forest) (b : Basis) → Fits (block Root bytes below nothing) → (s : ShowsBasis bytes below b) → (snapshot_named s.said.view b).reading ≡ map (λ p. p.1) (flat (block Root bytes below nothing))
shown_reading bytes below b fits s = ap (λ (m : Made). m.reading) (sym (shown_made bytes below b fits s)) ∙ sym (append-nil (over bytes (mades below)).reading) ∙ reads_flat (block Root bytes below nothing)

pub shown_are_loaded : (bytes : List ℕ) (below : Forest) (b : Basis) → Fits (block Root bytes below nothing) → IsWholeTree b.tree → IsBasisSpelled b → ShowsBasis bytes below b → AreOf (map (λ p. p.1) (flat (block Root bytes below nothing))) b
shown_are_loaded bytes below b fits whole spelled s = record { whole = whole; bounds = spelled; view = s.said.view; is_key = s.says.fits.view; spelled = shown_reading bytes below b fits s }
