-- How far loading a snapshot is: what was read, what is still to be read, and by what it ended too early.
use Rattle.std.specs.Prelude.{◌≡◌, ℕ, zero, suc, ◌+◌, ◌*◌, ◌<◌, List, [], ◌∷◌, ◌++◌, map, Option, Some, None, Result, Ok, Err}
use Rattle.ivy_base.specs.declared.key.Key.{Key}
use Rattle.ivy_base.specs.Naming.{name}
use Rattle.dhash_model.specs.declared.miss.Miss.{Miss}
use Rattle.turn_model.specs.Basis.{Basis}
use Rattle.snapshot_model.specs.Reading.{SnapshotPart, Root, Listing, AnInode, Piece, Entries, NamesParts, AreOf}
use Rattle.session_model.specs.Brought.{Brought, BlockOf}
use Rattle.session_model.specs.Refreshing.{LoadEnd, Loaded, LoadsFor}
use Rattle.snapshot_loading.specs.Roles.{IsNoPart, part_of, parts_of}
use Rattle.snapshot_loading.specs.declared.role.Role.{Role}
use Rattle.snapshot_loading.specs.declared.role.Role.TheVariants as role
use Rattle.snapshot_loading.specs.declared.role.Wanted.{Wanted}
use Rattle.snapshot_loading.specs.declared.load.Read.{Read}
use Rattle.snapshot_loading.specs.declared.load.Failure.{Failure}

-- The snapshot of that name: the blocks that were read, in their order, what is still to be read, in its order, and the block that couldn't
-- be had or wasn't what it was to be.
pub record Loading : Type 0 where
  pub root : Key
  pub read : List Read
  pub todo : List Wanted
  pub failed : Option Failure

abbrev pub bytes_of : List Read → List (List ℕ)
bytes_of read = map (λ b. b.bytes) read

-- ---- what was brought

abbrev pub brought_by : List Read → List Brought
brought_by read = map (λ b. BlockOf b.key (Ok b.bytes)) read

abbrev pub brought_last : Option Failure → List Brought
brought_last None = []
brought_last (Some f) = BlockOf f.key f.came ∷ []

abbrev pub brought_to : Loading → List Brought
brought_to l = brought_by l.read ++ brought_last l.failed

-- ---- what is wanted

abbrev pub first_key : List Wanted → Option Key
first_key [] = None
first_key (w ∷ todo) = Some w.key

abbrev pub wanted_of : Loading → Option Key
wanted_of l = first_key l.todo

-- ---- what holds of it

-- Of what was to be read these blocks were read, and this is left. Each has its name, and what it names is read next.
pub data HasRead : List Wanted → List Read → List Wanted → Type 0 where
  nothing : {todo : List Wanted} → HasRead todo [] todo
  block : {role : Role} {key : Key} {todo left : List Wanted} {read : List Read} (bytes : List ℕ) (named : List Wanted)
      → NamesParts (part_of role) bytes (parts_of named) → name bytes ≡ key
      → HasRead (named ++ todo) read left
      → HasRead (record { role = role; key = key } ∷ todo) (record { role = role; key = key; bytes = bytes } ∷ read) left

-- it couldn't be had, or isn't such a part
abbrev pub FailsAs : SnapshotPart → Result (List ℕ) Miss → Type 0
FailsAs part (Ok bytes) = IsNoPart part bytes
FailsAs part (Err miss) = Unit {0}

-- what failed came in place of what was to be read next
pub record FailsAt (first : List Wanted) (read : List Read) (f : Failure) : Type 0 where
  pub role : Role
  pub left : List Wanted
  pub before : HasRead first read (record { role = role; key = f.key } ∷ left)
  pub fails : FailsAs (part_of role) f.came

abbrev pub HasCome : List Wanted → List Read → List Wanted → Option Failure → Type 0
HasCome first read todo None = HasRead first read todo
HasCome first read todo (Some f) = (todo ≡ []) × FailsAt first read f

-- the root alone is to be read
abbrev pub root_alone : Key → List Wanted
root_alone root = record { role = role.Root; key = root } ∷ []

abbrev pub IsLoading : Loading → Type 0
IsLoading l = HasCome (root_alone l.root) l.read l.todo l.failed

-- ---- how much may still be wanted

-- the most blocks that are read of a list of that level, each item of which takes at most so many
abbrev pub most_of_list : ℕ → ℕ → ℕ
most_of_list zero each = 1 + 512 * each
most_of_list (suc zero) each = 1 + 512 * each
most_of_list (suc (suc level)) each = 1 + 512 * most_of_list (suc level) each

-- and of a block that is to be that, with all below it
abbrev pub most_of : SnapshotPart → ℕ
most_of Root = 1 + most_of_list 3 (1 + most_of_list 3 1)
most_of (Listing level item) = most_of_list level (most_of item)
most_of AnInode = 1 + most_of_list 3 1
most_of Piece = 1
most_of Entries = 1

abbrev pub most_in : List (SnapshotPart × Key) → ℕ
most_in [] = 0
most_in (p ∷ parts) = most_of p.0 + most_in parts

abbrev pub load_left : Loading → ℕ
load_left l = most_in (parts_of l.todo)

-- ---- what is claimed

-- loading for that name has come to this, after what was brought
abbrev pub ComesTo : Loading → LoadEnd → Type 0
ComesTo l end = LoadsFor (Some l.root) (brought_to l) end

-- one that begins
abbrev pub begun : Key → Loading
begun root = record { root = root; read = []; todo = root_alone root; failed = None }

-- what was wanted came so: it is the next that was brought, and fewer blocks may still be wanted
pub record HasBeenGiven (old new : Loading) (came : Result (List ℕ) Miss) : Type 0 where
  pub root : new.root ≡ old.root
  pub key : Key
  pub wanted : wanted_of old ≡ Some key
  pub brought : brought_to new ≡ brought_to old ++ BlockOf key came ∷ []
  pub left : load_left new < load_left old

-- what came of the block that is wanted is no such one
pub record FailsNext (l : Loading) (came : Result (List ℕ) Miss) : Type 0 where
  pub next : Wanted
  pub left : List Wanted
  pub todo : l.todo ≡ next ∷ left
  pub fails : FailsAs (part_of next.role) came

-- All was read, into these blocks: what loading comes to is for them to say.
pub record IsReadWhole (l : Loading) (read : List Read) : Type 0 where
  pub whole : HasRead (root_alone l.root) read []
  pub unfailed : l.failed ≡ None
  pub brought : brought_to l ≡ brought_by read
  pub of_one : (b : Basis) → AreOf (bytes_of read) b → ComesTo l (Loaded (Some b))
  pub of_none : ((b : Basis) → AreOf (bytes_of read) b → ⊥) → ComesTo l (Loaded None)
