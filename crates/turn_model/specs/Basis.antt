-- A basis: a tree in place of the records below it; and what an agent holds of what it knows.
use Rattle.std.specs.Prelude.{◌≡◌, ◌⊎◌, ◌<◌, List, [], ◌++◌, Option, None, map}
use Rattle.std.specs.List.{AllByRecursion, last_or}
use Rattle.ivy_base.specs.Naming.{head_key_of}
use Rattle.tree_model.specs.Tree.{Tree}
use Rattle.tree_model.specs.Apply.{empty_tree, apply_all}
use Rattle.log_model.specs.View.{View}
use Rattle.log_model.specs.Vector.{Vector, Dominates, seq_of}
use Rattle.log_model.specs.Record.{Record}
use Rattle.log_model.specs.Rank.{Rank, rank, full_vector, front}
use Rattle.log_model.specs.Closed.{IsClosed}
use Rattle.log_model.specs.Replay.{replay, effect}
use Rattle.turn_model.specs.Known.{IsKnown}

-- what a tree covers: the front of its records, the greatest rank among them, and the tree
pub record Basis : Type 0 where
  pub front : Vector
  pub tide : Option Rank
  pub tree : Tree

-- the basis that covers nothing
abbrev pub fresh_basis : Basis
fresh_basis = record { front = []; tide = None; tree = empty_tree }

-- the rank of the last record, which is the greatest of an ascending set
abbrev pub tide_of : List Record → Option Rank
tide_of s = last_or None (map rank s)

-- the basis stands for the closed set
pub record StandsFor (view : View) (b : Basis) (s : List Record) : Type 0 where
  pub closed : IsClosed view s
  pub front : b.front ≡ front s
  pub tide : b.tide ≡ tide_of s
  pub tree : b.tree ≡ replay s

-- the record knows all that the basis covers, and is later in its own log
pub record IsAboveTide (b : Basis) (r : Record) : Type 0 where
  pub knows : Dominates (full_vector r) b.front
  pub later : seq_of b.front (head_key_of r.owner) < r.seq

-- what an agent keeps of its records: a basis, and the records above it
pub record Holding : Type 0 where
  pub basis : Basis
  pub held : List Record

abbrev pub nothing_held : Holding
nothing_held = record { basis = fresh_basis; held = [] }

-- the tree that an agent keeps
abbrev pub kept_tree : Holding → Tree
kept_tree h = apply_all h.basis.tree (map effect h.held)

-- all that is known is held: below the basis, or as a record above it
pub record HoldsAll (view : View) (known : List Record) (h : Holding) : Type 0 where
  pub below : List Record
  pub stands : StandsFor view h.basis below
  pub whole : known ≡ below ++ h.held
  pub above : AllByRecursion (IsAboveTide h.basis) h.held

-- What an agent of that floor knows and holds: its known set is closed, and it holds all of it or nothing.
pub record Knows (view : View) (floor : Vector) (h : Holding) (known : List Record) : Type 0 where
  pub by_floor : IsKnown view floor known
  pub closed : IsClosed view known
  pub holds : (h ≡ nothing_held) ⊎ HoldsAll view known h

-- Where all is held, the kept tree is the replay of all that is known.
abbrev pub KeptTreeIsReplay : Type 0
KeptTreeIsReplay = (view : View) (known : List Record) (h : Holding) → IsClosed view known → HoldsAll view known h
    → kept_tree h ≡ replay known
