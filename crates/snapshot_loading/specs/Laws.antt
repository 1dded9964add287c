-- What holds of a snapshot that was made, and is loaded.
use Rattle.std.specs.Prelude.{◌≡◌, List, ◌++◌, Some}
use Rattle.ivy_base.specs.declared.key.Key.{Key}
use Rattle.ivy_base.specs.Naming.{name, IsCollisionFree}
use Rattle.log_model.specs.Spelling.{IsKey}
use Rattle.turn_model.specs.Basis.{Basis}
use Rattle.snapshot_model.specs.Spelling.{snapshot_named}
use Rattle.snapshot_model.specs.Reading.{IsWholeTree, IsBasisSpelled}
use Rattle.session_model.specs.Refreshing.{Loaded}
use Rattle.snapshot_loading.specs.declared.load.Read.{Read}
use Rattle.snapshot_loading.specs.Loading.{Loading, ComesTo, IsReadWhole, bytes_of}

-- Where no names of the blocks that were read and those that were made collide, what is loaded by the name of a made snapshot's root is
-- what it was made of.
abbrev pub MadeIsLoaded : Type 0
MadeIsLoaded = (view : Key) (b : Basis) (l : Loading) (read : List Read) → IsKey view → IsWholeTree b.tree → IsBasisSpelled b
    → l.root ≡ name (snapshot_named view b).bytes
    → IsCollisionFree (bytes_of read ++ (snapshot_named view b).reading) → IsReadWhole l read → ComesTo l (Loaded (Some b))
