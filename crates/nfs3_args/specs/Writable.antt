-- Which arguments have bytes: XDR counts the bytes of opaque data and of a string in a word (RFC 4506, sections 4.10
-- and 4.11).
use Rattle.std.specs.Prelude.{ℕ, ◌<◌, ◌^◌, List, [], ◌∷◌, length}
use Rattle.std.specs.List.{AllByRecursion}
use Rattle.nfs_model.specs.declared.arguments.Args.{Args}
use Rattle.nfs_model.specs.declared.arguments.Args.TheVariants as call

-- the handles, names, texts, paths and data of arguments
abbrev pub strings : Args → List (List ℕ)
strings (call.GetAttr object) = object ∷ []
strings (call.SetAttr object what guard) = object ∷ []
strings (call.Lookup dir name) = dir ∷ name ∷ []
strings (call.Access object bits) = object ∷ []
strings (call.ReadLink link) = link ∷ []
strings (call.Read file offset count) = file ∷ []
strings (call.Write file offset count stable bytes) = file ∷ bytes ∷ []
strings (call.Create dir name how) = dir ∷ name ∷ []
strings (call.MkDir dir name what) = dir ∷ name ∷ []
strings (call.SymLink dir name what text) = dir ∷ name ∷ text ∷ []
strings (call.MkNod dir name node) = dir ∷ name ∷ []
strings (call.Remove dir name) = dir ∷ name ∷ []
strings (call.RmDir dir name) = dir ∷ name ∷ []
strings (call.Rename dir name to_dir to_name) = dir ∷ name ∷ to_dir ∷ to_name ∷ []
strings (call.Link file dir name) = file ∷ dir ∷ name ∷ []
strings (call.ReadDir dir cookie verifier count) = dir ∷ []
strings (call.ReadDirPlus dir cookie verifier dircount maxcount) = dir ∷ []
strings (call.FsStat object) = object ∷ []
strings (call.FsInfo object) = object ∷ []
strings (call.PathConf object) = object ∷ []
strings (call.Commit file offset count) = file ∷ []
strings (call.Mnt path) = path ∷ []
strings (call.Umnt path) = path ∷ []
strings _ = []

-- a string whose length is a word
abbrev pub IsShort : List ℕ → Type 0
IsShort bytes = length bytes < 2 ^ 32

-- each string has a length that is a word
abbrev pub IsWritable : Args → Type 0
IsWritable args = AllByRecursion IsShort (strings args)
