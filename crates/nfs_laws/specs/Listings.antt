-- A directory that is read page by page (RFC 1813, sections 3.3.16 and 3.3.17).
use Rattle.std.specs.Prelude.{◌≡◌, ℕ, ◌≤◌, Bool, true, false, List, [], ◌∷◌, ◌++◌, length, map, Option}
use Rattle.ivy_base.specs.declared.key.Key.{Key}
use Rattle.tree_model.specs.Tree.{Tree, listing}
use Rattle.log_model.specs.Spelling.{IsKey}
use Rattle.log_model.specs.View.{View}
use Rattle.wire_model.specs.Rpc.{Identity}
use Rattle.nfs_model.specs.declared.arguments.Args.{Args}
use Rattle.nfs_model.specs.declared.arguments.Args.TheVariants as call
use Rattle.nfs_model.specs.declared.replies.Fattr.{Fattr}
use Rattle.nfs_model.specs.declared.replies.Listed.{Listed}
use Rattle.nfs_model.specs.declared.replies.Reply.{Reply}
use Rattle.nfs_model.specs.declared.replies.Reply.TheVariants as reply
use Rattle.nfs_model.specs.Objects.{handle_of}
use Rattle.nfs_model.specs.Pages.{placed, listed}
use Rattle.nfs_model.specs.Reading.{answer}

-- what every page shows of an entry: the number, the name and the cookie
abbrev pub shown : Listed → ℕ × (List ℕ × ℕ)
shown e = (e.fileid, (e.name, e.cookie))

-- a call for the page after the cookie, with or without attributes and handles, whatever the room
pub data IsPageCall (handle : List ℕ) (cookie : ℕ) (verifier : List ℕ) : Args → Type 0 where
  plain : (count : ℕ) → IsPageCall handle cookie verifier (call.ReadDir handle cookie verifier count)
  plus : (dircount maxcount : ℕ) → IsPageCall handle cookie verifier (call.ReadDirPlus handle cookie verifier dircount maxcount)

-- a reply that is a page, the last one or not
pub data IsPage (verifier : List ℕ) (page : List Listed) (eof : Bool) : Reply → Type 0 where
  plain : (dir : Option Fattr) → IsPage verifier page eof (reply.Directory dir verifier page eof)
  plus : (dir : Option Fattr) → IsPage verifier page eof (reply.DirectoryPlus dir verifier page eof)

-- the cookie of the last entry of a page; where it has none, the one that was asked for
abbrev pub next_cookie : ℕ → List Listed → ℕ
next_cookie cookie [] = cookie
next_cookie cookie (e ∷ es) = next_cookie e.cookie es

-- the directory is read on from the cookie until a page says that it is the last, each page by a caller and on a tree of its
-- own, in which the directory has this listing; each call gives back the cookie and the verifier that it was given
pub data IsReadFrom (view : View) (number : Key) (names : List (List ℕ × Key)) : ℕ → List ℕ → List Listed → Type 0 where
  last : {cookie : ℕ} {verifier given : List ℕ} {page : List Listed} (t : Tree) (who : Identity) (args : Args)
      → listing t number ≡ names → IsPageCall (handle_of view number) cookie verifier args → IsPage given page true (answer t view who args)
      → IsReadFrom view number names cookie verifier page
  more : {cookie : ℕ} {verifier given : List ℕ} {page rest : List Listed} (t : Tree) (who : Identity) (args : Args)
      → listing t number ≡ names → IsPageCall (handle_of view number) cookie verifier args
      → IsPage given page false (answer t view who args)
      → IsReadFrom view number names (next_cookie cookie page) given rest → IsReadFrom view number names cookie verifier (page ++ rest)

-- The pages put together are the directory itself, one above it, and its listing, each entry once and in its order.
abbrev pub PagesAreListing : Type 0
PagesAreListing = (view : View) (number : Key) (names : List (List ℕ × Key)) (verifier : List ℕ) (pages : List Listed)
    → IsKey number → IsReadFrom view number names 0 verifier pages
    → (above : Key) × (map shown pages ≡ map (λ e. shown (listed e)) (placed 0 ((46 ∷ [], number) ∷ (46 ∷ 46 ∷ [], above) ∷ names)))

-- A page that isn't the last has an entry, so that reading goes on.
abbrev pub PagesGoOn : Type 0
PagesGoOn = (t : Tree) (view : View) (who : Identity) (args : Args) (handle verifier given : List ℕ) (cookie : ℕ) (page : List Listed)
    → IsPageCall handle cookie verifier args → IsPage given page false (answer t view who args) → 1 ≤ length page
