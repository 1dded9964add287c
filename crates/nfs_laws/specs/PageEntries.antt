-- What a page of a directory says of each entry, and which calls a page answers (RFC 1813, sections 3.3.16 and 3.3.17).
use Rattle.std.specs.Prelude.{◌≡◌, ℕ, ◌+◌, ◌≤◌, min, Bool, true, List, length, codes, IsTrue, Option, Some, None, Ok, ◌⊎◌, ◌↔◌}
use Rattle.std.specs.List.{slice_get}
use Rattle.ivy_base.specs.declared.key.Key.{Key}
use Rattle.tree_model.specs.Tree.{Tree, listing, parent, directory_kind}
use Rattle.log_model.specs.View.{View}
use Rattle.wire_model.specs.Rpc.{Identity}
use Rattle.nfs_model.specs.declared.arguments.Args.{Args}
use Rattle.nfs_model.specs.declared.arguments.Args.TheVariants as call
use Rattle.nfs_model.specs.declared.replies.Fattr.{Fattr}
use Rattle.nfs_model.specs.declared.replies.Listed.{Listed}
use Rattle.nfs_model.specs.declared.replies.Reply.TheVariants as reply
use Rattle.nfs_model.specs.Objects.{Object, object_of, handle_of, leading_number, attributes, attributes_at, may_read}
use Rattle.nfs_model.specs.Pages.{cookie_verifier, plain_length, long_length, longest_page}
use Rattle.nfs_model.specs.Reading.{answer}
use Rattle.nfs_laws.specs.Listings.{IsPageCall, IsPage}

-- what stands at a place of a directory, counted from 1: the directory as ".", then as ".." the directory that names it, or
-- itself where none does, and then its names in the order of their bytes
pub data StandsAt (t : Tree) (dir : Key) : ℕ → List ℕ → Key → Type 0 where
  itself : StandsAt t dir 1 (codes ".") dir
  above : {number : Key} → parent t dir ≡ Some number → StandsAt t dir 2 (codes "..") number
  top : parent t dir ≡ None → StandsAt t dir 2 (codes "..") dir
  named : {name : List ℕ} {number : Key} (i : ℕ) → slice_get (listing t dir) i ≡ Some (name, number) → StandsAt t dir (3 + i) name number

-- the entry of a place: its name, the first eight bytes of its inode's number, and the place as its cookie
pub record IsEntryAt (t : Tree) (dir : Key) (place : ℕ) (number : Key) (e : Listed) : Type 0 where
  pub stands : StandsAt t dir place e.name number
  pub fileid : e.fileid ≡ leading_number number
  pub cookie : e.cookie ≡ place

-- READDIR says no more of an entry
abbrev pub SaysNoMore : Key → Listed → Type 0
SaysNoMore number e = (e.attributes ≡ None) × (e.handle ≡ None)

-- READDIRPLUS says its attributes and its handle too
abbrev pub SaysAll : Tree → View → Key → Listed → Type 0
SaysAll t view number e = (e.attributes ≡ attributes_at t view number) × (e.handle ≡ Some (handle_of view number))

-- a page of the directory after a cookie, with the directory's attributes and the verifier of its listing
pub record IsPageBehind (Says : Key → Listed → Type 0) (t : Tree) (view : View) (dir : Object) (cookie : ℕ)
    (attr : Option Fattr) (verifier : List ℕ) (page : List Listed) (eof : Bool) : Type 0 where
  pub attr_is : attr ≡ Some (attributes t view dir)
  pub verifier_is : verifier ≡ cookie_verifier t dir.number
  -- its entries are those of the places after the cookie, one after the other
  pub entries : (i : ℕ) (e : Listed) → slice_get page i ≡ Some e
      → (number : Key) × IsEntryAt t dir.number (cookie + 1 + i) number e × Says number e
  -- it says that it is the last where the directory has no place after its own
  pub ends : IsTrue eof ↔ (2 + length (listing t dir.number) ≤ cookie + length page)

-- A page of READDIR has the entries after its cookie, each by its name, its inode and its place.
abbrev pub PlainPagesSay : Type 0
PlainPagesSay = (t : Tree) (view : View) (who : Identity) (handle : List ℕ) (cookie : ℕ) (verifier : List ℕ) (count : ℕ)
    (attr : Option Fattr) (given : List ℕ) (page : List Listed) (eof : Bool)
    → answer t view who (call.ReadDir handle cookie verifier count) ≡ reply.Directory attr given page eof
    → (dir : Object) × (object_of t view handle ≡ Ok dir) × IsPageBehind SaysNoMore t view dir cookie attr given page eof

-- A page of READDIRPLUS has them with each inode's attributes and handle.
abbrev pub PlusPagesSay : Type 0
PlusPagesSay = (t : Tree) (view : View) (who : Identity) (handle : List ℕ) (cookie : ℕ) (verifier : List ℕ) (dircount maxcount : ℕ)
    (attr : Option Fattr) (given : List ℕ) (page : List Listed) (eof : Bool)
    → answer t view who (call.ReadDirPlus handle cookie verifier dircount maxcount) ≡ reply.DirectoryPlus attr given page eof
    → (dir : Object) × (object_of t view handle ≡ Ok dir) × IsPageBehind (SaysAll t view) t view dir cookie attr given page eof

-- the verifier came with a page of the directory, when it had these names
pub record WasGiven (view : View) (number : Key) (names : List (List ℕ × Key)) (verifier : List ℕ) : Type 0 where
  pub before : Tree
  pub caller : Identity
  pub args : Args
  pub cookie : ℕ
  pub with : List ℕ
  pub page : List Listed
  pub eof : Bool
  pub listed : listing before number ≡ names
  pub called : IsPageCall (handle_of view number) cookie with args
  pub brought : IsPage verifier page eof (answer before view caller args)

-- room for an entry of that name beside the directory's attributes (88), the verifier (8) and the two last marks (8)
abbrev pub HasRoomFor : Args → List ℕ → Type 0
HasRoomFor (call.ReadDir handle cookie verifier count) name = 104 + plain_length name ≤ min count longest_page
HasRoomFor (call.ReadDirPlus handle cookie verifier dircount maxcount) name = 104 + long_length name ≤ min maxcount longest_page
HasRoomFor _ name = Unit {0}

-- A directory that the caller may read answers by a page, where the cookie is 0 or the verifier was given with the same names, and there is
-- room for the entry after the cookie, if there is one.
abbrev pub PagesAreGiven : Type 0
PagesAreGiven = (t : Tree) (view : View) (who : Identity) (args : Args) (handle : List ℕ) (cookie : ℕ) (verifier : List ℕ) (dir : Object)
    → IsPageCall handle cookie verifier args
    → object_of t view handle ≡ Ok dir → directory_kind dir.inode.kind ≡ true → may_read who dir.inode ≡ true
    → (cookie ≡ 0) ⊎ WasGiven view dir.number (listing t dir.number) verifier
    → ((name : List ℕ) (number : Key) → StandsAt t dir.number (cookie + 1) name number → HasRoomFor args name)
    → (given : List ℕ) × (page : List Listed) × (eof : Bool) × IsPage given page eof (answer t view who args)
