-- Pages of a directory (RFC 1813, sections 3.3.16 and 3.3.17; how a page is measured is this project's).
use Rattle.std.specs.Prelude.{ℕ, ◌+◌, ◌-◌, min, nat_lt, Bool, false, ◌&&◌, not, List, [], ◌∷◌, ◌++◌, length, take, drop, map, Some, None}
use Rattle.std.specs.Prelude.{unwrap_or, ◌==◌, if◌then◌else◌}
use Rattle.std.specs.List.{flat_map}
use Rattle.ivy_base.specs.declared.key.Key.{Key}
use Rattle.ivy_base.specs.Naming.{digest}
use Rattle.tree_model.specs.Tree.{Tree, listing, parent, directory_kind}
use Rattle.log_model.specs.View.{View}
use Rattle.wire_model.specs.Xdr.{word, opaque}
use Rattle.wire_model.specs.Rpc.{Identity}
use Rattle.nfs_model.specs.declared.replies.NfsStatus.TheVariants as status
use Rattle.nfs_model.specs.declared.replies.Tail.TheVariants as tail
use Rattle.nfs_model.specs.declared.replies.Listed.{Listed}
use Rattle.nfs_model.specs.declared.replies.Reply.{Reply}
use Rattle.nfs_model.specs.declared.replies.Reply.TheVariants as reply
use Rattle.nfs_model.specs.Checks.{Check, same_bytes}
use Rattle.nfs_model.specs.Objects.{Object, object_of, attributes, attributes_at, handle_of, leading_number, may_read}
use Rattle.nfs_model.specs.Answers.{about, unless}

-- itself, its parent, and the names by their bytes
abbrev pub all_entries : Tree → Key → List (List ℕ × Key)
all_entries t dir = (46 ∷ [], dir) ∷ (46 ∷ 46 ∷ [], unwrap_or (parent t dir) dir) ∷ listing t dir

-- each with its place, counted from 1
abbrev pub placed : ℕ → List (List ℕ × Key) → List (ℕ × (List ℕ × Key))
placed n [] = []
placed n (e ∷ es) = (n + 1, e) ∷ placed (n + 1) es

-- the first eight bytes of the SHA-1 over each name's length, bytes and inode
abbrev pub cookie_verifier : Tree → Key → List ℕ
cookie_verifier t dir = take 8 (digest (flat_map (λ e. word (length e.0) ++ e.0 ++ e.1.0) (listing t dir))).0

-- how many bytes an entry's number, name and cookie take
abbrev pub entry_length : List ℕ → ℕ
entry_length name = 8 + length (opaque name) + 8

-- the same with the flag before it
abbrev pub plain_length : List ℕ → ℕ
plain_length name = 4 + entry_length name

-- the same with attributes (88) and file handle (52)
abbrev pub long_length : List ℕ → ℕ
long_length name = plain_length name + 88 + 52

-- as many entries, from the first on, as the room has place for
abbrev pub fitting : (List ℕ → ℕ) → ℕ → List (ℕ × (List ℕ × Key)) → List (ℕ × (List ℕ × Key))
fitting size room [] = []
fitting size room (e ∷ es) = if nat_lt room (size e.1.0) then [] else e ∷ fitting size (room - size e.1.0) es

-- what fits, or the first alone where none does
abbrev pub at_least_one : List (ℕ × (List ℕ × Key)) → List (ℕ × (List ℕ × Key)) → List (ℕ × (List ℕ × Key))
at_least_one [] fit = fit
at_least_one (e ∷ es) [] = e ∷ []
at_least_one (e ∷ es) (f ∷ fs) = f ∷ fs

-- the most bytes that a page of a directory is given, whatever is asked for
abbrev pub longest_page : ℕ
longest_page = 32768

-- what is left beside attributes (88), verifier (8), and the end with its flag (8)
abbrev pub room_for_entries : ℕ → ℕ
room_for_entries count = min count longest_page - 104

-- the entries after the cookie, which is the place of the last one that was given
abbrev pub entries_from : Tree → Key → ℕ → List (ℕ × (List ℕ × Key))
entries_from t dir cookie = drop cookie (placed 0 (all_entries t dir))

-- the first of the entries has no place; where no entry is left nothing is too small
abbrev pub too_small : (List ℕ → ℕ) → ℕ → List (ℕ × (List ℕ × Key)) → Bool
too_small size count [] = false
too_small size count (e ∷ es) = nat_lt (min count longest_page) (104 + size e.1.0)

-- a cookie other than 0 is good with the verifier of the same listing alone
abbrev pub page_checks : Tree → Identity → Object → ℕ → List ℕ → (List ℕ → ℕ) → ℕ → List Check
page_checks t who dir cookie verifier size count =
    (not (directory_kind dir.inode.kind), status.NotDir)
    ∷ (not (may_read who dir.inode), status.Acces)
    ∷ (not (cookie == 0) && not (same_bytes verifier (cookie_verifier t dir.number)), status.BadCookie)
    ∷ (too_small size count (entries_from t dir.number cookie), status.TooSmall) ∷ []

-- an entry of a page without attributes and file handle, and with both
abbrev pub listed : ℕ × (List ℕ × Key) → Listed
listed e = record { fileid = leading_number e.1.1; name = e.1.0; cookie = e.0; attributes = None; handle = None }

abbrev pub listed_plus : Tree → View → ℕ × (List ℕ × Key) → Listed
listed_plus t view e = record {
  fileid = leading_number e.1.1;
  name = e.1.0;
  cookie = e.0;
  attributes = attributes_at t view e.1.1;
  handle = Some (handle_of view e.1.1);
}

-- READDIR (3.3.16): the page is the last where it has all that is left
abbrev pub read_directory : Tree → View → Identity → List ℕ → ℕ → List ℕ → ℕ → Reply
read_directory t view who handle cookie verifier count = about (object_of t view handle) (tail.Attributes None) (λ dir.
    unless (page_checks t who dir cookie verifier plain_length count) (tail.Attributes (Some (attributes t view dir)))
    (let left = entries_from t dir.number cookie in
    let page = fitting plain_length (room_for_entries count) left in
    reply.Directory (Some (attributes t view dir)) (cookie_verifier t dir.number) (map listed page) (length page == length left)))

-- READDIRPLUS (3.3.17): what fits by the whole entries in maxcount, and of that by numbers, names and cookies in dircount
abbrev pub read_directory_plus : Tree → View → Identity → List ℕ → ℕ → List ℕ → ℕ → ℕ → Reply
read_directory_plus t view who handle cookie verifier dircount maxcount = about (object_of t view handle) (tail.Attributes None) (λ dir.
    unless (page_checks t who dir cookie verifier long_length maxcount) (tail.Attributes (Some (attributes t view dir)))
    (let left = entries_from t dir.number cookie in
    let page = at_least_one left (fitting entry_length dircount (fitting long_length (room_for_entries maxcount) left)) in
    reply.DirectoryPlus (Some (attributes t view dir)) (cookie_verifier t dir.number) (map (listed_plus t view) page)
    (length page == length left)))
