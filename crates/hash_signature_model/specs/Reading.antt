-- Reading a public key and a signature from left to right, with the first fault that is met (RFC 8554, algorithms 4b, 6 and 6a).
use Rattle.std.specs.Prelude.{ℕ, ◌*◌, Bool, true, false, List, length, take, drop, Result, Ok, Err, nat_lt, ◌==◌, if◌then◌else◌}
use Rattle.std.specs.Int.{w32, from_be_bytes}
use Rattle.std.specs.Str.{bytes_eq}
use Rattle.hash_signature_model.specs.declared.set.Width.{Width}
use Rattle.hash_signature_model.specs.declared.set.Width.TheVariants.{W4, W8}
use Rattle.hash_signature_model.specs.declared.set.Height.{Height}
use Rattle.hash_signature_model.specs.declared.set.Height.TheVariants.{H5, H10}
use Rattle.hash_signature_model.specs.declared.set.Set.{Set}
use Rattle.hash_signature_model.specs.declared.set.LmsFault.{LmsFault}
use Rattle.hash_signature_model.specs.declared.set.LmsFault.TheVariants.{Unsupported, Malformed, Wrong}
use Rattle.hash_signature_model.specs.declared.keys.PublicKey.{PublicKey}
use Rattle.hash_signature_model.specs.Parameters.{chains, levels, leaves}
use Rattle.hash_signature_model.specs.Signatures.{Signature, root_from}

-- the next step of reading, where the one before it met no fault
infixl 10 ◌>>=◌
abbrev pub ◌>>=◌ : {A B : Type 0} → Result A LmsFault → (A → Result B LmsFault) → Result B LmsFault
(Ok x) >>= f = f x
(Err e) >>= f = Err e

-- the first n bytes, and those after them
unfoldable pub part_at : ℕ → List ℕ → Result (List ℕ × List ℕ) LmsFault
part_at n bytes = if nat_lt (length bytes) n then Err Malformed else Ok (take n bytes, drop n bytes)

-- a number of four bytes, and the bytes after it
unfoldable pub read_word : List ℕ → Result (ℕ × List ℕ) LmsFault
read_word bytes = if nat_lt (length bytes) 4 then Err Malformed else Ok (from_be_bytes w32 (take 4 bytes), drop 4 bytes)

-- the one-time types: 3 and 4 are of the profile, 1 and 2 of RFC 8554
unfoldable pub width_of : ℕ → Result Width LmsFault
width_of n = if n == 3 then Ok W4 else if n == 4 then Ok W8 else if n == 1 then Err Unsupported else if n == 2 then Err Unsupported else Err
    Malformed

-- the tree types: 5 and 6 are of the profile, 7 to 9 of RFC 8554
unfoldable pub height_of : ℕ → Result Height LmsFault
height_of n = if n == 5 then Ok H5 else if n == 6 then Ok H10 else if n == 7 then Err Unsupported else if n == 8 then Err Unsupported else
    if n == 9 then Err Unsupported else Err Malformed

abbrev pub same_width : Width → Width → Bool
same_width W4 W4 = true
same_width W4 W8 = false
same_width W8 W4 = false
same_width W8 W8 = true

abbrev pub same_height : Height → Height → Bool
same_height H5 H5 = true
same_height H5 H10 = false
same_height H10 H5 = false
same_height H10 H10 = true

-- a tree type or a one-time type, and the bytes after it
unfoldable pub height_at : List ℕ → Result (Height × List ℕ) LmsFault
height_at bytes = do
  n ← read_word bytes
  h ← height_of n.0
  Ok (h, n.1)

unfoldable pub width_at : List ℕ → Result (Width × List ℕ) LmsFault
width_at bytes = do
  n ← read_word bytes
  w ← width_of n.0
  Ok (w, n.1)

-- a public key, and the bytes after it (5.3)
unfoldable pub key_at : List ℕ → Result (PublicKey × List ℕ) LmsFault
key_at bytes = do
  h ← height_at bytes
  w ← width_at h.1
  id ← part_at 16 w.1
  root ← part_at 32 id.1
  Ok (record { set = record { w = w.0; h = h.0 }; id = id.0; root = root.0 }, root.1)

-- what was read, where no bytes are left after it
abbrev pub all_read : {A : Type 0} → A × List ℕ → Result A LmsFault
all_read read = if length read.1 == 0 then Ok read.0 else Err Malformed

-- a public key that is all of the bytes (5.4.2, algorithm 6, step 2)
unfoldable pub whole_key : List ℕ → Result PublicKey LmsFault
whole_key bytes = do
  k ← key_at bytes
  all_read k

-- the leaf's number, which is one of the tree
unfoldable pub leaf_at : Height → List ℕ → Result (ℕ × List ℕ) LmsFault
leaf_at h bytes = do
  leaf ← read_word bytes
  if nat_lt leaf.0 (leaves h) then Ok (leaf.0, leaf.1) else Err Malformed

-- the key's one-time type, and the key's tree type
unfoldable pub same_width_at : Width → List ℕ → Result (List ℕ) LmsFault
same_width_at w bytes = do
  found ← width_at bytes
  if same_width found.0 w then Ok found.1 else Err Malformed

unfoldable pub same_height_at : Height → List ℕ → Result (List ℕ) LmsFault
same_height_at h bytes = do
  found ← height_at bytes
  if same_height found.0 h then Ok found.1 else Err Malformed

-- a signature under a key of that set, and the bytes after it (4.5 and 5.4)
unfoldable pub signature_at : Set → List ℕ → Result (Signature × List ℕ) LmsFault
signature_at set bytes = do
  leaf ← leaf_at set.h bytes
  behind ← same_width_at set.w leaf.1
  randomizer ← part_at 32 behind
  values ← part_at (32 * chains set.w) randomizer.1
  rest ← same_height_at set.h values.1
  path ← part_at (32 * levels set.h) rest
  Ok (record { leaf = leaf.0; randomizer = randomizer.0; values = values.0; path = path.0 }, path.1)

-- a signature that is all of the bytes (5.4.2, algorithm 6a, step 2)
unfoldable pub whole_signature : Set → List ℕ → Result Signature LmsFault
whole_signature set bytes = do
  s ← signature_at set bytes
  all_read s

-- the answer about a public key, a message and a signature: the key is read before the signature, and `Wrong` comes
-- only after all was read (5.4.2, algorithm 6)
unfoldable pub verdict : List ℕ → List ℕ → List ℕ → Result (Unit {0}) LmsFault
verdict public message bytes = do
  k ← whole_key public
  s ← whole_signature k.set bytes
  if bytes_eq (root_from k.set k.id message s) k.root then Ok tt else Err Wrong
