-- What a node's store of blocks holds, and what it takes: content blocks under their names (CFS, SOSP 2001, section 3), and heads
-- of logs under the digests of the logs' public keys, a newer one for an older (Ivy, OSDI 2002, section 3).
use Rattle.std.specs.Prelude.{ℕ, nat_le, nat_lt, not, List, length, sum_by, Option, Some, None, option_map, option_and_then, slice_set}
use Rattle.std.specs.Prelude.{if◌then◌else◌}
use Rattle.std.specs.FinMap.Entries.{find as value_at, put, where_key}
use Rattle.std.specs.Map.{values_of}
use Rattle.std.specs.Option.{option_or}
use Rattle.std.specs.Ordering.{eq_by_cmp}
use Rattle.ivy_base.specs.declared.key.Key.{Key}
use Rattle.ivy_base.specs.Naming.{name, key_cmp}
use Rattle.dht_ids.specs.declared.ask.StoreFault.{StoreFault}
use Rattle.dht_ids.specs.declared.ask.StoreFault.TheVariants.{WrongName, NotJudged, Older, Full}
use Rattle.dht_ids.specs.declared.judge.Judged.{Judged}
use Rattle.dhash_model.specs.declared.kind.BlockKind.{BlockKind}
use Rattle.dhash_model.specs.declared.kind.BlockKind.TheVariants.{Content, Head}

-- ---- what is held

-- a block as it is held: how it was put, and its bytes
pub record Block : Type 0 where
  pub kind : BlockKind
  pub bytes : List ℕ

-- blocks by their keys
abbrev pub Blocks : Type 0
Blocks = List (Key × Block)

-- a block that was put as content
abbrev pub content : List ℕ → Block
content bytes = record { kind = Content; bytes = bytes }

-- a block that was put as a head
abbrev pub head : List ℕ → Block
head bytes = record { kind = Head; bytes = bytes }

-- how many bytes these blocks have in all
abbrev pub bytes_held : Blocks → ℕ
bytes_held blocks = sum_by (λ block. length block.bytes) (values_of blocks)

-- the most bytes that a store holds: 2^28
abbrev pub store_capacity : ℕ
store_capacity = 268435456

-- the bytes that are held under the key
abbrev pub bytes_at : Key → Blocks → Option (List ℕ)
bytes_at key blocks = option_map (λ block. block.bytes) (value_at key_cmp key blocks)

-- the blocks of the other keys
abbrev pub without : Key → Blocks → Blocks
without key blocks = where_key key_cmp (λ k. not (eq_by_cmp key_cmp key k)) blocks

-- ---- why a block isn't taken

-- WrongName: the key isn't the SHA-1 of the bytes
abbrev pub wrong_name : Key → List ℕ → Option StoreFault
wrong_name key bytes = if eq_by_cmp key_cmp key (name bytes) then None else Some WrongName

-- NotJudged: the judge takes the bytes for no head of that key
abbrev pub not_judged : Option Judged → Option StoreFault
not_judged None = Some NotJudged
not_judged (Some new) = None

-- Older: the head that is held has a number that isn't below the new one's
abbrev pub older : Option ℕ → Option Judged → Option StoreFault
older (Some seq) (Some new) = if nat_le new.seq seq then Some (Older seq) else None
older _ _ = None

-- Full: with the block in place of what the key holds, there would be more bytes than the capacity
abbrev pub full : Key → Block → Blocks → Option StoreFault
full key block blocks = if nat_lt store_capacity (bytes_held (put key_cmp key block blocks)) then Some Full else None

-- the number that a block has by its judge: None where it was put as content, or the judge doesn't take it for a head
abbrev pub number_of : (List ℕ → Option Judged) → Block → Option ℕ
number_of judges block = number_as block.kind (judges block.bytes)
  where
    number_as : BlockKind → Option Judged → Option ℕ
    number_as Content judged = None
    number_as Head judged = option_map (λ j. j.seq) judged

-- the number of the head that is held under the key
abbrev pub number_at : (Key → List ℕ → Option Judged) → Key → Blocks → Option ℕ
number_at judges key blocks = option_and_then (number_of (judges key)) (value_at key_cmp key blocks)

-- the first fault that a content block has, in the order of the tests
abbrev pub content_fault : Key → List ℕ → Blocks → Option StoreFault
content_fault key bytes blocks = option_or (wrong_name key bytes) (full key (content bytes) blocks)

-- the first fault that a head has
abbrev pub head_fault : (Key → List ℕ → Option Judged) → Key → List ℕ → Blocks → Option StoreFault
head_fault judges key bytes blocks =
    option_or (not_judged (judges key bytes))
    (option_or (older (number_at judges key blocks) (judges key bytes)) (full key (head bytes) blocks))

-- ---- damage, and what is listed

-- the block with another byte at that place
abbrev pub spoiled : ℕ → ℕ → Block → Block
spoiled offset byte block = record { kind = block.kind; bytes = slice_set block.bytes offset byte }

-- the blocks with that byte of that one changed, where such a byte is held
abbrev pub with_byte : Key → ℕ → ℕ → Blocks → Option Blocks
with_byte key offset byte blocks =
    option_and_then (λ block. if nat_lt offset (length block.bytes) then Some
    (put key_cmp key (spoiled offset byte block) blocks) else None) (value_at key_cmp key blocks)
