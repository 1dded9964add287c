-- The definitions, tried on a store of a content block and a head. Keys are short here, and the judge takes a head's first
-- byte for its number.
use Rattle.std.proofs.Common.{◌≡◌, ℕ, List, [], ◌∷◌, Option, Some, None, map, refl}
use Rattle.std.specs.FinMap.Entries.{put}
use Rattle.ivy_base.specs.declared.key.Key.{Key}
use Rattle.ivy_base.specs.Naming.{key_cmp}
use Rattle.dht_ids.specs.declared.ask.StoreFault.TheVariants.{NotJudged, Older}
use Rattle.dht_ids.specs.declared.judge.Judged.{Judged}
use Rattle.dht_ids.specs.declared.post.PostKind.TheVariants as post
use Rattle.dhash_model.specs.Stores.{Blocks, content, head, bytes_held, bytes_at, without, number_at, head_fault, with_byte}
use Rattle.node_store.specs.Stores.{post_of}

abbrev short : ℕ → Key
short byte = record { 0 = byte ∷ [] }

abbrev judged : Key → List ℕ → Option Judged
judged key [] = None
judged key (seq ∷ rest) = Some (record { seq = seq; name = key })

abbrev two : Blocks
two = (short 1, content (7 ∷ 8 ∷ [])) ∷ (short 4, head (3 ∷ 7 ∷ 8 ∷ [])) ∷ []

counted : bytes_held two ≡ 5
counted = refl

in_place : bytes_held (put key_cmp (short 4) (head (4 ∷ [])) two) ≡ 3
in_place = refl

found : bytes_at (short 1) two ≡ Some (7 ∷ 8 ∷ [])
found = refl

left_out : without (short 1) two ≡ (short 4, head (3 ∷ 7 ∷ 8 ∷ [])) ∷ []
left_out = refl

content_has_no_number : number_at judged (short 1) two ≡ None
content_has_no_number = refl

as_old : head_fault judged (short 4) (3 ∷ []) two ≡ Some (Older 3)
as_old = refl

newer : head_fault judged (short 4) (4 ∷ []) two ≡ None
newer = refl

in_place_of_content : head_fault judged (short 1) (1 ∷ []) two ≡ None
in_place_of_content = refl

no_head : head_fault judged (short 4) [] two ≡ Some NotJudged
no_head = refl

damaged : with_byte (short 1) 1 9 two ≡ Some ((short 1, content (7 ∷ 9 ∷ [])) ∷ (short 4, head (3 ∷ 7 ∷ 8 ∷ [])) ∷ [])
damaged = refl

past_the_end : with_byte (short 1) 2 9 two ≡ None
past_the_end = refl

listed : map post_of two ≡ record { key = short 1; bytes = 7 ∷ 8 ∷ []; kind = post.Block } ∷ record { key = short 4; bytes = 3 ∷ 7 ∷ 8 ∷ []; kind = post.Head } ∷ []
listed = refl
