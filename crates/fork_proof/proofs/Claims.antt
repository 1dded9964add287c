-- What the signature of a head signs is the front of its block.
use Rattle.std.proofs.Common.{◌≡◌, ℕ, ◌+◌, List, ◌++◌, length, take, refl, ap, ◌∙◌, length-append, arith}
use Rattle.std.proofs.lemmas.List.{take_at}
use Rattle.ivy_base.specs.declared.key.PubKey.{PubKey}
use Rattle.wire_model.specs.Xdr.{word, opaque}
use Rattle.wire_model.proofs.OneReading.{word_length}
use Rattle.log_model.specs.Vector.{Stamp}
use Rattle.log_model.specs.Spelling.{IsHeadOf, head_message, head_tag}

pub message_length : (owner : PubKey) (newest : Stamp) → length owner.0 ≡ 60 → length newest.name.0 ≡ 20 → length (head_message owner newest) ≡ 88
message_length owner newest l k =
    let whole : length (head_message owner newest) ≡ length ((head_tag ++ owner.0) ++ word newest.seq) + length newest.name.0 = length-append ((head_tag ++ owner.0) ++ word newest.seq) newest.name.0 in
    let more : length ((head_tag ++ owner.0) ++ word newest.seq) ≡ length (head_tag ++ owner.0) + length (word newest.seq) = length-append (head_tag ++ owner.0) (word newest.seq) in
    let front : length (head_tag ++ owner.0) ≡ length head_tag + length owner.0 = length-append head_tag owner.0 in
    let four : length (word newest.seq) ≡ 4 = word_length newest.seq in
    let tag : length head_tag ≡ 4 = refl in
    omega (arith, whole, more, front, four, tag, l, k)

pub signed_front : (bytes : List ℕ) (owner : PubKey) (newest : Stamp) (signature : List ℕ) → IsHeadOf owner bytes newest signature → take 88 bytes ≡ head_message owner newest
signed_front bytes owner newest signature f =
    ap (take 88) f.spelled ∙ take_at (head_message owner newest) (opaque signature) 88 (message_length owner newest f.owner_is_key.size f.name.size)
