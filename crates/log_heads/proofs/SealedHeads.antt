-- A head that its owner sealed is judged.
use Rattle.std.proofs.Common.{◌≡◌, ℕ, zero, suc, ◌+◌, ◌*◌, ◌≤◌, List, [], ◌∷◌, ◌++◌, length, take, drop, refl, sym, ap, ◌∙◌, arith, append_assoc, length-append}
use Rattle.std.specs.Prelude.{replicate}
use Rattle.std.proofs.lemmas.List.{take_at, drop_at, append-nil}
use borrow.Rule.Slice.PartMut.{put_mid}
use Rattle.ivy_base.specs.declared.key.Key.{Key}
use Rattle.ivy_base.specs.declared.key.PubKey.{PubKey}
use Rattle.ivy_base.specs.Naming.{head_key_of}
use Rattle.wire_model.specs.Xdr.{word}
use Rattle.log_model.specs.Spelling.{head_message, head_tag}
use Rattle.log_model.specs.Heads.{stamp}
use Rattle.hash_signature_model.specs.declared.set.Width.{Width}
use Rattle.hash_signature_model.specs.declared.set.Width.TheVariants.{W4, W8}
use Rattle.hash_signature_model.specs.declared.set.Height.{Height}
use Rattle.hash_signature_model.specs.declared.set.Height.TheVariants.{H5, H10}
use Rattle.hash_signature_model.specs.Parameters.{chains, levels, ots_type, lms_type}
use Rattle.hash_signature_model.specs.Signatures.{public_key, Accepts}
use Rattle.lms_core.proofs.Pieces.{length_signature}
use Rattle.hss_keys.specs.Hss.{IsSigned, HssAccepts}
use Rattle.log_heads.specs.Sealed.{SealedHeadsAreJudged}
use Rattle.log_heads.proofs.SignedHeads.{from_head}

-- ---- what is signed

pub message_is : (owner : PubKey) (seq : ℕ) (name : Key) → (head_tag ++ owner.0) ++ (word seq ++ name.0) ≡ head_message owner (stamp seq name)
message_is owner seq name = sym (append_assoc (head_tag ++ owner.0) (word seq) name.0)

-- two parts that fill all of the bytes
pub joined_are : (front back first second : List ℕ) → length front ≡ 64 → first ≡ front → second ≡ back → put_mid 64 24 (first ++ replicate 24 0) second ≡ front ++ back
joined_are front back first second wide first_is second_is =
    let zeros : List ℕ = replicate 24 0 in
    let begins : take 64 (front ++ zeros) ≡ front = take_at front zeros 64 wide in
    let ends : drop 24 (drop 64 (front ++ zeros)) ≡ [] = ap (drop 24) (drop_at front zeros 64 wide) in
    (λ i. put_mid 64 24 (first_is i ++ zeros) (second_is i)) ∙ (λ i. begins i ++ (back ++ ends i)) ∙ ap (λ (s : List ℕ). front ++ s) (append-nil back)

-- ---- how long signatures are

few_chains : (w : Width) → chains w ≤ 67
few_chains W4 = omega arith
few_chains W8 = omega arith

few_levels : (h : Height) → levels h ≤ 10
few_levels H5 = omega arith
few_levels H10 = omega arith

level_short : (key message bytes : List ℕ) → Accepts key message bytes → length bytes ≤ 2508
level_short key message bytes f =
    let size : length bytes ≡ 12 + 32 * (1 + chains f.k.set.w + levels f.k.set.h) = ap (λ (s : List ℕ). length s) f.signature_is ∙ length_signature f.k.set f.s f.signature_fits in
    omega (arith, size, few_chains f.k.set.w, few_levels f.k.set.h)

level_key : (key message bytes : List ℕ) → Accepts key message bytes → length key ≡ 56
level_key key message bytes f =
    let k = f.k in
    let a = word (lms_type k.set.h) in
    let b = word (ots_type k.set.w) in
    let la : length a ≡ 4 = refl in
    let lb : length b ≡ 4 = refl in
    let size : length key ≡ length (public_key k) = ap (λ (s : List ℕ). length s) f.key_is in
    omega (arith, size, la, lb, length-append a b, length-append (a ++ b) k.id, length-append (a ++ b ++ k.id) k.root, f.key_fits.id_length, f.key_fits.root_length)

signed_key : (between : ℕ) (key message bytes : List ℕ) → IsSigned between key message bytes → length key ≡ 56
signed_key zero key message bytes f = level_key key message bytes f
signed_key (suc between) key message bytes (upper, next, rest, is, f, g) = level_key key next upper f

signed_short : (between : ℕ) (key message bytes : List ℕ) → IsSigned between key message bytes → length bytes ≤ 2508 + 2564 * between
signed_short zero key message bytes f = level_short key message bytes f
signed_short (suc between) key message bytes (upper, next, rest, is, f, g) =
    let size : length bytes ≡ length (upper ++ next ++ rest) = ap (λ (s : List ℕ). length s) is in
    omega (arith, size, length-append upper next, length-append (upper ++ next) rest, level_short key next upper f, signed_key between next message rest g, signed_short between next message rest g)

accepted_short : (public message bytes : List ℕ) → HssAccepts public message bytes → length bytes ≤ 16000
accepted_short public message bytes f =
    let w = word f.between in
    let four : length w ≡ 4 = refl in
    let size : length bytes ≡ length (w ++ f.rest) = ap (λ (s : List ℕ). length s) f.signature_is in
    omega (arith, size, four, length-append w f.rest, f.profile, signed_short f.between f.top message f.rest f.signed)

-- ---- heads

pub sealed_heads : SealedHeadsAreJudged
sealed_heads owner seq name signed bytes key number name_is octets is accepted =
    from_head (head_key_of owner) bytes (record { seq = seq; name = name }) (record {
      owner = owner;
      signature = signed;
      octets = octets;
      head = record {
        owner_is_key = key;
        some = number.0;
        few = number.1;
        name = name_is;
        short = accepted_short owner.0 (head_message owner (stamp seq name)) signed accepted;
        spelled = is;
      };
      key_is = refl;
      accepted = accepted;
    })
