-- Bytes are of one proof.
use Rattle.std.proofs.Common.{◌≡◌, ℕ, ◌+◌, ◌<◌, ◌≤◌, ◌^◌, List, length, sym, ap, ◌∙◌, length-append, arith}
use Rattle.wire_model.specs.Xdr.{opaque}
use Rattle.wire_model.proofs.OneReading.{◌▷◌, always, one_array, one_opaque, whole}
use Rattle.xdr_codec.specs.Writing.{padded}
use Rattle.xdr_codec.proofs.Lengths.{length-opaque}
use Rattle.ivy_base.specs.declared.key.PubKey.{PubKey}
use Rattle.log_model.specs.Vector.{Stamp}
use Rattle.log_model.specs.Spelling.{head_message}
use Rattle.log_records.proofs.OneHead.{one_head}
use Rattle.fork_model.specs.Bytes.{proof_tag}
use Rattle.fork_proof.specs.Forms.{Head, IsHead, ForkProof, bytes_of_head}
use Rattle.fork_proof.specs.Reading.{longest_head}
use Rattle.fork_proof.specs.Laws.{ProofsAreUnambiguous}
use Rattle.fork_proof.proofs.Claims.{message_length}

-- a head has 92 bytes and its signature, with zeros up to a multiple of four
pub head_bytes_few : (owner : PubKey) (h : Head) → IsHead owner h → length (bytes_of_head owner h) ≤ longest_head
head_bytes_few owner h f =
    let both : length (bytes_of_head owner h) ≡ length (head_message owner h.newest) + length (opaque h.signature) = length-append (head_message owner h.newest) (opaque h.signature) in
    let message : length (head_message owner h.newest) ≡ 88 = message_length owner h.newest f.owner_is_key.size f.name.size in
    let tail : length (opaque h.signature) ≡ 4 + padded (length h.signature) = length-opaque h.signature in
    omega (arith, both, message, tail, f.short)

short_head : (owner : PubKey) (h : Head) → IsHead owner h → length (bytes_of_head owner h) < 2 ^ 32
short_head owner h f = omega (arith, head_bytes_few owner h f)

same_head : (owner other : PubKey) (h g : Head) → IsHead owner h → IsHead other g → bytes_of_head owner h ≡ bytes_of_head other g → (owner ≡ other) × (h ≡ g)
same_head owner other h g f k e =
    let p = whole one_head ((owner, h.newest), h.signature) ((other, g.newest), g.signature)
    (f.owner_is_key, (f.some, f.few), f.name, f.short) (k.owner_is_key, (k.some, k.few), k.name, k.short) e in
    (ap (λ (x : (PubKey × Stamp) × List ℕ). x.0.0) p, ap (λ (x : (PubKey × Stamp) × List ℕ). record { newest = x.0.1; signature = x.1 }) p)

proof_is : (p q : ForkProof) → p.owner ≡ q.owner → p.low ≡ q.low → p.high ≡ q.high → p.blocks ≡ q.blocks → p ≡ q
proof_is p q a b c d = λ i. record { owner = a i; low = b i; high = c i; blocks = d i }

pub proofs_are_unambiguous : ProofsAreUnambiguous
proofs_are_unambiguous bytes p q f g =
    let chain = always proof_tag ▷ one_opaque ▷ one_opaque ▷ one_array one_opaque in
    let few : length p.blocks < 2 ^ 32 = omega (arith, f.fits.few) in
    let few_too : length q.blocks < 2 ^ 32 = omega (arith, g.fits.few) in
    let e = whole chain (((tt, bytes_of_head p.owner p.low), bytes_of_head p.owner p.high), p.blocks) (((tt, bytes_of_head q.owner q.low), bytes_of_head q.owner q.high), q.blocks)
    (((tt, short_head p.owner p.low f.fits.low), short_head p.owner p.high f.fits.high), (few, f.fits.short)) (((tt, short_head q.owner q.low g.fits.low), short_head q.owner q.high g.fits.high), (few_too, g.fits.short))
    (sym f.spelled ∙ g.spelled) in
    let low = same_head p.owner q.owner p.low q.low f.fits.low g.fits.low (ap (λ (x : ((Unit {0} × List ℕ) × List ℕ) × List (List ℕ)). x.0.0.1) e) in
    let high = same_head p.owner q.owner p.high q.high f.fits.high g.fits.high (ap (λ (x : ((Unit {0} × List ℕ) × List ℕ) × List (List ℕ)). x.0.1) e) in
    proof_is p q low.0 low.1 high.1 (ap (λ (x : ((Unit {0} × List ℕ) × List ℕ) × List (List ℕ)). x.1) e)
