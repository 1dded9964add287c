-- The judge takes each head under its owner's key whose signature is accepted, and nothing else.
use Rattle.std.proofs.Common.{◌≡◌, ℕ, zero, suc, ◌<◌, ◌≤◌, ◌^◌, Bool, true, false, ◌&&◌, List, [], ◌∷◌, ◌++◌, length, take, drop, Option, Some, None, Result, Ok, Err, refl, sym, ap, ◌∙◌, arith, append_assoc, length-append, cond, subst}
use Rattle.std.specs.Prelude.{nat_lt, nat_le, IfSome, IfNone}
use Rattle.std.specs.Int.{w32, from_be_bytes}
use Rattle.std.specs.List.{list_all}
use Rattle.std.specs.Str.{bytes_eq}
use Rattle.std.proofs.lemmas.Bool.{eqb-true, eq-eqb, leb-true, le-leb, ltb-true}
use Rattle.std.proofs.lemmas.Option.{cond_some}
use Rattle.std.proofs.lemmas.List.{take_at, drop_at}
use Rattle.std.proofs.lemmas.Nat.{from_be_bytes-to_be_bytes_4}
use Rattle.std.proofs.lemmas.Slice.Eq.{bytes_eq-Decides}
use Rattle.ivy_base.specs.declared.key.Key.{Key}
use Rattle.ivy_base.specs.declared.key.PubKey.{PubKey}
use Rattle.ivy_base.specs.Naming.{head_key_of}
use Rattle.wire_model.specs.Xdr.{word, padding, opaque}
use Rattle.wire_model.proofs.OneReading.{whole}
use Rattle.log_model.specs.Vector.{Stamp}
use Rattle.log_model.specs.Spelling.{IsBlock, most_records, head_message, head_block, IsHeadOf, head_tag}
use Rattle.log_model.specs.Heads.{stamp, owner_in, seq_in, name_in, is_of_length}
use Rattle.dht_ids.specs.declared.judge.Judged.{Judged}
use Rattle.log_records.specs.Heads.{Parts}
use Rattle.log_records.proofs.OneHead.{one_head}
use Rattle.block_parts.proofs.Bytes.{all_bytes}
use Rattle.hash_signature_model.specs.declared.set.LmsFault.{LmsFault}
use Rattle.hash_signature_model.proofs.Readings.{IsBytes}
use Rattle.hss_keys.specs.Hss.{HssAccepts}
use Rattle.hash_signature_model.specs.Levels.{hss_verdict}
use Rattle.hss_keys.proofs.Acceptance.{hss_accepts_from, hss_yes_from}
use Rattle.dhash_model.specs.Signed.{are_bytes, signature_in, is_head_with, is_yes, is_signed, is_signed_head, hss_judged}
use Rattle.log_heads.specs.Signed.{IsSignedHead, SignedHeadsAreJudged}

first : (a b : Bool) → (a && b) ≡ true → a ≡ true
first true b h = refl
first false b h = cc

second : (a b : Bool) → (a && b) ≡ true → b ≡ true
second true b h = h
second false b h = cc

both : (a b : Bool) → a ≡ true → b ≡ true → (a && b) ≡ true
both true b h g = g
both false b h g = cc

block_from : (count : ℕ) (bytes : List ℕ) → is_of_length count bytes ≡ true → IsBlock count bytes
block_from count bytes h = record { size = eqb-true (length bytes) count (first _ _ h); each = second _ _ h }

block_tested : (count : ℕ) (bytes : List ℕ) → IsBlock count bytes → is_of_length count bytes ≡ true
block_tested count bytes f = both _ _ (eq-eqb (length bytes) count f.size) f.each

same_key : (a b : Key) → bytes_eq a.0 b.0 ≡ true → a ≡ b
same_key a b e = ap (λ (bytes : List ℕ). record { 0 = bytes }) ((bytes_eq-Decides a.0 b.0).0 e)

key_tested : (a b : Key) → a ≡ b → bytes_eq a.0 b.0 ≡ true
key_tested a b e = (bytes_eq-Decides a.0 b.0).1 (ap (λ (k : Key). k.0) e)

yes_from : (r : Result (Unit {0}) LmsFault) → is_yes r ≡ true → r ≡ Ok tt
yes_from (Ok x) e = refl
yes_from (Err fault) e = absurd (cc e)

-- ---- bytes

each_byte : (xs : List ℕ) → list_all (λ b. nat_lt b 256) xs ≡ true → IsBytes xs
each_byte [] h i = omega arith
each_byte (x ∷ xs) h zero = ltb-true x 256 (first (nat_lt x 256) (list_all (λ b. nat_lt b 256) xs) h)
each_byte (x ∷ xs) h (suc i) = each_byte xs (second (nat_lt x 256) (list_all (λ b. nat_lt b 256) xs) h) i

bytes_behind : (front rest : List ℕ) → IsBytes (front ++ rest) → IsBytes rest
bytes_behind [] rest h = h
bytes_behind (x ∷ front) rest h = bytes_behind front rest (λ i. h (suc i))

bytes_before : (front rest : List ℕ) → IsBytes (front ++ rest) → IsBytes front
bytes_before [] rest h i = omega arith
bytes_before (x ∷ front) rest h zero = h 0
bytes_before (x ∷ front) rest h (suc i) = bytes_before front rest (λ i. h (suc i)) i

signature_bytes : (bytes signed signature : List ℕ) → are_bytes bytes ≡ true → bytes ≡ signed ++ opaque signature → IsBytes signature
signature_bytes bytes signed signature octets e =
    let all : IsBytes (signed ++ opaque signature) = subst IsBytes e (each_byte bytes octets) in
    bytes_before signature (padding (length signature)) (bytes_behind (word (length signature)) (signature ++ padding (length signature)) (bytes_behind signed (opaque signature) all))

-- ---- the tests

from_tests : (bytes : List ℕ) (owner : PubKey) (seq : ℕ) (name : Key) (signature : List ℕ) → is_head_with bytes owner seq name signature ≡ true → (are_bytes bytes ≡ true) × IsHeadOf owner bytes (stamp seq name) signature
from_tests bytes owner seq name signature h =
    let six = first _ (bytes_eq bytes (head_block owner (stamp seq name) signature)) h in
    let five = first _ (are_bytes bytes) six in
    let four = first _ (nat_le (length signature) 16000) five in
    let three = first _ (is_of_length 20 name.0) four in
    let two = first _ (nat_le seq most_records) three in (
      second _ (are_bytes bytes) six,
      record {
        owner_is_key = block_from 60 owner.0 (first _ (nat_le 1 seq) two);
        some = leb-true 1 seq (second (is_of_length 60 owner.0) (nat_le 1 seq) two);
        few = leb-true seq most_records (second _ (nat_le seq most_records) three);
        name = block_from 20 name.0 (second _ (is_of_length 20 name.0) four);
        short = leb-true (length signature) 16000 (second _ (nat_le (length signature) 16000) five);
        spelled = (bytes_eq-Decides bytes (head_block owner (stamp seq name) signature)).0 (second _ (bytes_eq bytes (head_block owner (stamp seq name) signature)) h);
      },
    )

to_tests : (bytes : List ℕ) (owner : PubKey) (seq : ℕ) (name : Key) (signature : List ℕ) → are_bytes bytes ≡ true → IsHeadOf owner bytes (stamp seq name) signature → is_head_with bytes owner seq name signature ≡ true
to_tests bytes owner seq name signature octets f =
    both _ _ (both _ _ (both _ _ (both _ _ (both _ _ (both _ _ (block_tested 60 owner.0 f.owner_is_key) (le-leb 1 seq f.some)) (le-leb seq most_records f.few)) (block_tested 20 name.0 f.name))
    (le-leb (length signature) 16000 f.short)) octets) ((bytes_eq-Decides bytes (head_block owner (stamp seq name) signature)).1 f.spelled)

-- ---- the places

abbrev after_owner : ℕ → Key → List ℕ → List ℕ
after_owner seq name rest = word seq ++ (name.0 ++ rest)

abbrev placed : PubKey → ℕ → Key → List ℕ → List ℕ
placed owner seq name rest = head_tag ++ (owner.0 ++ after_owner seq name rest)

placed_from : (owner : PubKey) (seq : ℕ) (name : Key) (rest : List ℕ) → head_message owner (stamp seq name) ++ rest ≡ placed owner seq name rest
placed_from owner seq name rest = ap (λ (s : List ℕ). head_tag ++ s) (append_assoc (owner.0 ++ word seq) name.0 rest ∙ append_assoc owner.0 (word seq) (name.0 ++ rest))

owner_there : (owner : PubKey) (seq : ℕ) (name : Key) (rest : List ℕ) → length owner.0 ≡ 60 → owner_in (placed owner seq name rest) ≡ owner
owner_there owner seq name rest l = ap (λ (s : List ℕ). record { 0 = s }) (take_at owner.0 (after_owner seq name rest) 60 l)

seq_there : (owner : PubKey) (seq : ℕ) (name : Key) (rest : List ℕ) → length owner.0 ≡ 60 → seq < 2 ^ 32 → seq_in (placed owner seq name rest) ≡ seq
seq_there owner seq name rest l h = ap (λ (s : List ℕ). from_be_bytes w32 (take 4 s)) (drop_at owner.0 (after_owner seq name rest) 60 l) ∙ from_be_bytes-to_be_bytes_4 seq h

name_there : (owner : PubKey) (seq : ℕ) (name : Key) (rest : List ℕ) → length owner.0 ≡ 60 → length name.0 ≡ 20 → name_in (placed owner seq name rest) ≡ name
name_there owner seq name rest l k =
    let size : length (owner.0 ++ word seq) ≡ 64 = omega (arith, length-append owner.0 (word seq)) in
    ap (λ (s : List ℕ). record { 0 = take 20 (drop 64 s) }) (sym (append_assoc owner.0 (word seq) (name.0 ++ rest)))
    ∙ ap (λ (s : List ℕ). record { 0 = take 20 s }) (drop_at (owner.0 ++ word seq) (name.0 ++ rest) 64 size)
    ∙ ap (λ (s : List ℕ). record { 0 = s }) (take_at name.0 rest 20 k)

message_length : (owner : PubKey) (seq : ℕ) (name : Key) → length owner.0 ≡ 60 → length name.0 ≡ 20 → length (head_message owner (stamp seq name)) ≡ 88
message_length owner seq name l k =
    let four : length (word seq) ≡ 4 = refl in
    omega (arith, length-append (owner.0 ++ word seq) name.0, length-append owner.0 (word seq), four, l, k)

signature_there : (signed signature : List ℕ) → length signed ≡ 88 → length signature ≤ 16000 → signature_in (signed ++ opaque signature) ≡ signature
signature_there signed signature l h =
    let n = length signature in
    let after = signature ++ padding n in
    let four : length (word n) ≡ 4 = refl in
    let size : length (signed ++ word n) ≡ 92 = omega (arith, length-append signed (word n), four, l) in
    let count : from_be_bytes w32 (take 4 (drop 88 (signed ++ opaque signature))) ≡ n =
    ap (λ (s : List ℕ). from_be_bytes w32 (take 4 s)) (drop_at signed (opaque signature) 88 l) ∙ from_be_bytes-to_be_bytes_4 n (omega (arith, h)) in
    let there : drop 92 (signed ++ opaque signature) ≡ after = ap (drop 92) (sym (append_assoc signed (word n) after)) ∙ drop_at (signed ++ word n) after 92 size in
    ap (λ (m : ℕ). take m (drop 92 (signed ++ opaque signature))) count ∙ ap (take n) there ∙ take_at signature (padding n) n refl

same_tests : (key : Key) (bytes : List ℕ) (o w : PubKey) (m n : ℕ) (a b : Key) (s t : List ℕ) → o ≡ w → m ≡ n → a ≡ b → s ≡ t → is_signed key bytes o m a s ≡ is_signed key bytes w n b t
same_tests key bytes o w m n a b s t e f g h =
    ap (λ (o : PubKey). is_signed key bytes o m a s) e ∙ ap (λ (m : ℕ). is_signed key bytes w m a s) f ∙ ap (λ (a : Key). is_signed key bytes w n a s) g ∙ ap (λ (s : List ℕ). is_signed key bytes w n b s) h

-- ---- heads

tested : (key : Key) (bytes : List ℕ) (judged : Judged) (f : IsSignedHead key bytes judged) → is_signed key bytes f.owner judged.seq judged.name f.signature ≡ true
tested key bytes judged f =
    let message = head_message f.owner (stamp judged.seq judged.name) in
    both _ _ (both _ _ (to_tests bytes f.owner judged.seq judged.name f.signature f.octets f.head) (key_tested key (head_key_of f.owner) f.key_is))
    (ap is_yes (hss_yes_from f.owner.0 message f.signature f.accepted))

pub from_head : (key : Key) (bytes : List ℕ) (judged : Judged) → IsSignedHead key bytes judged → hss_judged key bytes ≡ Some judged
from_head key bytes judged f =
    let rest = opaque f.signature in
    let e = f.head.spelled ∙ placed_from f.owner judged.seq judged.name rest in
    let owner = ap owner_in e ∙ owner_there f.owner judged.seq judged.name rest f.head.owner_is_key.size in
    let seq = ap seq_in e ∙ seq_there f.owner judged.seq judged.name rest f.head.owner_is_key.size (omega (arith, f.head.few)) in
    let name = ap name_in e ∙ name_there f.owner judged.seq judged.name rest f.head.owner_is_key.size f.head.name.size in
    let long = message_length f.owner judged.seq judged.name f.head.owner_is_key.size f.head.name.size in
    let signature = ap signature_in f.head.spelled ∙ signature_there (head_message f.owner (stamp judged.seq judged.name)) f.signature long f.head.short in
    let accepted : is_signed_head key bytes ≡ true =
    same_tests key bytes (owner_in bytes) f.owner (seq_in bytes) judged.seq (name_in bytes) judged.name (signature_in bytes) f.signature owner seq name signature ∙ tested key bytes judged f in
    said accepted seq name
  where
    said : is_signed_head key bytes ≡ true → seq_in bytes ≡ judged.seq → name_in bytes ≡ judged.name → hss_judged key bytes ≡ Some judged
    said accepted seq name = ap (λ (b : Bool). cond b (Some (record { seq = seq_in bytes; name = name_in bytes })) None) accepted ∙ ap (λ (n : ℕ). Some (record { seq = n; name = name_in bytes })) seq ∙ ap (λ (k : Key). Some (record { seq = judged.seq; name = k })) name

signed_from : (key : Key) (bytes : List ℕ) (owner : PubKey) (seq : ℕ) (name : Key) (signature : List ℕ) → is_signed key bytes owner seq name signature ≡ true → IsSignedHead key bytes (record { seq = seq; name = name })
signed_from key bytes owner seq name signature h =
    let message = head_message owner (stamp seq name) in
    let verdict = hss_verdict owner.0 message signature in
    let front = first _ (is_yes verdict) h in
    let f = from_tests bytes owner seq name signature (first _ (bytes_eq key.0 (head_key_of owner).0) front) in
    let yes : verdict ≡ Ok tt = yes_from verdict (second _ (is_yes verdict) h) in
    record {
      owner = owner;
      signature = signature;
      octets = f.0;
      head = f.1;
      key_is = same_key key (head_key_of owner) (second _ (bytes_eq key.0 (head_key_of owner).0) front);
      accepted = hss_accepts_from owner.0 message signature (each_byte owner.0 f.1.owner_is_key.each) (signature_bytes bytes message signature f.0 f.1.spelled) yes;
    }

to_head : (key : Key) (bytes : List ℕ) (judged : Judged) → hss_judged key bytes ≡ Some judged → IsSignedHead key bytes judged
to_head key bytes judged e =
    let p = cond_some (is_signed_head key bytes) (record { seq = seq_in bytes; name = name_in bytes }) judged e in
    subst (IsSignedHead key bytes) p.1 (signed_from key bytes (owner_in bytes) (seq_in bytes) (name_in bytes) (signature_in bytes) p.0)

pub signed_heads : SignedHeadsAreJudged
signed_heads key bytes judged = (to_head key bytes judged, from_head key bytes judged)

-- what a judge finds
pub judged_as : (key : Key) (bytes : List ℕ) (found : Option Judged) → IfSome found (IsSignedHead key bytes) → IfNone found ((judged : Judged) → IsSignedHead key bytes judged → ⊥)
    → found ≡ hss_judged key bytes
judged_as key bytes (Some judged) f g = sym (from_head key bytes judged f)
judged_as key bytes None f g = nothing (hss_judged key bytes) refl
  where
    nothing : (o : Option Judged) → hss_judged key bytes ≡ o → None ≡ hss_judged key bytes
    nothing None e = sym e
    nothing (Some judged) e = absurd (g judged (to_head key bytes judged e))

-- ---- a head that was read

signed_front : (bytes : List ℕ) (owner : PubKey) (newest : Stamp) (signature : List ℕ) → IsHeadOf owner bytes newest signature → take 88 bytes ≡ head_message owner newest
signed_front bytes owner newest signature f =
    ap (take 88) f.spelled ∙ take_at (head_message owner newest) (opaque signature) 88 (message_length owner newest.seq newest.name f.owner_is_key.size f.name.size)

pub long_enough : (bytes : List ℕ) (owner : PubKey) (newest : Stamp) (signature : List ℕ) → IsHeadOf owner bytes newest signature → 88 ≤ length bytes
long_enough bytes owner newest signature f =
    let message = head_message owner newest in
    let all : length bytes ≡ length (message ++ opaque signature) = ap (λ (s : List ℕ). length s) f.spelled in
    omega (arith, all, length-append message (opaque signature), message_length owner newest.seq newest.name f.owner_is_key.size f.name.size)

pub no_head : (key : Key) (bytes : List ℕ) → ((owner : PubKey) (newest : Stamp) (signature : List ℕ) → IsHeadOf owner bytes newest signature → ⊥) → (judged : Judged) → IsSignedHead key bytes judged → ⊥
no_head key bytes absent judged f = absent f.owner (stamp judged.seq judged.name) f.signature f.head

pub signed_head : (key : Key) (bytes : List ℕ) (owner : PubKey) (judged : Judged) (part signature : List ℕ) → IsBytes bytes → IsHeadOf owner bytes (stamp judged.seq judged.name) signature
    → part ≡ take 88 bytes → (key ≡ head_key_of owner) × HssAccepts owner.0 part signature → IsSignedHead key bytes judged
signed_head key bytes owner judged part signature octets f front g =
    record {
      owner = owner;
      signature = signature;
      octets = all_bytes bytes octets;
      head = f;
      key_is = g.0;
      accepted = subst (λ (m : List ℕ). HssAccepts owner.0 m signature) (front ∙ signed_front bytes owner (stamp judged.seq judged.name) signature f) g.1;
    }

pub other_head : (key : Key) (bytes : List ℕ) (owner : PubKey) (newest : Stamp) (part signature : List ℕ) → IsHeadOf owner bytes newest signature → part ≡ take 88 bytes
    → ((key ≡ head_key_of owner) × HssAccepts owner.0 part signature → ⊥) → (judged : Judged) → IsSignedHead key bytes judged → ⊥
other_head key bytes owner newest part signature f front differs judged g =
    let same : ((owner, newest), signature) ≡ ((g.owner, stamp judged.seq judged.name), g.signature) = whole one_head ((owner, newest), signature) ((g.owner, stamp judged.seq judged.name), g.signature)
    (f.owner_is_key, (f.some, f.few), f.name, f.short) (g.head.owner_is_key, (g.head.some, g.head.few), g.head.name, g.head.short) (sym f.spelled ∙ g.head.spelled) in
    let message = front ∙ signed_front bytes g.owner (stamp judged.seq judged.name) g.signature g.head in
    let accepted : HssAccepts g.owner.0 part g.signature = subst (λ (m : List ℕ). HssAccepts g.owner.0 m g.signature) (sym message) g.accepted in
    differs (g.key_is ∙ sym (ap (λ (p : Parts). head_key_of p.0.0) same), subst (λ (p : Parts). HssAccepts p.0.0.0 part p.1) (sym same) accepted)

-- the number that stands in a head is that of its verdict
pub judged_below : (key : Key) (bytes : List ℕ) (owner : PubKey) (newest : Stamp) (signature : List ℕ) (seq : ℕ) → IsHeadOf owner bytes newest signature → newest.seq < seq → (judged : Judged) → hss_judged key bytes ≡ Some judged → judged.seq < seq
judged_below key bytes owner newest signature seq f below judged is =
    let g = to_head key bytes judged is in
    let same : ((owner, newest), signature) ≡ ((g.owner, stamp judged.seq judged.name), g.signature) = whole one_head ((owner, newest), signature) ((g.owner, stamp judged.seq judged.name), g.signature)
    (f.owner_is_key, (f.some, f.few), f.name, f.short) (g.head.owner_is_key, (g.head.some, g.head.few), g.head.name, g.head.short) (sym f.spelled ∙ g.head.spelled) in
    subst (λ (p : Parts). p.0.1.seq < seq) same below

pub none_judged : (key : Key) (bytes : List ℕ) (seq : ℕ) → ((owner : PubKey) (newest : Stamp) (signature : List ℕ) → IsHeadOf owner bytes newest signature → ⊥) → (judged : Judged) → hss_judged key bytes ≡ Some judged → judged.seq < seq
none_judged key bytes seq absent judged is = absurd (no_head key bytes absent judged (to_head key bytes judged is))
