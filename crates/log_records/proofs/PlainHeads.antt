-- The plain judge takes each head with an empty signature under its owner's key, and nothing else.
use Rattle.std.proofs.Common.{◌≡◌, ℕ, ◌<◌, ◌^◌, Bool, true, false, ◌&&◌, List, [], ◌∷◌, ◌++◌, length, take, drop, Option, Some, None, refl, sym, ap, ◌∙◌, arith, append_assoc, length-append, cond, subst}
use Rattle.std.specs.Prelude.{◌↔◌, nat_le, IfSome, IfNone}
use Rattle.std.specs.Int.{w32, from_be_bytes}
use Rattle.std.specs.Str.{bytes_eq}
use Rattle.std.proofs.lemmas.Bool.{eqb-true, eq-eqb, leb-true, le-leb}
use Rattle.std.proofs.lemmas.Option.{cond_some}
use Rattle.std.proofs.lemmas.List.{take_at, drop_at}
use Rattle.std.proofs.lemmas.Nat.{from_be_bytes-to_be_bytes_4}
use Rattle.std.proofs.lemmas.Slice.Eq.{bytes_eq-Decides}
use Rattle.ivy_base.specs.declared.key.Key.{Key}
use Rattle.ivy_base.specs.declared.key.PubKey.{PubKey}
use Rattle.ivy_base.specs.Naming.{head_key_of}
use Rattle.wire_model.specs.Xdr.{word, opaque}
use Rattle.wire_model.proofs.OneReading.{whole}
use Rattle.log_model.specs.Vector.{Stamp}
use Rattle.log_model.specs.Spelling.{IsBlock, most_records, head_block, IsHeadOf, head_tag}
use Rattle.log_model.specs.Heads.{stamp, owner_in, seq_in, name_in, is_of_length}
use Rattle.dht_ids.specs.declared.judge.Judged.{Judged}
use Rattle.log_records.specs.Heads.{Parts, IsPlainHead, is_plain, is_plain_head, plain_judged}
use Rattle.log_records.specs.Laws.{PlainHeadsAreJudged}
use Rattle.block_parts.proofs.Tested.{same_key}
use Rattle.log_records.proofs.OneHead.{one_head}

first : (a b : Bool) → (a && b) ≡ true → a ≡ true
first true b h = refl
first false b h = cc

second : (a b : Bool) → (a && b) ≡ true → b ≡ true
second true b h = h
second false b h = cc

both : (a b : Bool) → a ≡ true → b ≡ true → (a && b) ≡ true
both true b h g = g
both false b h g = cc

block_from : (count : ℕ) (bytes : List ℕ) → is_of_length count bytes ≡ true → IsBlock count bytes
block_from count bytes h = record { size = eqb-true (length bytes) count (first _ _ h); each = second _ _ h }

block_tested : (count : ℕ) (bytes : List ℕ) → IsBlock count bytes → is_of_length count bytes ≡ true
block_tested count bytes f = both _ _ (eq-eqb (length bytes) count f.size) f.each

pub keys_decide : (a b c : Key) (same : Bool) → same ≡ bytes_eq a.0 b.0 → b ≡ c → (same ≡ true) ↔ (a ≡ c)
keys_decide a b c same e is =
    (λ t. same_key a b ((bytes_eq-Decides a.0 b.0).0 (sym e ∙ t)) ∙ is, λ f. e ∙ (bytes_eq-Decides a.0 b.0).1 (ap (λ (k : Key). k.0) (f ∙ sym is)))

-- ---- the tests

from_tests : (key : Key) (bytes : List ℕ) (owner : PubKey) (seq : ℕ) (name : Key) → is_plain key bytes owner seq name ≡ true → IsHeadOf owner bytes (stamp seq name) [] × (key ≡ head_key_of owner)
from_tests key bytes owner seq name h =
    let five = first _ (bytes_eq key.0 (head_key_of owner).0) h in
    let four = first _ (bytes_eq bytes (head_block owner (stamp seq name) [])) five in
    let three = first _ (is_of_length 20 name.0) four in
    let two = first _ (nat_le seq most_records) three in (
      record {
        owner_is_key = block_from 60 owner.0 (first _ (nat_le 1 seq) two);
        some = leb-true 1 seq (second (is_of_length 60 owner.0) (nat_le 1 seq) two);
        few = leb-true seq most_records (second _ (nat_le seq most_records) three);
        name = block_from 20 name.0 (second _ (is_of_length 20 name.0) four);
        short = omega arith;
        spelled = (bytes_eq-Decides bytes (head_block owner (stamp seq name) [])).0 (second _ (bytes_eq bytes (head_block owner (stamp seq name) [])) five);
      },
      same_key key (head_key_of owner) ((bytes_eq-Decides key.0 (head_key_of owner).0).0 (second _ (bytes_eq key.0 (head_key_of owner).0) h)),
    )

to_tests : (key : Key) (bytes : List ℕ) (owner : PubKey) (seq : ℕ) (name : Key) → IsHeadOf owner bytes (stamp seq name) [] → key ≡ head_key_of owner → is_plain key bytes owner seq name ≡ true
to_tests key bytes owner seq name f e =
    both _ _ (both _ _ (both _ _ (both _ _ (both _ _ (block_tested 60 owner.0 f.owner_is_key) (le-leb 1 seq f.some)) (le-leb seq most_records f.few)) (block_tested 20 name.0 f.name))
    ((bytes_eq-Decides bytes (head_block owner (stamp seq name) [])).1 f.spelled))
    ((bytes_eq-Decides key.0 (head_key_of owner).0).1 (ap (λ (k : Key). k.0) e))

-- ---- the places

abbrev after_owner : ℕ → Key → List ℕ
after_owner seq name = word seq ++ (name.0 ++ opaque [])

abbrev placed : PubKey → ℕ → Key → List ℕ
placed owner seq name = head_tag ++ (owner.0 ++ after_owner seq name)

spelled_from : (owner : PubKey) (seq : ℕ) (name : Key) → head_block owner (stamp seq name) [] ≡ placed owner seq name
spelled_from owner seq name = ap (λ (s : List ℕ). head_tag ++ s) (append_assoc (owner.0 ++ word seq) name.0 (opaque []) ∙ append_assoc owner.0 (word seq) (name.0 ++ opaque []))

owner_there : (owner : PubKey) (seq : ℕ) (name : Key) → length owner.0 ≡ 60 → owner_in (placed owner seq name) ≡ owner
owner_there owner seq name l = ap (λ (s : List ℕ). record { 0 = s }) (take_at owner.0 (after_owner seq name) 60 l)

seq_there : (owner : PubKey) (seq : ℕ) (name : Key) → length owner.0 ≡ 60 → seq < 2 ^ 32 → seq_in (placed owner seq name) ≡ seq
seq_there owner seq name l h = ap (λ (s : List ℕ). from_be_bytes w32 (take 4 s)) (drop_at owner.0 (after_owner seq name) 60 l) ∙ from_be_bytes-to_be_bytes_4 seq h

name_there : (owner : PubKey) (seq : ℕ) (name : Key) → length owner.0 ≡ 60 → length name.0 ≡ 20 → name_in (placed owner seq name) ≡ name
name_there owner seq name l k =
    let size : length (owner.0 ++ word seq) ≡ 64 = omega (arith, length-append owner.0 (word seq)) in
    ap (λ (s : List ℕ). record { 0 = take 20 (drop 64 s) }) (sym (append_assoc owner.0 (word seq) (name.0 ++ opaque [])))
    ∙ ap (λ (s : List ℕ). record { 0 = take 20 s }) (drop_at (owner.0 ++ word seq) (name.0 ++ opaque []) 64 size)
    ∙ ap (λ (s : List ℕ). record { 0 = s }) (take_at name.0 (opaque []) 20 k)

same_tests : (key : Key) (bytes : List ℕ) (o w : PubKey) (m n : ℕ) (a b : Key) → o ≡ w → m ≡ n → a ≡ b → is_plain key bytes o m a ≡ is_plain key bytes w n b
same_tests key bytes o w m n a b e f g = ap (λ (o : PubKey). is_plain key bytes o m a) e ∙ ap (λ (m : ℕ). is_plain key bytes w m a) f ∙ ap (λ (a : Key). is_plain key bytes w n a) g

-- ---- heads

pub from_head : (key : Key) (bytes : List ℕ) (judged : Judged) → IsPlainHead key bytes judged → plain_judged key bytes ≡ Some judged
from_head key bytes judged f =
    let e = f.head.spelled ∙ spelled_from f.owner judged.seq judged.name in
    let owner = ap owner_in e ∙ owner_there f.owner judged.seq judged.name f.head.owner_is_key.size in
    let seq = ap seq_in e ∙ seq_there f.owner judged.seq judged.name f.head.owner_is_key.size (omega (arith, f.head.few)) in
    let name = ap name_in e ∙ name_there f.owner judged.seq judged.name f.head.owner_is_key.size f.head.name.size in
    let tested : is_plain_head key bytes ≡ true = same_tests key bytes (owner_in bytes) f.owner (seq_in bytes) judged.seq (name_in bytes) judged.name owner seq name ∙ to_tests key bytes f.owner judged.seq judged.name f.head f.key_is in
    said tested seq name
  where
    said : is_plain_head key bytes ≡ true → seq_in bytes ≡ judged.seq → name_in bytes ≡ judged.name → plain_judged key bytes ≡ Some judged
    said tested seq name = ap (λ (b : Bool). cond b (Some (record { seq = seq_in bytes; name = name_in bytes })) None) tested ∙ ap (λ (n : ℕ). Some (record { seq = n; name = name_in bytes })) seq ∙ ap (λ (k : Key). Some (record { seq = judged.seq; name = k })) name

to_head : (key : Key) (bytes : List ℕ) (judged : Judged) → plain_judged key bytes ≡ Some judged → IsPlainHead key bytes judged
to_head key bytes judged e =
    let p = cond_some (is_plain_head key bytes) (record { seq = seq_in bytes; name = name_in bytes }) judged e in
    let h = from_tests key bytes (owner_in bytes) (seq_in bytes) (name_in bytes) p.0 in
    subst (IsPlainHead key bytes) p.1 (record { owner = owner_in bytes; head = h.0; key_is = h.1 })

pub plain_heads_are_judged : PlainHeadsAreJudged
plain_heads_are_judged key bytes judged = (to_head key bytes judged, from_head key bytes judged)

-- what a judge finds
pub judged_as : (key : Key) (bytes : List ℕ) (found : Option Judged) → IfSome found (IsPlainHead key bytes) → IfNone found ((judged : Judged) → IsPlainHead key bytes judged → ⊥)
    → found ≡ plain_judged key bytes
judged_as key bytes (Some judged) f g = sym (from_head key bytes judged f)
judged_as key bytes None f g = nothing (plain_judged key bytes) refl
  where
    nothing : (o : Option Judged) → plain_judged key bytes ≡ o → None ≡ plain_judged key bytes
    nothing None e = sym e
    nothing (Some judged) e = absurd (g judged (to_head key bytes judged e))

-- ---- a head that was read

pub no_head : (key : Key) (bytes : List ℕ) → ((owner : PubKey) (newest : Stamp) (signature : List ℕ) → IsHeadOf owner bytes newest signature → ⊥) → (judged : Judged) → IsPlainHead key bytes judged → ⊥
no_head key bytes absent judged f = absent f.owner (stamp judged.seq judged.name) [] f.head

pub plain_head : (key : Key) (bytes : List ℕ) (owner : PubKey) (judged : Judged) (signature : List ℕ) → IsHeadOf owner bytes (stamp judged.seq judged.name) signature
    → (signature ≡ []) × (key ≡ head_key_of owner) → IsPlainHead key bytes judged
plain_head key bytes owner judged signature f g = record { owner = owner; head = rw g.0 at f; key_is = g.1 }

pub other_head : (key : Key) (bytes : List ℕ) (owner : PubKey) (newest : Stamp) (signature : List ℕ) → IsHeadOf owner bytes newest signature
    → ((signature ≡ []) × (key ≡ head_key_of owner) → ⊥) → (judged : Judged) → IsPlainHead key bytes judged → ⊥
other_head key bytes owner newest signature f differs judged g =
    let same = whole one_head ((owner, newest), signature) ((g.owner, stamp judged.seq judged.name), [])
    (f.owner_is_key, (f.some, f.few), f.name, f.short) (g.head.owner_is_key, (g.head.some, g.head.few), g.head.name, g.head.short) (sym f.spelled ∙ g.head.spelled) in
    differs (ap (λ (p : Parts). p.1) same, g.key_is ∙ sym (ap (λ (p : Parts). head_key_of p.0.0) same))

pub on_none : {T : Type 0} (o : Option T) {Q : Type 0} → Q → IfNone o Q
on_none (Some x) q = tt
on_none None q = q
