-- A head that left an agent is under its key alone.
use Rattle.std.proofs.Common.{◌≡◌, suc, true, List, ◌++◌, length, Option, Some, None, refl, sym, ap, ◌∙◌, subst, Contains, append_assoc, is_some}
use Rattle.std.specs.Prelude.{ℕ}
use Rattle.ivy_base.specs.declared.key.Key.{Key}
use Rattle.ivy_base.specs.declared.key.PubKey.{PubKey}
use Rattle.ivy_base.specs.Naming.{head_key_of}
use Rattle.dhash_model.specs.Signed.{hss_judged}
use Rattle.log_heads.specs.Signed.{IsSignedHead}
use Rattle.log_heads.proofs.SignedHeads.{signed_heads}
use Rattle.log_model.proofs.Lists.{each}
use Rattle.log_model.specs.Spelling.{head_block, head_tag}
use Rattle.log_model.specs.Vector.{Stamp}
use Rattle.wire_model.specs.Xdr.{opaque, word}
use Rattle.wire_model.proofs.OneReading.{same_fronts}
use Rattle.hash_signature_model.specs.Signer.{Signer, hss_key_of, public_key_of as owner_of}
use Rattle.dht_ids.specs.declared.judge.Judged.{Judged}
use Rattle.world_model.specs.Agents.{own_hss_key}
use Rattle.world_model.specs.World.{Participant}
use Rattle.world_model.specs.Logs.{Played}
use Rattle.world_laws.specs.Invariant.{IsKeptSo, Invariant, SignsOnce, sealed_with}
use Rattle.world_laws.proofs.PublicKeys.{owner_is_key}
use Rattle.world_laws.proofs.SignedHeads.{from_map}

same_key : (s t : Signer) → (s.id ≡ t.id) × (s.seed ≡ t.seed) × (s.sets ≡ t.sets) → owner_of s ≡ owner_of t
same_key s t e = λ i. hss_key_of (e.0 i) (e.1 i) (e.2 i)

tail_of : (a b : List ℕ) → head_tag ++ a ≡ head_tag ++ b → a ≡ b
tail_of a b e = cc e

-- a head tells its owner
owner_told : (o u : PubKey) (s t : Stamp) (a b : List ℕ) → length o.0 ≡ 60 → length u.0 ≡ 60 → head_block o s a ≡ head_block u t b → o.0 ≡ u.0
owner_told o u s t a b size other same = tail_of o.0 u.0 (same_fronts (tagged o) (tagged u) (word s.seq ++ (s.name.0 ++ opaque a)) (word t.seq ++ (t.name.0 ++ opaque b)) lengths (sym (whole o s a) ∙ same ∙ whole u t b)).0
  where
    tagged : PubKey → List ℕ
    tagged p = head_tag ++ p.0

    lengths : length (tagged o) ≡ length (tagged u)
    lengths = ap (λ n. suc (suc (suc (suc n)))) (size ∙ sym other)

    whole : (p : PubKey) (x : Stamp) (c : List ℕ) → head_block p x c ≡ tagged p ++ (word x.seq ++ (x.name.0 ++ opaque c))
    whole p x c = append_assoc (tagged p ++ word x.seq) x.name.0 (opaque c) ∙ append_assoc (tagged p) (word x.seq) (x.name.0 ++ opaque c)

pub left_under : (w : Played) (p : Participant) (h : List ℕ) (key : Key) → Invariant w → Contains w.0.participants p → Contains p.left h → is_some (hss_judged key h) ≡ true → key ≡ head_key_of (own_hss_key p.agent)
left_under w p h key keeps p_in among judged = by (hss_judged key h) refl judged
  where
    so : IsKeptSo SignsOnce p
    so = each (IsKeptSo SignsOnce) w.0.participants p keeps.signs p_in

    by : (o : Option Judged) → hss_judged key h ≡ o → is_some o ≡ true → key ≡ head_key_of (own_hss_key p.agent)
    by None e some = absurd cc
    by (Some j) e some =
        let signed : IsSignedHead key h j = (signed_heads key h j).0 e in
        let found = from_map (sealed_with so.0.signer) so.3.left.signed h (subst (λ l. Contains l h) so.3.left.spelled among) in
        let key_size = owner_is_key so.0.signer so.1.signer in
        let owned : signed.owner.0 ≡ owner_of so.0.signer = owner_told signed.owner (record { 0 = owner_of so.0.signer }) _ found.0.1 _ _ signed.head.owner_is_key.size key_size.size (sym signed.head.spelled ∙ found.2) in
        signed.key_is ∙ (λ i. head_key_of (record { 0 = owned i })) ∙ (λ i. head_key_of (record { 0 = same_key so.0.signer p.agent.signer so.3.same i }))
