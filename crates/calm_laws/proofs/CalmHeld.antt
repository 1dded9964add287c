-- The world of a calm run satisfies the invariant, no key is that of content and of a head there, and the rank of a post is that of its block.
use Rattle.std.proofs.Common.{◌≡◌, ℕ, suc, Bool, true, false, cond, ◌&&◌, List, [], ◌++◌, length, Option, Some, None, refl, sym, ap, ◌∙◌, subst, nat_lt, Contains, append_assoc, is_some, option_map}
use Rattle.std.specs.Option.{option_map_or}
use Rattle.std.proofs.lemmas.Bool.{lt-ltb}
use Rattle.ivy_base.specs.declared.key.Key.{Key}
use Rattle.ivy_base.specs.declared.key.PubKey.{PubKey}
use Rattle.ivy_base.specs.declared.operation.Moment.{Moment}
use Rattle.ivy_base.specs.Naming.{IsCollisionFree, head_key_of, name}
use Rattle.dhash_model.specs.Signed.{hss_judged}
use Rattle.log_heads.specs.Signed.{IsSignedHead}
use Rattle.log_heads.proofs.SignedHeads.{signed_heads}
use Rattle.log_model.proofs.Lists.{both, each}
use Rattle.log_model.specs.Spelling.{IsMoment, head_block, head_tag}
use Rattle.log_model.specs.Vector.{Stamp}
use Rattle.wire_model.specs.Xdr.{opaque, word}
use Rattle.wire_model.proofs.OneReading.{same_fronts}
use Rattle.hash_signature_model.specs.Signer.{Signer, hss_key_of, public_key_of as owner_of}
use Rattle.dht_ids.specs.declared.judge.Judged.{Judged}
use Rattle.dht_ids.specs.declared.post.Post.{Post}
use Rattle.agent_model.specs.Agent.{is_head}
use Rattle.dhash_model.specs.declared.kind.BlockKind.TheVariants.{Content, Head}
use Rattle.script_driver.specs.Run.{Goes}
use Rattle.script_model.specs.declared.command.Command.TheVariants as command
use Rattle.world_model.specs.Agents.{own_hss_key as own}
use Rattle.world_model.specs.World.{Participant, empty_world, named_bytes}
use Rattle.world_model.specs.GhostState.{empty_ghost_state}
use Rattle.world_model.specs.Logs.{Played, beside, goes_if}
use Rattle.world_model.specs.Ring.{RingLine}
use Rattle.world_model.specs.Holding.{block_rank}
use Rattle.calm_laws.specs.Calm.{Calmly, IsCalmAt, Since, Stopped, post_rank}
use Rattle.calm_laws.specs.Calm.Calmly.{none as calmly_none, more as calmly_more}
use Rattle.world_laws.specs.Invariant.{IsKeptSo, Invariant, SignsOnce, sealed_with}
use Rattle.world_laws.specs.Laws.{LinesKeep}
use Rattle.world_laws.proofs.Bringing.{found_named}
use Rattle.world_laws.proofs.FirstWorld.{empty_keeps}
use Rattle.world_laws.proofs.HeadKeys.{block_is_key}
use Rattle.world_laws.proofs.PublicKeys.{owner_is_key}
use Rattle.world_laws.proofs.RingLines.{ring_lines_keep}
use Rattle.world_laws.proofs.Lines.{still_lines_keep}
use Rattle.world_laws.proofs.SignedHeads.{from_map}
use Rattle.calm_laws.proofs.CalmPuts.{block_of}
use Rattle.calm_laws.proofs.CalmStates.{IsLeft}

-- ---- the invariant holds of the world

fits_clock : (now : Moment) → IsMoment now → (nat_lt now.sec 4294967296 && nat_lt now.nsec 1000000000) ≡ true
fits_clock now h = both (nat_lt now.sec 4294967296) (nat_lt now.nsec 1000000000) (lt-ltb now.sec 4294967296 h.sec) (lt-ltb now.nsec 1000000000 h.nsec)

-- before its ring is made
pub moment_keeps : (now : Moment) → IsMoment now → Invariant (record empty_world { now = now }, empty_ghost_state)
moment_keeps now h =
    let next : Played = (record empty_world { now = now }, empty_ghost_state) in
    still_lines_keep (command.At now.sec now.nsec) tt (empty_world, empty_ghost_state) next [] empty_keeps
    (sym (ap (λ b. beside empty_ghost_state (goes_if b (record empty_world { now = now }))) (fits_clock now h)))

calm_keeps : {r : ℕ} {v w : Played} {since after : Since} {lines : List (List ℕ)} → LinesKeep → Calmly r v since lines w after → Invariant v → Invariant w
calm_keeps lines_keep calmly_none keeps = keeps
calm_keeps lines_keep (calmly_more {w = v} {mid = mid} {line = line} c output is calm step rest) keeps = calm_keeps lines_keep rest (lines_keep v mid line output keeps step)

pub calmly_keeps : LinesKeep → (r : ℕ) (w : Played) (since : Since) (lines : List (List ℕ)) → IsCalmAt r w since lines → Invariant w
calmly_keeps lines_keep r w since lines calm =
    let before : Played = (record empty_world { now = calm.fresh.0 }, empty_ghost_state) in
    let rings : RingLine before.0 calm.count r (Goes calm.made []) = subst (λ (v : Played). RingLine v.0 calm.count r (Goes calm.made [])) calm.fresh.2 calm.rings in
    let calmly : Calmly r (calm.made, empty_ghost_state) (Stopped 0) lines w since = subst (λ (v : Played). Calmly r (calm.made, v.1) (Stopped 0) lines w since) calm.fresh.2 calm.calmly in
    calm_keeps lines_keep calmly (ring_lines_keep calm.count r before (calm.made, empty_ghost_state) [] (moment_keeps calm.fresh.0 calm.fresh.1) (Goes calm.made [], rings, refl))

-- ---- content and heads have keys of their own

same_key : (s t : Signer) → (s.id ≡ t.id) × (s.seed ≡ t.seed) × (s.sets ≡ t.sets) → owner_of s ≡ owner_of t
same_key s t e = λ i. hss_key_of (e.0 i) (e.1 i) (e.2 i)

tail_of : (a b : List ℕ) → head_tag ++ a ≡ head_tag ++ b → a ≡ b
tail_of a b e = cc e

-- a head tells its owner
owner_told : (o u : PubKey) (s t : Stamp) (a b : List ℕ) → length o.0 ≡ 60 → length u.0 ≡ 60 → head_block o s a ≡ head_block u t b → o.0 ≡ u.0
owner_told o u s t a b size other same = tail_of o.0 u.0 (same_fronts (tagged o) (tagged u) (word s.seq ++ (s.name.0 ++ opaque a)) (word t.seq ++ (t.name.0 ++ opaque b)) lengths (sym (whole o s a) ∙ same ∙ whole u t b)).0
  where
    tagged : PubKey → List ℕ
    tagged p = head_tag ++ p.0

    lengths : length (tagged o) ≡ length (tagged u)
    lengths = ap (λ n. suc (suc (suc (suc n)))) (size ∙ sym other)

    whole : (p : PubKey) (x : Stamp) (c : List ℕ) → head_block p x c ≡ tagged p ++ (word x.seq ++ (x.name.0 ++ opaque c))
    whole p x c = append_assoc (tagged p ++ word x.seq) x.name.0 (opaque c) ∙ append_assoc (tagged p) (word x.seq) (x.name.0 ++ opaque c)

-- a head that left a participant is under its key alone
left_under : (w : Played) (p : Participant) (h : List ℕ) (key : Key) → Invariant w → Contains w.0.participants p → Contains p.left h → is_some (hss_judged key h) ≡ true → key ≡ head_key_of (own p.agent)
left_under w p h key keeps p_in among judged = by (hss_judged key h) refl judged
  where
    so : IsKeptSo SignsOnce p
    so = each (IsKeptSo SignsOnce) w.0.participants p keeps.signs p_in

    by : (o : Option Judged) → hss_judged key h ≡ o → is_some o ≡ true → key ≡ head_key_of (own p.agent)
    by None e some = absurd cc
    by (Some j) e some =
        let signed : IsSignedHead key h j = (signed_heads key h j).0 e in
        let found = from_map (sealed_with so.0.signer) so.3.left.signed h (subst (λ l. Contains l h) so.3.left.spelled among) in
        let key_size = owner_is_key so.0.signer so.1.signer in
        let owned : signed.owner.0 ≡ owner_of so.0.signer = owner_told signed.owner (record { 0 = owner_of so.0.signer }) _ found.0.1 _ _ signed.head.owner_is_key.size key_size.size (sym signed.head.spelled ∙ found.2) in
        signed.key_is ∙ (λ i. head_key_of (record { 0 = owned i })) ∙ (λ i. head_key_of (record { 0 = same_key so.0.signer p.agent.signer so.3.same i }))

pub apart_of : (w : Played) → Invariant w → IsCollisionFree (named_bytes w.0) → ((p : Participant) → Contains w.0.participants p → Contains w.0.met (own p.agent).0 → ⊥)
    → (key : Key) (b c : List ℕ) → Contains w.0.met b → name b ≡ key → IsLeft w.0 c → is_some (hss_judged key c) ≡ true → ⊥
apart_of w keeps names no_key key b c met named left judged =
    let p_in = (found_named w.0.participants left.0 left.1 left.2).0 in
    let is : key ≡ head_key_of (own left.1.agent) = left_under w left.1 c key keeps p_in left.3 judged in
    let same : b ≡ (own left.1.agent).0 = block_is_key w keeps names b left.1 met p_in (named ∙ is) in
    no_key left.1 p_in (subst (Contains w.0.met) same met)

-- ---- ranks

-- the rank of a post is that of its block
pub post_rank_is : (p : Post) → post_rank p ≡ block_rank hss_judged p.key (block_of p)
post_rank_is p = by (is_head p.kind) (hss_judged p.key p.bytes) refl
  where
    by : (b : Bool) (o : Option Judged) → hss_judged p.key p.bytes ≡ o → cond b (option_map_or (λ (j : Judged). j.seq) (hss_judged p.key p.bytes) 0) 0 ≡ block_rank hss_judged p.key (record { kind = cond b Head Content; bytes = p.bytes })
    by false o e = refl
    by true o e = head_rank (hss_judged p.key p.bytes)
      where
        head_rank : (o : Option Judged) → option_map_or (λ (j : Judged). j.seq) o 0 ≡ option_map_or (λ (seq : ℕ). seq) (option_map (λ (j : Judged). j.seq) o) 0
        head_rank None = refl
        head_rank (Some j) = refl
