-- Records up to a head, by what is so of each; and posts that were acknowledged.
use Rattle.std.proofs.Common.{◌≡◌, inl, inr, ℕ, ◌<◌, ◌^◌, List, [], length, Some, sym, ◌∙◌, arith, Contains}
use Rattle.ivy_base.specs.declared.key.Key.{Key}
use Rattle.ivy_base.specs.declared.key.PubKey.{PubKey}
use Rattle.wire_model.specs.Xdr.{opaque}
use Rattle.wire_model.proofs.OneReading.{◌▷◌, always, one_raw, one_word}
use Rattle.log_model.specs.Record.{Record}
use Rattle.log_model.specs.Spelling.{head_block, head_tag}
use Rattle.log_model.specs.Vector.{Stamp}
use Rattle.log_model.proofs.Lists.{in_nothing}
use Rattle.ring_model.proofs.Lists.{all_weaker}
use Rattle.dht_ids.specs.declared.judge.Judged.{Judged}
use Rattle.dht_ids.specs.declared.post.Post.{Post}
use Rattle.dhash_model.specs.Signed.{hss_judged}
use Rattle.log_heads.specs.Signed.{IsSignedHead}
use Rattle.log_heads.proofs.SignedHeads.{signed_heads}
use Rattle.session_model.specs.Brought.{stamp_of}
use Rattle.calm_laws.specs.Put.{AllUpTo, IsHeadOver, IsPutOr, WasPut}

-- ---- up to a head

pub up_to_weaker : (P Q : Record → Type 0) (owner : PubKey) (head : Stamp) → ((one : Record) → P one → Q one) → AllUpTo P owner head → AllUpTo Q owner head
up_to_weaker P Q owner head weaker h = record { log = h.log; linked = h.linked; ends = h.ends; each = all_weaker P Q h.log weaker h.each }

pub over_weaker : (P Q : Record → Type 0) (key : Key) (head : Judged) → ((one : Record) → P one → Q one) → IsHeadOver P key head → IsHeadOver Q key head
over_weaker P Q key head weaker h = (h.0, h.1, up_to_weaker P Q h.0 (stamp_of head) weaker h.2)

-- ---- acknowledgements

pub more_put : (acked more : List Post) → ((p : Post) → Contains acked p → Contains more p) → (one : Record) → WasPut acked one → WasPut more one
more_put acked more grows one h = (h.0, grows h.0 h.1, h.2, h.3)

pub more_put_or : (acked more posts : List Post) → ((p : Post) → Contains acked p → Contains more p) → (one : Record) → IsPutOr acked posts one → IsPutOr more posts one
more_put_or acked more posts grows one (inl h) = inl (more_put acked more grows one h)
more_put_or acked more posts grows one (inr h) = inr h

pub none_left : (acked : List Post) (one : Record) → IsPutOr acked [] one → WasPut acked one
none_left acked one (inl h) = h
none_left acked one (inr h) = absurd (in_nothing _ h)

-- ---- a head says the stamp that it is over, whoever sealed it

pub head_tells : (log : Key) (bytes : List ℕ) (j : Judged) (owner : PubKey) (t : Stamp) (signature : List ℕ) → hss_judged log bytes ≡ Some j → bytes ≡ head_block owner t signature → length owner.0 ≡ 60 → t.seq < 2 ^ 32 → length t.name.0 ≡ 20
    → stamp_of j ≡ t
head_tells log bytes j owner t signature judged spelled owned numbered named = λ i. record { seq = (read.0 i).0.1; name = record { 0 = (read.0 i).1 } }
  where
    f : IsSignedHead log bytes j
    f = (signed_heads log bytes j).0 judged

    read : ◌≡◌ {A = ((Unit {0} × List ℕ) × ℕ) × List ℕ} (((tt, f.owner.0), j.seq), j.name.0) (((tt, owner.0), t.seq), t.name.0) × (opaque f.signature ≡ opaque signature)
    read = (always head_tag ▷ one_raw 60 ▷ one_word ▷ one_raw 20).one (((tt, f.owner.0), j.seq), j.name.0) (((tt, owner.0), t.seq), t.name.0) (opaque f.signature) (opaque signature)
        (((tt, f.head.owner_is_key.size), omega (arith, f.head.few)), f.head.name.size) (((tt, owned), numbered), named) (sym f.head.spelled ∙ spelled)
