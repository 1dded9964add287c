-- Signed heads as they are read.
use Rattle.std.proofs.Common.{◌≡◌, ℕ, suc, ◌+◌, ◌<◌, List, [], ◌∷◌, ◌++◌, map, take, drop, length, get_or, Option, Some, None, option_map, refl, sym, ap, ◌∙◌, append_assoc, arith}
use Rattle.std.specs.List.{filter_map, cons_option}
use Rattle.std.proofs.Math.Seq.{take-suc}
use Rattle.std.proofs.lemmas.List.{take_at, map-append, append-nil}
use Rattle.std.proofs.lemmas.List.Elements.{filter_map-append}
use Rattle.ivy_base.specs.declared.key.Key.{Key}
use Rattle.ivy_base.specs.declared.key.PubKey.{PubKey}
use Rattle.ivy_base.specs.Naming.{head_key_of}
use Rattle.wire_model.specs.Xdr.{word, opaque}
use Rattle.log_model.specs.Vector.{Stamp}
use Rattle.log_model.specs.Spelling.{IsHeadOf, head_tag}
use Rattle.log_model.specs.Heads.{owner_in}
use Rattle.dht_ids.specs.declared.judge.Judged.{Judged}
use Rattle.dhash_model.specs.Signed.{hss_judged}
use Rattle.log_heads.proofs.SignedHeads.{judged_as, no_head}
use Rattle.fork_model.specs.Finding.{Tip, tip_of, tip_with}
use Rattle.fork_proof.specs.declared.tips.Tip as kept
use Rattle.fork_proof.specs.Found.{tip_seen}

-- the owner stands after the tag
pub owner_read : (bytes : List ℕ) (owner : PubKey) (newest : Stamp) (signature : List ℕ) → IsHeadOf owner bytes newest signature → owner_in bytes ≡ owner
owner_read bytes owner newest signature f =
    let rest = opaque signature in
    let regrouped : ((owner.0 ++ word newest.seq) ++ newest.name.0) ++ rest ≡ owner.0 ++ (word newest.seq ++ (newest.name.0 ++ rest)) =
    append_assoc (owner.0 ++ word newest.seq) newest.name.0 rest ∙ append_assoc owner.0 (word newest.seq) (newest.name.0 ++ rest) in
    ap owner_in (f.spelled ∙ ap (λ (s : List ℕ). head_tag ++ s) regrouped)
    ∙ ap (λ (s : List ℕ). record { 0 = s }) (take_at owner.0 (word newest.seq ++ (newest.name.0 ++ rest)) 60 f.owner_is_key.size)

-- bytes that are no head's are no signed one's
pub no_tip : (bytes : List ℕ) → ((owner : PubKey) (newest : Stamp) (signature : List ℕ) → IsHeadOf owner bytes newest signature → ⊥) → None ≡ tip_of bytes
no_tip bytes absent = ap (option_map (tip_with bytes (owner_in bytes))) (judged_as (head_key_of (owner_in bytes)) bytes None tt (no_head (head_key_of (owner_in bytes)) bytes absent))

-- what the judge says of a head
pub tip_said : (bytes : List ℕ) (owner : PubKey) (newest : Stamp) (signature : List ℕ) → IsHeadOf owner bytes newest signature → (said : Option Judged) → said ≡ hss_judged (head_key_of owner) bytes
    → option_map (tip_with bytes owner) said ≡ tip_of bytes
tip_said bytes owner newest signature f said e =
    ap (option_map (tip_with bytes owner)) e ∙ ap (λ (o : PubKey). option_map (tip_with bytes o) (hss_judged (head_key_of o) bytes)) (sym (owner_read bytes owner newest signature f))

-- ---- one head more

module _ (heads : List (List ℕ)) (i : ℕ) (d : List ℕ) (olds news : List kept.Tip) (within : i < length heads) (before : map tip_seen olds ≡ filter_map tip_of (take i heads)) where
  more_tips : (o : Option Tip) → o ≡ tip_of (get_or heads i d) → map tip_seen olds ++ cons_option o [] ≡ filter_map tip_of (take (i + 1) heads)
  more_tips o e =
      let one : suc i ≡ i + 1 = omega arith in
      (λ j. before j ++ cons_option (e j) [])
      ∙ sym (filter_map-append tip_of (take i heads) (get_or heads i d ∷ []))
      ∙ ap (filter_map tip_of) (sym (take-suc heads i d within))
      ∙ ap (λ (n : ℕ). filter_map tip_of (take n heads)) one

  pub tip_more : (tip : kept.Tip) → news ≡ olds ++ tip ∷ [] → Some (tip_seen tip) ≡ tip_of (get_or heads i d) → map tip_seen news ≡ filter_map tip_of (take (i + 1) heads)
  tip_more tip pushed e = ap (map tip_seen) pushed ∙ map-append tip_seen olds (tip ∷ []) ∙ more_tips (Some (tip_seen tip)) e

  pub no_more : news ≡ olds → None ≡ tip_of (get_or heads i d) → map tip_seen news ≡ filter_map tip_of (take (i + 1) heads)
  no_more same e = ap (map tip_seen) same ∙ sym (append-nil (map tip_seen olds)) ∙ more_tips None e
