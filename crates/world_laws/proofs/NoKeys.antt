-- Blocks that have a form begin with the letters IV, and public keys with a zero byte.
use Rattle.std.proofs.Common.{◌≡◌, ℕ, ◌+◌, ◌≤◌, List, [], ◌∷◌, ◌++◌, length, refl, sym, ap, ◌∙◌, arith}
use Rattle.hash_signature_model.specs.declared.set.Set.{Set}
use Rattle.hash_signature_model.specs.Signer.{hss_key_of}
use Rattle.log_model.proofs.Lists.{each}
use Rattle.world_model.specs.World.{Participant}
use Rattle.world_laws.specs.Invariant.{IsKeptSo, IsSavedWell}
use Rattle.world_laws.specs.NoKeys.{HasTag, LogsHaveTags, SnapshotsHaveTags, TaggedAreNoKeys}
use Rattle.world_laws.proofs.ShownReplies.{byte_at}

pub logs_have_tags : LogsHaveTags
logs_have_tags = (λ r. (_, refl), λ owner newest signature. (_, refl), λ view. (_, refl))

pub snapshots_have_tags : SnapshotsHaveTags
snapshots_have_tags = (λ level keys. (_, refl), λ entries. (_, refl), λ b. (_, refl), λ b. (_, refl))

-- a key of few levels has no tag
key_untagged : (id seed : List ℕ) (sets : List Set) → length sets ≤ 3 → HasTag (hss_key_of id seed sets) → ⊥
key_untagged id seed [] few (rest, is) = cc is
key_untagged id seed (set ∷ lower) few (rest, is) = (let first = ap (byte_at 0) is in omega (arith, first, few))

pub tagged_are_no_keys : TaggedAreNoKeys
tagged_are_no_keys w p keeps tagged among met =
    let signer = (each (IsKeptSo IsSavedWell) w.0.participants p keeps.saved among).3.agent.signer in
    key_untagged p.agent.signer.id p.agent.signer.seed p.agent.signer.sets signer.sets.few (each HasTag w.0.met _ tagged met)
