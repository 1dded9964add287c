-- What stands in each world that a script comes to: the ring of a calm script, the heads that left, and one truth of each log.
use Rattle.std.specs.Prelude.{◌≡◌, ◌⊎◌, ◌<◌, ℕ, List, [], ◌∷◌, ◌++◌, map, take, Contains, Some}
use Rattle.std.specs.List.{AllByRecursion}
use Rattle.ivy_base.specs.Naming.{IsCollisionFree, head_key_of}
use Rattle.log_model.specs.Chain.{LinkedFrom}
use Rattle.log_model.specs.Closed.{log_of}
use Rattle.log_model.specs.Record.{Record}
use Rattle.log_model.specs.Spelling.{head_message, no_name}
use Rattle.log_model.specs.Standing.{Stand}
use Rattle.log_model.specs.Vector.{Stamp, stamp_at}
use Rattle.turn_model.specs.Known.{EndsAt}
use Rattle.turn_model.specs.Turn.{IsPrefixOf}
use Rattle.hash_signature_model.specs.declared.set.Set.{Set}
use Rattle.hash_signature_model.specs.declared.keys.PrivateKey.{PrivateKey}
use Rattle.hash_signature_model.specs.Signer.{Signer, leaf_used, lower_key, tree_public}
use Rattle.agent_model.specs.Agent.{own_key}
use Rattle.world_model.specs.Agents.{IsHssKept, HssKept, hss_signing, hss_kept_bytes, own_hss_key, hss_sealed}
use Rattle.world_model.specs.Logs.{Played}
use Rattle.world_model.specs.Steps.{heads_by}
use Rattle.world_model.specs.GhostState.{known_of}
use Rattle.world_model.specs.World.{Participant, World, named_bytes}
use Rattle.world_laws.specs.Laws.{IsHonest}
use Rattle.calm_laws.specs.Readable.{KeepsItsRing}

-- ---- what is saved

-- The participant's keeper holds the bytes of this, and of nothing else that may be saved.
pub record IsSavedAs (p : Participant) (k : HssKept) : Type 0 where
  pub whole : IsHssKept k
  pub bytes : p.keeper.kept ≡ Some (hss_kept_bytes k)
  pub one : (other : HssKept) → IsHssKept other → hss_kept_bytes other ≡ hss_kept_bytes k → other ≡ k

-- ---- heads

-- A head of a signer's: the number of its signature, and the record that it is over.
abbrev pub Sealing : Type 0
Sealing = ℕ × Stamp

-- Its block.
abbrev pub head_of : Signer → Sealing → List ℕ
head_of signer h = hss_sealed (record signer { made = h.0 }) h.1

-- What the leaves of signature n of a message sign, from the top level down, each leaf by its number in its tree.
-- A leaf signs the public key of the tree below it, and at the lowest level the message (RFC 8554, section 6.2).
unfoldable pub leaves_sign : PrivateKey → List Set → ℕ → List ℕ → List (ℕ × List ℕ)
leaves_sign key [] n message = (leaf_used key.set [] n, message) ∷ []
leaves_sign key (set ∷ lower) n message =
    let leaf = leaf_used key.set (set ∷ lower) n in
    (leaf, tree_public (lower_key key leaf set)) ∷ leaves_sign (lower_key key leaf set) lower n message

abbrev pub signed_by_leaves : List ℕ → List ℕ → List Set → ℕ → List ℕ → List (ℕ × List ℕ)
signed_by_leaves id seed [] n message = []
signed_by_leaves id seed (set ∷ lower) n message = leaves_sign (record { set = set; id = id; seed = seed }) lower n message

-- So of a head.
abbrev pub signed_in : Signer → Sealing → List (ℕ × List ℕ)
signed_in signer h = signed_by_leaves signer.id signer.seed signer.sets h.0 (head_message (own_key hss_signing signer) h.1)

-- No leaf of any level signs two things: two heads with the same leaves down to a level have the same signed by them.
abbrev pub NoLeafSignsTwo : Signer → List Sealing → Type 0
NoLeafSignsTwo signer heads = (g h : Sealing) (level : ℕ) → Contains heads g → Contains heads h
    → map (λ s. s.0) (take level (signed_in signer g)) ≡ map (λ s. s.0) (take level (signed_in signer h))
    → take level (signed_in signer g) ≡ take level (signed_in signer h)

-- The heads that left an agent, by what its keeper has saved.
pub record HeadsAreSafe (p : Participant) (k : HssKept) : Type 0 where
  pub heads : List Sealing
  pub left : p.left ≡ map (head_of k.signer) heads
  -- Those that it has still to publish count with them.
  pub pending : AllByRecursion (Contains p.left) (heads_by p.agent.pending)
  -- Each was saved before it left: the saved bytes have more signatures than its number says.
  pub saved_first : AllByRecursion (λ h. h.0 < k.signer.made) heads
  -- Two of one signature are one, and two over records of one number.
  pub one_each : (g h : Sealing) → Contains heads g → Contains heads h → (g.0 ≡ h.0) ⊎ (g.1.seq ≡ h.1.seq) → g ≡ h
  pub leaves : NoLeafSignsTwo k.signer heads

-- ---- one truth

-- The chain of the participant's log that the saved bytes name: it ends at the record of their floor.
-- Its records stand among the blocks that were met and those that are saved.
pub record IsNamedChain (w : World) (q : Participant) (k : HssKept) (chain : List Record) : Type 0 where
  pub linked : LinkedFrom (own_hss_key q.agent) 1 no_name chain
  pub ends : EndsAt (stamp_at k.floor (head_key_of (own_hss_key q.agent))) chain
  pub stand : Stand (w.met ++ map (λ post. post.bytes) k.pending) chain

-- There is one such chain, and what an agent knows of the log is a beginning of it.
pub record HasOneTruth (w : Played) (q : Participant) (k : HssKept) : Type 0 where
  pub chain : List Record
  pub named : IsNamedChain w.0 q k chain
  pub one : (other : List Record) → IsNamedChain w.0 q k other → other ≡ chain
  pub beginnings : (p : Participant) → Contains w.0.participants p → IsPrefixOf (log_of (own_hss_key q.agent) (known_of w.1 p.name)) chain

-- ---- the whole

-- Of a participant. Its log has one truth where each log has a key of its own, each judged head that was met was made by its log's
-- agent, and no two different blocks, of those that were met and those that are saved, have one name.
pub record ParticipantStands (w : Played) (p : Participant) : Type 0 where
  pub kept : HssKept
  pub saved : IsSavedAs p kept
  pub heads : HeadsAreSafe p kept
  pub truth : IsHonest w.0 → IsCollisionFree (named_bytes w.0 ++ map (λ post. post.bytes) kept.pending) → HasOneTruth w p kept

pub record Stands (w : Played) : Type 0 where
  pub ring : KeepsItsRing w
  pub participants : (p : Participant) → Contains w.0.participants p → ParticipantStands w p
