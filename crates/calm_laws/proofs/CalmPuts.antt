-- A put of a session in such a ring, whose answers are true: where it was acknowledged an owner holds the post, or something newer.
use Rattle.std.proofs.Common.{◌≡◌, ◌⊎◌, inl, inr, ⊎_elim, ℕ, Bool, true, false, cond, List, [], ◌∷◌, refl, nat_lt, Contains}
use Rattle.std.specs.Prelude.{fold}
use Rattle.ivy_base.specs.Naming.{name}
use Rattle.ring_model.specs.Members.{IsAmong}
use Rattle.dhash_model.specs.Signed.{hss_judged}
use Rattle.dhash_model.specs.Stores.{Block}
use Rattle.dhash_model.specs.declared.kind.BlockKind.{BlockKind}
use Rattle.dhash_model.specs.declared.kind.BlockKind.TheVariants.{Content, Head}
use Rattle.dht_ids.specs.declared.ask.Ask.TheVariants as ask
use Rattle.dht_ids.specs.declared.peer.Peer.{Peer}
use Rattle.dht_ids.specs.declared.post.Post.{Post}
use Rattle.agent_model.specs.Agent.{is_head}
use Rattle.session_model.specs.Sessions.{put_question}
use Rattle.world_model.specs.World.{World, with_numbered}
use Rattle.world_model.specs.Rounds.{question_as}
use Rattle.world_model.specs.Holding.{block_rank}
use Rattle.round_laws.proofs.Nodes.{Shape, made_by}
use Rattle.calm_laws.proofs.CalmNodes.{HeldStays, IsHeld}

-- ---- posts that are held

abbrev pub kind_of : Post → BlockKind
kind_of p = cond (is_head p.kind) Head Content

abbrev pub block_of : Post → Block
block_of p = record { kind = kind_of p; bytes = p.bytes }

-- the node holds the post, or something newer of its kind; the post's block is met, and has its name where it isn't a head
pub record IsHeldFor (w : World) (p : Post) (node : Peer) : Type 0 where
  pub held : IsHeld w p.key (kind_of p) (block_rank hss_judged p.key (block_of p)) node
  pub met : Contains w.met p.bytes
  pub named : is_head p.kind ≡ false → name p.bytes ≡ p.key

pub held_for : (w v : World) (p : Post) (node : Peer) → ((b : List ℕ) → Contains w.met b → Contains v.met b) → HeldStays w v → IsHeldFor w p node → IsHeldFor v p node
held_for w v p node grows held h = record { held = held p.key (kind_of p) (block_rank hss_judged p.key (block_of p)) node h.held; met = grows p.bytes h.met; named = h.named }

pub question_is : (p : Post) → put_question p ≡ question_as (kind_of p) p.key p.bytes
question_is p = by (is_head p.kind)
  where
    by : (b : Bool) → cond b (ask.PutHead p.key p.bytes) (ask.PutBlock p.key p.bytes) ≡ question_as (cond b Head Content) p.key p.bytes
    by true = refl
    by false = refl

-- ---- lists

-- all nodes that were made, as a session knows them
abbrev pub entries_by : List Shape → List Peer
entries_by base = fold with_numbered [] (made_by base)

among_numbered : (q p : Peer) (ps : List Peer) → IsAmong q (with_numbered ps p) → (p ≡ q) ⊎ IsAmong q ps
among_numbered q p [] h = h
among_numbered q p (x ∷ ps) h = by (nat_lt p.number x.number) (among_numbered q p ps) h
  where
    by : (b : Bool) → (IsAmong q (with_numbered ps p) → (p ≡ q) ⊎ IsAmong q ps) → IsAmong q (cond b (p ∷ x ∷ ps) (x ∷ with_numbered ps p)) → (p ≡ q) ⊎ IsAmong q (x ∷ ps)
    by true later h = h
    by false later (inl e) = inr (inl e)
    by false later (inr h) = ⊎_elim (λ e. inl e) (λ i. inr (inr i)) (later h)

among_entries : (q : Peer) (made found : List Peer) → IsAmong q (fold with_numbered found made) → IsAmong q found ⊎ IsAmong q made
among_entries q [] found h = inl h
among_entries q (p ∷ made) found h =
    ⊎_elim (λ i. ⊎_elim (λ e. inr (inl e)) (λ j. inl j) (among_numbered q p found i)) (λ j. inr (inr j)) (among_entries q made (with_numbered found p) h)

pub entry_made : (base : List Shape) (q : Peer) → IsAmong q (entries_by base) → IsAmong q (made_by base)
entry_made base q h = ⊎_elim (λ i. absurd i) (λ j. j) (among_entries q (made_by base) [] h)

in_numbered : (q p : Peer) (ps : List Peer) → (p ≡ q) ⊎ IsAmong q ps → IsAmong q (with_numbered ps p)
in_numbered q p [] h = h
in_numbered q p (x ∷ ps) h = by (nat_lt p.number x.number) (in_numbered q p ps)
  where
    by : (b : Bool) → ((p ≡ q) ⊎ IsAmong q ps → IsAmong q (with_numbered ps p)) → IsAmong q (cond b (p ∷ x ∷ ps) (x ∷ with_numbered ps p))
    by true later = h
    by false later = ⊎_elim (λ e. inr (later (inl e))) (λ i. ⊎_elim (λ e. inl e) (λ j. inr (later (inr j))) i) h

in_entries : (q : Peer) (made found : List Peer) → IsAmong q found ⊎ IsAmong q made → IsAmong q (fold with_numbered found made)
in_entries q [] found h = ⊎_elim (λ i. i) (λ i. absurd i) h
in_entries q (p ∷ made) found h = in_entries q made (with_numbered found p) (⊎_elim (λ i. inl (in_numbered q p found (inr i))) (λ i. ⊎_elim (λ e. inl (in_numbered q p found (inl e))) (λ j. inr j) i) h)

pub made_entry : (base : List Shape) (q : Peer) → IsAmong q (made_by base) → IsAmong q (entries_by base)
made_entry base q i = in_entries q (made_by base) [] (inr i)
