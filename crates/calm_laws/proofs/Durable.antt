-- The laws: the ring stays, what was acknowledged can be read, a round moves each block to its owners.
use Rattle.std.proofs.Common.{◌≡◌, ℕ, ◌≤◌, Bool, true, false, not, List, [], ◌∷◌, length, filter, refl, sym, ap, ◌∙◌, subst, arith, option_map, Contains}
use Rattle.ring_model.specs.Blocks.{IsAtLeast}
use Rattle.ring_model.specs.Circle.{number}
use Rattle.ring_model.specs.Members.{IsAmong, owners}
use Rattle.ring_model.proofs.Lists.{among_filter}
use Rattle.dht_ids.specs.Peers.{place}
use Rattle.dht_ids.specs.declared.peer.Peer.{Peer}
use Rattle.dht_ids.specs.declared.post.Post.{Post}
use Rattle.dhash_model.specs.Signed.{hss_judged}
use Rattle.world_model.specs.Logs.{Played}
use Rattle.world_model.specs.Ring.{live_in_order}
use Rattle.world_model.specs.Holding.{block_rank}
use Rattle.round_laws.proofs.Nodes.{lives_by, order_by, order_shape}
use Rattle.round_laws.proofs.Order.{lives_order, same_lists}
use Rattle.round_laws.proofs.Rounding.{leaves_who_lives}
use Rattle.calm_laws.specs.Calm.{IsCalmAt, Stopped, post_rank, held_rank}
use Rattle.calm_laws.proofs.CalmHeld.{post_rank_is}
use Rattle.calm_laws.proofs.CalmRounds.{covered_then}
use Rattle.calm_laws.proofs.CalmPuts.{IsHeldFor, block_of}
use Rattle.calm_laws.specs.Laws.{AckedHasCopies, AcknowledgedIsReadable, RingStays, RoundMovesBlocks}
use Rattle.calm_laws.specs.Readable.{IsHeld}
use Rattle.calm_laws.proofs.Given.{blocks_are_given, heads_are_given}
use Rattle.calm_laws.proofs.Stretches.{own, owner_lives}
use Rattle.calm_laws.proofs.Moved.{round_moves}
use Rattle.calm_laws.proofs.Worlds.{IsStanding, acked_on, on, state_holds}
use Rattle.calm_laws.proofs.Changes.{rounded}
use Rattle.calm_laws.proofs.Runs.{apart_at, facts_at, state_at}

pub ring_stays : RingStays
ring_stays w r count lines calm =
    let facts = facts_at r w (Stopped count) lines calm in
    (covered_then r count w.0 facts.has facts.is_since, facts.is_since.now)

pub round_moves_blocks : RoundMovesBlocks
round_moves_blocks r w next since lines calm room x m key live =
    let f = facts_at r w since lines calm in
    let holds = state_holds r w.0 w.1 since (state_at r w since lines calm) in
    let after = rounded r w.0 next w.1 since f x (apart_at r w since lines calm) room holds.orderly in
    round_moves r w.0 next f.has.nodes after.moved (leaves_who_lives hss_judged r w.0 next f.has.nodes x).1 m key live

at_least : (w : Played) (p : Post) (m : Peer) → IsHeldFor w.0 p m → IsAtLeast (post_rank p) (held_rank w.0 p.key m)
at_least w p m h = subst (λ v. IsAtLeast v (held_rank w.0 p.key m)) (sym (post_rank_is p)) (subst (λ o. IsAtLeast (block_rank hss_judged p.key (block_of p)) (option_map (block_rank hss_judged p.key) o)) (sym h.held.1) h.held.3)

same_order : (r count : ℕ) (w : Played) (s : IsStanding r count w.0 w.1) → live_in_order w.0 ≡ order_by s.base
same_order r count w s = order_shape w.0 ∙ ap order_by s.still.within.shapes

acked_is_held : (r : ℕ) (w : Played) (count : ℕ) (lines : List (List ℕ)) (p : Post) → IsCalmAt r w (Stopped count) lines → Contains w.1.acked p → IsHeld r w.0 p
acked_is_held r w count lines p calm acked =
    let s = state_at r w (Stopped count) lines calm in
    let a = acked_on r count w s p acked in
    (a.owner, subst (λ l. IsAmong a.owner (owners place r l (number p.key))) (sym (same_order r count w s)) a.owns, at_least w p a.owner a.holds)

pub acknowledged_is_readable : AcknowledgedIsReadable
acknowledged_is_readable r w count lines p calm acked = record {
  held = acked_is_held r w count lines p calm acked;
  block = blocks_are_given r w count lines p calm acked;
  head = heads_are_given r w count lines p calm acked;
}

-- where nobody of some fails a test each passes
all_pass : (t : Peer → Bool) (ps : List Peer) → length (filter (λ m. not (t m)) ps) ≤ 0 → (m : Peer) → IsAmong m ps → t m ≡ true
all_pass t ps none m i = by (t m) refl
  where
    some : (l : List Peer) → IsAmong m l → 1 ≤ length l
    some [] i = absurd i
    some (x ∷ l) i = omega arith

    by : (b : Bool) → t m ≡ b → t m ≡ true
    by true e = e
    by false e = let one = some (filter (λ x. not (t x)) ps) (among_filter (λ x. not (t x)) m ps i (ap not e)) in absurd (omega (arith, none, one))

pub acked_has_copies : AckedHasCopies
acked_has_copies r w lines p m calm room acked i =
    let s = state_at r w (Stopped 0) lines calm in
    let since = (acked_on r 0 w s p acked).all room in
    let same : since.before ≡ order_by s.base = same_lists since.before (order_by s.base) since.ascending s.stands.covered.ascending
    (λ x j. lives_order s.base x (all_pass (lives_by s.base) since.before since.few x j))
    (λ x j. since.members x (s.stands.covered.lives_all x j)) in
    let owns : IsAmong m (own (on r 0 w s) p.key) = subst (λ l. IsAmong m (owners place r l (number p.key))) (same_order r 0 w s) i in
    at_least w p m (since.held m (subst (λ l. IsAmong m (owners place r l (number p.key))) (sym same) owns) (owner_lives (on r 0 w s) p.key m owns))
