-- Laws of the rounds of a world's ring: where no ask is lost they are the rounds of the definitions of rings.
use Rattle.std.specs.Prelude.{◌≡◌, ℕ, ◌<◌, ◌≤◌, Bool, true, false, not, List, length, map, filter, Option, Some}
use Rattle.ivy_base.specs.declared.key.Key.{Key}
use Rattle.ring_model.specs.Blocks.{AreMoved}
use Rattle.ring_model.specs.Circle.{number, identifier_bits}
use Rattle.ring_model.specs.Members.{IsAmong, owners}
use Rattle.ring_model.specs.Pass.{ArePasses}
use Rattle.ring_model.specs.Round.{IsForgotten, AreFingersFixed, IsRound}
use Rattle.ring_model.specs.Change.{AreFewStops, IsJoin}
use Rattle.dht_ids.specs.declared.judge.Judged.{Judged}
use Rattle.dht_ids.specs.declared.peer.Peer.{Peer}
use Rattle.dht_ids.specs.Peers.{place}
use Rattle.script_driver.specs.Run.{Goes}
use Rattle.world_model.specs.Nodes.{Node}
use Rattle.world_model.specs.World.{World, peer_of}
use Rattle.world_model.specs.Ring.{JoinLine, RingLine, live_in_order, peer_numbered, stop_line}
use Rattle.world_model.specs.Rounds.{EachDoes, ManyDo, Forgets, Stabilises, FixesFrom, IsRoundOf, Repairs}
use Rattle.world_model.specs.Holding.{rank_in}
use Rattle.world_model.specs.RingOf.{lives_in}
use Rattle.round_laws.specs.Holding.{AreStores, EachTaken, Tells}
use Rattle.round_laws.specs.RingOf.{AreNamed, AreNodes, BeforesLive, IsCoveredIn, IsSettledIn, LosesNone, Stop, links_in}

-- ---- whatever is lost

-- A round changes nothing but the nodes and the count of asks, which grows.
abbrev pub RoundLeavesTheRest : Type 0
RoundLeavesTheRest = (judged : Key → List ℕ → Option Judged) (r : ℕ) (w next : World) → IsRoundOf judged r w next
    → (next ≡ record w { nodes = next.nodes; asked = next.asked }) × (w.asked ≤ next.asked)

-- Nobody stops, starts or changes its place in a round, and all that nodes know of are nodes still.
abbrev pub RoundLeavesWhoLives : Type 0
RoundLeavesWhoLives = (judged : Key → List ℕ → Option Judged) (r : ℕ) (w next : World) → AreNodes r w → IsRoundOf judged r w next
    → AreNodes r next × (lives_in next ≡ lives_in w) × (live_in_order next ≡ live_in_order w)
    × (map peer_of next.nodes ≡ map peer_of w.nodes)

-- The line that makes a ring makes a settled one, of at most 256 nodes that hold nothing: places tell them apart, since digests have 20
-- bytes.
abbrev pub RingLineSettles : Type 0
RingLineSettles = (w next : World) (count r : ℕ) (output : List ℕ) → RingLine w count r (Goes next output)
    → AreNodes r next × IsSettledIn next r × (length next.nodes ≤ 256) × AreStores next × AreNamed (map peer_of next.nodes)

-- A line that stops a node changes nothing that nodes know, nor whether another one lives.
abbrev pub StopLineStops : Type 0
StopLineStops = (r : ℕ) (w next : World) (n : Node) (output : List ℕ) → AreNodes r w → IsAmong n w.nodes
    → stop_line w (Some n) ≡ Goes next output
    → AreNodes r next × (links_in next ≡ links_in w) × (lives_in w (peer_of n) ≡ true) × (lives_in next (peer_of n) ≡ false)
    × ((q : Peer) → (q ≡ peer_of n → ⊥) → lives_in next q ≡ lives_in w q)
    × (map peer_of next.nodes ≡ map peer_of w.nodes)

-- After fewer than r lines that stop nodes a settled ring is covered.
abbrev pub StopLinesLeaveCovered : Type 0
StopLinesLeaveCovered = (r k : ℕ) (v w : World) → IsSettledIn v r → AreNodes r v → Stop v k w → k < r → IsCoveredIn w r × AreNodes r w

-- ---- where nothing is lost

-- The first part is the first part of a round of the ring.
abbrev pub FirstPartForgets : Type 0
FirstPartForgets = (judged : Key → List ℕ → Option Judged) (r : ℕ) (w next : World) → AreNodes r w
    → EachDoes (Forgets judged) w (live_in_order w) next → LosesNone w next
    → IsForgotten (lives_in w) (links_in w) (links_in next)

-- Passes over live nodes are passes of the ring, where the predecessors of live nodes live: so it is after the first part.
abbrev pub PassesArePasses : Type 0
PassesArePasses = (judged : Key → List ℕ → Option Judged) (r : ℕ) (w next : World) (ps : List Peer) (k : ℕ) → AreNodes r w → BeforesLive w
    → ((p : Peer) → IsAmong p ps → lives_in w p ≡ true)
    → ManyDo (EachDoes (λ v p. Stabilises judged p v)) ps k w next → LosesNone w next
    → ArePasses place r (lives_in w) ps k (links_in w) (links_in next)

-- The third part is that of a round of the ring.
abbrev pub FingersAreFixed : Type 0
FingersAreFixed = (judged : Key → List ℕ → Option Judged) (r : ℕ) (w next : World) (ps : List Peer) → AreNodes r w
    → ((p : Peer) → IsAmong p ps → lives_in w p ≡ true)
    → EachDoes (λ v p. FixesFrom judged p 0 identifier_bits v) w ps next → LosesNone w next
    → AreFingersFixed place r identifier_bits (lives_in w) ps (links_in w) (links_in next)

-- A round is one of the ring; its fourth part changes nothing that nodes know of each other.
abbrev pub RoundIsRound : Type 0
RoundIsRound = (judged : Key → List ℕ → Option Judged) (r : ℕ) (w next : World) → AreNodes r w → IsRoundOf judged r w next
    → LosesNone w next
    → IsRound place r identifier_bits (lives_in w) (live_in_order w) (links_in w) (links_in next)

-- ---- rings that are settled again

-- After fewer than r stops since the ring was settled, with at most 512 members, a round makes it settled again.
abbrev pub RoundMendsStops : Type 0
RoundMendsStops = (judged : Key → List ℕ → Option Judged) (r : ℕ) (w next : World) (before : List Peer) → AreNodes r w
    → AreFewStops place r identifier_bits before (lives_in w) (links_in w) → length before ≤ 512
    → IsRoundOf judged r w next → LosesNone w next → IsSettledIn next r

-- So it does where the ring of v was settled, all that nodes know is as there, and nobody lives but who lived then.
abbrev pub RoundMendsSince : Type 0
RoundMendsSince = (judged : Key → List ℕ → Option Judged) (r : ℕ) (v w next : World) → IsSettledIn v r → AreNodes r w
    → links_in w ≡ links_in v → ((m : Peer) → lives_in w m ≡ true → lives_in v m ≡ true)
    → length (filter (λ m. not (lives_in w m)) (live_in_order v)) < r → length (live_in_order v) ≤ 512 → IsRoundOf judged r w next
    → LosesNone w next → IsSettledIn next r

-- So it does after fewer than r lines that stop nodes.
abbrev pub RoundMendsStopLines : Type 0
RoundMendsStopLines = (judged : Key → List ℕ → Option Judged) (r k : ℕ) (v w next : World) → IsSettledIn v r → AreNodes r v
    → length (live_in_order v) ≤ 512 → Stop v k w → k < r
    → IsRoundOf judged r w next → LosesNone w next → IsSettledIn next r × AreNodes r next

-- And where all that happened since is that x joined.
abbrev pub RoundMendsJoin : Type 0
RoundMendsJoin = (judged : Key → List ℕ → Option Judged) (r : ℕ) (w next : World) (live : List Peer) (x : Peer) → AreNodes r w
    → IsJoin place r identifier_bits live (lives_in w) x (links_in w) → length live ≤ 512
    → IsRoundOf judged r w next → LosesNone w next → IsSettledIn next r

-- A line at which a node joins a settled ring without losses makes a ring that it joined, whether or not others live.
abbrev pub JoinLineJoins : Type 0
JoinLineJoins = (judged : Key → List ℕ → Option Judged) (r number : ℕ) (w next : World) (output : List ℕ) → AreNodes r w
    → AreNamed (map peer_of w.nodes) → length w.nodes ≤ 512 → IsSettledIn w r
    → JoinLine judged w number (Some r) (Goes next output) → LosesNone w next
    → IsJoin place r identifier_bits (live_in_order next) (lives_in next) (peer_numbered number) (links_in next) × AreNodes r next
    × AreNamed (map peer_of next.nodes)

-- ---- blocks

-- The fourth part of a round without losses, in a settled ring of at most 512 nodes and where each put is taken, moves
-- the blocks of each key to its owners, as those of a ring move.
abbrev pub BlocksMove : Type 0
BlocksMove = (judged : Key → List ℕ → Option Judged) (r : ℕ) (w next : World) → AreNodes r w → length w.nodes ≤ 512 → AreStores w
    → IsSettledIn w r
    → (parts : EachDoes (Repairs judged r) w (live_in_order w) next) → EachTaken parts → LosesNone w next
    → (key : Key) (owns : Peer → Bool) → Tells owns (owners place r (live_in_order w) (number key))
    → AreMoved owns (live_in_order w) (rank_in judged w key) (rank_in judged next key)

-- So a round whose ring is settled in the end moves the blocks of each key: its first three parts touch none.
abbrev pub RoundMovesBlocks : Type 0
RoundMovesBlocks = (judged : Key → List ℕ → Option Judged) (r : ℕ) (w next : World) → AreNodes r w → length w.nodes ≤ 512 → AreStores w
    → IsSettledIn next r
    → (round : IsRoundOf judged r w next) → EachTaken round.repairs → LosesNone w next
    → (key : Key) (owns : Peer → Bool) → Tells owns (owners place r (live_in_order w) (number key))
    → AreMoved owns (live_in_order w) (rank_in judged w key) (rank_in judged next key)
