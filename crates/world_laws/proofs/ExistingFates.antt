-- An ask for data of a node that was made has a fate: it is lost, the node is stopped, or it answers; and its answer names nodes that were made.
use Rattle.std.proofs.Common.{◌≡◌, ◌⊎◌, inl, inr, ⊎_elim, ℕ, ◌+◌, Bool, true, false, List, [], ◌∷◌, ◌++◌, map, Some, refl, sym, ap, ◌∙◌, subst, Contains}
use Rattle.std.specs.List.{AllByRecursion}
use Rattle.std.proofs.lemmas.Bool.{cases_eq}
use Rattle.dhash_model.specs.Signed.{hss_judged}
use Rattle.log_model.proofs.Lists.{here, in_cons, in_nothing, there}
use Rattle.dht_ids.specs.Asked.{IsForData}
use Rattle.dht_ids.specs.declared.ask.Answer.{Answer}
use Rattle.dht_ids.specs.declared.ask.Answer.TheVariants as answer
use Rattle.dht_ids.specs.declared.ask.Ask.{Ask}
use Rattle.dht_ids.specs.declared.peer.Peer.{Peer}
use Rattle.world_model.specs.Fates.{FateOf, ask_counted}
use Rattle.world_model.specs.Fates.FateOf.{lost, stopped, answers}
use Rattle.world_model.specs.Nodes.{Node}
use Rattle.world_model.specs.World.{World, node_at, peer_of}
use Rattle.world_model.specs.GhostState.{GhostState}
use Rattle.round_laws.specs.RingOf.{AreNodes}
use Rattle.round_laws.proofs.Nodes.{at, at_here, at_later, same_or_not}
use Rattle.world_laws.specs.Invariant.{IsAnswerIn, Invariant}
use Rattle.world_laws.proofs.ExistingPlans.{Names}
use Rattle.world_laws.proofs.Frames.{nodes_of_ring}
use Rattle.world_laws.proofs.NodeFates.{HoldsMet, PutsMet, answer_is_in, ask_leaves, fate_met}

-- ---- the fate of an ask

number_or_not : (ns : List ℕ) (n : ℕ) → Contains ns n ⊎ (Contains ns n → ⊥)
number_or_not [] n = inr (λ h. in_nothing n h)
number_or_not (m ∷ ns) n = elim (cases_eq m n) [
  | inl e ↦ inl (subst (Contains (m ∷ ns)) e (here m ns))
  | inr other ↦ elim (number_or_not ns n) [
    | inl later ↦ inl (there m ns n later)
    | inr none ↦ inr (λ h. ⊎_elim other none (in_cons m ns n h))
  ]
]

at_made : (nodes : List Node) (p : Peer) → Contains (map peer_of nodes) p → (n : Node) × (at nodes p.id ≡ Some n)
at_made [] p h = absurd (in_nothing p h)
at_made (m ∷ nodes) p h = elim (same_or_not (peer_of m).id p.id) [
  | inl same ↦ (m, at_here m nodes p.id same)
  | inr other ↦ elim (in_cons (peer_of m) (map peer_of nodes) p h) [
    | inl e ↦ absurd (other (ap (λ (q : Peer). q.id) e))
    | inr later ↦ (let r = at_made nodes p later in (r.0, at_later m nodes p.id other ∙ r.1))
  ]
]

pub record HasFate (w : World) (node : Peer) (question : Ask) : Type 0 where
  pub given : Answer
  pub next : World
  pub fate : FateOf hss_judged w node question given next

pub some_fate : (w : World) (node : Peer) (question : Ask) → Contains (map peer_of w.nodes) node → HasFate w node question
some_fate w node question made = elim (number_or_not w.lost (w.asked + 1)) [
  | inl l ↦ record { given = answer.Silent; next = ask_counted w; fate = lost l }
  | inr l ↦ (let n = at_made w.nodes node made in by l n.0 n.1 n.0.is_live refl)
]
  where
    by : (Contains w.lost (w.asked + 1) → ⊥) → (n : Node) → node_at w node.id ≡ Some n → (live : Bool) → n.is_live ≡ live → HasFate w node question
    by l n is true live = record { given = _; next = _; fate = answers n l is live }
    by l n is false dead = record { given = answer.Silent; next = ask_counted w; fate = stopped n l is dead }

-- ---- worlds whose nodes answer

-- its nodes are those of a ring, hold blocks that were met, and are of these peers
pub record Serves (r : ℕ) (peers : List Peer) (met : List (List ℕ)) (w : World) : Type 0 where
  pub ring : AreNodes r w
  pub held : AllByRecursion (HoldsMet met) w.nodes
  pub same_peers : map peer_of w.nodes ≡ peers
  pub same_met : w.met ≡ met

pub names_made : (w : World) (peers : List Peer) → map peer_of w.nodes ≡ peers → (given : Answer) → IsAnswerIn w given → Names (Contains peers) given
names_made w peers same (answer.Route nearer owners) h = subst (λ (ps : List Peer). AllByRecursion (Contains ps) (nearer ++ owners)) same h
names_made w peers same (answer.Near before list) h = tt
names_made w peers same (answer.Found bytes) h = tt
names_made w peers same answer.Nothing h = tt
names_made w peers same answer.Stored h = tt
names_made w peers same (answer.Refused why) h = tt
names_made w peers same answer.Noted h = tt
names_made w peers same answer.Silent h = tt

pub record IsAsked (r : ℕ) (peers : List Peer) (met : List (List ℕ)) (w : World) (node : Peer) (question : Ask) : Type 0 where
  pub given : Answer
  pub next : World
  pub fate : FateOf hss_judged w node question given next
  pub rest : next ≡ record w { nodes = next.nodes; asked = next.asked }
  pub serves : Serves r peers met next
  pub names : Names (Contains peers) given

pub ask_one : (r : ℕ) (peers : List Peer) (met : List (List ℕ)) (w : World) → Serves r peers met w → (node : Peer) (question : Ask) → Contains peers node → IsForData question → PutsMet met question → IsAsked r peers met w node question
ask_one r peers met w serves node question made data_ask puts_met =
    let f = some_fate w node question (subst (λ (ps : List Peer). Contains ps node) (sym serves.same_peers) made) in
    let left = ask_leaves hss_judged r w serves.ring f.next node question f.given data_ask f.fate in
    let held : AllByRecursion (HoldsMet w.met) w.nodes = subst (λ (m : List (List ℕ)). AllByRecursion (HoldsMet m) w.nodes) (sym serves.same_met) serves.held in
    record {
      given = f.given;
      next = f.next;
      fate = f.fate;
      rest = left.rest;
      serves = record {
        ring = left.ring;
        held = fate_met hss_judged met w f.next node question f.given puts_met serves.held f.fate;
        same_peers = left.peers ∙ serves.same_peers;
        same_met = ap (λ (v : World). v.met) left.rest ∙ serves.same_met;
      };
      names = names_made w peers serves.same_peers f.given (answer_is_in hss_judged r w serves.ring node question f.next f.given data_ask held f.fate);
    }

pub serves_so : (w : World) (st : GhostState) (r : ℕ) → Invariant (w, st) → w.replicas ≡ Some r → Serves r (map peer_of w.nodes) w.met w
serves_so w st r keeps ringed = record { ring = nodes_of_ring (w, st) r keeps ringed; held = keeps.met.held; same_peers = refl; same_met = refl }
