-- The nodes of a world while none joins or stops and no ask is lost: what they know of each other stays. And what it is that they hold a block of a kind, or a newer one.
use Rattle.std.proofs.Common.{◌≡◌, ℕ, ◌≤◌, Bool, true, false, cond, List, [], Option, Some, None, refl, sym, ◌∙◌, subst, arith, nat_lt, option_map}
use Rattle.std.specs.Prelude.{is_some}
use Rattle.std.specs.List.{AllByRecursion}
use Rattle.std.proofs.lemmas.Bool.{ltb-true, ltb-false}
use Rattle.ivy_base.specs.declared.key.Key.{Key}
use Rattle.ivy_base.specs.Naming.{name}
use Rattle.ring_model.specs.Blocks.{raised}
use Rattle.ring_model.specs.Ring.{Links}
use Rattle.ring_model.proofs.Lists.{some_same, none_some}
use Rattle.dhash_model.specs.Signed.{hss_judged}
use Rattle.log_model.proofs.Lists.{in_nothing}
use Rattle.dht_ids.specs.Asked.{IsForData}
use Rattle.dht_ids.specs.declared.ask.Answer.{Answer}
use Rattle.dht_ids.specs.declared.ask.Ask.{Ask}
use Rattle.dht_ids.specs.declared.ask.Ask.TheVariants as ask
use Rattle.dht_ids.specs.declared.ask.StoreFault.{StoreFault}
use Rattle.dht_ids.specs.declared.peer.Peer.{Peer}
use Rattle.dhash_model.specs.Puts.{is_of_put}
use Rattle.dhash_model.specs.Stores.{Block, content, content_fault, head, head_fault}
use Rattle.dhash_model.specs.declared.kind.BlockKind.{BlockKind}
use Rattle.dhash_model.specs.declared.kind.BlockKind.TheVariants.{Content, Head}
use Rattle.world_model.specs.Nodes.{Node, answered, stored}
use Rattle.world_model.specs.World.{World}
use Rattle.world_model.specs.Fates.{FateOf}
use Rattle.world_model.specs.Fates.FateOf.{lost, stopped, answers}
use Rattle.world_model.specs.Rounds.{question_as}
use Rattle.world_model.specs.Holding.{held_in, block_rank}
use Rattle.round_laws.specs.RingOf.{AreApart, links_in}
use Rattle.round_laws.proofs.Nodes.{Shape, made_by}
use Rattle.round_laws.proofs.Standing.{IsBase, IsWithin, KeepsRing, fated, still_asked}
use Rattle.round_laws.proofs.Repairing.{put_keeps}
use Rattle.round_laws.proofs.Storing.{under}

-- ---- what nodes know

-- nodes that stand apart, of which r own a key
pub record AreKnown (r : ℕ) (base : List Shape) : Type 0 where
  pub apart : AreApart (made_by base)
  pub owned : AllByRecursion (λ s. s.2 ≡ r) base

-- a world of that ring, of which no ask is to be lost
pub record IsRing (r : ℕ) (base : List Shape) (links : Peer → Links Peer) (start : ℕ) (w : World) : Type 0 where
  pub within : IsWithin base [] start w
  pub linked : links_in w ≡ links
  pub replicas : w.replicas ≡ Some r

-- from one world to another nobody comes or stops, and what nodes know stays
abbrev pub KeepsRings : World → World → Type 0
KeepsRings w v = (r : ℕ) (base : List Shape) (links : Peer → Links Peer) (start : ℕ) → AreKnown r base → IsRing r base links start w → IsRing r base links start v

pub same_rings : (w v : World) → v.nodes ≡ w.nodes → v.lost ≡ w.lost → v.asked ≡ w.asked → v.replicas ≡ w.replicas → KeepsRings w v
same_rings w v n l a o r base links start known h =
    subst (λ x. IsRing r base links start (record v { nodes = x })) (sym n)
    (subst (λ x. IsRing r base links start (record v { nodes = w.nodes; lost = x })) (sym l)
    (subst (λ x. IsRing r base links start (record v { nodes = w.nodes; lost = w.lost; asked = x })) (sym a)
    (subst (λ x. IsRing r base links start (record v { nodes = w.nodes; lost = w.lost; asked = w.asked; replicas = x })) (sym o)
    (record {
      within = record { shapes = h.within.shapes; known = h.within.known; losses = h.within.losses; asked = h.within.asked };
      linked = h.linked;
      replicas = h.replicas;
    }))))

pub keeps_ring : (question : Ask) → IsForData question → KeepsRing hss_judged question
keeps_ring (ask.Route key) h n = (refl, refl)
keeps_ring ask.Near h n = absurd h
keeps_ring (ask.Notify peer) h n = absurd h
keeps_ring (ask.Get key) h n = (refl, refl)
keeps_ring (ask.PutBlock key bytes) h n = put_keeps hss_judged Content key bytes n
keeps_ring (ask.PutHead key bytes) h n = put_keeps hss_judged Head key bytes n

fate_replicas : {w next : World} {to : Peer} {question : Ask} {given : Answer} → FateOf hss_judged w to question given next → next.replicas ≡ w.replicas
fate_replicas (lost l) = refl
fate_replicas (stopped n l is dead) = refl
fate_replicas (answers n l is live) = refl

pub base_from : (r : ℕ) (base : List Shape) (start end : ℕ) → AreKnown r base → IsBase r base [] start end
base_from r base start end known = record { apart = known.apart; replicas = known.owned; quiet = λ k above most h. in_nothing k h }

-- an ask for data
pub asked_rings : (w next : World) (to : Peer) (question : Ask) (given : Answer) → IsForData question → FateOf hss_judged w to question given next → KeepsRings w next
asked_rings w next to question given for_data fate r base links start known h =
    let b = base_from r base start start known in
    let a = still_asked hss_judged r base [] start start b w next to question given h.within (keeps_ring question for_data) (fated hss_judged r base [] start start b w next to question given h.within fate) in
    record { within = a.within; linked = a.links ∙ h.linked; replicas = fate_replicas fate ∙ h.replicas }

abbrev pub IsIn : Key → BlockKind → ℕ → Option Block → Type 0
IsIn key kind least o = (c : Block) × (o ≡ Some c) × (c.kind ≡ kind) × (least ≤ block_rank hss_judged key c)

abbrev pub IsHeld : World → Key → BlockKind → ℕ → Peer → Type 0
IsHeld w key kind least p = IsIn key kind least (held_in w key p)

-- what is held stays
abbrev pub HeldStays : World → World → Type 0
HeldStays w next = (key : Key) (kind : BlockKind) (least : ℕ) (p : Peer) → IsHeld w key kind least p → IsHeld next key kind least p

pub raised_to : (f : Block → ℕ) (o : Option Block) (v w : ℕ) → option_map f o ≡ raised v (Some w) → (c : Block) × (o ≡ Some c) × (v ≤ f c) × (w ≤ f c)
raised_to f o v w e = by o (nat_lt w v) refl e
  where
    by : (o : Option Block) (b : Bool) → nat_lt w v ≡ b → option_map f o ≡ cond b (Some v) (Some w) → (c : Block) × (o ≡ Some c) × (v ≤ f c) × (w ≤ f c)
    by None true t e = absurd (none_some v e)
    by None false t e = absurd (none_some w e)
    by (Some c) true t e = let same : f c ≡ v = some_same (f c) v e in let l = ltb-true w v t in (c, refl, omega (arith, same), omega (arith, same, l))
    by (Some c) false t e = let same : f c ≡ w = some_same (f c) w e in let l = ltb-false w v t in (c, refl, omega (arith, same, l), omega (arith, same))

pub raised_from : (f : Block → ℕ) (o before : Option Block) (v : ℕ) → option_map f o ≡ raised v (option_map f before) → (c : Block) × (o ≡ Some c) × (v ≤ f c)
raised_from f None None v e = absurd (none_some v e)
raised_from f (Some c) None v e = let same : f c ≡ v = some_same (f c) v e in (c, refl, omega (arith, same))
raised_from f o (Some b) v e = let found = raised_to f o v (f b) e in (found.0, found.1, found.2)

stored_answers : (n : Node) (key : Key) (block : Block) (fault : Option StoreFault) → is_of_put (stored n key block fault).0 ≡ true
stored_answers n key block (Some f) = refl
stored_answers n key block None = refl

pub put_answers : (kind : BlockKind) (key : Key) (bytes : List ℕ) (n : Node) → is_of_put (answered hss_judged n (question_as kind key bytes)).0 ≡ true
put_answers Content key bytes n = stored_answers n key (content bytes) (content_fault key bytes n.blocks)
put_answers Head key bytes n = stored_answers n key (head bytes) (head_fault hss_judged key bytes n.blocks)

-- blocks that may stand under a key as content, and as heads
module _ (OfContent OfHeads : Key → List ℕ → Type 0) where
  abbrev pub IsOfKind : Key → BlockKind → List ℕ → Type 0
  IsOfKind key Content bytes = OfContent key bytes
  IsOfKind key Head bytes = OfHeads key bytes

  -- what is put where it is taken is of its kind
  abbrev pub Fits : Ask → Type 0
  Fits (ask.PutBlock key bytes) = name bytes ≡ key → OfContent key bytes
  Fits (ask.PutHead key bytes) = is_some (hss_judged key bytes) ≡ true → OfHeads key bytes
  Fits _ = Unit {0}

  -- each block that a node holds is of its key's kind
  abbrev pub HoldsKinds : Node → Type 0
  HoldsKinds n = (key : Key) (c : Block) → under key n ≡ Some c → IsOfKind key c.kind c.bytes
