-- What a calm script may rely on of its ring and of its blocks. The ring stays, what was acknowledged is stored and can be read, and a
-- round moves each block to its owners (CFS, SOSP 2001, section 5.1). What was acknowledged to a round's own puts can be read after it.
use Rattle.std.specs.Prelude.{◌≡◌, ◌↔◌, ◌⊎◌, ◌≤◌, ℕ, Bool, true, false, List, ◌++◌, Contains, is_some, Result, Ok}
use Rattle.ivy_base.specs.declared.key.Key.{Key}
use Rattle.ring_model.specs.Blocks.{IsAtLeast}
use Rattle.ring_model.specs.Circle.{number}
use Rattle.ring_model.specs.Members.{IsAmong, owners}
use Rattle.dht_ids.specs.Peers.{place}
use Rattle.dht_ids.specs.declared.ask.Answer.{Answer}
use Rattle.dht_ids.specs.declared.ask.Ask.TheVariants as ask
use Rattle.dht_ids.specs.declared.judge.Judged.{Judged}
use Rattle.dht_ids.specs.declared.peer.Peer.{Peer}
use Rattle.dht_ids.specs.declared.post.Post.{Post}
use Rattle.dhash_model.specs.GetBlock.{IsGetOfBlock}
use Rattle.dhash_model.specs.GetHead.{IsGetOfHead}
use Rattle.dhash_model.specs.Execution.{Told, told_all}
use Rattle.dhash_model.specs.declared.miss.Miss.{Miss}
use Rattle.dhash_model.specs.Puts.{holds}
use Rattle.dhash_model.specs.Signed.{hss_judged}
use Rattle.dhash_model.specs.Stores.{Block, Blocks}
use Rattle.agent_model.specs.Agent.{is_head}
use Rattle.session_model.specs.Sessions.{put_question}
use Rattle.world_model.specs.Fates.{Fates, asking}
use Rattle.world_model.specs.Logs.{Played}
use Rattle.world_model.specs.Ring.{live_in_order}
use Rattle.world_model.specs.RingOf.{lives_in}
use Rattle.world_model.specs.Rounds.{EachDoes, IsRoundOf, PutsAll, PutsAround, Repairs, question_as}
use Rattle.world_model.specs.Rounds.EachDoes.{done, next as then_does}
use Rattle.world_model.specs.Rounds.PutsAll.{done as all_put, keeps, drops}
use Rattle.world_model.specs.Rounds.PutsAround.{no_route, puts}
use Rattle.world_model.specs.World.{World, entries}
use Rattle.round_laws.specs.RingOf.{IsCoveredIn, IsSettledIn}
use Rattle.calm_laws.specs.Calm.{IsCalmAt, Stopped, post_rank, held_rank}

-- If the world was reached calmly, its ring is covered, except between a join and its round: look-ups find the owners.
-- If no node stopped since the last round, or since the ring was made, it is settled.
abbrev pub KeepsItsRing : Played → Type 0
KeepsItsRing w = (r count : ℕ) (lines : List (List ℕ)) → IsCalmAt r w (Stopped count) lines
    → IsCoveredIn w.0 r × (count ≡ 0 → IsSettledIn w.0 r)

-- An owner of its key holds the post, or a newer head.
abbrev pub IsHeld : ℕ → World → Post → Type 0
IsHeld r w p = (m : Peer) × IsAmong m (owners place r (live_in_order w) (number p.key)) × IsAtLeast (post_rank p) (held_rank w p.key m)

-- Each get of its block returns it.
abbrev pub GetsGiveBlock : ℕ → World → Post → Type 0
GetsGiveBlock r w p = (next : World) (looks asks : Told) (came : Result (List ℕ) Miss)
    → Fates hss_judged w (asking (ask.Route p.key) looks ++ asking (ask.Get p.key) asks) next
    → IsGetOfBlock p.key r (entries w) (told_all (ask.Route p.key) looks ++ told_all (ask.Get p.key) asks) came → came ≡ Ok p.bytes

-- Each get of its log's head returns one of its number or a greater one.
abbrev pub GetsGiveHead : ℕ → World → Post → Type 0
GetsGiveHead r w p = (next : World) (looks asks : Told) (came : Result (List Judged) Miss)
    → Fates hss_judged w (asking (ask.Route p.key) looks ++ asking (ask.Get p.key) asks) next
    → IsGetOfHead (hss_judged p.key) p.key r (entries w) (told_all (ask.Route p.key) looks ++ told_all (ask.Get p.key) asks) came
    → (heads : List Judged) × (j : Judged) × (came ≡ Ok heads) × Contains heads j × (post_rank p ≤ j.seq)

-- The post is stored and can be read.
pub record IsReadable (r : ℕ) (w : World) (p : Post) : Type 0 where
  pub held : IsHeld r w p
  pub block : is_head p.kind ≡ false → GetsGiveBlock r w p
  pub head : is_head p.kind ≡ true → GetsGiveHead r w p

-- A live node holds something under a key exactly if it is an owner of the key and a live node held something under it before.
abbrev pub MovesBlocks : ℕ → World → World → Type 0
MovesBlocks r w next = (m : Peer) (key : Key) → lives_in next m ≡ true
    → (is_some (held_rank next key m) ≡ true) ↔
    (IsAmong m (owners place r (live_in_order w) (number key)) × (p : Peer) × (lives_in w p ≡ true)
    × (is_some (held_rank w key p) ≡ true))

-- ---- a round's own puts

module _ {r : ℕ} (p : Post) where
  -- The put is of the post, and it was acknowledged: as a whole, or by one of the nodes that it counts, which answered that it holds the
  -- block or a newer head. The node that puts is counted too, where it is an owner.
  abbrev pub IsAckedPut : {from : Peer} {key : Key} {block : Block} {w next : World} {dropped : Bool}
      → PutsAround hss_judged from r key block w dropped next → Type 0
  IsAckedPut (no_route found last looks nobody) = ⊥
  IsAckedPut {key = key} {block = block} (puts q qs asks mid last acknowledged dropping looks put own fates goes) =
      (question_as block.kind key block.bytes ≡ put_question p)
      × ((acknowledged ≡ true) ⊎ ((owner : Peer) × (given : Answer) × IsAmong (owner, given) asks × (holds given ≡ true)))

  -- one of a node's puts is so,
  abbrev pub IsAckedAmong : {from : Peer} {blocks : Blocks} {w next : World} {dropped : List Key}
      → PutsAll hss_judged from r blocks w dropped next → Type 0
  IsAckedAmong all_put = ⊥
  IsAckedAmong (keeps one rest) = IsAckedPut one ⊎ IsAckedAmong rest
  IsAckedAmong (drops one rest) = IsAckedPut one ⊎ IsAckedAmong rest

  -- one of all nodes' puts
  abbrev pub IsAckedInPart : {w next : World} {ps : List Peer} → EachDoes (Repairs hss_judged r) w ps next → Type 0
  IsAckedInPart done = ⊥
  IsAckedInPart (then_does first rest) = IsAckedAmong first.puts ⊎ IsAckedInPart rest

-- Each post of which a put of the round was acknowledged is stored after the round and can be read.
abbrev pub PutInRoundsIsReadable : ℕ → World → World → Type 0
PutInRoundsIsReadable r w next = (round : IsRoundOf hss_judged r w next) (p : Post) → IsAckedInPart p round.repairs → IsReadable r next p
