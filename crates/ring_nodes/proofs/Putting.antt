-- What a node answers to a put and is then, by what its store tells.
use Rattle.std.proofs.Common.{◌≡◌, List, ℕ, Option, Some, None, Result, Ok, Err, IfOk, refl, sym, ap, ◌∙◌, subst}
use Rattle.std.specs.Prelude.{OnOk, OnErr}
use Rattle.std.specs.FinMap.Entries.{put}
use Rattle.ivy_base.specs.declared.key.Key.{Key}
use Rattle.ivy_base.specs.declared.memory.Memory.{Memory}
use Rattle.ivy_base.specs.Naming.{key_cmp, name}
use Rattle.dht_ids.specs.declared.ask.Answer.{Answer}
use Rattle.dht_ids.specs.declared.ask.Ask.{Ask}
use Rattle.dht_ids.specs.declared.ask.Ask.TheVariants as ask
use Rattle.dht_ids.specs.declared.ask.StoreFault.{StoreFault}
use Rattle.dht_ids.specs.declared.judge.Judged.{Judged}
use Rattle.node_store.specs.declared.fault.PutFault.{PutFault}
use Rattle.node_store.specs.declared.fault.PutFault.TheVariants as fault
use Rattle.dhash_model.specs.Stores.{Block, Blocks, content, content_fault, head, head_fault}
use Rattle.node_store.specs.Stores.{Tells}
use Rattle.world_model.specs.Nodes.{Node, answered, stored}
use Rattle.world_model.specs.World.{peer_of}
use Rattle.ring_nodes.specs.Puts.{IsNamed, Told}

-- the node with these blocks
abbrev pub with_blocks : Node → Blocks → Node
with_blocks n blocks = record n { blocks = blocks }

module _ (n : Node) (key : Key) (block : Block) where
  pub put_given : (found : Option StoreFault) (outcome : Result Unit PutFault) (result : Result Answer Memory) → Tells found outcome → Told outcome result → IfOk result (λ given. given ≡ (stored n key block found).0)
  put_given found outcome (Err e) tells told = tt
  put_given None (Ok done) (Ok given) tells told = told
  put_given (Some why) (Ok done) (Ok given) tells told = absurd cc
  put_given None (Err (fault.Refused other)) (Ok given) tells told = absurd cc
  put_given (Some why) (Err (fault.Refused other)) (Ok given) tells told = cc
  put_given found (Err fault.Memory) (Ok given) tells told = absurd cc

  pub put_after : (after : Blocks) (found : Option StoreFault) (outcome : Result Unit PutFault) (result : Result Answer Memory) → Tells found outcome → Told outcome result → OnOk outcome (after ≡ put key_cmp key block n.blocks) → OnErr outcome (after ≡ n.blocks)
      → OnOk result (with_blocks n after ≡ (stored n key block found).1)
  put_after after found outcome (Err e) tells told put_so kept = tt
  put_after after None (Ok done) (Ok given) tells told put_so kept = ap (with_blocks n) put_so
  put_after after (Some why) (Ok done) (Ok given) tells told put_so kept = absurd cc
  put_after after None (Err (fault.Refused other)) (Ok given) tells told put_so kept = absurd cc
  put_after after (Some why) (Err (fault.Refused other)) (Ok given) tells told put_so kept = ap (with_blocks n) kept
  put_after after found (Err fault.Memory) (Ok given) tells told put_so kept = absurd cc

  pub put_unchanged : (after : Blocks) (outcome : Result Unit PutFault) (result : Result Answer Memory) → Told outcome result → OnErr outcome (after ≡ n.blocks) → OnErr result (with_blocks n after ≡ n)
  put_unchanged after (Ok done) (Ok given) told kept = tt
  put_unchanged after (Ok done) (Err e) told kept = absurd told
  put_unchanged after (Err (fault.Refused why)) (Ok given) told kept = tt
  put_unchanged after (Err (fault.Refused why)) (Err e) told kept = absurd told
  put_unchanged after (Err fault.Memory) (Ok given) told kept = tt
  put_unchanged after (Err fault.Memory) (Err e) told kept = ap (with_blocks n) kept

  pub stored_peer : (found : Option StoreFault) → peer_of (stored n key block found).1 ≡ peer_of n
  stored_peer None = refl
  stored_peer (Some why) = refl

-- no answer changes which peer a node is
pub answered_peer : (judged : Key → List ℕ → Option Judged) (n : Node) (question : Ask) → peer_of (answered judged n question).1 ≡ peer_of n
answered_peer judged n (ask.Route key) = refl
answered_peer judged n ask.Near = refl
answered_peer judged n (ask.Notify peer) = refl
answered_peer judged n (ask.Get key) = refl
answered_peer judged n (ask.PutBlock key bytes) = stored_peer n key (content bytes) (content_fault key bytes n.blocks)
answered_peer judged n (ask.PutHead key bytes) = stored_peer n key (head bytes) (head_fault judged key bytes n.blocks)

-- a block that is put has the name, if the ask is known to be named
pub named_block : (question : Ask) (key : Key) (bytes read : List ℕ) → question ≡ ask.PutBlock key bytes → read ≡ bytes → IsNamed question → key ≡ name read
named_block question key bytes read is same named =
    let so : key ≡ name bytes = subst (λ (q : Ask). IsNamed q) is named in
    so ∙ ap name (sym same)

-- the answers to the two puts
pub block_given : (judged : Key → List ℕ → Option Judged) (n : Node) (question : Ask) (key : Key) (bytes read : List ℕ) (blocks : Blocks) (outcome : Result Unit PutFault) (result : Result Answer Memory)
    → question ≡ ask.PutBlock key bytes → read ≡ bytes → n.blocks ≡ blocks → Tells (content_fault key read blocks) outcome → Told outcome result → IfOk result (λ given. given ≡ (answered judged n question).0)
block_given judged n question key bytes read blocks outcome result is same held tells told =
    let t : Tells (content_fault key bytes n.blocks) outcome = subst (λ l. Tells (content_fault key l n.blocks) outcome) same (subst (λ b. Tells (content_fault key read b) outcome) (sym held) tells) in
    subst (λ q. IfOk result (λ given. given ≡ (answered judged n q).0)) (sym is) (put_given n key (content bytes) (content_fault key bytes n.blocks) outcome result t told)

pub head_given : (judged : Key → List ℕ → Option Judged) (n : Node) (question : Ask) (key : Key) (bytes read : List ℕ) (blocks : Blocks) (outcome : Result Unit PutFault) (result : Result Answer Memory)
    → question ≡ ask.PutHead key bytes → read ≡ bytes → n.blocks ≡ blocks → Tells (head_fault judged key read blocks) outcome → Told outcome result → IfOk result (λ given. given ≡ (answered judged n question).0)
head_given judged n question key bytes read blocks outcome result is same held tells told =
    let t : Tells (head_fault judged key bytes n.blocks) outcome = subst (λ l. Tells (head_fault judged key l n.blocks) outcome) same (subst (λ b. Tells (head_fault judged key read b) outcome) (sym held) tells) in
    subst (λ q. IfOk result (λ given. given ≡ (answered judged n q).0)) (sym is) (put_given n key (head bytes) (head_fault judged key bytes n.blocks) outcome result t told)
