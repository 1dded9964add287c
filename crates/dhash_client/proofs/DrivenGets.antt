-- What a driver of a get or a put keeps: after the trail that it was told so far the machine may be in its state. So it is at the start;
-- `next` and `heard` keep it; and with the result the trail is a whole get or put.
use Rattle.std.proofs.Common.{◌≡◌, ◌⊎◌, inl, inr, ℕ, List, [], Option, Some, None, refl, sym, ap, subst}
use Rattle.std.specs.Option.{option_map}
use Rattle.ivy_base.specs.declared.key.Key.{Key}
use Rattle.dht_ids.specs.Asked.{IsForData}
use Rattle.dht_ids.specs.declared.ask.Ask.{Ask}
use Rattle.dht_ids.specs.declared.ask.Ask.TheVariants as ask
use Rattle.dht_ids.specs.declared.peer.Peer.{Peer}
use Rattle.dht_ids.specs.declared.post.PostKind.{PostKind}
use Rattle.ring_model.proofs.Lists.{some_same, none_some}
use Rattle.dhash_client.specs.Execution.{Asking, ExecutionState, next_owner, awaited, awaited_at}
use Rattle.dhash_model.specs.GetBlock.{is_of_get}
use Rattle.dhash_model.specs.Puts.{is_of_put}
use Rattle.dhash_client.specs.GetBlock.{IsEnoughBlock, SumsBlock, BlockIsAfter, block_begun, block_awaited_at}
use Rattle.dhash_client.specs.GetHead.{Judges, IsEnoughHead, SumsHead, HeadIsAfter, head_begun}
use Rattle.dhash_client.specs.Puts.{put_kind, question_of, IsEnoughPut, SumsPut, PutState, PutIsAfter, put_begun, put_awaited}
use Rattle.dhash_client.specs.declared.put.PutKind.{PutKind}
use Rattle.dhash_client.specs.declared.put.PutKind.TheVariants as kind
use Rattle.dhash_client.proofs.Executions.{begins}

pub block_begins : (key : Key) (r : ℕ) (entries : List Peer) → BlockIsAfter entries [] (block_begun key r entries)
block_begins key r entries = begins (λ key. ask.Get key) is_of_get IsEnoughBlock (λ key. SumsBlock key None None) entries key r (λ h. h.1.1, refl)

pub head_begins : {J : Type 0} (judges : Judges J) (judge : J) (key : Key) (r : ℕ) (entries : List Peer) → HeadIsAfter judges entries [] (head_begun judge key r entries)
head_begins judges judge key r entries = begins (λ key. ask.Get key) is_of_get IsEnoughHead (λ key. SumsHead (judges judge key) [] None) entries key r (refl, λ none. refl)

pub put_begins : (what : PutKind) (bytes : List ℕ) (key : Key) (r : ℕ) (entries : List Peer) → PutIsAfter entries [] (put_begun what bytes key r entries)
put_begins what bytes key r entries = begins (question_of what bytes) is_of_put IsEnoughPut (λ key. SumsPut 0) entries key r refl

-- the node to be heard is asked for the route, or what owners are asked
asked_at : (own : Ask) (c : ExecutionState) (asking : Option Asking) (node : Peer) (question : Ask) → awaited_at own c asking ≡ Some (node, question) → (question ≡ ask.Route c.look.key) ⊎ (question ≡ own)
asked_at own c None node question e = by c.look.waiting e
  where
    by : (waiting : Option Peer) → option_map {U = Peer × Ask} (λ p. (p, ask.Route c.look.key)) waiting ≡ Some (node, question) → (question ≡ ask.Route c.look.key) ⊎ (question ≡ own)
    by None e = absurd (none_some (node, question) e)
    by (Some p) e = inl (sym (ap (λ (s : Peer × Ask). s.1) (some_same (p, ask.Route c.look.key) (node, question) e)))
asked_at own c (Some a) node question e = by (next_owner c.replicas a) e
  where
    by : (owner : Option Peer) → option_map {U = Peer × Ask} (λ p. (p, own)) owner ≡ Some (node, question) → (question ≡ ask.Route c.look.key) ⊎ (question ≡ own)
    by None e = absurd (none_some (node, question) e)
    by (Some p) e = inr (sym (ap (λ (s : Peer × Ask). s.1) (some_same (p, own) (node, question) e)))

-- a put of such a post asks for the route to its key, or puts the bytes
pub post_asks : (of : PostKind) (s : PutState) (node : Peer) (question : Ask) → s.what ≡ put_kind of → put_awaited s ≡ Some (node, question)
    → (question ≡ ask.Route s.execution.look.key) ⊎ (question ≡ question_of (put_kind of) s.bytes s.execution.look.key)
post_asks of s node question what awaited =
    subst (λ (k : PutKind). (question ≡ ask.Route s.execution.look.key) ⊎ (question ≡ question_of k s.bytes s.execution.look.key)) what
    (asked_at (question_of s.what s.bytes s.execution.look.key) s.execution s.execution.asking node question awaited)

-- what is asked next may be asked of a mesh
for_data_at : (own : Ask) → IsForData own → (c : ExecutionState) (asking : Option Asking) (node : Peer) (question : Ask) → awaited_at own c asking ≡ Some (node, question) → IsForData question
for_data_at own f c asking node question awaited = by (asked_at own c asking node question awaited)
  where
    by : (question ≡ ask.Route c.look.key) ⊎ (question ≡ own) → IsForData question
    by (inl is) = subst (λ (q : Ask). IsForData q) (sym is) tt
    by (inr is) = subst (λ (q : Ask). IsForData q) (sym is) f

pub block_for_data : (found : Option (List ℕ)) (c : ExecutionState) (node : Peer) (q : Ask) → block_awaited_at found c ≡ Some (node, q) → IsForData q
block_for_data None c node q e = for_data_at (ask.Get c.look.key) tt c c.asking node q e
block_for_data (Some bytes) c node q e = absurd (none_some (node, q) e)

pub head_for_data : (c : ExecutionState) (node : Peer) (q : Ask) → awaited (ask.Get c.look.key) c ≡ Some (node, q) → IsForData q
head_for_data c node q e = for_data_at (ask.Get c.look.key) tt c c.asking node q e

pub put_for_data : (what : PutKind) (bytes : List ℕ) (c : ExecutionState) (node : Peer) (q : Ask) → awaited (question_of what bytes c.look.key) c ≡ Some (node, q) → IsForData q
put_for_data kind.Block bytes c node q e = for_data_at (ask.PutBlock c.look.key bytes) tt c c.asking node q e
put_for_data kind.Head bytes c node q e = for_data_at (ask.PutHead c.look.key bytes) tt c c.asking node q e
