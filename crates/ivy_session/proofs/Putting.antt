-- The put of one post.
use Rattle.std.proofs.Common.{◌≡◌, ℕ, Bool, List, [], ◌++◌, Result, IfOk, Ok, Err, refl, sym, ap, ◌∙◌, subst}
use Rattle.ivy_base.specs.declared.key.Key.{Key}
use Rattle.ivy_base.specs.declared.memory.Memory.{Memory}
use Rattle.ivy_base.specs.Naming.{name}
use Rattle.dht_ids.specs.Asked.{told}
use Rattle.dht_ids.specs.declared.ask.Answer.{Answer}
use Rattle.dht_ids.specs.declared.ask.Ask.{Ask}
use Rattle.dht_ids.specs.declared.ask.Heard.{Heard}
use Rattle.dht_ids.specs.declared.ask.Want.{Want}
use Rattle.dht_ids.specs.declared.ask.Want.TheVariants as want
use Rattle.dht_ids.specs.declared.peer.Peer.{Peer}
use Rattle.dht_ids.specs.declared.post.Post.{Post}
use Rattle.dht_ids.specs.declared.post.PostKind.{PostKind}
use Rattle.dht_ids.specs.declared.post.PostKind.TheVariants as kind
use Rattle.dhash_model.specs.declared.miss.Miss.{Miss}
use Rattle.dhash_model.specs.Execution.{IsExecution}
use Rattle.dhash_model.specs.Puts.{EndsPut}
use Rattle.dhash_client.specs.declared.put.PutKind.{PutKind}
use Rattle.dhash_client.specs.Puts.{PutIsAfter, PutIsWanted, PutHasHeard, IsPutOf, put_kind, question_of}
use Rattle.dhash_client.proofs.DrivenGets.{put_begins}
use Rattle.session_model.specs.Sessions.{IsPutOfPost, ack_of, put_question}
use Rattle.ivy_session.specs.Putting.{Putting, PuttingIsAfter, PuttingIsWanted, PuttingHasHeard, IsSamePutting, putting, post_of}

-- after no ask it begins
pub putting_begins : (p : Post) (r : ℕ) (entries : List Peer) → PuttingIsAfter r entries [] (putting p r entries)
putting_begins p r entries = record { what = refl; named = refl; replicas = refl; after = put_begins (put_kind p.kind) p.bytes p.key r entries }

-- its owners are asked what the definition says
pub asks_owners : (k : PostKind) (bytes : List ℕ) (key : Key) → question_of (put_kind k) bytes key ≡ put_question (record { key = key; bytes = bytes; kind = k })
asks_owners kind.Block bytes key = refl
asks_owners kind.Log bytes key = refl
asks_owners kind.Head bytes key = refl

same_ack : (one other : Post) → other.key ≡ one.key → other.bytes ≡ one.bytes → ack_of one ≡ ack_of other
same_ack one other key bytes = λ i. record { key = sym key i; name = name (sym bytes i) }

-- a step that leaves what is put keeps what is said of it
stays_behind : (r : ℕ) (entries : List Peer) (trail longer : List Heard) (old new : Putting) → IsSamePutting old new → (PutIsAfter entries trail old.put → PutIsAfter entries longer new.put)
    → PuttingIsAfter r entries trail old → PuttingIsAfter r entries longer new
stays_behind r entries trail longer old new same step behind = record {
  what = same.2.1 ∙ behind.what ∙ ap put_kind (sym same.0);
  named = same.1 ∙ behind.named ∙ same_ack (post_of old) (post_of new) same.2.0.0 same.2.2;
  replicas = same.2.0.1 ∙ behind.replicas;
  after = step behind.after;
}

whole_of_post : (r : ℕ) (entries : List Peer) (trail : List Heard) (s : Putting) (came : Result Bool Miss) → PuttingIsAfter r entries trail s
    → IsPutOf s.put.what s.put.bytes s.put.execution.look.key s.put.execution.replicas entries trail came → IsPutOfPost r entries (post_of s) trail came
whole_of_post r entries trail s came behind whole =
    let key : Key = s.put.execution.look.key in
    subst (λ (q : Ask). IsExecution key q entries (EndsPut r) trail came) (asks_owners s.kind s.put.bytes key)
    (subst (λ (k : PutKind). IsPutOf k s.put.bytes key r entries trail came) behind.what
    (subst (λ (n : ℕ). IsPutOf s.put.what s.put.bytes key n entries trail came) behind.replicas whole))

wants_as : (old new : Putting) → new.kind ≡ old.kind → new.ack ≡ old.ack → (w : Want (Result Bool Miss)) → PutIsWanted old.put new.put w → PuttingIsWanted old new w
wants_as old new same_kind acks (want.Ask node question) w =
    let same : IsSamePutting old new = (same_kind, acks, w.0) in
    (same, w.1, λ r entries trail behind. stays_behind r entries trail trail old new same (w.2 entries trail) behind)
wants_as old new same_kind acks (want.Done came) w = λ r entries trail behind. whole_of_post r entries trail old came behind (w entries trail behind.after)

pub putting_wants : (old new : Putting) → new.kind ≡ old.kind → new.ack ≡ old.ack → (result : Result (Want (Result Bool Miss)) Memory) → IfOk result (λ w. PutIsWanted old.put new.put w) → IfOk result (λ w. PuttingIsWanted old new w)
putting_wants old new same_kind acks (Ok w) h = wants_as old new same_kind acks w h
putting_wants old new same_kind acks (Err e) h = tt

hears_as : (old new : Putting) → new.kind ≡ old.kind → new.ack ≡ old.ack → (given : Answer) → PutHasHeard old.put new.put given → PuttingHasHeard old new given
hears_as old new same_kind acks given h =
    let same : IsSamePutting old new = (same_kind, acks, h.0) in
    (same, λ r entries trail node question awaited behind. stays_behind r entries trail (trail ++ told node question given) old new same (h.1 entries trail node question awaited) behind)

pub putting_hears : (old new : Putting) → new.kind ≡ old.kind → new.ack ≡ old.ack → (given : Answer) (result : Result (Unit {0}) Memory) → IfOk result (λ _. PutHasHeard old.put new.put given) → IfOk result (λ _. PuttingHasHeard old new given)
putting_hears old new same_kind acks given (Ok w) h = hears_as old new same_kind acks given h
putting_hears old new same_kind acks given (Err e) h = tt
