-- What a put is to ask is the next ask of the first post that is left, and what a get or a put asks was told once it was heard.
use Rattle.std.proofs.Common.{◌≡◌, ◌≢◌, ⊎_elim, ℕ, Bool, true, false, List, [], ◌∷◌, ◌++◌, Option, Some, None, if◌then◌else◌, refl, sym, ◌∙◌, subst}
use Rattle.ivy_base.specs.declared.key.Key.{Key}
use Rattle.dht_ids.specs.Asked.{IsForData, told}
use Rattle.dht_ids.specs.declared.ask.Answer.{Answer}
use Rattle.dht_ids.specs.declared.ask.Ask.{Ask}
use Rattle.dht_ids.specs.declared.ask.Ask.TheVariants as ask
use Rattle.dht_ids.specs.declared.ask.Heard.{Heard}
use Rattle.dht_ids.specs.declared.peer.Peer.{Peer}
use Rattle.dht_ids.specs.declared.post.Post.{Post}
use Rattle.dht_ids.specs.declared.post.PostKind.{PostKind}
use Rattle.dht_ids.specs.declared.post.PostKind.TheVariants as kind
use Rattle.dhash_client.specs.Puts.{put_awaited, put_kind}
use Rattle.dhash_client.specs.declared.put.PutKind.TheVariants as put
use Rattle.agent_model.specs.Agent.{is_head}
use Rattle.session_model.specs.Asking.{AsksNext}
use Rattle.session_model.specs.Sessions.{put_question}
use Rattle.ivy_session.specs.Putting.{Putting, PuttingIsAfter, post_of}
use Rattle.ivy_session.specs.Publishing.{PublishingState, PublishingIsAfter, PutIsBehind, awaited_in as put_awaited_in, posts_in, posts_of, publishing_awaited}
use Rattle.session_laws.specs.Laws.{IsWholePutOfPost}
use Rattle.session_laws.proofs.AskedMachines.{post_is_asked_next}

some_or_none : {T : Type 0} (x : T) → Some x ≡ None → ⊥
some_or_none x e = cc e

-- ---- puts

kinds : (k : PostKind) → put_kind k ≡ (if is_head k then put.Head else put.Block)
kinds kind.Block = refl
kinds kind.Log = refl
kinds kind.Head = refl

-- the first post that is left, and the next ask of its put
pub record FirstIsNext (trail : List Heard) (s : PublishingState) (node : Peer) (question : Ask) : Type 0 where
  pub first : Post
  pub posts : List Post
  pub posts_are : posts_of s ≡ first ∷ posts
  pub next : AsksNext first.key (put_question first) (IsWholePutOfPost s.replicas s.entries first) trail node question

module _ (replicas : ℕ) (entries : List Peer) (left : List Post) (trail : List Heard) (node : Peer) (question : Ask) where
  put_next : (x : Putting) → PuttingIsAfter replicas entries trail x → put_awaited x.put ≡ Some (node, question)
      → AsksNext (post_of x).key (put_question (post_of x)) (IsWholePutOfPost replicas entries (post_of x)) trail node question
  put_next x h waits =
      subst (λ (r : ℕ). AsksNext (post_of x).key (put_question (post_of x)) (IsWholePutOfPost r entries (post_of x)) trail node question) h.replicas
      (post_is_asked_next entries trail x.put (post_of x) node question h.after
      (record { key = refl; bytes = refl; what = h.what ∙ kinds x.kind }) waits)

  pub posts_next : (put : Option Putting) → PutIsBehind replicas entries trail put → put_awaited_in put ≡ Some (node, question)
      → (first : Post) × (posts : List Post) × (posts_in put left ≡ first ∷ posts) × AsksNext first.key (put_question first) (IsWholePutOfPost replicas entries first) trail node question
  posts_next None h waits = absurd (some_or_none (node, question) (sym waits))
  posts_next (Some x) h waits = (post_of x, left, refl, put_next x h waits)

pub first_is_next : (trail : List Heard) (s : PublishingState) (node : Peer) (question : Ask) → PublishingIsAfter trail s → publishing_awaited s ≡ Some (node, question) → FirstIsNext trail s node question
first_is_next trail s node question h waits =
    let n = posts_next s.replicas s.entries s.left trail node question s.put h waits in
    record { first = n.0; posts = n.1; posts_are = n.2; next = n.3 }

-- ---- what was heard

-- what a put of the post asks is for data
pub put_is_for_data : (p : Post) → IsForData (put_question p)
put_is_for_data p = by (is_head p.kind)
  where
    by : (of_head : Bool) → IsForData (if of_head then ask.PutHead p.key p.bytes else ask.PutBlock p.key p.bytes)
    by true = tt
    by false = tt

told_some : (trail : List Heard) (node : Peer) (question : Ask) (given : Answer) → IsForData question → trail ++ told node question given ≢ []
told_some (first ∷ trail) node question given ok none = cc none
told_some [] node (ask.Route key) given ok none = cc none
told_some [] node ask.Near given ok none = ok
told_some [] node (ask.Notify peer) given ok none = ok
told_some [] node (ask.Get key) given ok none = cc none
told_some [] node (ask.PutBlock key bytes) given ok none = cc none
told_some [] node (ask.PutHead key bytes) given ok none = cc none

-- once the next ask of a get or a put was heard, some ask was
pub next_is_told : {key : Key} {own : Ask} {Whole : List Heard → Type 0} {trail : List Heard} {node : Peer} {question : Ask} → AsksNext key own Whole trail node question → IsForData own → (given : Answer) → trail ++ told node question given ≢ []
next_is_told {trail = trail} {node = node} {question = question} n ok given = told_some trail node question given (⊎_elim (λ route. subst IsForData (sym route) tt) (λ owners. subst IsForData (sym owners) ok) n.is_of)
