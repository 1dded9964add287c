-- Asks of a put, and what was heard of them.
use Rattle.std.proofs.Common.{◌≡◌, ◌⊎◌, inl, inr, Bool, true, false, cond, not, ◌&&◌, ◌||◌, List, [], ◌∷◌, ◌++◌, ℕ, Option, Some, None, refl, sym, ap, ◌∙◌, subst}
use Rattle.std.specs.List.{AllByRecursion, list_any}
use Rattle.std.proofs.lemmas.Grind.{flat_map-append}
use Rattle.std.proofs.lemmas.List.{append-nil}
use Rattle.ivy_base.specs.Naming.{name}
use Rattle.ivy_base.specs.declared.key.Key.{Key}
use Rattle.ring_model.proofs.Lists.{cons_head, cons_tail, nil_cons}
use Rattle.dht_ids.specs.Asked.{told}
use Rattle.dht_ids.specs.declared.ask.Answer.{Answer}
use Rattle.dht_ids.specs.declared.ask.Answer.TheVariants as answer
use Rattle.dht_ids.specs.declared.ask.Ask.{Ask}
use Rattle.dht_ids.specs.declared.ask.Ask.TheVariants as ask
use Rattle.dht_ids.specs.declared.ask.AskKind.{AskKind}
use Rattle.dht_ids.specs.declared.ask.AskKind.TheVariants as asked
use Rattle.dht_ids.specs.declared.ask.Heard.{Heard}
use Rattle.dht_ids.specs.declared.peer.Peer.{Peer}
use Rattle.dht_ids.specs.declared.post.Post.{Post}
use Rattle.dht_ids.specs.declared.post.PostKind.{PostKind}
use Rattle.dht_ids.specs.declared.post.PostKind.TheVariants as kind
use Rattle.dhash_model.specs.Execution.{Told, told_all}
use Rattle.dhash_client.specs.Puts.{put_kind, question_of}
use Rattle.dhash_repair.specs.Putting.{is_own, is_own_of, is_put, made_of, told_of}
use Rattle.dhash_repair.specs.Repairs.{Asked, OwnIsStored, asking, is_node, of_others, put_question}

-- ---- one ask more

pub told_more : (asks : List Asked) (node : Peer) (question : Ask) (given : Answer) → told_of (asks ++ (node, (question, given)) ∷ []) ≡ told_of asks ++ told node question given
told_more asks node question given = flat_map-append (λ a. told a.0 a.1.0 a.1.1) asks ((node, (question, given)) ∷ []) ∙ ap (λ l. told_of asks ++ l) (append-nil (told node question given))

-- the ask is of the put's look-up, or of an owner
abbrev pub IsOurs : Post → Asked → Type 0
IsOurs p a = (a.1.0 ≡ ask.Route p.key) ⊎ (a.1.0 ≡ put_question p)

-- ---- what was heard tells which asks they were

abbrev entry : AskKind → Key → Option Key → Peer → Answer → Heard
entry what key put node given = record { node = node; kind = what; key = key; put = put; got = given }

module _ (key bytes_name : Key) (what : AskKind) (question : Ask) (tells : (node : Peer) (given : Answer) → told node question given ≡ entry what key (Some bytes_name) node given ∷ []) (differs : what ≡ asked.Route → ⊥) where
  abbrev IsOne : Asked → Type 0
  IsOne a = (a.1.0 ≡ ask.Route key) ⊎ (a.1.0 ≡ question)

  abbrev route : Peer → Answer → Heard
  route = entry asked.Route key None

  abbrev put : Peer → Answer → Heard
  put = entry what key (Some bytes_name)

  both : (a : Asked) (q : Ask) (s : Peer × Answer) (asks rest : List Asked) → a.1.0 ≡ q → a.0 ≡ s.0 → a.1.1 ≡ s.1 → asks ≡ rest → a ∷ asks ≡ (s.0, (q, s.1)) ∷ rest
  both a q s asks rest is node given later = λ i. (node i, (is i, given i)) ∷ later i

  as_route : (a : Asked) (asks : List Asked) (rest : List Heard) → a.1.0 ≡ ask.Route key → told a.0 a.1.0 a.1.1 ++ told_of asks ≡ rest → route a.0 a.1.1 ∷ told_of asks ≡ rest
  as_route a asks rest q e = subst (λ x. told a.0 x a.1.1 ++ told_of asks ≡ rest) q e

  as_put : (a : Asked) (asks : List Asked) (rest : List Heard) → a.1.0 ≡ question → told a.0 a.1.0 a.1.1 ++ told_of asks ≡ rest → put a.0 a.1.1 ∷ told_of asks ≡ rest
  as_put a asks rest q e = subst (λ t. t ++ told_of asks ≡ rest) (tells a.0 a.1.1) (subst (λ x. told a.0 x a.1.1 ++ told_of asks ≡ rest) q e)

  none_first : (a : Asked) (asks : List Asked) → IsOne a → told a.0 a.1.0 a.1.1 ++ told_of asks ≡ [] → ⊥
  none_first a asks (inl q) e = nil_cons (route a.0 a.1.1) (told_of asks) (sym (as_route a asks [] q e))
  none_first a asks (inr q) e = nil_cons (put a.0 a.1.1) (told_of asks) (sym (as_put a asks [] q e))

  route_first : (a : Asked) (asks more : List Asked) (l : Peer × Answer) (rest : List Heard) → IsOne a → told a.0 a.1.0 a.1.1 ++ told_of asks ≡ route l.0 l.1 ∷ rest → (told_of asks ≡ rest → asks ≡ more) → a ∷ asks ≡ (l.0, (ask.Route key, l.1)) ∷ more
  route_first a asks more l rest (inl q) e further =
      let f = as_route a asks (route l.0 l.1 ∷ rest) q e in
      let same = cons_head (route a.0 a.1.1) (told_of asks) (route l.0 l.1) rest f in
      both a (ask.Route key) l asks more q (ap (λ (h : Heard). h.node) same) (ap (λ (h : Heard). h.got) same) (further (cons_tail (route a.0 a.1.1) (told_of asks) (route l.0 l.1) rest f))
  route_first a asks more l rest (inr q) e further =
      let f = as_put a asks (route l.0 l.1 ∷ rest) q e in
      absurd (differs (ap (λ (h : Heard). h.kind) (cons_head (put a.0 a.1.1) (told_of asks) (route l.0 l.1) rest f)))

  put_first : (a : Asked) (asks more : List Asked) (o : Peer × Answer) (rest : List Heard) → IsOne a → told a.0 a.1.0 a.1.1 ++ told_of asks ≡ put o.0 o.1 ∷ rest → (told_of asks ≡ rest → asks ≡ more) → a ∷ asks ≡ (o.0, (question, o.1)) ∷ more
  put_first a asks more o rest (inl q) e further =
      let f = as_route a asks (put o.0 o.1 ∷ rest) q e in
      absurd (differs (sym (ap (λ (h : Heard). h.kind) (cons_head (route a.0 a.1.1) (told_of asks) (put o.0 o.1) rest f))))
  put_first a asks more o rest (inr q) e further =
      let f = as_put a asks (put o.0 o.1 ∷ rest) q e in
      let same = cons_head (put a.0 a.1.1) (told_of asks) (put o.0 o.1) rest f in
      both a question o asks more q (ap (λ (h : Heard). h.node) same) (ap (λ (h : Heard). h.got) same) (further (cons_tail (put a.0 a.1.1) (told_of asks) (put o.0 o.1) rest f))

  -- an owner's ask at the head
  owner_first : (heard : List Heard) (o : Peer × Answer) (owners : Told) → heard ≡ told_all question (o ∷ owners) → heard ≡ put o.0 o.1 ∷ told_all question owners
  owner_first heard o owners e = e ∙ ap (λ (t : List Heard). t ++ told_all question owners) (tells o.0 o.1)

  apart : (asks : List Asked) (looks owners : Told) → AllByRecursion IsOne asks → told_of asks ≡ told_all (ask.Route key) looks ++ told_all question owners → asks ≡ asking (ask.Route key) looks ++ asking question owners
  apart [] [] [] are e = refl
  apart [] [] (o ∷ owners) are e = absurd (nil_cons (put o.0 o.1) (told_all question owners) (owner_first [] o owners e))
  apart [] (l ∷ looks) owners are e = absurd (nil_cons (route l.0 l.1) (told_all (ask.Route key) looks ++ told_all question owners) e)
  apart (a ∷ asks) [] [] are e = absurd (none_first a asks are.0 e)
  apart (a ∷ asks) [] (o ∷ owners) are e =
      put_first a asks (asking question owners) o (told_all question owners) are.0 (owner_first (told a.0 a.1.0 a.1.1 ++ told_of asks) o owners e) (λ f. apart asks [] owners are.1 f)
  apart (a ∷ asks) (l ∷ looks) owners are e =
      route_first a asks (asking (ask.Route key) looks ++ asking question owners) l (told_all (ask.Route key) looks ++ told_all question owners) are.0 e (λ f. apart asks looks owners are.1 f)

-- ---- the asks of a block

abbrev ask_kind : PostKind → AskKind
ask_kind kind.Block = asked.PutBlock
ask_kind kind.Log = asked.PutBlock
ask_kind kind.Head = asked.PutHead

block_tells : (k : PostKind) (bytes : List ℕ) (key : Key) (node : Peer) (given : Answer) → told node (question_of (put_kind k) bytes key) given ≡ entry (ask_kind k) key (Some (name bytes)) node given ∷ []
block_tells kind.Block bytes key node given = refl
block_tells kind.Log bytes key node given = refl
block_tells kind.Head bytes key node given = refl

block_differs : (k : PostKind) → ask_kind k ≡ asked.Route → ⊥
block_differs kind.Block e = cc
block_differs kind.Log e = cc
block_differs kind.Head e = cc

pub told_apart : (p : Post) (asks : List Asked) (looks owners : Told) → AllByRecursion (IsOurs p) asks → told_of asks ≡ told_all (ask.Route p.key) looks ++ told_all (put_question p) owners
    → asks ≡ asking (ask.Route p.key) looks ++ asking (put_question p) owners
told_apart p = apart p.key (name p.bytes) (ask_kind p.kind) (put_question p) (block_tells p.kind p.bytes p.key) (block_differs p.kind)

-- ---- the node's own

is_put_of : (k : PostKind) (bytes : List ℕ) (key : Key) → is_put (question_of (put_kind k) bytes key) ≡ true
is_put_of kind.Block bytes key = refl
is_put_of kind.Log bytes key = refl
is_put_of kind.Head bytes key = refl

module _ (node : Peer) (p : Post) where
  own_is : (peer : Peer) → is_own node peer (put_question p) ≡ is_node node peer
  own_is peer = ap (λ (b : Bool). b && is_node node peer) (is_put_of p.kind p.bytes p.key)

  pub made_routes : (key : Key) (looks : Told) → made_of node (asking (ask.Route key) looks) ≡ asking (ask.Route key) looks
  made_routes key [] = refl
  made_routes key (s ∷ looks) = ap (λ (l : List Asked). (s.0, (ask.Route key, s.1)) ∷ l) (made_routes key looks)

  pub made_puts : (asks : Told) → made_of node (asking (put_question p) asks) ≡ asking (put_question p) (of_others node asks)
  made_puts [] = refl
  made_puts (s ∷ asks) =
      let x : Asked = (s.0, (put_question p, s.1)) in
      let rest : List Asked = made_of node (asking (put_question p) asks) in
      ap (λ (b : Bool). cond (not b) (x ∷ rest) rest) (own_is s.0) ∙ by (is_node node s.0) (made_puts asks)
    where
      by : (t : Bool) → made_of node (asking (put_question p) asks) ≡ asking (put_question p) (of_others node asks)
          → cond (not t) ((s.0, (put_question p, s.1)) ∷ made_of node (asking (put_question p) asks)) (made_of node (asking (put_question p) asks)) ≡ asking (put_question p) (cond (not t) (s ∷ of_others node asks) (of_others node asks))
      by true later = later
      by false later = ap (λ (l : List Asked). (s.0, (put_question p, s.1)) ∷ l) later

  pub any_routes : (key : Key) (looks : Told) → list_any (is_own_of node) (asking (ask.Route key) looks) ≡ false
  any_routes key [] = refl
  any_routes key (s ∷ looks) = any_routes key looks

  pub any_puts : (asks : Told) → list_any (is_own_of node) (asking (put_question p) asks) ≡ list_any (λ s. is_node node s.0) asks
  any_puts [] = refl
  any_puts (s ∷ asks) = λ i. own_is s.0 i || any_puts asks i

  pub own_puts : (asks : Told) → AllByRecursion (λ a. is_own_of node a ≡ true → a.1.1 ≡ answer.Stored) (asking (put_question p) asks) → OwnIsStored node asks
  own_puts [] h = tt
  own_puts (s ∷ asks) h = (λ e. h.0 (own_is s.0 ∙ e), own_puts asks h.1)
