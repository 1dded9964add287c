-- Sessions that publish: the records after each head among the posts were put, or stand before it among them.
use Rattle.std.proofs.Common.{◌≡◌, ◌⊎◌, inl, inr, ⊎_elim, Bool, true, false, cond, not, List, [], ◌∷◌, ◌++◌, length, filter, Option, Some, None, refl, sym, ap, ◌∙◌, subst, arith, nat_lt, le_refl, Contains, length-append}
use Rattle.std.specs.Prelude.{ℕ, Err, Ok, Result, drop, filter_map, map, option_map}
use Rattle.std.specs.List.{AllByRecursion, cons_option}
use Rattle.ivy_base.specs.declared.key.Key.{Key}
use Rattle.ivy_base.specs.declared.key.PubKey.{PubKey}
use Rattle.ivy_base.specs.Naming.{head_key_of}
use Rattle.std.proofs.lemmas.Bool.{le-ltb, lt-ltb}
use Rattle.std.proofs.lemmas.List.{append-nil}
use Rattle.std.proofs.lemmas.List.Elements.{Contains-append_left, Contains-append_right}
use Rattle.dhash_model.specs.Signed.{hss_judged}
use Rattle.dhash_model.specs.Execution.{Told, result_of, told_all}
use Rattle.dhash_model.specs.Execution.IsExecution.{no_route, of_owners}
use Rattle.dhash_model.specs.GetBlock.{block_in, is_of_get}
use Rattle.dhash_model.specs.GetHead.{IsGetOfHead}
use Rattle.dhash_model.specs.declared.miss.Miss.{Miss}
use Rattle.log_model.specs.Record.{Record}
use Rattle.log_model.specs.Vector.{Entry}
use Rattle.ring_model.specs.Gets.{Damaged, Got, IsHeadGet, Missing, Right, given}
use Rattle.dht_ids.specs.Asked.{told}
use Rattle.dht_ids.specs.declared.ask.Heard.{Heard}
use Rattle.session_model.specs.Brought.{Brought, HeadsOf, Part, WantedOfRing, all_heads, brought_in, heads_of, stamp_of}
use Rattle.session_model.specs.Sessions.{Gets}
use Rattle.session_model.specs.Sessions.Gets.{content as got_content, heads as got_heads}
use Rattle.log_model.proofs.Lists.{each, each_append, each_from, each_right, from_filter, here, in_cons, in_filter, in_nothing}
use Rattle.ring_model.proofs.Lists.{all_weaker, cons_head, cons_tail}
use Rattle.dht_ids.specs.declared.ask.Answer.{Answer}
use Rattle.dht_ids.specs.declared.ask.Ask.{Ask}
use Rattle.dht_ids.specs.declared.ask.Ask.TheVariants as ask
use Rattle.dht_ids.specs.declared.judge.Judged.{Judged}
use Rattle.dht_ids.specs.declared.peer.Peer.{Peer}
use Rattle.dht_ids.specs.declared.post.Ack.{Ack}
use Rattle.dht_ids.specs.declared.post.Post.{Post}
use Rattle.dht_ids.specs.declared.post.PostKind.{PostKind}
use Rattle.dht_ids.specs.declared.post.PostKind.TheVariants as kind
use Rattle.agent_model.specs.Agent.{is_head, record_post}
use Rattle.agent_model.specs.Others.{is_block}
use Rattle.session_model.specs.Executions.{Fails, LacksMemory}
use Rattle.session_model.specs.Executions.Fails.{fails, goes_on}
use Rattle.session_model.specs.Executions.LacksMemory.{lacks}
use Rattle.session_model.specs.Sessions.{Cache, Hears, Over, Publishing, Refreshing, Said, Session, Stage, ack_of, acknowledged, after_put, held_back, in_publishing_order, is_log, put_question, wanted_key}
use Rattle.session_model.specs.Sessions.Hears.{gets_on, got, puts_on, puts}
use Rattle.world_model.specs.Steps.{acked_by}
use Rattle.calm_laws.specs.Put.{AllUpTo, IsHeadOver, IsPutOr, WasPut}
use Rattle.calm_laws.proofs.UpTo.{more_put, more_put_or, none_left, over_weaker, up_to_weaker}
use Rattle.calm_laws.proofs.HeldHeads.{IsHeadPut, IsHeardPut, IsNamed, IsPutUnder, PutsPut, more_heard}

-- ---- what holds of a stage

-- the acknowledgement is of a post that was acknowledged
abbrev pub WasAcked : List Post → Ack → Type 0
WasAcked acked ack = (p : Post) × Contains acked p × (ack ≡ ack_of p)

-- the records after the head were put, or are among those posts
abbrev pub IsHeadPutOr : List Post → List Post → Post → Type 0
IsHeadPutOr acked posts h = (j : Judged) → hss_judged h.key h.bytes ≡ Some j → IsHeadOver (IsPutOr acked posts) h.key j

-- a head, and so
abbrev pub IsHeadAfter : List Post → List Post → Post → Type 0
IsHeadAfter acked posts h = (is_head h.kind ≡ true) × IsHeadPutOr acked posts h

abbrev pub IsMet : List (List ℕ) → Post → Type 0
IsMet met p = Contains met p.bytes

-- the posts are met, the heads among them stand last and are so, and what was acknowledged was put
pub record IsStaged (met : List (List ℕ)) (acked posts : List Post) (acks : List Ack) : Type 0 where
  pub contents : List Post
  pub heads : List Post
  pub split : posts ≡ contents ++ heads
  pub no_heads : AllByRecursion (λ p. is_head p.kind ≡ false) contents
  pub after : AllByRecursion (IsHeadAfter acked contents) heads
  pub acks_so : AllByRecursion (WasAcked acked) acks
  pub posts_met : AllByRecursion (IsMet met) posts

abbrev pub StageSo : List (List ℕ) → List Post → Stage → Type 0
StageSo met acked Refreshing = Unit {0}
StageSo met acked (Publishing said posts acks) = IsStaged met acked posts acks
StageSo met acked (Over said) = Unit {0}

-- ---- more

pub weaker_after : (acked more contents others : List Post) → ((one : Record) → IsPutOr acked contents one → IsPutOr more others one) → (hs : List Post) → AllByRecursion (IsHeadAfter acked contents) hs → AllByRecursion (IsHeadAfter more others) hs
weaker_after acked more contents others weaker hs h = all_weaker (IsHeadAfter acked contents) (IsHeadAfter more others) hs (λ p x. (x.0, λ j is. over_weaker (IsPutOr acked contents) (IsPutOr more others) p.key j weaker (x.1 j is))) h

more_acks : (acked more : List Post) → ((p : Post) → Contains acked p → Contains more p) → (acks : List Ack) → AllByRecursion (WasAcked acked) acks → AllByRecursion (WasAcked more) acks
more_acks acked more grows acks h = all_weaker (WasAcked acked) (WasAcked more) acks (λ a x. (x.0, grows x.0 x.1, x.2)) h

pub more_staged : (met now : List (List ℕ)) (acked more : List Post) → ((b : List ℕ) → Contains met b → Contains now b) → ((p : Post) → Contains acked p → Contains more p) → (stage : Stage) → StageSo met acked stage → StageSo now more stage
more_staged met now acked more meets grows Refreshing h = tt
more_staged met now acked more meets grows (Over said) h = tt
more_staged met now acked more meets grows (Publishing said posts acks) h = record {
  contents = h.contents;
  heads = h.heads;
  split = h.split;
  no_heads = h.no_heads;
  after = weaker_after acked more h.contents h.contents (more_put_or acked more h.contents grows) h.heads h.after;
  acks_so = more_acks acked more grows acks h.acks_so;
  posts_met = all_weaker (IsMet met) (IsMet now) posts (λ p m. meets p.bytes m) h.posts_met;
}

-- ---- publishing begins

log_no_head : (k : PostKind) → is_log k ≡ true → is_head k ≡ false
log_no_head kind.Block e = cc e
log_no_head kind.Log e = refl
log_no_head kind.Head e = cc e

block_no_head : (k : PostKind) → is_block k ≡ true → is_head k ≡ false
block_no_head kind.Block e = refl
block_no_head kind.Log e = cc e
block_no_head kind.Head e = cc e

pub begins_staged : (met : List (List ℕ)) (acked pending : List Post) → AllByRecursion (IsMet met) pending → ((h : Post) → Contains pending h → is_head h.kind ≡ true → IsHeadPutOr acked pending h) → IsStaged met acked (in_publishing_order pending) []
begins_staged met acked pending all_met over = record {
  contents = logs ++ blocks;
  heads = heads;
  split = refl;
  no_heads = each_append (λ (p : Post). is_head p.kind ≡ false) logs blocks
      (each_from (λ (p : Post). is_head p.kind ≡ false) logs (λ p c. log_no_head p.kind (from_filter (λ (x : Post). is_log x.kind) pending p c).1))
      (each_from (λ (p : Post). is_head p.kind ≡ false) blocks (λ p c. block_no_head p.kind (from_filter (λ (x : Post). is_block x.kind) pending p c).1));
  after = each_from (IsHeadAfter acked (logs ++ blocks)) heads (λ p c.
      let from = from_filter (λ (x : Post). is_head x.kind) pending p c in
      (from.1, λ j is. over_weaker (IsPutOr acked pending) (IsPutOr acked (logs ++ blocks)) p.key j among (over p from.0 from.1 j is)));
  acks_so = tt;
  posts_met = each_append (IsMet met) (logs ++ blocks) heads (each_append (IsMet met) logs blocks (of (λ (x : Post). is_log x.kind)) (of (λ (x : Post). is_block x.kind))) (of (λ (x : Post). is_head x.kind));
}
  where
    logs : List Post
    logs = filter (λ (x : Post). is_log x.kind) pending

    blocks : List Post
    blocks = filter (λ (x : Post). is_block x.kind) pending

    heads : List Post
    heads = filter (λ (x : Post). is_head x.kind) pending

    among : (one : Record) → IsPutOr acked pending one → IsPutOr acked (logs ++ blocks) one
    among one (inl put) = inl put
    among one (inr c) = inr (Contains-append_left logs blocks (record_post one) (in_filter (λ (x : Post). is_log x.kind) pending (record_post one) c refl))

    of : (test : Post → Bool) → AllByRecursion (IsMet met) (filter test pending)
    of test = each_from (IsMet met) (filter test pending) (λ p c. each (IsMet met) pending p all_met (from_filter test pending p c).0)

-- ---- a put

pub head_put : (met : List (List ℕ)) (acked : List Post) (p : Post) → Contains met p.bytes → IsHeadPut acked p.key p.bytes → PutsPut met acked (put_question p)
head_put met acked p is h = by (is_head p.kind)
  where
    by : (b : Bool) → PutsPut met acked (cond b (ask.PutHead p.key p.bytes) (ask.PutBlock p.key p.bytes))
    by true = h
    by false = is

content_put : (met : List (List ℕ)) (acked : List Post) (p : Post) → Contains met p.bytes → is_head p.kind ≡ false → PutsPut met acked (put_question p)
content_put met acked p is e = by (is_head p.kind) e
  where
    by : (b : Bool) → b ≡ false → PutsPut met acked (cond b (ask.PutHead p.key p.bytes) (ask.PutBlock p.key p.bytes))
    by true e = cc e
    by false e = is

-- what may be asked for the first of the posts
first_put : (met : List (List ℕ)) (acked : List Post) (p : Post) (posts : List Post) (contents heads : List Post) → Contains met p.bytes → p ∷ posts ≡ contents ++ heads → AllByRecursion (λ q. is_head q.kind ≡ false) contents → AllByRecursion (IsHeadAfter acked contents) heads
    → PutsPut met acked (put_question p)
first_put met acked p posts [] [] is e none after = cc e
first_put met acked p posts [] (h ∷ hs) is e none after =
    let same : p ≡ h = cons_head p posts h hs e in
    subst (λ (x : Post). PutsPut met acked (put_question x)) (sym same) (head_put met acked h (subst (λ (x : Post). Contains met x.bytes) same is) (λ j judged. over_weaker (IsPutOr acked []) (WasPut acked) h.key j (none_left acked) (after.0.1 j judged)))
first_put met acked p posts (q ∷ cs) hs is e none after =
    let same : p ≡ q = cons_head p posts q (cs ++ hs) e in
    subst (λ (x : Post). PutsPut met acked (put_question x)) (sym same) (content_put met acked q (subst (λ (x : Post). Contains met x.bytes) same is) none.0)

never_less : (n : ℕ) → nat_lt n n ≡ false
never_less n = le-ltb n n (le_refl n)

module _ (met : List (List ℕ)) (acked : List Post) (said : Option Said) (p : Post) (posts : List Post) (acks : List Ack) (h : IsStaged met acked (p ∷ posts) acks) where
  abbrev before : Stage
  before = Publishing said (p ∷ posts) acks

  acked_true : acked_by (Publishing said (p ∷ posts) acks) (after_put said p posts acks true) ≡ p ∷ []
  acked_true = ap (λ b. cond b (p ∷ []) []) (lt-ltb (length acks) (length (acks ++ ack_of p ∷ [])) (let size = length-append acks (ack_of p ∷ []) in omega (arith, size)))

  acked_false : acked_by (Publishing said (p ∷ posts) acks) (after_put said p posts acks false) ≡ []
  acked_false = ap (λ b. cond b (p ∷ []) []) (never_less (length acks))

  grows : (q : Post) → Contains acked q → Contains (acked ++ p ∷ []) q
  grows q c = Contains-append_left acked (p ∷ []) q c

  is_put : Contains (acked ++ p ∷ []) p
  is_put = Contains-append_right acked (p ∷ []) p (here p [])

  -- it was acknowledged
  put_first : (contents heads : List Post) → p ∷ posts ≡ contents ++ heads → AllByRecursion (λ q. is_head q.kind ≡ false) contents → AllByRecursion (IsHeadAfter acked contents) heads → IsStaged met (acked ++ p ∷ []) posts (acks ++ ack_of p ∷ [])
  put_first [] [] e none after = cc e
  put_first [] (x ∷ hs) e none after = record {
    contents = [];
    heads = hs;
    split = cons_tail p posts x hs e;
    no_heads = tt;
    after = weaker_after acked (acked ++ p ∷ []) [] [] (more_put_or acked (acked ++ p ∷ []) [] grows) hs after.1;
    acks_so = each_append (WasAcked (acked ++ p ∷ [])) acks (ack_of p ∷ []) (more_acks acked (acked ++ p ∷ []) grows acks h.acks_so) ((p, is_put, refl), tt);
    posts_met = h.posts_met.1;
  }
  put_first (x ∷ cs) hs e none after = record {
    contents = cs;
    heads = hs;
    split = cons_tail p posts x (cs ++ hs) e;
    no_heads = none.1;
    after = weaker_after acked (acked ++ p ∷ []) (x ∷ cs) cs then_so hs after;
    acks_so = each_append (WasAcked (acked ++ p ∷ [])) acks (ack_of p ∷ []) (more_acks acked (acked ++ p ∷ []) grows acks h.acks_so) ((p, is_put, refl), tt);
    posts_met = h.posts_met.1;
  }
    where
      same : p ≡ x
      same = cons_head p posts x (cs ++ hs) e

      then_so : (one : Record) → IsPutOr acked (x ∷ cs) one → IsPutOr (acked ++ p ∷ []) cs one
      then_so one (inl put) = inl (more_put acked (acked ++ p ∷ []) grows one put)
      then_so one (inr c) = ⊎_elim
          (λ is. inl (p, is_put, ap (λ (o : Post). o.key) (same ∙ is), ap (λ (o : Post). o.bytes) (same ∙ is)))
          (λ later. inr later)
          (in_cons x cs (record_post one) c)

  -- it wasn't: where it is a record no head is put
  fewer : AllByRecursion (IsMet met) (filter (λ (q : Post). not (is_head q.kind)) posts)
  fewer = each_from (IsMet met) (filter (λ (q : Post). not (is_head q.kind)) posts) (λ q c. each (IsMet met) posts q h.posts_met.1 (from_filter (λ (q : Post). not (is_head q.kind)) posts q c).0)

  no_head_so : (k : PostKind) → not (is_head k) ≡ true → is_head k ≡ false
  no_head_so kind.Block e = refl
  no_head_so kind.Log e = refl
  no_head_so kind.Head e = cc e

  held_so : (b : Bool) → is_log p.kind ≡ b → (contents heads : List Post) → p ∷ posts ≡ contents ++ heads → AllByRecursion (λ q. is_head q.kind ≡ false) contents → AllByRecursion (IsHeadAfter acked contents) heads
      → IsStaged met acked (cond b (filter (λ (q : Post). not (is_head q.kind)) posts) posts) acks
  held_so true log contents heads e none after = record {
    contents = filter (λ (q : Post). not (is_head q.kind)) posts;
    heads = [];
    split = sym (append-nil (filter (λ (q : Post). not (is_head q.kind)) posts));
    no_heads = each_from (λ (q : Post). is_head q.kind ≡ false) (filter (λ (q : Post). not (is_head q.kind)) posts) (λ q c. no_head_so q.kind (from_filter (λ (q : Post). not (is_head q.kind)) posts q c).1);
    after = tt;
    acks_so = h.acks_so;
    posts_met = fewer;
  }
  held_so false other [] [] e none after = cc e
  held_so false other [] (x ∷ hs) e none after = record {
    contents = [];
    heads = hs;
    split = cons_tail p posts x hs e;
    no_heads = tt;
    after = after.1;
    acks_so = h.acks_so;
    posts_met = h.posts_met.1;
  }
  held_so false other (x ∷ cs) hs e none after = record {
    contents = cs;
    heads = hs;
    split = cons_tail p posts x (cs ++ hs) e;
    no_heads = none.1;
    after = weaker_after acked acked (x ∷ cs) cs then_so hs after;
    acks_so = h.acks_so;
    posts_met = h.posts_met.1;
  }
    where
      no_log : x.kind ≡ kind.Log → ⊥
      no_log e_log = let is : is_log p.kind ≡ true = ap is_log (ap (λ (o : Post). o.kind) (cons_head p posts x (cs ++ hs) e) ∙ e_log) in cc (sym is ∙ other)

      then_so : (one : Record) → IsPutOr acked (x ∷ cs) one → IsPutOr acked cs one
      then_so one (inl put) = inl put
      then_so one (inr c) = ⊎_elim (λ is. absurd (no_log (ap (λ (o : Post). o.kind) is))) (λ later. inr later) (in_cons x cs (record_post one) c)

  pub after_put_so : (came : Bool) → StageSo met (acked ++ acked_by (Publishing said (p ∷ posts) acks) (after_put said p posts acks came)) (after_put said p posts acks came)
  after_put_so true = subst (λ l. IsStaged met (acked ++ l) posts (acks ++ ack_of p ∷ [])) (sym acked_true) (put_first h.contents h.heads h.split h.no_heads h.after)
  after_put_so false = subst (λ l. IsStaged met l (held_back p posts) acks) (sym (ap (λ l. acked ++ l) acked_false ∙ append-nil acked)) (held_so (is_log p.kind) refl h.contents h.heads h.split h.no_heads h.after)

  pub puts_first : PutsPut met acked (put_question p)
  puts_first = first_put met acked p posts h.contents h.heads h.posts_met.0 h.split h.no_heads h.after

-- ---- what is heard

same_acked : (acked : List Post) (stage : Stage) → acked ++ acked_by stage stage ≡ acked
same_acked acked Refreshing = append-nil acked
same_acked acked (Over said) = append-nil acked
same_acked acked (Publishing said [] acks) = append-nil acked
same_acked acked (Publishing said (p ∷ posts) acks) = ap (λ b. acked ++ cond b (p ∷ []) []) (never_less (length acks)) ∙ append-nil acked

-- what was acknowledged stood among the posts
abbrev posts_now : Stage → List Post
posts_now Refreshing = []
posts_now (Publishing said posts acks) = posts
posts_now (Over said) = []

acked_among : (s t : Stage) (p : Post) → Contains (acked_by s t) p → Contains (posts_now s) p
acked_among Refreshing t p c = absurd (in_nothing p c)
acked_among (Over said) t p c = absurd (in_nothing p c)
acked_among (Publishing said [] acks) t p c = absurd (in_nothing p c)
acked_among (Publishing said (q ∷ posts) acks) Refreshing p c = absurd (in_nothing p c)
acked_among (Publishing said (q ∷ posts) acks) (Over also) p c = absurd (in_nothing p c)
acked_among (Publishing said (q ∷ posts) acks) (Publishing also rest more) p c = by (nat_lt (length acks) (length more)) c
  where
    by : (b : Bool) → Contains (cond b (q ∷ []) []) p → Contains (q ∷ posts) p
    by true c = ⊎_elim (λ e. subst (Contains (q ∷ posts)) e (here q posts)) (λ none. absurd (in_nothing p none)) (in_cons q [] p c)
    by false c = absurd (in_nothing p c)

posts_met_at : (met : List (List ℕ)) (acked : List Post) (s : Stage) → StageSo met acked s → AllByRecursion (IsMet met) (posts_now s)
posts_met_at met acked Refreshing h = tt
posts_met_at met acked (Publishing said posts acks) h = h.posts_met
posts_met_at met acked (Over said) h = tt

pub acked_met : (met : List (List ℕ)) (acked : List Post) (s t : Stage) → StageSo met acked s → (p : Post) → Contains (acked_by s t) p → Contains met p.bytes
acked_met met acked s t h p c = each (IsMet met) (posts_now s) p (posts_met_at met acked s h) (acked_among s t p c)

-- an ask, and the session then
pub record IsHeardSo (met : List (List ℕ)) (acked : List Post) (s : Session) (question : Ask) (heard : Session) : Type 0 where
  pub puts : PutsPut met acked question
  pub then_so : (t : Session) → Fails heard t → StageSo met (acked ++ acked_by s.stage t.stage) t.stage

over_or_so : (met : List (List ℕ)) (acked : List Post) (s heard : Session) → StageSo met (acked ++ acked_by s.stage heard.stage) heard.stage → (t : Session) → Fails heard t → StageSo met (acked ++ acked_by s.stage t.stage) t.stage
over_or_so met acked s heard h _ (fails notes gives miss xid asked at refreshed asks_it) = tt
over_or_so met acked s heard h _ (goes_on none) = h

still_staged : (met : List (List ℕ)) (acked : List Post) (stage : Stage) → StageSo met acked stage → StageSo met (acked ++ acked_by stage stage) stage
still_staged met acked stage h = subst (λ l. StageSo met l stage) (sym (same_acked acked stage)) h

get_puts : (met : List (List ℕ)) (acked : List Post) (key : _) (question : Ask) → (question ≡ ask.Route key) ⊎ (question ≡ ask.Get key) → PutsPut met acked question
get_puts met acked key question is = ⊎_elim (λ e. subst (PutsPut met acked) (sym e) tt) (λ e. subst (PutsPut met acked) (sym e) tt) is

post_puts : (met : List (List ℕ)) (acked : List Post) (p : Post) (question : Ask) → PutsPut met acked (put_question p) → (question ≡ ask.Route p.key) ⊎ (question ≡ put_question p) → PutsPut met acked question
post_puts met acked p question so is = ⊎_elim (λ e. subst (PutsPut met acked) (sym e) tt) (λ e. subst (PutsPut met acked) (sym e) so) is

pub heard_so : (met : List (List ℕ)) (acked : List Post) {r : ℕ} {s heard : Session} {cache after : Cache} {node : Peer} {question : Ask} {answer : Answer} → Hears hss_judged r s cache node question answer heard after → StageSo met acked s.stage → IsHeardSo met acked s question heard
heard_so met acked {s = s} {question = question} (gets_on want wants next part) h = record {
  puts = get_puts met acked (wanted_key want) question next.is_of;
  then_so = λ t goes. over_or_so met acked s _ (still_staged met acked s.stage h) t goes;
}
heard_so met acked {s = s} {question = question} (got want brought wants next whole) h = record {
  puts = get_puts met acked (wanted_key want) question next.is_of;
  then_so = λ t goes. over_or_so met acked s _ (still_staged met acked s.stage h) t goes;
}
heard_so met acked {s = s} {question = question} (puts_on said p posts acks at next part) h =
    let staged : IsStaged met acked (p ∷ posts) acks = subst (StageSo met acked) at h in
    record {
      puts = post_puts met acked p question (puts_first met acked said p posts acks staged) next.is_of;
      then_so = λ t goes. over_or_so met acked s _ (still_staged met acked s.stage h) t goes;
    }
heard_so met acked {s = s} {question = question} (puts said p posts acks came at next whole) h =
    let staged : IsStaged met acked (p ∷ posts) acks = subst (StageSo met acked) at h in
    record {
      puts = post_puts met acked p question (puts_first met acked said p posts acks staged) next.is_of;
      then_so = λ t goes. over_or_so met acked s (record s { stage = after_put said p posts acks (acknowledged came); current = [] })
          (subst (λ stage. StageSo met (acked ++ acked_by stage (after_put said p posts acks (acknowledged came))) (after_put said p posts acks (acknowledged came))) (sym at) (after_put_so met acked said p posts acks staged (acknowledged came))) t goes;
    }

pub lacking_so : (met : List (List ℕ)) (acked : List Post) {s t : Session} → LacksMemory s t → StageSo met acked t.stage
lacking_so met acked (lacks notes shown given end xid asked at refreshed asks_it rest front) = tt

-- ---- what a session was answered in the get or put on its way

abbrev pub AreHeardPut : List (List ℕ) → List Post → Session → Type 0
AreHeardPut met acked s = AllByRecursion (IsHeardPut met acked) s.current

-- so is its stage, and what it was answered
abbrev pub SessionSo : List (List ℕ) → List Post → Session → Type 0
SessionSo met acked s = StageSo met acked s.stage × AreHeardPut met acked s

pub more_session : (met now : List (List ℕ)) (acked more : List Post) → ((b : List ℕ) → Contains met b → Contains now b) → ((p : Post) → Contains acked p → Contains more p) → (s : Session) → SessionSo met acked s → SessionSo now more s
more_session met now acked more meets grows s h = (more_staged met now acked more meets grows s.stage h.0, more_heard met now acked more meets grows s.current h.1)

heard_on : (met : List (List ℕ)) (acked : List Post) {r : ℕ} {s heard : Session} {cache after : Cache} {node : Peer} {question : Ask} {answer : Answer} → Hears hss_judged r s cache node question answer heard after → AreHeardPut met acked s
    → AllByRecursion (IsHeardPut met acked) (told node question answer) → AreHeardPut met acked heard
heard_on met acked {s = s} {node = node} {question = question} {answer = answer} (gets_on want wants next part) h new = each_append (IsHeardPut met acked) s.current (told node question answer) h new
heard_on met acked (got want brought wants next whole) h new = tt
heard_on met acked {s = s} {node = node} {question = question} {answer = answer} (puts_on said p posts acks at next part) h new = each_append (IsHeardPut met acked) s.current (told node question answer) h new
heard_on met acked (puts said p posts acks came at next whole) h new = tt

fails_heard : (met : List (List ℕ)) (acked : List Post) {heard t : Session} → Fails heard t → AreHeardPut met acked heard → AreHeardPut met acked t
fails_heard met acked (fails notes gives miss xid asked at refreshed asks_it) h = tt
fails_heard met acked (goes_on none) h = h

pub then_heard : (met : List (List ℕ)) (acked : List Post) {r : ℕ} {s heard t : Session} {cache after : Cache} {node : Peer} {question : Ask} {answer : Answer} → Hears hss_judged r s cache node question answer heard after → Fails heard t → AreHeardPut met acked s
    → AllByRecursion (IsHeardPut met acked) (told node question answer) → AreHeardPut met acked t
then_heard met acked hears goes h new = fails_heard met acked goes (heard_on met acked hears h new)

pub lacking_heard : (met : List (List ℕ)) (acked : List Post) {s t : Session} → LacksMemory s t → AreHeardPut met acked t
lacking_heard met acked (lacks notes shown given end xid asked at refreshed asks_it rest front) = tt

-- ---- the heads that it is brought

-- a head that was received is over what was put, or its log's key names a block that was met
abbrev pub IsEntryPut : List (List ℕ) → List Post → Entry → Type 0
IsEntryPut met acked e = ((owner : PubKey) × (e.0 ≡ head_key_of owner) × AllUpTo (WasPut acked) owner e.1) ⊎ ((b : List ℕ) × IsNamed met e.0 b)

pub more_entry : (met now : List (List ℕ)) (acked more : List Post) → ((b : List ℕ) → Contains met b → Contains now b) → ((p : Post) → Contains acked p → Contains more p) → (e : Entry) → IsEntryPut met acked e → IsEntryPut now more e
more_entry met now acked more meets grows e (inl h) = inl (h.0, h.1, up_to_weaker (WasPut acked) (WasPut more) h.0 e.1 (more_put acked more grows) h.2)
more_entry met now acked more meets grows e (inr h) = inr (h.0, (h.1.0, meets h.0 h.1.1))

module _ (met : List (List ℕ)) (acked : List Post) where
  told_put : (key : Key) (asks : Told) → AllByRecursion (IsHeardPut met acked) (told_all (ask.Get key) asks) → AllByRecursion (λ (a : Peer × Answer). (bytes : List ℕ) → block_in a.1 ≡ Some bytes → IsPutUnder met acked key bytes) asks
  told_put key [] h = tt
  told_put key (a ∷ asks) h = (h.0, told_put key asks h.1)

  each_made : {A B : Type 0} (P : A → Type 0) (Q : B → Type 0) (f : A → Option B) → ((a : A) (b : B) → P a → f a ≡ Some b → Q b) → (xs : List A) → AllByRecursion P xs → AllByRecursion Q (filter_map f xs)
  each_made P Q f makes [] h = tt
  each_made {B = B} P Q f makes (x ∷ xs) h = by (f x) refl (each_made P Q f makes xs h.1)
    where
      by : (o : Option B) → f x ≡ o → AllByRecursion Q (filter_map f xs) → AllByRecursion Q (cons_option o (filter_map f xs))
      by None is later = later
      by (Some b) is later = (makes x b h.0 is, later)

  abbrev IsUnder : Key → Peer × List ℕ → Type 0
  IsUnder key b = IsPutUnder met acked key b.1

  pair_of : (node : Peer) (o : Option (List ℕ)) (b : Peer × List ℕ) → option_map {U = Peer × List ℕ} (λ (bytes : List ℕ). (node, bytes)) o ≡ Some b → o ≡ Some b.1
  pair_of node None b e = cc e
  pair_of node (Some x) b e = let same : (node, x) ≡ b = cc e in ap (λ (y : Peer × List ℕ). Some y.1) same

  given_put : (key : Key) (asks : Told) → AllByRecursion (IsHeardPut met acked) (told_all (ask.Get key) asks) → AllByRecursion (IsUnder key) (given block_in asks)
  given_put key asks h = each_made (λ (a : Peer × Answer). (bytes : List ℕ) → block_in a.1 ≡ Some bytes → IsPutUnder met acked key bytes) (IsUnder key) (λ (s : Peer × Answer). option_map (λ (bytes : List ℕ). (s.0, bytes)) (block_in s.1))
      (λ a b g is. g b.1 (pair_of a.0 (block_in a.1) b is)) asks (told_put key asks h)

  entry_of : (key : Key) (bytes : List ℕ) (j : Judged) → IsPutUnder met acked key bytes → hss_judged key bytes ≡ Some j → IsEntryPut met acked (key, stamp_of j)
  entry_of key bytes j (inl h) e = inl (h j e)
  entry_of key bytes j (inr h) e = inr (bytes, h)

  judged_put : (key : Key) (r : ℕ) (owners : List Peer) (asks : Told) (heads : List Judged) (got : Got Peer (List Judged)) → IsHeadGet is_of_get block_in (hss_judged key) r owners asks got → Ok heads ≡ result_of key got
      → AllByRecursion (IsHeardPut met acked) (told_all (ask.Get key) asks) → AllByRecursion (λ j. IsEntryPut met acked (key, stamp_of j)) heads
  judged_put key r owners asks heads (Right found) gets is h =
      let same : heads ≡ found = cc is in
      subst (AllByRecursion (λ j. IsEntryPut met acked (key, stamp_of j))) (sym (same ∙ gets.ends.1))
      (each_made (IsUnder key) (λ j. IsEntryPut met acked (key, stamp_of j)) (λ (b : Peer × List ℕ). hss_judged key b.1) (λ b j g e. entry_of key b.1 j g e) (given block_in asks) (given_put key asks h))
  judged_put key r owners asks heads (Damaged node) gets is h = absurd (cc is)
  judged_put key r owners asks heads (Missing all) gets is h = absurd (cc is)

  pub heads_put : (key : Key) (r : ℕ) (entries : List Peer) (trail : List Heard) (heads : List Judged) (result : Result (List Judged) Miss) → IsGetOfHead (hss_judged key) key r entries trail result → result ≡ Ok heads
      → AllByRecursion (IsHeardPut met acked) trail → AllByRecursion (λ j. IsEntryPut met acked (key, stamp_of j)) heads
  heads_put key r entries trail heads result (no_route looks found is look out ends) e h = absurd (cc (sym e ∙ ends))
  heads_put key r entries trail heads result (of_owners looks asks found owners is look out ends) e h =
      judged_put key r owners asks heads ends.0 ends.1 (sym e ∙ ends.2)
      (each_right (IsHeardPut met acked) (told_all (ask.Route key) looks) (told_all (ask.Get key) asks) (subst (AllByRecursion (IsHeardPut met acked)) is h))

  of_heads : (key : Key) (heads : List Judged) → AllByRecursion (λ j. IsEntryPut met acked (key, stamp_of j)) heads → AllByRecursion (IsEntryPut met acked) (map (λ (j : Judged). (key, stamp_of j)) heads)
  of_heads key [] h = tt
  of_heads key (j ∷ heads) h = (h.0, of_heads key heads h.1)

  pub brings_put : {r : ℕ} {entries : List Peer} {want : WantedOfRing} {asks : List Heard} {b : Brought} → Gets hss_judged r entries want asks b → AllByRecursion (IsHeardPut met acked) asks → AllByRecursion (IsEntryPut met acked) (heads_of b)
  brings_put {r} {entries} (got_heads {owner = owner} {asks = asks} came gets) h = by came gets
    where
      by : (came : Result (List Judged) Miss) → IsGetOfHead (hss_judged (head_key_of owner)) (head_key_of owner) r entries asks came → AllByRecursion (IsEntryPut met acked) (heads_of (HeadsOf owner came))
      by (Ok heads) g = of_heads (head_key_of owner) heads (heads_put (head_key_of owner) r entries asks heads (Ok heads) g refl h)
      by (Err miss) g = tt
  brings_put (got_content came gets) h = tt

  -- by an ask
  new_parts : (parts more : List Part) → drop (length parts) (parts ++ more) ≡ more
  new_parts [] more = refl
  new_parts (p ∷ parts) more = new_parts parts more

  none_new : (s t : Session) → t.parts ≡ s.parts → AllByRecursion (IsEntryPut met acked) (all_heads (brought_in (drop (length s.parts) t.parts)))
  none_new s t same = subst (λ ps. AllByRecursion (IsEntryPut met acked) (all_heads (brought_in ps))) (sym (ap (drop (length s.parts)) (same ∙ sym (append-nil s.parts)) ∙ new_parts s.parts [])) tt

  parts_fail : {heard t : Session} → Fails heard t → t.parts ≡ heard.parts
  parts_fail (fails notes gives miss xid asked at refreshed asks_it) = refl
  parts_fail (goes_on none) = refl

  pub brought_put : {r : ℕ} {s heard t : Session} {cache after : Cache} {node : Peer} {question : Ask} {answer : Answer} → Hears hss_judged r s cache node question answer heard after → Fails heard t → AreHeardPut met acked s
      → AllByRecursion (IsHeardPut met acked) (told node question answer) → AllByRecursion (IsEntryPut met acked) (all_heads (brought_in (drop (length s.parts) t.parts)))
  brought_put {s = s} {t = t} (gets_on want wants next part) goes h new = none_new s t (parts_fail goes)
  brought_put {s = s} {t = t} {node = node} {question = question} {answer = answer} (got want brought wants next whole) goes h new =
      subst (λ ps. AllByRecursion (IsEntryPut met acked) (all_heads (brought_in ps))) (sym (ap (drop (length s.parts)) (parts_fail goes) ∙ new_parts s.parts _))
      (each_append (IsEntryPut met acked) (heads_of brought) [] (brings_put whole (each_append (IsHeardPut met acked) s.current (told node question answer) h new)) tt)
  brought_put {s = s} {t = t} (puts_on said p posts acks at next part) goes h new = none_new s t (parts_fail goes)
  brought_put {s = s} {t = t} (puts said p posts acks came at next whole) goes h new = none_new s t (parts_fail goes)
