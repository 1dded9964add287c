-- An ask has one fate, a session asks one thing, and what it is then is determined by the answer; what is available is taken in one way;
-- and a session fails, lacks memory and settles in one way.
use Rattle.std.proofs.Common.{◌≡◌, ℕ, true, false, List, [], ◌∷◌, ◌++◌, Option, Some, None, Result, Ok, refl, sym, ap, ◌∙◌, subst}
use Rattle.ivy_base.specs.declared.key.Key.{Key}
use Rattle.ivy_base.specs.Naming.{head_key_of}
use Rattle.dhash_model.specs.Cache.{block_of, moved_to_front}
use Rattle.dhash_model.specs.declared.miss.Miss.{Miss}
use Rattle.dht_ids.specs.declared.ask.Answer.{Answer}
use Rattle.dht_ids.specs.declared.ask.Ask.{Ask}
use Rattle.dht_ids.specs.declared.ask.Ask.TheVariants as ask
use Rattle.dht_ids.specs.declared.ask.Heard.{Heard}
use Rattle.dht_ids.specs.declared.judge.Judged.{Judged}
use Rattle.dht_ids.specs.declared.peer.Peer.{Peer}
use Rattle.dht_ids.specs.declared.post.Ack.{Ack}
use Rattle.dht_ids.specs.declared.post.Post.{Post}
use Rattle.dht_ids.specs.Asked.{told}
use Rattle.agent_model.specs.Others.{settled}
use Rattle.session_laws.proofs.AskedGets.{gets_are_deterministic}
use Rattle.session_laws.proofs.AskedPuts.{puts_are_deterministic}
use Rattle.session_model.specs.Asking.{AsksNext}
use Rattle.session_model.specs.Brought.{Brought, HeadsOf, BlockOf, WantedOfRing, Content, brought_in}
use Rattle.session_model.specs.Executions.{Fails, LacksMemory, Settles, ended}
use Rattle.session_model.specs.Executions.Fails.{fails, goes_on}
use Rattle.session_model.specs.Executions.LacksMemory.{lacks}
use Rattle.session_model.specs.Executions.Settles.{settles as settles_all}
use Rattle.session_model.specs.Refreshing.{FailsBy, Needs}
use Rattle.session_model.specs.Replies.{missed_reply, said_no_memory, said_of}
use Rattle.session_model.specs.Sessions.{Cache, Gets, Hears, IsGet, IsPut, IsPutOfPost, Over, Publishing, Refreshing, Said, Session, Takes, TakesAll, Wants, acknowledged, after_put, keeping, pending_block, put_question, wanted_key, with_part}
use Rattle.session_model.specs.Sessions.Gets.{heads as got_heads, content as got_content}
use Rattle.session_model.specs.Sessions.Hears.{gets_on, got, puts_on, puts}
use Rattle.session_model.specs.Sessions.Takes.{posted, cached}
use Rattle.session_model.specs.Sessions.TakesAll.{none as takes_none, more as takes_more}
use Rattle.session_laws.proofs.OneRefresh.{refresh_is_deterministic}
use Rattle.world_model.specs.Agents.{HssAgent}
use Rattle.world_model.specs.Fates.{FateOf, ask_counted}
use Rattle.world_model.specs.Fates.FateOf.{lost, stopped, answers}
use Rattle.world_model.specs.Nodes.{Node, answered}
use Rattle.world_model.specs.World.{World, with_node}
use Rattle.world_laws.proofs.OneAsked.{one_asked, one_xid}
use Rattle.world_laws.proofs.OneExecution.{one_get_of_block, one_get_of_head, one_put_of_post}

-- ---- fates

pub one_node : (n m : Node) → Some n ≡ Some m → n ≡ m
one_node n m e = cc e

live_or_not : (n m : Node) → n ≡ m → n.is_live ≡ false → m.is_live ≡ true → ⊥
live_or_not n m same dead live = cc (sym dead ∙ ap (λ (x : Node). x.is_live) same ∙ live)

pub one_fate : {judged : Key → List ℕ → Option Judged} {w : World} {to : Peer} {question : Ask} {a b : Answer} {u v : World} → FateOf judged w to question a u → FateOf judged w to question b v → (a ≡ b) × (u ≡ v)
one_fate (lost l) (lost m) = (refl, refl)
one_fate (lost l) (stopped n not is dead) = absurd (not l)
one_fate (lost l) (answers n not is live) = absurd (not l)
one_fate (stopped n not is dead) (lost l) = absurd (not l)
one_fate (stopped n not is dead) (stopped m nor also gone) = (refl, refl)
one_fate (stopped n not is dead) (answers m nor also live) = absurd (live_or_not n m (one_node n m (sym is ∙ also)) dead live)
one_fate (answers n not is live) (lost l) = absurd (not l)
one_fate (answers n not is live) (stopped m nor also dead) = absurd (live_or_not m n (one_node m n (sym also ∙ is)) dead live)
one_fate {judged} {w} {to} {question} (answers n not is live) (answers m nor also alive) =
    let same : n ≡ m = one_node n m (sym is ∙ also) in
    (ap (λ (x : Node). (answered judged x question).0) same, ap (λ (x : Node). with_node (ask_counted w) (answered judged x question).1) same)

-- ---- what is wanted

want_of : (a b : WantedOfRing) → Needs a ≡ Needs b → a ≡ b
want_of a b e = cc e

key_of : (a b : Key) → Content a ≡ Content b → a ≡ b
key_of a b e = cc e

bytes_of : (a b : List ℕ) → Some a ≡ Some b → a ≡ b
bytes_of a b e = cc e

none_or_some : (o : Option (List ℕ)) (b : List ℕ) → o ≡ None → o ≡ Some b → ⊥
none_or_some o b none some = cc (sym none ∙ some)

abbrev block_part : Session → Key → List ℕ → Session
block_part s key bytes = with_part s (BlockOf key (Ok bytes)) []

pub not_putting : (s : Session) (said : Option Said) (posts : List Post) (acks : List Ack) → s.stage ≡ Refreshing → s.stage ≡ Publishing said posts acks → ⊥
not_putting s said posts acks is at = cc (sym is ∙ at)

first_post : (a b : Option Said) (p q : Post) (ps qs : List Post) (f g : List Ack) → Publishing a (p ∷ ps) f ≡ Publishing b (q ∷ qs) g → p ≡ q
first_post a b p q ps qs f g e = cc e

post_said : (a b : Option Said) (p q : Post) (ps qs : List Post) (f g : List Ack) → Publishing a (p ∷ ps) f ≡ Publishing b (q ∷ qs) g → a ≡ b
post_said a b p q ps qs f g e = cc e

post_rest : (a b : Option Said) (p q : Post) (ps qs : List Post) (f g : List Ack) → Publishing a (p ∷ ps) f ≡ Publishing b (q ∷ qs) g → ps ≡ qs
post_rest a b p q ps qs f g e = cc e

post_acks : (a b : Option Said) (p q : Post) (ps qs : List Post) (f g : List Ack) → Publishing a (p ∷ ps) f ≡ Publishing b (q ∷ qs) g → f ≡ g
post_acks a b p q ps qs f g e = cc e

module _ (judged : Key → List ℕ → Option Judged) (r : ℕ) where
  pub one_want : (s : Session) (a b : WantedOfRing) → Wants judged r s a → Wants judged r s b → a ≡ b
  one_want s a b f g = want_of a b (refresh_is_deterministic s.standing (brought_in s.parts) f.1 g.1 f.2 g.2 (Needs a) (Needs b) f.3 g.3).2

  -- ---- what is available

  one_taken : (s : Session) (cache : Cache) (t u : Session) (after then_so : Cache) → Takes judged r s cache t after → Takes judged r s cache u then_so → (t ≡ u) × (after ≡ then_so)
  one_taken s cache _ _ _ _ (posted key bytes wants none is) (posted other more also nothing such) =
      let same : key ≡ other = key_of key other (one_want s (Content key) (Content other) wants also) in
      let block : bytes ≡ more = bytes_of bytes more (sym is ∙ ap (λ (k : Key). pending_block k s.standing.pending) same ∙ such) in
      (ap (λ (k : Key). block_part s k bytes) same ∙ ap (block_part s other) block, refl)
  one_taken s cache _ _ _ _ (posted key bytes wants none is) (cached other more also nothing missing such) =
      let same : key ≡ other = key_of key other (one_want s (Content key) (Content other) wants also) in
      absurd (none_or_some (pending_block other s.standing.pending) bytes missing (ap (λ (k : Key). pending_block k s.standing.pending) (sym same) ∙ is))
  one_taken s cache _ _ _ _ (cached key bytes wants none missing is) (posted other more also nothing such) =
      let same : key ≡ other = key_of key other (one_want s (Content key) (Content other) wants also) in
      absurd (none_or_some (pending_block key s.standing.pending) more missing (ap (λ (k : Key). pending_block k s.standing.pending) same ∙ such))
  one_taken s cache _ _ _ _ (cached key bytes wants none missing is) (cached other more also nothing lacking such) =
      let same : key ≡ other = key_of key other (one_want s (Content key) (Content other) wants also) in
      let block : bytes ≡ more = bytes_of bytes more (sym is ∙ ap (λ (k : Key). block_of k cache) same ∙ such) in
      (ap (λ (k : Key). block_part s k bytes) same ∙ ap (block_part s other) block, ap (λ (k : Key). moved_to_front k cache) same)

  pub all_taken_one : {s t u : Session} {cache after then_so : Cache} → TakesAll judged r s cache t after → TakesAll judged r s cache u then_so → (t ≡ u) × (after ≡ then_so)
  all_taken_one (takes_none none) (takes_none nothing) = (refl, refl)
  all_taken_one (takes_none none) (takes_more {mid = mid} {between = between} take rest) = absurd (none mid between take)
  all_taken_one (takes_more {mid = mid} {between = between} take rest) (takes_none none) = absurd (none mid between take)
  all_taken_one {u = u} {then_so = then_so} (takes_more {s = s} {mid = mid} {cache = cache} {between = between} take rest) (takes_more {mid = amid} {between = among} also others) =
      let one = one_taken s cache mid amid between among take also in
      all_taken_one rest (subst (λ (m : Session). TakesAll judged r m between u then_so) (sym one.0) (subst (λ (b : Cache). TakesAll judged r amid b u then_so) (sym one.1) others))

  -- ---- what is asked

  -- a get or a put asks that of that node
  pub data AsksIt (s : Session) (node : Peer) (question : Ask) : Type 0 where
    of_get : (want : WantedOfRing) → Wants judged r s want → AsksNext (wanted_key want) (ask.Get (wanted_key want)) (IsGet judged r s.entries want) s.current node question → AsksIt s node question
    of_put : (said : Option Said) (p : Post) (posts : List Post) (acks : List Ack) → s.stage ≡ Publishing said (p ∷ posts) acks → AsksNext p.key (put_question p) (IsPut judged r s p) s.current node question → AsksIt s node question

  pub is_asking : {s : Session} {cache after : Cache} {node : Peer} {question : Ask} {answer : Answer} {heard : Session} → Hears judged r s cache node question answer heard after → AsksIt s node question
  is_asking (gets_on want wants next part) = of_get want wants next
  is_asking (got want brought wants next gets) = of_get want wants next
  is_asking (puts_on said p posts acks at next part) = of_put said p posts acks at next
  is_asking (puts said p posts acks came at next put) = of_put said p posts acks at next

  ask_one : (s : Session) (node other : Peer) (question another : Ask) → AsksIt s node question → AsksIt s other another → (node ≡ other) × (question ≡ another)
  ask_one s node other question another (of_get want wants next) (of_get also too then_it) =
      let same : want ≡ also = one_want s want also wants too in
      (gets_are_deterministic judged r s.entries want).1 s.current node other question another next
      (subst (λ (w : WantedOfRing). AsksNext (wanted_key w) (ask.Get (wanted_key w)) (IsGet judged r s.entries w) s.current other another) (sym same) then_it)
  ask_one s node other question another (of_get want wants next) (of_put said p posts acks at then_it) = absurd (not_putting s said (p ∷ posts) acks wants.0 at)
  ask_one s node other question another (of_put said p posts acks at next) (of_get want wants then_it) = absurd (not_putting s said (p ∷ posts) acks wants.0 at)
  ask_one s node other question another (of_put said p posts acks at next) (of_put word q others held as_well then_it) =
      let same : p ≡ q = first_post said word p q posts others acks held (sym at ∙ as_well) in
      (puts_are_deterministic judged r s p).1 s.current node other question another next
      (subst (λ (x : Post). AsksNext x.key (put_question x) (IsPut judged r s x) s.current other another) (sym same) then_it)

  pub one_ask : {s : Session} {cache after then_so : Cache} {node other : Peer} {question another : Ask} {answer given : Answer} {heard said : Session} → Hears judged r s cache node question answer heard after
      → Hears judged r s cache other another given said then_so → (node ≡ other) × (question ≡ another)
  one_ask {s = s} {node = node} {other = other} {question = question} {another = another} f g = ask_one s node other question another (is_asking f) (is_asking g)

  -- ---- what is heard

  one_brought : {entries : List Peer} {want : WantedOfRing} {asks : List Heard} {a b : Brought} → Gets judged r entries want asks a → Gets judged r entries want asks b → a ≡ b
  one_brought {entries} (got_heads {owner} {asks} came h) (got_heads more g) =
      ap (λ (x : Result (List Judged) Miss). HeadsOf owner x) (one_get_of_head (judged (head_key_of owner)) (head_key_of owner) r entries asks came more h g)
  one_brought {entries} (got_content {key} {asks} came h) (got_content more g) = ap (λ (x : Result (List ℕ) Miss). BlockOf key x) (one_get_of_block key r entries asks came more h g)

  module _ (s : Session) (cache : Cache) (node : Peer) (question : Ask) (answer : Answer) where
    abbrev whole_trail : List Heard
    whole_trail = s.current ++ told node question answer

    one_heard : (heard said : Session) (after then_so : Cache) → Hears judged r s cache node question answer heard after → Hears judged r s cache node question answer said then_so → (heard ≡ said) × (after ≡ then_so)
    one_heard _ _ _ _ (gets_on want wants next part) (gets_on also too then_it parting) = (refl, refl)
    one_heard _ _ _ _ (gets_on want wants next part) (got also brought too then_it gets) = absurd (part (brought, subst (λ (w : WantedOfRing). Gets judged r s.entries w whole_trail brought) (one_want s also want too wants) gets))
    one_heard _ _ _ _ (gets_on want wants next part) (puts_on said p posts acks at then_it parting) = absurd (not_putting s said (p ∷ posts) acks wants.0 at)
    one_heard _ _ _ _ (gets_on want wants next part) (puts said p posts acks came at then_it put) = absurd (not_putting s said (p ∷ posts) acks wants.0 at)
    one_heard _ _ _ _ (got want brought wants next gets) (gets_on also too then_it parting) = absurd (parting (brought, subst (λ (w : WantedOfRing). Gets judged r s.entries w whole_trail brought) (one_want s want also wants too) gets))
    one_heard _ _ _ _ (got want brought wants next gets) (got also others too then_it getting) =
        let same : brought ≡ others = one_brought gets (subst (λ (w : WantedOfRing). Gets judged r s.entries w whole_trail others) (one_want s also want too wants) getting) in
        (ap (λ (b : Brought). with_part s b whole_trail) same, ap (λ (b : Brought). keeping judged r b cache) same)
    one_heard _ _ _ _ (got want brought wants next gets) (puts_on said p posts acks at then_it parting) = absurd (not_putting s said (p ∷ posts) acks wants.0 at)
    one_heard _ _ _ _ (got want brought wants next gets) (puts said p posts acks came at then_it put) = absurd (not_putting s said (p ∷ posts) acks wants.0 at)
    one_heard _ _ _ _ (puts_on said p posts acks at next part) (gets_on want wants then_it parting) = absurd (not_putting s said (p ∷ posts) acks wants.0 at)
    one_heard _ _ _ _ (puts_on said p posts acks at next part) (got want brought wants then_it gets) = absurd (not_putting s said (p ∷ posts) acks wants.0 at)
    one_heard _ _ _ _ (puts_on said p posts acks at next part) (puts_on word q others held as_well then_it parting) = (refl, refl)
    one_heard _ _ _ _ (puts_on said p posts acks at next part) (puts word q others held came as_well then_it put) =
        absurd (part (subst (λ (x : Post). IsPut judged r s x whole_trail) (sym (first_post said word p q posts others acks held (sym at ∙ as_well))) (came, put)))
    one_heard _ _ _ _ (puts said p posts acks came at next put) (gets_on want wants then_it parting) = absurd (not_putting s said (p ∷ posts) acks wants.0 at)
    one_heard _ _ _ _ (puts said p posts acks came at next put) (got want brought wants then_it gets) = absurd (not_putting s said (p ∷ posts) acks wants.0 at)
    one_heard _ _ _ _ (puts said p posts acks came at next put) (puts_on word q others held as_well then_it parting) =
        absurd (parting (subst (λ (x : Post). IsPut judged r s x whole_trail) (first_post said word p q posts others acks held (sym at ∙ as_well)) (came, put)))
    one_heard _ _ _ _ (puts said p posts acks came at next put) (puts word q others held brought as_well then_it putting) =
        let is : Publishing said (p ∷ posts) acks ≡ Publishing word (q ∷ others) held = sym at ∙ as_well in
        let same : p ≡ q = first_post said word p q posts others acks held is in
        let result : came ≡ brought = one_put_of_post r s.entries q whole_trail came brought (subst (λ (x : Post). IsPutOfPost r s.entries x whole_trail came) same put) putting in (
          λ i. record s {
            stage = after_put (post_said said word p q posts others acks held is i) (same i) (post_rest said word p q posts others acks held is i) (post_acks said word p q posts others acks held is i) (acknowledged (result i));
            current = [];
          },
          refl,
        )

  -- one fate, and one thing that is heard of it
  pub one_answer : {w u v : World} {s heard said : Session} {cache after then_so : Cache} {node other : Peer} {question another : Ask} {answer given : Answer} → FateOf judged w node question answer u → FateOf judged w other another given v
      → Hears judged r s cache node question answer heard after → Hears judged r s cache other another given said then_so → (u ≡ v) × (heard ≡ said) × (after ≡ then_so)
  one_answer {w = w} {v = v} {s = s} {heard = heard} {said = said} {cache = cache} {after = after} {then_so = then_so} {node = node} {other = other} {question = question} {another = another} {answer = answer} {given = given} fate fates hears hearing =
      let one = one_ask hears hearing in
      let there : FateOf judged w node question given v = subst (λ (n : Peer). FateOf judged w n question given v) (sym one.0) (subst (λ (q : Ask). FateOf judged w other q given v) (sym one.1) fates) in
      let got_it = one_fate fate there in
      let here : Hears judged r s cache node question answer said then_so =
      subst (λ (n : Peer). Hears judged r s cache n question answer said then_so) (sym one.0)
      (subst (λ (q : Ask). Hears judged r s cache other q answer said then_so) (sym one.1) (subst (λ (a : Answer). Hears judged r s cache other another a said then_so) (sym got_it.0) hearing)) in
      let both = one_heard s cache node question answer heard said after then_so hears here in
      (got_it.1, both.0, both.1)

-- ---- failing, and settling

miss_of : (a b : Miss) → FailsBy a ≡ FailsBy b → a ≡ b
miss_of a b e = cc e

pub one_failure : (s t u : Session) → Fails s t → Fails s u → t ≡ u
one_failure s _ _ (fails notes given miss xid asked at refreshed asks_it) (fails others also reason other_xid other is again asks_too) =
    let missed : miss ≡ reason = miss_of miss reason (refresh_is_deterministic s.standing (brought_in s.parts) notes others given also (FailsBy miss) (FailsBy reason) refreshed again).2 in
    let noted : notes ≡ others = (refresh_is_deterministic s.standing (brought_in s.parts) notes others given also (FailsBy miss) (FailsBy reason) refreshed again).0 in
    let number : xid ≡ other_xid = one_xid s.standing.view s.message xid other_xid asked other asks_it asks_too in
    let same : asked ≡ other = one_asked s.standing.view s.message xid other_xid asked other asks_it asks_too in
    (λ i. ended s (said_of (number i) (missed_reply (same i) (missed i))) (noted i) (Some (missed i)))
one_failure s _ _ (fails notes given miss xid asked at refreshed asks_it) (goes_on none) = absurd (none notes given miss at refreshed)
one_failure s _ _ (goes_on none) (fails notes given miss xid asked at refreshed asks_it) = absurd (none notes given miss at refreshed)
one_failure s _ _ (goes_on none) (goes_on nothing) = refl

said_all : (a b : Option Said) (f g : List Ack) → Publishing a [] f ≡ Publishing b [] g → a ≡ b
said_all a b f g e = cc e

acked_all : (a b : Option Said) (f g : List Ack) → Publishing a [] f ≡ Publishing b [] g → f ≡ g
acked_all a b f g e = cc e

pub one_settling : (a : HssAgent) (s : Session) (after then_so : HssAgent) (t u : Session) → Settles a s after t → Settles a s then_so u → (after ≡ then_so) × (t ≡ u)
one_settling a s _ _ _ _ (settles_all said acks at) (settles_all word held is) =
    (ap (settled a) (acked_all said word acks held (sym at ∙ is)), ap (λ (o : Option Said). record s { stage = Over o }) (said_all said word acks held (sym at ∙ is)))

-- a session that lacks memory is over, and says so
pub lacking_says : (s t : Session) → LacksMemory s t → (xid : ℕ) × (t.stage ≡ Over (Some (said_no_memory xid)))
lacking_says s _ (lacks notes shown given end xid asked at refreshed asks_it rest front) = (xid, refl)
