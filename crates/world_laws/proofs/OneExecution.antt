-- What a whole get or put brings is determined by its trail, and so is whom a look-up finds.
use Rattle.std.proofs.Common.{◌≡◌, ◌⊎◌, ⊎_elim, inl, inr, ℕ, suc, ◌<◌, Bool, true, false, List, [], ◌∷◌, ◌++◌, length, Option, Some, None, Result, Ok, Err, refl, sym, ap, ◌∙◌, subst, arith}
use Rattle.std.specs.Prelude.{MatchBool, option_map, take}
use Rattle.std.specs.List.{cons_option}
use Rattle.std.proofs.lemmas.List.{append-nil}
use Rattle.ring_model.proofs.Lists.{cons_head, cons_tail, nil_cons}
use Rattle.ring_model.specs.Gets.{Got, Right, Damaged, Missing, EndsBlock, EndsHeads, HasBlock, IsAcknowledged, IsPutTrail, given}
use Rattle.ring_model.specs.Lookup.{IsLookup}
use Rattle.ring_model.specs.Lookup.IsLookup.{over, spent, known, silent, answered}
use Rattle.ring_model.specs.Members.{IsAmong}
use Rattle.ring_model.specs.Route.{Route}
use Rattle.ivy_base.specs.declared.key.Key.{Key}
use Rattle.ivy_base.specs.Naming.{name}
use Rattle.dht_ids.specs.Asked.{routes}
use Rattle.dht_ids.specs.declared.ask.Answer.{Answer}
use Rattle.dht_ids.specs.declared.ask.Ask.{Ask}
use Rattle.dht_ids.specs.declared.ask.Ask.TheVariants as ask
use Rattle.dht_ids.specs.declared.ask.Heard.{Heard}
use Rattle.dht_ids.specs.declared.judge.Judged.{Judged}
use Rattle.dht_ids.specs.declared.peer.Peer.{Peer}
use Rattle.dht_ids.specs.declared.post.Post.{Post}
use Rattle.dhash_client.specs.Puts.{question_of}
use Rattle.dhash_model.specs.declared.miss.Miss.TheVariants as miss
use Rattle.dhash_model.specs.Execution.{IsExecution, Told, result_of, told_all, outcome}
use Rattle.dhash_model.specs.Execution.IsExecution.{no_route, of_owners}
use Rattle.dhash_model.specs.GetBlock.{EndsGet, IsGetOfBlock, block_in}
use Rattle.dhash_model.specs.GetHead.{EndsHeadGet, IsGetOfHead}
use Rattle.dhash_model.specs.Puts.{EndsPut, holds, is_of_put}
use Rattle.dhash_model.specs.declared.miss.Miss.{Miss}
use Rattle.dhash_client.specs.declared.put.PutKind.{PutKind}
use Rattle.agent_model.specs.Agent.{is_head}
use Rattle.session_model.specs.Sessions.{IsPutOfPost}
use Rattle.session_laws.proofs.AskedGets.{get_entries}
use Rattle.session_laws.proofs.AskedLookups.{firsts_same}
use Rattle.session_laws.proofs.AskedOwners.{entries_of, told_owners}
use Rattle.session_laws.proofs.AskedPlans.{Entries, IsToldBy, entry}
use Rattle.session_laws.proofs.AskedPuts.{kind_of_post, of_post, put_entries, told_put}

-- ---- a look-up finds the same

abbrev Looked : Type 0
Looked = List (Peer × Option (Route Peer))

nothing_first : (x : Peer × Option (Route Peer)) (t : Looked) → [] ≡ x ∷ t → ⊥
nothing_first x t e = cc e

same_rest : (p : Peer) (a b : Option (Route Peer)) (t u : Looked) → (p, a) ∷ t ≡ (p, b) ∷ u → t ≡ u
same_rest p a b t u e = cc e

first_look : (p : Peer) (a b : Option (Route Peer)) (t u : Looked) → (p, a) ∷ t ≡ (p, b) ∷ u → a ≡ b
first_look p a b t u e = ap (λ (x : Peer × Option (Route Peer)). x.1) (cons_head (p, a) t (p, b) u e)

some_route : (a b : Route Peer) → Some a ≡ Some b → a ≡ b
some_route a b e = cc e

no_route_or_some : (a : Route Peer) → None ≡ Some a → ⊥
no_route_or_some a e = cc e

same_route : (p : Peer) (a b : Route Peer) (t u : Looked) → (p, Some a) ∷ t ≡ (p, Some b) ∷ u → a ≡ b
same_route p a b t u e = some_route a b (first_look p (Some a) (Some b) t u e)

silent_or_not : (p : Peer) (a : Route Peer) (t u : Looked) → (p, None) ∷ t ≡ (p, Some a) ∷ u → ⊥
silent_or_not p a t u e = no_route_or_some a (first_look p None (Some a) t u e)

lookups_one : {asked : List Peer} {last : Option (List Peer)} {ps : List Peer} {t u : Looked} {found other : Option (List Peer)}
    → IsLookup asked last ps t found → IsLookup asked last ps u other → t ≡ u → found ≡ other
lookups_one over over same = refl
lookups_one over (spent many) same = refl
lookups_one (spent many) over same = refl
lookups_one (spent many) (spent more) same = refl
lookups_one (spent many) (known h other) same = lookups_one (spent many) other same
lookups_one (spent many) (silent {p = p} {trail = u} few not_yet other) same = absurd (nothing_first (p, None) u same)
lookups_one (spent many) (answered {p = p} {route = route} {trail = u} few not_yet other) same = absurd (nothing_first (p, Some route) u same)
lookups_one (known h more) (spent many) same = lookups_one more (spent many) same
lookups_one (known h more) (known g other) same = lookups_one more other same
lookups_one (known h more) (silent few not_yet other) same = absurd (not_yet h)
lookups_one (known h more) (answered few not_yet other) same = absurd (not_yet h)
lookups_one (silent {p = p} {trail = t} few not_yet more) (spent many) same = absurd (nothing_first (p, None) t (sym same))
lookups_one (silent few not_yet more) (known h other) same = absurd (not_yet h)
lookups_one (silent {p = p} {trail = t} few not_yet more) (silent {trail = u} little nor_yet other) same = lookups_one more other (same_rest p None None t u same)
lookups_one (silent {p = p} {trail = t} few not_yet more) (answered {route = route} {trail = u} little nor_yet other) same = absurd (silent_or_not p route t u same)
lookups_one (answered {p = p} {route = route} {trail = t} few not_yet more) (spent many) same = absurd (nothing_first (p, Some route) t (sym same))
lookups_one (answered few not_yet more) (known h other) same = absurd (not_yet h)
lookups_one (answered {p = p} {route = route} {trail = t} few not_yet more) (silent {trail = u} little nor_yet other) same = absurd (silent_or_not p route u t (sym same))
lookups_one (answered {asked = asked} {p = p} {route = route} {trail = t} {found = found} few not_yet more) (answered {route = way} {trail = u} {found = other} little nor_yet others) same =
    let one : route ≡ way = same_route p route way t u same in
    lookups_one more (subst (λ (w : Route Peer). IsLookup (p ∷ asked) (Some w.owners) w.nearer u other) (sym one) others) (same_rest p (Some route) (Some way) t u same)

pub one_lookup : {asked : List Peer} {last : Option (List Peer)} {ps : List Peer} {trail : List (Peer × Option (Route Peer))} {found other : Option (List Peer)}
    → IsLookup asked last ps trail found → IsLookup asked last ps trail other → found ≡ other
one_lookup f g = lookups_one f g refl

-- ---- a trail is determined by one look-up and the asks of the owners

module _ (e : Entries) where
  same_asked : (a b : Bool) (x y : Peer × Answer) → entry e a x.0 x.1 ≡ entry e b y.0 y.1 → x ≡ y
  same_asked a b x y h = λ i. ((h i).node, (h i).got)

  not_both : (x y : Peer × Answer) → entry e false x.0 x.1 ≡ entry e true y.0 y.1 → ⊥
  not_both x y h = e.other (ap (λ (s : Heard). s.kind) h)

  same_asks : (a b : Told) → entries_of e a ≡ entries_of e b → a ≡ b
  same_asks [] [] h = refl
  same_asks [] (y ∷ b) h = absurd (nil_cons (entry e false y.0 y.1) (entries_of e b) h)
  same_asks (x ∷ a) [] h = absurd (nil_cons (entry e false x.0 x.1) (entries_of e a) (sym h))
  same_asks (x ∷ a) (y ∷ b) h =
      ap (λ (z : Peer × Answer). z ∷ a) (same_asked false false x y (cons_head (entry e false x.0 x.1) (entries_of e a) (entry e false y.0 y.1) (entries_of e b) h))
      ∙ ap (λ (l : Told). y ∷ l) (same_asks a b (cons_tail (entry e false x.0 x.1) (entries_of e a) (entry e false y.0 y.1) (entries_of e b) h))

  owners_first : (a : Told) (y : Peer × Answer) (rest : List Heard) → entries_of e a ≡ entry e true y.0 y.1 ∷ rest → ⊥
  owners_first [] y rest h = nil_cons (entry e true y.0 y.1) rest h
  owners_first (x ∷ a) y rest h = not_both x y (cons_head (entry e false x.0 x.1) (entries_of e a) (entry e true y.0 y.1) rest h)

  pub one_split : (l m a b : Told) → told_all (ask.Route e.key) l ++ entries_of e a ≡ told_all (ask.Route e.key) m ++ entries_of e b → (l ≡ m) × (a ≡ b)
  one_split [] [] a b h = (refl, same_asks a b h)
  one_split [] (y ∷ m) a b h = absurd (owners_first a y (told_all (ask.Route e.key) m ++ entries_of e b) h)
  one_split (x ∷ l) [] a b h = absurd (owners_first b x (told_all (ask.Route e.key) l ++ entries_of e a) (sym h))
  one_split (x ∷ l) (y ∷ m) a b h =
      let first = cons_head (entry e true x.0 x.1) (told_all (ask.Route e.key) l ++ entries_of e a) (entry e true y.0 y.1) (told_all (ask.Route e.key) m ++ entries_of e b) h in
      let rest = one_split l m a b (cons_tail (entry e true x.0 x.1) (told_all (ask.Route e.key) l ++ entries_of e a) (entry e true y.0 y.1) (told_all (ask.Route e.key) m ++ entries_of e b) h) in
      (ap (λ (z : Peer × Answer). z ∷ l) (same_asked true true x y first) ∙ ap (λ (t : Told). y ∷ t) rest.0, rest.1)

-- ---- an execution brings one thing

ok_same : (came : Result (List Peer) Miss) (a b : List Peer) → came ≡ Ok a → came ≡ Ok b → a ≡ b
ok_same came a b e f = cc (sym e ∙ f)

ok_or_err : (came : Result (List Peer) Miss) (a : List Peer) (m : Miss) → came ≡ Err m → came ≡ Ok a → ⊥
ok_or_err came a m e f = cc (sym e ∙ f)

module _ {T : Type 0} (e : Entries) (question : Ask) (told_by : IsToldBy e question) (Ends : List Peer → Told → Result T Miss → Type 0)
    (ends_one : (owners : List Peer) (asks : Told) (one other : Result T Miss) → Ends owners asks one → Ends owners asks other → one ≡ other) (entries : List Peer) (trail : List Heard) where
  told_so : (looks asks : Told) → trail ≡ told_all (ask.Route e.key) looks ++ told_all question asks → trail ≡ told_all (ask.Route e.key) looks ++ entries_of e asks
  told_so looks asks is = is ∙ ap (λ (l : List Heard). told_all (ask.Route e.key) looks ++ l) (told_owners e question told_by asks)

  looked_only : (looks : Told) → trail ≡ told_all (ask.Route e.key) looks → trail ≡ told_all (ask.Route e.key) looks ++ entries_of e []
  looked_only looks is = is ∙ sym (append-nil (told_all (ask.Route e.key) looks))

  found_same : (l m : Told) (found other : Option (List Peer)) → l ≡ m → IsLookup [] None entries (routes l) found → IsLookup [] None entries (routes m) other → found ≡ other
  found_same l m found other same f g = one_lookup f (subst (λ (t : Told). IsLookup [] None entries (routes t) other) (sym same) g)

  pub one_execution : (one other : Result T Miss) → IsExecution e.key question entries Ends trail one → IsExecution e.key question entries Ends trail other → one ≡ other
  one_execution one other (no_route looks found is looked nobody result_is) (no_route looks2 found2 is2 looked2 nobody2 result_is2) = result_is ∙ sym result_is2
  one_execution one other (no_route looks found is looked nobody result_is) (of_owners looks2 asks2 found2 owners2 is2 looked2 some2 ends2) =
      let same = one_split e looks looks2 [] asks2 (sym (looked_only looks is) ∙ told_so looks2 asks2 is2) in
      absurd (ok_or_err (outcome e.key found) owners2 (miss.NoRoute e.key) nobody (ap (outcome e.key) (found_same looks looks2 found found2 same.0 looked looked2) ∙ some2))
  one_execution one other (of_owners looks asks found owners is looked some ends) (no_route looks2 found2 is2 looked2 nobody2 result_is2) =
      let same = one_split e looks2 looks [] asks (sym (looked_only looks2 is2) ∙ told_so looks asks is) in
      absurd (ok_or_err (outcome e.key found2) owners (miss.NoRoute e.key) nobody2 (ap (outcome e.key) (found_same looks2 looks found2 found same.0 looked2 looked) ∙ some))
  one_execution one other (of_owners looks asks found owners is looked some ends) (of_owners looks2 asks2 found2 owners2 is2 looked2 some2 ends2) =
      let same = one_split e looks looks2 asks asks2 (sym (told_so looks asks is) ∙ told_so looks2 asks2 is2) in
      let whose : owners ≡ owners2 = ok_same (outcome e.key found) owners owners2 some (ap (outcome e.key) (found_same looks looks2 found found2 same.0 looked looked2) ∙ some2) in
      ends_one owners2 asks2 one other (subst (λ (o : List Peer). Ends o asks2 one) whose (subst (λ (t : Told). Ends owners t one) same.1 ends)) ends2

-- ---- puts

one_bool : (P : Type 0) (a b : Bool) → MatchBool a P (P → ⊥) → MatchBool b P (P → ⊥) → a ≡ b
one_bool P true true f g = refl
one_bool P true false f g = absurd (g f)
one_bool P false true f g = absurd (f g)
one_bool P false false f g = refl

pub one_acknowledged : (r : ℕ) (owners : List Peer) (asks : Told) (one other : Bool) → IsPutTrail is_of_put holds r owners asks one → IsPutTrail is_of_put holds r owners asks other → one ≡ other
one_acknowledged r owners asks one other f g =
    let once : g.asks.once ≡ f.asks.once = firsts_same g.asks.firsts ∙ sym (firsts_same f.asks.firsts) in
    one_bool (IsAcknowledged holds r f.asks.once asks) one other f.ends (subst (λ (l : List Peer). MatchBool other (IsAcknowledged holds r l asks) (IsAcknowledged holds r l asks → ⊥)) once g.ends)

abbrev it_held : Bool → Result Bool Miss
it_held held = Ok held

put_ends_one : (r : ℕ) (owners : List Peer) (asks : Told) (one other : Result Bool Miss) → EndsPut r owners asks one → EndsPut r owners asks other → one ≡ other
put_ends_one r owners asks one other f g = f.2 ∙ ap it_held (one_acknowledged r owners asks f.0 g.0 f.1 g.1) ∙ sym g.2

pub one_put_of : (what : PutKind) (bytes : List ℕ) (key : Key) (r : ℕ) (entries : List Peer) (trail : List Heard) (one other : Result Bool Miss)
    → IsExecution key (question_of what bytes key) entries (EndsPut r) trail one → IsExecution key (question_of what bytes key) entries (EndsPut r) trail other → one ≡ other
one_put_of what bytes key r entries trail one other = one_execution (put_entries what bytes key) (question_of what bytes key) (told_put what bytes key) (EndsPut r) (put_ends_one r) entries trail one other

pub one_put_of_post : (r : ℕ) (entries : List Peer) (p : Post) (trail : List Heard) (one other : Result Bool Miss) → IsPutOfPost r entries p trail one → IsPutOfPost r entries p trail other → one ≡ other
one_put_of_post r entries p trail one other =
    of_post (λ q. IsExecution p.key q entries (EndsPut r) trail one → IsExecution p.key q entries (EndsPut r) trail other → one ≡ other) p (one_put_of (kind_of_post (is_head p.kind)) p.bytes p.key r entries trail one other)

-- ---- gets of heads

abbrev right : {B : Type 0} → B → Got Peer B
right b = Right b

abbrev damaged : {B : Type 0} → Peer → Got Peer B
damaged node = Damaged node

abbrev missing : {B : Type 0} → List Peer → Got Peer B
missing asked = Missing asked

some_node : (a b : Peer) → Some a ≡ Some b → a ≡ b
some_node a b e = cc e

some_none : (a : Peer) → Some a ≡ None → ⊥
some_none a e = cc e

none_some : (a : Peer) → None ≡ Some a → ⊥
none_some a e = cc e

one_of_heads : (judge : List ℕ → Option Judged) (asks : Told) (one other : Got Peer (List Judged)) → EndsHeads block_in judge asks one → EndsHeads block_in judge asks other → one ≡ other
one_of_heads judge asks (Right heads) (Right others) f g = ap (right {B = List Judged}) (f.1 ∙ sym g.1)
one_of_heads judge asks (Right heads) (Damaged node) f g = absurd (f.0 (f.1 ∙ g.0))
one_of_heads judge asks (Right heads) (Missing asked) f g = absurd (f.0 (f.1 ∙ g.0))
one_of_heads judge asks (Damaged node) (Right heads) f g = absurd (g.0 (g.1 ∙ f.0))
one_of_heads judge asks (Damaged node) (Damaged other) f g = ap (damaged {B = List Judged}) (some_node node other (sym f.1 ∙ g.1))
one_of_heads judge asks (Damaged node) (Missing asked) f g = absurd (some_none node (sym f.1 ∙ g.1))
one_of_heads judge asks (Missing asked) (Right heads) f g = absurd (g.0 (g.1 ∙ f.0))
one_of_heads judge asks (Missing asked) (Damaged node) f g = absurd (none_some node (sym f.1 ∙ g.1))
one_of_heads judge asks (Missing asked) (Missing also) f g = ap (missing {B = List Judged}) (f.2 ∙ sym g.2)

head_ends_one : (judge : List ℕ → Option Judged) (key : Key) (r : ℕ) (owners : List Peer) (asks : Told) (one other : Result (List Judged) Miss) → EndsHeadGet judge key r owners asks one → EndsHeadGet judge key r owners asks other → one ≡ other
head_ends_one judge key r owners asks one other f g = f.2 ∙ ap (λ (x : Got Peer (List Judged)). result_of key x) (one_of_heads judge asks f.0 g.0 f.1.ends g.1.ends) ∙ sym g.2

pub one_get_of_head : (judge : List ℕ → Option Judged) (key : Key) (r : ℕ) (entries : List Peer) (trail : List Heard) (one other : Result (List Judged) Miss) → IsGetOfHead judge key r entries trail one → IsGetOfHead judge key r entries trail other
    → one ≡ other
one_get_of_head judge key r entries trail one other = one_execution (get_entries key) (ask.Get key) (λ node given. refl) (EndsHeadGet judge key r) (head_ends_one judge key r) entries trail one other

-- ---- gets of blocks

module _ (key : Key) where
  abbrev IsIn : List (Peer × List ℕ) → List ℕ → Type 0
  IsIn blocks bytes = (node : Peer) × IsAmong {X = Peer × List ℕ} (node, bytes) blocks × (name bytes ≡ key)

  -- of the first of the asks, or of the rest
  of_first : (o : Option (List ℕ)) (p : Peer) (rest : List (Peer × List ℕ)) (bytes : List ℕ) → IsIn (cons_option (option_map (λ (b : List ℕ). (p, b)) o) rest) bytes → (o ≡ Some bytes) ⊎ IsIn rest bytes
  of_first None p rest bytes h = inr h
  of_first (Some b) p rest bytes h = ⊎_elim (λ same. inl (ap (λ (x : Peer × List ℕ). Some x.1) same)) (λ later. inr (h.0, later, h.2)) h.1

  to_first : (o : Option (List ℕ)) (p : Peer) (bytes : List ℕ) → o ≡ Some bytes → name bytes ≡ key → IsIn (cons_option (option_map (λ (b : List ℕ). (p, b)) o) []) bytes
  to_first None p bytes none named = cc none
  to_first (Some b) p bytes is named = (p, inl (ap (λ (x : List ℕ). (p, x)) (cc is)), named)

  to_rest : (o : Option (List ℕ)) (p : Peer) (rest : List (Peer × List ℕ)) (bytes : List ℕ) → IsIn rest bytes → IsIn (cons_option (option_map (λ (b : List ℕ). (p, b)) o) rest) bytes
  to_rest None p rest bytes h = h
  to_rest (Some b) p rest bytes h = (h.0, inr h.1, h.2)

  none_in : (bytes : List ℕ) → IsIn [] bytes → ⊥
  none_in bytes h = elim h.1 [ ]

  -- no proper part of the asks was given it
  abbrev NotBefore : Told → Type 0
  NotBefore asks = (k : ℕ) → k < length asks → HasBlock block_in key (take k asks) → ⊥

  one_block : (asks : Told) → NotBefore asks → (one other : List ℕ) → IsIn (given block_in asks) one → IsIn (given block_in asks) other → one ≡ other
  one_block [] none one other f g = absurd (none_in one f)
  one_block (x ∷ []) none one other f g = by (of_first (block_in x.1) x.0 [] one f) (of_first (block_in x.1) x.0 [] other g)
    where
      by : (block_in x.1 ≡ Some one) ⊎ IsIn [] one → (block_in x.1 ≡ Some other) ⊎ IsIn [] other → one ≡ other
      by (inl a) (inl b) = cc (sym a ∙ b)
      by (inl a) (inr b) = absurd (none_in other b)
      by (inr a) b = absurd (none_in one a)
  one_block (x ∷ y ∷ asks) none one other f g =
      one_block (y ∷ asks) later one other (only one (of_first (block_in x.1) x.0 (given block_in (y ∷ asks)) one f) f.2) (only other (of_first (block_in x.1) x.0 (given block_in (y ∷ asks)) other g) g.2)
    where
      only : (bytes : List ℕ) → (block_in x.1 ≡ Some bytes) ⊎ IsIn (given block_in (y ∷ asks)) bytes → name bytes ≡ key → IsIn (given block_in (y ∷ asks)) bytes
      only bytes (inl first) named = absurd (none 1 (omega arith) (bytes, to_first (block_in x.1) x.0 bytes first named))
      only bytes (inr rest) named = rest

      later : NotBefore (y ∷ asks)
      later k few h = none (suc k) (omega (arith, few)) (h.0, to_rest (block_in x.1) x.0 (given block_in (take k (y ∷ asks))) h.0 h.1)

  one_of_blocks : (asks : Told) → NotBefore asks → (one other : Got Peer (List ℕ)) → EndsBlock block_in key asks one → EndsBlock block_in key asks other → one ≡ other
  one_of_blocks asks none (Right bytes) (Right others) f g = ap (right {B = List ℕ}) (one_block asks none bytes others f g)
  one_of_blocks asks none (Right bytes) (Damaged node) f g = absurd (g.0 (bytes, f))
  one_of_blocks asks none (Right bytes) (Missing asked) f g = absurd (g.0 (bytes, f))
  one_of_blocks asks none (Damaged node) (Right bytes) f g = absurd (f.0 (bytes, g))
  one_of_blocks asks none (Damaged node) (Damaged other) f g = ap (damaged {B = List ℕ}) (some_node node other (sym f.1 ∙ g.1))
  one_of_blocks asks none (Damaged node) (Missing asked) f g = absurd (some_none node (sym f.1 ∙ g.1))
  one_of_blocks asks none (Missing asked) (Right bytes) f g = absurd (f.0 (bytes, g))
  one_of_blocks asks none (Missing asked) (Damaged node) f g = absurd (none_some node (sym f.1 ∙ g.1))
  one_of_blocks asks none (Missing asked) (Missing also) f g = ap (missing {B = List ℕ}) (f.2 ∙ sym g.2)

  block_ends_one : (r : ℕ) (owners : List Peer) (asks : Told) (one other : Result (List ℕ) Miss) → EndsGet key r owners asks one → EndsGet key r owners asks other → one ≡ other
  block_ends_one r owners asks one other f g =
      f.2 ∙ ap (λ (x : Got Peer (List ℕ)). result_of key x) (one_of_blocks asks (λ k few h. f.1.asks.needed k few (inr h)) f.0 g.0 f.1.ends g.1.ends) ∙ sym g.2

  pub one_get_of_block : (r : ℕ) (entries : List Peer) (trail : List Heard) (one other : Result (List ℕ) Miss) → IsGetOfBlock key r entries trail one → IsGetOfBlock key r entries trail other → one ≡ other
  one_get_of_block r entries trail one other = one_execution (get_entries key) (ask.Get key) (λ node given. refl) (EndsGet key r) (block_ends_one r) entries trail one other
