-- A session asks only nodes that were made: a look-up its entries and whom answers named, then the owners that the last answer named.
use Rattle.std.proofs.Common.{◌≡◌, ◌⊎◌, inl, inr, ⊎_elim, ℕ, Bool, true, false, cond, List, [], ◌∷◌, ◌++◌, length, map, Option, Some, None, Result, Ok, Err, refl, sym, ap, ◌∙◌, subst, Contains}
use Rattle.std.specs.Prelude.{IfSome}
use Rattle.std.specs.List.{AllByRecursion}
use Rattle.std.proofs.lemmas.List.{append-nil, append_assoc}
use Rattle.ivy_base.specs.declared.key.Key.{Key}
use Rattle.ivy_base.specs.Naming.{head_key_of}
use Rattle.dhash_model.specs.Signed.{hss_judged}
use Rattle.log_model.proofs.Lists.{each, each_left, each_right}
use Rattle.ring_model.specs.Gets.{AreAsks, AreFirsts, nodes}
use Rattle.ring_model.specs.Gets.AreFirsts.{none, again, new}
use Rattle.ring_model.specs.Lookup.{IsLookup}
use Rattle.ring_model.specs.Lookup.IsLookup.{over, spent, known, silent, answered}
use Rattle.ring_model.specs.Members.{IsAmong}
use Rattle.ring_model.specs.Route.{Route}
use Rattle.ring_model.proofs.Lists.{all_from, among_take, cons_head, cons_tail, nil_cons, all-among}
use Rattle.dht_ids.specs.Asked.{IsForData, route_in, routes, told}
use Rattle.dht_ids.specs.declared.ask.Answer.{Answer}
use Rattle.dht_ids.specs.declared.ask.Answer.TheVariants as answer
use Rattle.dht_ids.specs.declared.ask.Ask.{Ask}
use Rattle.dht_ids.specs.declared.ask.Ask.TheVariants as ask
use Rattle.dht_ids.specs.declared.ask.Heard.{Heard}
use Rattle.dht_ids.specs.declared.judge.Judged.{Judged}
use Rattle.dht_ids.specs.declared.peer.Peer.{Peer}
use Rattle.dht_ids.specs.declared.post.Post.{Post}
use Rattle.dhash_model.specs.declared.miss.Miss.TheVariants as miss
use Rattle.dhash_model.specs.Execution.{IsExecution, Told, told_all, outcome}
use Rattle.dhash_model.specs.Execution.IsExecution.{no_route, of_owners}
use Rattle.dhash_model.specs.GetBlock.{EndsGet}
use Rattle.dhash_model.specs.GetHead.{EndsHeadGet}
use Rattle.dhash_model.specs.Puts.{EndsPut}
use Rattle.dhash_model.specs.declared.miss.Miss.{Miss}
use Rattle.agent_model.specs.Agent.{is_head}
use Rattle.session_model.specs.Asking.{AsksNext}
use Rattle.session_model.specs.Brought.{Brought, WantedOfRing}
use Rattle.session_model.specs.Sessions.{Cache, Gets, IsGet, IsPut, Session, TakesAll, put_question, wanted_key}
use Rattle.session_model.specs.Sessions.Gets.{heads as got_heads, content as got_content}
use Rattle.session_model.specs.Sessions.Takes.{posted, cached}
use Rattle.session_model.specs.Sessions.TakesAll.{none as takes_none, more as takes_more}
use Rattle.ivy_session.specs.Stepping.{AsksOf}
use Rattle.ivy_session.specs.Stepping.AsksOf.{gets as asks_get, puts as asks_put}
use Rattle.world_model.specs.World.{World, peer_of}
use Rattle.world_laws.specs.Invariant.{GoesOn, IsAnswerIn, OnlyPublishes}
use Rattle.session_steps.specs.Laws.{AskedAreMade}

-- ---- lists

into_among : {X : Type 0} (x : X) (xs : List X) → Contains xs x → IsAmong x xs
into_among x xs h = each (λ y. IsAmong y xs) xs x (all_from (λ y. IsAmong y xs) xs (λ y i. i)) h

-- ---- what is told of an ask

-- an ask for is_data is determined by one entry, of its node
pub one_told : (node : Peer) (question : Ask) (given : Answer) → IsForData question → (h : Heard) × (told node question given ≡ h ∷ []) × (h.node ≡ node) × (h.got ≡ given)
one_told node (ask.Route key) given is_data = (_, refl, refl, refl)
one_told node ask.Near given is_data = absurd is_data
one_told node (ask.Notify peer) given is_data = absurd is_data
one_told node (ask.Get key) given is_data = (_, refl, refl, refl)
one_told node (ask.PutBlock key bytes) given is_data = (_, refl, refl, refl)
one_told node (ask.PutHead key bytes) given is_data = (_, refl, refl, refl)

post_for_data : (p : Post) → IsForData (put_question p)
post_for_data p = by (is_head p.kind)
  where
    by : (b : Bool) → IsForData (cond b (ask.PutHead p.key p.bytes) (ask.PutBlock p.key p.bytes))
    by true = tt
    by false = tt

-- the question is one for the route, or that one for is_data
pub for_data : (key : Key) (wanted question : Ask) → IsForData wanted → (question ≡ ask.Route key) ⊎ (question ≡ wanted) → IsForData question
for_data key wanted question is_data is = ⊎_elim (λ e. subst IsForData (sym e) tt) (λ e. subst IsForData (sym e) is_data) is

-- ---- look-ups

no_first : (p : Peer) (route : Option (Route Peer)) (trail : List (Peer × Option (Route Peer))) → (p, route) ∷ trail ≡ [] → ⊥
no_first p route trail e = nil_cons {X = Peer × Option (Route Peer)} (p, route) trail (sym e)

same_first : (p q : Peer) (route other : Option (Route Peer)) (trail rest : List (Peer × Option (Route Peer))) → (p, route) ∷ trail ≡ (q, other) ∷ rest → (p ≡ q) × (route ≡ other) × (trail ≡ rest)
same_first p q route other trail rest e =
    let x : Peer × Option (Route Peer) = (p, route) in
    let y : Peer × Option (Route Peer) = (q, other) in
    let h : x ≡ y = cons_head x trail y rest e in
    (ap (λ (z : Peer × Option (Route Peer)). z.0) h, ap (λ (z : Peer × Option (Route Peer)). z.1) h, cons_tail x trail y rest e)

some_route : (a b : Route Peer) → Some a ≡ Some b → a ≡ b
some_route a b e = cc e

not_some : (a : Route Peer) → Some a ≡ None → ⊥
not_some a e = cc e

module _ (w : World) where
  abbrev pub IsMade : Peer → Type 0
  IsMade = Contains (map peer_of w.nodes)

  abbrev pub AreAnswered : List Heard → Type 0
  AreAnswered asks = AllByRecursion (λ h. IsAnswerIn w h.got) asks

  -- whom a route names
  routed : (given : Answer) (route : Route Peer) → IsAnswerIn w given → Some route ≡ route_in given → AllByRecursion IsMade (route.nearer ++ route.owners)
  routed (answer.Route nearer owners) route h is = subst (λ (x : Route Peer). AllByRecursion IsMade (x.nearer ++ x.owners)) (sym (some_route route (record { nearer = nearer; owners = owners }) is)) h
  routed (answer.Near before list) route h is = absurd (not_some route is)
  routed (answer.Found bytes) route h is = absurd (not_some route is)
  routed answer.Nothing route h is = absurd (not_some route is)
  routed answer.Stored route h is = absurd (not_some route is)
  routed (answer.Refused fault) route h is = absurd (not_some route is)
  routed answer.Noted route h is = absurd (not_some route is)
  routed answer.Silent route h is = absurd (not_some route is)

  -- after these asks an entry follows
  module _ (key : Key) (h : Heard) (more rest : List Heard) where
    -- the entry is of the look-up, and its node was made; or it is of what comes then, and so were the owners that were found
    abbrev Comes : Option (List Peer) → Type 0
    Comes found = IsMade h.node ⊎ ((before : List Heard) × AreAnswered before × (before ++ h ∷ more ≡ rest) × IfSome found (AllByRecursion IsMade))

    at_end : (looks : Told) (last : Option (List Peer)) (before : List Heard) → [] ≡ routes looks → IfSome last (AllByRecursion IsMade) → AreAnswered before → before ++ h ∷ more ≡ told_all (ask.Route key) looks ++ rest → Comes last
    at_end [] last before is owners heard e = inr (before, heard, e, owners)
    at_end (l ∷ looks) last before is owners heard e = absurd (no_first l.0 (route_in l.1) (routes looks) (sym is))

    look_made : {asked : List Peer} {last : Option (List Peer)} {ps : List Peer} {trail : List (Peer × Option (Route Peer))} {found : Option (List Peer)} → IsLookup asked last ps trail found
        → (looks : Told) → trail ≡ routes looks → AllByRecursion IsMade ps → IfSome last (AllByRecursion IsMade) → (before : List Heard) → AreAnswered before → before ++ h ∷ more ≡ told_all (ask.Route key) looks ++ rest → Comes found
    look_made (over {last = last}) looks is made owners before heard e = at_end looks last before is owners heard e
    look_made (spent {last = last} many) looks is made owners before heard e = at_end looks last before is owners heard e
    look_made (known among later) looks is made owners before heard e = look_made later looks is made.1 owners before heard e
    look_made (silent {p = p} {trail = trail} few not_yet later) [] is made owners before heard e = absurd (no_first p None trail is)
    look_made (silent {p = p} {trail = trail} few not_yet later) (l ∷ looks) is made owners [] heard e =
        let same = same_first p l.0 None (route_in l.1) trail (routes looks) is in
        inl (subst IsMade (same.0 ∙ sym (ap (λ (x : Heard). x.node) (cons_head h more _ _ e))) made.0)
    look_made (silent {p = p} {trail = trail} few not_yet later) (l ∷ looks) is made owners (b ∷ before) heard e =
        let same = same_first p l.0 None (route_in l.1) trail (routes looks) is in
        look_made later looks same.2 made.1 owners before heard.1 (cons_tail b (before ++ h ∷ more) _ _ e)
    look_made (answered {p = p} {route = route} {trail = trail} few not_yet later) [] is made owners before heard e = absurd (no_first p (Some route) trail is)
    look_made (answered {p = p} {route = route} {trail = trail} few not_yet later) (l ∷ looks) is made owners [] heard e =
        let same = same_first p l.0 (Some route) (route_in l.1) trail (routes looks) is in
        inl (subst IsMade (same.0 ∙ sym (ap (λ (x : Heard). x.node) (cons_head h more _ _ e))) made.0)
    look_made (answered {p = p} {route = route} {trail = trail} few not_yet later) (l ∷ looks) is made owners (b ∷ before) heard e =
        let same = same_first p l.0 (Some route) (route_in l.1) trail (routes looks) is in
        let given : IsAnswerIn w l.1 = subst (IsAnswerIn w) (ap (λ (x : Heard). x.got) (cons_head b (before ++ h ∷ more) _ _ e)) heard.0 in
        let named = routed l.1 route given same.1 in
        look_made later looks same.2 (each_left IsMade route.nearer route.owners named) (each_right IsMade route.nearer route.owners named) before heard.1 (cons_tail b (before ++ h ∷ more) _ _ e)

  -- ---- owners

  each_once : {seen ps qs : List Peer} → AreFirsts seen ps qs → AllByRecursion IsMade ps → AllByRecursion IsMade qs
  each_once none made = tt
  each_once (again among later) made = each_once later made.1
  each_once (new not_yet later) made = (made.0, each_once later made.1)

  asked_made : (owners : List Peer) (IsEnough : Told → Type 0) (asks : Told) → AreAsks owners IsEnough asks → AllByRecursion IsMade owners → AllByRecursion IsMade (nodes asks)
  asked_made owners IsEnough asks a made =
      all_from IsMade (nodes asks) (λ q among. all-among IsMade q a.once (each_once a.firsts made) (among_take (length asks) q a.once (subst (IsAmong q) a.order among)))

  -- the entry is of one of these asks
  owner_made : (question : Ask) (h : Heard) (more : List Heard) → IsForData question → (asks : Told) → AllByRecursion IsMade (nodes asks) → (before : List Heard) → before ++ h ∷ more ≡ told_all question asks → IsMade h.node
  owner_made question h more is_data [] made [] e = absurd (nil_cons h more (sym e))
  owner_made question h more is_data [] made (b ∷ before) e = absurd (nil_cons b (before ++ h ∷ more) (sym e))
  owner_made question h more is_data (l ∷ asks) made before e = by before (subst (λ (x : List Heard). before ++ h ∷ more ≡ x ++ told_all question asks) one.1 e) (λ rest f. owner_made question h more is_data asks made.1 rest f)
    where
      one : (a : Heard) × (told l.0 question l.1 ≡ a ∷ []) × (a.node ≡ l.0) × (a.got ≡ l.1)
      one = one_told l.0 question l.1 is_data

      by : (before : List Heard) → before ++ h ∷ more ≡ one.0 ∷ told_all question asks → ((rest : List Heard) → rest ++ h ∷ more ≡ told_all question asks → IsMade h.node) → IsMade h.node
      by [] f later = subst IsMade (sym (ap (λ (x : Heard). x.node) (cons_head h more one.0 (told_all question asks) f) ∙ one.2)) made.0
      by (b ∷ before) f later = later before (cons_tail b (before ++ h ∷ more) one.0 (told_all question asks) f)

  -- ---- gets and puts

  no_route_found : (key : Key) (owners : List Peer) → Err (miss.NoRoute key) ≡ Ok owners → ⊥
  no_route_found key owners e = cc e

  same_owners : (found owners : List Peer) → ◌≡◌ {A = Result (List Peer) Miss} (Ok found) (Ok owners) → found ≡ owners
  same_owners found owners e = cc e

  found_made : (key : Key) (found : Option (List Peer)) (owners : List Peer) → outcome key found ≡ Ok owners → IfSome found (AllByRecursion IsMade) → AllByRecursion IsMade owners
  found_made key None owners e made = absurd (no_route_found key owners e)
  found_made key (Some []) owners e made = absurd (no_route_found key owners e)
  found_made key (Some (p ∷ ps)) owners e made = subst (AllByRecursion IsMade) (same_owners (p ∷ ps) owners e) made

  none_before : (before more : List Heard) (h : Heard) → before ++ h ∷ more ≡ [] → ⊥
  none_before [] more h e = nil_cons h more (sym e)
  none_before (b ∷ before) more h e = nil_cons b (before ++ h ∷ more) (sym e)

  module _ {T : Type 0} (key : Key) (question : Ask) (is_data : IsForData question) (entries : List Peer) (Ends : List Peer → Told → Result T Miss → Type 0)
      (asks_of : (owners : List Peer) (asks : Told) (result : Result T Miss) → Ends owners asks result → AllByRecursion IsMade owners → AllByRecursion IsMade (nodes asks)) (made : AllByRecursion IsMade entries) where
    execution_made : (trail : List Heard) (node : Peer) (q : Ask) (given : Answer) (more : List Heard) (result : Result T Miss) → IsForData q → AreAnswered trail → IsExecution key question entries Ends (trail ++ told node q given ++ more) result → IsMade node
    execution_made trail node q given more result q_data heard execution = subst IsMade one.2 (by execution)
      where
        one : (h : Heard) × (told node q given ≡ h ∷ []) × (h.node ≡ node) × (h.got ≡ given)
        one = one_told node q given q_data

        same_trail : trail ++ one.0 ∷ more ≡ trail ++ told node q given ++ more
        same_trail = sym (append_assoc trail (one.0 ∷ []) more) ∙ ap (λ (x : List Heard). trail ++ x ++ more) (sym one.1)

        by : IsExecution key question entries Ends (trail ++ told node q given ++ more) result → IsMade one.0.node
        by (no_route looks found is looked nobody result_is) =
            let came = look_made key one.0 more [] looked looks refl made tt trail heard (same_trail ∙ is ∙ sym (append-nil (told_all (ask.Route key) looks))) in
            ⊎_elim (λ look. look) (λ later. absurd (none_before later.0 more one.0 later.2)) came
        by (of_owners looks asks found owners is looked some ends) =
            let came = look_made key one.0 more (told_all question asks) looked looks refl made tt trail heard (same_trail ∙ is) in
            ⊎_elim (λ look. look) (λ later. owner_made question one.0 more is_data asks (asks_of owners asks result ends (found_made key found owners some later.3)) later.0 later.2) came

  got_made : (r : ℕ) (entries : List Peer) (trail : List Heard) (node : Peer) (question : Ask) (given : Answer) (more : List Heard) {want : WantedOfRing} {brought : Brought} → AllByRecursion IsMade entries → AreAnswered trail → IsForData question
      → Gets hss_judged r entries want (trail ++ told node question given ++ more) brought → IsMade node
  got_made r entries trail node question given more made heard is_data (got_heads {owner = owner} came get) =
      execution_made (head_key_of owner) (ask.Get (head_key_of owner)) tt entries (EndsHeadGet (hss_judged (head_key_of owner)) (head_key_of owner) r)
      (λ owners asks result ends all. asked_made owners _ asks ends.1.asks all) made trail node question given more came is_data heard get
  got_made r entries trail node question given more made heard is_data (got_content {key = key} came get) =
      execution_made key (ask.Get key) tt entries (EndsGet key r) (λ owners asks result ends all. asked_made owners _ asks ends.1.asks all) made trail node question given more came is_data heard get

  get_made : (r : ℕ) (entries : List Peer) (want : WantedOfRing) (trail : List Heard) (node : Peer) (question : Ask) → AllByRecursion IsMade entries → AreAnswered trail
      → AsksNext (wanted_key want) (ask.Get (wanted_key want)) (IsGet hss_judged r entries want) trail node question → IsMade node
  get_made r entries want trail node question made heard next =
      got_made r entries trail node question next.answer next.more made heard (for_data (wanted_key want) (ask.Get (wanted_key want)) question tt next.is_of) next.whole.1

  put_made : (r : ℕ) (s : Session) (p : Post) (node : Peer) (question : Ask) → AllByRecursion IsMade s.entries → AreAnswered s.current → AsksNext p.key (put_question p) (IsPut hss_judged r s p) s.current node question → IsMade node
  put_made r s p node question made heard next =
      execution_made p.key (put_question p) (post_for_data p) s.entries (EndsPut r) (λ owners asks result ends all. asked_made owners _ asks ends.1.asks all) made s.current node question next.answer next.more next.whole.0
      (for_data p.key (put_question p) question (post_for_data p) next.is_of) heard next.whole.1

  -- ---- sessions

  -- it knows made nodes alone, and what it heard names such alone
  pub record KnowsMade (s : Session) : Type 0 where
    pub entries : AllByRecursion IsMade s.entries
    pub heard : AreAnswered s.current

  pub asks_made : (r : ℕ) (s : Session) (node : Peer) (question : Ask) → KnowsMade s → AsksOf hss_judged r s node question → IsAmong node (map peer_of w.nodes)
  asks_made r s node question knows (asks_get want wants next) = into_among node (map peer_of w.nodes) (get_made r s.entries want s.current node question knows.entries knows.heard next)
  asks_made r s node question knows (asks_put said p posts acks stage next) = into_among node (map peer_of w.nodes) (put_made r s p node question knows.entries knows.heard next)

  pub knows_made : (r : ℕ) (s : Session) → GoesOn w r s ⊎ OnlyPublishes w r s → KnowsMade s
  knows_made r s (inl h) = record { entries = h.entries; heard = h.heard }
  knows_made r s (inr h) = record { entries = h.entries; heard = h.heard }

  -- so it does once it took what was available
  pub taken_knows : {judged : Key → List ℕ → Option Judged} {r : ℕ} {s t : Session} {cache after : Cache} → TakesAll judged r s cache t after → KnowsMade s → KnowsMade t
  taken_knows (takes_none nothing) knows = knows
  taken_knows (takes_more (posted key bytes wants free is) rest) knows = taken_knows rest (record { entries = knows.entries; heard = tt })
  taken_knows (takes_more (cached key bytes wants free not is) rest) knows = taken_knows rest (record { entries = knows.entries; heard = tt })

pub asked_are_made : AskedAreMade
asked_are_made w r s node question goes asks = asks_made w r s node question (knows_made w r s goes) asks
