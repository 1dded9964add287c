-- What is left to a session falls.
use Rattle.std.proofs.Common.{◌≡◌, ⊎_elim, ℕ, zero, suc, ◌+◌, ◌-◌, ◌*◌, ◌^◌, ◌<◌, ◌≤◌, Bool, true, false, cond, List, [], ◌∷◌, ◌++◌, length, filter, Some, Result, Ok, Err, IfOk, IfSome, refl, sym, ap, ◌∙◌, subst, arith}
use Rattle.std.proofs.Math.Nat.{mul-le-mul_left}
use Rattle.std.proofs.lemmas.List.{length-append}
use Rattle.ivy_base.specs.declared.memory.Memory.{Memory}
use Rattle.dht_ids.specs.declared.ask.Answer.{Answer}
use Rattle.dht_ids.specs.declared.ask.Want.{Want}
use Rattle.dht_ids.specs.declared.peer.Peer.{Peer}
use Rattle.dht_ids.specs.declared.post.Ack.{Ack}
use Rattle.dht_ids.specs.declared.post.Post.{Post}
use Rattle.dht_ids.specs.declared.post.PostKind.{PostKind}
use Rattle.dht_ids.specs.declared.post.PostKind.TheVariants as kind
use Rattle.dhash_client.specs.GetHead.{Judges}
use Rattle.agent_model.specs.Agent.{is_head}
use Rattle.agent_model.specs.Others.{is_block}
use Rattle.session_model.specs.Sessions.{Cache, in_publishing_order, is_log}
use Rattle.log_fetch.specs.declared.standing.Standing.{Standing}
use Rattle.view_refresh.specs.declared.refresh.Refreshed.{Refreshed}
use Rattle.view_refresh.specs.States.{Refreshing as RefreshState, most_refresh, refresh_left}
use Rattle.ivy_session.specs.Publishing.{PublishingState, most_asks, publishing_begun, puts_left}
use Rattle.ivy_session.specs.declared.served.Call.{Call}
use Rattle.ivy_session.specs.declared.served.Served.{Served}
use Rattle.ivy_session.specs.declared.session.Next.{Next}
use Rattle.ivy_session.specs.declared.session.Next.TheVariants as next
use Rattle.ivy_session.specs.declared.session.Stage.{Stage}
use Rattle.ivy_session.specs.declared.session.Stage.TheVariants as stage
use Rattle.ivy_session.specs.States.{SessionState, is_turning}
use Rattle.ivy_session.specs.Ending.{BeginsAgain, ConcludesAs, lacking}
use Rattle.ivy_session.specs.InPlace.{EndsRefresh, PutHeard, PutWants, RefreshHeard, call_at, is_refreshing, told_at}
use Rattle.ivy_session.specs.Left.{FallsLeft, LeavesNoMore, StaysLeft, left_at, most_puts, session_left}
use Rattle.ivy_session.proofs.TurnsInPlace.{at_turn}

-- ---- numbers

at_least : (n : ℕ) → 0 ≤ n
at_least n = omega arith

module _ (puts again : ℕ) where
  -- the refresh goes on
  asks_stay : (old new : ℕ) → new ≤ old → new + 2 + puts + again ≤ old + 2 + puts + again
  asks_stay old new no_more = omega (arith, no_more)

  asks_fall : (old new : ℕ) → new < old → new + 2 + puts + again < old + 2 + puts + again
  asks_fall old new less = omega (arith, less)

  -- it is over
  turn_falls : (left : ℕ) → 2 + puts + again ≤ left + 2 + puts + again
  turn_falls left = omega arith

  some_asks : (left : ℕ) → 0 < left + 2 + puts + again
  some_asks left = omega arith

  -- the turn was answered
  some_turn : 0 < 2 + puts + again
  some_turn = omega arith

  puts_fall : (left : ℕ) → left ≤ puts → 1 + left < 2 + puts + again
  puts_fall left no_more = omega (arith, no_more)

some_puts : (left : ℕ) → 0 < 1 + left
some_puts left = omega arith

more_puts : (old new : ℕ) → new ≤ old → 1 + new ≤ 1 + old
more_puts old new no_more = omega (arith, no_more)

fewer_puts : (old new : ℕ) → new < old → 1 + new < 1 + old
fewer_puts old new less = omega (arith, less)

-- the turn was refused
anew_falls : (most puts left starts : ℕ) → starts < 2 → left < most → left + 2 + puts + most * (2 - (starts + 1)) < 2 + puts + most * (2 - starts)
anew_falls most puts left zero few less = omega (arith, less)
anew_falls most puts left (suc zero) few less = omega (arith, less)
anew_falls most puts left (suc (suc starts)) few less = absurd (omega (arith, few))

-- ---- posts in their order

ordered_one : (p : Post) (logs blocks heads : List Post) (n : ℕ) (k : PostKind) → length logs + length blocks + length heads ≤ n
    → length (cond (is_log k) (p ∷ logs) logs) + length (cond (is_block k) (p ∷ blocks) blocks) + length (cond (is_head k) (p ∷ heads) heads) ≤ suc n
ordered_one p logs blocks heads n kind.Block few = omega (arith, few)
ordered_one p logs blocks heads n kind.Log few = omega (arith, few)
ordered_one p logs blocks heads n kind.Head few = omega (arith, few)

ordered_parts : (posts : List Post) → length (filter (λ p. is_log p.kind) posts) + length (filter (λ p. is_block p.kind) posts) + length (filter (λ p. is_head p.kind) posts) ≤ length posts
ordered_parts [] = omega arith
ordered_parts (p ∷ posts) =
    ordered_one p (filter (λ p. is_log p.kind) posts) (filter (λ p. is_block p.kind) posts) (filter (λ p. is_head p.kind) posts) (length posts) p.kind (ordered_parts posts)

-- none is put twice
no_more_ordered : (posts : List Post) → length (in_publishing_order posts) ≤ length posts
no_more_ordered posts =
    let logs = filter (λ p. is_log p.kind) posts in
    let blocks = filter (λ p. is_block p.kind) posts in
    let heads = filter (λ p. is_head p.kind) posts in
    subst (λ (n : ℕ). n ≤ length posts) (sym (length-append (logs ++ blocks) heads ∙ ap (λ (n : ℕ). n + length heads) (length-append logs blocks))) (ordered_parts posts)

few_counted : (few ordered : ℕ) → few < 2 ^ 63 → ordered ≤ few → ordered ≤ 2 ^ 64
few_counted few ordered less no_more = omega (arith, less, no_more)

none_on_its_way : (left most : ℕ) → left ≤ most → 0 + left ≤ most
none_on_its_way left most few = omega (arith, few)

-- posts that are in memory
pub few_puts : (r : ℕ) (entries : List Peer) (posts : List Post) → length posts < 2 ^ 63 → puts_left (publishing_begun r entries posts) ≤ most_puts
unfolding most_puts
few_puts r entries posts few =
    none_on_its_way (most_asks * length (in_publishing_order posts)) (most_asks * 2 ^ 64) (mul-le-mul_left most_asks (few_counted (length posts) (length (in_publishing_order posts)) few (no_more_ordered posts)))

-- ---- stages

pub refresh_stays : {J T E : Type 0} (c : Call) (r q : RefreshState J) (x : Result T E) → IfOk x (λ _. refresh_left q ≤ refresh_left r) → IfOk x (λ _. StaysLeft (stage.Refreshing c r) (stage.Refreshing c q))
refresh_stays c r q (Ok x) no_more = λ starts. asks_stay most_puts (most_refresh * (2 - starts)) (refresh_left r) (refresh_left q) no_more
refresh_stays c r q (Err e) no_more = tt

pub refresh_falls : {J T E : Type 0} (c : Call) (r q : RefreshState J) (x : Result T E) → IfOk x (λ _. refresh_left q < refresh_left r) → IfOk x (λ _. FallsLeft (stage.Refreshing c r) (stage.Refreshing c q))
refresh_falls c r q (Ok x) less = λ starts. asks_fall most_puts (most_refresh * (2 - starts)) (refresh_left r) (refresh_left q) less
refresh_falls c r q (Err e) less = tt

pub publishing_stays : {T E : Type 0} (J : Type 0) (told : Served) (p q : PublishingState) (r : Result T E) → IfOk r (λ _. puts_left q ≤ puts_left p) → IfOk r (λ _. StaysLeft {J = J} (stage.Publishing told p) (stage.Publishing told q))
publishing_stays J told p q (Ok x) no_more = λ starts. more_puts (puts_left p) (puts_left q) no_more
publishing_stays J told p q (Err e) no_more = tt

pub publishing_falls : {T E : Type 0} (J : Type 0) (told : Served) (p q : PublishingState) (r : Result T E) → IfOk r (λ _. puts_left q < puts_left p) → IfOk r (λ _. FallsLeft {J = J} (stage.Publishing told p) (stage.Publishing told q))
publishing_falls J told p q (Ok x) less = λ starts. fewer_puts (puts_left p) (puts_left q) less
publishing_falls J told p q (Err e) less = tt

-- ---- sessions

-- less is left, and no turn is awaited
abbrev pub Falls : {J : Type 0} → SessionState J → SessionState J → Type 0
Falls old new = (is_turning new.stage ≡ false) × (session_left new < session_left old)

pub begun_puts : (r : ℕ) (entries : List Peer) (posts : List Post) (result : Result PublishingState Memory) → length posts < 2 ^ 63 → IfOk result (λ p. p ≡ publishing_begun r entries posts) → IfOk result (λ p. puts_left p ≤ most_puts)
begun_puts r entries posts (Ok p) few begun = subst (λ (q : PublishingState). puts_left q ≤ most_puts) (sym begun) (few_puts r entries posts few)
begun_puts r entries posts (Err lacks) few begun = tt

-- nothing is left once it is told
pub told_next : {J : Type 0} (old new : SessionState J) (told : Served) → new.stage ≡ stage.Told → LeavesNoMore old new (next.Done told)
told_next old new told is = subst (λ (n : ℕ). n ≤ session_left old) (sym (ap (left_at new.starts) is)) (at_least (session_left old))

refreshing_on : {J : Type 0} (at : Stage J) → is_refreshing at ≡ true → is_turning at ≡ false
refreshing_on (stage.Refreshing c r) is = refl
refreshing_on (stage.Turning c) is = cc is
refreshing_on (stage.Publishing told p) is = refl
refreshing_on (stage.Over told) is = refl
refreshing_on stage.Told is = refl

module _ {J : Type 0} (st : SessionState J) where
  abbrev With : Stage J → SessionState J
  With at = record st { stage = at }

  -- ---- what is wanted

  tells_next : (at between : Stage J) (new : SessionState J) (c : Call) (given : Refreshed) (told : Served) → between ≡ stage.Told → ConcludesAs (With between) new c given (next.Done told) → LeavesNoMore (With at) new (next.Done told)
  tells_next at between new c given told is h =
      ⊎_elim (λ missed. told_next (With at) new told (ap (λ (x : SessionState J). x.stage) missed.1 ∙ is)) (λ lacks. told_next (With at) new told (ap (λ (x : SessionState J). x.stage) lacks.1 ∙ is)) h.2

  pub concludes_next : (at between : Stage J) (new : SessionState J) (c : Call) (given : Refreshed) (wanted : Next) → is_refreshing at ≡ true → between ≡ stage.Told → ConcludesAs (With between) new c given wanted → LeavesNoMore (With at) new wanted
  concludes_next (stage.Refreshing d r) between new c given (next.Turn refresh) refreshing is h =
      subst (λ (x : SessionState J). session_left x ≤ session_left (With (stage.Refreshing d r))) (sym h.1) (turn_falls most_puts (most_refresh * (2 - st.starts)) (refresh_left r))
  concludes_next (stage.Refreshing d r) between new c given (next.Done told) refreshing is h = tells_next (stage.Refreshing d r) between new c given told is h
  concludes_next (stage.Refreshing d r) between new c given (next.Ask node question) refreshing is h = absurd h
  concludes_next (stage.Refreshing d r) between new c given (next.Settle acks) refreshing is h = absurd h
  concludes_next (stage.Turning d) between new c given wanted refreshing is h = cc refreshing
  concludes_next (stage.Publishing told p) between new c given wanted refreshing is h = cc refreshing
  concludes_next (stage.Over told) between new c given wanted refreshing is h = cc refreshing
  concludes_next stage.Told between new c given wanted refreshing is h = cc refreshing

  -- ---- it is over

  ends : (at now : Stage J) (told : Served) → 0 < left_at st.starts at → now ≡ stage.Over told → Falls (With at) (With now)
  ends at now told some is = subst (λ (x : Stage J). Falls (With at) (With x)) (sym is) (refl, some)

  some_refresh : (c : Call) (r : RefreshState J) → 0 < left_at st.starts (stage.Refreshing c r)
  some_refresh c r = some_asks most_puts (most_refresh * (2 - st.starts)) (refresh_left r)

  pub settles_next : (at mid now : Stage J) (wanted : Want (List Ack)) → PutWants at mid (Ok wanted) → IfSome (told_at mid) (λ told. now ≡ stage.Over told) → left_at st.starts now < left_at st.starts at
  settles_next (stage.Publishing told p) mid now wanted h e =
      let over : now ≡ stage.Over told = subst (λ (x : Stage J). IfSome (told_at x) (λ t. now ≡ stage.Over t)) h.1 e in (ends (stage.Publishing told p) now told (some_puts (puts_left p)) over).1
  settles_next (stage.Refreshing c r) mid now wanted h e = absurd h
  settles_next (stage.Turning c) mid now wanted h e = absurd h
  settles_next (stage.Over told) mid now wanted h e = absurd h
  settles_next stage.Told mid now wanted h e = absurd h

  -- ---- what is heard

  pub put_falls : (at now : Stage J) (given : Result Answer Memory) (r : Result (Unit {0}) Memory) → PutHeard at now given r → FallsLeft at now → Falls (With at) (With now)
  put_falls (stage.Publishing told p) now given r h falls = (ap (λ (x : Stage J). is_turning x) h.1, falls st.starts)
  put_falls (stage.Refreshing c q) now given r h falls = absurd h
  put_falls (stage.Turning c) now given r h falls = absurd h
  put_falls (stage.Over told) now given r h falls = absurd h
  put_falls stage.Told now given r h falls = absurd h

  pub put_ends : (at mid now : Stage J) (given : Result Answer Memory) (r : Result (Unit {0}) Memory) → PutHeard at mid given r → IfSome (told_at mid) (λ told. now ≡ stage.Over told) → Falls (With at) (With now)
  put_ends (stage.Publishing told p) mid now given r h e =
      ends (stage.Publishing told p) now told (some_puts (puts_left p)) (subst (λ (x : Stage J). IfSome (told_at x) (λ t. now ≡ stage.Over t)) h.1 e)
  put_ends (stage.Refreshing c q) mid now given r h e = absurd h
  put_ends (stage.Turning c) mid now given r h e = absurd h
  put_ends (stage.Over told) mid now given r h e = absurd h
  put_ends stage.Told mid now given r h e = absurd h

  module _ (judges : Judges J) (before after : Cache) (given : Result Answer Memory) (r : Result Bool Memory) where
    pub get_falls : (at now : Stage J) → RefreshHeard judges at now before after given r → FallsLeft at now → Falls (With at) (With now)
    get_falls (stage.Refreshing c q) now h falls = (ap (λ (x : Stage J). is_turning x) h.1, falls st.starts)
    get_falls (stage.Turning c) now h falls = absurd h
    get_falls (stage.Publishing told p) now h falls = absurd h
    get_falls (stage.Over told) now h falls = absurd h
    get_falls stage.Told now h falls = absurd h

    pub get_ends : (at between : Stage J) (new : SessionState J) → RefreshHeard judges at between before after given r → EndsRefresh judges (With between) new → Falls (With at) new
    get_ends (stage.Refreshing c q) between new h over =
        let e = over c h.0 h.1 in subst (λ (x : SessionState J). Falls (With (stage.Refreshing c q)) x) (sym e.3) (refl, some_refresh c q)
    get_ends (stage.Turning c) between new h over = absurd h
    get_ends (stage.Publishing told p) between new h over = absurd h
    get_ends (stage.Over told) between new h over = absurd h
    get_ends stage.Told between new h over = absurd h

    pub get_lacks : (at mid now : Stage J) → RefreshHeard judges at mid before after given r → IfSome (call_at mid) (λ call. now ≡ stage.Over (lacking call)) → Falls (With at) (With now)
    get_lacks (stage.Refreshing c q) mid now h e =
        ends (stage.Refreshing c q) now (lacking c) (some_refresh c q) (subst (λ (x : Stage J). IfSome (call_at x) (λ call. now ≡ stage.Over (lacking call))) h.1 e)
    get_lacks (stage.Turning c) mid now h e = absurd h
    get_lacks (stage.Publishing told p) mid now h e = absurd h
    get_lacks (stage.Over told) mid now h e = absurd h
    get_lacks stage.Told mid now h e = absurd h

  -- ---- what came of its turn

  module _ (at : Stage J) (turning : is_turning at ≡ true) where
    some_left : 0 < left_at st.starts at
    some_left = by at turning
      where
        by : (x : Stage J) → is_turning x ≡ true → 0 < left_at st.starts x
        by (stage.Refreshing c r) is = cc is
        by (stage.Turning c) is = some_turn most_puts (most_refresh * (2 - st.starts))
        by (stage.Publishing told p) is = cc is
        by (stage.Over told) is = cc is
        by stage.Told is = cc is

    -- memory runs out, or it doesn't begin again
    pub turn_ends : (new : SessionState J) (told : Served) → new.stage ≡ stage.Over told → Falls (With at) new
    turn_ends new told is = (ap (λ (x : Stage J). is_turning x) is, subst (λ (n : ℕ). n < left_at st.starts at) (sym (ap (left_at new.starts) is)) some_left)

    pub turn_lacks : (now : Stage J) → IfSome (call_at at) (λ call. now ≡ stage.Over (lacking call)) → Falls (With at) (With now)
    turn_lacks now = by at turning
      where
        by : (x : Stage J) → is_turning x ≡ true → IfSome (call_at x) (λ call. now ≡ stage.Over (lacking call)) → Falls (With x) (With now)
        by (stage.Refreshing c r) is over = cc is
        by (stage.Turning c) is over = ends (stage.Turning c) now (lacking c) (some_turn most_puts (most_refresh * (2 - st.starts))) over
        by (stage.Publishing told p) is over = cc is
        by (stage.Over told) is over = cc is
        by stage.Told is over = cc is

    module _ (c : Call) (call : call_at at ≡ Some c) where
      at_its_turn : (new : SessionState J) → Falls (With (stage.Turning c)) new → Falls (With at) new
      at_its_turn new h = subst (λ (x : Stage J). Falls (With x) new) (sym (at_turn at c turning call)) h

      -- it publishes
      pub answer_falls : (told : Served) (p : PublishingState) (now : Stage J) → puts_left p ≤ most_puts → now ≡ stage.Publishing told p → Falls (With at) (With now)
      answer_falls told p now few is =
          at_its_turn (With now) (subst (λ (x : Stage J). Falls (With (stage.Turning c)) (With x)) (sym is) (refl, puts_fall most_puts (most_refresh * (2 - st.starts)) (puts_left p) few))

      -- it begins again
      pub anew_is_less : (judges : Judges J) (between : Stage J) (given : Standing) (mid : SessionState J) (r : RefreshState J) (now : Stage J) → BeginsAgain judges (With between) mid given (Some r) → now ≡ stage.Refreshing c r
          → Falls (With at) (record mid { stage = now })
      anew_is_less judges between given mid r now h is =
          at_its_turn (record mid { stage = now })
          (subst (λ (x : Stage J). Falls (With (stage.Turning c)) (record mid { stage = x })) (sym is)
          (refl, subst (λ (n : ℕ). left_at {J = J} n (stage.Refreshing c r) < left_at {J = J} st.starts (stage.Turning c)) (sym (ap (λ (x : SessionState J). x.starts) h.0.1)) (anew_falls most_refresh most_puts (refresh_left r) st.starts h.0.0 h.1.left)))
