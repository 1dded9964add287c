-- Posts that are put one after the other: what is heard, and what begins.
use Rattle.std.proofs.Common.{◌≡◌, ◌⊎◌, ℕ, ◌*◌, ◌<◌, ◌≤◌, Bool, true, false, not, if◌then◌else◌, List, [], ◌∷◌, ◌++◌, length, filter, Option, Some, None, Result, IfOk, OnOk, Ok, Err, refl, sym, ap, ◌∙◌, subst, arith, inl, inr}
use Rattle.std.proofs.lemmas.List.Sums.{length-filter, count_by-le-length}
use Rattle.ivy_base.specs.declared.memory.Memory.{Memory}
use Rattle.dht_ids.specs.Asked.{told}
use Rattle.dht_ids.specs.declared.ask.Answer.{Answer}
use Rattle.dht_ids.specs.declared.ask.Ask.{Ask}
use Rattle.dht_ids.specs.declared.ask.Heard.{Heard}
use Rattle.dht_ids.specs.declared.ask.Want.{Want}
use Rattle.dht_ids.specs.declared.ask.Want.TheVariants as want
use Rattle.dht_ids.specs.declared.peer.Peer.{Peer}
use Rattle.dht_ids.specs.declared.post.Ack.{Ack}
use Rattle.dht_ids.specs.declared.post.Post.{Post}
use Rattle.dht_ids.specs.declared.post.PostKind.{PostKind}
use Rattle.dhash_model.specs.declared.miss.Miss.{Miss}
use Rattle.dhash_client.specs.Execution.{asks_left}
use Rattle.dhash_client.specs.Puts.{put_awaited}
use Rattle.ring_model.proofs.Lists.{some_same, none_some}
use Rattle.agent_model.specs.Agent.{is_head}
use Rattle.session_model.specs.Sessions.{Said, Stage, Publishing, IsPutOfPost, is_log, ack_of, after_put, acknowledged}
use Rattle.ivy_session.specs.Putting.{Putting, PuttingIsAfter, PuttingHasHeard, PuttingIsWanted, IsSamePutting, putting, post_of}
use Rattle.ivy_session.specs.Publishing.{PublishingState, Passes, IsSameWay, IsSameStage, GoesOn, PublishingIsAfter, PublishingIsWanted, PublishingHasHeard, PutIsBehind, PutAsks, PutIsOver, PutGoesOn, HasBegun, posts_in, stage_of, awaited_in, publishing_awaited, puts_left, most_asks, next_post, left_behind, held_behind, concluded}
use Rattle.ivy_session.specs.Publishing.Passes.{none as stays, over}
use Rattle.ivy_session.specs.Publishing.PutHears.{puts_on, puts}
use Rattle.ivy_session.proofs.Putting.{putting_begins}
use Rattle.ivy_session.proofs.Unasked.{nobody_asked}

same_post : (old new : Putting) → IsSamePutting old new → post_of new ≡ post_of old
same_post old new same = λ i. record { key = same.2.0.0 i; bytes = same.2.2 i; kind = same.0 i }

fewer_kept : (test : Post → Bool) (posts : List Post) → length (filter test posts) ≤ length posts
fewer_kept test posts = subst (λ (n : ℕ). n ≤ length posts) (sym (length-filter test posts)) (count_by-le-length test posts)

fewer_held : (kind : PostKind) (left : List Post) → length (held_behind kind left) ≤ length left
fewer_held kind left = by (is_log kind)
  where
    by : (b : Bool) → length (if b then filter (λ q. not (is_head q.kind)) left else left) ≤ length left
    by true = fewer_kept (λ q. not (is_head q.kind)) left
    by false = omega arith

module _ (r : ℕ) (entries : List Peer) (left : List Post) (acks : List Ack) where
  -- no put is on its way, or that one
  abbrev pub free : PublishingState
  free = record { replicas = r; entries = entries; put = None; left = left; acks = acks }

  abbrev pub on_way : Putting → PublishingState
  on_way p = record { replicas = r; entries = entries; put = Some p; left = left; acks = acks }

  -- ---- a put that is over

  abbrev past : Putting → Bool → PublishingState
  past p b = concluded p.kind p.ack b free

  past_stage : (said : Option Said) (p : Putting) (b : Bool) → p.ack ≡ ack_of (post_of p) → stage_of said (past p b) ≡ after_put said (post_of p) left acks b
  past_stage said p true named = ap (λ (a : Ack). Publishing said left (acks ++ a ∷ [])) named
  past_stage said p false named = refl

  past_way : (p : Putting) (b : Bool) → IsSameWay free (past p b)
  past_way p true = (refl, refl)
  past_way p false = (refl, refl)

  past_after : (p : Putting) (b : Bool) → PublishingIsAfter [] (past p b)
  past_after p true = refl
  past_after p false = refl

  past_awaited : (p : Putting) (b : Bool) → publishing_awaited (past p b) ≡ None
  past_awaited p true = refl
  past_awaited p false = refl

  past_fewer : (p : Putting) (b : Bool) → length (past p b).left ≤ length left
  past_fewer p true = omega arith
  past_fewer p false = fewer_held p.kind left

  past_less : (p : Putting) (b : Bool) → puts_left (past p b) ≤ most_asks * length left
  past_less p true = omega arith
  past_less p false = let fewer = fewer_held p.kind left in omega (arith, fewer)

  -- ---- hearing

  hears_on : (p heard : Putting) (given : Answer) → PuttingHasHeard p heard given → (now : PublishingState) → PutAsks heard free now → PublishingHasHeard (on_way p) now given
  hears_on p heard given h now a =
      subst (λ (s : PublishingState). PublishingHasHeard (on_way p) s given) (sym a.now_is) (
        (refl, refl),
        λ said trail node question awaited behind.
            puts_on (ap (λ (q : Post). Publishing said (q ∷ left) acks) (same_post heard a.new a.same ∙ same_post p heard h.0))
            (a.keeps r entries (trail ++ told node question given) (h.1 r entries trail node question awaited behind)) a.asks,
      )

  hears_over : (p heard : Putting) (given : Answer) → PuttingHasHeard p heard given → (now : PublishingState) → PutIsOver heard free now → PublishingHasHeard (on_way p) now given
  hears_over p heard given h now o =
      let b : Bool = acknowledged o.came in
      subst (λ (s : PublishingState). PublishingHasHeard (on_way p) s given) (sym o.now_is) (
        past_way heard b,
        λ said trail node question awaited behind.
            let after : PuttingIsAfter r entries (trail ++ told node question given) heard = h.1 r entries trail node question awaited behind in
            puts (post_of heard) left o.came (ap (λ (q : Post). Publishing said (q ∷ left) acks) (sym (same_post p heard h.0))) (o.whole r entries (trail ++ told node question given) after)
            (past_stage said heard b after.named) (past_after heard b) (past_awaited heard b),
      )

  hears : (p heard : Putting) (given : Answer) → PuttingHasHeard p heard given → (now : PublishingState) → PutGoesOn heard free now → PublishingHasHeard (on_way p) now given
  hears p heard given h now (inl a) = hears_on p heard given h now a
  hears p heard given h now (inr o) = hears_over p heard given h now o

  less_heard : (p heard : Putting) → asks_left heard.put.execution < asks_left p.put.execution → (now : PublishingState) → PutGoesOn heard free now → puts_left now < puts_left (on_way p)
  less_heard p heard less now (inl a) = subst (λ (s : PublishingState). puts_left s < puts_left (on_way p)) (sym a.now_is) (let fewer = a.left in omega (arith, fewer, less))
  less_heard p heard less now (inr o) =
      subst (λ (s : PublishingState). puts_left s < puts_left (on_way p)) (sym o.now_is) (let behind = past_less heard (acknowledged o.came) in omega (arith, behind, less))

  -- the put on its way hears
  pub state_hears : (old : PublishingState) (p heard : Putting) → on_way p ≡ old → (given : Answer) → PuttingHasHeard p heard given → (now : PublishingState) (result : Result (Unit {0}) Memory)
      → OnOk result (PutGoesOn heard free now) → IfOk result (λ _. PublishingHasHeard old now given)
  state_hears old p heard is given h now (Ok u) g = subst (λ (s : PublishingState). PublishingHasHeard s now given) is (hears p heard given h now g)
  state_hears old p heard is given h now (Err e) g = tt

  pub state_less : (old : PublishingState) (p heard : Putting) → on_way p ≡ old → asks_left heard.put.execution < asks_left p.put.execution → (now : PublishingState) (result : Result (Unit {0}) Memory)
      → OnOk result (PutGoesOn heard free now) → IfOk result (λ _. puts_left now < puts_left old)
  state_less old p heard is less now (Ok u) g = subst (λ (s : PublishingState). puts_left now < puts_left s) is (less_heard p heard less now g)
  state_less old p heard is less now (Err e) g = tt

  -- ---- beginning

  -- a step of the puts that begin
  abbrev HasStepped : PublishingState → PublishingState → Type 0
  HasStepped before now = HasBegun before now × (length now.left < length before.left)

  asks_first : (post : Post) (now : PublishingState) → PutAsks (putting post r entries) free now → HasStepped (record free { left = post ∷ left }) now
  asks_first post now a =
      let put : Putting = putting post r entries in
      let fewer = a.left in
      subst (HasStepped (record free { left = post ∷ left })) (sym a.now_is) (
        record {
          way = (refl, refl);
          stage = inl (
            λ said. ap (λ (q : Post). Publishing said (q ∷ left) acks) (same_post put a.new a.same),
            λ trail none. a.keeps r entries trail (subst (λ (t : List Heard). PuttingIsAfter r entries t put) (sym none) (putting_begins post r entries)),
          );
          left = omega (arith, fewer);
        },
        omega arith,
      )

  over_first : (post : Post) (now : PublishingState) → PutIsOver (putting post r entries) free now → HasStepped (record free { left = post ∷ left }) now
  over_first post now o =
      let put : Putting = putting post r entries in
      let b : Bool = acknowledged o.came in
      let whole : IsPutOfPost r entries post [] o.came = o.whole r entries [] (putting_begins post r entries) in
      let nobody : entries ≡ [] = nobody_asked r entries post o.came whole in
      let fewer = past_fewer put b in
      let less = past_less put b in
      subst (HasStepped (record free { left = post ∷ left })) (sym o.now_is) (
        record {
          way = past_way put b;
          stage = inr (
            nobody,
            λ trail none. none,
            past_after put b,
            λ said. over o.came (subst (λ (e : List Peer). IsPutOfPost r e post [] o.came) nobody whole) (subst (λ (stage : Stage). Passes r stage (stage_of said (past put b))) (past_stage said put b refl) stays),
          );
          left = omega (arith, less);
        },
        omega (arith, fewer),
      )

  steps : (post : Post) (now : PublishingState) → PutGoesOn (putting post r entries) free now → HasStepped (record free { left = post ∷ left }) now
  steps post now (inl a) = asks_first post now a
  steps post now (inr o) = over_first post now o

passes_on : {r : ℕ} {from mid end : Stage} → Passes r from mid → Passes r mid end → Passes r from end
passes_on stays more = more
passes_on (over came whole later) more = over came whole (passes_on later more)

pub has_begun : (s : PublishingState) → HasBegun s s
has_begun s = record { way = (refl, refl); stage = inl (λ said. refl, λ trail h. h); left = omega arith }

module _ (old now after : PublishingState) (way : IsSameWay old now) where
  stages_on : IsSameStage old now ⊎ GoesOn old now → IsSameStage now after ⊎ GoesOn now after → IsSameStage old after ⊎ GoesOn old after
  stages_on (inl same) (inl again) = inl (λ said. again.0 said ∙ same.0 said, λ trail h. again.1 trail (same.1 trail h))
  stages_on (inl same) (inr goes) = inr (
    sym way.1 ∙ goes.0,
    λ trail h. goes.1 trail (same.1 trail h),
    goes.2,
    λ said. subst (λ (r : ℕ). Passes r (stage_of said old) (stage_of said after)) way.0 (subst (λ (stage : Stage). Passes now.replicas stage (stage_of said after)) (same.0 said) (goes.3 said)),
  )
  stages_on (inr goes) (inl same) =
      inr (goes.0, goes.1, same.1 [] goes.2, λ said. subst (λ (stage : Stage). Passes old.replicas (stage_of said old) stage) (sym (same.0 said)) (goes.3 said))
  stages_on (inr goes) (inr more) =
      inr (goes.0, goes.1, more.2, λ said. passes_on (goes.3 said) (subst (λ (r : ℕ). Passes r (stage_of said now) (stage_of said after)) way.0 (more.3 said)))

begun_on : (old now after : PublishingState) → HasBegun old now → HasBegun now after → HasBegun old after
begun_on old now after first second =
    let before = first.left in
    let later = second.left in
    record { way = (second.way.0 ∙ first.way.0, second.way.1 ∙ first.way.1); stage = stages_on old now after first.way first.stage second.stage; left = omega (arith, before, later) }

-- a put of the first post that is left begins
pub begins_next : (old now : PublishingState) → HasBegun old now → (post : Post) → next_post now.put now.left ≡ Some post → (mid : PublishingState) → mid ≡ record now { left = left_behind now.put now.left }
    → (put : Putting) → put ≡ putting post mid.replicas mid.entries → (after : PublishingState) → PutGoesOn put mid after → HasBegun old after × (length after.left < length now.left)
begins_next old now on post is mid mid_is put put_is after g =
    let goes : PutGoesOn (putting post now.replicas now.entries) (record now { left = left_behind now.put now.left }) after =
    subst (λ (p : Putting). PutGoesOn p (record now { left = left_behind now.put now.left }) after) (put_is ∙ ap (λ (m : PublishingState). putting post m.replicas m.entries) mid_is)
    (subst (λ (m : PublishingState). PutGoesOn put m after) mid_is g) in
    let step : HasBegun now after × (length after.left < length now.left) = by now.put now.left is goes in (begun_on old now after on step.0, step.1)
  where
    by : (before : Option Putting) (left : List Post) → next_post before left ≡ Some post → PutGoesOn (putting post now.replicas now.entries) (record now { put = before; left = left_behind before left }) after
        → HasBegun (record now { put = before; left = left }) after × (length after.left < length left)
    by (Some q) left e g = absurd (none_some post e)
    by None [] e g = absurd (none_some post e)
    by None (q ∷ rest) e g =
        steps now.replicas now.entries rest now.acks q after
        (subst (λ (p : Post). PutGoesOn (putting p now.replicas now.entries) (record now { put = None; left = rest }) after) (sym (some_same q post e)) g)

-- none begins
pub none_next : (old now : PublishingState) → HasBegun old now → next_post now.put now.left ≡ None → (after : PublishingState) → after ≡ record now { left = left_behind now.put now.left } → HasBegun old after
none_next old now on none after after_is = subst (HasBegun old) (ap (λ (left : List Post). record now { left = left }) (sym (by now.put now.left none)) ∙ sym after_is) on
  where
    by : (put : Option Putting) (left : List Post) → next_post put left ≡ None → left_behind put left ≡ left
    by (Some q) left e = refl
    by None [] e = refl
    by None (p ∷ left) e = absurd (none_some p (sym e))

-- ---- a put goes on

pub goes_asking : (old new : Putting) (wanted : Want (Result Bool Miss)) (node : Peer) (question : Ask) → PuttingIsWanted old new wanted → wanted ≡ want.Ask node question → asks_left new.put.execution ≤ asks_left old.put.execution
    → (before : PublishingState) (put : Putting) → put ≡ new → (now : PublishingState) → now ≡ record before { put = Some put } → PutGoesOn old before now
goes_asking old new wanted node question wants is left before put put_is now now_is =
    let w : PuttingIsWanted old new (want.Ask node question) = subst (PuttingIsWanted old new) is wants in
    inl (record {
      new = new;
      now_is = now_is ∙ ap (λ (p : Putting). record before { put = Some p }) put_is;
      same = w.0;
      asks = λ none. none_some {X = Peer × Ask} (node, question) (sym none ∙ w.1);
      keeps = w.2;
      left = left;
    })

pub goes_over : (old new : Putting) (wanted : Want (Result Bool Miss)) (came : Result Bool Miss) → PuttingIsWanted old new wanted → wanted ≡ want.Done came → (before : PublishingState) (kind : PostKind) (ack : Ack) → kind ≡ old.kind → ack ≡ old.ack
    → (now : PublishingState) (result : Result (Unit {0}) Memory) → OnOk result (now ≡ concluded kind ack (acknowledged came) before) → OnOk result (PutGoesOn old before now)
goes_over old new wanted came wants is before kind ack kind_is ack_is now (Ok u) now_is =
    inr (record {
      came = came;
      now_is = now_is ∙ (λ i. concluded (kind_is i) (ack_is i) (acknowledged came) before);
      whole = subst (PuttingIsWanted old new) is wants;
    })
goes_over old new wanted came wants is before kind ack kind_is ack_is now (Err e) now_is = tt

-- ---- what is wanted

pub asks_next : (old now : PublishingState) → HasBegun old now → (p : Putting) → now.put ≡ Some p → (node : Peer) (question : Ask) → put_awaited p.put ≡ Some (node, question) → PublishingIsWanted old now (want.Ask node question)
asks_next old now on p is node question awaited =
    (on.way, ap awaited_in is ∙ awaited, (post_of p, now.left, λ said. ap (λ (put : Option Putting). Publishing said (posts_in put now.left) now.acks) is), on.stage)

none_left : (s : PublishingState) → s.put ≡ None → next_post s.put s.left ≡ None → s.left ≡ []
none_left s none no_next = by s.left (subst (λ (put : Option Putting). next_post put s.left ≡ None) none no_next)
  where
    by : (left : List Post) → next_post None left ≡ None → left ≡ []
    by [] e = refl
    by (p ∷ left) e = absurd (none_some p (sym e))

-- nothing more is wanted
pub ends_at : (old now : PublishingState) → HasBegun old now → now.put ≡ None → next_post now.put now.left ≡ None → (acks : List Ack) → acks ≡ now.acks → (after : PublishingState) → PublishingIsWanted old after (want.Done acks)
ends_at old now on none no_next acks acks_are after = λ said trail h. by said trail h on.stage
  where
    stage_is : (said : Option Said) → stage_of said now ≡ Publishing said [] acks
    stage_is said =
        ap (λ (put : Option Putting). Publishing said (posts_in put now.left) now.acks) none ∙ ap (λ (left : List Post). Publishing said left now.acks) (none_left now none no_next)
        ∙ ap (λ (a : List Ack). Publishing said [] a) (sym acks_are)

    by : (said : Option Said) (trail : List Heard) → PublishingIsAfter trail old → IsSameStage old now ⊎ GoesOn old now
        → (trail ≡ []) × ((stage_of said old ≡ Publishing said [] acks) ⊎ ((old.entries ≡ []) × Passes old.replicas (stage_of said old) (Publishing said [] acks)))
    by said trail h (inl same) = (subst (PutIsBehind now.replicas now.entries trail) none (same.1 trail h), inl (sym (same.0 said) ∙ stage_is said))
    by said trail h (inr goes) = (goes.1 trail h, inr (goes.0, subst (λ (stage : Stage). Passes old.replicas (stage_of said old) stage) (stage_is said) (goes.3 said)))
