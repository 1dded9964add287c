-- The newest head of each log: a put of it was acknowledged, or an open session still has it to put. Turns, settling and asks leave it so.
use Rattle.std.proofs.Common.{◌≡◌, ◌⊎◌, inl, inr, ℕ, ◌+◌, ◌≤◌, Bool, true, not, List, [], ◌∷◌, ◌++◌, length, map, filter, fold, Option, Some, None, refl, sym, ap, ◌∙◌, subst, arith, le_refl, Contains}
use Rattle.std.specs.Prelude.{IfSome, IsTrue}
use Rattle.std.specs.List.{AllByRecursion}
use Rattle.std.proofs.lemmas.List.{map-append}
use Rattle.std.proofs.lemmas.List.Elements.{Contains-append_right}
use Rattle.std.proofs.lemmas.List.Sums.{fold-append}
use Rattle.ivy_base.specs.declared.operation.Moment.{Moment}
use Rattle.ivy_base.specs.Naming.{head_key_of}
use Rattle.dhash_model.specs.Signed.{hss_judged}
use Rattle.log_model.specs.Rank.{full_vector, own_entry}
use Rattle.log_model.specs.Record.{Record}
use Rattle.log_model.specs.Spelling.{HasSpelling}
use Rattle.log_model.specs.Vector.{Vector, join, seq_of}
use Rattle.log_model.specs.View.{View, IsView, is_named}
use Rattle.log_model.proofs.Later.{name_is_key}
use Rattle.log_model.proofs.Lists.{here, in_filter, in_nothing}
use Rattle.ring_model.proofs.Lists.{all_weaker}
use Rattle.log_model.specs.ViewKeys.{HasKeys}
use Rattle.dht_ids.specs.declared.judge.Judged.{Judged}
use Rattle.dht_ids.specs.declared.post.Post.{Post}
use Rattle.turn_model.specs.Basis.{Holding, nothing_held}
use Rattle.turn_model.specs.Turn.{Asked}
use Rattle.agent_model.specs.Agent.{failed, head_post, is_head, joined, kept_of, record_post}
use Rattle.agent_model.specs.Others.{is_block, settled}
use Rattle.agent_model.specs.Standing.{Refresh}
use Rattle.agent_model.specs.Turning.{AreNext, Becomes, MayTake, MayWrite, TurnEnd, Turns, taking, with_held, written_by}
use Rattle.agent_model.specs.Turning.Becomes.{loses, reads, saves}
use Rattle.agent_model.specs.Turning.Turns.{answers, behind, below}
use Rattle.session_model.specs.Executions.{IsRefusal, Settles}
use Rattle.session_model.specs.Executions.Settles.{settles as settles_all}
use Rattle.session_model.specs.Executions.TakesTurn.{answers as turn_answers, begins_again, gives_up}
use Rattle.session_model.specs.Sessions.{Session, in_publishing_order, is_log}
use Rattle.world_model.specs.Agents.{HssAgent, IsHssKept, HssKept, TakesHssTurn, hss_signing, own_hss_key, own_reach}
use Rattle.world_model.specs.World.{NamedSession}
use Rattle.calm_laws.proofs.CalmStates.{posts_at}
use Rattle.agent_laws.proofs.Floors.{IsSpelledIn, joined_no_more, records_no_more, records_spelled}
use Rattle.calm_laws.proofs.FitPosts.{last_good, seal_judged}

-- ---- what is put, or to be put

-- a put of the post was acknowledged; or it is among these posts, or among those of one of the sessions
abbrev pub IsCovered : List Post → List NamedSession → List Post → Post → Type 0
IsCovered acked ss posts x = Contains acked x ⊎ (Contains posts x ⊎ ((s : NamedSession) × Contains ss s × Contains (posts_at s.session.stage) x))

-- so is a head of the agent's log that goes as far as its floor
abbrev pub HasNewest : List Post → List NamedSession → List Post → HssAgent → Type 0
HasNewest acked ss posts a = (x : Post) × (j : Judged) × IsCovered acked ss posts x × (is_head x.kind ≡ true) × (x.key ≡ head_key_of (own_hss_key a)) × (hss_judged x.key x.bytes ≡ Some j) × (own_reach a ≤ j.seq)

pub newest_weaker : (acked more : List Post) (ss tt_ss : List NamedSession) (posts others : List Post) (a b : HssAgent) → ((x : Post) → IsCovered acked ss posts x → IsCovered more tt_ss others x) → own_hss_key b ≡ own_hss_key a → own_reach b ≤ own_reach a
    → HasNewest acked ss posts a → HasNewest more tt_ss others b
newest_weaker acked more ss others_ss posts others a b weaker same less h = (h.0, h.1, weaker h.0 h.2, h.3, h.4 ∙ ap head_key_of (sym same), h.5, (let far = h.6 in omega (arith, less, far)))

-- ---- turns

next_length : (n : ℕ) (before : List Record) (last : Record) → AreNext n (before ++ last ∷ []) → last.seq ≡ n + length (before ++ last ∷ [])
next_length n [] last h = let at = h.0 in omega (arith, at)
next_length n (b ∷ before) last h = let rest = next_length (n + 1) before last h.1 in omega (arith, rest)

next_few : (n : ℕ) (rs : List Record) → AreNext n rs → AllByRecursion (λ r. r.seq ≤ n + length rs) rs
next_few n [] h = tt
next_few n (r ∷ rs) h = ((let at = h.0 in omega (arith, at)), all_weaker (λ (x : Record). x.seq ≤ n + 1 + length rs) (λ (x : Record). x.seq ≤ n + length (r ∷ rs)) rs (λ x le. omega (arith, le)) (next_few (n + 1) rs h.1))

joined_with : (h : Holding) (written : List Record) → joined (with_held h written) ≡ fold join (joined h) (map full_vector written)
joined_with h written = ap (λ (vs : List Vector). fold join h.basis.front vs) (map-append full_vector h.held written) ∙ fold-append join h.basis.front (map full_vector h.held) (map full_vector written)

module _ (view : View) (a : HssAgent) (in_view : a.view ≡ Some view) (whole : IsHssKept (kept_of a)) (h : Holding) (take : MayTake hss_signing view a h) where
  its_view : IsView view × HasKeys view × Contains view.members (own_hss_key a) × AllByRecursion (λ e. IsTrue (is_named view e.0)) a.floor
  its_view = subst (λ (o : Option View). IfSome o (λ v. IsView v × HasKeys v × Contains v.members (own_hss_key a) × AllByRecursion (λ e. IsTrue (is_named v e.0)) a.floor)) in_view whole.view

  -- what is taken has no more of the own log
  taken_less : seq_of (join a.floor (joined h)) (head_key_of (own_hss_key a)) ≤ own_reach a
  taken_less = joined_no_more (head_key_of (own_hss_key a)) a.floor (joined h) take.spelled.in_order (own_reach a) (omega arith) take.own_log

  written_less : (before : List Record) (last : Record) → MayWrite hss_signing view a before last → seq_of (join a.floor (joined (with_held h (before ++ last ∷ [])))) (head_key_of (own_hss_key a)) ≤ last.seq
  written_less before last may = joined_no_more (head_key_of (own_hss_key a)) a.floor (joined (with_held h (before ++ last ∷ []))) wide.spelled.in_order last.seq (omega (arith, at))
      (subst (λ (v : Vector). seq_of v (head_key_of (own_hss_key a)) ≤ last.seq) (sym (joined_with h (before ++ last ∷ []))) held)
    where
      at : last.seq ≡ own_reach a + length (before ++ last ∷ [])
      at = next_length (own_reach a) before last may.next

      wide : IsSpelledIn view (joined (with_held h (before ++ last ∷ [])))
      wide = subst (IsSpelledIn view) (sym (joined_with h (before ++ last ∷ []))) (records_spelled view its_view.0 (own_hss_key a) its_view.2 (joined h) (before ++ last ∷ []) (record { spelled = take.spelled; named = take.named }) may.good)

      held : seq_of (fold join (joined h) (map full_vector (before ++ last ∷ []))) (head_key_of (own_hss_key a)) ≤ last.seq
      held = records_no_more view its_view.0 (own_hss_key a) its_view.2 last.seq (joined h) (before ++ last ∷ []) (let least = take.own_log in omega (arith, least, at)) may.good
          (all_weaker (λ (r : Record). r.seq ≤ own_reach a + length (before ++ last ∷ [])) (λ (r : Record). r.seq ≤ last.seq) (before ++ last ∷ []) (λ r le. omega (arith, le, at)) (next_few (own_reach a) (before ++ last ∷ []) may.next))

-- a head among the posts is published
pub head_published : (posts : List Post) (x : Post) → Contains posts x → is_head x.kind ≡ true → Contains (in_publishing_order posts) x
head_published posts x c is =
    Contains-append_right (filter (λ (p : Post). is_log p.kind) posts ++ filter (λ (p : Post). is_block p.kind) posts) (filter (λ (p : Post). is_head p.kind) posts) x (in_filter (λ (p : Post). is_head p.kind) posts x c is)

module _ (acked : List Post) (ss : List NamedSession) where
  becomes_newest : (view : View) (a : HssAgent) (h : Holding) (fails : Bool) (written : List Record) (after : HssAgent) (saving : Option HssKept) → a.view ≡ Some view → IsHssKept (kept_of a) → MayTake hss_signing view a h → HasNewest acked ss [] a
      → Becomes hss_signing view a h fails written after saving → HasNewest acked ss (in_publishing_order after.pending) after
  becomes_newest view a h fails _ _ _ in_view whole take new reads = newest_weaker acked acked ss ss [] (in_publishing_order a.pending) a (taking hss_signing a h) none_left refl (taken_less view a in_view whole h take) new
    where
      none_left : (x : Post) → IsCovered acked ss [] x → IsCovered acked ss (in_publishing_order a.pending) x
      none_left x (inl c) = inl c
      none_left x (inr (inl c)) = absurd (in_nothing x c)
      none_left x (inr (inr s)) = inr (inr s)
  becomes_newest view a h fails _ _ _ in_view whole take new (loses before last may failing) = newest_weaker acked acked ss ss [] (in_publishing_order a.pending) a (failed (taking hss_signing a h)) none_left refl (taken_less view a in_view whole h take) new
    where
      none_left : (x : Post) → IsCovered acked ss [] x → IsCovered acked ss (in_publishing_order a.pending) x
      none_left x (inl c) = inl c
      none_left x (inr (inl c)) = absurd (in_nothing x c)
      none_left x (inr (inr s)) = inr (inr s)
  becomes_newest view a h fails _ _ _ in_view whole take new (saves before last may succeeds) = (
    head,
    record { seq = last.seq; name = last.name },
    inr (inl (head_published (written_by hss_signing a h before last).pending head (Contains-append_right (filter (λ (p : Post). not (is_head p.kind)) a.pending ++ map record_post (before ++ last ∷ [])) (head ∷ []) head (here head [])) refl)),
    refl,
    refl,
    seal_judged a.signer whole.signer last spelled.some spelled.few (name_is_key last spelled),
    written_less view a in_view whole h take before last may,
  )
    where
      head : Post
      head = head_post hss_signing a.signer (own_entry last).1

      spelled : HasSpelling last
      spelled = (last_good view a before last may).spelled

  turn_newest : (given : Refresh) (a : HssAgent) (view : View) (fails : Bool) (asked : Asked) (now : Moment) (end : TurnEnd) (after : HssAgent) (saving : Option HssKept) → a.view ≡ Some view → IsHssKept (kept_of a) → HasNewest acked ss [] a
      → Turns hss_signing given (record { agent = a; view = view; now = now; fails = fails }) asked end after saving → HasNewest acked ss (in_publishing_order after.pending) after
  turn_newest given a view fails asked now _ _ _ in_view whole new (behind late) = newest_weaker acked acked ss ss [] (in_publishing_order a.pending) a a (λ x c. covers x c) refl (le_refl (own_reach a)) new
    where
      covers : (x : Post) → IsCovered acked ss [] x → IsCovered acked ss (in_publishing_order a.pending) x
      covers x (inl c) = inl c
      covers x (inr (inl c)) = absurd (in_nothing x c)
      covers x (inr (inr s)) = inr (inr s)
  turn_newest given a view fails asked now _ _ _ in_view whole new (below timely under) = newest_weaker acked acked ss ss [] (in_publishing_order a.pending) a (record a { holding = nothing_held; to_load = None }) (λ x c. covers x c) refl (le_refl (own_reach a)) new
    where
      covers : (x : Post) → IsCovered acked ss [] x → IsCovered acked ss (in_publishing_order a.pending) x
      covers x (inl c) = inl c
      covers x (inr (inl c)) = absurd (in_nothing x c)
      covers x (inr (inr s)) = inr (inr s)
  turn_newest given a view fails asked now _ _ _ in_view whole new (answers h written reply after saving timely above same take becomes by_definition) = becomes_newest view a h fails written after saving in_view whole take new becomes

  refused_newest : (given : Refresh) (a : HssAgent) (view : View) (fails : Bool) (asked : Asked) (now : Moment) (end : TurnEnd) (after : HssAgent) (saving : Option HssKept) → HasNewest acked ss [] a → IsRefusal end
      → Turns hss_signing given (record { agent = a; view = view; now = now; fails = fails }) asked end after saving → HasNewest acked ss [] after
  refused_newest given a view fails asked now _ _ _ new refusal (behind late) = new
  refused_newest given a view fails asked now _ _ _ new refusal (below timely under) = newest_weaker acked acked ss ss [] [] a (record a { holding = nothing_held; to_load = None }) (λ x c. c) refl (le_refl (own_reach a)) new
  refused_newest given a view fails asked now _ _ _ new refusal (answers h written reply after saving timely above same take becomes by_definition) = absurd refusal

  -- after a turn of a session that refreshed, by what it then has to put
  pub takes_newest : (now : Moment) (a : HssAgent) (view : View) (fails : Bool) (s : Session) (end : TurnEnd) (after : HssAgent) (saving : Option HssKept) (t : Session) → a.view ≡ Some view → IsHssKept (kept_of a) → HasNewest acked ss (posts_at s.stage) a
      → TakesHssTurn (record { agent = a; view = view; now = now; fails = fails }) s end after saving t → HasNewest acked ss (posts_at t.stage) after
  takes_newest now a view fails s _ _ _ _ in_view whole new (turn_answers notes given xid asked reply applied after saving done asks_it turns) =
      turn_newest given a view fails asked now _ after saving in_view whole (subst (λ st. HasNewest acked ss (posts_at st) a) done.0 new) turns
  takes_newest now a view fails s _ _ _ _ in_view whole new (begins_again notes given xid asked end after saving done asks_it turns refusal few) =
      subst (λ st. HasNewest acked ss (posts_at st) after) (sym done.0) (refused_newest given a view fails asked now end after saving (subst (λ st. HasNewest acked ss (posts_at st) a) done.0 new) refusal turns)
  takes_newest now a view fails s _ _ _ _ in_view whole new (gives_up notes given xid asked end after saving done asks_it turns refusal many) =
      refused_newest given a view fails asked now end after saving (subst (λ st. HasNewest acked ss (posts_at st) a) done.0 new) refusal turns

  pub settles_newest : (a : HssAgent) (s : Session) (after : HssAgent) (t : Session) → HasNewest acked ss (posts_at s.stage) a → Settles a s after t → HasNewest acked ss (posts_at t.stage) after
  settles_newest a s _ _ new (settles_all said acks at) = newest_weaker acked acked ss ss [] [] a (settled a acks) (λ x c. c) refl (le_refl (own_reach a)) (subst (λ st. HasNewest acked ss (posts_at st) a) at new)
