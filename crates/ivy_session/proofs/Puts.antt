-- A session that publishes: what it wants, and what it hears, as steps of the session of the definitions.
use Rattle.std.proofs.Common.{◌≡◌, ◌≢◌, ⊎_elim, inl, inr, ℕ, Bool, true, false, List, [], ◌∷◌, ◌++◌, Option, Some, None, Result, Ok, refl, sym, ap, ◌∙◌, subst}
use Rattle.ivy_base.specs.declared.key.Key.{Key}
use Rattle.ivy_base.specs.declared.memory.Memory.{Memory}
use Rattle.dht_ids.specs.Asked.{told as told_of}
use Rattle.dht_ids.specs.declared.ask.Answer.{Answer}
use Rattle.dht_ids.specs.declared.ask.Ask.{Ask}
use Rattle.dht_ids.specs.declared.ask.Heard.{Heard}
use Rattle.dht_ids.specs.declared.ask.Want.TheVariants as want
use Rattle.dht_ids.specs.declared.judge.Judged.{Judged}
use Rattle.dht_ids.specs.declared.peer.Peer.{Peer}
use Rattle.dht_ids.specs.declared.post.Ack.{Ack}
use Rattle.dht_ids.specs.declared.post.Post.{Post}
use Rattle.dhash_client.specs.GetHead.{Judges}
use Rattle.session_model.specs.Asking.{AsksNext}
use Rattle.session_model.specs.Sessions.{Cache, IsPut, IsPutOfPost, Publishing, Refreshing, Said, Session, Stage, Takes, TakesAll, acknowledged, after_put, put_question}
use Rattle.session_model.specs.Sessions.Hears.{puts_on, puts}
use Rattle.session_model.specs.Sessions.Takes.{posted, cached}
use Rattle.session_model.specs.Executions.{Fails}
use Rattle.ivy_session.specs.Publishing.{Passes, PublishingIsAfter, PublishingIsWanted, PublishingState, PutHears as Hearing, posts_of, publishing_awaited, stage_of}
use Rattle.ivy_session.specs.Publishing.PutHears.{puts_on as put_goes_on, puts as put_is_over}
use Rattle.session_laws.specs.Laws.{IsWholePutOfPost}
use Rattle.session_laws.proofs.AskedPuts.{post_next_is_not_whole}
use Rattle.ivy_session.specs.declared.served.Served.{Served}
use Rattle.ivy_session.specs.declared.session.Next.TheVariants as next
use Rattle.ivy_session.specs.declared.session.Stage.TheVariants as stage
use Rattle.ivy_session.specs.States.{IsSession, SessionState}
use Rattle.ivy_session.specs.Stepping.{HeardIs, IsHeard, IsNext, NextIs}
use Rattle.ivy_session.specs.Stepping.AsksOf.{puts as asks_of_put}
use Rattle.ivy_session.specs.Stepping.NextIs.{asks as next_asks, settles, is_cut as next_is_cut}
use Rattle.ivy_session.specs.Stepping.HeardIs.{hears as heard_so, is_cut as heard_is_cut}
use Rattle.ivy_session.specs.Ending.{PutHears}
use Rattle.ivy_session.proofs.AskSteps.{FirstIsNext, first_is_next, next_is_told, put_is_for_data}
use Rattle.ivy_session.proofs.Hears.{there_is}
use Rattle.ivy_session.proofs.Nobody.{put_asks_somebody}

-- a session that publishes doesn't refresh
publishes_or_refreshes : (said : Option Said) (posts : List Post) (acks : List Ack) → Publishing said posts acks ≡ Refreshing → ⊥
publishes_or_refreshes said posts acks e = cc e

same_posts : (said : Option Said) (ps qs : List Post) (acks more : List Ack) → Publishing said ps acks ≡ Publishing said qs more → ps ≡ qs
same_posts said ps qs acks more e = cc e

same_first : (p q : Post) (ps qs : List Post) → p ∷ ps ≡ q ∷ qs → p ≡ q
same_first p q ps qs e = cc e

none_taken : (judged : Key → List ℕ → Option Judged) (r : ℕ) {s t : Session} {before after : Cache} (said : Option Said) (posts : List Post) (acks : List Ack) → s.stage ≡ Publishing said posts acks → Takes judged r s before t after → ⊥
none_taken judged r said posts acks is (posted key bytes wants none found) = publishes_or_refreshes said posts acks (sym is ∙ wants.0)
none_taken judged r said posts acks is (cached key bytes wants none unpended found) = publishes_or_refreshes said posts acks (sym is ∙ wants.0)

after_or_refreshes : (said : Option Said) (p : Post) (posts : List Post) (acks : List Ack) (b : Bool) → after_put said p posts acks b ≡ Refreshing → ⊥
after_or_refreshes said p posts acks true e = cc e
after_or_refreshes said p posts acks false e = cc e

module _ {J : Type 0} (judges : Judges J) (st : SessionState J) (told : Served) where
  abbrev At : PublishingState → SessionState J
  At p = record st { stage = stage.Publishing told p }

  -- the next ask of the put of the first post, in the words of the session
  next_of : (s : Session) (p : PublishingState) → p.replicas ≡ st.replicas → p.entries ≡ s.entries → (first : Post) (trail : List Heard) (node : Peer) (question : Ask)
      → AsksNext first.key (put_question first) (IsWholePutOfPost p.replicas p.entries first) trail node question → AsksNext first.key (put_question first) (IsPut (judges st.judge) st.replicas s first) trail node question
  next_of s p r e first trail node question n =
      subst (λ (es : List Peer). AsksNext first.key (put_question first) (IsWholePutOfPost st.replicas es first) trail node question) e
      (subst (λ (m : ℕ). AsksNext first.key (put_question first) (IsWholePutOfPost m p.entries first) trail node question) r n)

  -- ---- what is wanted

  module _ (p q : PublishingState) (cache : Cache) where
    pub puts_next : (node : Peer) (question : Ask) → PublishingIsWanted p q (want.Ask node question) → IsNext judges (At p) (At q) cache cache (next.Ask node question)
    puts_next node question w = ((refl, refl, refl), λ s is. by s is)
      where
        by : (s : Session) → IsSession judges s (At p) → NextIs judges (At p) (At q) s cache cache (next.Ask node question)
        by s is =
            ⊎_elim (λ same.
            let trail = same.1 s.current is.at.asks in
            let f = first_is_next s.current q node question trail w.1 in
            let staged : s.stage ≡ stage_of is.at.said q = is.at.stage ∙ sym (same.0 is.at.said) in
            let replicas : q.replicas ≡ st.replicas = w.0.0 ∙ is.at.replicas in
            let entries : q.entries ≡ s.entries = w.0.1 ∙ is.at.entries ∙ is.entries in
            next_asks s node question (TakesAll.none (λ t after takes. none_taken (judges st.judge) st.replicas is.at.said (posts_of q) q.acks staged takes))
            (record {
              entries = is.entries;
              starts = is.starts;
              at = record { said = is.at.said; is_told = is.at.is_told; stage = staged; replicas = replicas; entries = w.0.1 ∙ is.at.entries; asks = trail; noted = is.at.noted };
            }) w.1
            (asks_of_put is.at.said f.first f.posts q.acks (staged ∙ ap (λ (l : List Post). Publishing is.at.said l q.acks) f.posts_are) (next_of s q replicas entries f.first s.current node question f.next)))
            (λ none. let f = first_is_next [] q node question none.2 w.1 in absurd (put_asks_somebody q.replicas q.entries f.first [] node question f.next (w.0.1 ∙ none.0)))
            w.3

    pub settles_next : (acks : List Ack) → PublishingIsWanted p q (want.Done acks) → IsNext judges (At p) (record st { stage = stage.Over told }) cache cache (next.Settle acks)
    settles_next acks w = (
      (refl, refl, refl),
      λ s is.
          let n = w is.at.said s.current is.at.asks in
          settles is.at.said acks
          (⊎_elim (λ e. inl (is.at.stage ∙ e))
          (λ none. inr (sym is.entries ∙ sym is.at.entries ∙ none.0, subst (λ (r : ℕ). Passes r s.stage (Publishing is.at.said [] acks)) is.at.replicas (subst (λ (g : Stage). Passes p.replicas g (Publishing is.at.said [] acks)) (sym is.at.stage) none.1))) n.1)
          n.0 refl
          (record { entries = is.entries; starts = is.starts; at = record { said = is.at.said; is_told = is.at.is_told; stage = refl; noted = is.at.noted } }),
    )

    pub cut_next : IsNext judges (At p) (record st { is_cut = true }) cache cache (next.Done told)
    cut_next = (
      (refl, refl, refl),
      λ s is. subst (λ (x : Served). NextIs judges (At p) (record st { is_cut = true }) s cache cache (next.Done x)) (sym is.at.is_told) (next_is_cut is.at.said (posts_of p) p.acks is.at.stage refl is.at.noted refl),
    )

  -- ---- what is heard

  module _ (p q : PublishingState) (cache : Cache) (given : Result Answer Memory) where
    pub puts_cut : IsHeard judges (At p) (record st { is_cut = true; stage = stage.Over told }) cache cache given
    puts_cut = (
      (refl, refl, refl),
      λ s node question waits is. heard_is_cut is.at.said (posts_of p) p.acks is.at.stage refl refl
          (record { entries = is.entries; starts = is.starts; at = record { said = is.at.said; is_told = is.at.is_told; stage = refl; noted = is.at.noted } }),
    )

    module _ (answer : Answer) (is_answer : given ≡ Ok answer) (same : (q.replicas ≡ p.replicas) × (q.entries ≡ p.entries)) (s : Session) (node : Peer) (question : Ask) (waits : publishing_awaited p ≡ Some (node, question)) (is : IsSession judges s (At p)) where
      abbrev asks : List Heard
      asks = s.current ++ told_of node question answer

      first : FirstIsNext s.current p node question
      first = first_is_next s.current p node question is.at.asks waits

      entries_are : p.entries ≡ s.entries
      entries_are = is.at.entries ∙ is.entries

      staged : (f : FirstIsNext s.current p node question) → s.stage ≡ Publishing is.at.said (f.first ∷ f.posts) p.acks
      staged f = is.at.stage ∙ ap (λ (l : List Post). Publishing is.at.said l p.acks) f.posts_are

      replicas_are : q.replicas ≡ st.replicas
      replicas_are = same.0 ∙ is.at.replicas

      asks_next_of : (other : Post) → first.first ≡ other → AsksNext other.key (put_question other) (IsPut (judges st.judge) st.replicas s other) s.current node question
      asks_next_of other e = subst (λ (x : Post). AsksNext x.key (put_question x) (IsPut (judges st.judge) st.replicas s x) s.current node question) e (next_of s p is.at.replicas entries_are first.first s.current node question first.next)

      -- where a node is to be heard again, the put isn't over
      not_over : stage_of is.at.said q ≡ stage_of is.at.said p → PublishingIsAfter asks q → publishing_awaited q ≢ None → IsPut (judges st.judge) st.replicas s first.first asks → ⊥
      not_over stage_is trail some whole =
          let x = there_is (publishing_awaited q) some in
          let f = first_is_next asks q x.0.0 x.0.1 trail x.1 in
          let one : f.first ≡ first.first = same_first f.first first.first f.posts first.posts (sym f.posts_are ∙ same_posts is.at.said (posts_of q) (posts_of p) q.acks p.acks stage_is ∙ first.posts_are) in
          post_next_is_not_whole st.replicas s.entries first.first asks x.0.0 x.0.1
          (subst (λ (y : Post). AsksNext y.key (put_question y) (IsWholePutOfPost st.replicas s.entries y) asks x.0.0 x.0.1) one (next_of s q replicas_are (same.1 ∙ entries_are) f.first asks x.0.0 x.0.1 f.next)) whole

      step : Hearing is.at.said asks p q → HeardIs judges (At p) (At q) s cache cache node question given
      step (put_goes_on stage_is trail some) =
          let t : Session = record s { current = asks } in
          heard_so answer t t is_answer
          (puts_on is.at.said first.first first.posts p.acks (staged first) (asks_next_of first.first refl) (not_over stage_is trail some))
          (Fails.goes_on (λ notes refresh miss refreshes _. publishes_or_refreshes is.at.said (posts_of p) p.acks (sym is.at.stage ∙ refreshes)))
          (record {
            entries = is.entries;
            starts = is.starts;
            at = record { said = is.at.said; is_told = is.at.is_told; stage = is.at.stage ∙ sym stage_is; replicas = replicas_are; entries = same.1 ∙ is.at.entries; asks = trail; noted = is.at.noted };
          })
          (λ waits. next_is_told (asks_next_of first.first refl) (put_is_for_data first.first) answer)
      step (put_is_over other posts came stage_is whole stage_then trail none) =
          let one : first.first ≡ other = same_first first.first other first.posts posts (sym first.posts_are ∙ same_posts is.at.said (posts_of p) (other ∷ posts) p.acks p.acks stage_is) in
          let t : Session = record s { stage = after_put is.at.said other posts p.acks (acknowledged came); current = [] } in
          heard_so answer t t is_answer
          (puts is.at.said other posts p.acks came (is.at.stage ∙ stage_is) (asks_next_of other one)
          (subst (λ (es : List Peer). IsPutOfPost st.replicas es other asks came) entries_are (subst (λ (r : ℕ). IsPutOfPost r p.entries other asks came) is.at.replicas whole)))
          (Fails.goes_on (λ notes refresh miss refreshes _. after_or_refreshes is.at.said other posts p.acks (acknowledged came) refreshes))
          (record {
            entries = is.entries;
            starts = is.starts;
            at = record { said = is.at.said; is_told = is.at.is_told; stage = sym stage_then; replicas = replicas_are; entries = same.1 ∙ is.at.entries; asks = trail; noted = is.at.noted };
          })
          (λ waits. absurd (waits none))

    pub puts_hear : PutHears p q given (Ok tt) → IsHeard judges (At p) (At q) cache cache given
    puts_hear h = (
      (refl, refl, refl),
      λ s node question waits is. step h.0 h.1 h.2.0 s node question waits is (h.2.1 is.at.said s.current node question waits is.at.asks),
    )
