-- Stages that are changed in place: what is wanted and heard, as steps of the session of the definitions.
use Rattle.std.proofs.Common.{◌≡◌, true, List, Option, Some, Result, Ok, Err, IfSome, sym, ap, ◌∙◌, subst}
use Rattle.ivy_base.specs.declared.memory.Memory.{Memory}
use Rattle.dht_ids.specs.declared.ask.Answer.{Answer}
use Rattle.dht_ids.specs.declared.ask.Ask.{Ask}
use Rattle.dht_ids.specs.declared.ask.Want.TheVariants as want
use Rattle.dht_ids.specs.declared.peer.Peer.{Peer}
use Rattle.dht_ids.specs.declared.post.Ack.{Ack}
use Rattle.dhash_client.specs.GetHead.{Judges}
use Rattle.session_model.specs.Sessions.{Cache}
use Rattle.ivy_session.specs.declared.served.Served.{Served}
use Rattle.ivy_session.specs.declared.session.Next.TheVariants as next
use Rattle.ivy_session.specs.declared.session.Stage.{Stage}
use Rattle.ivy_session.specs.declared.session.Stage.TheVariants as stage
use Rattle.ivy_session.specs.States.{SessionState}
use Rattle.ivy_session.specs.Stepping.{IsHeard, IsNext}
use Rattle.ivy_session.specs.InPlace.{PutHeard, PutWants, told_at}
use Rattle.ivy_session.proofs.Puts.{cut_next, puts_cut, puts_hear, puts_next, settles_next}

same_some : (a b : Served) → let x : Option Served = Some a in let y : Option Served = Some b in x ≡ y → a ≡ b
same_some a b e = cc e

module _ {J : Type 0} (judges : Judges J) (st : SessionState J) where
  abbrev With : Stage J → SessionState J
  With at = record st { stage = at }

  -- ---- what publishes says what it wants

  pub put_asks : (cache : Cache) (node : Peer) (question : Ask) (at now : Stage J) → PutWants at now (Ok (want.Ask node question)) → IsNext judges (With at) (With now) cache cache (next.Ask node question)
  put_asks cache node question (stage.Publishing told p) now h =
      subst (λ (x : Stage J). IsNext judges (With (stage.Publishing told p)) (With x) cache cache (next.Ask node question)) (sym h.1) (puts_next judges st told p h.0 cache node question h.2)
  put_asks cache node question (stage.Refreshing c r) now h = absurd h
  put_asks cache node question (stage.Turning c) now h = absurd h
  put_asks cache node question (stage.Over told) now h = absurd h
  put_asks cache node question stage.Told now h = absurd h

  pub put_settles : (cache : Cache) (acks : List Ack) (at mid now : Stage J) → PutWants at mid (Ok (want.Done acks)) → IfSome (told_at mid) (λ told. now ≡ stage.Over told) → IsNext judges (With at) (With now) cache cache (next.Settle acks)
  put_settles cache acks (stage.Publishing told p) mid now h e =
      let over : now ≡ stage.Over told = subst (λ (x : Stage J). IfSome (told_at x) (λ t. now ≡ stage.Over t)) h.1 e in
      subst (λ (x : Stage J). IsNext judges (With (stage.Publishing told p)) (With x) cache cache (next.Settle acks)) (sym over) (settles_next judges st told p h.0 cache acks h.2)
  put_settles cache acks (stage.Refreshing c r) mid now h e = absurd h
  put_settles cache acks (stage.Turning c) mid now h e = absurd h
  put_settles cache acks (stage.Over told) mid now h e = absurd h
  put_settles cache acks stage.Told mid now h e = absurd h

  pub put_is_cut : (cache : Cache) (lacks : Memory) (told : Served) (at mid now : Stage J) → PutWants at mid (Err lacks) → told_at mid ≡ Some told → IsNext judges (With at) (record st { is_cut = true; stage = now }) cache cache (next.Done told)
  put_is_cut cache lacks told (stage.Publishing first p) mid now h e =
      let one : first ≡ told = same_some first told (sym (ap told_at h.1) ∙ e) in
      subst (λ (x : Served). IsNext judges (With (stage.Publishing first p)) (record st { is_cut = true; stage = now }) cache cache (next.Done x)) one (cut_next judges (With now) first p p cache)
  put_is_cut cache lacks told (stage.Refreshing c r) mid now h e = absurd h
  put_is_cut cache lacks told (stage.Turning c) mid now h e = absurd h
  put_is_cut cache lacks told (stage.Over other) mid now h e = absurd h
  put_is_cut cache lacks told stage.Told mid now h e = absurd h

  -- ---- what publishes hears an answer

  pub put_is_heard : (cache : Cache) (given : Result Answer Memory) (at now : Stage J) → PutHeard at now given (Ok tt) → IsHeard judges (With at) (With now) cache cache given
  put_is_heard cache given (stage.Publishing told p) now h =
      subst (λ (x : Stage J). IsHeard judges (With (stage.Publishing told p)) (With x) cache cache given) (sym h.1) (puts_hear judges st told p h.0 cache given h.2)
  put_is_heard cache given (stage.Refreshing c r) now h = absurd h
  put_is_heard cache given (stage.Turning c) now h = absurd h
  put_is_heard cache given (stage.Over told) now h = absurd h
  put_is_heard cache given stage.Told now h = absurd h

  pub put_ends : (cache : Cache) (given : Result Answer Memory) (lacks : Memory) (at mid now : Stage J) → PutHeard at mid given (Err lacks) → IfSome (told_at mid) (λ told. now ≡ stage.Over told)
      → IsHeard judges (With at) (record st { is_cut = true; stage = now }) cache cache given
  put_ends cache given lacks (stage.Publishing told p) mid now h e =
      let over : now ≡ stage.Over told = subst (λ (x : Stage J). IfSome (told_at x) (λ t. now ≡ stage.Over t)) h.1 e in
      subst (λ (x : Stage J). IsHeard judges (With (stage.Publishing told p)) (record st { is_cut = true; stage = x }) cache cache given) (sym over) (puts_cut judges st told p p cache given)
  put_ends cache given lacks (stage.Refreshing c r) mid now h e = absurd h
  put_ends cache given lacks (stage.Turning c) mid now h e = absurd h
  put_ends cache given lacks (stage.Over told) mid now h e = absurd h
  put_ends cache given lacks stage.Told mid now h e = absurd h
