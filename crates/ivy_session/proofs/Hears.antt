-- A session's refresh hears an answer.
use Rattle.std.proofs.Common.{◌≡◌, ◌≢◌, ⊎_elim, ℕ, Bool, true, false, List, [], ◌∷◌, ◌++◌, Option, Some, None, Result, Ok, refl, sym, ap, ◌∙◌, subst}
use Rattle.ivy_base.specs.declared.key.Key.{Key}
use Rattle.ivy_base.specs.declared.memory.Memory.{Memory}
use Rattle.dht_ids.specs.Asked.{told}
use Rattle.dht_ids.specs.declared.ask.Answer.{Answer}
use Rattle.dht_ids.specs.declared.ask.Ask.{Ask}
use Rattle.dht_ids.specs.declared.ask.Ask.TheVariants as ask
use Rattle.dht_ids.specs.declared.ask.Heard.{Heard}
use Rattle.dht_ids.specs.declared.judge.Judged.{Judged}
use Rattle.dht_ids.specs.declared.peer.Peer.{Peer}
use Rattle.dhash_client.specs.GetHead.{Judges}
use Rattle.dhash_model.specs.Cache.{kept}
use Rattle.session_model.specs.Asking.{AsksNext}
use Rattle.session_model.specs.Brought.{Brought, Part, WantedOfRing}
use Rattle.session_model.specs.Sessions.{Cache, Gets, Hears, IsGet, Session, keeping, wanted_key, with_part}
use Rattle.session_model.specs.Sessions.Hears.{gets_on, got}
use Rattle.log_fetch.specs.Fetching.{block_in}
use Rattle.view_refresh.specs.States.{Refreshing as RefreshState, has_failed, refresh_awaited}
use Rattle.view_refresh.specs.Steps.{AsksFor, GoesOn, IsOver, RefreshHasHeard}
use Rattle.view_refresh.proofs.Bringing.{right_name}
use Rattle.ivy_session.specs.States.{IsRefreshingBy}
use Rattle.ivy_session.specs.Taking.{IsHeardTo, IsSameCall, RefreshHears, kept_back}
use Rattle.ivy_session.proofs.AskSteps.{next_is_told}
use Rattle.ivy_session.proofs.Bringing.{none_kept, not_missed, one_kept}
use Rattle.ivy_session.proofs.Refreshes.{failed_by, wants_so}

true_or_false : true ≡ false → ⊥
true_or_false e = cc e

pub there_is : {T : Type 0} (o : Option T) → o ≢ None → (x : T) × (o ≡ Some x)
there_is None some = absurd (some refl)
there_is (Some x) some = (x, refl)

module _ (judged : Key → List ℕ → Option Judged) (r : ℕ) (entries : List Peer) {want : WantedOfRing} {asks : List Heard} (brought : Brought) (gets : Gets judged r entries want asks brought) (cache : Cache) where
  keeps_so : (block : Option (Key × List ℕ)) → block_in brought ≡ block → kept_back block cache ≡ keeping judged r brought cache
  keeps_so None e = sym (none_kept brought cache judged r e)
  keeps_so (Some block) e =
      let is = one_kept brought block.0 block.1 e in
      ap (λ (k : Key). kept k block.1 cache) (right_name judged r entries block.0 block.1 gets is) ∙ ap (λ (b : Brought). keeping judged r b cache) (sym is)

module _ {J : Type 0} (judges : Judges J) (old new : RefreshState J) (before : Cache) (block : Option (Key × List ℕ)) (answer : Answer) (h : RefreshHasHeard judges old new answer block) where
  -- by the same judge, from as many owners and the same nodes on
  by_same : (P : J → ℕ → List Peer → Type 0) (entries : List Peer) → new.entries ≡ entries → P new.judge new.replicas new.entries → P old.judge old.replicas entries
  by_same P entries e p = subst (P old.judge old.replicas) e (subst (λ (m : ℕ). P old.judge m new.entries) h.0.1 (subst (λ (j : J). P j new.replicas new.entries) h.0.0 p))

  module _ (s : Session) (node : Peer) (question : Ask) (waits : refresh_awaited old ≡ Some (node, question)) (is : IsRefreshingBy judges s old) where
    abbrev asks : List Heard
    asks = s.current ++ told node question answer

    abbrev Steps : Bool → Type 0
    Steps failed = (t : Session) × Hears (judges old.judge) old.replicas s before node question answer t (kept_back block before) × IsSameCall s t × IsHeardTo judges t new before (kept_back block before) failed

    abbrev Asks : Type 0
    Asks = AsksFor (judges old.judge) old.replicas old.entries s.standing s.parts s.current node question

    entries : new.entries ≡ s.entries
    entries = h.0.2 ∙ is.entries

    next : (a : Asks) → AsksNext (wanted_key a.want) (ask.Get (wanted_key a.want)) (IsGet (judges old.judge) old.replicas s.entries a.want) s.current node question
    next a = subst (λ (es : List Peer). AsksNext (wanted_key a.want) (ask.Get (wanted_key a.want)) (IsGet (judges old.judge) old.replicas es a.want) s.current node question) is.entries a.next

    goes_on : (a : Asks) → GoesOn judges s.standing s.parts asks a.want new block → Steps false
    goes_on a on = (
      record s { current = asks },
      subst (λ (c : Cache). Hears (judges old.judge) old.replicas s before node question answer (record s { current = asks }) c) (sym (ap (λ (b : Option (Key × List ℕ)). kept_back b before) on.none))
          (gets_on a.want (wants_so s a.want (judges old.judge) old.replicas is.stage a.needed) (next a) (by_same (λ (j : J) (m : ℕ) (es : List Peer). IsGet (judges j) m es a.want asks → ⊥) s.entries entries on.not_whole)),
      refl,
      (record { stage = is.stage; entries = entries; unmissed = is.unmissed; after = on.after; unfailed = on.unfailed }, λ waits. next_is_told (next a) tt answer),
    )

    got_so : (a : Asks) (o : IsOver judges s.standing s.parts asks a.want new block) → Hears (judges old.judge) old.replicas s before node question answer (with_part s o.brought asks) (kept_back block before)
    got_so a o =
        let gets = by_same (λ (j : J) (m : ℕ) (es : List Peer). Gets (judges j) m es a.want asks o.brought) s.entries entries o.gets in
        subst (λ (c : Cache). Hears (judges old.judge) old.replicas s before node question answer (with_part s o.brought asks) c) (sym (keeps_so (judges old.judge) old.replicas s.entries o.brought gets before block (sym o.block)))
        (got a.want o.brought (wants_so s a.want (judges old.judge) old.replicas is.stage a.needed) (next a) gets)

    -- a refresh that failed gave back no block
    none_back : (want : WantedOfRing) (o : IsOver judges s.standing s.parts asks want new block) → has_failed new ≡ true → (b : Option (Key × List ℕ)) → block ≡ b → kept_back b before ≡ before
    none_back want o failed None e = refl
    none_back want o failed (Some given) e =
        let part : Part = record { brought = o.brought; asks = asks } in
        let f = failed_by judges (with_part s o.brought asks) new (record { after = o.after; failed = failed }) in
        absurd (not_missed s.standing s.parts part f.0 given.0 given.1 (one_kept o.brought given.0 given.1 (sym o.block ∙ e)) f.1)

    over_on : (a : Asks) → IsOver judges s.standing s.parts asks a.want new block → (failed : Bool) → has_failed new ≡ failed → Steps failed
    over_on a o false e = (
      with_part s o.brought asks,
      got_so a o,
      refl,
      (record { stage = is.stage; entries = entries; unmissed = is.unmissed; after = o.after; unfailed = e }, λ waits. absurd (waits o.waits)),
    )
    over_on a o true e = (with_part s o.brought asks, got_so a o, refl, (record { after = o.after; failed = e }, none_back a.want o e block refl))

    goes_or_ends : (a : Asks) → GoesOn judges s.standing s.parts asks a.want new block → (failed : Bool) → has_failed new ≡ failed → Steps failed
    goes_or_ends a on false e = goes_on a on
    goes_or_ends a on true e = absurd (true_or_false (sym e ∙ on.unfailed))

    hears_on : (failed : Bool) → has_failed new ≡ failed → Steps failed
    hears_on failed e = let w = h.1 s.standing s.parts s.current node question waits is.after in ⊎_elim (λ on. goes_or_ends w.0 on failed e) (λ o. over_on w.0 o failed e) w.1

  pub refresh_hears : (after : Cache) (failed : Bool) (given : Result Answer Memory) → given ≡ Ok answer → after ≡ kept_back block before → has_failed new ≡ failed → RefreshHears judges old new before after given (Ok failed)
  refresh_hears after failed given is_answer kept_is e = (
    answer,
    is_answer,
    h.0,
    λ s node question waits is. subst (λ (c : Cache). (t : Session) × Hears (judges old.judge) old.replicas s before node question answer t c × IsSameCall s t × IsHeardTo judges t new before c failed) (sym kept_is)
        (hears_on s node question waits is failed e),
  )
