-- Why a refresh that has failed did.
use Rattle.std.proofs.Common.{◌≡◌, Bool, List, Option, Some, None, IfSome, Result, Ok, Err, sym, ◌∙◌, subst}
use Rattle.dht_ids.specs.declared.ask.Want.TheVariants as want
use Rattle.dhash_model.specs.declared.miss.Miss.{Miss}
use Rattle.dhash_client.specs.GetHead.{Judges}
use Rattle.session_model.specs.Sessions.{Session}
use Rattle.log_fetch.specs.declared.note.Note.{Note as Noted}
use Rattle.log_fetch.specs.declared.refresh.Refresh.{Refresh}
use Rattle.view_refresh.specs.declared.refresh.Refreshed.{Refreshed}
use Rattle.view_refresh.specs.States.{Refreshing as RefreshState}
use Rattle.view_refresh.specs.Steps.{Ends, Fails, RefreshIsWanted}
use Rattle.ivy_session.specs.Taking.{FailsAs, IsFailing, IsFailure}

same_miss : (a b : Miss) → let x : Result Refresh Miss = Err a in let y : Result Refresh Miss = Err b in x ≡ y → a ≡ b
same_miss a b e = cc e

module _ {J : Type 0} (judges : Judges J) (r new : RefreshState J) (given : Refreshed) (w : RefreshIsWanted judges r new (want.Done given)) where
  fails_so : (why : Miss × List Noted) → given.result ≡ Err why.0 → given.notes ≡ why.1 → (s : Session) → IsFailing judges s r → FailsAs s why.0 why.1
  fails_so why missed noted s h =
      let e = w s.standing s.parts s.current h.after in
      let f : Fails s.standing s.parts given = subst (λ (b : Bool). Ends b r.entries s.standing s.parts given) h.failed e.2 in
      subst (λ (m : Miss). FailsAs s m why.1) (same_miss f.miss why.0 (sym f.result ∙ missed)) (record { notes = f.notes; given = f.refresh; refreshes = f.refreshes; noted_are = sym noted ∙ f.noted })

  pub is_failure : (o : Option (Miss × List Noted)) → IfSome o (λ why. (given.result ≡ Err why.0) × (given.notes ≡ why.1)) → IfSome o (IsFailure judges r)
  is_failure None h = tt
  is_failure (Some why) h = λ s failing. fails_so why h.0 h.1 s failing
