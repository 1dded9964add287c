-- A refresh comes to the state that a step gave.
use Rattle.std.proofs.Common.{◌≡◌, ℕ, ◌<◌, ◌≤◌, Bool, true, false, List, Option, Some, None, refl, sym, ap, ◌∙◌, subst}
use Rattle.std.specs.Prelude.{IfSome}
use Rattle.ivy_base.specs.declared.key.Key.{Key}
use Rattle.dht_ids.specs.declared.ask.Answer.{Answer}
use Rattle.dht_ids.specs.declared.ask.Want.{Want as Next}
use Rattle.dht_ids.specs.declared.peer.Peer.{Peer}
use Rattle.dht_ids.specs.declared.post.Post.{Post}
use Rattle.dhash_client.specs.GetHead.{Judges}
use Rattle.session_model.specs.Sessions.{pending_block}
use Rattle.view_refresh.specs.declared.refresh.Refreshed.{Refreshed}
use Rattle.view_refresh.specs.declared.refresh.State.{State}
use Rattle.view_refresh.specs.declared.refresh.State.TheVariants as state
use Rattle.view_refresh.specs.States.{HoldsAlways, IsSound, Refreshing, left_in, loads_in, refresh_left, wanted_in}
use Rattle.view_refresh.specs.Steps.{RefreshHasHeard, RefreshIsWanted, RefreshWasGiven, TakesPending}
use Rattle.view_refresh.specs.Parts.{AreNamed, GivesNext, HearsNext, KeepsSound, TakesNext, WantsNext}

false_or_true : false ≡ true → ⊥
false_or_true e = cc e

-- of these fields
abbrev pub of_fields : {J : Type 0} → J → ℕ → List Peer → List Post → State J → Refreshing J
of_fields judge replicas entries pending st = record { judge = judge; replicas = replicas; entries = entries; pending = pending; state = st }

module _ {J : Type 0} (judges : Judges J) (judge : J) (replicas : ℕ) (entries : List Peer) (pending : List Post) where
  abbrev So : State J → Refreshing J
  So = of_fields judge replicas entries pending

  -- it is over
  pub over_holds : HoldsAlways (So state.Over)
  over_holds = record { sound = tt; named = λ loads. absurd (false_or_true loads) }

  -- that was taken out of its place
  module _ (before taken : State J) (takes : taken ≡ before) where
    pub sound_so : HoldsAlways (So before) → IsSound judge replicas entries taken
    sound_so h = subst (λ (st : State J). IsSound judge replicas entries st) (sym takes) h.sound

    pub named_so : HoldsAlways (So before) → AreNamed taken pending
    named_so h loads = h.named (subst (λ (st : State J). loads_in st ≡ true) takes loads)

    pub from_so : (r : Refreshing J) → So before ≡ r → So taken ≡ r
    from_so r is = ap So takes ∙ is

    -- and this is put there
    module _ (given placed : State J) (places : placed ≡ given) where
      pub still_holds : HoldsAlways (So before) → KeepsSound (So state.Over) taken given → HoldsAlways (So placed)
      still_holds h keeps =
          subst (λ (st : State J). HoldsAlways (So st)) (sym places) (record { sound = keeps.0; named = λ loads. named_so h (keeps.1 loads) })

      module _ (r : Refreshing J) (is : So before ≡ r) where
        pub wants_placed : (want : Next Refreshed) → WantsNext judges (So state.Over) taken (given, want) → RefreshIsWanted judges r (So placed) want × (left_in placed ≤ refresh_left r)
        wants_placed want h =
            subst (λ (st : State J). RefreshIsWanted judges r (So st) want × (left_in st ≤ refresh_left r)) (sym places)
            (subst (λ (x : Refreshing J). RefreshIsWanted judges x (So given) want × (left_in given ≤ refresh_left x)) (from_so r is) (h.0, h.2))

        pub hears_placed : (answer : Answer) (back : Option (Key × List ℕ)) → HearsNext judges (So state.Over) taken answer (given, back) → RefreshHasHeard judges r (So placed) answer back × (left_in placed < refresh_left r)
        hears_placed answer back h =
            subst (λ (st : State J). RefreshHasHeard judges r (So st) answer back × (left_in st < refresh_left r)) (sym places)
            (subst (λ (x : Refreshing J). RefreshHasHeard judges x (So given) answer back × (left_in given < refresh_left x)) (from_so r is) (h.0, h.2))

        pub gives_placed : (bytes : List ℕ) → GivesNext judges (So state.Over) taken bytes given → RefreshWasGiven judges r (So placed) bytes × (left_in placed < refresh_left r)
        gives_placed bytes h =
            subst (λ (st : State J). RefreshWasGiven judges r (So st) bytes × (left_in st < refresh_left r)) (sym places)
            (subst (λ (x : Refreshing J). RefreshWasGiven judges x (So given) bytes × (left_in given < refresh_left x)) (from_so r is) (h.0, h.2))

      -- a block of the posts, or none
      none_wanted : (wanted : Option Key) → ((key : Key) → wanted ≡ Some key → pending_block key pending ≡ None) → IfSome wanted (λ key. pending_block key pending ≡ None)
      none_wanted None h = tt
      none_wanted (Some key) h = h key refl

      keeps_taken : (b : Bool) → TakesNext judges (So state.Over) taken (given, b) → IsSound judge replicas entries taken → KeepsSound (So state.Over) taken given
      keeps_taken true h sound = h.4.1
      keeps_taken false h sound = subst (λ (st : State J). KeepsSound (So state.Over) taken st) (sym h.0) (sound, λ loads. loads)

      pub take_holds : (b : Bool) → TakesNext judges (So state.Over) taken (given, b) → HoldsAlways (So before) → HoldsAlways (So placed)
      take_holds b h holds = still_holds holds (keeps_taken b h (sound_so holds))

      takes_of : (b : Bool) → TakesNext judges (So state.Over) taken (given, b) → TakesPending judges (So taken) (So given) b × (b ≡ true → left_in given < left_in taken)
      takes_of true h = ((h.0, h.1, h.2, h.3, h.4.0), λ e. h.4.2)
      takes_of false h = ((ap So h.0, none_wanted (wanted_in taken) h.1), λ e. absurd (false_or_true e))

      pub takes_placed : (r : Refreshing J) → So before ≡ r → (b : Bool) → TakesNext judges (So state.Over) taken (given, b) → TakesPending judges r (So placed) b × (b ≡ true → left_in placed < refresh_left r)
      takes_placed r is b h =
          subst (λ (st : State J). TakesPending judges r (So st) b × (b ≡ true → left_in st < refresh_left r)) (sym places)
          (subst (λ (x : Refreshing J). TakesPending judges x (So given) b × (b ≡ true → left_in given < refresh_left x)) (from_so r is) (takes_of b h))
