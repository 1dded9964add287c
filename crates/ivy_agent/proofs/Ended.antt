-- How a turn ends, by what an agent keeps.
use Rattle.std.proofs.Common.{◌≡◌, ◌≤◌, ℕ, length, Bool, true, false, List, Option, Some, None, Ok, Err, refl, sym, ap, ◌∙◌, subst}
use Rattle.std.specs.Prelude.{IfSome, IsSomeAnd}
use Rattle.ivy_base.specs.declared.key.Key.{Key}
use Rattle.ivy_base.specs.declared.operation.Moment.{Moment}
use Rattle.log_model.specs.Vector.{Vector}
use Rattle.log_model.specs.View.{View}
use Rattle.log_records.specs.Batches.{Batch}
use Rattle.turn_model.specs.Basis.{Basis, Holding}
use Rattle.turn_model.specs.Turn.{Asked}
use Rattle.replay_engine.specs.Engines.{Engine, holding}
use Rattle.log_model.specs.Signing.{Signing}
use Rattle.agent_model.specs.Agent.{Agent, own, own_key}
use Rattle.agent_model.specs.Standing.{going_on}
use Rattle.turn_laws.specs.Taking.{refresh_with}
use Rattle.agent_model.specs.Turning.{is_behind, is_below_tide}
use Rattle.ivy_agent.specs.Answering.{IsCall}
use Rattle.ivy_agent.specs.Holders.{Holder, IsSound, agent_of}
use Rattle.ivy_agent.specs.Taking.{MayTakeFrom, TakesAndAnswers, TurnsOn}
use Rattle.ivy_agent.specs.Turns.{ComesFrom, ComesTo, IsAnswered}
use Rattle.ivy_agent.specs.declared.saving.Kept.{Kept}
use Rattle.ivy_agent.specs.declared.taking.Refusal.{Refusal}
use Rattle.ivy_agent.specs.declared.taking.Refusal.TheVariants as refusal
use Rattle.ivy_agent.specs.declared.writing.Done.{Done}
use Rattle.ivy_agent.proofs.Becoming.{ends_answered}
use Rattle.ivy_agent.proofs.Going.{of_view}
use Rattle.nfs_model.specs.Results.{longest_result}

module _ {K S : Type 0} (signs : Signing S) (IsWhole : S → Type 0) (saves : K → List ℕ → Bool → K → Type 0) (asked : Asked) (now : Moment) (k : Kept S) (e : Engine) (to_load : Option Key) (has_failed : Bool) (keeper : K)
    (before : Holder K S) (is : record { agent = agent_of k e to_load has_failed; keeper = keeper } ≡ before) (front : Vector) (sound : IsSound signs (agent_of k e to_load has_failed) k.log front) (batch : Batch) where
  abbrev a : Agent S
  a = agent_of k e to_load has_failed

  -- ---- an answer

  module _ (call : IsCall asked now) (k_after : Kept S) (e_after : Engine) (keeper_after : K) (done : Done) where
    abbrev after : Holder K S
    after = record { agent = agent_of k_after e_after None done.has_failed; keeper = keeper_after }

    abbrev MayFrom : Holding → Option View → Type 0
    MayFrom h o = IsSomeAnd o (λ view. MayTakeFrom view (own_key signs k.signer) k.floor h batch)

    abbrev Takes : Holding → Option View → Type 0
    Takes h o = IfSome o (λ view. TakesAndAnswers signs IsWhole saves view batch asked now k has_failed h keeper k_after (holding e_after) keeper_after done)

    ends : (view : View) → k.view ≡ Some view → (basis : Option Basis) → MayTakeFrom view (own_key signs k.signer) k.floor (going_on a basis) batch
        → TakesAndAnswers signs IsWhole saves view batch asked now k has_failed (going_on a basis) keeper k_after (holding e_after) keeper_after done
        → IsAnswered signs IsWhole saves view (refresh_with batch basis) asked now (record { agent = a; keeper = keeper }) done.turned after × IsSound signs (agent_of k_after e_after None done.has_failed) k_after.log done.front
    ends view in_view basis from t = ends_answered signs IsWhole saves asked now k e to_load has_failed sound.its_log sound.kept view in_view batch basis call (of_view signs a k.log front sound batch view in_view).0
        t.new from t.takes t.inside t.base t.front keeper k_after e_after keeper_after done (holding e_after) refl t.answers

    turned_in : (h : Holding) (o : Option View) → k.view ≡ o → MayFrom h o → Takes h o → IfSome o (λ view. ComesFrom signs IsWhole saves view batch asked now (record { agent = a; keeper = keeper }) h (Ok done.turned) after)
    turned_in h None in_view from t = tt
    turned_in h (Some view) in_view from t = λ basis going.
        (ends view in_view basis (subst (λ (g : Holding). MayTakeFrom view (own_key signs k.signer) k.floor g batch) (sym going) from)
        (subst (λ (g : Holding). TakesAndAnswers signs IsWhole saves view batch asked now k has_failed g keeper k_after (holding e_after) keeper_after done) (sym going) t)).0

    sound_in_view : (h : Holding) (o : Option View) → k.view ≡ o → (basis : Option Basis) → going_on a basis ≡ h → MayFrom h o → Takes h o → IsSound signs (agent_of k_after e_after None done.has_failed) k_after.log done.front
    sound_in_view h None in_view basis going from t = absurd from
    sound_in_view h (Some view) in_view basis going from t =
        (ends view in_view basis (subst (λ (g : Holding). MayTakeFrom view (own_key signs k.signer) k.floor g batch) (sym going) from)
        (subst (λ (g : Holding). TakesAndAnswers signs IsWhole saves view batch asked now k has_failed g keeper k_after (holding e_after) keeper_after done) (sym going) t)).1

    pub short_from : (h : Holding) (o : Option View) → MayFrom h o → Takes h o → length done.turned.reply ≤ longest_result
    short_from h None from t = absurd from
    short_from h (Some view) from t = t.short

    -- on what is held
    pub turned_here : MayFrom (holding e) k.view → Takes (holding e) k.view → IfSome before.agent.view (λ view. ComesFrom signs IsWhole saves view batch asked now before before.agent.holding (Ok done.turned) after)
    turned_here from t = subst (λ (b : Holder K S). IfSome b.agent.view (λ view. ComesFrom signs IsWhole saves view batch asked now b b.agent.holding (Ok done.turned) after)) is (turned_in (holding e) k.view refl from t)

    pub sound_here : MayFrom (holding e) k.view → Takes (holding e) k.view → IsSound signs (agent_of k_after e_after None done.has_failed) k_after.log done.front
    sound_here from t = sound_in_view (holding e) k.view refl None refl from t

    -- over a basis
    pub turned_over : (h : Holding) → MayFrom h k.view → Takes h k.view → IfSome before.agent.view (λ view. ComesFrom signs IsWhole saves view batch asked now before h (Ok done.turned) after)
    turned_over h from t = subst (λ (b : Holder K S). IfSome b.agent.view (λ view. ComesFrom signs IsWhole saves view batch asked now b h (Ok done.turned) after)) is (turned_in h k.view refl from t)

    pub sound_over : (h : Holding) → (basis : Option Basis) × (going_on before.agent basis ≡ h) → MayFrom h k.view → Takes h k.view → IsSound signs (agent_of k_after e_after None done.has_failed) k_after.log done.front
    sound_over h going from t = sound_in_view h k.view refl going.0 (ap (λ (b : Holder K S). going_on b.agent going.0) is ∙ going.1) from t

  -- what may be gone on from
  pub may_over : (h : Holding) → IsSomeAnd before.agent.view (λ view. MayTakeFrom view (own signs before.agent) before.agent.floor h batch) → IsSomeAnd k.view (λ view. MayTakeFrom view (own_key signs k.signer) k.floor h batch)
  may_over h from = subst (λ (b : Holder K S). IsSomeAnd b.agent.view (λ view. MayTakeFrom view (own signs b.agent) b.agent.floor h batch)) (sym is) from

  -- ---- a refusal

  module _ (k_after : Kept S) (e_after : Engine) (keeper_after : K) (k_is : k_after ≡ k) (held_is : holding e_after ≡ holding e) (keeper_is : keeper_after ≡ keeper) where
    abbrev same : Holder K S
    same = record { agent = agent_of k_after e_after to_load has_failed; keeper = keeper_after }

    agent_same : agent_of k_after e_after to_load has_failed ≡ a
    agent_same = (λ i. record {
      signer = (k_is i).signer;
      view = (k_is i).view;
      floor = (k_is i).floor;
      holding = held_is i;
      to_load = to_load;
      snapshot = (k_is i).snapshot;
      pending = (k_is i).pending;
      has_failed = has_failed;
    })

    holder_same : same ≡ record { agent = a; keeper = keeper }
    holder_same = (λ i. record { agent = agent_same i; keeper = keeper_is i })

    pub sound_same : IsSound signs (agent_of k_after e_after to_load has_failed) k_after.log front
    sound_same = subst (λ (p : Agent S × Key). IsSound signs p.0 p.1 front) (λ i. (sym agent_same i, (sym k_is i).log)) sound

    module _ (h h_after : Holding) where
      comes_to : (view : View) (why : Refusal) (basis : Option Basis) → going_on a basis ≡ h → TurnsOn signs IsWhole saves view batch asked now k has_failed h keeper (Err why) k_after h_after keeper_after
          → ComesTo signs IsWhole saves view (refresh_with batch basis) asked now (record { agent = a; keeper = keeper }) (Err why) same
      comes_to view refusal.Behind basis going t = (holder_same, subst (λ (g : Holding). is_behind view (own_key signs k.signer) k.floor g (refresh_with batch None) ≡ true) (sym going) t)
      comes_to view refusal.BelowTide basis going t = (
        holder_same,
        subst (λ (g : Holding). is_behind view (own_key signs k.signer) k.floor g (refresh_with batch None) ≡ false) (sym going) t.0,
        subst (λ (g : Holding). is_below_tide (own_key signs k.signer) k.floor g (refresh_with batch None) ≡ true) (sym going) t.1,
      )
      comes_to view refusal.Memory basis going t = holder_same

      refused_in : (o : Option View) (why : Refusal) → IfSome o (λ view. TurnsOn signs IsWhole saves view batch asked now k has_failed h keeper (Err why) k_after h_after keeper_after)
          → IfSome o (λ view. ComesFrom signs IsWhole saves view batch asked now (record { agent = a; keeper = keeper }) h (Err why) same)
      refused_in None why t = tt
      refused_in (Some view) why t = λ basis going. comes_to view why basis going t

    pub refused_here : (h_after : Holding) (why : Refusal) → IfSome k.view (λ view. TurnsOn signs IsWhole saves view batch asked now k has_failed (holding e) keeper (Err why) k_after h_after keeper_after)
        → IfSome before.agent.view (λ view. ComesFrom signs IsWhole saves view batch asked now before before.agent.holding (Err why) same)
    refused_here h_after why t = subst (λ (b : Holder K S). IfSome b.agent.view (λ view. ComesFrom signs IsWhole saves view batch asked now b b.agent.holding (Err why) same)) is (refused_in (holding e) h_after k.view why t)

    pub refused_over : (h h_after : Holding) (why : Refusal) → IfSome k.view (λ view. TurnsOn signs IsWhole saves view batch asked now k has_failed h keeper (Err why) k_after h_after keeper_after)
        → IfSome before.agent.view (λ view. ComesFrom signs IsWhole saves view batch asked now before h (Err why) same)
    refused_over h h_after why t = subst (λ (b : Holder K S). IfSome b.agent.view (λ view. ComesFrom signs IsWhole saves view batch asked now b h (Err why) same)) is (refused_in h h_after k.view why t)
