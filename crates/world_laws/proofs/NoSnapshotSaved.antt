-- What a turn makes of an agent that may be saved may be saved, and so may what it saves.
use Rattle.std.proofs.Common.{◌≡◌, ◌+◌, ◌≤◌, List, [], ◌∷◌, ◌++◌, length, map, fold, Option, Some, sym, ap, ◌∙◌, subst, arith, Contains}
use Rattle.std.specs.Prelude.{IfSome, IsTrue}
use Rattle.std.specs.List.{AllByRecursion}
use Rattle.std.proofs.lemmas.List.{map-append}
use Rattle.std.proofs.lemmas.List.Sums.{fold-append}
use Rattle.ivy_base.specs.Naming.{head_key_of}
use Rattle.log_model.specs.Rank.{full_vector}
use Rattle.log_model.specs.Record.{Record}
use Rattle.log_model.specs.Spelling.{most_records}
use Rattle.log_model.specs.Vector.{Vector, join, seq_of}
use Rattle.log_model.specs.View.{View, IsView, is_named}
use Rattle.log_model.specs.ViewKeys.{HasKeys}
use Rattle.turn_model.specs.Basis.{Holding}
use Rattle.agent_model.specs.Agent.{joined, kept_of}
use Rattle.agent_model.specs.Turning.{MayTake, MayWrite, with_held, written_by}
use Rattle.agent_model.specs.Turning.Becomes.{loses, reads, saves}
use Rattle.world_model.specs.Agents.{HssAgent, IsHssKept, hss_signing, own_hss_key, own_reach}
use Rattle.world_laws.specs.Laws.{TurnsAreSaved}
use Rattle.log_model.proofs.Lists.{each, here}
use Rattle.log_model.specs.Chain.{IsGood}
use Rattle.std.proofs.lemmas.List.Elements.{Contains-append_right}
use Rattle.agent_laws.proofs.Floors.{IsSpelledIn, joined_second, records_no_more, records_reach, records_spelled}
use Rattle.world_laws.proofs.TurnsSigning.{kept_still, kept_then, next_each, next_last}
use Rattle.ring_model.proofs.Lists.{all_weaker}

joined_with : (h : Holding) (written : List Record) → joined (with_held h written) ≡ fold join (joined h) (map full_vector written)
joined_with h written = ap (λ (vs : List Vector). fold join h.basis.front vs) (map-append full_vector h.held written) ∙ fold-append join h.basis.front (map full_vector h.held) (map full_vector written)

module _ (view : View) (a : HssAgent) (h : Holding) (in_view : a.view ≡ Some view) (kept : IsHssKept (kept_of a)) (take : MayTake hss_signing view a h) where
  spelled : IsSpelledIn view (joined h)
  spelled = record { spelled = take.spelled; named = take.named }

  taken : IsHssKept (record { signer = a.signer; view = a.view; floor = join a.floor (joined h); pending = a.pending; snapshot = a.snapshot })
  taken = kept_still a view in_view kept (joined h) spelled (let least = take.own_log in let few = kept.few in omega (arith, least, few))

  its_view : IsView view × HasKeys view × Contains view.members (own_hss_key a) × AllByRecursion (λ e. IsTrue (is_named view e.0)) a.floor
  its_view = subst (λ (o : Option View). IfSome o (λ v. IsView v × HasKeys v × Contains v.members (own_hss_key a) × AllByRecursion (λ e. IsTrue (is_named v e.0)) a.floor)) in_view kept.view

  module _ (before : List Record) (last : Record) (may : MayWrite hss_signing view a before last) where
    abbrev written : List Record
    written = before ++ last ∷ []

    far : AllByRecursion (λ (r : Record). r.seq ≤ own_reach a + length written) written
    far = next_each (own_reach a) written may.next

    wrote : IsHssKept (kept_of (written_by hss_signing a h before last))
    wrote = kept_then a view in_view kept (joined (with_held h written))
        (subst (IsSpelledIn view) (sym (joined_with h written)) (records_spelled view its_view.0 (own_hss_key a) its_view.2 (joined h) written spelled may.good))
        (subst (λ (v : Vector). seq_of v (head_key_of (own_hss_key a)) ≤ most_records) (sym (joined_with h written))
        (records_no_more view its_view.0 (own_hss_key a) its_view.2 most_records (joined h) written (let least = take.own_log in let few = kept.few in omega (arith, least, few)) may.good
        (all_weaker (λ (r : Record). r.seq ≤ own_reach a + length written) (λ (r : Record). r.seq ≤ most_records) written (λ r le. let few = may.few in omega (arith, le, few)) far)))
        (a.signer.made + 1) (let left = may.is_left in omega (arith, left)) (written_by hss_signing a h before last).pending may.posts

    -- its floor goes as far as what is written
    pub reached : own_reach a + length written ≤ seq_of (join a.floor (joined (with_held h written))) (head_key_of (own_hss_key a))
    reached =
        let among : Contains written last = Contains-append_right before (last ∷ []) last (here last []) in
        let at = next_last (own_reach a) before last may.next in
        let far = records_reach view its_view.0 (own_hss_key a) its_view.2 (joined h) written last among (each (IsGood view (own_hss_key a)) written last may.good among) in
        let wide = subst (IsSpelledIn view) (sym (joined_with h written)) (records_spelled view its_view.0 (own_hss_key a) its_view.2 (joined h) written spelled may.good) in
        let further = joined_second (head_key_of (own_hss_key a)) a.floor (joined (with_held h written)) wide.spelled.in_order in
        let same = ap (λ (v : Vector). seq_of v (head_key_of (own_hss_key a))) (joined_with h written) in
        omega (arith, at, far, further, same)

pub turns_are_saved : TurnsAreSaved
turns_are_saved view a _ h fails _ _ in_view kept take reads = (taken view a h in_view kept take, tt)
turns_are_saved view a _ h fails _ _ in_view kept take (saves before last may succeeds) = let its = wrote view a h in_view kept take before last may in (its, its)
turns_are_saved view a _ h fails _ _ in_view kept take (loses before last may failing) = (taken view a h in_view kept take, wrote view a h in_view kept take before last may)
