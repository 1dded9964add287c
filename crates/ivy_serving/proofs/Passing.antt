-- A pass that came of another by calls alone.
use Rattle.std.proofs.Common.{◌≡◌, ◌+◌, List, [], ◌∷◌, ◌++◌, length, Result, Ok, Err, sym, ap, ◌∙◌, subst, refl}
use Rattle.std.specs.Prelude.{IfOk, OnErr}
use mathlib.Core.List.{IsPrefix}
use Rattle.std.proofs.lemmas.List.{append_assoc}
use Rattle.log_fetch.specs.declared.turned.Turned.{Turned}
use Rattle.log_fetch.specs.declared.turned.TurnFault.{TurnFault}
use Rattle.value_gate.specs.Histories.{entry}
use Rattle.value_gate.specs.Passes.{IsPassOf, SawOn, with_history}
use Rattle.agent_gate.specs.declared.request.TurnRequest.{TurnRequest}
use Rattle.agent_gate.specs.Sharing.{Answers}
use Rattle.agent_gate.specs.Taking.{AgentEntry, AgentKind}
use Rattle.ivy_serving.specs.Jobs.{CameOf, Gate, Pass}

-- a beginning of a beginning
prefix_of_prefix : {T : Type 0} (xs ys zs : List T) → IsPrefix xs ys → IsPrefix ys zs → IsPrefix xs zs
prefix_of_prefix xs ys zs (us, p) (vs, q) = (us ++ vs, sym (append_assoc xs us vs) ∙ (ap (λ l. l ++ vs) p ∙ q))

module _ {K S : Type 0} (kind : AgentKind K S) (gate : Gate K S) (first old new : Pass K S) where
  goes_on : (history calls : List AgentEntry) → CameOf gate first old → IsPrefix old.history history → new ≡ with_history old history calls → CameOf gate first new
  goes_on history calls c older is = record {
    of = subst (IsPassOf gate) (sym is) c.of;
    number = ap (λ (p : Pass K S). p.number) is ∙ c.number;
    parts = ap (λ (p : Pass K S). p.parts) is ∙ c.parts;
    seen = subst (λ (h : List AgentEntry). IsPrefix first.history h) (sym (ap (λ (p : Pass K S). p.history) is)) (prefix_of_prefix first.history old.history history c.seen older);
  }

  pub saw_on : CameOf gate first old → SawOn old new → CameOf gate first new
  saw_on c saw = goes_on new.history old.calls c saw.0 saw.1

  pub turned_on : (asked : TurnRequest) (result : Result Turned TurnFault) → CameOf gate first old → IfOk result (λ turned. Answers kind gate old asked turned new) → OnErr result (SawOn old new) → CameOf gate first new
  turned_on asked (Ok turned) c a none =
      let e : AgentEntry = entry old.number (length old.calls + 1) (asked, turned) in
      goes_on (a.before ++ e ∷ []) (old.calls ++ e ∷ []) c (prefix_of_prefix old.history a.before (a.before ++ e ∷ []) a.older (e ∷ [], refl)) a.newest
  turned_on asked (Err fault) c none saw = saw_on c saw
