-- Histories of turns: how the last one was taken, and what all of them keep.
use Rattle.std.proofs.Common.{◌≡◌, List, [], ◌∷◌, ◌++◌, map, None, refl, sym, ap, ◌∙◌, subst}
use Rattle.std.proofs.lemmas.List.{map-append, same_from_push}
use Rattle.turn_model.specs.Basis.{fresh_basis}
use Rattle.agent_model.specs.Agent.{Agent}
use Rattle.ivy_agent.specs.Holders.{Holder}
use Rattle.agent_gate.specs.Folding.{FreshStaysFresh}
use Rattle.agent_gate.specs.Taking.{AgentEntry, AgentKind, Became, KeyStays, LastIsTaken, StaysInView, Taken, TookLast}
use Rattle.agent_gate.specs.Taking.Became.{opens, takes, refuses, settles}
use Rattle.agent_gate.proofs.Left.{each_keeps, left_key}

abbrev pub entry_of : Taken → AgentEntry
entry_of t = t.entry

pub entries_on : (taken : List Taken) (t : Taken) (history : List AgentEntry) → map (λ (x : Taken). x.entry) taken ≡ history → map (λ (x : Taken). x.entry) (taken ++ t ∷ []) ≡ history ++ t.entry ∷ []
entries_on taken t history are = map-append entry_of taken (t ∷ []) ∙ ap (λ (l : List AgentEntry). l ++ t.entry ∷ []) are

module _ {K S : Type 0} (kind : AgentKind K S) where
  pub stays_in_view : StaysInView kind
  stays_in_view opening value history has =
      each_keeps kind opening (λ (a : Agent S). a.view ≡ opening.agent.view) (λ before after left same. left.view ∙ same) (λ a acks same. same) refl has.taken value has.became

  pub key_stays : KeyStays kind
  key_stays opening value history on has =
      each_keeps kind opening (λ (a : Agent S). kind.signs.key a.signer ≡ kind.signs.key opening.agent.signer) (λ before after left same. left_key kind.signs before after on left ∙ same) (λ a acks same. same) refl
      has.taken value has.became

  pub fresh_stays_fresh : FreshStaysFresh kind
  fresh_stays_fresh opening value history none base has =
      each_keeps kind opening (λ (a : Agent S). (a.to_load ≡ None) × (a.holding.basis ≡ fresh_basis)) (λ before after left was. left.fresh was.0 was.1) (λ a acks was. was) (none, base) has.taken value has.became

  nothing_ends : (before : List AgentEntry) (e : AgentEntry) → [] ≡ before ++ e ∷ [] → ⊥
  nothing_ends [] e is = cc is
  nothing_ends (d ∷ ds) e is = cc is

  module _ (opening : Holder K S) where
    last_of : (taken : List Taken) (value : Holder K S) → Became kind opening taken value → (before : List AgentEntry) (e : AgentEntry) → map (λ (x : Taken). x.entry) taken ≡ before ++ e ∷ [] → TookLast kind opening before e
    last_of _ _ opens before e is = absurd (nothing_ends before e is)
    last_of _ _ (takes {taken = xs} {before = x} {after = y} t was took) before e is =
        let both = same_from_push (map entry_of xs) before t.entry e (sym (map-append entry_of xs (t ∷ [])) ∙ is) in
        subst (TookLast kind opening before) both.1 (record {
          found = x;
          after = y;
          had_taken = record { taken = xs; entries = both.0; became = was };
          took = took.took;
          short = took.short;
          has_taken = record { taken = xs ++ t ∷ []; entries = entries_on xs t before both.0; became = takes t was took };
        })
    last_of _ _ (refuses {taken = xs} {before = x} asked fault was refused) before e is = last_of xs x was before e is
    last_of _ _ (settles {taken = xs} {before = x} acks was) before e is = last_of xs x was before e is

  pub last_is_taken : LastIsTaken kind
  last_is_taken opening value before e has = last_of opening has.taken value has.became before e has.entries
