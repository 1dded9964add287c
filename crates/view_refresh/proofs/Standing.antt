-- How a refresh stands by what it was brought: the snapshot's part, and the logs' after it.
use Rattle.std.proofs.Common.{◌≡◌, List, [], ◌∷◌, ◌++◌, Option, Some, None, sym, ap, ◌∙◌, subst}
use Rattle.std.proofs.lemmas.List.{append_assoc, map-append}
use Rattle.ivy_base.specs.declared.key.Key.{Key}
use Rattle.dht_ids.specs.declared.ask.Heard.{Heard}
use Rattle.dhash_client.specs.GetHead.{Judges}
use Rattle.turn_model.specs.Basis.{Basis}
use Rattle.fs_tree.specs.declared.basis.Basis.{Basis as Kept}
use Rattle.agent_model.specs.Standing.{Chain, Refresh, Standing}
use Rattle.session_model.specs.Brought.{Brought, Part, Content, brought_in}
use Rattle.session_model.specs.Refreshing.{FetchesAll, LoadEnd, LoadWants, LoadsFor, Needs, Note, RefreshEnd, Refreshes, counting, start_of}
use Rattle.session_model.specs.Refreshing.Refreshes.{loading, fetching}
use Rattle.snapshot_loading.specs.Loading.{ComesTo as LoadComesTo, wanted_of}
use Rattle.log_fetch.specs.Fetching.{Fetching}
use Rattle.view_refresh.specs.declared.refresh.Loading.{Loading}
use Rattle.view_refresh.specs.States.{IsInProgress}
use Rattle.view_refresh.specs.Behind.{IsFetchingOver, IsLoadingFor}
use Rattle.view_refresh.specs.Steps.{Stands}
use Rattle.view_refresh.proofs.Fetches.{ComesTo}

same_some : {T : Type 0} (x y : T) → Some x ≡ Some y → x ≡ y
same_some x y e = cc e

pub brought_both : (parts others : List Part) → brought_in (parts ++ others) ≡ brought_in parts ++ brought_in others
brought_both parts others = map-append (λ (x : Part). x.brought) parts others

-- ---- the snapshot

module _ (s : Standing) (parts : List Part) (l : Loading) (h : IsLoadingFor s parts l) where
  pub loads_so : (end : LoadEnd) → LoadComesTo l.load end → LoadsFor s.to_load (brought_in parts) end
  loads_so end comes = subst (λ (o : Option Key). LoadsFor o (brought_in parts) end) (sym h.root) (subst (λ (b : List Brought). LoadsFor (Some l.load.root) b end) (sym h.brought) comes)

  pub load_stands : IsInProgress l → (key : Key) → wanted_of l.load ≡ Some key → Stands s parts (Needs (Content key))
  load_stands w key e = record {
    notes = [];
    given = record { started = s.held; chains = []; basis = None };
    refreshes = loading (loads_so (LoadWants key) (subst (λ (k : Key). LoadComesTo l.load (LoadWants k)) (same_some w.key key (sym w.wanted ∙ e)) w.comes));
  }

-- ---- the logs

-- what is given after that snapshot, with these chains
abbrev pub given_over : Standing → Option Basis → List Chain → Refresh
given_over s whole chains = record { started = start_of s (counting s.floor whole); chains = chains; basis = counting s.floor whole }

module _ {J : Type 0} (judges : Judges J) (s : Standing) (parts : List Part) (current : List Heard) (basis : Option Kept) (f : Fetching J) (h : IsFetchingOver judges s parts current basis f) where
  pub refreshes_so : {notes : List Note} {chains : List Chain} {end : RefreshEnd} → FetchesAll (record { standing = s; start = start_of s (counting s.floor h.whole) }) s.view.members (brought_in h.fetched) notes chains end
      → Refreshes s (brought_in parts) notes (given_over s h.whole chains) end
  refreshes_so {notes} {chains} {end} fetches =
      subst (λ (b : List Brought). Refreshes s b notes (given_over s h.whole chains) end) (sym (ap brought_in h.parts_are ∙ brought_both h.loaded h.fetched)) (fetching h.whole h.loads fetches)

  pub fetch_stands : (end : RefreshEnd) → ComesTo s (start_of s (counting s.floor h.whole)) (brought_in h.fetched) end → Stands s parts end
  fetch_stands end comes = record { notes = comes.0; given = given_over s h.whole comes.1; refreshes = refreshes_so comes.2 }

-- a part more was fetched
pub one_more : (parts loaded fetched : List Part) (p : Part) → parts ≡ loaded ++ fetched → parts ++ p ∷ [] ≡ loaded ++ (fetched ++ p ∷ [])
one_more parts loaded fetched p e = ap (λ (l : List Part). l ++ p ∷ []) e ∙ append_assoc loaded fetched (p ∷ [])
