-- One record older, as the code has it.
use Rattle.std.proofs.Common.{◌≡◌, ℕ, suc, ◌-◌, ◌<◌, ◌≤◌, Bool, true, List, [], ◌∷◌, ◌++◌, length, drop, get_or, sym, ap, ◌∙◌, subst, arith}
use Rattle.std.proofs.Math.Seq.{drop-cons}
use Rattle.std.specs.List.{AllByRecursion, list_any}
use Rattle.std.specs.Ordering.{eq_by_cmp}
use Rattle.ivy_base.specs.declared.key.PubKey.{PubKey}
use Rattle.ivy_base.specs.Naming.{head_key_of, owner_cmp}
use Rattle.log_records.specs.declared.record.Record.{Record}
use Rattle.log_model.specs.Fetched.{as_edge}
use Rattle.log_records.specs.Records.{record_of, records_of}
use Rattle.log_fetch.specs.declared.edges.Edge as kept
use Rattle.log_fetch.specs.Edges.{AreEdges, edges_of}
use Rattle.ivy_agent.specs.Edges.{newest_edges, put_under, KnowsOthers}
use Rattle.ivy_agent.proofs.Newest.{AreKnown, all_known, one_known, with_older, with_known, are_edges}

module _ (records : List Record) (left : ℕ) (item : Record) (owners : List PubKey) (edges : List kept.Edge) (some : 0 < left) (within : left ≤ length records) (is : item ≡ get_or records (left - 1) item)
    (so_far : edges_of edges ≡ newest_edges (records_of (drop left records))) (known : AreKnown (edges_of edges) owners) where
  older : records_of (drop (left - 1) records) ≡ record_of item ∷ records_of (drop left records)
  older =
      let inside : left - 1 < length records = omega (arith, some, within) in
      let next : suc (left - 1) ≡ left = omega (arith, some) in
      ap records_of (drop-cons records (left - 1) item inside) ∙ (λ i. record_of (sym is i) ∷ records_of (drop (next i) records))

  bound : left - 1 ≤ length records
  bound = omega (arith, within)

  pub older_added : (new : List kept.Edge) (more : List PubKey) → edges_of new ≡ put_under (head_key_of item.owner) (as_edge (record_of item)) (edges_of edges) → more ≡ owners ++ item.owner ∷ []
      → (left - 1 ≤ length records) × (edges_of new ≡ newest_edges (records_of (drop (left - 1) records))) × AreKnown (edges_of new) more
  older_added new more new_is more_is = (
    bound,
    new_is ∙ ap (put_under (head_key_of item.owner) (as_edge (record_of item))) so_far ∙ sym (with_older (record_of item) (records_of (drop left records))) ∙ ap newest_edges (sym older),
    subst (AreKnown (edges_of new)) (sym more_is) (subst (λ es. AreKnown es (owners ++ item.owner ∷ [])) (sym new_is) (all_known item.owner (as_edge (record_of item)) (edges_of edges) owners known)),
  )

  pub older_known : (seen : List PubKey) (among : Bool) → seen ≡ owners → among ≡ list_any (eq_by_cmp owner_cmp item.owner) seen → among ≡ true → (left - 1 ≤ length records) × (edges_of edges ≡ newest_edges (records_of (drop (left - 1) records)))
  older_known seen among seen_is told has =
      let there : list_any (eq_by_cmp owner_cmp item.owner) owners ≡ true = ap (list_any (eq_by_cmp owner_cmp item.owner)) (sym seen_is) ∙ sym told ∙ has in
      let its = one_known item.owner (edges_of edges) owners known there in
      (bound, so_far ∙ with_known (record_of item) (records_of (drop left records)) (subst (λ es. AreKnown es (item.owner ∷ [])) so_far (its, tt)).0 ∙ ap newest_edges (sym older))

-- edges of all the records are edges
pub are_all_edges : (records : List Record) (edges : List kept.Edge) → edges_of edges ≡ newest_edges (records_of records) → AllByRecursion KnowsOthers (records_of records) → AreEdges (edges_of edges)
are_all_edges records edges all others = subst AreEdges (sym all) (are_edges (records_of records) others)
