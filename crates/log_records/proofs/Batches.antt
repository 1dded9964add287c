-- What a batch keeps when a chain is added, and what its chains are over what is held.
use Rattle.std.proofs.Common.{◌≡◌, ⊎_elim, ℕ, ◌+◌, List, [], ◌∷◌, ◌++◌, Option, Some, None, refl, sym, ap, ◌∙◌, subst, take, drop, append_assoc, Contains}
use Rattle.std.proofs.lemmas.List.{map-append, take_more, take-append-drop}
use Rattle.std.proofs.lemmas.List.Elements.{Contains-append_left, Contains-push, Contains-push_cases}
use Rattle.ivy_base.specs.declared.key.Key.{Key}
use Rattle.ivy_base.specs.declared.key.PubKey.{PubKey}
use Rattle.ivy_base.specs.Naming.{head_key_of}
use Rattle.log_model.specs.View.{View}
use Rattle.log_model.specs.Vector.{Stamp, Vector, reach, Dominates, with_entry}
use Rattle.log_model.specs.Record.{Record}
use Rattle.log_model.specs.Rank.{own_entry, full_vector}
use Rattle.log_model.specs.Chain.{GoesOn, IsChain, LinkedFrom}
use Rattle.log_model.proofs.Lists.{here, there, in_nothing, each_append}
use Rattle.log_model.specs.Fetched.{Edge, owner_of, stamp_in, as_edge, KnowsEdge, GoesOnFrom, EndsAtStamp, OldestNames, HasRecord, IsSound, IsOnward}
use Rattle.log_model.specs.Heads.{stamp}
use Rattle.log_records.specs.Batches.{Batch, owners_in, name_or_none, Extends, AreApart, IsBatch, AreUnder}
use Rattle.log_records.specs.BatchLaws.{ChainsBegin, ChainsGoOn}
use Rattle.log_records.specs.declared.batch.Chain.{Chain}
use Rattle.log_records.specs.Records.{records_of}
use Rattle.log_records.specs.Kept.{chain_of, chains_of}

-- ---- links

linked_after : (view : View) (owner : PubKey) (p : Record) (rs : List Record) → GoesOn view owner p rs → LinkedFrom owner (p.seq + 1) p.name rs
linked_after view owner p [] g = tt
linked_after view owner p (r ∷ rs) g =
    (g.0.owned, g.0.spelled, g.1.seq, g.1.prev, subst (λ (n : ℕ). LinkedFrom owner (n + 1) r.name rs) g.1.seq (linked_after view owner r rs g.2))

pub linked : (view : View) (held : Option Stamp) (edge : Option Edge) (chain : List Record) → GoesOnFrom view held edge chain → OldestNames held chain
    → LinkedFrom (owner_of chain) (reach held + 1) (name_or_none held) chain
linked view held edge [] g names = tt
linked view None edge (r ∷ rs) g names =
    (refl, g.0.spelled, g.1.seq, g.1.prev, subst (λ (n : ℕ). LinkedFrom r.owner (n + 1) r.name rs) g.1.seq (linked_after view r.owner r rs g.3))
linked view (Some t) edge (r ∷ rs) g names =
    (refl, g.0.spelled, g.1, names, subst (λ (n : ℕ). LinkedFrom r.owner (n + 1) r.name rs) g.1 (linked_after view r.owner r rs g.3))

pub extends : (view : View) (held floor : Vector) (edge : Option Edge) (head : Stamp) (chain : List Record) → IsSound view held edge head chain → IsOnward held floor chain → Extends held floor head chain
extends view held floor edge head chain sound onward = record {
  linked = linked view (stamp_in held chain) edge chain sound.goes_on onward.names;
  ends = sound.ends;
  passes = onward.passes;
}

-- what is linked names what it is linked to
pub oldest_names : (held : Option Stamp) (chain : List Record) → LinkedFrom (owner_of chain) (reach held + 1) (name_or_none held) chain → OldestNames held chain
oldest_names held [] l = tt
oldest_names None (r ∷ rs) l = tt
oldest_names (Some t) (r ∷ rs) l = l.3

-- ---- batches

apart_push : (os : List PubKey) (o : PubKey) → AreApart os → (Contains os o → ⊥) → AreApart (os ++ o ∷ [])
apart_push [] o h new = (λ c. in_nothing o c, tt)
apart_push (x ∷ xs) o h new = (
  λ c. ⊎_elim h.0 (λ e. new (subst (λ (y : PubKey). Contains (x ∷ xs) y) (sym e) (here x xs))) (Contains-push_cases xs o x c),
  apart_push xs o h.1 (λ c. new (there x xs o c)),
)

pub batch_push : (b : Batch) (head : Stamp) (chain : List Record) → IsBatch b → Extends b.held b.floor head chain → (Contains (owners_in b.chains) (owner_of chain) → ⊥)
    → IsBatch (record b { chains = b.chains ++ (head, chain) ∷ [] })
batch_push b head chain is more new = record {
  extend = each_append (λ c. Extends b.held b.floor c.0 c.1) b.chains ((head, chain) ∷ []) is.extend (more, tt);
  apart = subst AreApart (sym (map-append (λ (c : Stamp × List Record). owner_of c.1) b.chains ((head, chain) ∷ []))) (apart_push (owners_in b.chains) (owner_of chain) is.apart new);
}

-- a chain that was added under the view keeps the batch under it
pub under_push : (view : View) (edges : Key → Option Edge) (b : Batch) (head : Stamp) (chain : List Record) → AreUnder view edges b
    → GoesOnFrom view (stamp_in b.held chain) (edges (head_key_of (owner_of chain))) chain → AreUnder view edges (record b { chains = b.chains ++ (head, chain) ∷ [] })
under_push view edges b head chain under g =
    each_append (λ c. GoesOnFrom view (stamp_in b.held c.1) (edges (head_key_of (owner_of c.1))) c.1) b.chains ((head, chain) ∷ []) under (g, tt)

-- ---- over what is held

-- the edge may be left out, and put in where the oldest record knows it
pub without_edge : (view : View) (held : Option Stamp) (edge : Option Edge) (chain : List Record) → GoesOnFrom view held edge chain → GoesOnFrom view held None chain
without_edge view held edge [] g = tt
without_edge view None edge (r ∷ rs) g = (g.0, g.1, tt, g.3)
without_edge view (Some t) edge (r ∷ rs) g = (g.0, g.1, tt, g.3)

pub with_edge : (view : View) (held : Option Stamp) (edge more : Option Edge) (r : Record) (rs : List Record) → GoesOnFrom view held edge (r ∷ rs) → KnowsEdge held more r → GoesOnFrom view held more (r ∷ rs)
with_edge view held edge more r rs g knows = (g.0, g.1, knows, g.3)

pub begins_log : (view : View) (edge : Option Edge) (chain : List Record) → GoesOnFrom view None edge chain → IsChain view (owner_of chain) chain
begins_log view edge [] g = tt
begins_log view edge (r ∷ rs) g = (g.0, g.1, g.3)

pub chains_begin : ChainsBegin
chains_begin view held floor edge head chain none ext g = (begins_log view edge chain (subst (λ (s : Option Stamp). GoesOnFrom view s edge chain) none g), ext.ends)

-- the last of p and the records after it goes on
go_on_behind : (view : View) (owner : PubKey) (q : Record) (before : List Record) (p : Record) (rs : List Record) → GoesOn view owner q (before ++ p ∷ []) → GoesOn view owner p rs → GoesOn view owner q (before ++ p ∷ rs)
go_on_behind view owner q [] p rs g more = (g.0, g.1, more)
go_on_behind view owner q (x ∷ before) p rs g more = (g.0, g.1, go_on_behind view owner x before p rs g.2 more)

chain_on : (view : View) (owner : PubKey) (before : List Record) (p : Record) (rs : List Record) → IsChain view owner (before ++ p ∷ []) → GoesOn view owner p rs → IsChain view owner (before ++ p ∷ rs)
chain_on view owner [] p rs chain more = (chain.0, chain.1, more)
chain_on view owner (q ∷ before) p rs chain more = (chain.0, chain.1, go_on_behind view owner q before p rs chain.2 more)

last_owned : (view : View) (owner : PubKey) (q : Record) (before : List Record) (p : Record) → GoesOn view owner q (before ++ p ∷ []) → p.owner ≡ owner
last_owned view owner q [] p g = g.0.owned
last_owned view owner q (x ∷ before) p g = last_owned view owner x before p g.2

chain_owned : (view : View) (owner : PubKey) (before : List Record) (p : Record) → IsChain view owner (before ++ p ∷ []) → p.owner ≡ owner
chain_owned view owner [] p chain = chain.0.owned
chain_owned view owner (q ∷ before) p chain = last_owned view owner q before p chain.2

after_held : (view : View) (owner : PubKey) (p : Record) (chain : List Record) → p.owner ≡ owner_of chain → GoesOnFrom view (Some (own_entry p).1) (Some (as_edge p)) chain → OldestNames (Some (own_entry p).1) chain
    → GoesOn view (owner_of chain) p chain
after_held view owner p [] owned g names = tt
after_held view owner p (r ∷ rs) owned g names = (
  g.0,
  record { seq = g.1; prev = names; grows = subst (λ (o : PubKey). Dominates (full_vector r) (with_entry p.vector (head_key_of o, (own_entry p).1))) (sym owned) g.2 },
  g.3,
)

pub ends_behind : (t : Stamp) (xs ys : List Record) → EndsAtStamp t ys → EndsAtStamp t (xs ++ ys)
ends_behind t xs ys h = (xs ++ h.0, h.1, ap (λ (l : List Record). xs ++ l) h.2 ∙ sym (append_assoc xs h.0 (h.1 ∷ [])), h.3)

pub chains_go_on : ChainsGoOn
chains_go_on view held floor head before p chain is at ext g =
    let names = subst (λ (s : Option Stamp). OldestNames s chain) at (oldest_names (stamp_in held chain) chain ext.linked) in
    let on = subst (λ (s : Option Stamp). GoesOnFrom view s (Some (as_edge p)) chain) at g in (
      chain_on view (owner_of chain) before p chain is (after_held view (owner_of chain) p chain (chain_owned view (owner_of chain) before p is) on names),
      ends_behind head before (p ∷ chain) (ends_behind head (p ∷ []) chain ext.ends),
    )

-- ---- as a batch keeps its chains

pub kept_push : (b : Batch) (kept more : List Chain) (c : Chain) (chain : List Record) → b.chains ≡ chains_of kept → more ≡ kept ++ c ∷ [] → records_of c.records ≡ chain → IsBatch b → Extends b.held b.floor (stamp c.head.seq c.head.name) chain
    → (Contains (owners_in b.chains) (owner_of chain) → ⊥) → IsBatch (record { held = b.held; floor = b.floor; chains = chains_of more })
kept_push b kept more c chain view items records is ext new =
    subst (λ (cs : List (Stamp × List Record)). IsBatch (record { held = b.held; floor = b.floor; chains = cs })) (sym all) (batch_push b (stamp c.head.seq c.head.name) chain is ext new)
  where
    all : chains_of more ≡ b.chains ++ (stamp c.head.seq c.head.name, chain) ∷ []
    all = ap chains_of items ∙ map-append chain_of kept (c ∷ []) ∙ ap (λ cs. cs ++ chain_of c ∷ []) (sym view) ∙ ap (λ (rs : List Record). b.chains ++ (stamp c.head.seq c.head.name, rs) ∷ []) records

-- ---- a chain has a record exactly where a part of it in front ends at it

pub passes_through : (t : Stamp) (chain : List Record) → HasRecord t chain → (front : List Record) × (rest : List Record) × (chain ≡ front ++ rest) × EndsAtStamp t front
passes_through t chain h =
    let k = h.1.0 in (
      take (k + 1) chain,
      drop (k + 1) chain,
      sym (take-append-drop (k + 1) chain),
      (take k chain, h.0, take_more chain k h.0 h.1.1 ∙ ap (λ (r : Record). take k chain ++ r ∷ []) h.1.2, h.2),
    )

pub has_passed : (t : Stamp) (front rest : List Record) → EndsAtStamp t front → HasRecord t (front ++ rest)
has_passed t front rest h =
    (h.1, Contains-append_left front rest h.1 (subst (λ (l : List Record). Contains l h.1) (sym h.2) (Contains-push h.0 h.1)), h.3)
