-- The chains of a batch, as they are kept, are what a pass may begin with.
use Rattle.std.proofs.Common.{◌≡◌, List, [], ◌∷◌, map, refl, sym, ap, ◌∙◌, subst, None, Contains}
use Rattle.std.specs.Prelude.{IfSome}
use Rattle.std.specs.List.{AllByRecursion}
use Rattle.ivy_base.specs.declared.key.PubKey.{PubKey}
use Rattle.log_model.specs.View.{View}
use Rattle.log_model.specs.Vector.{Vector, Stamp}
use Rattle.log_model.specs.Record.{Record}
use Rattle.log_model.proofs.Lists.{here, there}
use Rattle.log_records.specs.declared.batch.Chain.{Chain}
use Rattle.log_records.specs.Records.{records_of}
use Rattle.log_records.specs.Kept.{chain_of, chains_of}
use Rattle.log_model.specs.Fetched.{EndsAtStamp, owner_of}
use Rattle.log_records.specs.Batches.{Batch, IsBatch, Extends, AreApart, owners_in}
use Rattle.causal_order.specs.Available.{IsFetched}
use Rattle.causal_order.specs.Kept.{newest_name}
use Rattle.causal_order.specs.Started.{HaveOwnOwners}
use Rattle.causal_order.proofs.Places.{newest_push}

module _ {X Y : Type 0} (f : X → Y) (P : Y → Type 0) where
  each_mapped : (xs : List X) → AllByRecursion P (map f xs) → AllByRecursion (λ x. P (f x)) xs
  each_mapped [] h = tt
  each_mapped (x ∷ xs) h = (h.0, each_mapped xs h.1)

records_are : (cs : List Chain) → map (λ (p : Stamp × List Record). p.1) (chains_of cs) ≡ map (λ (c : Chain). records_of c.records) cs
records_are [] = refl
records_are (c ∷ cs) = ap (λ rs. records_of c.records ∷ rs) (records_are cs)

pub chains_are : (cs : List Chain) (chains : List (Stamp × List Record)) → chains_of cs ≡ chains → map (λ (c : Chain). records_of c.records) cs ≡ map (λ (p : Stamp × List Record). p.1) chains
chains_are cs chains e = sym (records_are cs) ∙ ap (map (λ (p : Stamp × List Record). p.1)) e

pub are_fetched : (view : View) (front : Vector) (held : List Record) (cs : List Chain) (chains : List (Stamp × List Record)) → chains_of cs ≡ chains
    → AllByRecursion (λ c. IsFetched view front held c.1) chains → AllByRecursion (λ (c : Chain). IsFetched view front held (records_of c.records)) cs
are_fetched view front held cs chains e h = each_mapped chain_of (λ (p : Stamp × List Record). IsFetched view front held p.1) cs (subst (AllByRecursion (λ (p : Stamp × List Record). IsFetched view front held p.1)) (sym e) h)

named : (head : Stamp) (chain : List Record) → EndsAtStamp head chain → IfSome (newest_name None chain) (λ name. name ≡ head.name)
named head chain e = subst (λ o. IfSome o (λ name. name ≡ head.name)) (sym (ap (newest_name None) e.2 ∙ newest_push None e.0 e.1)) (ap (λ (s : Stamp). s.name) e.3)

pub are_named : (b : Batch) (cs : List Chain) → IsBatch b → chains_of cs ≡ b.chains → AllByRecursion (λ (c : Chain). IfSome (newest_name None (records_of c.records)) (λ name. name ≡ c.head.name)) cs
are_named b cs legal e = by cs (each_mapped chain_of (λ (p : Stamp × List Record). Extends b.held b.floor p.0 p.1) cs (subst (AllByRecursion (λ (p : Stamp × List Record). Extends b.held b.floor p.0 p.1)) (sym e) legal.extend))
  where
    by : (cs : List Chain) → AllByRecursion (λ (c : Chain). Extends b.held b.floor (chain_of c).0 (chain_of c).1) cs → AllByRecursion (λ (c : Chain). IfSome (newest_name None (records_of c.records)) (λ name. name ≡ c.head.name)) cs
    by [] h = tt
    by (c ∷ cs) h = (named (chain_of c).0 (records_of c.records) h.0.ends, by cs h.1)

pub have_own_owners : (b : Batch) (cs : List Chain) → IsBatch b → chains_of cs ≡ b.chains → HaveOwnOwners (map (λ (c : Chain). records_of c.records) cs)
have_own_owners b cs legal e = by cs (subst (λ (ps : List (Stamp × List Record)). AreApart (owners_in ps)) (sym e) legal.apart)
  where
    others : (o : PubKey) (cs : List Chain) → (Contains (owners_in (chains_of cs)) o → ⊥) → AllByRecursion (λ (d : List Record). o ≡ owner_of d → ⊥) (map (λ (c : Chain). records_of c.records) cs)
    others o [] none = tt
    others o (c ∷ cs) none = (
      λ same. none (subst (λ (x : PubKey). Contains (owners_in (chains_of (c ∷ cs))) x) (sym same) (here (owner_of (records_of c.records)) (owners_in (chains_of cs)))),
      others o cs (λ within. none (there (owner_of (records_of c.records)) (owners_in (chains_of cs)) o within)),
    )

    by : (cs : List Chain) → AreApart (owners_in (chains_of cs)) → HaveOwnOwners (map (λ (c : Chain). records_of c.records) cs)
    by [] h = tt
    by (c ∷ cs) h = (others (owner_of (records_of c.records)) cs h.0, by cs h.1)
