-- The new records of a closed part of chains: where they come from, and what they are.
use Rattle.std.proofs.Common.{◌≡◌, inl, inr, ⊎_elim, List, [], ◌∷◌, ◌++◌, map, refl, sym, ap, ◌∙◌, subst, Contains, Option, None}
use Rattle.std.specs.Prelude.{IfSome, flat_map, fold, nat_lt}
use Rattle.std.specs.List.{AllByRecursion}
use Rattle.std.proofs.lemmas.List.{map-append}
use Rattle.std.proofs.lemmas.List.Elements.{Contains-append_cases, Contains-append_left, Contains-append_right}
use Rattle.std.proofs.lemmas.List.Sums.{fold-append}
use Rattle.ivy_base.specs.declared.key.Key.{Key}
use Rattle.ivy_base.specs.declared.key.PubKey.{PubKey}
use Rattle.ivy_base.specs.Naming.{head_key_of}
use Rattle.log_model.specs.View.{View}
use Rattle.log_model.specs.Vector.{Vector, join}
use Rattle.log_model.specs.Record.{Record}
use Rattle.log_model.specs.Rank.{full_vector}
use Rattle.log_model.specs.Replay.{in_order}
use Rattle.log_model.specs.Spelling.{HasSpelling}
use Rattle.log_model.specs.Chain.{IsGood}
use Rattle.log_model.proofs.Lists.{each, each_from, from_filter, here, in_cons, in_nothing, there}
use Rattle.log_model.proofs.Sets.{in_order_in}
use Rattle.log_model.proofs.Weights.{Sorted}
use Rattle.log_records.specs.declared.batch.Chain.{Chain}
use Rattle.log_model.specs.Fetched.{owner_of}
use Rattle.log_records.specs.Records.{records_of}
use Rattle.causal_order.specs.Available.{BeginsBy, IsAvailable, IsFetched, IsLinked, IsNewPart, held_to}
use Rattle.causal_order.specs.Kept.{newest_name}
use Rattle.causal_order.specs.Over.{IsClosed}
use Rattle.causal_order.specs.Started.{HaveOwnOwners}
use Rattle.causal_order.proofs.Fronts.{joins_any_order}
use Rattle.turn_taking.specs.Chains.{IsRow, IsWhole, chains_in, some_of}
use Rattle.turn_taking.specs.Naming.{AllNamesOf, AreNamesOf, HasNameOf}
use Rattle.turn_taking.specs.declared.names.Names.{Names}
use Rattle.turn_taking.proofs.HeldFront.{good_in}
use Rattle.turn_taking.proofs.Rows.{linked_good, newest_named}

-- ---- chains that a closed part may be taken of

pub all_rows : (view : View) (chains : List Chain) → AllByRecursion (IsWhole view) chains → AllByRecursion IsRow chains
all_rows view [] h = tt
all_rows view (c ∷ cs) h = (h.0.row, all_rows view cs h.1)

pub all_linked : (view : View) (chains : List Chain) → AllByRecursion (IsWhole view) chains → AllByRecursion (IsLinked view) (chains_in chains)
all_linked view [] h = tt
all_linked view (c ∷ cs) h = (h.0.linked, all_linked view cs h.1)

pub all_fetched : (view : View) (base : Vector) (held : List Record) (chains : List Chain) → AllByRecursion (IsWhole view) chains → AllByRecursion (λ c. BeginsBy (held_to base held (owner_of c)) c) (chains_in chains)
    → AllByRecursion (λ (c : Chain). IsFetched view base held (records_of c.records)) chains
all_fetched view base held [] h near = tt
all_fetched view base held (c ∷ cs) h near = (record { member = h.0.member; linked = h.0.linked; near = near.0 }, all_fetched view base held cs h.1 near.1)

pub all_newest : (view : View) (chains : List Chain) → AllByRecursion (IsWhole view) chains → AllByRecursion (λ (c : Chain). IfSome (newest_name None (records_of c.records)) (λ n. n ≡ c.head.name)) chains
all_newest view [] h = tt
all_newest view (c ∷ cs) h = (subst (λ (o : Option Key). IfSome o (λ n. n ≡ c.head.name)) (sym (newest_named (records_of c.records) c.head.name h.0.row.named)) refl, all_newest view cs h.1)

-- ---- names of the chains

names_of_chain : (all : List Names) (cs : List (List Record)) (c : List Record) → AllNamesOf all cs → Contains cs c → (n : Names) × Contains all n × AreNamesOf n c
names_of_chain all [] c h within = absurd (in_nothing c within)
names_of_chain [] (d ∷ ds) c h within = absurd h
names_of_chain (n ∷ ns) (d ∷ ds) c h within = ⊎_elim
    (λ same. (n, here n ns, subst (λ (l : List Record). AreNamesOf n l) same h.0))
    (λ more. let w = names_of_chain ns ds c h.1 more in (w.0, there n ns w.0 w.1, w.2))
    (in_cons d ds c within)

chain_of_names : (all : List Names) (cs : List (List Record)) (n : Names) → AllNamesOf all cs → Contains all n → (c : List Record) × Contains cs c × AreNamesOf n c
chain_of_names [] cs n h within = absurd (in_nothing n within)
chain_of_names (m ∷ ms) [] n h within = absurd h
chain_of_names (m ∷ ms) (d ∷ ds) n h within = ⊎_elim
    (λ same. (d, here d ds, subst (λ (x : Names). AreNamesOf x d) same h.0))
    (λ more. let w = chain_of_names ms ds n h.1 more in (w.0, there d ds w.0 w.1, w.2))
    (in_cons m ms n within)

one_chain : (cs : List (List Record)) (c d : List Record) → HaveOwnOwners cs → Contains cs c → Contains cs d → owner_of c ≡ owner_of d → c ≡ d
one_chain [] c d h cc cd e = absurd (in_nothing c cc)
one_chain (x ∷ xs) c d h cc cd e = ⊎_elim
    (λ is_c. ⊎_elim (λ is_d. sym is_c ∙ is_d)
    (λ more. absurd (each (λ y. owner_of x ≡ owner_of y → ⊥) xs d h.0 more (ap owner_of is_c ∙ e))) (in_cons x xs d cd))
    (λ more. ⊎_elim (λ is_d. absurd (each (λ y. owner_of x ≡ owner_of y → ⊥) xs c h.0 more (ap owner_of is_d ∙ sym e)))
    (λ both. one_chain xs c d h.1 more both e) (in_cons x xs d cd))
    (in_cons x xs c cc)

named_in : (view : View) (all : List Names) (cs : List (List Record)) (c : List Record) (r : Record) → AllNamesOf all cs → HaveOwnOwners cs → Contains cs c → IsLinked view c → Contains c r → HasNameOf all r
named_in view all cs c r names apart within linked stands =
    let owned : r.owner ≡ owner_of c = (each (IsGood view (owner_of c)) c r (linked_good view c linked) stands).owned in
    let w = names_of_chain all cs c names within in
    record {
      some = (w.0, w.1, w.2.owner ∙ sym owned);
      each = each_from (λ n. n.owner ≡ r.owner → (n.log ≡ head_key_of r.owner) × (records : List Record) × AreNamesOf n records × Contains records r) all
          (λ n c_n of_r.
          let d = chain_of_names all cs n names c_n in
          let same : c ≡ d.0 = one_chain cs c d.0 apart within d.1 (sym owned ∙ sym of_r ∙ d.2.owner) in
          (d.2.log ∙ ap (λ (o : PubKey). head_key_of o) of_r, d.0, d.2, subst (λ (l : List Record). Contains l r) same stands));
    }

-- ---- the new part

module _ (view : View) (base : Vector) (held : List Record) (chains : List (List Record)) (new : List Record) (part : IsNewPart view base held chains new) where
  pub in_part : (r : Record) → Contains new r → Contains (in_order (held ++ new)) r
  in_part r c = each (λ q. Contains (in_order (held ++ new)) q) new r part.within c

  -- a new record stands in a chain
  pub of_chain : (r : Record) → Contains new r → (c : List Record) × Contains chains c × Contains c r
  of_chain r c = ⊎_elim
      (λ old. absurd (each (λ q. Contains held q → ⊥) new r part.fresh c old))
      (λ w. (w.0, w.1, (from_filter (λ (q : Record). nat_lt (held_to base held r.owner) q.seq) w.0 r w.3).0))
      (part.largest.part r (in_part r c))

  pub new_named : (all : List Names) → AllNamesOf all chains → HaveOwnOwners chains → AllByRecursion (IsLinked view) chains → AllByRecursion (HasNameOf all) new
  new_named all names apart linked = each_from (HasNameOf all) new
      (λ r c. let w = of_chain r c in named_in view all chains w.0 r names apart w.1 (each (IsLinked view) chains w.0 linked w.1) w.2)

  pub new_spelled : AllByRecursion HasSpelling new
  new_spelled = each_from HasSpelling new (λ r c. (good_in view base (in_order (held ++ new)) part.largest.closed r (in_part r c)).spelled)

  -- all of it is in the part
  pub all_in : IsClosed view base held → (r : Record) → Contains (held ++ new) r → Contains (in_order (held ++ new)) r
  all_in closed r c = ⊎_elim (λ old. part.largest.largest held (λ q k. inl k) closed r old) (in_part r) (Contains-append_cases held new r c)

  -- what is held joined with the new records is the front of all
  pub joined_is : IsClosed view base held → Sorted base → fold join (fold join base (map full_vector held)) (map full_vector new) ≡ fold join base (map full_vector (in_order (held ++ new)))
  joined_is closed sorted =
      sym (fold-append join base (map full_vector held) (map full_vector new)) ∙ ap (fold join base) (sym (map-append full_vector held new))
      ∙ joins_any_order base (held ++ new) (in_order (held ++ new)) sorted (all_in closed) (in_order_in (held ++ new))

-- ---- chains that lack nothing but empty ones

module _ (f : List Record → List Record) where
  pub from_some : (cs : List (List Record)) (c : List Record) → Contains (flat_map (λ d. some_of (f d)) cs) c → Contains (map f cs) c
  from_some [] c within = absurd (in_nothing c within)
  from_some (d ∷ ds) c within = ⊎_elim
      (λ first. subst (λ (l : List Record). Contains (f d ∷ map f ds) l) (only (f d) first) (here (f d) (map f ds)))
      (λ rest. there (f d) (map f ds) c (from_some ds c rest))
      (Contains-append_cases (some_of (f d)) (flat_map (λ e. some_of (f e)) ds) c within)
    where
      only : (l : List Record) → Contains (some_of l) c → l ≡ c
      only [] h = absurd (in_nothing c h)
      only (r ∷ rs) h = ⊎_elim (λ e. e) (λ none. absurd (in_nothing c none)) (in_cons (r ∷ rs) [] c h)

  to_some : (cs : List (List Record)) (c : List Record) (r : Record) → Contains c r → Contains (map f cs) c → Contains (flat_map (λ d. some_of (f d)) cs) c
  to_some [] c r stands within = absurd (in_nothing c within)
  to_some (d ∷ ds) c r stands within = ⊎_elim
      (λ first. Contains-append_left (some_of (f d)) (flat_map (λ e. some_of (f e)) ds) c (subst (λ (l : List Record). Contains (some_of (f d)) l) first (itself (f d) (subst (λ (l : List Record). Contains l r) (sym first) stands))))
      (λ rest. Contains-append_right (some_of (f d)) (flat_map (λ e. some_of (f e)) ds) c (to_some ds c r stands rest))
      (in_cons (f d) (map f ds) c within)
    where
      itself : (l : List Record) → Contains l r → Contains (some_of l) l
      itself [] h = absurd (in_nothing r h)
      itself (x ∷ xs) h = here (x ∷ xs) []

  pub with_empty : (view : View) (base : Vector) (held : List Record) (cs : List (List Record)) (new : List Record) → IsNewPart view base held (flat_map (λ d. some_of (f d)) cs) new → IsNewPart view base held (map f cs) new
  with_empty view base held cs new part = record {
    ascending = part.ascending;
    fresh = part.fresh;
    within = part.within;
    largest = record {
      part = λ r c. onto r (part.largest.part r c);
      closed = part.largest.closed;
      largest = λ t within closed r c. part.largest.largest t (λ q k. back q (within q k)) closed r c;
    };
  }
    where
      onto : (r : Record) → IsAvailable view base held (flat_map (λ d. some_of (f d)) cs) r → IsAvailable view base held (map f cs) r
      onto r (inl old) = inl old
      onto r (inr w) = inr (w.0, from_some cs w.0 w.1, w.2, w.3)

      back : (r : Record) → IsAvailable view base held (map f cs) r → IsAvailable view base held (flat_map (λ d. some_of (f d)) cs) r
      back r (inl old) = inl old
      back r (inr w) = inr (w.0, to_some cs w.0 r (from_filter (λ (q : Record). nat_lt (held_to base held r.owner) q.seq) w.0 r w.3).0 w.1, w.2, w.3)
