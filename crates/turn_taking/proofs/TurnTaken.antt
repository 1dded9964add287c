-- What was taken of the chains is what the turn takes of the batch.
use Rattle.std.proofs.Common.{◌≡◌, ⊎_elim, ◌≤◌, Bool, true, false, cond, not, ◌||◌, List, [], ◌∷◌, ◌++◌, filter, map, refl, sym, ap, ◌∙◌, subst, arith, Contains, None, leb-true}
use Rattle.std.specs.Prelude.{flat_map, fold}
use Rattle.std.specs.List.{AllByRecursion, list_all, list_any}
use Rattle.std.specs.Ordering.{eq_by_cmp}
use Rattle.std.proofs.lemmas.List.Elements.{Contains-append_cases}
use Rattle.ivy_base.specs.declared.key.PubKey.{PubKey}
use Rattle.ivy_base.specs.Naming.{head_key_of, owner_cmp}
use Rattle.tree_model.specs.Apply.{empty_tree}
use Rattle.log_model.specs.View.{View, IsView}
use Rattle.log_model.specs.Vector.{Dominates, Stamp, Vector, join, seq_of, stamp_at}
use Rattle.log_model.specs.Record.{Record}
use Rattle.log_model.specs.Rank.{full_vector}
use Rattle.log_model.specs.Replay.{in_order}
use Rattle.log_model.specs.Chain.{IsGood}
use Rattle.log_model.proofs.Lists.{each, from_filter}
use Rattle.log_model.proofs.Later.{seq_with}
use Rattle.log_model.proofs.Sets.{in_order_in}
use Rattle.log_model.proofs.Weights.{Sorted, joins_reach}
use Rattle.tree_model.proofs.Keys.{same_key_itself}
use Rattle.log_model.specs.Fetched.{owner_of}
use Rattle.log_records.specs.Batches.{Batch}
use Rattle.log_records.specs.Records.{records_of}
use Rattle.causal_order.specs.Available.{IsLinked, IsNewPart, held_to}
use Rattle.causal_order.specs.Over.{IsClosed}
use Rattle.causal_order.proofs.Meeting.{from_map}
use Rattle.turn_model.specs.Basis.{Holding}
use Rattle.agent_model.specs.Agent.{joined}
use Rattle.agent_model.specs.Standing.{Chain as Brought, chain_of, dominates, new_in, new_records}
use Rattle.turn_laws.specs.Taking.{refresh_with, within}
use Rattle.agent_model.specs.Turning.{is_behind, is_below_tide, lacks}
use Rattle.turn_taking.specs.Chains.{all_within, as_chain, is_over, new_of}
use Rattle.turn_taking.specs.Steps.{TakesOf, are_above, lacks_one}
use Rattle.turn_taking.specs.Taking.{IsHeld, IsWithin, Takes}
use Rattle.turn_taking.specs.declared.taking.Held.{Held}
use Rattle.turn_taking.specs.declared.taking.Taken.{Taken}
use Rattle.turn_taking.specs.declared.taking.Taken.TheVariants as taken
use Rattle.turn_taking.proofs.Counting.{up_to}
use Rattle.turn_taking.proofs.Dominating.{far, some_fail}
use Rattle.turn_taking.proofs.HeldFront.{front_named, front_reaches, good_in, held_reaches}
use Rattle.turn_taking.proofs.Newly.{new_of_all}
use Rattle.turn_taking.proofs.Parts.{from_some, joined_is, of_chain, with_empty}
use Rattle.turn_taking.proofs.Rows.{linked_good}
use Rattle.turn_taking.proofs.Within.{within_own}

-- the front of what is held, whatever the basis's tree and tide are
pub front_is : (held : Held) → ((h : Holding) → IsHeld held h → held.front.now ≡ joined h) → held.front.now ≡ fold join held.base.now (map full_vector (records_of held.records.now))
front_is held is = is (record { basis = record { front = held.base.now; tide = None; tree = empty_tree }; held = records_of held.records.now }) (record { base = refl; records = refl })

-- a record goes as far as its number
own_reach : (r : Record) → stamp_at r.vector (head_key_of r.owner) ≡ None → seq_of (full_vector r) (head_key_of r.owner) ≡ r.seq
own_reach r none = seq_with r.vector r (head_key_of r.owner) none ∙ ap (λ b. cond b r.seq (seq_of r.vector (head_key_of r.owner))) (same_key_itself (head_key_of r.owner))

each_dominated : (v : Vector) (s : List Record) → AllByRecursion (λ w. Dominates v w) (map full_vector s) → AllByRecursion (λ r. Dominates v (full_vector r)) s
each_dominated v [] h = tt
each_dominated v (r ∷ s) h = (h.0, each_dominated v s h.1)

-- what the fetched chains are to a turn
as_brought : (cs : List (Stamp × List Record)) → map chain_of cs ≡ map as_chain (map (λ (c : Stamp × List Record). c.1) cs)
as_brought [] = refl
as_brought (c ∷ cs) = ap (λ (l : List Brought). chain_of c ∷ l) (as_brought cs)

map_both : (f : Brought → List Record) (cs : List (List Record)) → map f (map as_chain cs) ≡ map (λ c. f (as_chain c)) cs
map_both f [] = refl
map_both f (c ∷ cs) = ap (λ (l : List (List Record)). f (as_chain c) ∷ l) (map_both f cs)

-- of the own log only what the floor names is left
own_few : (view : View) (own : PubKey) (floor : Vector) (d : List Record) (r : Record) → IsLinked view d → Contains (within own floor (as_chain d)) r → r.owner ≡ own → r.seq ≤ seq_of floor (head_key_of own)
own_few view own floor d r linked stands mine =
    let of_d = by (eq_by_cmp owner_cmp own (owner_of d)) stands in
    let owner : owner_of d ≡ own = sym (each (IsGood view (owner_of d)) d r (linked_good view d linked) of_d).owned ∙ mine in
    let w = from_filter (up_to (seq_of floor (head_key_of own))) d r (subst (λ (l : List Record). Contains l r) (within_own own floor d owner) stands) in
    leb-true r.seq (seq_of floor (head_key_of own)) w.1
  where
    by : (b : Bool) → Contains (cond b (filter (up_to (seq_of floor (head_key_of (owner_of d)))) d) d) r → Contains d r
    by true c = (from_filter (up_to (seq_of floor (head_key_of (owner_of d)))) d r c).0
    by false c = c

module _ (held : Held) (b : Batch) (is_front : (h : Holding) → IsHeld held h → held.front.now ≡ joined h) where
  abbrev brought_of : List (List Record)
  brought_of = map (λ (c : Stamp × List Record). c.1) b.chains

  pub is_refused : dominates held.front.now b.held ≡ false → (h : Holding) → IsHeld held h → is_behind held.view.now held.own.now held.floor.now h (refresh_with b None) ≡ true
  is_refused no_more h is =
      ap (λ t. not t || list_any (λ owner. lacks held.floor.now (joined h) (new_records held.own.now held.floor.now h (refresh_with b None)) (head_key_of owner)) held.view.now.members)
      (ap (λ (v : Vector). dominates v b.held) (sym (is_front h is)) ∙ no_more)

  -- what is held of a member's log goes as far as what the refresh began with
  pub began_near : dominates held.front.now b.held ≡ true → IsView held.view.now → IsClosed held.view.now held.base.now (records_of held.records.now) → Sorted held.base.now → (owner : PubKey) → Contains held.view.now.members owner
      → seq_of b.held (head_key_of owner) ≤ held_to held.base.now (records_of held.records.now) owner
  began_near caught_up well closed sorted owner member =
      let as_far = far held.front.now b.held caught_up (head_key_of owner) in
      let front : seq_of held.front.now (head_key_of owner) ≡ seq_of (fold join held.base.now (map full_vector (records_of held.records.now))) (head_key_of owner) = ap (λ (v : Vector). seq_of v (head_key_of owner)) (front_is held is_front) in
      let reached = held_reaches held.view.now held.base.now (records_of held.records.now) closed well sorted owner member in
      omega (arith, as_far, front, reached)

  module _ (linked : AllByRecursion (IsLinked held.view.now) (map (λ (c : Stamp × List Record). c.1) b.chains)) where
    abbrev new_ones : List Record
    new_ones = new_of held.front.now (all_within held.own.now held.floor.now (map (λ (c : Stamp × List Record). c.1) b.chains))

    new_is : (h : Holding) → IsHeld held h → new_records held.own.now held.floor.now h (refresh_with b None) ≡ new_ones
    new_is h is =
        ap (λ (l : List Brought). flat_map (new_in held.own.now held.floor.now h) l) (as_brought b.chains)
        ∙ new_of_all held.view.now held.own.now held.floor.now h (map (λ (c : Stamp × List Record). c.1) b.chains) linked
        ∙ ap (λ (v : Vector). new_of v (all_within held.own.now held.floor.now (map (λ (c : Stamp × List Record). c.1) b.chains))) (sym (is_front h is))

    behind_is : dominates held.front.now b.held ≡ true → (h : Holding) → IsHeld held h → is_behind held.view.now held.own.now held.floor.now h (refresh_with b None) ≡ lacks_one held new_ones
    behind_is caught_up h is =
        let any : Vector → List Record → Bool = λ v new. list_any (λ owner. lacks held.floor.now v new (head_key_of owner)) held.view.now.members in
        ap (λ t. not t || any (joined h) (new_records held.own.now held.floor.now h (refresh_with b None))) (ap (λ (v : Vector). dominates v b.held) (sym (is_front h is)) ∙ caught_up)
        ∙ (λ i. any (sym (is_front h is) i) (new_is h is i))

    tide_is : (h : Holding) → IsHeld held h → is_below_tide held.own.now held.floor.now h (refresh_with b None) ≡ not (are_above held new_ones)
    tide_is h is =
        ap (λ (new : List Record). list_any (λ r. not (is_over h.basis.front r)) new) (new_is h is)
        ∙ some_fail (is_over h.basis.front) new_ones ∙ ap (λ (v : Vector). not (list_all (is_over v) new_ones)) is.base

    module _ (well : IsView held.view.now) (closed : IsClosed held.view.now held.base.now (records_of held.records.now)) (sorted : Sorted held.base.now)
        (below : IsWithin held.view.now held.own.now held.floor.now held.base.now) (within_front : IsWithin held.view.now held.own.now held.floor.now held.front.now) (member : Contains held.view.now.members held.own.now) where
      -- the front is within the floor, whatever was taken
      module _ (new : List Record) (part : IsNewPart held.view.now held.base.now (records_of held.records.now) (all_within held.own.now held.floor.now (map (λ (c : Stamp × List Record). c.1) b.chains)) new) where
        all_of : Vector
        all_of = fold join held.base.now (map full_vector (in_order (records_of held.records.now ++ new)))

        -- of the own log nothing beyond the floor is held
        held_few : (r : Record) → Contains (records_of held.records.now) r → r.owner ≡ held.own.now → r.seq ≤ seq_of held.floor.now (head_key_of held.own.now)
        held_few r c mine =
            let good = good_in held.view.now held.base.now (records_of held.records.now) closed r c in
            let front : Vector = fold join held.base.now (map full_vector (records_of held.records.now)) in
            let reached : seq_of (full_vector r) (head_key_of r.owner) ≤ seq_of front (head_key_of r.owner) =
            each (λ q. Dominates front (full_vector q)) (records_of held.records.now) r (each_dominated front (records_of held.records.now) (joins_reach (map full_vector (records_of held.records.now)) held.base.now)) c (head_key_of r.owner) in
            let own = own_reach r good.spelled.of_others in
            let same : seq_of front (head_key_of r.owner) ≡ seq_of held.front.now (head_key_of held.own.now) =
            (λ i. seq_of (sym (front_is held is_front) i) (head_key_of (mine i))) in
            let low = within_front.own_log in
            omega (arith, reached, own, same, low)

        -- nor new
        new_few : (r : Record) → Contains new r → r.owner ≡ held.own.now → r.seq ≤ seq_of held.floor.now (head_key_of held.own.now)
        new_few r c mine =
            let w = of_chain held.view.now held.base.now (records_of held.records.now) (all_within held.own.now held.floor.now brought_of) new part r c in
            let f : List Record → List Record = λ d. within held.own.now held.floor.now (as_chain d) in
            let d = from_map f brought_of w.0 (from_some f brought_of w.0 w.1) in
            own_few held.view.now held.own.now held.floor.now d.0 r (each (IsLinked held.view.now) brought_of d.0 linked d.1) (subst (λ (l : List Record). Contains l r) (sym d.2) w.2) mine

        all_few : (r : Record) → Contains (in_order (records_of held.records.now ++ new)) r → r.owner ≡ held.own.now → r.seq ≤ seq_of held.floor.now (head_key_of held.own.now)
        all_few r c mine = ⊎_elim (λ old. held_few r old mine) (λ more. new_few r more mine) (Contains-append_cases (records_of held.records.now) new r (in_order_in (records_of held.records.now ++ new) r c))

        stays_within : (v : Vector) → v ≡ fold join held.base.now (map full_vector (in_order (records_of held.records.now ++ new))) → IsWithin held.view.now held.own.now held.floor.now v
        stays_within v e = subst (λ (w : Vector). IsWithin held.view.now held.own.now held.floor.now w) (sym e) (record {
          named = front_named held.view.now held.base.now (in_order (records_of held.records.now ++ new)) part.largest.closed below.named;
          own_log = front_reaches held.view.now held.base.now (in_order (records_of held.records.now ++ new)) part.largest.closed well sorted held.own.now
              (seq_of held.floor.now (head_key_of held.own.now)) member below.own_log all_few;
        })

        joined_front : (v : Vector) → v ≡ fold join held.front.now (map full_vector new) → v ≡ fold join held.base.now (map full_vector (in_order (records_of held.records.now ++ new)))
        joined_front v e =
            e ∙ ap (λ (w : Vector). fold join w (map full_vector new)) (front_is held is_front)
            ∙ joined_is held.view.now held.base.now (records_of held.records.now) (all_within held.own.now held.floor.now brought_of) new part closed sorted

        part_is : (h : Holding) → IsHeld held h → IsNewPart held.view.now h.basis.front h.held (map (within held.own.now held.floor.now) (refresh_with b None).chains) new
        part_is h is =
            let cs : List (List Record) = map (λ d. within held.own.now held.floor.now (as_chain d)) brought_of in
            let same : cs ≡ map (within held.own.now held.floor.now) (map chain_of b.chains) =
            sym (map_both (within held.own.now held.floor.now) brought_of) ∙ ap (λ (l : List Brought). map (within held.own.now held.floor.now) l) (sym (as_brought b.chains)) in
            subst (λ (l : List (List Record)). IsNewPart held.view.now h.basis.front h.held l new) same
            (subst (λ (v : Vector). IsNewPart held.view.now v h.held cs new) (sym is.base)
            (subst (λ (l : List Record). IsNewPart held.view.now held.base.now l cs new) (sym is.records)
            (with_empty (λ d. within held.own.now held.floor.now (as_chain d)) held.view.now held.base.now (records_of held.records.now) brought_of new part)))

      pub takes : dominates held.front.now b.held ≡ true → (t : Taken) → TakesOf held (map (λ (c : Stamp × List Record). c.1) b.chains) t → (h : Holding) → IsHeld held h → Takes held.view.now held.own.now held.floor.now b h t
      takes caught_up taken.Behind is_taken h is = behind_is caught_up h is ∙ is_taken
      takes caught_up taken.BelowTide is_taken h is = (behind_is caught_up h is ∙ is_taken.0, tide_is h is ∙ ap not is_taken.1)
      takes caught_up (taken.New records front) is_taken h is =
          let new : List Record = records_of records.items in
          let joined_all = joined_front new is_taken.2.part front is_taken.2.joined in (
            record {
              caught_up = behind_is caught_up h is ∙ is_taken.0;
              above = tide_is h is ∙ ap not is_taken.1;
              part = part_is new is_taken.2.part h is;
            },
            joined_all ∙ (λ i. fold join (sym is.base i) (map full_vector (in_order (sym is.records i ++ new)))),
            stays_within new is_taken.2.part front joined_all,
          )
