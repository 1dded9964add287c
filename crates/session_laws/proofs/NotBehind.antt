-- A refresh that is done isn't behind where the agent goes on from what it started from.
use Rattle.std.proofs.Common.{◌≡◌, ℕ, ◌<◌, Bool, true, false, cond, not, ◌&&◌, ◌||◌, List, [], ◌∷◌, Option, Some, None, refl, sym, ap, ◌∙◌, subst, arith, filter, le-leb, ltb-true, eq-eqb, Contains}
use Rattle.std.specs.Prelude.{◌==◌, nat_lt, nat_le, IsTrue}
use Rattle.std.specs.Option.{option_map_or}
use Rattle.std.specs.List.{AllByRecursion, list_any}
use Rattle.std.specs.FinMap.Entries.{is_sorted}
use Rattle.std.specs.Ordering.{eq_by_cmp}
use Rattle.ivy_base.specs.declared.key.Key.{Key}
use Rattle.ivy_base.specs.declared.key.PubKey.{PubKey}
use Rattle.ivy_base.specs.Naming.{IsCollisionFree, head_key_of, key_cmp, owner_cmp}
use Rattle.tree_model.specs.Tree.{same_key}
use Rattle.tree_model.proofs.Keys.{keys_total, same_key_itself}
use Rattle.log_model.specs.View.{IsView}
use Rattle.log_model.specs.Vector.{Stamp, Entry, Vector, stamp_at, seq_of, reach}
use Rattle.log_model.specs.Record.{Record}
use Rattle.log_model.specs.Standing.{Stand}
use Rattle.log_model.proofs.Lists.{both, each, each_from, in_filter, some_passes, all_pass}
use Rattle.turn_model.specs.Basis.{Basis, Holding}
use Rattle.turn_model.specs.Known.{IsKnown}
use Rattle.agent_model.specs.Agent.{joined}
use Rattle.agent_model.specs.Standing.{Standing, Chain, Refresh, dominates, beyond, go_on_from, new_in, new_records}
use Rattle.agent_model.specs.Turning.{is_there, lacks, is_behind}
use Rattle.session_model.specs.Brought.{Brought}
use Rattle.session_model.specs.Refreshing.{Note, FetchesAll, Done}
use Rattle.session_laws.specs.Bringing.{AreMet, StartsFrom}
use Rattle.snapshot_model.proofs.SortedEntries.{each_found}
use Rattle.session_laws.proofs.OwnParts.{given_chain, to_flat_map}
use Rattle.session_laws.proofs.AllLogs.{HasFloorChain, floor_chain}

-- a vector goes as far as itself
as_far : (v : Vector) → is_sorted key_cmp v ≡ true → dominates v v ≡ true
as_far v sorted = all_pass (λ (e : Entry). nat_le e.1.seq (seq_of v e.0)) v (λ e c.
    let found : stamp_at v e.0 ≡ Some e.1 = each (λ (d : Entry). stamp_at v d.0 ≡ Some d.1) v e (each_found key_cmp keys_total v sorted) c in
    let same : seq_of v e.0 ≡ e.1.seq = ap reach found in
    le-leb e.1.seq (seq_of v e.0) (omega (arith, same)))

pub none_passes : {X : Type 0} (test : X → Bool) (xs : List X) → AllByRecursion (λ x. test x ≡ false) xs → list_any test xs ≡ false
none_passes test [] h = refl
none_passes test (x ∷ xs) h = neither (test x) (list_any test xs) h.0 (none_passes test xs h.1)
  where
    neither : (a b : Bool) → a ≡ false → b ≡ false → (a || b) ≡ false
    neither true b f g = f
    neither false b f g = g

module _ (s : Standing) (start : Vector) (chains : List Chain) (h : Holding) (same : joined h ≡ start) where
  -- the records of the chain with the floor's record are all beyond what is held
  chain_beyond : (owner : PubKey) (t : Stamp) (f : HasFloorChain s start chains owner t) → beyond (joined h) (given_chain s start owner f.records) ≡ f.records
  chain_beyond owner t f = subst (λ (v : Vector). beyond v (given_chain s start owner f.records) ≡ f.records) (sym same) (by f.records f.beyond f.goes_on)
    where
      by : (rs : List Record) → filter (λ r. nat_lt (seq_of start (head_key_of owner)) r.seq) rs ≡ rs → go_on_from (stamp_at start (head_key_of owner)) rs ≡ true
          → beyond start (given_chain s start owner rs) ≡ rs
      by rs all on =
          ap (λ (l : List Record). cond (go_on_from (stamp_at start (head_key_of owner)) l) l []) all
          ∙ ap (λ (b : Bool). cond b rs []) on

  -- so the floor's record is new
  is_new : (owner : PubKey) (t : Stamp) (f : HasFloorChain s start chains owner t) → stamp_at s.floor (head_key_of owner) ≡ Some t → Contains (new_in s.own s.floor h (given_chain s start owner f.records)) f.has.0
  is_new owner t f is = by (eq_by_cmp owner_cmp s.own owner)
    where
      among : Contains (beyond (joined h) (given_chain s start owner f.records)) f.has.0
      among = subst (λ (l : List Record). Contains l f.has.0) (sym (chain_beyond owner t f)) f.has.1

      within : nat_le f.has.0.seq (seq_of s.floor (head_key_of owner)) ≡ true
      within =
          let reached : seq_of s.floor (head_key_of owner) ≡ t.seq = ap reach is in
          let number : f.has.0.seq ≡ t.seq = ap (λ (x : Stamp). x.seq) f.has.2 in
          le-leb f.has.0.seq (seq_of s.floor (head_key_of owner)) (omega (arith, reached, number))

      by : (b : Bool) → Contains (cond b (filter (λ r. nat_le r.seq (seq_of s.floor (head_key_of owner))) (beyond (joined h) (given_chain s start owner f.records))) (beyond (joined h) (given_chain s start owner f.records))) f.has.0
      by true = in_filter (λ (r : Record). nat_le r.seq (seq_of s.floor (head_key_of owner))) (beyond (joined h) (given_chain s start owner f.records)) f.has.0 among within
      by false = among

  module _ (basis : Option Basis) where
    abbrev given : Refresh
    given = record { started = start; chains = chains; basis = basis }

    floor_there : (owner : PubKey) (t : Stamp) → HasFloorChain s start chains owner t → stamp_at s.floor (head_key_of owner) ≡ Some t → is_there (new_records s.own s.floor h given) (head_key_of owner) t ≡ true
    floor_there owner t f is =
        let r = f.has.0 in
        let owned : r.owner ≡ owner = each (λ (q : Record). q.owner ≡ owner) f.records r f.owned f.has.1 in
        some_passes (λ (q : Record). same_key (head_key_of q.owner) (head_key_of owner) && q.seq == t.seq && same_key q.name t.name) (new_records s.own s.floor h given) r
        (to_flat_map (new_in s.own s.floor h) chains (given_chain s start owner f.records) r f.within (is_new owner t f is))
        (both _ _ (both _ _ (subst (λ (o : PubKey). same_key (head_key_of o) (head_key_of owner) ≡ true) (sym owned) (same_key_itself (head_key_of owner))) (eq-eqb r.seq t.seq (ap (λ (x : Stamp). x.seq) f.has.2)))
        (subst (λ (k : Key). same_key r.name k ≡ true) (ap (λ (x : Stamp). x.name) f.has.2) (same_key_itself r.name)))

    lacks_nothing : (owner : PubKey) → ((t : Stamp) → stamp_at s.floor (head_key_of owner) ≡ Some t → seq_of start (head_key_of owner) < t.seq → HasFloorChain s start chains owner t)
        → lacks s.floor (joined h) (new_records s.own s.floor h given) (head_key_of owner) ≡ false
    lacks_nothing owner chain = by (stamp_at s.floor (head_key_of owner)) refl
      where
        by : (o : Option Stamp) → stamp_at s.floor (head_key_of owner) ≡ o
            → option_map_or (λ t. nat_lt (seq_of (joined h) (head_key_of owner)) t.seq && not (is_there (new_records s.own s.floor h given) (head_key_of owner) t)) o false ≡ false
        by None e = refl
        by (Some t) e = chosen (nat_lt (seq_of (joined h) (head_key_of owner)) t.seq) refl
          where
            chosen : (b : Bool) → nat_lt (seq_of (joined h) (head_key_of owner)) t.seq ≡ b → (b && not (is_there (new_records s.own s.floor h given) (head_key_of owner) t)) ≡ false
            chosen false near = refl
            chosen true far =
                let started : seq_of (joined h) (head_key_of owner) ≡ seq_of start (head_key_of owner) = ap (λ (v : Vector). seq_of v (head_key_of owner)) same in
                let beyond_start = ltb-true (seq_of (joined h) (head_key_of owner)) t.seq far in
                ap not (floor_there owner t (chain t e (omega (arith, started, beyond_start))) e)

    not_behind : is_sorted key_cmp start ≡ true
        → ((owner : PubKey) (t : Stamp) → Contains s.view.members owner → stamp_at s.floor (head_key_of owner) ≡ Some t → seq_of start (head_key_of owner) < t.seq → HasFloorChain s start chains owner t)
        → is_behind s.view s.own s.floor h given ≡ false
    not_behind sorted chain =
        let far : dominates (joined h) start ≡ true = subst (λ (v : Vector). dominates v start ≡ true) (sym same) (as_far start sorted) in
        let none = none_passes (λ (owner : PubKey). lacks s.floor (joined h) (new_records s.own s.floor h given) (head_key_of owner)) s.view.members
        (each_from (λ (owner : PubKey). lacks s.floor (joined h) (new_records s.own s.floor h given) (head_key_of owner) ≡ false) s.view.members (λ owner member. lacks_nothing owner (λ t is far. chain owner t member is far))) in
        by (dominates (joined h) start) (list_any (λ (owner : PubKey). lacks s.floor (joined h) (new_records s.own s.floor h given) (head_key_of owner)) s.view.members) far none
      where
        by : (a b : Bool) → a ≡ true → b ≡ false → (not a || b) ≡ false
        by true b f g = g
        by false b f g = cc f

-- of a fetch that is done
pub fetch_not_behind : (met : List (List ℕ)) (s : Standing) (start : Vector) (knew : List Record) (brought : List Brought) (notes : List Note) (chains : List Chain) (basis : Option Basis) (h : Holding)
    → IsCollisionFree met → IsView s.view → IsKnown s.view s.floor knew → Stand met knew → StartsFrom s start knew → AreMet met brought → FetchesAll (record { standing = s; start = start }) s.view.members brought notes chains Done
    → joined h ≡ start → IsTrue (is_sorted key_cmp start) → is_behind s.view s.own s.floor h (record { started = start; chains = chains; basis = basis }) ≡ false
fetch_not_behind met s start knew brought notes chains basis h apart well known stand from are fetches same sorted =
    not_behind s start chains h same basis sorted (floor_chain met s start knew brought notes chains apart well known stand from are fetches)
