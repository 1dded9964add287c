-- How far the front of a closed set over a basis goes.
use Rattle.std.proofs.Common.{◌≡◌, ⊎_elim, ℕ, ◌+◌, ◌<◌, ◌≤◌, true, List, [], ◌∷◌, length, map, refl, sym, ap, ◌∙◌, subst, arith, Contains}
use Rattle.std.specs.Prelude.{IsTrue, fold}
use Rattle.std.specs.List.{AllByRecursion}
use Rattle.ivy_base.specs.declared.key.Key.{Key}
use Rattle.ivy_base.specs.declared.key.PubKey.{PubKey}
use Rattle.ivy_base.specs.Naming.{head_key_of}
use Rattle.log_model.specs.View.{View, IsView, is_member, is_named}
use Rattle.log_model.specs.Vector.{Entry, Vector, join, reach, seq_of, stamp_at}
use Rattle.log_model.specs.Record.{Record}
use Rattle.log_model.specs.Rank.{full_vector, own_entry}
use Rattle.log_model.specs.Chain.{IsGood}
use Rattle.log_model.specs.Closed.{log_of}
use Rattle.log_model.proofs.Lists.{each, each_from}
use Rattle.log_model.proofs.Part.{found_stamp, numbers_below}
use Rattle.log_model.proofs.Weights.{Sorted}
use Rattle.causal_order.specs.Available.{held_to}
use Rattle.causal_order.specs.Over.{HasCauses, IsClosed, IsMet}
use Rattle.causal_order.proofs.Fronts.{stamp_there}
use Rattle.causal_order.proofs.Logs.{good_over, numbers_over}
use Rattle.causal_order.proofs.Passes.{in_log}
use Rattle.turn_laws.proofs.Entries.{each_joins, each_with_entry}
use Rattle.turn_laws.proofs.Heads.{member_is, member_named, one_member}

module _ (view : View) (base : Vector) (s : List Record) (closed : IsClosed view base s) where
  pub good_in : (r : Record) → Contains s r → IsGood view r.owner r
  good_in r c = each (IsGood view r.owner) (log_of r.owner s) r (good_over view r.owner (stamp_at base (head_key_of r.owner)) (log_of r.owner s) (closed.chains r.owner)) (in_log r.owner s r c refl)

  pub member_in : (r : Record) → Contains s r → Contains view.members r.owner
  member_in r c = each (λ q. Contains view.members q.owner) s r closed.members c

  -- it names logs of the view
  pub front_named : AllByRecursion (λ e. IsTrue (is_named view e.0)) base → AllByRecursion (λ e. IsTrue (is_named view e.0)) (fold join base (map full_vector s))
  front_named below = each_joins (λ e. IsTrue (is_named view e.0)) base s below
      (each_from (λ r. AllByRecursion (λ e. IsTrue (is_named view e.0)) (full_vector r)) s
      (λ r c. each_with_entry (λ e. IsTrue (is_named view e.0)) r.vector (own_entry r) (good_in r c).named (member_named view r.owner (member_in r c))))

  module _ (well : IsView view) (sorted : Sorted base) (owner : PubKey) (n : ℕ) (member : Contains view.members owner) (low : seq_of base (head_key_of owner) ≤ n)
      (few : (r : Record) → Contains s r → r.owner ≡ owner → r.seq ≤ n) where
    abbrev Within : Entry → Type 0
    Within e = e.0 ≡ head_key_of owner → e.1.seq ≤ n

    of_record : (r : Record) → Contains s r → head_key_of r.owner ≡ head_key_of owner → r.seq ≤ n
    of_record r c e = few r c (one_member view r.owner owner well (member_in r c) member e)

    in_base : (e : Entry) → Contains base e → Within e
    in_base e c is =
        let at : seq_of base e.0 ≡ e.1.seq = ap reach (stamp_there e.0 base e.1 sorted c) in
        let same : seq_of base e.0 ≡ seq_of base (head_key_of owner) = ap (λ (k : Key). seq_of base k) is in
        omega (arith, at, same, low)

    cited : (r : Record) → Contains s r → (e : Entry) → Contains r.vector e → Within e
    cited r c e in_vector is =
        let of_member : is_member view e.0 ≡ true = subst (λ (k : Key). is_member view k ≡ true) (sym is) (member_is view owner member) in
        let same : seq_of base e.0 ≡ seq_of base (head_key_of owner) = ap (λ (k : Key). seq_of base k) is in
        ⊎_elim
        (⊎_elim (λ less. omega (arith, less, same, low)) (λ at. let there : seq_of base e.0 ≡ e.1.seq = ap reach at in omega (arith, there, same, low)))
        (λ w.
        let le = of_record w.0 w.1 (ap (λ (x : Entry). x.0) w.2.cited ∙ is) in
        let seqs : w.0.seq ≡ e.1.seq = ap (λ (x : Entry). x.1.seq) w.2.cited in
        omega (arith, le, seqs))
        (each (IsMet view base s r) r.vector e (each (HasCauses view base s) s r closed.causes c) in_vector of_member)

    -- in a member's log it goes no further than the basis and the set's records of that log
    pub front_reaches : seq_of (fold join base (map full_vector s)) (head_key_of owner) ≤ n
    front_reaches =
        let v : Vector = fold join base (map full_vector s) in
        let all = each_joins Within base s (each_from Within base in_base)
        (each_from (λ r. AllByRecursion Within (full_vector r)) s (λ r c. each_with_entry Within r.vector (own_entry r) (each_from Within r.vector (cited r c)) (of_record r c))) in
        ⊎_elim
        (λ none. let zero : seq_of v (head_key_of owner) ≡ 0 = ap reach none in omega (arith, zero))
        (λ f. let le : f.0.1.seq ≤ n = each Within v f.0 all f.1 f.2 in let there : seq_of v (head_key_of owner) ≡ f.0.1.seq = ap reach f.3 in omega (arith, le, there))
        (found_stamp v (head_key_of owner))

  -- in a member's log it goes to the newest record that is held
  pub held_reaches : IsView view → Sorted base → (owner : PubKey) → Contains view.members owner → seq_of (fold join base (map full_vector s)) (head_key_of owner) ≤ held_to base s owner
  held_reaches well sorted owner member =
      let o = stamp_at base (head_key_of owner) in
      let rs : List Record = log_of owner s in
      front_reaches well sorted owner (held_to base s owner) member (omega arith)
      (λ r c e. let less : r.seq < reach o + 1 + length rs = each (λ q. q.seq < reach o + 1 + length rs) rs r (numbers_below (reach o + 1) (reach o + 1 + length rs) rs refl (numbers_over view owner o rs (closed.chains owner))) (in_log owner s r c e) in
      omega (arith, less))
