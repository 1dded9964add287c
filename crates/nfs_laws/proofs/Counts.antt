-- A closed set has no more records than its members may make.
use Rattle.std.proofs.Common.{◌≡◌, ◌⊎◌, inl, inr, ℕ, ◌+◌, ◌*◌, ◌≤◌, Bool, true, false, cond, List, [], ◌∷◌, length, sym, subst, Contains, arith}
use Rattle.std.specs.List.{AllByRecursion}
use Rattle.std.specs.Ordering.{eq_by_cmp}
use Rattle.ivy_base.specs.declared.key.PubKey.{PubKey}
use Rattle.ivy_base.specs.Naming.{owner_cmp}
use Rattle.log_model.specs.Chain.{IsGood, IsChain}
use Rattle.log_model.specs.Closed.{log_of, IsClosed}
use Rattle.log_model.specs.Record.{Record}
use Rattle.log_model.specs.Spelling.{most_records}
use Rattle.log_model.specs.View.{View, most_members}
use Rattle.log_model.proofs.Lists.{in_nothing, in_cons}
use Rattle.log_model.proofs.Owners.{owner_itself}
use Rattle.log_model.proofs.Part.{Numbered, numbered, chain_good}

-- ---- one log

few_numbered : (view : View) (owner : PubKey) (n : ℕ) (rs : List Record) → Numbered n rs → AllByRecursion (IsGood view owner) rs → n ≤ most_records + 1 → n + length rs ≤ most_records + 1
few_numbered view owner n [] numbers good within = omega (arith, within)
few_numbered view owner n (r ∷ rs) numbers good within =
    let seq : r.seq ≡ n = numbers.0 in
    let rest = few_numbered view owner (n + 1) rs numbers.1 good.1 (omega (arith, seq, good.0.spelled.few)) in
    omega (arith, rest)

few_in_chain : (view : View) (owner : PubKey) (rs : List Record) → IsChain view owner rs → length rs ≤ most_records
few_in_chain view owner rs chain = let few = few_numbered view owner 1 rs (numbered view owner rs chain) (chain_good view owner rs chain) (omega arith) in omega (arith, few)

-- ---- the logs of these owners

abbrev in_logs : List PubKey → List Record → ℕ
in_logs [] s = 0
in_logs (owner ∷ owners) s = length (log_of owner s) + in_logs owners s

no_fewer : (owner : PubKey) (r : Record) (s : List Record) → length (log_of owner s) ≤ length (log_of owner (r ∷ s))
no_fewer owner r s = by (eq_by_cmp owner_cmp owner r.owner)
  where
    by : (b : Bool) → length (log_of owner s) ≤ length (cond b (r ∷ log_of owner s) (log_of owner s))
    by true = omega arith
    by false = omega arith

its_own : (r : Record) (s : List Record) → length (log_of r.owner (r ∷ s)) ≡ length (log_of r.owner s) + 1
its_own r s = by (eq_by_cmp owner_cmp r.owner r.owner) (owner_itself r.owner)
  where
    by : (b : Bool) → b ≡ true → length (cond b (r ∷ log_of r.owner s) (log_of r.owner s)) ≡ length (log_of r.owner s) + 1
    by true h = omega arith
    by false h = cc

none_fewer : (owners : List PubKey) (r : Record) (s : List Record) → in_logs owners s ≤ in_logs owners (r ∷ s)
none_fewer [] r s = omega arith
none_fewer (owner ∷ owners) r s = omega (arith, no_fewer owner r s, none_fewer owners r s)

one_more : (owners : List PubKey) (r : Record) (s : List Record) → Contains owners r.owner → in_logs owners s + 1 ≤ in_logs owners (r ∷ s)
one_more [] r s owned = absurd (in_nothing r.owner owned)
one_more (owner ∷ owners) r s owned = by (in_cons owner owners r.owner owned) (λ other. one_more owners r s other)
  where
    by : (owner ≡ r.owner) ⊎ Contains owners r.owner → (Contains owners r.owner → in_logs owners s + 1 ≤ in_logs owners (r ∷ s))
        → in_logs (owner ∷ owners) s + 1 ≤ in_logs (owner ∷ owners) (r ∷ s)
    by (inl own) again =
        let longer : length (log_of owner (r ∷ s)) ≡ length (log_of owner s) + 1 = subst (λ (o : PubKey). length (log_of o (r ∷ s)) ≡ length (log_of o s) + 1) (sym own) (its_own r s) in
        omega (arith, longer, none_fewer owners r s)
    by (inr other) again = omega (arith, no_fewer owner r s, again other)

all_in_logs : (owners : List PubKey) (s : List Record) → AllByRecursion (λ r. Contains owners r.owner) s → length s ≤ in_logs owners s
all_in_logs owners [] owned = omega arith
all_in_logs owners (r ∷ s) owned = omega (arith, all_in_logs owners s owned.1, one_more owners r s owned.0)

few_in_logs : (view : View) (owners : List PubKey) (s : List Record) → ((owner : PubKey) → IsChain view owner (log_of owner s)) → in_logs owners s ≤ length owners * most_records
few_in_logs view [] s chains = omega arith
few_in_logs view (owner ∷ owners) s chains = omega (arith, few_in_chain view owner (log_of owner s) (chains owner), few_in_logs view owners s chains)

pub few_in_closed : (view : View) (s : List Record) → length view.members ≤ most_members → IsClosed view s → length s ≤ most_members * most_records
few_in_closed view s few closed = omega (arith, few, all_in_logs view.members s closed.members, few_in_logs view view.members s closed.chains)
