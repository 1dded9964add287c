-- Of what is available there is a largest closed part, where it is of each log one chain.
use Rattle.std.proofs.Common.{◌≡◌, List, refl, sym, subst, Contains}
use Rattle.std.specs.Ordering.{eq_by_cmp}
use Rattle.std.specs.declared.cmp.Ordering.TheVariants.{Equal}
use Rattle.ivy_base.specs.declared.key.PubKey.{PubKey}
use Rattle.ivy_base.specs.Naming.{owner_cmp}
use Rattle.log_model.specs.View.{View}
use Rattle.log_model.specs.Record.{Record}
use Rattle.log_model.specs.Rank.{record_cmp}
use Rattle.log_model.specs.Chain.{IsChain}
use Rattle.log_model.specs.Closed.{log_of, IsClosedPart}
use Rattle.log_model.specs.Part.{closed_part}
use Rattle.log_model.specs.Replay.{in_order}
use Rattle.log_model.proofs.Lists.{each_from}
use Rattle.log_model.proofs.Part.{numbered, closed_part_is}
use Rattle.log_model.proofs.Sets.{in_order_ascends, in_order_in, in_order_has, same_list, chain_ascends, filter_ascends, numbered_one, same_rank_is}
use Rattle.turn_laws.proofs.Fronts.{in_log, from_log}

-- the owner's log of what is available
pub record IsLog (view : View) (Available : Record → Type 0) (owner : PubKey) (log : List Record) : Type 0 where
  pub chain : IsChain view owner log
  pub in_log : (r : Record) → Available r → r.owner ≡ owner → Contains log r
  pub from_log : (r : Record) → Contains log r → Available r × (r.owner ≡ owner)

module _ (view : View) (Available : Record → Type 0) (all : List Record) (from_all : (r : Record) → Contains all r → Available r) (in_all : (r : Record) → Available r → Contains all r)
    (members : (r : Record) → Available r → Contains view.members r.owner) (a_log : (owner : PubKey) → (log : List Record) × IsLog view Available owner log) where
  -- one record of each rank, so all of them stand in their order
  pub one_each : (q r : Record) → Available q → Available r → record_cmp q r ≡ Equal → q ≡ r
  one_each q r a b rank =
      let same = same_rank_is q r rank in
      let log = a_log r.owner in
      numbered_one 1 log.0 (numbered view r.owner log.0 log.1.chain) q r (log.1.in_log q a same.0) (log.1.in_log r b refl) same.1

  pub stands : (r : Record) → Available r → Contains (in_order all) r
  stands r a =
      let w = in_order_has all r (in_all r a) in
      subst (λ (y : Record). Contains (in_order all) y) (sym (one_each r w.0 a (from_all w.0 (in_order_in all w.0 w.1)) w.2)) w.1

  pub available : (r : Record) → Contains (in_order all) r → Available r
  available r c = from_all r (in_order_in all r c)

  chains : (owner : PubKey) → IsChain view owner (log_of owner (in_order all))
  chains owner =
      let log = a_log owner in
      let same : log.0 ≡ log_of owner (in_order all) = same_list log.0 (log_of owner (in_order all)) (chain_ascends view owner log.0 log.1.chain)
      (filter_ascends (λ (x : Record). eq_by_cmp owner_cmp owner x.owner) (in_order all) (in_order_ascends all))
      (λ r c. (let w = log.1.from_log r c in in_log owner (in_order all) r (stands r w.0) w.1))
      (λ r c. (let w = from_log owner (in_order all) r c in log.1.in_log r (available r w.0) w.1)) in
      subst (λ (l : List Record). IsChain view owner l) same log.1.chain

  pub largest_part : IsClosedPart view Available (closed_part view (in_order all))
  largest_part =
      let part = closed_part_is view (in_order all) (in_order_ascends all) (each_from (λ r. Contains view.members r.owner) (in_order all) (λ r c. members r (available r c))) chains in
      record {
        part = λ r c. available r (part.part r c);
        closed = part.closed;
        largest = λ t within closed r c. part.largest t (λ q d. stands q (within q d)) closed r c;
      }
