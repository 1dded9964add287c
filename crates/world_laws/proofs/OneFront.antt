-- A front names one closed part of a closed set: how far it goes in each log says which records of the log there are.
use Rattle.std.proofs.Common.{◌≡◌, ℕ, ◌+◌, ◌<◌, ◌≤◌, List, length, sym, ap, ◌∙◌, subst, arith, Contains}
use Rattle.ivy_base.specs.declared.key.PubKey.{PubKey}
use Rattle.ivy_base.specs.Naming.{head_key_of}
use Rattle.log_model.specs.Closed.{IsClosed, log_of}
use Rattle.log_model.specs.Rank.{front}
use Rattle.log_model.specs.Record.{Record}
use Rattle.log_model.specs.Vector.{Vector, seq_of}
use Rattle.log_model.specs.View.{View, IsView}
use Rattle.log_model.proofs.Lists.{each}
use Rattle.log_model.proofs.Part.{Numbered, numbered, numbers_below, numbers_from}
use Rattle.log_model.proofs.Sets.{numbered_has, numbered_one, same_list}
use Rattle.turn_laws.proofs.Fronts.{from_log, in_log, reach_of_log}
use Rattle.world_laws.specs.Laws.{FrontIsOfOne}

module _ (view : View) (known one other : List Record) (well : IsView view) (closed : IsClosed view known) (part : IsClosed view one) (also : IsClosed view other)
    (within : (r : Record) → Contains one r → Contains known r) (within_too : (r : Record) → Contains other r → Contains known r) (same : front one ≡ front other) where
  in_other : (r : Record) → Contains one r → Contains other r
  in_other r c = subst (Contains other) is found.0
    where
      owner : PubKey
      owner = r.owner

      member : Contains view.members owner
      member = each (λ (q : Record). Contains view.members q.owner) one r part.members c

      mine : Contains (log_of owner one) r
      mine = in_log owner one r c (λ i. owner)

      numbers : Numbered 1 (log_of owner one)
      numbers = numbered view owner (log_of owner one) (part.chains owner)

      first : 1 ≤ r.seq
      first = each (λ (q : Record). 1 ≤ q.seq) (log_of owner one) r (numbers_from 1 (log_of owner one) numbers 1 (omega arith)) mine

      last : r.seq < 1 + length (log_of owner one)
      last = each (λ (q : Record). q.seq < 1 + length (log_of owner one)) (log_of owner one) r (numbers_below 1 (1 + length (log_of owner one)) (log_of owner one) (λ i. 1 + length (log_of owner one)) numbers) mine

      as_long : length (log_of owner one) ≡ length (log_of owner other)
      as_long = sym (reach_of_log view one owner well part member) ∙ (ap (λ (v : Vector). seq_of v (head_key_of owner)) same ∙ reach_of_log view other owner well also member)

      there_is : (q : Record) × Contains (log_of owner other) q × (q.seq ≡ r.seq)
      there_is = numbered_has 1 (log_of owner other) (numbered view owner (log_of owner other) (also.chains owner)) r.seq first (omega (arith, last, as_long))

      found : Contains other there_is.0 × (there_is.0.owner ≡ owner)
      found = from_log owner other there_is.0 there_is.1

      is : there_is.0 ≡ r
      is = numbered_one 1 (log_of owner known) (numbered view owner (log_of owner known) (closed.chains owner)) there_is.0 r
          (in_log owner known there_is.0 (within_too there_is.0 found.0) found.1) (in_log owner known r (within r c) (λ i. owner)) there_is.2

pub front_is_of_one : FrontIsOfOne
front_is_of_one view known one other well closed part also within within_too same =
    same_list one other part.ascending also.ascending (in_other view known one other well closed part also within within_too same)
    (in_other view known other one well closed also part within_too within (sym same))
