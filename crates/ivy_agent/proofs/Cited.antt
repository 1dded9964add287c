-- With the newest of good records a front may be cited as before.
use Rattle.std.proofs.Common.{◌≡◌, List, [], ◌∷◌, Option, Some, None, refl, sym, subst, arith, Contains}
use Rattle.std.specs.Prelude.{IsTrue}
use Rattle.std.specs.FinMap.Entries.{is_sorted-put}
use Rattle.std.proofs.lemmas.List.Elements.{Contains-append_right}
use Rattle.ivy_base.specs.declared.key.Key.{Key}
use Rattle.ivy_base.specs.declared.key.PubKey.{PubKey}
use Rattle.ivy_base.specs.Naming.{head_key_of, key_cmp}
use Rattle.tree_model.proofs.Keys.{keys_total}
use Rattle.tree_model.proofs.Sound.{from_test, to_test}
use Rattle.log_model.specs.Chain.{IsGood}
use Rattle.log_model.specs.Rank.{own_entry}
use Rattle.log_model.specs.Record.{Record}
use Rattle.log_model.specs.Vector.{Stamp}
use Rattle.log_model.specs.View.{View, is_named}
use Rattle.log_model.proofs.Later.{name_is_key}
use Rattle.log_model.proofs.Lists.{each, here}
use Rattle.turn_laws.proofs.Entries.{each_put}
use Rattle.turn_laws.proofs.Heads.{member_named}
use Rattle.ivy_agent.specs.Newest.{newest_stamp, with_newest}
use Rattle.ivy_agent.specs.Appended.{MayBeCited, WithNewestMayBeCited}
use Rattle.ivy_agent.proofs.HeadKeys.{head_is_key}
use Rattle.ivy_agent.proofs.Fronts.{newest_is_last}
use Rattle.ivy_agent.proofs.Records.{IsSpelled}

-- the stamp of a good record is spelled
stamp_spelled : (view : View) (own : PubKey) (r : Record) → IsGood view own r → IsSpelled (head_key_of own, (own_entry r).1)
stamp_spelled view own r good =
    let few = good.spelled.few in
    (head_is_key own, good.spelled.some, omega (arith, few), name_is_key r good.spelled)

pub with_newest_may_be_cited : WithNewestMayBeCited
with_newest_may_be_cited view own records f member good cited = by (newest_stamp records) refl
  where
    log : Key
    log = head_key_of own

    by : (o : Option Stamp) → newest_stamp records ≡ o → MayBeCited view (with_newest own o f)
    by None e = cited
    by (Some t) e =
        let w = newest_is_last records t e in
        let last_good : IsGood view own w.1 = each (IsGood view own) records w.1 good (subst (λ (l : List Record). Contains l w.1) (sym w.2) (Contains-append_right w.0 (w.1 ∷ []) w.1 (here w.1 []))) in
        let spelled : IsSpelled (head_key_of own, t) = subst (λ (x : Stamp). IsSpelled (head_key_of own, x)) w.3 (stamp_spelled view own w.1 last_good) in
        record {
          whole = record {
            entries = each_put IsSpelled (head_key_of own) t f cited.whole.entries spelled;
            in_order = to_test _ (is_sorted-put key_cmp keys_total (head_key_of own) t f (from_test _ cited.whole.in_order));
          };
          named = each_put (λ x. IsTrue (is_named view x.0)) (head_key_of own) t f cited.named (member_named view own member);
        }
