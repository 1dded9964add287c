-- A floor names one set of records, where no names collide.
use Rattle.std.proofs.Common.{◌≡◌, ℕ, List, [], Option, Some, None, sym, ◌∙◌, subst, Contains}
use Rattle.std.specs.Ordering.{eq_by_cmp}
use Rattle.ivy_base.specs.declared.key.PubKey.{PubKey}
use Rattle.ivy_base.specs.Naming.{IsCollisionFree, head_key_of, owner_cmp}
use Rattle.log_model.specs.Closed.{log_of}
use Rattle.log_model.specs.Record.{Record}
use Rattle.log_model.specs.Standing.{Stand, StandsAmong}
use Rattle.log_model.specs.Vector.{Stamp, Vector, stamp_at}
use Rattle.log_model.specs.View.{View}
use Rattle.log_model.proofs.Lists.{each, each_from, from_filter, in_filter}
use Rattle.log_model.proofs.Sets.{same_list}
use Rattle.log_model.proofs.Owners.{owner_itself}
use Rattle.turn_model.specs.Known.{EndsAt, IsKnown}
use Rattle.turn_laws.proofs.OneChain.{one_chain}
use Rattle.world_laws.specs.Laws.{KnownIsUnique}

pub stand_in_log : (met : List (List ℕ)) (owner : PubKey) (s : List Record) → Stand met s → Stand met (log_of owner s)
stand_in_log met owner s h = each_from (StandsAmong met) (log_of owner s) (λ r c. each (StandsAmong met) s r h (from_filter (λ (q : Record). eq_by_cmp owner_cmp owner q.owner) s r c).0)

module _ (met : List (List ℕ)) (apart : IsCollisionFree met) (view : View) (floor : Vector) (known other : List Record) (f : IsKnown view floor known) (g : IsKnown view floor other)
    (stands : Stand met known) (stands_too : Stand met other) where
  same_log : (owner : PubKey) → Contains view.members owner → log_of owner known ≡ log_of owner other
  same_log owner member = by (stamp_at floor (head_key_of owner)) (f.ends owner member) (g.ends owner member)
    where
      by : (o : Option Stamp) → EndsAt o (log_of owner known) → EndsAt o (log_of owner other) → log_of owner known ≡ log_of owner other
      by None none none_too = none ∙ sym none_too
      by (Some t) ends ends_too = one_chain (record { blocks = met; view = view; floor = [] }) apart owner t (log_of owner known) (log_of owner other)
          (record { chain_of_log = f.chains owner; stand = stand_in_log met owner known stands; ends = ends; passes = tt })
          (record { chain_of_log = g.chains owner; stand = stand_in_log met owner other stands_too; ends = ends_too; passes = tt })

  pub in_other : (r : Record) → Contains known r → Contains other r
  in_other r c =
      let own = in_filter (λ (q : Record). eq_by_cmp owner_cmp r.owner q.owner) known r c (owner_itself r.owner) in
      (from_filter (λ (q : Record). eq_by_cmp owner_cmp r.owner q.owner) other r
      (subst (λ (l : List Record). Contains l r) (same_log r.owner (each (λ (q : Record). Contains view.members q.owner) known r f.members c)) own)).0

pub known_is_unique : KnownIsUnique
known_is_unique met view floor known other apart f g stands stands_too =
    same_list known other f.ascending g.ascending (in_other met apart view floor known other f g stands stands_too) (in_other met apart view floor other known g f stands_too stands)
