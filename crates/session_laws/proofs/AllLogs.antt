-- The logs of all members, each by its own part of what was brought.
use Rattle.std.proofs.Common.{◌≡◌, ℕ, ◌<◌, true, List, [], Option, Some, None, Ok, refl, sym, subst, Contains}
use Rattle.ivy_base.specs.declared.key.PubKey.{PubKey}
use Rattle.ivy_base.specs.Naming.{head_key_of, owner_cmp}
use Rattle.std.specs.Ordering.{eq_by_cmp}
use Rattle.log_model.specs.Vector.{Stamp, Vector, stamp_at}
use Rattle.log_model.specs.Record.{Record}
use Rattle.log_model.specs.Closed.{log_of}
use Rattle.log_model.specs.Standing.{StandsAmong, Stand}
use Rattle.log_model.proofs.Lists.{here, each, each_from, in_filter, from_filter}
use Rattle.log_model.proofs.Owners.{owner_itself}
use Rattle.turn_model.specs.Known.{IsKnown}
use Rattle.agent_model.specs.Standing.{Standing, Chain, edge_at}
use Rattle.agent_model.specs.Candidates.{BringsOf}
use Rattle.session_model.specs.Brought.{BlockOf, heads_at}
use Rattle.session_model.specs.Walks.{LogEnd}
use Rattle.session_model.specs.Refreshing.{chains_of}
use Rattle.std.specs.List.{AllByRecursion}
use Rattle.ivy_base.specs.Naming.{IsCollisionFree}
use Rattle.log_model.specs.View.{IsView}
use Rattle.log_model.specs.Vector.{seq_of}
use Rattle.log_model.specs.Fetched.{HasRecord}
use Rattle.causal_order.specs.Available.{above}
use Rattle.agent_model.specs.Standing.{go_on_from}
use Rattle.session_model.specs.Brought.{Brought}
use Rattle.session_model.specs.Refreshing.{Note, FetchesAll, Done}
use Rattle.session_laws.specs.Bringing.{AreMet, StartsFrom, FetchedIsBrought, FloorIsBrought}
use Rattle.session_laws.proofs.Cuts.{StartsIn, IsLogKnown}
use Rattle.session_laws.proofs.OneLog.{log_brought, floor_brought}
use Rattle.session_laws.proofs.OwnParts.{apart_keys, HasPart, given_chain, one_at_most, chains_owned, parts, heads_same}

-- ---- the law

-- the held record is one of those known of its log
starts_in : (s : Standing) (start : Vector) (knew : List Record) (owner : PubKey) → Contains s.view.members owner → StartsFrom s start knew → (h : Option Stamp) → stamp_at start (head_key_of owner) ≡ h
    → StartsIn h (edge_at s (head_key_of owner)) (log_of owner knew)
starts_in s start knew owner member from None e = tt
starts_in s start knew owner member from (Some t) e =
    let w = from owner member t e in
    (w.0, in_filter (λ (x : Record). eq_by_cmp owner_cmp owner x.owner) knew w.0 w.1 (subst (λ (o : PubKey). eq_by_cmp owner_cmp owner o ≡ true) (sym w.2) (owner_itself owner)), w.3, w.4)

log_known : (met : List (List ℕ)) (s : Standing) (knew : List Record) (owner : PubKey) → Contains s.view.members owner → IsKnown s.view s.floor knew → Stand met knew
    → IsLogKnown met s.view owner (stamp_at s.floor (head_key_of owner)) (log_of owner knew)
log_known met s knew owner member is_known stand = record {
  chain = is_known.chains owner;
  stand = each_from (StandsAmong met) (log_of owner knew) (λ r c. each (StandsAmong met) knew r stand (from_filter (λ (x : Record). eq_by_cmp owner_cmp owner x.owner) knew r c).0);
  ends = is_known.ends owner member;
}

pub fetched_is_brought : FetchedIsBrought
fetched_is_brought met s start knew brought notes chains basis apart well is_known stand from are fetches =
    let owners_apart = apart_keys s.view.members s.view.former well.apart in
    let all_parts = parts s start fetches refl owners_apart in
    record {
      members = each_from (λ (c : Chain). Contains s.view.members c.owner) chains (λ c w. chains_owned s start fetches c w);
      once = λ c d w v e.
          let p = each (HasPart s start brought chains) s.view.members c.owner all_parts (chains_owned s start fetches c w) in
          one_at_most s start c.owner p.end c d (p.just c w refl) (p.just d v (sym e));
      each = each_from (BringsOf (record { heads = heads_at brought; met = met; standing = s; knew = knew }) s.view (record { started = start; chains = chains; basis = basis })) s.view.members (λ owner member.
          let p = each (HasPart s start brought chains) s.view.members owner all_parts member in
          log_brought met apart s start knew owner (log_known met s knew owner member is_known stand)
          (starts_in s start knew owner member from (stamp_at start (head_key_of owner)) refl)
          (heads_at brought) chains basis p.fetches p.through
          (λ key bytes c. are key bytes (p.among (BlockOf key (Ok bytes)) c))
          (λ came found. heads_same s start owner brought chains p came found)
          (p.has, p.just));
    }

-- the chain that has the floor's record
pub record HasFloorChain (s : Standing) (start : Vector) (chains : List Chain) (owner : PubKey) (t : Stamp) : Type 0 where
  pub records : List Record
  pub within : Contains chains (given_chain s start owner records)
  pub has : HasRecord t records
  pub owned : AllByRecursion (λ r. r.owner ≡ owner) records
  pub beyond : above (seq_of start (head_key_of owner)) records ≡ records
  pub goes_on : go_on_from (stamp_at start (head_key_of owner)) records ≡ true

module _ (met : List (List ℕ)) (s : Standing) (start : Vector) (knew : List Record) (brought : List Brought) (notes : List Note) (chains : List Chain) (apart : IsCollisionFree met) (well : IsView s.view) (is_known : IsKnown s.view s.floor knew) (stand : Stand met knew) (from : StartsFrom s start knew) (are : AreMet met brought) (fetches : FetchesAll (record { standing = s; start = start }) s.view.members brought notes chains Done) where
  pub floor_chain : (owner : PubKey) (t : Stamp) → Contains s.view.members owner → stamp_at s.floor (head_key_of owner) ≡ Some t → seq_of start (head_key_of owner) < t.seq → HasFloorChain s start chains owner t
  floor_chain owner t member is far =
      let p = each (HasPart s start brought chains) s.view.members owner (parts s start fetches refl (apart_keys s.view.members s.view.former well.apart)) member in
      let w = floor_brought met apart s start knew owner (log_known met s knew owner member is_known stand)
      (starts_in s start knew owner member from (stamp_at start (head_key_of owner)) refl)
      p.fetches p.through (λ key bytes c. are key bytes (p.among (BlockOf key (Ok bytes)) c)) t is far in
      let c : Chain = given_chain s start owner w.records in
      record {
        records = w.records;
        within = p.has c (subst (λ (end : LogEnd). Contains (chains_of owner end) c) (sym w.is) (here c []));
        has = w.has;
        owned = w.owned;
        beyond = w.beyond;
        goes_on = w.goes_on;
      }

pub floor_is_brought : FloorIsBrought
floor_is_brought met s start knew brought notes chains apart well is_known stand from are fetches owner t member is far =
    let w = floor_chain met s start knew brought notes chains apart well is_known stand from are fetches owner t member is far in
    (given_chain s start owner w.records, w.within, refl, w.has)
