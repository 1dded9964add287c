-- The chains of a batch, as they are kept: whole, near, and each of a log of its own.
use Rattle.std.proofs.Common.{◌≡◌, ℕ, ◌≤◌, List, [], ◌∷◌, sym, ap, ◌∙◌, subst, arith, Contains, Option, Some, None}
use Rattle.std.specs.List.{AllByRecursion}
use Rattle.ivy_base.specs.declared.key.Key.{Key}
use Rattle.ivy_base.specs.declared.key.PubKey.{PubKey}
use Rattle.ivy_base.specs.Naming.{head_key_of}
use Rattle.log_model.specs.View.{View}
use Rattle.log_model.specs.Vector.{Stamp, Vector, reach, seq_of}
use Rattle.log_model.specs.Record.{Record}
use Rattle.log_model.specs.Fetched.{Edge, EndsAtStamp, GoesOnFrom, owner_of, stamp_in}
use Rattle.log_records.specs.declared.batch.Chain.{Chain}
use Rattle.log_records.specs.Batches.{AreUnder, Batch, Extends, IsBatch}
use Rattle.log_records.specs.Kept.{chain_of, chains_of}
use Rattle.log_records.specs.Records.{records_of}
use Rattle.causal_order.specs.Available.{BeginsBy, IsFetched, held_to}
use Rattle.causal_order.specs.Kept.{newest_name}
use Rattle.causal_order.proofs.Beginning.{are_fetched}
use Rattle.causal_order.proofs.Fetched.{batches_are_fetched}
use Rattle.causal_order.proofs.Places.{newest_push}
use Rattle.turn_taking.specs.Chains.{IsWhole, chains_in}
use Rattle.turn_taking.proofs.Counting.{linked_numbered}
use Rattle.turn_taking.proofs.Rows.{linked_named}

begins : (view : View) (n : ℕ) (o : Option Stamp) (edge : Option Edge) (chain : List Record) → GoesOnFrom view o edge chain → reach o ≤ n → BeginsBy n chain
begins view n o edge [] g le = tt
begins view n None edge (r ∷ rs) g le = let one = g.1.seq in omega (arith, one)
begins view n (Some s) edge (r ∷ rs) g le = let next = g.1 in omega (arith, next, le)

module _ (view : View) (edges : Key → Option Edge) (b : Batch) (base : Vector) (held : List Record) (under : AreUnder view edges b)
    (members : AllByRecursion (λ c. Contains view.members (owner_of c.1)) b.chains)
    (reaches : (owner : PubKey) → Contains view.members owner → seq_of b.held (head_key_of owner) ≤ held_to base held owner) where
  pairs_near : AllByRecursion (λ c. BeginsBy (held_to base held (owner_of c.1)) c.1) b.chains
  pairs_near = by b.chains under members
    where
      by : (cs : List (Stamp × List Record)) → AllByRecursion (λ c. GoesOnFrom view (stamp_in b.held c.1) (edges (head_key_of (owner_of c.1))) c.1) cs → AllByRecursion (λ c. Contains view.members (owner_of c.1)) cs
          → AllByRecursion (λ c. BeginsBy (held_to base held (owner_of c.1)) c.1) cs
      by [] g m = tt
      by (c ∷ cs) g m = (begins view (held_to base held (owner_of c.1)) (stamp_in b.held c.1) (edges (head_key_of (owner_of c.1))) c.1 g.0 (reaches (owner_of c.1) m.0), by cs g.1 m.1)

  module _ (legal : IsBatch b) (kept : List Chain) (same : chains_of kept ≡ b.chains) where
    fetched : AllByRecursion (λ (c : Chain). IsFetched view base held (records_of c.records)) kept
    fetched = are_fetched view base held kept b.chains same (batches_are_fetched view edges b base held legal under members pairs_near)

    newest : (head : Stamp) (chain : List Record) → EndsAtStamp head chain → newest_name None chain ≡ Some head.name
    newest head chain e = ap (newest_name None) e.2 ∙ newest_push None e.0 e.1 ∙ ap (λ (s : Stamp). Some s.name) e.3

    pub brought_whole : AllByRecursion (IsWhole view) kept
    brought_whole = by kept fetched (subst (AllByRecursion (λ (p : Stamp × List Record). Extends b.held b.floor p.0 p.1)) (sym same) legal.extend)
      where
        by : (cs : List Chain) → AllByRecursion (λ (c : Chain). IsFetched view base held (records_of c.records)) cs → AllByRecursion (λ (p : Stamp × List Record). Extends b.held b.floor p.0 p.1) (chains_of cs) → AllByRecursion (IsWhole view) cs
        by [] f e = tt
        by (c ∷ cs) f e = (
          record {
            member = f.0.member;
            linked = f.0.linked;
            row = record {
              numbered = linked_numbered view (records_of c.records) f.0.linked;
              named = linked_named view (records_of c.records) c.head.name f.0.linked (newest (chain_of c).0 (records_of c.records) e.0.ends);
            };
          },
          by cs f.1 e.1,
        )

    pub brought_near : AllByRecursion (λ c. BeginsBy (held_to base held (owner_of c)) c) (chains_in kept)
    brought_near = by kept fetched
      where
        by : (cs : List Chain) → AllByRecursion (λ (c : Chain). IsFetched view base held (records_of c.records)) cs → AllByRecursion (λ c. BeginsBy (held_to base held (owner_of c)) c) (chains_in cs)
        by [] f = tt
        by (c ∷ cs) f = (f.0.near, by cs f.1)
