-- How a get of a block begins, and a refresh.
use Rattle.std.proofs.Common.{◌≡◌, ◌≢◌, ℕ, ◌+◌, ◌*◌, ◌<◌, ◌≤◌, true, List, [], Option, Some, None, Result, Ok, Err, IfOk, refl, sym, ◌∙◌, subst, arith}
use Rattle.std.specs.List.{AllByRecursion}
use Rattle.ivy_base.specs.declared.key.Key.{Key}
use Rattle.ivy_base.specs.declared.memory.Memory.{Memory}
use Rattle.dht_ids.specs.declared.peer.Peer.{Peer}
use Rattle.dht_ids.specs.declared.post.Post.{Post}
use Rattle.dhash_client.specs.GetBlock.{block_begun}
use Rattle.dhash_client.specs.GetHead.{Judges}
use Rattle.agent_model.specs.SavedBytes.{HasItsName}
use Rattle.snapshot_model.specs.Reading.{Root}
use Rattle.snapshot_loading.specs.Loading.{most_of, wanted_of}
use Rattle.log_fetch.specs.declared.get.Get.{Get}
use Rattle.log_fetch.specs.declared.get.Get.TheVariants as get
use Rattle.log_fetch.specs.declared.get.Progress.{Progress}
use Rattle.log_fetch.specs.declared.get.Progress.TheVariants as progress
use Rattle.log_fetch.specs.declared.standing.Standing.{Standing}
use Rattle.log_fetch.specs.Fetching.{most_asks, most_left}
use Rattle.log_fetch.specs.Gets.{GetIsAfter, GoesTo, IsSameGet, gets_left}
use Rattle.log_fetch.specs.Standings.{standing_of}
use Rattle.log_fetch.proofs.Falling.{first_asks}
use Rattle.log_fetch.proofs.Getting.{block_begin}
use Rattle.log_fetch.proofs.Nothing.{asks_nobody, brings_nothing}
use Rattle.view_refresh.specs.declared.refresh.Loading.{Loading}
use Rattle.view_refresh.specs.declared.refresh.State.{State}
use Rattle.view_refresh.specs.States.{HoldsAlways, IsGetOf, loads_in}
use Rattle.view_refresh.specs.Behind.{RefreshIsAfter}
use Rattle.view_refresh.specs.Parts.{AreFirst, BeginsGet, BeginsWanted, IsFree}
use Rattle.view_refresh.proofs.Placing.{of_fields}

same_some : {T : Type 0} (x y : T) → Some x ≡ Some y → x ≡ y
same_some x y e = cc e

below : (a b c : ℕ) → a ≤ b → b < c → a < c
below a b c h k = omega (arith, h, k)

-- ---- a get

module _ {J : Type 0} (judges : Judges J) (replicas : ℕ) (entries : List Peer) (key : Key) where
  abbrev first : Get J
  first = get.Block (block_begun key replicas entries)

  is_of : (x : Get J) → IsSameGet first x → GetIsAfter judges entries [] x → IsGetOf replicas entries key x
  is_of (get.Heads owner s) same after = absurd same
  is_of (get.Block s) same after = (same.0, same.1, [], after)

  begins_first : (p : Progress J) → GoesTo judges first p → BeginsGet judges replicas entries key p
  begins_first (progress.Waits x) to =
      let after = to.3 entries [] (block_begin judges key replicas entries) in
      (is_of x.get to.0 after, after, to.1, below (gets_left x.get) (gets_left first) most_asks to.2 first_asks)
  begins_first (progress.Comes given) to =
      let came = to.1 entries [] (block_begin judges key replicas entries) in (brings_nothing judges entries first given came, asks_nobody judges entries first given came)

  pub begins_get : (x : Get J) → x ≡ first → (p : Result (Progress J) Memory) → IfOk p (GoesTo judges x) → IfOk p (BeginsGet judges replicas entries key)
  begins_get x is (Ok p) to = begins_first p (subst (λ (y : Get J). GoesTo judges y p) is to)
  begins_get x is (Err lacks) to = tt

  pub begins_wanted : (l : Loading) → wanted_of l.load ≡ Some key → (p : Progress J) → BeginsGet judges replicas entries key p → BeginsWanted judges replicas entries l p
  begins_wanted l want p begins other also = subst (λ (k : Key). BeginsGet judges replicas entries k p) (same_some key other (sym want ∙ also)) begins

-- ---- a refresh

module _ {J : Type 0} (judges : Judges J) (judge : J) (replicas : ℕ) (entries : List Peer) (pending : List Post) (st : State J) (k kept : Standing) (root : Option Key) (free : IsFree judges judge replicas entries (most_left + most_asks * most_of Root) (AreFirst kept root) st) where
  pub starts_holding : (root ≡ k.basis) → (pending ≡ k.pending) → (k.basis ≢ None → AllByRecursion HasItsName k.pending) → (loads_in st ≡ true → root ≢ None) → HoldsAlways (of_fields judge replicas entries pending st)
  starts_holding root_is pending_is named loads_root = record {
    sound = free.sound;
    named = λ loads. subst (λ (posts : List Post). AllByRecursion HasItsName posts) (sym pending_is) (named (λ none. loads_root loads (root_is ∙ none)));
  }

  pub starts_after : standing_of kept ≡ record (standing_of k) { to_load = None; pending = [] } → (root ≡ k.basis) → (pending ≡ k.pending) → RefreshIsAfter judges (standing_of k) [] [] (of_fields judge replicas entries pending st)
  starts_after is root_is pending_is = record { pending = pending_is; at = free.at (standing_of k) [] (is, sym root_is, refl); sound = free.sound }
