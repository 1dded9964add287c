-- Gets as plans whose asks are known: where entry nodes were made, and answers name nodes that were made, only such nodes are asked.
use Rattle.std.proofs.Common.{ℕ, ◌≤◌, List, Result, refl}
use Rattle.std.specs.List.{AllByRecursion}
use Rattle.ivy_base.specs.Naming.{head_key_of}
use Rattle.dhash_model.specs.Signed.{hss_judged}
use Rattle.dhash_model.specs.Execution.{IsExecution}
use Rattle.dhash_model.specs.GetBlock.{EndsGet, is_of_get}
use Rattle.dhash_model.specs.GetHead.{EndsHeadGet}
use Rattle.dhash_model.specs.declared.miss.Miss.{Miss}
use Rattle.dht_ids.specs.declared.ask.Ask.TheVariants as ask
use Rattle.dht_ids.specs.declared.ask.Heard.{Heard}
use Rattle.dht_ids.specs.declared.judge.Judged.{Judged}
use Rattle.dht_ids.specs.declared.peer.Peer.{Peer}
use Rattle.ring_model.specs.Gets.{answered_in}
use Rattle.dhash_client.specs.GetBlock.{IsEnoughBlock}
use Rattle.session_model.specs.Brought.{BlockOf, Brought, Content, Heads, HeadsOf, WantedOfRing}
use Rattle.session_model.specs.Sessions.{Gets, IsGet, wanted_key}
use Rattle.session_model.specs.Sessions.Gets.{heads as got_heads, content as got_content}
use Rattle.session_laws.proofs.AskedPlans.{Entries}
use Rattle.session_laws.proofs.AskedGets.{at_most_or_not, block_end, enough_or_not, get_entries, head_end}
use Rattle.world_laws.proofs.ExistingPlans.{IsPlannedOf, execution_planned}

-- what is whole where that is asks the same nodes
alike : {P : Peer → Type 0} {e : Entries} {Whole Other : List Heard → Type 0} → IsPlannedOf P e Whole → ((trail : List Heard) → Whole trail → Other trail) → ((trail : List Heard) → Other trail → Whole trail) → IsPlannedOf P e Other
alike p to from = record { plan = p.plan; fits = λ trail w. p.fits trail (from trail w); back = λ trail f. to trail (p.back trail f); only = p.only }

module _ (r : ℕ) (entries : List Peer) (P : Peer → Type 0) (made : AllByRecursion P entries) where
  pub get_planned : (want : WantedOfRing) → IsPlannedOf P (get_entries (wanted_key want)) (IsGet hss_judged r entries want)
  get_planned (Content key) = alike
      (execution_planned (get_entries key) (ask.Get key) (λ node given. refl) (IsEnoughBlock key r) (enough_or_not key r) (EndsGet key r) (λ owners asks result h. h.1.asks) (block_end key r) entries P made)
      (λ trail w. (BlockOf key w.0, got_content w.0 w.1)) (λ trail w. from w.1)
    where
      from : {trail : List Heard} {brought : Brought} → Gets hss_judged r entries (Content key) trail brought → (came : Result (List ℕ) Miss) × IsExecution key (ask.Get key) entries (EndsGet key r) trail came
      from (got_content came h) = (came, h)
  get_planned (Heads owner) = alike
      (execution_planned (get_entries (head_key_of owner)) (ask.Get (head_key_of owner)) (λ node given. refl) (λ t. r ≤ answered_in is_of_get t) (λ t. at_most_or_not r (answered_in is_of_get t)) (EndsHeadGet (hss_judged (head_key_of owner)) (head_key_of owner) r)
      (λ owners asks result h. h.1.asks) (head_end (hss_judged (head_key_of owner)) (head_key_of owner) r) entries P made)
      (λ trail w. (HeadsOf owner w.0, got_heads w.0 w.1)) (λ trail w. from w.1)
    where
      from : {trail : List Heard} {brought : Brought} → Gets hss_judged r entries (Heads owner) trail brought
          → (came : Result (List Judged) Miss) × IsExecution (head_key_of owner) (ask.Get (head_key_of owner)) entries (EndsHeadGet (hss_judged (head_key_of owner)) (head_key_of owner) r) trail came
      from (got_heads came h) = (came, h)
