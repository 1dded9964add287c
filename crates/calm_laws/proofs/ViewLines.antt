-- The line that makes a view leaves it so: it puts a block that was met, and no head.
use Rattle.std.proofs.Common.{◌≡◌, ⊎_elim, ℕ, Bool, true, false, List, [], ◌∷◌, ◌++◌, Option, refl, sym, ap, subst, Contains}
use Rattle.std.specs.Prelude.{Result, Ok, Err}
use Rattle.std.specs.List.{AllByRecursion}
use Rattle.std.proofs.lemmas.List.Elements.{Contains-append_left, Contains-append_cases}
use Rattle.ivy_base.specs.declared.key.PubKey.{PubKey}
use Rattle.dhash_model.specs.Signed.{hss_judged}
use Rattle.log_model.specs.View.{View, view_block, view_name}
use Rattle.log_model.proofs.Lists.{each_append, in_cons, in_nothing}
use Rattle.dht_ids.specs.declared.ask.Answer.{Answer}
use Rattle.dht_ids.specs.declared.ask.Ask.{Ask}
use Rattle.dht_ids.specs.declared.ask.Ask.TheVariants as ask
use Rattle.dht_ids.specs.declared.peer.Peer.{Peer}
use Rattle.dht_ids.specs.declared.post.Post.{Post}
use Rattle.dhash_model.specs.Execution.{Told}
use Rattle.dhash_model.specs.declared.miss.Miss.{Miss}
use Rattle.agent_model.specs.Others.{block_post}
use Rattle.script_driver.specs.Run.{Goes}
use Rattle.world_model.specs.Fates.{Fates, asking}
use Rattle.world_model.specs.Fates.Fates.{more as fates_more, none as fates_none}
use Rattle.world_model.specs.Logs.{Played, ViewLine, acked_view}
use Rattle.world_model.specs.Logs.ViewLine.{makes}
use Rattle.world_model.specs.GhostState.{knowing_of}
use Rattle.world_model.specs.World.{World, meets}
use Rattle.world_laws.proofs.Lines.{meets_it, meets_more}
use Rattle.world_laws.proofs.RingLines.{fates_rest}
use Rattle.calm_laws.proofs.HeldHeads.{AllHoldPut, PutsPut, fate_holds, more_hold}
use Rattle.ring_model.proofs.Lists.{all_weaker}
use Rattle.calm_laws.proofs.Stages.{IsEntryPut, more_entry}
use Rattle.calm_laws.proofs.BackedWorlds.{IsBackedWorld, later_backed}

-- asks that put no head, and what they leave as it was
abbrev AllPutPut : List (List ℕ) → List Post → List (Peer × (Ask × Answer)) → Type 0
AllPutPut met acked asks = AllByRecursion (λ a. PutsPut met acked a.1.0) asks

asking_puts : (met : List (List ℕ)) (acked : List Post) (question : Ask) (told : Told) → PutsPut met acked question → AllPutPut met acked (asking question told)
asking_puts met acked question [] puts = tt
asking_puts met acked question (t ∷ told) puts = (puts, asking_puts met acked question told puts)

fates_hold : (met : List (List ℕ)) (acked : List Post) {w next : World} {asks : List (Peer × (Ask × Answer))} → Fates hss_judged w asks next → AllPutPut met acked asks → AllHoldPut met acked w.nodes → AllHoldPut met acked next.nodes
fates_hold met acked fates_none puts h = h
fates_hold met acked (fates_more to question answer fate rest) puts h = fates_hold met acked rest puts.1 (fate_holds met acked fate puts.0 h)

acked_is : (view : View) (came : Result Bool Miss) (p : Post) → Contains (acked_view view came) p → p ≡ block_post (view_block view)
acked_is view (Ok true) p c = ⊎_elim (λ e. sym e) (λ none. absurd (in_nothing p none)) (in_cons (block_post (view_block view)) [] p c)
acked_is view (Ok false) p c = absurd (in_nothing p c)
acked_is view (Err miss) p c = absurd (in_nothing p c)

pub view_so : (w : Played) (name : List ℕ) (members former : Option (List PubKey)) (next : Played) (output : List ℕ) → ViewLine hss_judged w name members former (Goes next output) → IsBackedWorld w.0 w.1 → IsBackedWorld next.0 next.1
view_so w name _ _ _ _ (makes members former r view next new own small ringed is put) h =
    let same = fates_rest put.fates in
    let same_met = ap (λ (v : World). v.met) same in
    let grows : (p : Post) → Contains w.1.acked p → Contains (w.1.acked ++ acked_view view put.came) p = λ p c. Contains-append_left w.1.acked (acked_view view put.came) p c in
    let on : (b : List ℕ) → Contains w.0.met b → Contains next.met b = λ b c. subst (λ m. Contains m b) (sym same_met) (meets_more w.0.met (view_block view) b c) in
    later_backed w.0 next w.1 (record w.1 { acked = w.1.acked ++ acked_view view put.came })
    (record { participants = ap (λ (v : World). v.participants) same; known = λ n. refl; met = on; acked = grows })
    (more_hold (meets w.0.met (view_block view)) next.met w.1.acked (w.1.acked ++ acked_view view put.came) (λ b c. subst (λ m. Contains m b) (sym same_met) c) grows next.nodes (fates_hold (meets w.0.met (view_block view)) w.1.acked put.fates
    (each_append (λ (a : Peer × (Ask × Answer)). PutsPut (meets w.0.met (view_block view)) w.1.acked a.1.0) (asking (ask.Route (view_name view)) put.looks) (asking (ask.PutBlock (view_name view) (view_block view)) put.asks)
    (asking_puts (meets w.0.met (view_block view)) w.1.acked (ask.Route (view_name view)) put.looks tt) (asking_puts (meets w.0.met (view_block view)) w.1.acked (ask.PutBlock (view_name view) (view_block view)) put.asks (meets_it w.0.met (view_block view))))
    (more_hold w.0.met (meets w.0.met (view_block view)) w.1.acked w.1.acked (meets_more w.0.met (view_block view)) (λ p c. c) w.0.nodes h.nodes)))
    (subst (AllByRecursion _) (sym (ap (λ (v : World). v.sessions) same)) h.sessions)
    (λ p c. ⊎_elim
    (λ old. on p.bytes (h.put_met p old))
    (λ new. subst (λ (o : Post). Contains next.met o.bytes) (sym (acked_is view put.came p new)) (subst (λ m. Contains m (view_block view)) (sym same_met) (meets_it w.0.met (view_block view))))
    (Contains-append_cases w.1.acked (acked_view view put.came) p c))
    (λ n. all_weaker (IsEntryPut w.0.met w.1.acked) (IsEntryPut next.met (w.1.acked ++ acked_view view put.came)) (knowing_of w.1 n).received (λ e g. more_entry w.0.met next.met w.1.acked (w.1.acked ++ acked_view view put.came) on grows e g) (h.received n))
    h
