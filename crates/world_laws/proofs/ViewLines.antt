-- Lines that make views leave a world in which the invariant holds.
use Rattle.std.proofs.Common.{map, ◌≡◌, ◌≢◌, ℕ, suc, ◌≤◌, Bool, true, false, ◌||◌, List, [], ◌∷◌, ◌++◌, length, Option, Some, None, refl, sym, ap, ◌∙◌, subst, arith, Contains, nat_lt}
use Rattle.std.specs.List.{AllByRecursion}
use Rattle.std.proofs.lemmas.Bool.{ltb-false}
use Rattle.ivy_base.specs.declared.key.PubKey.{PubKey}
use Rattle.dhash_model.specs.Signed.{hss_judged}
use Rattle.log_model.proofs.Lists.{each, each_append}
use Rattle.log_model.specs.View.{View, IsView, most_former, most_members, view_block, view_name}
use Rattle.log_model.specs.ViewKeys.{HasKeys, IsPubKey}
use Rattle.dht_ids.specs.Asked.{IsForData}
use Rattle.dht_ids.specs.declared.ask.Answer.{Answer}
use Rattle.dht_ids.specs.declared.ask.Ask.{Ask}
use Rattle.dht_ids.specs.declared.ask.Ask.TheVariants as ask
use Rattle.dht_ids.specs.declared.peer.Peer.{Peer}
use Rattle.dht_ids.specs.declared.post.Post.{Post}
use Rattle.dhash_model.specs.Execution.{Told}
use Rattle.script_driver.specs.Run.{Outcome, Goes}
use Rattle.script_model.specs.Words.{◌>>=◌}
use Rattle.world_model.specs.Agents.{own_hss_key as own}
use Rattle.world_model.specs.World.{World, NamedView, Participant, meets, participant}
use Rattle.world_model.specs.GhostState.{GhostState}
use Rattle.world_model.specs.Fates.{Fates, asking}
use Rattle.world_model.specs.Fates.Fates.{none as fates_none, more as fates_more}
use Rattle.world_model.specs.Logs.{Played, ViewLine, acked_view, in_key_order, is_too_large, keys_of, with_view}
use Rattle.world_model.specs.Logs.ViewLine.{known as view_known, no_members as view_no_members, no_former as view_no_former, one_head_key as view_one_head_key, exceeds as view_exceeds, makes as view_makes}
use Rattle.world_laws.specs.Invariant.{AreParticipants, IsKeptSo, IsSavedWell, Invariant}
use Rattle.world_laws.specs.Frames.{ViewLinesKeep}
use Rattle.world_laws.proofs.Bringing.{found_named}
use Rattle.world_laws.proofs.Frames.{held_more, into_map, no_changes, of_ring, unchanged_within_frame, world_changes}
use Rattle.world_laws.proofs.Lines.{ToSuch, meets_it, meets_more}
use Rattle.world_laws.proofs.MadeViews.{each_in_order, made_view_is_view}
use Rattle.world_laws.proofs.NodeFates.{PutsMet}
use Rattle.world_laws.proofs.PublicKeys.{owner_is_key}
use Rattle.world_laws.proofs.Publishing.{ask_keeps, leaves}

-- ---- asks one after the other

-- asks for data by which only what was met is put
pub fates_keep : (met : List (List ℕ)) (r : ℕ) (st : GhostState) {w next : World} {asks : List (Peer × (Ask × Answer))} → Fates hss_judged w asks next → Invariant (w, st) → w.replicas ≡ Some r → met ≡ w.met
    → AllByRecursion (λ s. IsForData s.1.0 × PutsMet met s.1.0) asks → Invariant (next, st)
fates_keep met r st fates_none keeps ringed same fit = keeps
fates_keep met r st (fates_more {w} {mid} {next} {rest} to question answer fate others) keeps ringed same fit =
    let new : PutsMet w.met question = subst (λ m. PutsMet m question) same fit.0.1 in
    let left = leaves w st r keeps ringed mid to question answer fit.0.0 new fate in
    fates_keep met r st others (ask_keeps w st r keeps ringed mid to question answer fit.0.0 new fate st.acked) (ap (λ (v : World). v.replicas) left.rest ∙ ringed) (same ∙ sym (ap (λ (v : World). v.met) left.rest)) fit.1

asked_fit : (met : List (List ℕ)) (question : Ask) → IsForData question × PutsMet met question → (told : Told) → AllByRecursion (λ s. IsForData s.1.0 × PutsMet met s.1.0) (asking question told)
asked_fit met question h [] = tt
asked_fit met question h (s ∷ told) = (h, asked_fit met question h told)

-- other acknowledgements
pub acked_keep : (w : World) (st : GhostState) (acked : List Post) → Invariant (w, st) → Invariant (w, record st { acked = acked })
acked_keep w st acked keeps = world_changes (w, st) (record (no_changes (w, st)) { acked = acked }) keeps (record {
  peers = λ p h. h;
  made = keeps.peers;
  ring = of_ring w w.replicas keeps.ring;
  held = keeps.met.held;
  views = keeps.met.views;
  moment = keeps.moment;
  grows = λ b h. h;
  each = unchanged_within_frame (w, st) keeps w.met (λ b h. h);
})

-- ---- keys of participants

pub own_is_key : (w : Played) → Invariant w → (p : Participant) → Contains w.0.participants p → IsPubKey (own p.agent)
own_is_key w keeps p among = owner_is_key p.agent.signer (each (IsKeptSo IsSavedWell) w.0.participants p keeps.saved among).3.agent.signer

pub record AreOwn (w : World) (names : List (List ℕ)) (keys : List PubKey) : Type 0 where
  pub each_is_key : AllByRecursion IsPubKey keys
  as_many : length keys ≡ length names
  owned : AllByRecursion (Contains (map (λ (p : Participant). own p.agent) w.participants)) keys

pub own_keys : (w : Played) → Invariant w → (names : List (List ℕ)) (keys : List PubKey) → keys_of w.0 names ≡ Some keys → AreOwn w.0 names keys
own_keys w keeps [] keys is = subst (AreOwn w.0 []) (same [] keys is) (record { each_is_key = tt; as_many = refl; owned = tt })
  where
    same : (a b : List PubKey) → Some a ≡ Some b → a ≡ b
    same a b e = cc e
own_keys w keeps (name ∷ names) keys is = by (participant w.0 name) refl is (own_keys w keeps names)
  where
    same : (a b : List PubKey) → Some a ≡ Some b → a ≡ b
    same a b e = cc e

    with_rest : (p : Participant) → Contains w.0.participants p → (o : Option (List PubKey)) → keys_of w.0 names ≡ o → (o >>= λ rest. Some (own p.agent ∷ rest)) ≡ Some keys → ((rest : List PubKey) → keys_of w.0 names ≡ Some rest → AreOwn w.0 names rest) → AreOwn w.0 (name ∷ names) keys
    with_rest p among None e h again = cc h
    with_rest p among (Some rest) e h again =
        let more = again rest e in
        subst (AreOwn w.0 (name ∷ names)) (same (own p.agent ∷ rest) keys h) (record { each_is_key = (own_is_key w keeps p among, more.each_is_key); as_many = ap suc more.as_many; owned = (into_map (λ (o : Participant). own o.agent) w.0.participants p among, more.owned) })

    by : (o : Option Participant) → participant w.0 name ≡ o → (o >>= λ p. keys_of w.0 names >>= λ rest. Some (own p.agent ∷ rest)) ≡ Some keys → ((rest : List PubKey) → keys_of w.0 names ≡ Some rest → AreOwn w.0 names rest) → AreOwn w.0 (name ∷ names) keys
    by None e h again = cc h
    by (Some p) e h again = with_rest p (found_named w.0.participants name p e).0 (keys_of w.0 names) refl h again

-- ---- the line

few_enough : (members former : List PubKey) → is_too_large members former ≡ false → (length members ≤ most_members) × (length former ≤ most_former)
few_enough members former h = let p = neither (nat_lt most_members (length members)) (nat_lt most_former (length former)) h in (ltb-false most_members (length members) p.0, ltb-false most_former (length former) p.1)
  where
    neither : (a b : Bool) → (a || b) ≡ false → (a ≡ false) × (b ≡ false)
    neither true b e = cc e
    neither false b e = (refl, e)

-- a view more, whose block is met
with_view_keeps : (w : Played) (name : List ℕ) (view : View) → Invariant w → IsView view → HasKeys view → AreParticipants w.0 view → Invariant (with_view w.0 name view, w.1)
with_view_keeps w name view keeps legal keys owned = world_changes w (record (no_changes w) { views = w.0.views ++ record { name = name; view = view } ∷ []; met = meets w.0.met (view_block view) }) keeps (record {
  peers = λ p h. h;
  made = keeps.peers;
  ring = of_ring w.0 w.0.replicas keeps.ring;
  held = held_more w keeps (meets w.0.met (view_block view)) (meets_more w.0.met (view_block view));
  views = each_append (λ (v : NamedView). IsView v.view × HasKeys v.view × AreParticipants w.0 v.view) w.0.views (record { name = name; view = view } ∷ []) keeps.met.views ((legal, keys, owned), tt);
  moment = keeps.moment;
  grows = meets_more w.0.met (view_block view);
  each = unchanged_within_frame w keeps (meets w.0.met (view_block view)) (meets_more w.0.met (view_block view));
})

some_of : (names : List (List ℕ)) → names ≢ [] → 1 ≤ length names
some_of [] some = absurd (some refl)
some_of (n ∷ names) some = omega arith

view_keeps : (w : Played) → Invariant w → (name : List ℕ) (names others : List (List ℕ)) → names ≢ [] → (m f : Option (List PubKey)) → keys_of w.0 names ≡ m → keys_of w.0 others ≡ f → (o : Outcome Played) → ViewLine hss_judged w name m f o → ToSuch Invariant o
view_keeps w keeps name names others some _ _ is_m is_f _ (view_known known) = tt
view_keeps w keeps name names others some _ _ is_m is_f _ view_no_members = tt
view_keeps w keeps name names others some _ _ is_m is_f _ view_no_former = tt
view_keeps w keeps name names others some _ _ is_m is_f _ (view_one_head_key members former twice) = tt
view_keeps w keeps name names others some _ _ is_m is_f _ (view_exceeds members former new own_heads many) = tt
view_keeps w keeps name names others some _ _ is_m is_f _ (view_makes members former r view next new own_heads few ringed is put) =
    acked_keep next w.1 (w.1.acked ++ acked_view view put.came)
    (fates_keep (with_view w.0 name view).met r w.1 put.fates (with_view_keeps w name view keeps (subst IsView (sym is) legal) (subst HasKeys (sym is) keys) (subst (AreParticipants w.0) (sym is) owned)) ringed refl
    (each_append _ (asking (ask.Route (view_name view)) put.looks) (asking (ask.PutBlock (view_name view) (view_block view)) put.asks) (asked_fit _ (ask.Route (view_name view)) (tt, tt) put.looks)
    (asked_fit _ (ask.PutBlock (view_name view) (view_block view)) (tt, meets_it w.0.met (view_block view)) put.asks)))
  where
    of_members : AreOwn w.0 names members
    of_members = own_keys w keeps names members is_m

    of_former : AreOwn w.0 others former
    of_former = own_keys w keeps others former is_f

    legal : IsView (record { members = in_key_order members; former = in_key_order former })
    legal = let sizes = few_enough members former few in made_view_is_view members former (omega (arith, some_of names some, of_members.as_many)) sizes.0 sizes.1 own_heads

    owned : AreParticipants w.0 (record { members = in_key_order members; former = in_key_order former })
    owned = each_in_order (Contains (map (λ (p : Participant). own p.agent) w.0.participants)) members of_members.owned

    keys : HasKeys (record { members = in_key_order members; former = in_key_order former })
    keys = record { members = each_in_order IsPubKey members of_members.each_is_key; former = each_in_order IsPubKey former of_former.each_is_key }

pub view_lines_keep : ViewLinesKeep
view_lines_keep name names others some w next output keeps does = view_keeps w keeps name names others some (keys_of w.0 names) (keys_of w.0 others) refl refl (Goes next output) does
