-- Look-ups and puts by asks of a world's nodes: there are such asks up to the end.
use Rattle.std.proofs.Common.{◌≡◌, ℕ, Bool, true, false, List, [], ◌∷◌, ◌++◌, map, Option, None, Result, refl, sym, ap, ◌∙◌, subst, arith, Contains}
use Rattle.std.specs.List.{AllByRecursion}
use Rattle.std.proofs.lemmas.List.{append-nil}
use Rattle.ivy_base.specs.declared.key.Key.{Key}
use Rattle.dhash_model.specs.Signed.{hss_judged}
use Rattle.dhash_model.specs.Execution.{IsExecution, Told, told_all}
use Rattle.dhash_model.specs.Execution.IsExecution.{no_route, of_owners}
use Rattle.dhash_model.specs.Puts.{EndsPut}
use Rattle.dhash_model.specs.declared.miss.Miss.{Miss}
use Rattle.dht_ids.specs.Asked.{IsForData}
use Rattle.dht_ids.specs.declared.ask.Answer.{Answer}
use Rattle.dht_ids.specs.declared.ask.Ask.{Ask}
use Rattle.dht_ids.specs.declared.ask.Ask.TheVariants as ask
use Rattle.dht_ids.specs.declared.ask.Heard.{Heard}
use Rattle.dht_ids.specs.declared.peer.Peer.{Peer}
use Rattle.dhash_client.specs.declared.put.PutKind.TheVariants as put
use Rattle.ring_model.proofs.Lists.{cons_head, cons_tail, nil_cons}
use Rattle.session_laws.proofs.AskedPlans.{Entries, Follows, Plan, asking, ended, entry}
use Rattle.session_laws.proofs.AskedOwners.{entries_of, told_owners}
use Rattle.session_laws.proofs.AskedLookups.{look_back, look_plan}
use Rattle.session_laws.proofs.AskedPuts.{put_entries, told_put}
use Rattle.world_model.specs.Fates.{Fates, Puts}
use Rattle.world_model.specs.Fates.{asking as all_asking}
use Rattle.world_model.specs.Fates.Fates.{none as fates_none, more as fates_more}
use Rattle.world_model.specs.Ring.{LooksUp}
use Rattle.world_model.specs.World.{World, entries, peer_of}
use Rattle.world_laws.proofs.ExistingFates.{Serves, ask_one}
use Rattle.world_laws.proofs.ExistingPlans.{AsksOnly, IsPlannedOf, look_only, put_planned}
use Rattle.world_laws.proofs.NodeFates.{PutsMet}
use Rattle.world_laws.proofs.WholePublishing.{entries_made}

-- an ask for the route, or of an owner, of a node, and its answer
abbrev pub Told1 : Type 0
Told1 = Bool × (Peer × Answer)

module _ (e : Entries) (own : Ask) where
  abbrev pub asked_by : Bool → Ask
  asked_by true = ask.Route e.key
  asked_by false = own

  -- the asks, and the entries that tell of them
  abbrev pub asks_in : List Told1 → List (Peer × (Ask × Answer))
  asks_in steps = map (λ s. (s.1.0, (asked_by s.0, s.1.1))) steps

  abbrev pub entries_in : List Told1 → List Heard
  entries_in steps = map (λ s. entry e s.0 s.1.0 s.1.1) steps

  is_route : (looks : Bool) (node other : Peer) (x y : Answer) → entry e looks node x ≡ entry e true other y → (looks ≡ true) × (node ≡ other) × (x ≡ y)
  is_route true node other x y h = (refl, ap (λ (s : Heard). s.node) h, ap (λ (s : Heard). s.got) h)
  is_route false node other x y h = absurd (e.other (ap (λ (s : Heard). s.kind) h))

  is_owner : (looks : Bool) (node other : Peer) (x y : Answer) → entry e looks node x ≡ entry e false other y → (looks ≡ false) × (node ≡ other) × (x ≡ y)
  is_owner true node other x y h = absurd (e.other (sym (ap (λ (s : Heard). s.kind) h)))
  is_owner false node other x y h = (refl, ap (λ (s : Heard). s.node) h, ap (λ (s : Heard). s.got) h)

  -- they are those of a look-up, and then those of owners
  pub asks_are : (steps : List Told1) (looks asks : Told) → entries_in steps ≡ told_all (ask.Route e.key) looks ++ entries_of e asks → asks_in steps ≡ all_asking (ask.Route e.key) looks ++ all_asking own asks
  asks_are [] [] [] h = refl
  asks_are [] [] (a ∷ asks) h = absurd (nil_cons (entry e false a.0 a.1) (entries_of e asks) h)
  asks_are [] (l ∷ looks) asks h = absurd (nil_cons (entry e true l.0 l.1) (told_all (ask.Route e.key) looks ++ entries_of e asks) h)
  asks_are (s ∷ steps) [] [] h = absurd (nil_cons (entry e s.0 s.1.0 s.1.1) (entries_in steps) (sym h))
  asks_are (s ∷ steps) [] (a ∷ asks) h =
      let same = is_owner s.0 s.1.0 a.0 s.1.1 a.1 (cons_head (entry e s.0 s.1.0 s.1.1) (entries_in steps) (entry e false a.0 a.1) (entries_of e asks) h) in
      let rest = asks_are steps [] asks (cons_tail (entry e s.0 s.1.0 s.1.1) (entries_in steps) (entry e false a.0 a.1) (entries_of e asks) h) in
      λ i. (same.1 i, (asked_by (same.0 i), same.2 i)) ∷ rest i
  asks_are (s ∷ steps) (l ∷ looks) asks h =
      let same = is_route s.0 s.1.0 l.0 s.1.1 l.1 (cons_head (entry e s.0 s.1.0 s.1.1) (entries_in steps) (entry e true l.0 l.1) (told_all (ask.Route e.key) looks ++ entries_of e asks) h) in
      let rest = asks_are steps looks asks (cons_tail (entry e s.0 s.1.0 s.1.1) (entries_in steps) (entry e true l.0 l.1) (told_all (ask.Route e.key) looks ++ entries_of e asks) h) in
      λ i. (same.1 i, (asked_by (same.0 i), same.2 i)) ∷ rest i

  module _ (r : ℕ) (peers : List Peer) (met : List (List ℕ)) (fits : IsForData own × PutsMet met own) where
    -- a plan that was followed to its end
    pub record IsFollowed (plan : Plan) (w : World) : Type 0 where
      pub steps : List Told1
      pub next : World
      pub fates : Fates hss_judged w (asks_in steps) next
      pub follows : Follows e plan (entries_in steps)
      pub serves : Serves r peers met next
      pub rest : next ≡ record w { nodes = next.nodes; asked = next.asked }

    fits_by : (looks : Bool) → IsForData (asked_by looks) × PutsMet met (asked_by looks)
    fits_by true = (tt, tt)
    fits_by false = fits

    pub followed : (plan : Plan) (w : World) → Serves r peers met w → AsksOnly (Contains peers) plan → IsFollowed plan w
    followed ended w serves only = record { steps = []; next = w; fates = fates_none; follows = refl; serves = serves; rest = refl }
    followed (asking node looks nexts) w serves only =
        let a = ask_one r peers met w serves node (asked_by looks) only.0 (fits_by looks).0 (fits_by looks).1 in
        let others = followed (nexts a.given) a.next a.serves (only.1 a.given a.names) in
        record {
          steps = (looks, (node, a.given)) ∷ others.steps;
          next = others.next;
          fates = fates_more node (asked_by looks) a.given a.fate others.fates;
          follows = (a.given, entries_in others.steps, refl, others.follows);
          serves = others.serves;
          rest = others.rest ∙ ap (λ (v : World). record v { nodes = others.next.nodes; asked = others.next.asked }) a.rest;
        }

-- ---- look-ups

pub record HasFound (r : ℕ) (peers : List Peer) (met : List (List ℕ)) (w : World) (key : Key) (through : List Peer) : Type 0 where
  pub found : Option (List Peer)
  pub next : World
  pub looks : LooksUp hss_judged w key through found next
  pub serves : Serves r peers met next
  pub rest : next ≡ record w { nodes = next.nodes; asked = next.asked }

abbrev no_owners : Option (List Peer) → Plan
no_owners found = ended

abbrev look_entries : Key → Entries
look_entries key = put_entries put.Block [] key

pub looks_up : (r : ℕ) (peers : List Peer) (met : List (List ℕ)) (w : World) → Serves r peers met w → (key : Key) (through : List Peer) → AllByRecursion (Contains peers) through → HasFound r peers met w key through
looks_up r peers met w serves key through made = by 512 refl
  where
    by : (n : ℕ) → n ≡ 512 → HasFound r peers met w key through
    by n is =
        let all = followed (look_entries key) (ask.Route key) r peers met (tt, tt) (look_plan (look_entries key) no_owners n [] None through) w serves (look_only (look_entries key) no_owners (Contains peers) (λ last h. tt) n [] None through tt made) in
        let back = look_back (look_entries key) no_owners n [] None through (entries_in (look_entries key) (ask.Route key) all.steps) (omega (arith, is)) all.follows in
        let same : asks_in (look_entries key) (ask.Route key) all.steps ≡ all_asking (ask.Route key) back.looks ++ [] =
        asks_are (look_entries key) (ask.Route key) all.steps back.looks [] (back.is ∙ ap (λ (l : List Heard). told_all (ask.Route key) back.looks ++ l) back.after) in
        record {
          found = back.found;
          next = all.next;
          looks = record { looks = back.looks; fates = subst (λ asks. Fates hss_judged w asks all.next) (same ∙ append-nil (all_asking (ask.Route key) back.looks)) all.fates; lookup = back.looked };
          serves = all.serves;
          rest = all.rest;
        }

-- ---- whole puts

pub record HasPut (r : ℕ) (w : World) (key : Key) (bytes : List ℕ) : Type 0 where
  pub next : World
  pub puts : Puts hss_judged w r key (ask.PutBlock key bytes) next

module _ (key : Key) (bytes : List ℕ) where
  abbrev e : Entries
  e = put_entries put.Block bytes key

  abbrev own : Ask
  own = ask.PutBlock key bytes

  pub put_whole : (r : ℕ) (w : World) → Serves r (map peer_of w.nodes) w.met w → Contains w.met bytes → HasPut r w key bytes
  put_whole r w serves is_met = record { next = all.next; puts = by back.0 back.1 }
    where
      planned : IsPlannedOf (Contains (map peer_of w.nodes)) e (λ trail. (result : Result Bool Miss) × IsExecution key own (entries w) (EndsPut r) trail result)
      planned = put_planned e own (told_put put.Block bytes key) r (entries w) (Contains (map peer_of w.nodes)) (entries_made w)

      all : IsFollowed e own r (map peer_of w.nodes) w.met (tt, is_met) planned.plan w
      all = followed e own r (map peer_of w.nodes) w.met (tt, is_met) planned.plan w serves planned.only

      back : (result : Result Bool Miss) × IsExecution key own (entries w) (EndsPut r) (entries_in e own all.steps) result
      back = planned.back (entries_in e own all.steps) all.follows

      fates_so : (looks asks : Told) → entries_in e own all.steps ≡ told_all (ask.Route key) looks ++ told_all own asks → Fates hss_judged w (all_asking (ask.Route key) looks ++ all_asking own asks) all.next
      fates_so looks asks is = subst (λ l. Fates hss_judged w l all.next)
          (asks_are e own all.steps looks asks (is ∙ ap (λ (l : List Heard). told_all (ask.Route key) looks ++ l) (told_owners e own (told_put put.Block bytes key) asks))) all.fates

      by : (result : Result Bool Miss) → IsExecution key own (entries w) (EndsPut r) (entries_in e own all.steps) result → Puts hss_judged w r key own all.next
      by result (no_route looks found is looked nobody result_is) = record {
        looks = looks;
        asks = [];
        came = result;
        fates = fates_so looks [] (is ∙ sym (append-nil (told_all (ask.Route key) looks)));
        whole = no_route looks found (append-nil (told_all (ask.Route key) looks)) looked nobody result_is;
      }
      by result (of_owners looks asks found owners is looked some ends) = record {
        looks = looks;
        asks = asks;
        came = result;
        fates = fates_so looks asks is;
        whole = of_owners looks asks found owners refl looked some ends;
      }
