-- The line by which a participant starts again leaves it so: what its keeper holds goes no less far.
use Rattle.std.proofs.Common.{◌≡◌, ⊎_elim, ℕ, ◌+◌, List, [], ◌∷◌, ◌++◌, length, map, Option, Some, None, refl, sym, ap, ◌∙◌, subst, arith, Contains, length-append}
use Rattle.std.specs.Prelude.{IfSome, IsTrue, is_some}
use Rattle.std.specs.List.{AllByRecursion}
use Rattle.std.proofs.lemmas.List.{append-nil}
use Rattle.std.proofs.lemmas.List.Elements.{Contains-append_left, Contains-append_cases}
use Rattle.ivy_base.specs.declared.key.Key.{Key}
use Rattle.ivy_base.specs.declared.key.PubKey.{PubKey}
use Rattle.ivy_base.specs.Naming.{IsCollisionFree, head_key_of}
use Rattle.hash_signature_model.specs.Signer.{hss_key_of}
use Rattle.log_model.specs.Chain.{IsChain, LinkedFrom}
use Rattle.log_model.specs.Closed.{log_of}
use Rattle.log_model.specs.Record.{Record}
use Rattle.log_model.specs.Spelling.{no_name}
use Rattle.log_model.specs.Vector.{Stamp, reach, stamp_at}
use Rattle.log_model.specs.View.{View, IsView, is_named}
use Rattle.log_model.proofs.Lists.{each}
use Rattle.dht_ids.specs.declared.post.Post.{Post}
use Rattle.turn_model.specs.Known.{EndsAt}
use Rattle.agent_model.specs.Agent.{restored}
use Rattle.script_driver.specs.Run.{Outcome}
use Rattle.log_model.specs.ViewKeys.{HasKeys}
use Rattle.world_model.specs.Agents.{IsHssKept, HssKept, hss_kept_bytes, own_hss_key}
use Rattle.world_model.specs.Logs.{IsKnownAgain, Played, RestartLine, afresh_told, restarted}
use Rattle.world_model.specs.Logs.RestartLine.{nobody, outside, starts}
use Rattle.world_model.specs.Steps.{having_made, met_by}
use Rattle.world_model.specs.GhostState.{Knowing, knowing_of, known_of}
use Rattle.world_model.specs.World.{Participant, named_bytes, participant}
use Rattle.world_laws.specs.Invariant.{IsKeptSo, IsSavedWell, IsSound, IsSoundIn, IsSoundKept, IsSoundKeptIn, Invariant, SignsOnce}
use Rattle.world_laws.proofs.Afresh.{apart_before}
use Rattle.world_laws.proofs.Bringing.{found_named}
use Rattle.calm_laws.proofs.Finding.{each_filtered}
use Rattle.world_laws.proofs.Lines.{ToSuch}
use Rattle.world_laws.proofs.MoreMet.{more_stand}
use Rattle.world_laws.proofs.OneKnown.{known_is_unique}
use Rattle.turn_laws.proofs.LinkedLogs.{chain_linked, last_seq}
use Rattle.world_laws.proofs.SignedAmong.{met_stays, met_then}
use Rattle.world_laws.proofs.SignedHeads.{so_of}
use Rattle.world_laws.proofs.TurnsWorld.{told_now}
use Rattle.calm_laws.proofs.Backed.{IsBackedBy, IsBackedIn, IsBackedKept, backed_more}
use Rattle.calm_laws.proofs.BackedSteps.{its_backed, received_told}
use Rattle.calm_laws.proofs.Turns.{all_posts_met, from_log, in_own_log}
use Rattle.calm_laws.proofs.UseLines.{IsThenBacked}
use Rattle.calm_laws.proofs.BackedWorlds.{IsBackedWorld, IsStagedIn, placed_backed}

-- ---- logs that end at one number

-- how many they are, up to the stamp
pub long : (owner : PubKey) (n : ℕ) (prev : Key) (xs : List Record) (t : Stamp) → LinkedFrom owner n prev xs → EndsAt (Some t) xs → n + length xs ≡ t.seq + 1
long owner n prev xs t h ends =
    let last = last_seq owner n prev ends.0 ends.1 (subst (LinkedFrom owner n prev) ends.2 h) in
    let same : ends.1.seq ≡ t.seq = ap (λ (s : Stamp). s.seq) ends.3 in
    let size : length xs ≡ length (ends.0 ++ ends.1 ∷ []) = ap length ends.2 in
    let one_more = length-append ends.0 (ends.1 ∷ []) in
    omega (arith, last, same, size, one_more)

-- such a log is as long as that
log_long : (view : View) (owner : PubKey) (o : Option Stamp) (log : List Record) → IsChain view owner log → EndsAt o log → length log ≡ reach o
log_long view owner None log chain none = ap length none
log_long view owner (Some t) log chain ends = let size = long owner 1 no_name log t (chain_linked view owner log chain) ends in omega (arith, size)

nothing_more : {X : Type 0} (xs rest : List X) → length (xs ++ rest) ≡ length xs → rest ≡ []
nothing_more xs [] e = refl
nothing_more xs (y ∷ rest) e = let size = length-append xs (y ∷ rest) in absurd (omega (arith, e, size))

module _ (w : Played) (keeps : Invariant w) (p : Participant) (is_p : participant w.0 p.name ≡ Some p) (view : View) (k : HssKept) (set : List Record) (in_view : p.agent.view ≡ Some view) (whole : IsHssKept k)
    (held : p.keeper.kept ≡ Some (hss_kept_bytes k)) (again : IsKnownAgain (restarted w.0 p k) k set) (h : IsBackedWorld w.0 w.1) where
  abbrev q : Participant
  q = record (having_made (record p { agent = restored k }) k.pending) { cache = [] }

  abbrev met : List (List ℕ)
  met = met_by w.0.met k.pending

  among : Contains w.0.participants p
  among = (found_named w.0.participants p.name p is_p).0

  grows : (b : List ℕ) → Contains w.0.met b → Contains (met_by w.0.met k.pending) b
  grows b c = met_stays w.0.met (map (λ (o : Post). o.bytes) k.pending) b c

  its : IsBackedIn w.0.met w.1.acked p (known_of w.1 p.name)
  its = its_backed w.0 w.1 p.name p is_p h

  kept_so : IsBackedKept w.1.acked (known_of w.1 p.name) p k
  kept_so = so_of (IsBackedKept w.1.acked (known_of w.1 p.name)) p k its.keeper whole held

  signs : SignsOnce p k
  signs = so_of SignsOnce p k (each (IsKeptSo SignsOnce) w.0.participants p keeps.signs among) whole held

  saved : IsSavedWell p k
  saved = so_of IsSavedWell p k (each (IsKeptSo IsSavedWell) w.0.participants p keeps.saved among) whole held

  owned : own_hss_key q.agent ≡ own_hss_key p.agent
  owned = λ i. record { 0 = hss_key_of (signs.same.0 i) (signs.same.1 i) (signs.same.2 i) }

  module _ (apart : IsCollisionFree (named_bytes (restarted w.0 p k))) where
    before : IsCollisionFree (named_bytes w.0)
    before = apart_before w keeps p is_p q refl owned (met_by w.0.met k.pending) grows set apart

    met_apart : IsCollisionFree (met_by w.0.met k.pending)
    met_apart a b in_a in_b same = apart a b (Contains-append_left (met_by w.0.met k.pending) _ a in_a) (Contains-append_left (met_by w.0.met k.pending) _ b in_b) same

    all_met : (b : List ℕ) → Contains (w.0.met ++ map (λ (o : Post). o.bytes) k.pending) b → Contains (met_by w.0.met k.pending) b
    all_met b c = ⊎_elim (λ x. grows b x) (λ x. met_then w.0.met (map (λ (o : Post). o.bytes) k.pending) b x) (Contains-append_cases w.0.met (map (λ (o : Post). o.bytes) k.pending) b c)

    agent_sound : IsSound w.0.met p (knowing_of w.1 p.name) view
    agent_sound = subst (IsSoundIn w.0.met p (knowing_of w.1 p.name)) in_view (each (λ (x : Participant). IsSoundIn w.0.met x (knowing_of w.1 x.name) x.agent.view) w.0.participants p (keeps.sound before).agents among)

    kept_sound : IsSoundKeptIn w.0.met p (knowing_of w.1 p.name) k k.view
    kept_sound = so_of (λ o l. IsSoundKeptIn w.0.met o (knowing_of w.1 o.name) l l.view) p k (each (IsKeptSo (λ o l. IsSoundKeptIn w.0.met o (knowing_of w.1 o.name) l l.view)) w.0.participants p (keeps.sound before).keepers among) whole held

    -- it is a member of its view, and of the one that its keeper knows
    in_kept : (v : View) → k.view ≡ Some v → Contains v.members (own_hss_key p.agent)
    in_kept v is = subst (Contains v.members) owned (subst (λ o. IfSome o (λ x. IsView x × HasKeys x × Contains x.members (own_hss_key q.agent) × AllByRecursion (λ e. IsTrue (is_named x e.0)) k.floor)) is whole.view).2

    in_now : Contains view.members (own_hss_key p.agent)
    in_now = (subst (λ o. IfSome o (λ x. IsView x × HasKeys x × Contains x.members (own_hss_key p.agent) × AllByRecursion (λ e. IsTrue (is_named x e.0)) p.agent.floor)) in_view saved.agent.view).2

    -- what is known again of the own log was known
    less_so : (kept_view : View) → k.view ≡ Some kept_view → IsSoundKept w.0.met p (knowing_of w.1 p.name) k kept_view → (one : Record) → Contains set one → one.owner ≡ own_hss_key p.agent → Contains (known_of w.1 p.name) one
    less_so kept_view viewed sound one c mine =
        let known = again kept_view viewed apart in
        let same : sound.known ≡ set = known_is_unique (met_by w.0.met k.pending) kept_view k.floor sound.known set met_apart sound.by_floor known.0 (more_stand (w.0.met ++ map (λ (o : Post). o.bytes) k.pending) (met_by w.0.met k.pending) all_met sound.known sound.stand) known.1 in
        from_log (own_hss_key p.agent) (known_of w.1 p.name) one (subst (λ l. Contains l one) logs (in_own_log (own_hss_key p.agent) sound.known one (subst (λ l. Contains l one) (sym same) c) mine))
      where
        logs : log_of (own_hss_key p.agent) sound.known ≡ log_of (own_hss_key p.agent) (known_of w.1 p.name)
        logs =
            let long_kept = log_long kept_view (own_hss_key p.agent) (stamp_at k.floor (head_key_of (own_hss_key p.agent))) (log_of (own_hss_key p.agent) sound.known) (sound.by_floor.chains (own_hss_key p.agent)) (sound.by_floor.ends (own_hss_key p.agent) (in_kept kept_view viewed)) in
            let long_now = log_long view (own_hss_key p.agent) (stamp_at p.agent.floor (head_key_of (own_hss_key p.agent))) (log_of (own_hss_key p.agent) (known_of w.1 p.name)) (agent_sound.knows.by_floor.chains (own_hss_key p.agent)) (agent_sound.knows.by_floor.ends (own_hss_key p.agent) in_now) in
            let reach_same = kept_so.same_reach in
            let more = sound.goes_on in
            let none = nothing_more (log_of (own_hss_key p.agent) (known_of w.1 p.name)) more.0 (ap length (sym more.1) ∙ long_kept ∙ reach_same ∙ sym long_now) in
            more.1 ∙ ap (λ l. log_of (own_hss_key p.agent) (known_of w.1 p.name) ++ l) none ∙ append-nil (log_of (own_hss_key p.agent) (known_of w.1 p.name))

    less : (one : Record) → Contains set one → one.owner ≡ own_hss_key p.agent → Contains (known_of w.1 p.name) one
    less = by k.view refl kept_sound (saved.entered (ap is_some in_view))
      where
        by : (o : Option View) → k.view ≡ o → IsSoundKeptIn w.0.met p (knowing_of w.1 p.name) k o → IsTrue (is_some o) → (one : Record) → Contains set one → one.owner ≡ own_hss_key p.agent → Contains (known_of w.1 p.name) one
        by None is sound some = cc some
        by (Some kept_view) is sound some = less_so kept_view is sound

    -- what the participant then has to publish is what its keeper held
    again_in : IsBackedIn (met_by w.0.met k.pending) w.1.acked q set
    again_in = record {
      agent = subst (λ o. IsBackedBy w.1.acked o set k.pending) (sym owned) backed;
      pending = all_posts_met w.0.met k.pending;
      fine = its.fine;
      keeper = (k, whole, held, record { same_reach = refl; backed = subst (λ o. IsBackedBy w.1.acked o set k.pending) (sym owned) backed });
    }
      where
        backed : IsBackedBy w.1.acked (own_hss_key p.agent) set k.pending
        backed = backed_more w.1.acked w.1.acked (λ x c. c) (own_hss_key p.agent) (known_of w.1 p.name) set k.pending less kept_so.backed

    restarts_so : IsBackedWorld (restarted w.0 p k) (afresh_told w p.name set)
    restarts_so =
        let told = told_now w keeps p is_p set [] in
        placed_backed w.0 w.1 (afresh_told w p.name set) p q (met_by w.0.met k.pending) refl grows set
        (ap (λ (x : Knowing). x.known) told.its) (λ n other. ap (λ (x : Knowing). x.known) (told.others n other)) refl (received_told w keeps p is_p set []) (restarted w.0 p k) refl refl refl
        (each_filtered (IsStagedIn w.0 w.1) _ w.0.sessions h.sessions) again_in h

pub restart_so : (w : Played) → Invariant w → (name : List ℕ) (o : Option Participant) → participant w.0 name ≡ o → (out : Outcome Played) → RestartLine w o out → IsBackedWorld w.0 w.1 → ToSuch IsThenBacked out
restart_so w keeps name _ is _ nobody h = tt
restart_so w keeps name _ is _ (outside p out) h = tt
restart_so w keeps name _ is _ (starts p view k set in_view whole held again) h =
    λ kept apart. restarts_so w keeps p (ap (participant w.0) (found_named w.0.participants name p is).1 ∙ is) view k set in_view whole held again h apart
