-- No line forgets a block or a public key.
use Rattle.std.proofs.Common.{◌≡◌, ⊎_elim, ℕ, Bool, true, false, cond, List, [], ◌∷◌, ◌++◌, map, find, Some, refl, sym, ap, ◌∙◌, subst, Contains}
use Rattle.std.specs.Prelude.{is_some}
use Rattle.std.specs.Str.{bytes_eq}
use Rattle.std.proofs.lemmas.List.Elements.{Contains-append_left, Contains-append_right, Contains-append_cases}
use Rattle.ivy_base.specs.declared.key.PubKey.{PubKey}
use Rattle.ivy_base.specs.Naming.{IsCollisionFree}
use Rattle.hash_signature_model.specs.Signer.{hss_key_of}
use Rattle.dhash_model.specs.Signed.{hss_judged}
use Rattle.log_model.specs.Record.{Record}
use Rattle.log_model.proofs.Lists.{each}
use Rattle.dht_ids.specs.declared.post.Post.{Post}
use Rattle.session_model.specs.Sessions.{Said}
use Rattle.script_driver.specs.Run.{Goes}
use Rattle.script_model.specs.declared.command.Command.{Command}
use Rattle.world_model.specs.Agents.{own_hss_key}
use Rattle.world_model.specs.Calls.{replied}
use Rattle.world_model.specs.Logs.{Played, Publishes, afresh}
use Rattle.world_model.specs.Steps.{Acts, Configuration, after_turn}
use Rattle.world_model.specs.Step.{Does, IvyStep}
use Rattle.world_model.specs.World.{Participant, World, named_bytes, participant, with_participant}
use Rattle.world_laws.specs.Effects.{Effect, LaterEffect, Plays, Renews, Touches}
use Rattle.world_laws.specs.Effects.Effect.{comes, loses, makes_view, of_nodes, opens, plays, renews, shows, times, touches}
use Rattle.world_laws.specs.Effects.LaterEffect.{publishes, replies}
use Rattle.world_laws.specs.Effects.Plays.{calls, ends, steps}
use Rattle.world_laws.specs.Effects.Renews.{enters, starts_again}
use Rattle.world_laws.specs.Effects.Touches.{fails, plans, snaps, unable}
use Rattle.world_laws.specs.Invariant.{IsKeptSo, Invariant, SignsOnce}
use Rattle.world_laws.specs.Moves.{Move, Moves}
use Rattle.world_laws.specs.Moves.Move.{asks, hears, lacks, settles, takes, turns}
use Rattle.world_laws.proofs.Bringing.{found_named}
use Rattle.world_laws.proofs.Effects.{by_effects, lines_have_effects, played_moves}
use Rattle.world_laws.proofs.Frames.{found_mapped, into_map, one_named}
use Rattle.world_laws.proofs.Growing.{met_grows}
use Rattle.world_laws.proofs.Moves.{act_moves, all_moves, runs_move}
use Rattle.world_laws.proofs.NodeFates.{fate_rest}
use Rattle.world_laws.proofs.OneSteps.{settles_own, takes_own}
use Rattle.world_laws.proofs.Placed.{found_some, same_name}
use Rattle.world_laws.proofs.SignedHeads.{from_map, so_of}
use Rattle.world_laws.proofs.RingLines.{fates_rest}
use Rattle.world_laws.proofs.NewParticipant.{found_before}

-- who is found by a name is found by it then, with the same key
abbrev pub KeysStay : List Participant → List Participant → Type 0
KeysStay ps qs = (n : List ℕ) (q : Participant) → find (λ x. bytes_eq x.name n) ps ≡ Some q → (x : Participant) × (find (λ x. bytes_eq x.name n) qs ≡ Some x) × (own_hss_key x.agent ≡ own_hss_key q.agent)

pub stay_then : (ps qs xs : List Participant) → KeysStay ps qs → KeysStay qs xs → KeysStay ps xs
stay_then ps qs xs f g n q is = let one = f n q is in let other = g n one.0 one.1 in (other.0, other.1, other.2 ∙ one.2)

pub same_stay : (ps : List Participant) → KeysStay ps ps
same_stay ps n q is = (q, is, refl)

pub equal_stay : (ps qs : List Participant) → qs ≡ ps → KeysStay ps qs
equal_stay ps qs same = subst (KeysStay ps) (sym same) (same_stay ps)

-- one in place of another
pub placed_stay : (w : World) (p q : Participant) (name : List ℕ) → participant w name ≡ Some p → q.name ≡ p.name → own_hss_key q.agent ≡ own_hss_key p.agent → KeysStay w.participants (map (λ (o : Participant). cond (bytes_eq o.name q.name) q o) w.participants)
placed_stay w p q name is_p named owned n o is = (put_in o, found_mapped put_in put_name w.participants n o is, by (bytes_eq o.name q.name) refl)
  where
    put_in : Participant → Participant
    put_in x = cond (bytes_eq x.name q.name) q x

    put_name : (x : Participant) → (put_in x).name ≡ x.name
    put_name x = names (bytes_eq x.name q.name) refl
      where
        names : (b : Bool) → bytes_eq x.name q.name ≡ b → (cond b q x).name ≡ x.name
        names true e = sym (same_name x.name q.name e)
        names false e = refl

    one : o.name ≡ q.name → o ≡ p
    one e =
        let same : n ≡ name = sym (found_named w.participants n o is).1 ∙ e ∙ named ∙ (found_named w.participants name p is_p).1 in
        cc (sym is ∙ ap (participant w) same ∙ is_p)

    by : (b : Bool) → bytes_eq o.name q.name ≡ b → own_hss_key (cond b q o).agent ≡ own_hss_key o.agent
    by true e = owned ∙ ap (λ (x : Participant). own_hss_key x.agent) (sym (one (same_name o.name q.name e)))
    by false e = refl

-- ---- sessions

module _ (ps : List Participant) where
  abbrev StayIn : World → Type 0
  StayIn v = KeysStay ps v.participants

  with_one : (w : World) (p q : Participant) (name : List ℕ) → participant w name ≡ Some p → q.name ≡ p.name → own_hss_key q.agent ≡ own_hss_key p.agent → StayIn w → StayIn (with_participant w q)
  with_one w p q name is named owned h = stay_then ps w.participants (with_participant w q).participants h (placed_stay w p q name is named owned)

  asked_stays : (w next : World) → next ≡ record w { nodes = next.nodes; asked = next.asked } → StayIn w → StayIn next
  asked_stays w next is h = subst StayIn (sym is) h

  move_stays : (r : ℕ) (name : List ℕ) (c next : Configuration) → Move hss_judged r name c next → StayIn c.world → StayIn next.world
  move_stays r name c _ (takes p taken cache is taking) h = with_one c.world p (record p { cache = cache }) name is refl refl h
  move_stays r name c _ (asks node question answer next fate) h = asked_stays c.world next (fate_rest fate) h
  move_stays r name c _ (hears p node question answer next heard t cache is fate hearing goes) h =
      subst (λ (v : World). StayIn (with_participant v (record p { cache = cache }))) (sym (fate_rest fate)) (with_one c.world p (record p { cache = cache }) name is refl refl h)
  move_stays r name c _ (lacks t lacking) h = h
  move_stays r name c _ (turns p view end after saving t work ghost_state began is in_view taking told) h = with_one c.world p (record (after_turn p after saving) { work = work }) name is refl (takes_own taking) h
  move_stays r name c _ (settles p after t is settling) h = with_one c.world p (record p { agent = after }) name is refl (settles_own settling) h

  moves_stay : {r : ℕ} {name : List ℕ} {c next : Configuration} → Moves hss_judged r name c next → StayIn c.world → StayIn next.world
  moves_stay {r} {name} on = all_moves (λ (x : Configuration). StayIn x.world) (move_stays r name) on

  replied_stay : (w : World) (said : Said) → StayIn w → StayIn (replied w said)
  replied_stay w said h = by (is_some said.message)
    where
      by : (b : Bool) → StayIn (cond b (record w { replies = w.replies ++ record { handle = said.handle; verifier = said.verifier } ∷ [] }) w)
      by true = h
      by false = h

  later_stays : {k : Command} (w next : Played) → LaterEffect hss_judged w k next → StayIn w.0 → StayIn next.0
  later_stays w _ (publishes k alone r p end ringed is over on) h = moves_stay (runs_move on) h
  later_stays w _ (replies k whole said) h = replied_stay w.0 said h

pub acts_stay : {r : ℕ} (name : List ℕ) {p : Participant} {c next : Configuration} → participant c.world name ≡ Some p → Acts hss_judged r p c next → KeysStay c.world.participants next.world.participants
acts_stay name {c = c} is_p act = moves_stay c.world.participants (act_moves {name = name} is_p act) (same_stay c.world.participants)

pub publishes_stay : (r : ℕ) (w : Played) (p : Participant) (next : Played) → Publishes hss_judged r w p next → KeysStay w.0.participants next.0.participants
publishes_stay r w p next published = subst (λ (v : Played). KeysStay w.0.participants v.0.participants) (sym published.2) (moves_stay w.0.participants (runs_move published.1) (same_stay w.0.participants))

-- ---- lines

module _ (w : Played) (keeps : Invariant w) where
  abbrev Stay : World → Type 0
  Stay v = KeysStay w.0.participants v.participants

  touched_stays : (name : List ℕ) (p q : Participant) {k : Command} {posts : List Post} → participant w.0 name ≡ Some p → Touches w.0 p name k q posts → Stay (with_participant w.0 q)
  touched_stays name p _ is (plans count new) = placed_stay w.0 p _ name is refl refl
  touched_stays name p _ is (unable k saves was) = placed_stay w.0 p p name is refl refl
  touched_stays name p _ is (fails k saving was now attempt) = placed_stay w.0 p _ name is refl refl
  touched_stays name p _ is (snaps view was now in_view spelled) = placed_stay w.0 p _ name is refl refl

  renewed_stays : (name : List ℕ) (p q : Participant) {k : Command} {posts : List Post} {set : List Record} → participant w.0 name ≡ Some p → Renews w p name k q posts set → Stay (afresh w.0 q)
  renewed_stays name p q is (enters called view is_view member named was now) = placed_stay w.0 p (record q { cache = [] }) name is refl refl
  renewed_stays name p q is (starts_again view k set in_view whole held again) =
      placed_stay w.0 p (record q { cache = [] }) name is refl (λ i. record { 0 = hss_key_of (signs.same.0 i) (signs.same.1 i) (signs.same.2 i) })
    where
      signs : SignsOnce p k
      signs = so_of SignsOnce p k (each (IsKeptSo SignsOnce) w.0.participants p keeps.signs (found_named w.0.participants name p is).0) whole held

  played_stays : {k : Command} {r : ℕ} {name : List ℕ} {c end : Configuration} {next : Played} → Plays hss_judged w r k name c end next → (Stay c.world → Stay end.world) → Stay next.0
  played_stays (calls log pieces s t end sends begins runs over) on = on (same_stay w.0.participants)
  played_stays (steps name count s end is going) on = on (same_stay w.0.participants)
  played_stays (ends name s end is runs over) on = on (same_stay w.0.participants)

  effect_stays : {k : Command} (next : Played) → Effect hss_judged w k next → Stay next.0
  effect_stays _ (shows _ is) = same_stay w.0.participants
  effect_stays _ (times sec nsec) = same_stay w.0.participants
  effect_stays _ (loses count) = same_stay w.0.participants
  effect_stays _ (of_nodes _ ring next is) = equal_stay w.0.participants next.participants (ap (λ (v : World). v.participants) is.rest)
  effect_stays _ (makes_view name names others members former r view next are also new own_keys small ringed is put) = equal_stay w.0.participants next.participants (ap (λ (v : World). v.participants) (fates_rest put.fates))
  effect_stays _ (comes name id seed sets new) = λ n q found. (q, found_before (λ (x : Participant). bytes_eq x.name n) w.0.participants _ q found, refl)
  effect_stays _ (touches k name p q posts is touching) = touched_stays name p q is touching
  effect_stays _ (renews k name p q posts set is renewing) = renewed_stays name p q is renewing
  effect_stays _ (opens name log pieces s t new sends begins) = same_stay w.0.participants
  effect_stays next (plays _ r name c end _ ringed is) = played_stays is (moves_stay w.0.participants (played_moves is))

pub command_stays : (w next : Played) (output : List ℕ) → Invariant w → (c : Command) → Does hss_judged w c (Goes next output) → KeysStay w.0.participants next.0.participants
command_stays w next output keeps c does = by_effects (λ (v : Played). KeysStay w.0.participants v.0.participants) (effect_stays w keeps) (later_stays w.0.participants) (lines_have_effects w next c output does)

-- who stands in a world in which no name stands twice is found by its name
pub found_itself : (w : Played) → Invariant w → (p : Participant) → Contains w.0.participants p → participant w.0 p.name ≡ Some p
found_itself w keeps p among =
    let found = found_some by_name w.0.participants p.name (into_map by_name w.0.participants p among) in
    let at = found_named w.0.participants p.name found.0 found.1 in
    found.1 ∙ ap (λ (x : Participant). Some x) (one_named by_name w.0.participants found.0 p keeps.apart at.0 among at.1)
  where
    by_name : Participant → List ℕ
    by_name x = x.name

pub names_stay : (w next : Played) (line output : List ℕ) → Invariant w → IvyStep w line (Goes next output) → KeysStay w.0.participants next.0.participants → IsCollisionFree (named_bytes next.0) → IsCollisionFree (named_bytes w.0)
names_stay w next line output keeps step stay apart a b in_a in_b same = apart a b (more a in_a) (more b in_b) same
  where
    key : Participant → List ℕ
    key p = (own_hss_key p.agent).0

    more : (x : List ℕ) → Contains (named_bytes w.0) x → Contains (named_bytes next.0) x
    more x c_in = ⊎_elim
        (λ met. Contains-append_left next.0.met (map key next.0.participants) x (met_grows w next line output step x met))
        (λ of_key.
        let from = from_map key w.0.participants x of_key in
        let then_it = stay from.0.name from.0 (found_itself w keeps from.0 from.1) in
        Contains-append_right next.0.met (map key next.0.participants) x
        (subst (Contains (map key next.0.participants)) (ap (λ (o : PubKey). o.0) then_it.2 ∙ sym from.2) (into_map key next.0.participants then_it.0 (found_named next.0.participants from.0.name then_it.0 then_it.1).0)))
        (Contains-append_cases w.0.met (map key w.0.participants) x c_in)
