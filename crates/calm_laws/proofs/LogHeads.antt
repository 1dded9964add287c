-- Each log has a head of which a put was acknowledged: the line that begins the log publishes it, and no line forgets that. So each whole call of a calm script misses nothing.
use Rattle.std.proofs.Common.{◌≡◌, inl, ⊎_elim, ℕ, ◌≤◌, true, false, List, [], ◌∷◌, map, Some, refl, sym, ap, ◌∙◌, subst, arith, Contains}
use Rattle.std.specs.Prelude.{is_some}
use Rattle.std.proofs.lemmas.List.Elements.{Contains-append_cases}
use Rattle.ivy_base.specs.declared.key.PubKey.{PubKey}
use Rattle.ivy_base.specs.declared.operation.Moment.{Moment}
use Rattle.ivy_base.specs.Naming.{head_key_of}
use Rattle.hash_signature_model.specs.declared.set.Set.{Set}
use Rattle.hash_signature_model.specs.Saved.{IsSigner}
use Rattle.hash_signature_model.specs.Signer.{Signer, next_signature}
use Rattle.hss_keys.proofs.Signing.{hss_accepted}
use Rattle.dhash_model.specs.Signed.{hss_judged}
use Rattle.log_heads.proofs.SealedHeads.{sealed_heads}
use Rattle.log_model.specs.Chain.{opening}
use Rattle.log_model.specs.Rank.{own_entry}
use Rattle.log_model.specs.Spelling.{IsMoment, head_message}
use Rattle.log_model.proofs.Later.{name_is_key}
use Rattle.log_model.proofs.Lists.{here, in_cons, in_nothing, there}
use Rattle.log_model.proofs.Opening.{opening_has_spelling}
use Rattle.ring_model.proofs.Lists.{some_same}
use Rattle.dht_ids.specs.declared.post.Post.{Post}
use Rattle.agent_model.specs.Agent.{head_post, is_head, own_key, record_post}
use Rattle.script_driver.specs.Run.{Goes}
use Rattle.script_model.specs.Lines.{command_of}
use Rattle.script_model.specs.declared.command.Command.{Command}
use Rattle.script_model.specs.declared.command.Command.TheVariants as command
use Rattle.world_model.specs.Agents.{hss_signing, hss_opened, own_hss_key, hss_sealed}
use Rattle.world_model.specs.Logs.{LogLine, Played, Publishes, fresh_signer, new_participant, to_publish, with_new_participant}
use Rattle.world_model.specs.Logs.LogLine.{begins}
use Rattle.world_model.specs.Step.{Does, most_bytes}
use Rattle.world_model.specs.Steps.{met_by}
use Rattle.world_model.specs.GhostState.{GhostState}
use Rattle.world_model.specs.World.{Participant, World, participant}
use Rattle.calm_laws.specs.Calm.{Calmly, IsCalm, Since, Stopped}
use Rattle.calm_laws.specs.Calm.IsCalm.{joins, other, rounds, stops}
use Rattle.calm_laws.specs.Calm.Calmly.{more as calmly_more, none as calmly_none}
use Rattle.world_laws.specs.Invariant.{Invariant}
use Rattle.world_laws.proofs.Bringing.{found_named}
use Rattle.calm_laws.proofs.CalmNodes.{same_rings}
use Rattle.calm_laws.proofs.CalmRuns.{first_of}
use Rattle.world_laws.proofs.EachLine.{each_line_keeps}
use Rattle.world_laws.proofs.Frames.{into_map}
use Rattle.world_laws.proofs.LineFits.{Fits}
use Rattle.world_laws.proofs.Placed.{found_some}
use Rattle.world_laws.proofs.PublicKeys.{owner_is_key}
use Rattle.world_laws.proofs.SignatureBytes.{sealed_opaque}
use Rattle.world_laws.proofs.SignedAmong.{met_then}
use Rattle.calm_laws.proofs.BlockKinds.{AreApart, fewer_apart}
use Rattle.calm_laws.proofs.Facts.{HasFacts}
use Rattle.calm_laws.proofs.Lines.{entries_are, new_participant_found, publishes_go}
use Rattle.calm_laws.proofs.Rooms.{total}
use Rattle.calm_laws.proofs.Runs.{apart_at, calmly, facts_on, first_facts, first_keeps, first_state, fresh, has_room, line_facts, line_state, rings}
use Rattle.calm_laws.proofs.States.{kept_ring}
use Rattle.calm_laws.proofs.Stretches.{IsRingOf, Stretch}
use Rattle.calm_laws.proofs.Worlds.{IsState, on}
use Rattle.calm_laws.specs.Completeness.{CallsMissNothing, FitsItsKey, HaveHeads, LogsHaveHeads}
use Rattle.calm_laws.proofs.KeysStay.{KeysStay, command_stays, found_itself, publishes_stay}
use Rattle.calm_laws.proofs.BackedLines.{calm_does}
use Rattle.calm_laws.proofs.NamesStay.{BeginsNone, NobodyComes, command_names, publishes_names}
use Rattle.calm_laws.proofs.PublishesAll.{IsPutting, runs_acked}
use Rattle.calm_laws.proofs.PutsAcked.{AreFine, all_fine}
use Rattle.calm_laws.proofs.Served.{calls_miss_nothing_behind_heads}

-- ---- a log's first posts

no_yes : false ≡ true → ⊥
no_yes e = cc e

yes_no : true ≡ false → ⊥
yes_no e = cc e

module _ (s : Signer) (whole : IsSigner s) (now : Moment) (moment : IsMoment now) where
  first_fits : FitsItsKey (record_post (opening (own_key hss_signing s) now))
  first_fits = record { content = λ e. refl; head = λ e. absurd (no_yes e) }

  head_is_judged : hss_judged (head_key_of (own_key hss_signing s)) (hss_sealed s (own_entry (opening (own_key hss_signing s) now)).1) ≡ Some (record { seq = 1; name = (opening (own_key hss_signing s) now).name })
  head_is_judged =
      let named = name_is_key (opening (own_key hss_signing s) now) (opening_has_spelling (own_key hss_signing s) now moment) in
      sealed_heads (own_key hss_signing s) 1 (opening (own_key hss_signing s) now).name (next_signature s (head_message (own_key hss_signing s) (own_entry (opening (own_key hss_signing s) now)).1)) (hss_sealed s (own_entry (opening (own_key hss_signing s) now)).1)
      (owner_is_key s whole) (omega arith, omega arith) named (sealed_opaque s whole (own_entry (opening (own_key hss_signing s) now)).1 named).1 refl
      (hss_accepted s.id s.seed s.sets s.made (head_message (own_key hss_signing s) (own_entry (opening (own_key hss_signing s) now)).1) whole.id.size whole.sets.some whole.sets.few)

  head_fits : FitsItsKey (head_post hss_signing s (own_entry (opening (own_key hss_signing s) now)).1)
  head_fits = record { content = λ e. absurd (yes_no e); head = λ e. ap is_some head_is_judged }

-- ---- heads of logs

abbrev HasHead : GhostState → PubKey → Type 0
HasHead st owner = (p : Post) × Contains st.acked p × (is_head p.kind ≡ true) × (p.key ≡ head_key_of owner)

-- who is there was there before, with the same key
heads_then : (v next : Played) → Invariant next → KeysStay v.0.participants next.0.participants → NobodyComes v next → ((x : Participant) → Contains v.0.participants x → HasHead next.1 (own_hss_key x.agent)) → HaveHeads next
heads_then v next keeps keys nobody have q among =
    let was = found_some by_name v.0.participants q.name (subst (λ ns. Contains ns q.name) nobody.names (into_map by_name next.0.participants q among)) in
    let now = keys q.name was.0 was.1 in
    let same : now.0 ≡ q = some_same now.0 q (sym now.1 ∙ found_itself next keeps q among) in
    let its = have was.0 (found_named v.0.participants q.name was.0 was.1).0 in
    (its.0, its.1, its.2, its.3 ∙ ap head_key_of (sym now.2 ∙ ap (λ (x : Participant). own_hss_key x.agent) same))
  where
    by_name : Participant → List ℕ
    by_name p = p.name

-- a line that begins no log
others_have : (w next : Played) (output : List ℕ) → Invariant w → Invariant next → HaveHeads w → (c : Command) → BeginsNone c → Does hss_judged w c (Goes next output) → HaveHeads next
others_have w next output keeps kept h c none does =
    let nobody = command_names w next output c none does in
    heads_then w next kept (command_stays w next output keeps c does) nobody (λ x among. let its = h x among in (its.0, nobody.acked its.0 its.1, its.2, its.3))

module _ (ring : Stretch) where
  -- ---- the line that begins a log

  module _ (s : Signer) (whole : IsSigner s) (w next : Played) (keeps : Invariant w) (kept : Invariant next) (name : List ℕ) (new : is_some (participant w.0 name) ≡ false) (met : List (List ℕ)) (fits : total met ≤ most_bytes) (more : (b : List ℕ) → Contains next.0.met b → Contains met b)
      (still : IsRingOf ring w.0) (fine : AreFine met w.0) where
    abbrev comer : Participant
    comer = new_participant name (hss_opened s w.0.now)

    abbrev its_head : Post
    its_head = head_post hss_signing s (own_entry (opening (own_key hss_signing s) w.0.now)).1

    abbrev its_first : Post
    its_first = record_post (opening (own_key hss_signing s) w.0.now)

    module _ (published : Publishes hss_judged ring.r (with_new_participant w comer) comer next) where
      grows : (b : List ℕ) → Contains (met_by w.0.met comer.agent.pending) b → Contains met b
      grows b c = more b ((publishes_go ring (with_new_participant w comer) comer next (new_participant_found ring w comer new) published).grows.met b c)

      is_met : (p : Post) → Contains comer.agent.pending p → Contains met p.bytes
      is_met p c = grows p.bytes (met_then w.0.met (map (λ (o : Post). o.bytes) comer.agent.pending) p.bytes (into_map (λ (o : Post). o.bytes) comer.agent.pending p c))

      still_now : IsRingOf ring (with_new_participant w comer).0
      still_now = kept_ring ring w.0 (with_new_participant w comer).0 (same_rings w.0 (with_new_participant w comer).0 refl refl refl refl) still

      begins_putting : IsPutting ring met fits its_head (with_new_participant w comer).0 w.1.acked (to_publish (with_new_participant w comer).0 comer)
      begins_putting = record {
        entries = entries_are ring (with_new_participant w comer).0 still_now;
        well = (still_now, fine);
        stage = (
          (is_met its_first (here its_first (its_head ∷ [])), first_fits s whole w.0.now keeps.moment),
          tt,
          ((is_met its_head (there its_first (its_head ∷ []) its_head (here its_head [])), head_fits s whole w.0.now keeps.moment), tt),
          inl (there its_first (its_head ∷ []) its_head (here its_head [])),
        );
      }

      head_put : Contains next.1.acked its_head
      head_put = subst (λ (v : Played). Contains v.1.acked its_head) (sym published.2) (runs_acked ring met fits its_head published.1 begins_putting)

      pub begun_heads : HaveHeads w → HaveHeads next
      begun_heads h = heads_then (with_new_participant w comer) next kept (publishes_stay ring.r (with_new_participant w comer) comer next published) nobody have
        where
          nobody : NobodyComes (with_new_participant w comer) next
          nobody = publishes_names ring.r (with_new_participant w comer) comer next published

          have : (x : Participant) → Contains (with_new_participant w comer).0.participants x → HasHead next.1 (own_hss_key x.agent)
          have x c = ⊎_elim
              (λ old. let its = h x old in (its.0, nobody.acked its.0 its.1, its.2, its.3))
              (λ last. ⊎_elim
              (λ is. (its_head, head_put, refl, ap (λ (o : Participant). head_key_of (own_hss_key o.agent)) is))
              (λ none. absurd (in_nothing x none))
              (in_cons comer [] x last))
              (Contains-append_cases w.0.participants (comer ∷ []) x c)

  one_number : (a b : ℕ) → Some a ≡ Some b → a ≡ b
  one_number a b is = cc is

  log_heads : (w next : Played) → Invariant w → Invariant next → (met : List (List ℕ)) (fits : total met ≤ most_bytes) → ((b : List ℕ) → Contains next.0.met b → Contains met b) → IsRingOf ring w.0 → AreFine met w.0
      → (name id seed : List ℕ) (sets : List Set) → IsSigner (fresh_signer id seed sets) → (output : List ℕ) → LogLine hss_judged w name id seed sets (Goes next output) → HaveHeads w → HaveHeads next
  log_heads w next keeps kept met fits more still fine name id seed sets whole _ (begins k p _ ringed new is published) h =
      begun_heads (fresh_signer id seed sets) whole w next keeps kept name new met fits more still fine
      (subst (λ n. Publishes hss_judged n (with_new_participant w (new_participant name (hss_opened (fresh_signer id seed sets) w.0.now))) (new_participant name (hss_opened (fresh_signer id seed sets) w.0.now)) next) (one_number k ring.r (sym ringed ∙ still.replicas))
      (subst (λ x. Publishes hss_judged k (with_new_participant w x) x next) is published)) h

  -- ---- each line

  module _ (w next : Played) (keeps : Invariant w) (kept : Invariant next) (met : List (List ℕ)) (fits : total met ≤ most_bytes) (more : (b : List ℕ) → Contains next.0.met b → Contains met b) (still : IsRingOf ring w.0) (fine : AreFine met w.0) (output : List ℕ) (h : HaveHeads w) where
    command_heads : (c : Command) → Fits c → Does hss_judged w c (Goes next output) → HaveHeads next
    command_heads (command.Log log id seed sets) whole does = log_heads w next keeps kept met fits more still fine log id seed sets whole output does h
    command_heads c whole does = others_have w next output keeps kept h c tt does

-- ---- runs

module _ (r : ℕ) (w next : Played) (output : List ℕ) (keeps : Invariant w) (kept : Invariant next) (met : List (List ℕ)) (fits : total met ≤ most_bytes) (more : (b : List ℕ) → Contains next.0.met b → Contains met b) (grows : (b : List ℕ) → Contains w.0.met b → Contains met b) where
  line_heads : {since between : Since} {c : Command} → IsCalm w.0 r since c between → Fits c → Does hss_judged w c (Goes next output) → IsState r w.0 w.1 since → HaveHeads w → HaveHeads next
  line_heads (rounds since none) whole does s h = others_have w next output keeps kept h command.Round tt does
  line_heads (joins number none) whole does s h = others_have w next output keeps kept h (command.Join number) tt does
  line_heads (stops count node none short two) whole does s h = others_have w next output keeps kept h (command.Stop node) tt does
  line_heads (other count c quiet) whole does s h = command_heads (on r count w s) w next keeps kept met fits more s.still (all_fine met w keeps s.good.orderly grows) output h c whole does

runs_heads : (r : ℕ) {v w : Played} {since after : Since} {lines : List (List ℕ)} → Calmly r v since lines w after → total w.0.met ≤ most_bytes → AreApart w.0 → Invariant v → HasFacts r v.0 since → IsState r v.0 v.1 since → HaveHeads v → HaveHeads w
runs_heads r calmly_none fits apart keeps f s h = h
runs_heads r (calmly_more {w = v} {mid = mid} {next = w} {line = line} c output is calm step rest) fits apart keeps f s h =
    let done = calm_does v mid line output c is step in
    let kept = each_line_keeps v mid line output keeps step in
    let one = line_facts r v mid output calm done.1 f in
    let later = facts_on r rest one.0 in
    let state = line_state r v mid output calm done.1 (has_room v mid output (command_of line) step) (fewer_apart mid.0 w.0 later.1 apart) f s in
    runs_heads r rest fits apart kept one.0 state (line_heads r v mid output keeps kept w.0.met fits later.1.met (λ b m. later.1.met b (one.1.met b m)) calm done.0 done.1 s h)

-- ---- the whole

pub logs_have_heads : LogsHaveHeads
logs_have_heads r w count lines calm fits =
    let apart = apart_at r w (Stopped count) lines calm in
    let facts = first_facts r w (Stopped count) lines calm in
    let run = calmly r w (Stopped count) lines calm in
    let first = first_of (fresh r w (Stopped count) lines calm) calm.made calm.count r (rings r w (Stopped count) lines calm) in
    runs_heads r run fits apart (first_keeps r w (Stopped count) lines calm) facts (first_state r w (Stopped count) lines calm (fewer_apart calm.made w.0 (facts_on r run facts).1 apart))
    (λ q among. absurd (in_nothing q (subst (λ ps. Contains ps q) (ap (λ (v : World). v.participants) first.rest) among)))

-- ---- a call

pub calls_miss_nothing : CallsMissNothing
calls_miss_nothing r w next count lines line name output pieces calm is step =
    calls_miss_nothing_behind_heads r w next count lines line name output pieces calm (logs_have_heads r w count lines calm (has_room w next output (command_of line) step)) is step
