-- What agents and their keepers have to publish fits its keys: records and blocks of snapshots have their names, and heads are judged.
use Rattle.std.proofs.Common.{◌≡◌, ℕ, ◌≤◌, Bool, true, false, not, List, [], ◌∷◌, ◌++◌, map, filter, Option, Some, refl, sym, ap, ◌∙◌, subst, arith}
use Rattle.std.specs.Prelude.{is_some}
use Rattle.std.specs.List.{AllByRecursion, list_any}
use Rattle.ivy_base.specs.declared.key.Key.{Key}
use Rattle.ivy_base.specs.declared.operation.Moment.{Moment}
use Rattle.ivy_base.specs.Naming.{head_key_of}
use Rattle.ivy_base.proofs.NameLemmas.{bytes-name, length-name}
use Rattle.hash_signature_model.specs.Saved.{IsSigner}
use Rattle.hash_signature_model.specs.Signer.{Signer, next_signature}
use Rattle.hss_keys.proofs.Signing.{hss_accepted}
use Rattle.dhash_model.specs.Signed.{hss_judged}
use Rattle.log_heads.proofs.SealedHeads.{sealed_heads}
use Rattle.log_model.specs.Chain.{IsGood, opening}
use Rattle.log_model.specs.Rank.{own_entry}
use Rattle.log_model.specs.Record.{Record}
use Rattle.log_model.specs.Spelling.{HasSpelling, IsKey, head_message, most_records}
use Rattle.log_model.specs.View.{View}
use Rattle.log_model.proofs.Later.{name_is_key}
use Rattle.log_model.proofs.Lists.{each, each_append, each_from, from_filter, here}
use Rattle.std.proofs.lemmas.List.Elements.{Contains-append_right}
use Rattle.dht_ids.specs.declared.post.Post.{Post}
use Rattle.turn_model.specs.Basis.{Holding}
use Rattle.turn_model.specs.Turn.{Asked}
use Rattle.agent_model.specs.Agent.{restored, head_post, is_head, kept_of, own_key, record_post, with_posts}
use Rattle.agent_model.specs.Others.{block_post, is_of, is_pending_block, snapped}
use Rattle.agent_model.specs.Standing.{Refresh}
use Rattle.agent_model.specs.Turning.{Becomes, MayWrite, TurnEnd, Turns}
use Rattle.agent_model.specs.Turning.Becomes.{loses, reads, saves}
use Rattle.agent_model.specs.Turning.Turns.{answers, behind, below}
use Rattle.session_model.specs.Executions.{Settles}
use Rattle.session_model.specs.Executions.Settles.{settles as settles_all}
use Rattle.session_model.specs.Executions.TakesTurn.{answers as turn_answers, begins_again, gives_up}
use Rattle.session_model.specs.Sessions.{Session}
use Rattle.world_model.specs.Agents.{HssAgent, IsHssKept, HssKept, TakesHssTurn, hss_signing, hss_kept_bytes, hss_opened, own_hss_key, hss_sealed}
use Rattle.world_model.specs.Keepers.{Keeper, asked_to_save, fails_next}
use Rattle.world_laws.proofs.KeptBytes.{kept_once}
use Rattle.world_laws.proofs.PublicKeys.{owner_is_key}
use Rattle.world_laws.proofs.SignatureBytes.{sealed_opaque}
use Rattle.dhash_model.specs.Signed.{hss_judged}
use Rattle.calm_laws.specs.Completeness.{FitsItsKey}
use Rattle.calm_laws.proofs.Turns.{fine_now, kept_now, never_fails}

no_yes : false ≡ true → ⊥
no_yes e = cc e

yes_no : true ≡ false → ⊥
yes_no e = cc e

-- ---- posts

pub record_fits : (r : Record) → HasSpelling r → FitsItsKey (record_post r)
record_fits r spelled = record { content = λ e. sym spelled.named; head = λ e. absurd (no_yes e) }

pub block_fits : (b : List ℕ) → FitsItsKey (block_post b)
block_fits b = record { content = λ e. refl; head = λ e. absurd (no_yes e) }

-- what a signer seals is judged
pub seal_judged : (s : Signer) → IsSigner s → (r : Record) → 1 ≤ r.seq → r.seq ≤ most_records → IsKey r.name → hss_judged (head_key_of (own_key hss_signing s)) (hss_sealed s (own_entry r).1) ≡ Some (record { seq = r.seq; name = r.name })
seal_judged s whole r some few named =
    sealed_heads (own_key hss_signing s) r.seq r.name (next_signature s (head_message (own_key hss_signing s) (own_entry r).1)) (hss_sealed s (own_entry r).1) (owner_is_key s whole) (some, few) named (sealed_opaque s whole (own_entry r).1 named).1 refl
    (hss_accepted s.id s.seed s.sets s.made (head_message (own_key hss_signing s) (own_entry r).1) whole.id.size whole.sets.some whole.sets.few)

pub head_fits : (s : Signer) → IsSigner s → (r : Record) → 1 ≤ r.seq → r.seq ≤ most_records → IsKey r.name → FitsItsKey (head_post hss_signing s (own_entry r).1)
head_fits s whole r some few named = record { content = λ e. absurd (yes_no e); head = λ e. ap is_some (seal_judged s whole r some few named) }

abbrev pub AllFit : List Post → Type 0
AllFit posts = AllByRecursion FitsItsKey posts

fewer_fit : (test : Post → Bool) (posts : List Post) → AllFit posts → AllFit (filter test posts)
fewer_fit test posts h = each_from FitsItsKey (filter test posts) (λ p c. each FitsItsKey posts p h (from_filter test posts p c).0)

records_fit : (view : View) (owner : _) (rs : List Record) → AllByRecursion (IsGood view owner) rs → AllFit (map record_post rs)
records_fit view owner [] h = tt
records_fit view owner (r ∷ rs) h = (record_fits r h.0.spelled, records_fit view owner rs h.1)

blocks_fit : (bs : List (List ℕ)) → AllFit (map block_post bs)
blocks_fit [] = tt
blocks_fit (b ∷ bs) = (block_fits b, blocks_fit bs)

pub last_good : (view : View) (a : HssAgent) (before : List Record) (last : Record) → MayWrite hss_signing view a before last → IsGood view (own_hss_key a) last
last_good view a before last may = each (IsGood view (own_hss_key a)) (before ++ last ∷ []) last may.good (Contains-append_right before (last ∷ []) last (here last []))

written_fit : (view : View) (a : HssAgent) (before : List Record) (last : Record) → IsSigner a.signer → MayWrite hss_signing view a before last → AllFit a.pending → AllFit (with_posts a.pending (before ++ last ∷ []) (head_post hss_signing a.signer (own_entry last).1))
written_fit view a before last whole may h =
    each_append FitsItsKey (filter (λ (p : Post). not (is_head p.kind)) a.pending ++ map record_post (before ++ last ∷ [])) (head_post hss_signing a.signer (own_entry last).1 ∷ [])
    (each_append FitsItsKey (filter (λ (p : Post). not (is_head p.kind)) a.pending) (map record_post (before ++ last ∷ [])) (fewer_fit (λ (p : Post). not (is_head p.kind)) a.pending h) (records_fit view (own_hss_key a) (before ++ last ∷ []) may.good))
    (let spelled = (last_good view a before last may).spelled in head_fits a.signer whole last spelled.some spelled.few (name_is_key last spelled), tt)

-- ---- agents and keepers

-- what is to be published of the agent, and of what its keeper holds, which never fails, fits
pub record HasFit (a : HssAgent) (y : Keeper) : Type 0 where
  pub fit : AllFit a.pending
  pub fine : y.failing ≡ []
  pub kept : (k : HssKept) × IsHssKept k × (y.kept ≡ Some (hss_kept_bytes k)) × AllFit k.pending

not_both : (b : Bool) → b ≡ false → b ≡ true → ⊥
not_both b e f = no_yes (sym e ∙ f)

pub saved_now : (a : HssAgent) (y : Keeper) (k : HssKept) → y.failing ≡ [] → IsHssKept k → AllFit k.pending → AllFit a.pending → HasFit a (asked_to_save y (Some k))
saved_now a y k fine whole fit its = record { fit = its; fine = fine_now y k fine; kept = (k, whole, kept_now y k fine, fit) }

becomes_fit : (view : View) (a : HssAgent) (y : Keeper) (h : Holding) (written : List Record) (after : HssAgent) (saving : Option HssKept) → IsHssKept (kept_of a) → IsHssKept (kept_of after) → HasFit a y → Becomes hss_signing view a h (fails_next y) written after saving → HasFit after (asked_to_save y saving)
becomes_fit view a y h _ _ _ whole then_whole fit reads = record { fit = fit.fit; fine = fit.fine; kept = fit.kept }
becomes_fit view a y h _ _ _ whole then_whole fit (saves before last may succeeds) = let its = written_fit view a before last whole.signer may fit.fit in saved_now _ y _ fit.fine then_whole its its
becomes_fit view a y h _ _ _ whole then_whole fit (loses before last may failing) = absurd (not_both (fails_next y) (never_fails y fit.fine) failing)

turn_fit : (given : Refresh) (a : HssAgent) (y : Keeper) (view : View) (asked : Asked) (now : Moment) (end : TurnEnd) (after : HssAgent) (saving : Option HssKept) → IsHssKept (kept_of a) → IsHssKept (kept_of after) → HasFit a y
    → Turns hss_signing given (record { agent = a; view = view; now = now; fails = fails_next y }) asked end after saving → HasFit after (asked_to_save y saving)
turn_fit given a y view asked now _ _ _ whole then_whole fit (behind late) = fit
turn_fit given a y view asked now _ _ _ whole then_whole fit (below timely under) = record { fit = fit.fit; fine = fit.fine; kept = fit.kept }
turn_fit given a y view asked now _ _ _ whole then_whole fit (answers h written reply after saving timely above same take becomes by_definition) = becomes_fit view a y h written after saving whole then_whole fit becomes

pub taking_fit : (now : Moment) (a : HssAgent) (y : Keeper) (view : View) (s : Session) (end : TurnEnd) (after : HssAgent) (saving : Option HssKept) (t : Session) → IsHssKept (kept_of a) → IsHssKept (kept_of after) → HasFit a y
    → TakesHssTurn (record { agent = a; view = view; now = now; fails = fails_next y }) s end after saving t → HasFit after (asked_to_save y saving)
taking_fit now a y view s _ _ _ _ whole then_whole fit (turn_answers notes given xid asked reply applied after saving refreshed asks turns) = turn_fit given a y view asked now _ after saving whole then_whole fit turns
taking_fit now a y view s _ _ _ _ whole then_whole fit (begins_again notes given xid asked end after saving refreshed asks turns refusal few) = turn_fit given a y view asked now end after saving whole then_whole fit turns
taking_fit now a y view s _ _ _ _ whole then_whole fit (gives_up notes given xid asked end after saving refreshed asks turns refusal many) = turn_fit given a y view asked now end after saving whole then_whole fit turns

pub settled_fit : (a after : HssAgent) (y : Keeper) (s t : Session) → HasFit a y → Settles a s after t → HasFit after y
settled_fit a _ y s _ fit (settles_all said acks at) = record { fit = fewer_fit (λ (p : Post). not (list_any (λ ack. is_of ack p) acks)) a.pending fit.fit; fine = fit.fine; kept = fit.kept }

some_bytes : (a b : List ℕ) → Some a ≡ Some b → a ≡ b
some_bytes a b e = cc e

pub opening_key : (signer : Signer) (now : Moment) → IsKey (opening (own_key hss_signing signer) now).name
opening_key signer now = record { size = length-name _; each = bytes-name _ }

pub opened_fit : (signer : Signer) (now : Moment) → IsSigner signer → AllFit (hss_opened signer now).pending
opened_fit signer now whole = (record { content = λ e. refl; head = λ e. absurd (no_yes e) }, (head_fits signer whole (opening (own_key hss_signing signer) now) (omega arith) (omega arith) (opening_key signer now), tt))

pub restarted_fit : (a : HssAgent) (y : Keeper) (k : HssKept) → HasFit a y → IsHssKept k → y.kept ≡ Some (hss_kept_bytes k) → HasFit (restored k) y
restarted_fit a y k fit whole held =
    let same : fit.kept.0 ≡ k = kept_once fit.kept.0 k fit.kept.1 whole (some_bytes (hss_kept_bytes fit.kept.0) (hss_kept_bytes k) (sym fit.kept.2 ∙ held)) in
    record { fit = subst (λ (l : HssKept). AllFit l.pending) same fit.kept.3; fine = fit.fine; kept = fit.kept }

-- with a snapshot
pub snapped_fit : (a : HssAgent) (root : Key) (blocks : List (List ℕ)) → AllFit a.pending → AllFit (snapped a root blocks).pending
snapped_fit a root blocks fit = each_append FitsItsKey a.pending (map block_post (filter (λ b. not (is_pending_block a.pending b)) blocks)) fit (blocks_fit (filter (λ b. not (is_pending_block a.pending b)) blocks))
