-- A participant that opens its log leaves a world in which the invariant holds.
use Rattle.std.proofs.Common.{◌≡◌, ◌⊎◌, inl, inr, ⊎_elim, ℕ, zero, suc, nat_lt, ◌*◌, ◌≤◌, Bool, true, false, cond, List, [], ◌∷◌, ◌++◌, length, map, Some, None, refl, sym, ap, ◌∙◌, subst, arith, Contains}
use Rattle.std.specs.List.{AllByRecursion, list_all}
use Rattle.std.proofs.lemmas.List.Elements.{Contains-append_cases}
use Rattle.ivy_base.proofs.NameLemmas.{bytes-digest, length-digest}
use Rattle.ivy_base.specs.declared.operation.Moment.{Moment}
use Rattle.ivy_base.specs.Naming.{head_key_of}
use Rattle.block_cache.proofs.Pairs.{empty_valid}
use Rattle.round_laws.proofs.Nodes.{ties}
use Rattle.hash_signature_model.specs.declared.set.Height.{Height}
use Rattle.hash_signature_model.specs.declared.set.Height.TheVariants.{H5, H10}
use Rattle.hash_signature_model.specs.declared.set.Set.{Set}
use Rattle.hash_signature_model.specs.Parameters.{leaves}
use Rattle.hash_signature_model.specs.Saved.{AreLevels, AreOctets, IsSigner}
use Rattle.hash_signature_model.specs.Signer.{Signer, capacity, one_more_made}
use Rattle.log_model.proofs.Later.{name_is_key}
use Rattle.log_records.proofs.Standing.{stands_where_met}
use Rattle.log_model.proofs.Lists.{here, in_cons, in_nothing, there}
use Rattle.log_model.proofs.Opening.{opening_has_spelling}
use Rattle.log_model.specs.Chain.{IsChain, opening}
use Rattle.log_model.specs.Rank.{own_entry}
use Rattle.log_model.specs.Record.{Record}
use Rattle.log_model.specs.Spelling.{IsKey, IsMoment, record_block}
use Rattle.log_model.specs.Vector.{Stamp, reach}
use Rattle.dhash_model.specs.Signed.{hss_judged}
use Rattle.snapshot_model.specs.Blocks.{IsStamped}
use Rattle.dht_ids.specs.declared.post.Post.{Post}
use Rattle.agent_model.specs.Agent.{head_post, kept_of, own_key, record_post}
use Rattle.agent_model.specs.SavedBytes.{ArePostsSpelled}
use Rattle.script_driver.specs.Run.{Outcome, Goes}
use Rattle.world_model.specs.Agents.{HssAgent, IsHssKept, HssKept, hss_signing, hss_opened, own_hss_key, own_reach, hss_sealed}
use Rattle.world_model.specs.World.{Participant}
use Rattle.world_model.specs.GhostState.{Knowing}
use Rattle.world_model.specs.Steps.{heads_by, met_by}
use Rattle.world_model.specs.Logs.{LogLine, Played, Publishes, fresh_signer, new_participant, with_new_participant}
use Rattle.world_model.specs.Logs.LogLine.{before_ring as log_before_ring, known as log_known, begins as log_begins}
use Rattle.world_laws.specs.Invariant.{AreSignedOnce, Invariant, NamesOneOf, SignsOnce}
use Rattle.world_laws.specs.Frames.{LogLinesKeep}
use Rattle.world_laws.proofs.Frames.{into_map}
use Rattle.world_laws.proofs.Lines.{ToSuch}
use Rattle.world_laws.proofs.NewParticipant.{IsFitToCome, comes, found_new}
use Rattle.world_laws.proofs.SignatureBytes.{opening_opaque, sealed_opaque}
use Rattle.world_laws.proofs.SignedAmong.{fewer_signed_once, met_stays, met_then}
use Rattle.world_laws.proofs.WholePublishing.{whole_publishing_keeps}

-- ---- a key signs once at least

some_leaf : (h : Height) (c : ℕ) → 1 ≤ c → 1 ≤ leaves h * c
some_leaf H5 c some = omega (arith, some)
some_leaf H10 c some = omega (arith, some)

signs_some : (sets : List Set) → 1 ≤ capacity sets
unfolding capacity
signs_some [] = omega arith
signs_some (set ∷ lower) = some_leaf set.h (capacity lower) (signs_some lower)

-- ---- an agent that opens its log

module _ (s : Signer) (whole : IsSigner s) (unused : s.made ≡ 0) (now : Moment) (moment : IsMoment now) where
  abbrev a : HssAgent
  a = hss_opened s now

  abbrev k : HssKept
  k = kept_of a

  abbrev r : Record
  r = opening (own_key hss_signing s) now

  abbrev stamp : Stamp
  stamp = (own_entry r).1

  abbrev head : List ℕ
  head = hss_sealed s stamp

  name_key : IsKey r.name
  name_key = name_is_key r (opening_has_spelling (own_key hss_signing s) now moment)

  own_far : own_reach a ≡ 1
  own_far = ap (λ b. reach (cond b (Some stamp) None)) (ties (head_key_of (own_key hss_signing s)) (head_key_of (own_key hss_signing s)) refl)

  signer_then : IsSigner (one_more_made s)
  signer_then = record { id = whole.id; seed = whole.seed; sets = whole.sets; made = omega (arith, unused, signs_some s.sets) }

  posts : ArePostsSpelled a.pending
  posts = record {
    few = omega arith;
    each = (
      (name_key, inr refl, opening_opaque (own_key hss_signing s) now),
      ((record { size = length-digest (own_key hss_signing s).0; each = bytes-digest (own_key hss_signing s).0 }, inl refl, sealed_opaque s whole stamp name_key), tt),
    );
  }

  pub kept_whole : IsHssKept k
  kept_whole = record {
    signer = signer_then;
    some = omega (arith, own_far);
    few = omega (arith, own_far);
    floor = record { each = (stamped, tt); in_order = refl; short = omega arith };
    view = tt;
    posts = posts;
    snapshot = tt;
  }
    where
      stamped : IsStamped (own_entry r)
      stamped = (record { size = length-digest (own_key hss_signing s).0; each = bytes-digest (own_key hss_signing s).0 }, omega arith, omega arith, name_key)

  -- ---- the participant

  module _ (name : List ℕ) where
    abbrev p : Participant
    p = new_participant name a

    once : AreSignedOnce k.signer k.signer.made (own_reach a) p.left
    once = record {
      signed = (s.made, stamp) ∷ [];
      spelled = refl;
      below = ((omega arith, omega (arith, own_far)), tt);
      one_each = λ g h g_in h_in same. only g g_in ∙ sym (only h h_in);
    }
      where
        only : (g : ℕ × Stamp) → Contains ((s.made, stamp) ∷ []) g → g ≡ (s.made, stamp)
        only g c = ⊎_elim (λ e. sym e) (λ none. absurd (in_nothing g none)) (in_cons (s.made, stamp) [] g c)

    both : (b : List ℕ) → Contains (p.left ++ heads_by a.pending) b → Contains p.left b
    both b c = ⊎_elim (λ l. l) (λ l. l) (Contains-append_cases p.left (heads_by a.pending) b c)

    signs : SignsOnce p k
    signs = record {
      same = (refl, refl, refl);
      saved = omega arith;
      reaches = omega arith;
      left = once;
      kept = fewer_signed_once k.signer k.signer.made (own_reach a) p.left once (p.left ++ heads_by a.pending) both;
      pending = (here head [], tt);
    }

    chain : IsChain (record { members = own_hss_key a ∷ []; former = [] }) (own_hss_key a) (r ∷ [])
    chain = (record { owned = refl; spelled = opening_has_spelling (own_key hss_signing s) now moment; number = tt; named = tt }, record { seq = refl; ends = refl; prev = refl; vector = refl }, tt)

    names : AllByRecursion (NamesOneOf k.signer (r ∷ [])) (p.left ++ heads_by a.pending)
    names = ((s.made, r, here r [], refl), ((s.made, r, here r [], refl), tt))

    abbrev knows : Knowing
    knows = record { name = name; known = r ∷ []; received = [] }

    module _ (met : List (List ℕ)) where
      abbrev met_now : List (List ℕ)
      met_now = met_by met a.pending

      is_met : (post : Post) → Contains a.pending post → Contains met_now post.bytes
      is_met post c = met_then met (map (λ (o : Post). o.bytes) a.pending) post.bytes (into_map (λ (o : Post). o.bytes) a.pending post c)

      record_met : Contains met_now (record_block r)
      record_met = is_met (record_post r) (here (record_post r) (head_post hss_signing s stamp ∷ []))

      pub fits : IsFitToCome met_now p knows
      fits = record {
        named = refl;
        nothing_received = refl;
        pending = ((record_met, inr refl), ((is_met (head_post hss_signing s stamp) (there (record_post r) (head_post hss_signing s stamp ∷ []) (head_post hss_signing s stamp) (here (head_post hss_signing s stamp) [])), inl refl), tt));
        cached = (empty_valid, tt);
        signs = (k, kept_whole, refl, signs);
        saved = (k, kept_whole, refl, record { agent = kept_whole; entered = λ h. h });
        outside = refl;
        keeper_outside = (k, kept_whole, refl, refl);
        agent = (r, refl, refl, stands_where_met met_now r record_met, chain);
        keeper = (k, kept_whole, refl, (r, refl, stands_where_met met_now r record_met, chain, names, refl));
      }

-- ---- keys that can be saved

decide : (b : Bool) → (b ≡ true) ⊎ (b ≡ true → ⊥)
decide true = inl refl
decide false = inr (λ e. cc e)

decide_same : (a b : ℕ) → (a ≡ b) ⊎ (a ≡ b → ⊥)
decide_same zero zero = inl refl
decide_same zero (suc b) = inr (λ e. omega (arith, e))
decide_same (suc a) zero = inr (λ e. omega (arith, e))
decide_same (suc a) (suc b) = ⊎_elim (λ e. inl (ap suc e)) (λ other. inr (λ e. other (omega (arith, e)))) (decide_same a b)

decide_levels : (sets : List Set) → AreLevels sets ⊎ (AreLevels sets → ⊥)
decide_levels [] = inr (λ h. omega (arith, h.some))
decide_levels (a ∷ []) = inl (record { some = omega arith; few = omega arith })
decide_levels (a ∷ b ∷ []) = inl (record { some = omega arith; few = omega arith })
decide_levels (a ∷ b ∷ c ∷ []) = inl (record { some = omega arith; few = omega arith })
decide_levels (a ∷ b ∷ c ∷ d ∷ sets) = inr (λ h. omega (arith, h.few))

decide_octets : (count : ℕ) (bytes : List ℕ) → AreOctets count bytes ⊎ (AreOctets count bytes → ⊥)
decide_octets count bytes = ⊎_elim
    (λ size. ⊎_elim (λ each. inl (record { size = size; each = each })) (λ none. inr (λ h. none h.each)) (decide (list_all (λ b. nat_lt b 256) bytes)))
    (λ none. inr (λ h. none h.size))
    (decide_same (length bytes) count)

-- a key can be saved, or it can't
pub decide_signer : (id seed : List ℕ) (sets : List Set) → IsSigner (fresh_signer id seed sets) ⊎ (IsSigner (fresh_signer id seed sets) → ⊥)
decide_signer id seed sets = ⊎_elim
    (λ one. ⊎_elim (λ two. ⊎_elim (λ three. inl (record { id = one; seed = two; sets = three; made = omega arith })) (λ none. inr (λ h. none h.sets)) (decide_levels sets)) (λ none. inr (λ h. none h.seed)) (decide_octets 32 seed))
    (λ none. inr (λ h. none h.id))
    (decide_octets 16 id)

-- ---- the line

log_keeps : (w : Played) → Invariant w → (name id seed : List ℕ) (sets : List Set) → IsSigner (fresh_signer id seed sets) → (out : Outcome Played) → LogLine hss_judged w name id seed sets out → ToSuch Invariant out
log_keeps w keeps name id seed sets whole _ (log_before_ring h) = tt
log_keeps w keeps name id seed sets whole _ (log_known h) = tt
log_keeps w keeps name id seed sets whole _ (log_begins r p next ringed new is published) =
    (whole_publishing_keeps (with_new_participant w came) r came next (comes w keeps r ringed came new known met grows fit) ringed (found_new w keeps r ringed came new known met grows fit)
    (subst (λ x. Publishes hss_judged r (with_new_participant w x) x next) is published)).0
  where
    signer : Signer
    signer = fresh_signer id seed sets

    came : Participant
    came = new_participant name (hss_opened signer w.0.now)

    known : Knowing
    known = knows signer whole refl w.0.now keeps.moment name

    met : List (List ℕ)
    met = met_by w.0.met came.agent.pending

    grows : (b : List ℕ) → Contains w.0.met b → Contains met b
    grows b h = met_stays w.0.met (map (λ (o : Post). o.bytes) came.agent.pending) b h

    fit : IsFitToCome met came known
    fit = fits signer whole refl w.0.now keeps.moment name w.0.met

pub log_lines_keep : LogLinesKeep
log_lines_keep name id seed sets whole w next output keeps does = log_keeps w keeps name id seed sets whole (Goes next output) does
