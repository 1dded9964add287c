-- What would be saved of a snapshot has a spelling or has none: never both, and it is known which.
use Rattle.std.proofs.Common.{◌≡◌, ◌⊎◌, inl, inr, ℕ, ◌<◌, ◌^◌, Bool, true, false, cond, List, length, map, Option, Some, None, refl, sym, ap, ◌∙◌, subst}
use Rattle.std.specs.Prelude.{IfSome, IsSomeAnd, IsTrue, nat_lt}
use Rattle.std.specs.List.{AllByRecursion, list_all}
use Rattle.std.proofs.Math.Decide.{dec_lt, map_dec}
use Rattle.ivy_base.specs.Naming.{name}
use Rattle.log_model.specs.Spelling.{IsKey}
use Rattle.log_model.specs.View.{View}
use Rattle.dht_ids.specs.declared.post.Post.{Post}
use Rattle.snapshot_model.specs.Spelling.{root_name, snapshot_blocks}
use Rattle.snapshot_model.proofs.Decided.{dec_both, dec_each, dec_true}
use Rattle.snapshot_model.proofs.DecidedForms.{dec_key, dec_same_key}
use Rattle.agent_model.specs.Agent.{failed, is_head, kept_of}
use Rattle.agent_model.specs.Others.{basis_of, snapped}
use Rattle.agent_model.specs.SavedBytes.{AreOpaque, ArePostsSpelled, HasItsName}
use Rattle.world_model.specs.Agents.{HssAgent, HssKept}
use Rattle.world_model.specs.Keepers.{fails_next}
use Rattle.world_model.specs.Logs.{having_snapped, snapping_in}
use Rattle.world_model.specs.World.{Participant}
use Rattle.world_laws.proofs.SecondTurns.{one_view}

-- it is to be saved, and has a spelling; or it is to be saved, and has none
abbrev pub IsSpelledIn : Option HssKept → Type 0
IsSpelledIn o = IfSome o (λ k. ArePostsSpelled k.pending)

abbrev pub IsUnspelledIn : Option HssKept → Type 0
IsUnspelledIn o = IsSomeAnd o (λ k. ArePostsSpelled k.pending → ⊥)

-- ---- which

dec_named : (p : Post) → Dec (HasItsName p)
dec_named p = by (is_head p.kind) refl (dec_same_key p.key (name p.bytes))
  where
    by : (b : Bool) → is_head p.kind ≡ b → Dec (p.key ≡ name p.bytes) → Dec (HasItsName p)
    by true head its = yes (inl head)
    by false other (yes its) = yes (inr its)
    by false other (no another) = no (λ h. elim h [ inl head ↦ cc (sym other ∙ head) | inr its ↦ another its ])

dec_opaque : (bytes : List ℕ) → Dec (AreOpaque bytes)
dec_opaque bytes = dec_both (dec_lt (length bytes) (2 ^ 32)) (dec_true (list_all (λ b. nat_lt b 256) bytes))

abbrev IsOne : Post → Type 0
IsOne p = IsKey p.key × HasItsName p × AreOpaque p.bytes

dec_one : (p : Post) → Dec (IsOne p)
dec_one p = map_dec {A = IsKey p.key × (HasItsName p × AreOpaque p.bytes)} (λ h. (h.0, h.1.0, h.1.1)) (λ h. (h.0, (h.1, h.2))) (dec_both (dec_key p.key) (dec_both (dec_named p) (dec_opaque p.bytes)))

dec_posts : (posts : List Post) → Dec (ArePostsSpelled posts)
dec_posts posts = map_dec {A = (length posts < 2 ^ 32) × AllByRecursion IsOne posts} (λ h. record { few = h.0; each = h.1 }) (λ h. (h.few, h.each))
    (dec_both (dec_lt (length posts) (2 ^ 32)) (dec_each IsOne dec_one posts))

pub spelled_or_not : (o : Option HssKept) → IsSpelledIn o ⊎ IsUnspelledIn o
spelled_or_not None = inl tt
spelled_or_not (Some k) = by (dec_posts k.pending)
  where
    by : Dec (ArePostsSpelled k.pending) → IsSpelledIn (Some k) ⊎ IsUnspelledIn (Some k)
    by (yes h) = inl h
    by (no h) = inr h

-- ---- never both

pub not_both : (o : Option HssKept) → IsSpelledIn o → IsUnspelledIn o → ⊥
not_both None spelled unspelled = unspelled
not_both (Some k) spelled unspelled = unspelled spelled

-- what is to be published of a snapshot that was made is what is to be saved
abbrev snap_out : HssAgent → HssAgent → HssAgent → Bool → Bool → (HssAgent × Bool) × Option HssKept
snap_out a tried made before now = cond before ((a, false), None) (cond now (tried, false) (made, true), Some (kept_of made))

made_so : (a tried made : HssAgent) (before now : Bool) → (snap_out a tried made before now).0.1 ≡ true → ArePostsSpelled (snap_out a tried made before now).0.0.pending → IsUnspelledIn (snap_out a tried made before now).1 → ⊥
made_so a tried made true now is spelled unspelled = cc is
made_so a tried made false true is spelled unspelled = cc is
made_so a tried made false false is spelled unspelled = unspelled spelled

pub made_spelled : (p q : Participant) (view : View) → (snapping_in p view).0.1 ≡ true → q ≡ having_snapped p view → ArePostsSpelled q.agent.pending → IsUnspelledIn (snapping_in p view).1 → ⊥
made_spelled p q view is made spelled unspelled =
    made_so p.agent (failed p.agent) (snapped p.agent (root_name view (basis_of p.agent.holding)) (snapshot_blocks view (basis_of p.agent.holding))) p.agent.has_failed (fails_next p.keeper)
    is (subst (λ (x : Participant). ArePostsSpelled x.agent.pending) made spelled) unspelled

-- the participant is in one view
pub unspelled_in : (p : Participant) (view look : View) → p.agent.view ≡ Some view → p.agent.view ≡ Some look → IsUnspelledIn (snapping_in p view).1 → IsUnspelledIn (snapping_in p look).1
unspelled_in p view look in_view within unspelled = subst (λ (v : View). IsUnspelledIn (snapping_in p v).1) (one_view view look (sym in_view ∙ within)) unspelled
