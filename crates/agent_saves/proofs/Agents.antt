-- Saved bytes are of what was read, or of nothing.
use Rattle.std.proofs.Common.{◌≡◌, ℕ, ◌<◌, ◌≤◌, ◌^◌, List, length, Option, Some, None, Err, Result, refl, sym, ap, ◌∙◌, subst, arith}
use Rattle.std.specs.Prelude.{IfSome, Contains, IsTrue}
use Rattle.std.specs.List.{AllByRecursion}
use Rattle.ivy_base.specs.declared.key.PubKey.{PubKey}
use Rattle.ivy_base.specs.Naming.{head_key_of}
use Rattle.wire_model.proofs.OneReading.{whole}
use Rattle.log_model.specs.Vector.{Vector, seq_of}
use Rattle.log_model.specs.View.{View, IsView, is_named}
use Rattle.block_parts.specs.Parts.{IsOptional}
use Rattle.version_vectors.specs.Vectors.{VectorFits}
use Rattle.snapshot_model.specs.Blocks.{IsVectorSpelled}
use Rattle.dht_ids.specs.declared.signature.LoadFault.{LoadFault}
use Rattle.dht_ids.specs.declared.signature.LoadFault.TheVariants as load
use Rattle.log_model.specs.Signing.{Signing}
use Rattle.log_model.specs.ViewKeys.{HasKeys}
use Rattle.agent_model.specs.Agent.{Kept, own_key}
use Rattle.agent_model.specs.SavedBytes.{IsKept, kept_bytes}
use Rattle.block_parts.specs.declared.fault.BlockFault.{BlockFault}
use Rattle.block_parts.specs.declared.fault.BlockFault.TheVariants.{Malformed, Memory}
use Rattle.agent_saves.specs.Parts.{AreOf, IsLegal, IsTold, Told, most_counted, told_bytes}
use Rattle.agent_saves.specs.Refusals.{Refuses, of_load}
use Rattle.agent_saves.specs.Saves.{AreSavedOf, AreSavedOfNone, IsCounted}
use Rattle.agent_saves.proofs.PartReading.{one_told}

-- ---- parts with their bounds

spelled_floor : (v : Vector) → VectorFits most_counted v → IsVectorSpelled v
spelled_floor v f = record { each = f.whole.entries; in_order = f.whole.in_order; short = omega (arith, f.short) }

floor_fits : (v : Vector) → IsVectorSpelled v → VectorFits most_counted v
floor_fits v f = record { whole = record { entries = f.each; in_order = f.in_order }; short = omega (arith, f.short) }

module _ (P Q : View → Type 0) where
  view_fits : (o : Option View) → IfSome o (λ v. IsView v × HasKeys v × P v × Q v) → IsOptional IsLegal o
  view_fits None h = tt
  view_fits (Some v) h = (h.0, h.1)

  view_stands : (o : Option View) → IfSome o (λ v. IsView v × HasKeys v × P v × Q v) → IfSome o (λ v. P v × Q v)
  view_stands None h = tt
  view_stands (Some v) h = (h.2, h.3)

  view_kept : (o : Option View) → IsOptional IsLegal o → IfSome o (λ v. P v × Q v) → IfSome o (λ v. IsView v × HasKeys v × P v × Q v)
  view_kept None h g = tt
  view_kept (Some v) h g = (h.0, h.1, g.0, g.1)

module _ {S : Type 0} (signs : Signing S) (IsWhole : S → Type 0) where
  abbrev CanBe : S → Type 0
  CanBe = IsCounted IsWhole signs.saved

  -- ---- what may be saved has parts

  abbrev reach : Kept S → ℕ
  reach k = seq_of k.floor (head_key_of (own_key signs k.signer))

  abbrev told_of : Kept S → Told
  told_of k = ((((((tt, signs.saved k.signer), k.view), reach k), k.floor), k.pending), k.snapshot)

  abbrev HasOwn : Kept S → View → Type 0
  HasOwn k v = Contains v.members (own_key signs k.signer)

  abbrev Names : Vector → View → Type 0
  Names floor v = AllByRecursion (λ e. IsTrue (is_named v e.0)) floor

  fits_told : (k : Kept S) → IsKept signs CanBe k → IsTold (told_of k)
  fits_told k f = (
    (((((tt, omega (arith, f.signer.1)), view_fits (HasOwn k) (Names k.floor) k.view f.view), omega (arith, f.few)), floor_fits k.floor f.floor), (omega (arith, f.posts.few), f.posts.each)),
    f.snapshot,
  )

  own_parts : (k : Kept S) → IsKept signs CanBe k → AreOf (own_key signs k.signer) (reach k) k.floor k.view
  own_parts k f = record { some = f.some; few = f.few; counted = refl; stands = view_stands (HasOwn k) (Names k.floor) k.view f.view }

  pub refused_parts : (bytes : List ℕ) (refusal : BlockFault) → Refuses IsTold told_bytes bytes refusal → Refuses (IsKept signs CanBe) (kept_bytes signs) bytes refusal
  refused_parts bytes Malformed = λ absent k f e. absent (told_of k) (fits_told k f) e
  refused_parts bytes Memory = λ absent. tt

  -- ---- what may be saved is determined by its bytes

  pub told_apart_by_bytes : ((a b : S) → IsWhole a → IsWhole b → signs.saved a ≡ signs.saved b → a ≡ b) → (k l : Kept S) → IsKept signs CanBe k → IsKept signs CanBe l → kept_bytes signs k ≡ kept_bytes signs l → k ≡ l
  told_apart_by_bytes told_apart k l f g e = λ i. record { signer = signer i; view = (parts i).0.0.0.0.1; floor = (parts i).0.0.1; pending = (parts i).0.1; snapshot = (parts i).1 }
    where
      parts : told_of k ≡ told_of l
      parts = whole one_told (told_of k) (told_of l) (fits_told k f) (fits_told l g) e

      signer : k.signer ≡ l.signer
      signer = told_apart k.signer l.signer f.signer.0 g.signer.0 (ap (λ (q : Told). q.0.0.0.0.0.1) parts)

  -- ---- what was read is all that the bytes say

  module _ (bytes : List ℕ) (p : Told) (fits : IsTold p) (spelled : bytes ≡ told_bytes p) where
    same : (k : Kept S) → IsKept signs CanBe k → bytes ≡ kept_bytes signs k → p ≡ told_of k
    same k f e = whole one_told p (told_of k) fits (fits_told k f) (sym spelled ∙ e)

    no_signer : ((s : S) → IsWhole s → p.0.0.0.0.0.1 ≡ signs.saved s → ⊥) → AreSavedOfNone signs CanBe bytes
    no_signer absent k f e = absent k.signer f.signer.0 (ap (λ (q : Told). q.0.0.0.0.0.1) (same k f e))

    pub refused_signer : (why : LoadFault) → (◌≡◌ {A = Result S LoadFault} (Err why) (Err load.Malformed) → (s : S) → IsWhole s → p.0.0.0.0.0.1 ≡ signs.saved s → ⊥)
        → Refuses (IsKept signs CanBe) (kept_bytes signs) bytes (of_load why)
    refused_signer load.Malformed absent = no_signer (absent refl)
    refused_signer load.Memory absent = tt

    module _ (s : S) (can_be : IsWhole s) (saved : p.0.0.0.0.0.1 ≡ signs.saved s) (owner : PubKey) (owner_is : owner.0 ≡ signs.key s) where
      own_is : owner ≡ own_key signs s
      own_is = ap (λ (b : List ℕ). record { 0 = b }) owner_is

      pub not_own : ((a b : S) → IsWhole a → IsWhole b → signs.saved a ≡ signs.saved b → a ≡ b) → (AreOf owner p.0.0.0.1 p.0.0.1 p.0.0.0.0.1 → ⊥) → AreSavedOfNone signs CanBe bytes
      not_own told_apart misfit k f e =
          let parts : p ≡ told_of k = same k f e in
          let signer : s ≡ k.signer = told_apart s k.signer can_be f.signer.0 (sym saved ∙ ap (λ (q : Told). q.0.0.0.0.0.1) parts) in
          let own : owner ≡ own_key signs k.signer = own_is ∙ ap (λ (x : S). own_key signs x) signer in
          misfit (subst (λ (o : PubKey). AreOf o p.0.0.0.1 p.0.0.1 p.0.0.0.0.1) (sym own) (subst (λ (q : Told). AreOf (own_key signs k.signer) q.0.0.0.1 q.0.0.1 q.0.0.0.0.1) (sym parts) (own_parts k f)))

      abbrev read : Kept S
      read = record { signer = s; view = p.0.0.0.0.1; floor = p.0.0.1; pending = p.0.1; snapshot = p.1 }

      with_own : AreOf (own_key signs s) p.0.0.0.1 p.0.0.1 p.0.0.0.0.1 → AreSavedOf signs CanBe bytes read
      with_own h = record {
        kept = record {
          signer = (can_be, subst (λ (b : List ℕ). length b < 2 ^ 32) saved (omega (arith, fits.0.0.0.0.0.1)));
          some = subst (λ (n : ℕ). 1 ≤ n) h.counted h.some;
          few = subst (λ (n : ℕ). n ≤ 1048576) h.counted h.few;
          floor = spelled_floor p.0.0.1 fits.0.0.1;
          view = view_kept (HasOwn read) (Names p.0.0.1) p.0.0.0.0.1 fits.0.0.0.0.1 h.stands;
          posts = record { few = omega (arith, fits.0.1.0); each = fits.0.1.1 };
          snapshot = fits.1;
        };
        spelled = spelled ∙ (λ i. told_bytes ((((((tt, saved i), p.0.0.0.0.1), h.counted i), p.0.0.1), p.0.1), p.1));
      }

      pub are_saved : AreOf owner p.0.0.0.1 p.0.0.1 p.0.0.0.0.1 → AreSavedOf signs CanBe bytes read
      are_saved h = with_own (subst (λ (o : PubKey). AreOf o p.0.0.0.1 p.0.0.1 p.0.0.0.0.1) own_is h)
