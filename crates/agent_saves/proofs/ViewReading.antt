-- A view's part can be read in one way only, and where none can be read.
use Rattle.std.proofs.Common.{◌≡◌, ◌≢◌, ◌==◌, true, false, ℕ, ◌+◌, ◌*◌, ◌≤◌, List, [], ◌∷◌, length, Option, Some, None, refl, sym, ap, ◌∙◌, subst, arith, length-append}
use Rattle.std.specs.List.{AllByRecursion, flat_map}
use Rattle.ivy_base.specs.declared.key.PubKey.{PubKey}
use Rattle.wire_model.specs.Xdr.{word, opaque, array, IsUpTo}
use Rattle.wire_model.specs.OneReading.{ReadsOne, IsFront, HasNoFront}
use Rattle.wire_model.proofs.OneReading.{whole}
use Rattle.log_model.specs.View.{View, IsView, view_block}
use Rattle.log_model.specs.ViewKeys.{HasKeys, IsPubKey}
use Rattle.block_parts.specs.Parts.{IsOptional}
use Rattle.view_blocks.specs.Faults.{BlockFailsAs}
use Rattle.view_blocks.specs.declared.fault.ViewFault.{ViewFault}
use Rattle.view_blocks.specs.declared.fault.ViewFault.TheVariants as fault
use Rattle.view_blocks.proofs.OneView.{one_legal_view}
use Rattle.view_blocks.proofs.Refusals.{legal_block_passes}
use Rattle.agent_model.specs.SavedBytes.{view_bytes}
use Rattle.block_parts.specs.declared.fault.BlockFault.{BlockFault}
use Rattle.block_parts.specs.declared.fault.BlockFault.TheVariants.{Malformed, Memory}
use Rattle.agent_saves.specs.Parts.{IsLegal, most_counted, view_part}
use Rattle.agent_saves.specs.Refusals.{AreOfNone, Refuses, RefusesFront, of_view}
use Rattle.agent_saves.proofs.PostReading.{one_counted}

-- ---- how long a block is

keys_length : (keys : List PubKey) → AllByRecursion IsPubKey keys → length (flat_map (λ (k : PubKey). k.0) keys) ≡ 60 * length keys
keys_length [] h = refl
keys_length (k ∷ keys) h = omega (arith, length-append k.0 (flat_map (λ (k : PubKey). k.0) keys), keys_length keys h.1, h.0.size)

list_length : (keys : List PubKey) → AllByRecursion IsPubKey keys → length (array (λ (k : PubKey). k.0) keys) ≡ 4 + 60 * length keys
list_length keys h = omega (arith, length-append (word (length keys)) (flat_map (λ (k : PubKey). k.0) keys), keys_length keys h)

block_short : (v : View) → IsView v → HasKeys v → length (view_block v) ≤ most_counted
block_short v legal keys =
    omega (arith, length-append (array (λ (k : PubKey). k.0) v.members) (array (λ (k : PubKey). k.0) v.former), list_length v.members keys.members, list_length v.former keys.former, legal.few, legal.few_former)

view_short : (o : Option View) → IsOptional IsLegal o → length (view_bytes o) ≤ most_counted
view_short None h = omega arith
view_short (Some v) h = block_short v h.0 h.1

-- ---- one reading

told_view : (o p : Option View) → IsOptional IsLegal o → IsOptional IsLegal p → view_bytes o ≡ view_bytes p → o ≡ p
told_view None None f g e = refl
told_view None (Some w) f g e = cc e
told_view (Some v) None f g e = cc e
told_view (Some v) (Some w) f g e = ap Some (whole one_legal_view v w f g e)

pub one_view : ReadsOne (IsOptional IsLegal) view_part
one_view = record {
  one = λ x y r s f g e.
      let p = one_counted.one (view_bytes x) (view_bytes y) r s (view_short x f) (view_short y g) e in
      (told_view x y f g p.0, p.1);
}

pub no_view_block : {b0 : List ℕ} → HasNoFront (IsUpTo most_counted) opaque b0 → HasNoFront (IsOptional IsLegal) view_part b0
no_view_block absent = record { none = λ o rest f. absent.none (view_bytes o) rest (record { fits = view_short o f.fits; spelled = f.spelled }) }

module _ {b0 b1 : List ℕ} {block : List ℕ} (f : IsFront (IsUpTo most_counted) opaque b0 block b1) where
  no_view_in : AreOfNone (IsOptional IsLegal) view_bytes block → HasNoFront (IsOptional IsLegal) view_part b0
  no_view_in absent = record {
    none = λ o rest g. absent o g.fits (one_counted.one block (view_bytes o) b1 rest f.fits (view_short o g.fits) (sym f.spelled ∙ g.spelled)).0;
  }

  pub refused_view : (refusal : BlockFault) → Refuses (IsOptional IsLegal) view_bytes block refusal → RefusesFront (IsOptional IsLegal) view_part b0 refusal
  refused_view Malformed h = no_view_in h
  refused_view Memory h = tt

-- ---- what isn't a view's block

pub not_empty : (bytes : List ℕ) → (length bytes == 0) ≡ false → bytes ≢ []
not_empty bytes h e = let f : (length bytes == 0) ≡ true = ap (λ (b : List ℕ). length b == 0) e in cc

not_legal : (bytes : List ℕ) (why : ViewFault) → bytes ≢ [] → why ≢ fault.Memory → BlockFailsAs bytes why → AreOfNone (IsOptional IsLegal) view_bytes bytes
not_legal bytes why some known fails None fits e = some e
not_legal bytes why some known fails (Some v) fits e = known (legal_block_passes v why fits.0 fits.1 (subst (λ (b : List ℕ). BlockFailsAs b why) e fails))

pub refused_block : (bytes : List ℕ) (why : ViewFault) → bytes ≢ [] → BlockFailsAs bytes why → Refuses (IsOptional IsLegal) view_bytes bytes (of_view why)
refused_block bytes fault.Malformed some fails = not_legal bytes fault.Malformed some (λ e. cc e) fails
refused_block bytes fault.NoMember some fails = not_legal bytes fault.NoMember some (λ e. cc e) fails
refused_block bytes fault.TooMany some fails = not_legal bytes fault.TooMany some (λ e. cc e) fails
refused_block bytes fault.Order some fails = not_legal bytes fault.Order some (λ e. cc e) fails
refused_block bytes fault.Overlap some fails = not_legal bytes fault.Overlap some (λ e. cc e) fails
refused_block bytes fault.Memory some fails = tt
