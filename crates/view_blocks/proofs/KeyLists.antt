-- Lists of public keys in bytes, and the block of two of them.
use Rattle.std.proofs.Common.{◌≡◌, ◌≢◌, ℕ, List, [], ◌++◌, refl, sym, ◌∙◌, arith}
use Rattle.std.specs.List.{flat_map}
use Rattle.std.proofs.lemmas.List.{append-nil, append_cancel_left}
use Rattle.ivy_base.specs.declared.key.PubKey.{PubKey}
use Rattle.wire_model.specs.Xdr.{word, IsWord, AreSoMany}
use Rattle.wire_model.specs.OneReading.{IsFront, HasNoFront}
use Rattle.wire_model.proofs.Fronts.{none_of_fewer}
use Rattle.wire_model.proofs.Arrays.{AreFew, counted, no_counted}
use Rattle.log_model.specs.Spelling.{IsBlock}
use Rattle.log_model.specs.View.{View, view_block, view_tag}
use Rattle.block_parts.specs.Parts.{as_it_stands}
use Rattle.block_parts.proofs.Blocks.{made_front, none_made}
use Rattle.view_blocks.specs.Faults.{AreKeys, keys_block, keys_of, FitsBlock, HasNoForm}
use Rattle.view_blocks.proofs.OneView.{one_key, one_list}

few_keys : (keys : List PubKey) → AreKeys keys → AreFew one_key 4294967295 keys
few_keys keys f = (omega (arith, f.0), f.1)

pub front_of_keys : {bytes middle rest : List ℕ} {count : ℕ} {each : List (List ℕ)} → IsFront IsWord word bytes count middle → IsFront (AreSoMany (IsBlock 60) count) (flat_map as_it_stands) middle each rest
    → IsFront AreKeys keys_block bytes (keys_of each) rest
front_of_keys {bytes} {rest = rest} {count = count} {each = each} f g =
    let keys = made_front (λ (key : PubKey). key.0) (λ bytes. record { 0 = bytes }) (λ bytes. refl) 60 g in
    let all = counted one_key {most = 4294967295} f (omega (arith, f.fits)) (record { fits = keys.fits.each; spelled = keys.spelled }) keys.fits.size in
    record { fits = (omega (arith, f.fits, keys.fits.size), keys.fits.each); spelled = all.spelled }

-- without the bytes of so many keys there is no list
pub no_keys : {bytes middle : List ℕ} {count : ℕ} → IsFront IsWord word bytes count middle → HasNoFront (AreSoMany (IsBlock 60) count) (flat_map as_it_stands) middle → HasNoFront AreKeys keys_block bytes
no_keys f absent = none_of_fewer few_keys (no_counted one_key 4294967295 (omega arith) f (none_made (λ (key : PubKey). key.0) (λ bytes. record { 0 = bytes }) (λ bytes. refl) 60 absent))

-- ---- the block

module _ (bytes after middle : List ℕ) (members : List PubKey) (marked : bytes ≡ view_tag ++ after) (first : IsFront AreKeys keys_block after members middle) where
  second_is : (view : View) → FitsBlock view → bytes ≡ view_block view → middle ≡ keys_block view.former
  second_is view fits e =
      let same : after ≡ keys_block view.members ++ keys_block view.former = append_cancel_left view_tag after (keys_block view.members ++ keys_block view.former) (sym marked ∙ e) in
      (one_list.one members view.members middle (keys_block view.former) first.fits fits.members (sym first.spelled ∙ same)).1

  pub no_former : HasNoFront AreKeys keys_block middle → HasNoForm bytes
  no_former absent view fits e = absent.none view.former [] (record {
    fits = fits.former;
    spelled = second_is view fits e ∙ sym (append-nil (keys_block view.former));
  })

  pub nothing_behind : (former : List PubKey) (rest : List ℕ) → IsFront AreKeys keys_block middle former rest → rest ≢ [] → HasNoForm bytes
  nothing_behind former rest second left view fits e =
      left (one_list.one former view.former rest [] second.fits fits.former (sym second.spelled ∙ second_is view fits e ∙ sym (append-nil (keys_block view.former)))).1
