-- Laws of the spellings: each can be read in one way only.
use Rattle.std.specs.Prelude.{◌≡◌, ℕ, ◌<◌, ◌^◌, List, length, IfSome}
use Rattle.std.specs.List.{AllByRecursion}
use Rattle.wire_model.specs.Xdr.{word, double_word, boolean, fixed, opaque, optional, array, moment, IsWordMoment, IsAny, IsOfLength}
use Rattle.wire_model.specs.OneReading.{ReadsOne}
use Rattle.wire_model.specs.Rpc.{Auth, Identity, CallMessage, IsCall, IsOtherVersion, IsCaller}

-- numbers below their bounds, in four and in eight bytes
pub record NumbersAreUnambiguous : Type 0 where
  pub word_length : (n : ℕ) → length (word n) ≡ 4
  pub double_word_length : (n : ℕ) → length (double_word n) ≡ 8
  pub words : ReadsOne (λ n. n < 2 ^ 32) word
  pub double_words : ReadsOne (λ n. n < 2 ^ 64) double_word

-- booleans, fixed data of a length that is known, and data with its length or flag in front, of a length that a word holds
pub record ItemsAreUnambiguous : Type 0 where
  pub booleans : ReadsOne IsAny boolean
  pub fixed_data : (n : ℕ) → ReadsOne (IsOfLength n) fixed
  pub opaques : ReadsOne (λ (bytes : List ℕ). length bytes < 2 ^ 32) opaque
  pub optional_words : ReadsOne (λ o. IfSome o (λ n. n < 2 ^ 32)) (optional word)
  pub optional_double_words : ReadsOne (λ o. IfSome o (λ n. n < 2 ^ 64)) (optional double_word)
  pub arrays_of_words : ReadsOne (λ ns. (length ns < 2 ^ 32) × AllByRecursion (λ n. n < 2 ^ 32) ns) (array word)
  pub moments : ReadsOne IsWordMoment moment

-- a message is of one call, with one credential and one verifier, and not of another version at the same time
pub record CallsAreUnambiguous : Type 0 where
  pub calls : (message : List ℕ) (c d : CallMessage) → IsCall message c → IsCall message d → c ≡ d
  pub versions : (message : List ℕ) (c : CallMessage) (xid : ℕ) → IsCall message c → IsOtherVersion message xid → ⊥
  pub other_versions : (message : List ℕ) (xid other : ℕ) → IsOtherVersion message xid → IsOtherVersion message other → xid ≡ other

-- a credential is of one caller
abbrev pub CallersAreUnambiguous : Type 0
CallersAreUnambiguous = (a : Auth) (who other : Identity) → IsCaller a who → IsCaller a other → who ≡ other
