-- Which views have a block that can be read back, and why a view can't be made or read.
use Rattle.std.specs.Prelude.{◌≡◌, ◌≢◌, ℕ, ◌<◌, ◌≤◌, ◌^◌, ◌⊎◌, false, List, [], ◌++◌, length, map, IsTrue}
use Rattle.std.specs.List.{AllByRecursion}
use Rattle.ivy_base.specs.declared.key.Key.{Key}
use Rattle.ivy_base.specs.declared.key.PubKey.{PubKey}
use Rattle.wire_model.specs.Xdr.{array}
use Rattle.log_model.specs.View.{View, IsView, view_block, view_name, ascend, have_own_head_keys, most_members, most_former}
use Rattle.log_model.specs.ViewKeys.{IsPubKey, HasKeys}
use Rattle.view_blocks.specs.declared.fault.ViewFault.{ViewFault}
use Rattle.view_blocks.specs.declared.fault.ViewFault.TheVariants.{Malformed, NoMember, TooMany, Order, Overlap, Memory}

-- keys whose count a word holds, and how they stand in a block (RFC 4506, section 4.13)
abbrev pub AreKeys : List PubKey → Type 0
AreKeys keys = (length keys < 2 ^ 32) × AllByRecursion IsPubKey keys

abbrev pub keys_block : List PubKey → List ℕ
keys_block keys = array (λ key. key.0) keys

-- the keys of these bytes each
abbrev pub keys_of : List (List ℕ) → List PubKey
keys_of each = map (λ bytes. record { 0 = bytes }) each

-- the form of a view's block: any two lists of keys, whether or not a view may be made of them
pub record FitsBlock (view : View) : Type 0 where
  pub members : AreKeys view.members
  pub former : AreKeys view.former

-- the bytes are the block of no two lists of keys
abbrev pub HasNoForm : List ℕ → Type 0
HasNoForm bytes = (view : View) → FitsBlock view → bytes ≢ view_block view

-- ---- what is tested, in this order

pub record HasFewKeys (view : View) : Type 0 where
  pub some : view.members ≢ []
  pub few : length view.members ≤ most_members
  pub few_former : length view.former ≤ most_former

pub record IsInOrder (view : View) : Type 0 where
  pub members : IsTrue (ascend view.members)
  pub former : IsTrue (ascend view.former)

-- why there are too few or too many keys
abbrev pub CountsFailAs : ℕ → ℕ → ViewFault → Type 0
CountsFailAs members former NoMember = members ≡ 0
CountsFailAs members former TooMany = (members ≢ 0) × ((most_members < members) ⊎ (most_former < former))
CountsFailAs members former fault = ⊥

-- why a view of these keys can't be made: the first test that fails. Running out of memory isn't tied to a cause
abbrev pub FailsAs : View → ViewFault → Type 0
FailsAs view Malformed = ⊥
FailsAs view NoMember = view.members ≡ []
FailsAs view TooMany = (view.members ≢ []) × ((most_members < length view.members) ⊎ (most_former < length view.former))
FailsAs view Order = HasFewKeys view × (IsInOrder view → ⊥)
FailsAs view Overlap = HasFewKeys view × IsInOrder view × (have_own_head_keys (view.members ++ view.former) ≡ false)
FailsAs view Memory = Unit {0}

-- why no view can be read from these bytes: they have no form, or are the block of keys of which none can be made
abbrev pub BlockFailsAs : List ℕ → ViewFault → Type 0
BlockFailsAs bytes Malformed = HasNoForm bytes
BlockFailsAs bytes Memory = Unit {0}
BlockFailsAs bytes fault = (view : View) × FitsBlock view × (bytes ≡ view_block view) × FailsAs view fault

-- ---- what a view keeps

pub record IsKept (view : View) (name : Key) : Type 0 where
  pub legal : IsView view
  pub keys : HasKeys view
  pub named : name ≡ view_name view
