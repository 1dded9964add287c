-- A view: the participants whose logs make up the file system, and those whose logs did once.
use Rattle.std.specs.Prelude.{◌+◌, ◌≤◌, ℕ, Bool, true, ◌||◌, ◌&&◌, not, IsTrue, List, [], ◌∷◌, ◌++◌, length}
use Rattle.std.specs.List.{list_any, list_all}
use Rattle.std.specs.Ordering.{is_lt}
use Rattle.ivy_base.specs.declared.key.Key.{Key}
use Rattle.ivy_base.specs.declared.key.PubKey.{PubKey}
use Rattle.ivy_base.specs.Naming.{head_key_of, name, owner_cmp}
use Rattle.tree_model.specs.Tree.{same_key}
use Rattle.wire_model.specs.Xdr.{array}

pub record View : Type 0 where
  pub members : List PubKey
  pub former : List PubKey

-- a view has so many members and so many former logs at most, so a vector has as many entries as both together
abbrev pub most_members : ℕ
most_members = 16

abbrev pub most_former : ℕ
most_former = 16

abbrev pub most_cited : ℕ
most_cited = most_members + most_former

-- the head key is that of one of these owners
abbrev pub is_log_of : List PubKey → Key → Bool
is_log_of owners log = list_any (λ owner. same_key (head_key_of owner) log) owners

abbrev pub is_member : View → Key → Bool
is_member view log = is_log_of view.members log

abbrev pub is_former : View → Key → Bool
is_former view log = is_log_of view.former log

abbrev pub is_named : View → Key → Bool
is_named view log = is_member view log || is_former view log

-- "IVV1"
abbrev pub view_tag : List ℕ
view_tag = 73 ∷ 86 ∷ 86 ∷ 49 ∷ []

-- the block of a view: its tag, and its two lists of public keys
abbrev pub view_block : View → List ℕ
view_block view = view_tag ++ array (λ k. k.0) view.members ++ array (λ k. k.0) view.former

abbrev pub view_name : View → Key
view_name view = name (view_block view)

-- the keys ascend strictly by their bytes
abbrev pub ascend : List PubKey → Bool
ascend [] = true
ascend (k ∷ ks) = list_all (λ later. is_lt (owner_cmp k later)) ks && ascend ks

-- no two keys have one head key
abbrev pub have_own_head_keys : List PubKey → Bool
have_own_head_keys [] = true
have_own_head_keys (k ∷ ks) = list_all (λ other. not (same_key (head_key_of k) (head_key_of other))) ks && have_own_head_keys ks

-- a view that may be made: 1 to 16 members, 0 to 16 former logs, each list in order, and no two keys of one head key, so that none stands
-- twice
pub record IsView (view : View) : Type 0 where
  pub some : 1 ≤ length view.members
  pub few : length view.members ≤ most_members
  pub few_former : length view.former ≤ most_former
  pub members_ascend : IsTrue (ascend view.members)
  pub former_ascend : IsTrue (ascend view.former)
  pub apart : IsTrue (have_own_head_keys (view.members ++ view.former))
