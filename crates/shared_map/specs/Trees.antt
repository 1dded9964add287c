-- What a node of the tree is seen as, and what holds of it: the tree is an AVL tree with some play.
use Rattle.std.specs.Prelude.{◌≡◌, ℕ, ◌+◌, ◌*◌, ◌^◌, ◌≤◌, max, List, [], ◌∷◌, ◌++◌, length, Option, Some, None}
use Rattle.std.specs.declared.alloc.Global.{Global}
use Rattle.std.specs.declared.sync.Arc.{Arc}
use Rattle.std.specs.declared.cmp.Ordering.{Ordering}
use Rattle.std.specs.declared.cmp.Ordering.TheVariants.{Less, Equal, Greater}
use Rattle.shared_map.specs.declared.tree.Fork.{Fork}
use Rattle.shared_map.specs.declared.tree.Side.{Side}
use Rattle.shared_map.specs.declared.tree.Side.TheVariants.{Left, Right}

-- neither height is more than this above the other
abbrev pub DifferByAtMost : ℕ → ℕ → ℕ → Type 0
DifferByAtMost by a b = (a ≤ b + by) × (b ≤ a + by)

-- the height is at most twice the binary logarithm of the number of entries and one
abbrev pub IsLow : ℕ → ℕ → Type 0
IsLow entries height = 2 ^ height ≤ (entries + 1) * (entries + 1)

-- the height h of what a node with sides of these heights settles to
abbrev pub IsSettled : ℕ → ℕ → ℕ → Type 0
IsSettled l r h = (max l r ≤ h) × (h ≤ max l r + 1) × (DifferByAtMost 1 l r → h ≡ max l r + 1)

-- the other side
abbrev pub opposite : Side → Side
opposite Left = Right
opposite Right = Left

-- on which side of an entry a key is that compares so with the entry's
abbrev pub side_to : Ordering → Option Side
side_to Less = Some Left
side_to Equal = None
side_to Greater = Some Right

-- the entries xs on this side, an entry, and those on the other side, in order
abbrev pub in_order : {A : Type 0} → Side → List A → A → List A → List A
in_order Left xs e ys = xs ++ e ∷ ys
in_order Right xs e ys = ys ++ e ∷ xs

-- the heights o and n of the sides of a node that was of height h, and that may be turned away from the side of height o
abbrev pub IsStraight : ℕ → ℕ → ℕ → Type 0
IsStraight h o n = (h ≤ o + 2) × (o + 1 ≤ h) × (h ≤ n + 4) × (n + 1 ≤ h) × (h ≤ max o (n + 1) + 1)

module _ {K V : Type 0} where
  -- this side of a node
  abbrev pub side_on : Side → Fork K V → List (K × V) × ℕ
  side_on Left f = f.left
  side_on Right f = f.right

  -- the node with another side there
  abbrev pub with_side : Side → List (K × V) × ℕ → Fork K V → Fork K V
  with_side Left t f = record f { left = t }
  with_side Right t f = record f { right = t }

  -- the node with o on this side and n on the other one
  abbrev pub of_parts : Side → List (K × V) × ℕ → K → Arc V Global → ℕ → List (K × V) × ℕ → Fork K V
  of_parts Left o k v h n = record { left = o; key = k; value = v; height = h; right = n }
  of_parts Right o k v h n = record { left = n; key = k; value = v; height = h; right = o }

  -- the entries in order, and the height
  abbrev pub seen : Option (Fork K V) → List (K × V) × ℕ
  seen None = ([], 0)
  seen (Some f) = (f.left.0 ++ (f.key, f.value.value) ∷ f.right.0, f.height)

  -- the height is one above the higher side's, and those differ by at most two
  abbrev pub IsBalanced : Option (Fork K V) → Type 0
  IsBalanced None = Unit {0}
  IsBalanced (Some f) = (f.height ≡ max f.left.1 f.right.1 + 1) × DifferByAtMost 2 f.left.1 f.right.1

  -- what the node of a tree keeps
  abbrev pub IsTree : Fork K V → Type 0
  IsTree f = IsBalanced (Some f) × IsLow (length (seen (Some f)).0) f.height

  -- the two nodes are equal, but that their values may have other owners
  abbrev pub IsCopy : Fork K V → Fork K V → Type 0
  IsCopy f g = (g.left ≡ f.left) × (g.key ≡ f.key) × (g.value.value ≡ f.value.value) × (g.height ≡ f.height) × (g.right ≡ f.right)

  -- the node at the top
  abbrev pub top : Option (Arc (Fork K V) Global) → Option (Fork K V)
  top None = None
  top (Some a) = Some a.value

  -- the tree has these entries, and a height that is at most one off this one
  abbrev pub IsNear : List (K × V) → ℕ → List (K × V) × ℕ → Type 0
  IsNear es height tree = (tree.0 ≡ es) × DifferByAtMost 1 tree.1 height

  -- the tree has these entries, and this height or one more
  abbrev pub IsGrown : List (K × V) → ℕ → List (K × V) × ℕ → Type 0
  IsGrown es height tree = (tree.0 ≡ es) × (height ≤ tree.1) × (tree.1 ≤ height + 1)
