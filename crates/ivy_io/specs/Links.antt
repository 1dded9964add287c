-- Links: those to come, those given, and those that came back.
use Rattle.std.specs.Prelude.{◌≡◌, ◌+◌, ◌-◌, ◌==◌, ℕ, List, [], ◌∷◌, ◌++◌, Option, Some, None, slice_get, if◌then◌else◌}

pub record Links (Link : Type 0) : Type 0 where
  -- the links that are to come, the next one first
  pub left : List Link
  -- how many were given and didn't come back
  pub out : ℕ
  -- those that came back, the last one at the end
  pub served : List Link

-- no link was given yet
abbrev pub fresh_links : {Link : Type 0} → List Link → Links Link
fresh_links links = record { left = links; out = 0; served = [] }

-- the next link, if one is left
abbrev pub next_link : {Link : Type 0} → Links Link → Option Link
next_link l = slice_get l.left 0

-- the links after the next one was given, if one was left
abbrev pub after_next : {Link : Type 0} → Links Link → Links Link
after_next {Link} l = given l.left
  where
    given : List Link → Links Link
    given [] = l
    given (link ∷ rest) = record { left = rest; out = l.out + 1; served = l.served }

-- where the links are known: this is the next one, or none is left
abbrev pub GivesNext : {Link : Type 0} → Option (Links Link) → Option (Links Link) → Option Link → Type 0
GivesNext None new link = new ≡ None
GivesNext (Some old) new link = (link ≡ next_link old) × (new ≡ Some (after_next old))

-- the links after one came back; none comes back where none is out
abbrev pub taken_back : {Link : Type 0} → Link → Links Link → Links Link
taken_back link l = if l.out == 0 then l else record { left = l.left; out = l.out - 1; served = l.served ++ link ∷ [] }
