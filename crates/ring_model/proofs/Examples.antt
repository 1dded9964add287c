-- The definitions, tried on a circle of eight places with members at 1, 3 and 6.
use Rattle.std.proofs.Common.{◌≡◌, ℕ, ◌-◌, true, false, List, [], ◌∷◌, Some, refl}
use Rattle.ring_model.specs.Circle.{be_number, circle_size, clockwise, is_between}
use Rattle.ring_model.specs.Arc.{is_strictly_between}
use Rattle.ring_model.specs.Members.{following, from_place, owners}
use Rattle.ring_model.specs.Ring.{start}
use Rattle.ring_model.specs.Route.{route_of}
use Rattle.ring_model.specs.Pass.{renewed, notified}

abbrev members : List ℕ
members = 1 ∷ 3 ∷ 6 ∷ []

number_of_bytes : be_number (1 ∷ 2 ∷ []) ≡ 258
number_of_bytes = refl

distance_over_zero : clockwise (circle_size - 1) 1 ≡ 2
distance_over_zero = refl

end_is_between : is_between 7 3 3 ≡ true
end_is_between = refl

beginning_is_not : is_between 3 3 7 ≡ false
beginning_is_not = refl

all_is_between_one : is_between 3 3 3 ≡ true
all_is_between_one = refl

inside_over_zero : is_strictly_between 6 1 3 ≡ true
inside_over_zero = refl

ends_are_outside : is_strictly_between 3 6 6 ≡ false
ends_are_outside = refl

whole_circle_but_one : is_strictly_between 3 1 3 ≡ true
whole_circle_but_one = refl

one_is_outside : is_strictly_between 3 3 3 ≡ false
one_is_outside = refl

behind_three : following (λ n. n) members 3 ≡ 6 ∷ 1 ∷ []
behind_three = refl

from_three : from_place (λ n. n) members 3 ≡ 3 ∷ 6 ∷ 1 ∷ []
from_three = refl

owners_of_seven : owners (λ n. n) 2 members 7 ≡ 1 ∷ 3 ∷ []
owners_of_seven = refl

third_finger_of_six : start (λ n. n) 3 6 2 ≡ 2
third_finger_of_six = refl

-- the node at 1, with r = 1, is asked for 5: the node at 3 is nearer, and the one at 6 owns it as far as it knows
route_to_five : route_of (λ n. n) 1 1 (record { list = 3 ∷ 6 ∷ []; before = Some 6; fingers = 3 ∷ 3 ∷ 6 ∷ [] }) 5 ≡ record { nearer = 3 ∷ []; owners = 6 ∷ [] }
route_to_five = refl

-- of three that are nearer the nearest comes first; a node whose list isn't full is the last owner
route_to_zero : route_of (λ n. n) 2 1 (record { list = 3 ∷ 6 ∷ []; before = Some 6; fingers = 3 ∷ 7 ∷ 6 ∷ [] }) 0 ≡ record { nearer = 7 ∷ 6 ∷ 3 ∷ []; owners = 1 ∷ [] }
route_to_zero = refl

-- the node at 1 hears of the one at 3, which stands between it and the one at 6
list_of_one : renewed (λ n. n) 1 1 6 (Some 3) (1 ∷ 3 ∷ []) ≡ 3 ∷ 6 ∷ []
list_of_one = refl

-- the list ends before its own entry
list_of_three : renewed (λ n. n) 2 3 6 (Some 3) (1 ∷ 3 ∷ 6 ∷ []) ≡ 6 ∷ 1 ∷ []
list_of_three = refl

-- a notice of a node that is farther off changes nothing
notice_of_one : notified (λ n. n) 6 (record { list = 1 ∷ []; before = Some 3; fingers = [] }) 1 ≡ record { list = 1 ∷ []; before = Some 3; fingers = [] }
notice_of_one = refl

notice_of_three : notified (λ n. n) 6 (record { list = []; before = Some 1; fingers = [] }) 3 ≡ record { list = 3 ∷ []; before = Some 3; fingers = [] }
notice_of_three = refl
