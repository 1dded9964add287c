-- What was brought of one log tells how its fetch stands: walks back, heads one after the other.
use Rattle.std.proofs.Common.{◌≡◌, ◌≢◌, ⊎_elim, ℕ, List, [], ◌∷◌, ◌++◌, map, reverse, Option, Ok, Err, refl, sym, ap, ◌∙◌, subst, append_assoc, arith, Contains}
use Rattle.ivy_base.specs.declared.key.Key.{Key}
use Rattle.ivy_base.specs.declared.key.PubKey.{PubKey}
use Rattle.ivy_base.specs.Naming.{head_key_of}
use Rattle.wire_model.proofs.OneReading.{whole}
use Rattle.log_model.specs.View.{View}
use Rattle.log_model.specs.Vector.{Stamp, Vector, seq_of, stamp_at}
use Rattle.log_model.specs.Record.{Record}
use Rattle.log_model.specs.Spelling.{IsRecordOf}
use Rattle.log_model.proofs.Lists.{each, here, there, in_cons, in_nothing}
use Rattle.log_model.specs.Fetched.{ChainFails, IsOnward, IsSound, Edge}
use Rattle.log_model.specs.declared.chain_fault.ChainFault.{ChainFault}
use Rattle.log_model.specs.declared.chain_fault.ChainFault.TheVariants.{Bad, Fork, Memory}
use Rattle.log_records.proofs.OneRecord.{one_record}
use Rattle.turn_model.specs.Candidates.{IsTriedBefore}
use Rattle.dht_ids.specs.declared.judge.Judged.{Judged}
use Rattle.dhash_model.specs.declared.miss.Miss.{Miss}
use Rattle.agent_model.specs.Standing.{Standing, edge_at}
use Rattle.session_model.specs.Brought.{Brought, BlockOf, Content, HeadsOf, stamp_of}
use Rattle.session_model.specs.Walks.{AreTried, Came, Garbled, Gives, GivesNone, InTryingOrder, Lacks, LogEnd, Misses, Stops, Tries, WalkEnd, Walks, Wants}
use Rattle.session_model.specs.Walks.Walks.{came as all_came, wants as next_wanted, misses as one_misses, garbled as one_garbled, back as one_back}
use Rattle.session_model.specs.Walks.Tries.{none as none_tried, wants as trial_wants, misses as trial_misses, gives as trial_gives, passes as trial_passes, garbled as trial_garbled}
use Rattle.session_model.specs.Refreshing.{Fetches, Note, floors_own, note_of}
use Rattle.session_model.specs.Refreshing.Fetches.{wants_heads, no_heads, of_heads, of_own}
use Rattle.session_laws.proofs.OneLog.{not_both_before}

-- ---- what was brought

pub nothing_more : {X : Type 0} (m : List X) (x : X) (xs : List X) → m ≡ [] → m ≡ x ∷ xs → ⊥
nothing_more m x xs none some = cc (sym none ∙ some)

pub same_first : {X : Type 0} (x y : X) (xs ys : List X) → x ∷ xs ≡ y ∷ ys → x ≡ y
same_first x y xs ys e = cc e

pub same_rest : {X : Type 0} (x y : X) (xs ys : List X) → x ∷ xs ≡ y ∷ ys → xs ≡ ys
same_rest x y xs ys e = cc e

pub same_block : (key : Key) (a b : List ℕ) → BlockOf key (Ok a) ≡ BlockOf key (Ok b) → a ≡ b
same_block key a b e = cc e

pub same_miss : (key : Key) (a b : Miss) → BlockOf key (Err a) ≡ BlockOf key (Err b) → a ≡ b
same_miss key a b e = cc e

pub came_or_not : (key : Key) (a : Miss) (b : List ℕ) → BlockOf key (Err a) ≡ BlockOf key (Ok b) → ⊥
came_or_not key a b e = cc e

same_heads : (owner : PubKey) (a b : List Judged) → HeadsOf owner (Ok a) ≡ HeadsOf owner (Ok b) → a ≡ b
same_heads owner a b e = cc e

same_heads_miss : (owner : PubKey) (a b : Miss) → HeadsOf owner (Err a) ≡ HeadsOf owner (Err b) → a ≡ b
same_heads_miss owner a b e = cc e

heads_or_not : (owner : PubKey) (a : Miss) (b : List Judged) → HeadsOf owner (Err a) ≡ HeadsOf owner (Ok b) → ⊥
heads_or_not owner a b e = cc e

-- ---- walks

-- after what is wanted nothing was brought
abbrev EndsHere : WalkEnd → List Brought → Type 0
EndsHere (Wants key) more = more ≡ []
EndsHere (Misses miss) more = Unit {0}
EndsHere Garbled more = Unit {0}
EndsHere Came more = Unit {0}

-- walks that ended differently
abbrev kind_of : WalkEnd → ℕ
kind_of (Wants key) = 0
kind_of (Misses miss) = 1
kind_of Garbled = 2
kind_of Came = 3

differ : (e f : WalkEnd) → (kind_of e ≡ kind_of f → ⊥) → e ≡ f → ⊥
differ e f apart same = apart (ap kind_of same)

same_wanted : (a b : Key) → Wants a ≡ Wants b → a ≡ b
same_wanted a b e = cc e

same_missed : (a b : Miss) → Misses a ≡ Misses b → a ≡ b
same_missed a b e = cc e

module _ (owner : PubKey) where
  one_of : (bytes block : List ℕ) (r q : Record) → bytes ≡ block → IsRecordOf owner bytes r → IsRecordOf owner block q → r ≡ q
  one_of bytes block r q same f g = whole (one_record owner) r q (f.owned, f.fits) (g.owned, g.fits) (sym f.spelled ∙ same ∙ g.spelled)

  walk_one : {n : ℕ} {key : Key} {b c : List Brought} {rs qs : List Record} {e f : WalkEnd} (m l : List Brought) → Walks owner n key b rs e → Walks owner n key c qs f
      → EndsHere e m → EndsHere f l → b ++ m ≡ c ++ l → (rs ≡ qs) × (e ≡ f) × (m ≡ l)
  walk_one m l all_came all_came h g same = (refl, refl, same)
  walk_one m l next_wanted next_wanted h g same = (refl, refl, h ∙ sym g)
  walk_one m l (next_wanted {key = key}) (one_misses miss) h g same = absurd (nothing_more m (BlockOf key (Err miss)) l h same)
  walk_one m l (next_wanted {key = key}) (one_garbled bytes none) h g same = absurd (nothing_more m (BlockOf key (Ok bytes)) l h same)
  walk_one m l (next_wanted {key = key}) (one_back {more = later} bytes r is walk) h g same = absurd (nothing_more m (BlockOf key (Ok bytes)) (later ++ l) h same)
  walk_one m l (one_misses {key = key} miss) next_wanted h g same = absurd (nothing_more l (BlockOf key (Err miss)) m g (sym same))
  walk_one m l (one_misses {key = key} miss) (one_misses other) h g same = (refl, ap Misses (same_miss key miss other (same_first _ _ m l same)), same_rest _ _ m l same)
  walk_one m l (one_misses {key = key} miss) (one_garbled bytes none) h g same = absurd (came_or_not key miss bytes (same_first _ _ m l same))
  walk_one m l (one_misses {key = key} miss) (one_back {more = later} bytes r is walk) h g same = absurd (came_or_not key miss bytes (same_first _ _ m (later ++ l) same))
  walk_one m l (one_garbled {key = key} bytes none) next_wanted h g same = absurd (nothing_more l (BlockOf key (Ok bytes)) m g (sym same))
  walk_one m l (one_garbled {key = key} bytes none) (one_misses miss) h g same = absurd (came_or_not key miss bytes (sym (same_first _ _ m l same)))
  walk_one m l (one_garbled {key = key} bytes none) (one_garbled other nor) h g same = (refl, refl, same_rest _ _ m l same)
  walk_one m l (one_garbled {key = key} bytes none) (one_back {more = later} other r is walk) h g same =
      absurd (none r (subst (λ (x : List ℕ). IsRecordOf owner x r) (sym (same_block key bytes other (same_first _ _ m (later ++ l) same))) is))
  walk_one m l (one_back {key = key} {more = later} bytes r is walk) next_wanted h g same = absurd (nothing_more l (BlockOf key (Ok bytes)) (later ++ m) g (sym same))
  walk_one m l (one_back {key = key} {more = later} bytes r is walk) (one_misses miss) h g same = absurd (came_or_not key miss bytes (sym (same_first _ _ (later ++ m) l same)))
  walk_one m l (one_back {key = key} {more = later} bytes r is walk) (one_garbled other none) h g same =
      absurd (none r (subst (λ (x : List ℕ). IsRecordOf owner x r) (same_block key bytes other (same_first _ _ (later ++ m) l same)) is))
  walk_one m l (one_back {n = n} {key = key} {more = later} {records = rs} bytes r is walk) (one_back {more = after} {records = qs} {end = f} other q its way) h g same =
      let one : r ≡ q = one_of bytes other r q (same_block key bytes other (same_first _ _ (later ++ m) (after ++ l) same)) is its in
      let rest = walk_one m l walk (subst (λ (x : Record). Walks owner n x.prev after qs f) (sym one) way) h g (same_rest _ _ (later ++ m) (after ++ l) same) in
      (ap (λ (x : Record). x ∷ rs) one ∙ ap (λ (xs : List Record). q ∷ xs) rest.0, rest.1, rest.2)

-- ---- heads, one after the other

abbrev pub TriesHere : LogEnd → List Brought → Type 0
TriesHere (Lacks want) more = more ≡ []
TriesHere (Stops miss) more = Unit {0}
TriesHere (Gives records) more = Unit {0}
TriesHere GivesNone more = Unit {0}

module _ (view : View) (start floor : Vector) (t : Stamp) (edge : Option Edge) where
  -- a chain that is taken isn't passed over
  not_failed : (xs ys : List Record) (fault : ChainFault) → xs ≡ ys → IsSound view start edge t xs → IsOnward start floor xs → fault ≢ Memory → ChainFails view start floor t edge ys fault → ⊥
  not_failed xs ys Bad same sound onward some fails = fails (subst (IsSound view start edge t) same sound)
  not_failed xs ys Fork same sound onward some fails = fails.1 (subst (IsOnward start floor) same onward)
  not_failed xs ys Memory same sound onward some fails = absurd (some refl)

  fault_one : (xs ys : List Record) (f g : ChainFault) → xs ≡ ys → f ≢ Memory → g ≢ Memory → ChainFails view start floor t edge xs f → ChainFails view start floor t edge ys g → f ≡ g
  fault_one xs ys Bad Bad same some also fails other = refl
  fault_one xs ys Bad Fork same some also fails other = absurd (fails (subst (IsSound view start edge t) (sym same) other.0))
  fault_one xs ys Bad Memory same some also fails other = absurd (also refl)
  fault_one xs ys Fork Bad same some also fails other = absurd (other (subst (IsSound view start edge t) same fails.0))
  fault_one xs ys Fork Fork same some also fails other = refl
  fault_one xs ys Fork Memory same some also fails other = absurd (also refl)
  fault_one xs ys Memory g same some also fails other = absurd (some refl)

module _ (view : View) (owner : PubKey) (start floor : Vector) (edge : Option Edge) where
  tries_one : {ts : List Stamp} {b c : List Brought} {fs gs : List ChainFault} {e f : LogEnd} (m l : List Brought) → Tries (record { view = view; owner = owner; start = start; floor = floor; edge = edge }) ts b fs e → Tries (record { view = view; owner = owner; start = start; floor = floor; edge = edge }) ts c gs f
      → TriesHere e m → TriesHere f l → b ++ m ≡ c ++ l → (fs ≡ gs) × (e ≡ f) × (m ≡ l)
  tries_one m l none_tried none_tried h g same = (refl, refl, same)
  tries_one m l (trial_wants {key = key} walk) (trial_wants {key = log} way) h g same = (refl, ap (λ (k : Key). Lacks (Content k)) (same_wanted key log (walk_one owner m l walk way h g same).1), h ∙ sym g)
  tries_one m l (trial_wants {key = key} walk) (trial_misses {miss = lost} way) h g same = absurd (differ (Wants key) (Misses lost) (λ z. omega (arith, z)) (walk_one owner m l walk way h tt same).1)
  tries_one m l (trial_wants {key = key} walk) (trial_gives {records = qs} way whole_too onward_too) h g same = absurd (differ (Wants key) Came (λ z. omega (arith, z)) (walk_one owner m l walk way h tt same).1)
  tries_one m l (trial_wants {key = key} walk) (trial_passes {brought = its} {more = after} {records = qs} {fault = also} {others = others} way some_too fails_too trial) h g same = absurd (differ (Wants key) Came (λ z. omega (arith, z)) (walk_one owner m (after ++ l) walk way h tt (same ∙ append_assoc its after l)).1)
  tries_one m l (trial_wants {key = key} walk) (trial_garbled {brought = its} {more = after} {others = others} way trial) h g same = absurd (differ (Wants key) Garbled (λ z. omega (arith, z)) (walk_one owner m (after ++ l) walk way h tt (same ∙ append_assoc its after l)).1)
  tries_one m l (trial_misses {miss = miss} walk) (trial_wants {key = log} way) h g same = absurd (differ (Misses miss) (Wants log) (λ z. omega (arith, z)) (walk_one owner m l walk way tt g same).1)
  tries_one m l (trial_misses {miss = miss} walk) (trial_misses {miss = lost} way) h g same = let w = walk_one owner m l walk way tt tt same in (refl, ap Stops (same_missed miss lost w.1), w.2)
  tries_one m l (trial_misses {miss = miss} walk) (trial_gives {records = qs} way whole_too onward_too) h g same = absurd (differ (Misses miss) Came (λ z. omega (arith, z)) (walk_one owner m l walk way tt tt same).1)
  tries_one m l (trial_misses {miss = miss} walk) (trial_passes {brought = its} {more = after} {records = qs} {fault = also} {others = others} way some_too fails_too trial) h g same = absurd (differ (Misses miss) Came (λ z. omega (arith, z)) (walk_one owner m (after ++ l) walk way tt tt (same ∙ append_assoc its after l)).1)
  tries_one m l (trial_misses {miss = miss} walk) (trial_garbled {brought = its} {more = after} {others = others} way trial) h g same = absurd (differ (Misses miss) Garbled (λ z. omega (arith, z)) (walk_one owner m (after ++ l) walk way tt tt (same ∙ append_assoc its after l)).1)
  tries_one m l (trial_gives {t = t} {records = rs} walk sound onward) (trial_wants {key = log} way) h g same = absurd (differ Came (Wants log) (λ z. omega (arith, z)) (walk_one owner m l walk way tt g same).1)
  tries_one m l (trial_gives {t = t} {records = rs} walk sound onward) (trial_misses {miss = lost} way) h g same = absurd (differ Came (Misses lost) (λ z. omega (arith, z)) (walk_one owner m l walk way tt tt same).1)
  tries_one m l (trial_gives {t = t} {records = rs} walk sound onward) (trial_gives {records = qs} way whole_too onward_too) h g same =
      let w = walk_one owner m l walk way tt tt same in (refl, ap (λ (xs : List Record). Gives (reverse xs)) w.0, w.2)
  tries_one m l (trial_gives {t = t} {records = rs} walk sound onward) (trial_passes {brought = its} {more = after} {records = qs} {fault = also} {others = others} way some_too fails_too trial) h g same =
      let w = walk_one owner m (after ++ l) walk way tt tt (same ∙ append_assoc its after l) in
      absurd (not_failed view start floor t edge (reverse rs) (reverse qs) also (ap (λ (xs : List Record). reverse xs) w.0) sound onward some_too fails_too)
  tries_one m l (trial_gives {t = t} {records = rs} walk sound onward) (trial_garbled {brought = its} {more = after} {others = others} way trial) h g same = absurd (differ Came Garbled (λ z. omega (arith, z)) (walk_one owner m (after ++ l) walk way tt tt (same ∙ append_assoc its after l)).1)
  tries_one m l (trial_passes {t = t} {brought = came} {more = later} {records = rs} {fault = fault} {others = faults} walk some fails tries) (trial_wants {key = log} way) h g same = absurd (differ Came (Wants log) (λ z. omega (arith, z)) (walk_one owner (later ++ m) l walk way tt g (sym (append_assoc came later m) ∙ same)).1)
  tries_one m l (trial_passes {t = t} {brought = came} {more = later} {records = rs} {fault = fault} {others = faults} walk some fails tries) (trial_misses {miss = lost} way) h g same = absurd (differ Came (Misses lost) (λ z. omega (arith, z)) (walk_one owner (later ++ m) l walk way tt tt (sym (append_assoc came later m) ∙ same)).1)
  tries_one m l (trial_passes {t = t} {brought = came} {more = later} {records = rs} {fault = fault} {others = faults} walk some fails tries) (trial_gives {records = qs} way whole_too onward_too) h g same =
      let w = walk_one owner (later ++ m) l walk way tt tt (sym (append_assoc came later m) ∙ same) in
      absurd (not_failed view start floor t edge (reverse qs) (reverse rs) fault (ap (λ (xs : List Record). reverse xs) (sym w.0)) whole_too onward_too some fails)
  tries_one m l (trial_passes {t = t} {brought = came} {more = later} {records = rs} {fault = fault} {others = faults} walk some fails tries) (trial_passes {brought = its} {more = after} {records = qs} {fault = also} {others = others} way some_too fails_too trial) h g same =
      let w = walk_one owner (later ++ m) (after ++ l) walk way tt tt (sym (append_assoc came later m) ∙ same ∙ append_assoc its after l) in
      let one = fault_one view start floor t edge (reverse rs) (reverse qs) fault also (ap (λ (xs : List Record). reverse xs) w.0) some some_too fails fails_too in
      let rest = tries_one m l tries trial h g w.2 in
      (ap (λ (f : ChainFault). f ∷ faults) one ∙ ap (λ (fs : List ChainFault). also ∷ fs) rest.0, rest.1, rest.2)
  tries_one m l (trial_passes {t = t} {brought = came} {more = later} {records = rs} {fault = fault} {others = faults} walk some fails tries) (trial_garbled {brought = its} {more = after} {others = others} way trial) h g same = absurd (differ Came Garbled (λ z. omega (arith, z)) (walk_one owner (later ++ m) (after ++ l) walk way tt tt (sym (append_assoc came later m) ∙ same ∙ append_assoc its after l)).1)
  tries_one m l (trial_garbled {brought = came} {more = later} {others = faults} walk tries) (trial_wants {key = log} way) h g same = absurd (differ Garbled (Wants log) (λ z. omega (arith, z)) (walk_one owner (later ++ m) l walk way tt g (sym (append_assoc came later m) ∙ same)).1)
  tries_one m l (trial_garbled {brought = came} {more = later} {others = faults} walk tries) (trial_misses {miss = lost} way) h g same = absurd (differ Garbled (Misses lost) (λ z. omega (arith, z)) (walk_one owner (later ++ m) l walk way tt tt (sym (append_assoc came later m) ∙ same)).1)
  tries_one m l (trial_garbled {brought = came} {more = later} {others = faults} walk tries) (trial_gives {records = qs} way whole_too onward_too) h g same = absurd (differ Garbled Came (λ z. omega (arith, z)) (walk_one owner (later ++ m) l walk way tt tt (sym (append_assoc came later m) ∙ same)).1)
  tries_one m l (trial_garbled {brought = came} {more = later} {others = faults} walk tries) (trial_passes {brought = its} {more = after} {records = qs} {fault = also} {others = others} way some_too fails_too trial) h g same = absurd (differ Garbled Came (λ z. omega (arith, z)) (walk_one owner (later ++ m) (after ++ l) walk way tt tt (sym (append_assoc came later m) ∙ same ∙ append_assoc its after l)).1)
  tries_one m l (trial_garbled {brought = came} {more = later} {others = faults} walk tries) (trial_garbled {brought = its} {more = after} {others = others} way trial) h g same =
      let w = walk_one owner (later ++ m) (after ++ l) walk way tt tt (sym (append_assoc came later m) ∙ same ∙ append_assoc its after l) in
      let rest = tries_one m l tries trial h g w.2 in
      (ap (λ (fs : List ChainFault). Bad ∷ fs) rest.0, rest.1, rest.2)

-- ---- in one order

none_left : (y : Stamp) (ys : List Stamp) → ((t : Stamp) → Contains (y ∷ ys) t → Contains [] t) → ⊥
none_left y ys all = in_nothing y (all y (here y ys))

-- two lists of the same heads, each in the order in which they are tried, are one
order_one : (xs ys : List Stamp) → InTryingOrder xs → InTryingOrder ys → ((t : Stamp) → Contains xs t → Contains ys t) → ((t : Stamp) → Contains ys t → Contains xs t) → xs ≡ ys
order_one [] [] f g to from = refl
order_one [] (y ∷ ys) f g to from = absurd (none_left y ys from)
order_one (x ∷ xs) [] f g to from = absurd (none_left x xs to)
order_one (x ∷ xs) (y ∷ ys) f g to from = ap (λ (t : Stamp). t ∷ xs) first ∙ ap (λ (ts : List Stamp). y ∷ ts) (order_one xs ys f.1 g.1 left right)
  where
    first : x ≡ y
    first = ⊎_elim (λ is. sym is) (λ later_x. ⊎_elim (λ is. is)
        (λ later_y. absurd (not_both_before x y (each (IsTriedBefore x) xs y f.0 later_y) (each (IsTriedBefore y) ys x g.0 later_x)))
        (in_cons x xs y (from y (here y ys)))) (in_cons y ys x (to x (here x xs)))

    left : (t : Stamp) → Contains xs t → Contains ys t
    left t c = ⊎_elim
        (λ is. let itself : IsTriedBefore x x = subst (IsTriedBefore x) (sym (first ∙ is)) (each (IsTriedBefore x) xs t f.0 c) in absurd (not_both_before x x itself itself))
        (λ later. later) (in_cons y ys t (to t (there x xs t c)))

    right : (t : Stamp) → Contains ys t → Contains xs t
    right t c = ⊎_elim
        (λ is. let itself : IsTriedBefore y y = subst (IsTriedBefore y) (sym (sym first ∙ is)) (each (IsTriedBefore y) ys t g.0 c) in absurd (not_both_before y y itself itself))
        (λ later. later) (in_cons x xs t (from t (there y ys t c)))

tried_one : (floor : ℕ) (heads others xs ys : List Stamp) → heads ≡ others → AreTried floor heads xs → AreTried floor others ys → xs ≡ ys
tried_one floor heads others xs ys same f g = order_one xs ys f.order g.order
    (λ t c. let in_heads = (f.each t).0 c in (g.each t).1 (subst (λ (l : List Stamp). Contains l t) same in_heads.0, in_heads.1))
    (λ t c. let in_heads = (g.each t).0 c in (f.each t).1 (subst (λ (l : List Stamp). Contains l t) (sym same) in_heads.0, in_heads.1))

-- ---- one log

module _ (s : Standing) (start : Vector) (owner : PubKey) where
  pub fetch_one : {b c : List Brought} {ns os : List Note} {e f : LogEnd} (m l : List Brought) → Fetches (record { standing = s; start = start }) owner b ns e → Fetches (record { standing = s; start = start }) owner c os f
      → TriesHere e m → TriesHere f l → b ++ m ≡ c ++ l → (ns ≡ os) × (e ≡ f) × (m ≡ l)
  fetch_one m l (wants_heads other) (wants_heads again) h g same = (refl, refl, h ∙ sym g)
  fetch_one m l (wants_heads other) (no_heads miss again) h g same = absurd (nothing_more m (HeadsOf owner (Err miss)) l h same)
  fetch_one m l (wants_heads other) (of_heads heads tried brought faults end again are trial) h g same = absurd (nothing_more m (HeadsOf owner (Ok heads)) (brought ++ l) h same)
  fetch_one m l (wants_heads other) (of_own brought faults end own trial) h g same = absurd (other own)
  fetch_one m l (no_heads miss other) (wants_heads again) h g same = absurd (nothing_more l (HeadsOf owner (Err miss)) m g (sym same))
  fetch_one m l (no_heads miss other) (no_heads lost again) h g same = (refl, ap Stops (same_heads_miss owner miss lost (same_first _ _ m l same)), same_rest _ _ m l same)
  fetch_one m l (no_heads miss other) (of_heads heads tried brought faults end again are trial) h g same = absurd (heads_or_not owner miss heads (same_first _ _ m (brought ++ l) same))
  fetch_one m l (no_heads miss other) (of_own brought faults end own trial) h g same = absurd (other own)
  fetch_one m l (of_heads heads tried brought faults end other are trial) (wants_heads again) h g same = absurd (nothing_more l (HeadsOf owner (Ok heads)) (brought ++ m) g (sym same))
  fetch_one m l (of_heads heads tried brought faults end other are trial) (no_heads miss again) h g same = absurd (heads_or_not owner miss heads (sym (same_first _ _ (brought ++ m) l same)))
  fetch_one m l (of_heads heads tried brought faults end other are trial) (of_heads others ordered after passed stand again these its) h g same =
      let one : heads ≡ others = same_heads owner heads others (same_first _ _ (brought ++ m) (after ++ l) same) in
      let order : tried ≡ ordered = tried_one (seq_of s.floor (head_key_of owner)) (map stamp_of heads) (map stamp_of others) tried ordered (ap (λ (js : List Judged). map stamp_of js) one) are these in
      let rest = tries_one s.view owner start s.floor (edge_at s (head_key_of owner)) m l trial
      (subst (λ (ts : List Stamp). Tries (record { view = s.view; owner = owner; start = start; floor = s.floor; edge = edge_at s (head_key_of owner) }) (ts ++ floors_own (stamp_at s.floor (head_key_of owner)) (seq_of start (head_key_of owner))) after passed stand) (sym order) its)
      h g (same_rest _ _ (brought ++ m) (after ++ l) same) in
      (ap (note_of (head_key_of owner)) rest.0, rest.1, rest.2)
  fetch_one m l (of_heads heads tried brought faults end other are trial) (of_own after passed stand own its) h g same = absurd (other own)
  fetch_one m l (of_own brought faults end own trial) (wants_heads other) h g same = absurd (other own)
  fetch_one m l (of_own brought faults end own trial) (no_heads miss other) h g same = absurd (other own)
  fetch_one m l (of_own brought faults end own trial) (of_heads others ordered after passed stand other these its) h g same = absurd (other own)
  fetch_one m l (of_own brought faults end own trial) (of_own after passed stand again its) h g same =
      let rest = tries_one s.view owner start s.floor (edge_at s (head_key_of owner)) m l trial its h g same in
      (ap (note_of (head_key_of owner)) rest.0, rest.1, rest.2)
