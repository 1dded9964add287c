-- Heads whose numbers are below the trunk's end are shown as forked with none.
use Rattle.std.proofs.Common.{◌≡◌, ◌⊎◌, ℕ, zero, suc, ◌+◌, ◌-◌, ◌<◌, ◌≤◌, Bool, true, false, cond, ◌&&◌, List, [], ◌∷◌, length, take, get_or, map, filter, Option, Some, None, is_some, option_map, Bor, inl, inr, refl, sym, ap, ◌∙◌, subst, arith}
use Rattle.std.specs.Prelude.{All, nat_lt, nat_le}
use Rattle.std.specs.List.{AllByRecursion, filter_map}
use Rattle.std.specs.Cmp.{Equal-is}
use Rattle.std.specs.Map.{lookup}
use Rattle.std.specs.Option.{IfSome, option_or}
use Rattle.std.specs.Ordering.{eq_by_cmp, nat_cmp}
use Rattle.std.proofs.lemmas.Bool.{cases_lt, cases_eq, leb-true, le-leb, lt-ltb, ltb-true}
use Rattle.std.proofs.Math.Seq.{take-suc}
use Rattle.std.proofs.lemmas.List.{take_all}
use Rattle.std.proofs.lemmas.List.Elements.{All-push}
use Rattle.std.proofs.lemmas.Map.Lookups.{exact_unsigned}
use Rattle.ivy_base.specs.declared.key.Key.{Key}
use Rattle.tree_model.specs.Tree.{same_key}
use Rattle.tree_model.proofs.Keys.{same_key_itself}
use Rattle.fork_model.specs.Bytes.{fork_bytes, most_blocks}
use Rattle.fork_model.specs.Before.{Before, TellsRecords}
use Rattle.fork_model.specs.Finding as model
use Rattle.fork_model.specs.Finding.{Way, ◌>>=◌, same_owner, step_down, way_down, are_near, proof_by, proof_of_fork, tip_of, fork_of, first_with, first_pair, find_fork}
use Rattle.fork_proof.specs.declared.tips.Tip.{Tip}
use Rattle.fork_proof.specs.declared.trunk.Trunk.{Trunk}
use Rattle.fork_proof.specs.declared.walked.Walk.{Walk}
use Rattle.fork_proof.specs.Found.{tip_seen, walk_seen, Begins}
use Rattle.fork_proof.specs.Trunks.{HasName, Keeps, LeadsAlong, is_beyond}
use Rattle.fork_proof.proofs.WaysDown.{name_on, names_end, same_names}

-- ---- one name

number_is : (a b : ℕ) → eq_by_cmp nat_cmp a b ≡ true → a ≡ b
number_is a b h = exact_unsigned a b ((Equal-is (nat_cmp a b)).0 h)

-- the number had none
pub first_keeps : (old new : Trunk) (seq : ℕ) (name : Key) → lookup (eq_by_cmp nat_cmp seq) old.names.entries ≡ None → new.ends ≡ old.ends
    → ((q : ℕ) → lookup (eq_by_cmp nat_cmp q) new.names.entries ≡ cond (eq_by_cmp nat_cmp seq q) (Some name) (lookup (eq_by_cmp nat_cmp q) old.names.entries)) → Keeps old new
first_keeps old new seq name none same updates q k (inr past) = inr (omega (arith, past, same))
first_keeps old new seq name none same updates q k (inl e) = inl (by (eq_by_cmp nat_cmp seq q) refl)
  where
    by : (b : Bool) → eq_by_cmp nat_cmp seq q ≡ b → lookup (eq_by_cmp nat_cmp q) new.names.entries ≡ Some k
    by true t =
        let had : None ≡ Some k = sym none ∙ ap (λ (n : ℕ). lookup (eq_by_cmp nat_cmp n) old.names.entries) (number_is seq q t) ∙ e in
        absurd (cc had)
    by false t = updates q ∙ ap (λ (b : Bool). cond b (Some name) (lookup (eq_by_cmp nat_cmp q) old.names.entries)) t ∙ e

-- it has another one
pub end_keeps : (old new : Trunk) → new.names.entries ≡ old.names.entries → new.ends ≤ old.ends → Keeps old new
end_keeps old new same lower q k (inl e) = inl (ap (lookup (eq_by_cmp nat_cmp q)) same ∙ e)
end_keeps old new same lower q k (inr past) = inr (omega (arith, past, lower))

-- ---- going down

-- the names down to that many records below the head, the last of them left out
abbrev pub LeadsTo : List (List ℕ) → Trunk → Tip → ℕ → Type 0
LeadsTo blocks t tip most = (before : Before) → TellsRecords before → (n : ℕ) → n < most → (name : Key)
    → Some name ≡ option_map (λ (w : Way). w.last) (way_down before blocks (tip_seen tip) n) → HasName t (tip.seq - n) name

-- the name that is come to
abbrev pub IsAt : List (List ℕ) → Tip → ℕ → Key → Type 0
IsAt blocks tip n last = (before : Before) → TellsRecords before → Some last ≡ option_map (λ (w : Way). w.last) (way_down before blocks (tip_seen tip) n)

pub leads_begin : (blocks : List (List ℕ)) (t : Trunk) (tip : Tip) → LeadsTo blocks t tip 0
leads_begin blocks t tip before tells n h = absurd (omega (arith, h))

pub at_begin : (blocks : List (List ℕ)) (tip : Tip) → IsAt blocks tip 0 tip.name
at_begin blocks tip before tells = refl

-- one record more
pub at_next : (blocks : List (List ℕ)) (tip : Tip) (above seq : ℕ) (last : Key) (s : List ℕ × Key) → seq ≡ tip.seq - above → IsAt blocks tip above last
    → ((before : Before) → TellsRecords before → Some s ≡ step_down before blocks tip.owner seq last) → IsAt blocks tip (above + 1) s.1
at_next blocks tip above seq last s number at stepped before tells = name_on before blocks (tip_seen tip) above seq last (Some s) number (at before tells) (stepped before tells)

pub leads_more : (blocks : List (List ℕ)) (old new : Trunk) (tip : Tip) (above seq : ℕ) (last : Key) → seq ≡ tip.seq - above → LeadsTo blocks old tip above → IsAt blocks tip above last
    → HasName new seq last → Keeps old new → LeadsTo blocks new tip (above + 1)
leads_more blocks old new tip above seq last number known at has keeps before tells n h name e = elim (cases_eq n above) [
  | inl same ↦
      let one : last ≡ name = some_same (at before tells ∙ ap (λ (m : ℕ). option_map (λ (w : Way). w.last) (way_down before blocks (tip_seen tip) m)) (sym same) ∙ sym e) in
      let here : seq ≡ tip.seq - n = number ∙ ap (λ (m : ℕ). tip.seq - m) (sym same) in
      subst (λ (s : ℕ). HasName new s name) here (subst (λ (k : Key). HasName new seq k) one has)
  | inr other ↦ keeps (tip.seq - n) name (known before tells n (omega (arith, h, other)) name e)
]
  where
    some_same : {a b : Key} → Some a ≡ Some b → a ≡ b
    some_same e = cc

pub leads_all : (blocks : List (List ℕ)) (t : Trunk) (tip : Tip) (most : ℕ) → most_blocks < most → LeadsTo blocks t tip most → LeadsAlong blocks t tip
leads_all blocks t tip most long known before tells n h name e = known before tells n (omega (arith, long, h)) name e

-- no record is below
pub leads_stop : (blocks : List (List ℕ)) (t : Trunk) (tip : Tip) (above seq : ℕ) (last : Key) → seq ≡ tip.seq - above → LeadsTo blocks t tip (above + 1) → IsAt blocks tip above last
    → ((before : Before) → TellsRecords before → None ≡ step_down before blocks tip.owner seq last) → LeadsAlong blocks t tip
leads_stop blocks t tip above seq last number known at stopped before tells n h name e = elim (cases_lt above n) [
  | inl below ↦
      let none : None ≡ option_map (λ (w : Way). w.last) (way_down before blocks (tip_seen tip) n) =
      names_end before blocks (tip_seen tip) n (above + 1) (omega (arith, below)) (name_on before blocks (tip_seen tip) above seq last None number (at before tells) (stopped before tells)) in
      absurd (no_name (none ∙ sym e))
  | inr within ↦ known before tells n (omega (arith, within)) name e
]
  where
    no_name : {k : Key} → None ≡ Some k → ⊥
    no_name e = cc

-- an earlier head is of the record that was come to
pub leads_joined : (blocks : List (List ℕ)) (old new : Trunk) (tip other : Tip) (above seq : ℕ) (last : Key) → seq ≡ tip.seq - above → LeadsTo blocks new tip above → IsAt blocks tip above last
    → Begins tip.owner seq last other → LeadsAlong blocks old other → Keeps old new → LeadsAlong blocks new tip
leads_joined blocks old new tip other above seq last number known at begins along keeps before tells n h name e = elim (cases_lt n above) [
  | inl below ↦ known before tells n below name e
  | inr within ↦
      let whole : n ≡ above + (n - above) = omega (arith, within) in
      let here : other.seq - (n - above) ≡ tip.seq - n = omega (arith, within, number, begins.seq_is) in
      let same : option_map (λ (w : Way). w.last) (way_down before blocks (tip_seen tip) n) ≡ option_map (λ (w : Way). w.last) (way_down before blocks (tip_seen other) (n - above)) =
      same_names before blocks (tip_seen tip) (tip_seen other) above begins.owner_is (begins.seq_is ∙ number) (ap Some begins.name_is ∙ at before tells) (n - above) n whole in
      subst (λ (s : ℕ). HasName new s name) here (keeps (other.seq - (n - above)) name (along before tells (n - above) (omega (arith, h)) name (e ∙ same)))
]

pub leads_found : (blocks : List (List ℕ)) (old new : Trunk) (tip : Tip) (earlier : List Tip) (above seq : ℕ) (last : Key) (o : Option (Bor Tip)) → is_some o ≡ true → IfSome o (λ t. Begins tip.owner seq last t.now)
    → IfSome o (λ t. (bs : List (List ℕ)) (k : Trunk) → All (LeadsAlong bs k) earlier → LeadsAlong bs k t.now) → seq ≡ tip.seq - above → LeadsTo blocks new tip above → IsAt blocks tip above last
    → All (LeadsAlong blocks old) earlier → Keeps old new → LeadsAlong blocks new tip
leads_found blocks old new tip earlier above seq last None had begins leads number known at all keeps = absurd (cc had)
leads_found blocks old new tip earlier above seq last (Some t) had begins leads number known at all keeps =
    leads_joined blocks old new tip t.now above seq last number known at begins (leads blocks old all) keeps

pub along_kept : (blocks : List (List ℕ)) (old new : Trunk) (tip : Tip) → Keeps old new → LeadsAlong blocks old tip → LeadsAlong blocks new tip
along_kept blocks old new tip keeps along before tells n h name e = keeps (tip.seq - n) name (along before tells n h name e)

-- of one head more
pub along_next : (blocks : List (List ℕ)) (old new : Trunk) (tips : List Tip) (i : ℕ) (d : Tip) → i < length tips → All (LeadsAlong blocks old) (take i tips) → Keeps old new → LeadsAlong blocks new (get_or tips i d)
    → All (LeadsAlong blocks new) (take (i + 1) tips)
along_next blocks old new tips i d within all keeps one =
    let next : suc i ≡ i + 1 = omega arith in
    subst (λ (n : ℕ). All (LeadsAlong blocks new) (take n tips)) next
    (subst (λ (ts : List Tip). All (LeadsAlong blocks new) ts) (sym (take-suc tips i d within))
    (All-push (LeadsAlong blocks new) (take i tips) (get_or tips i d) (λ k e lt. along_kept blocks old new (get_or (take i tips) k e) keeps (all k e lt)) one))

pub along_all : (blocks : List (List ℕ)) (t : Trunk) (tips : List Tip) (i : ℕ) → length tips ≤ i → All (LeadsAlong blocks t) (take i tips) → All (LeadsAlong blocks t) tips
along_all blocks t tips i whole all = subst (λ (ts : List Tip). All (LeadsAlong blocks t) ts) (take_all i tips whole) all

-- ---- two heads

second_of : (a b : Bool) → (a && b) ≡ true → b ≡ true
second_of true b h = h
second_of false b h = cc

few_of : (a : Bool) (n : ℕ) → (a && nat_le n most_blocks) ≡ true → n ≤ most_blocks
few_of a n h = leb-true n most_blocks (second_of a (nat_le n most_blocks) h)

not_less : (m n : ℕ) → nat_lt m n ≡ false → n ≤ m
not_less m n h = elim (cases_lt m n) [
  | inl below ↦ absurd (let yes : nat_lt m n ≡ true = lt-ltb m n below in cc)
  | inr least ↦ least
]

is_below : (ends seq : ℕ) → nat_le ends seq ≡ false → seq < ends
is_below ends seq h = elim (cases_lt seq ends) [
  | inl below ↦ below
  | inr past ↦ absurd (let yes : nat_le ends seq ≡ true = le-leb ends seq past in cc)
]

module _ (before : Before) (tells : TellsRecords before) (blocks : List (List ℕ)) (t : Trunk) where
  one_name : (seq : ℕ) (a b : Key) → seq < t.ends → HasName t seq a → HasName t seq b → a ≡ b
  one_name seq a b below (inl e) (inl f) = let same : Some a ≡ Some b = sym e ∙ f in cc
  one_name seq a b below (inl e) (inr past) = absurd (omega (arith, below, past))
  one_name seq a b below (inr past) g = absurd (omega (arith, below, past))

  no_proof : (low high : Tip) → LeadsAlong blocks t low → LeadsAlong blocks t high → low.seq ≤ high.seq → low.seq < t.ends → proof_of_fork before blocks (tip_seen low) (tip_seen high) ≡ None
  no_proof low high of_low of_high least below = by (are_near (tip_seen low) (tip_seen high)) refl
    where
      own : HasName t low.seq low.name
      own = let same : low.seq - 0 ≡ low.seq = omega arith in subst (λ (s : ℕ). HasName t s low.name) same (of_low before tells 0 (omega arith) low.name refl)

      there : (w : Way) → Some w ≡ way_down before blocks (tip_seen high) (high.seq - low.seq) → high.seq - low.seq ≤ most_blocks → proof_by (tip_seen low) (tip_seen high) w ≡ None
      there w e few =
          let here : high.seq - (high.seq - low.seq) ≡ low.seq = omega (arith, least) in
          let led : HasName t low.seq w.last = subst (λ (s : ℕ). HasName t s w.last) here (of_high before tells (high.seq - low.seq) few w.last (ap (option_map (λ (v : Way). v.last)) e)) in
          let same : w.last ≡ low.name = one_name low.seq w.last low.name below led own in
          let yes : same_key w.last low.name ≡ true = ap (λ (k : Key). same_key k low.name) same ∙ same_key_itself low.name in
          ap (λ (b : Bool). cond b None (Some (fork_bytes low.bytes.now high.bytes.now w.blocks))) yes

      along : high.seq - low.seq ≤ most_blocks → (o : Option Way) → o ≡ way_down before blocks (tip_seen high) (high.seq - low.seq) → (o >>= proof_by (tip_seen low) (tip_seen high)) ≡ None
      along few None e = refl
      along few (Some w) e = there w e few

      by : (b : Bool) → are_near (tip_seen low) (tip_seen high) ≡ b → cond b (way_down before blocks (tip_seen high) (high.seq - low.seq) >>= proof_by (tip_seen low) (tip_seen high)) None ≡ None
      by false near = refl
      by true near = along (few_of (same_owner (tip_seen low) (tip_seen high)) (high.seq - low.seq) near) (way_down before blocks (tip_seen high) (high.seq - low.seq)) refl

  no_fork : (one other : Tip) → LeadsAlong blocks t one → LeadsAlong blocks t other → (one.seq < t.ends) ⊎ (other.seq < t.ends) → fork_of before blocks (tip_seen one) (tip_seen other) ≡ None
  no_fork one other f g below = by (nat_lt other.seq one.seq) refl
    where
      by : (b : Bool) → nat_lt other.seq one.seq ≡ b → cond b (proof_of_fork before blocks (tip_seen other) (tip_seen one)) (proof_of_fork before blocks (tip_seen one) (tip_seen other)) ≡ None
      by true less =
          let under = ltb-true other.seq one.seq less in
          no_proof other one g f (omega (arith, under)) (elim below [ inl h ↦ omega (arith, under, h) | inr h ↦ h ])
      by false less =
          let least = not_less other.seq one.seq less in
          no_proof one other f g least (elim below [ inl h ↦ h | inr h ↦ omega (arith, least, h) ])

-- ---- pairs, where items are dropped of which nothing is found

module _ {A C B : Type 0} (v : A → C) (f : C → C → Option B) (p : A → Bool) (Q : A → Type 0) (lonely : (x y : A) → Q x → Q y → p x ≡ false → (f (v x) (v y) ≡ None) × (f (v y) (v x) ≡ None)) where
  with_kept : (x : A) → Q x → (xs : List A) → AllByRecursion Q xs → first_with (f (v x)) (map v (filter p xs)) ≡ first_with (f (v x)) (map v xs)
  with_kept x q [] all = refl
  with_kept x q (y ∷ ys) all = by (p y) refl (with_kept x q ys all.1)
    where
      by : (b : Bool) → p y ≡ b → first_with (f (v x)) (map v (filter p ys)) ≡ first_with (f (v x)) (map v ys)
          → first_with (f (v x)) (map v (cond b (y ∷ filter p ys) (filter p ys))) ≡ option_or (f (v x) (v y)) (first_with (f (v x)) (map v ys))
      by true e rest = ap (option_or (f (v x) (v y))) rest
      by false e rest = rest ∙ ap (λ (o : Option B). option_or o (first_with (f (v x)) (map v ys))) (sym (lonely y x all.0 q e).1)

  with_nothing : (x : A) → Q x → p x ≡ false → (xs : List A) → AllByRecursion Q xs → None ≡ first_with (f (v x)) (map v xs)
  with_nothing x q e [] all = refl
  with_nothing x q e (y ∷ ys) all = with_nothing x q e ys all.1 ∙ ap (λ (o : Option B). option_or o (first_with (f (v x)) (map v ys))) (sym (lonely x y q all.0 e).0)

  pairs_kept : (xs : List A) → AllByRecursion Q xs → first_pair f (map v (filter p xs)) ≡ first_pair f (map v xs)
  pairs_kept [] all = refl
  pairs_kept (x ∷ xs) all = by (p x) refl (pairs_kept xs all.1)
    where
      by : (b : Bool) → p x ≡ b → first_pair f (map v (filter p xs)) ≡ first_pair f (map v xs)
          → first_pair f (map v (cond b (x ∷ filter p xs) (filter p xs))) ≡ option_or (first_with (f (v x)) (map v xs)) (first_pair f (map v xs))
      by true e rest = (λ i. option_or (with_kept x all.0 xs all.1 i) (rest i))
      by false e rest = rest ∙ ap (λ (o : Option B). option_or o (first_pair f (map v xs))) (with_nothing x all.0 e xs all.1)

pub beyond_alone : (before : Before) → TellsRecords before → (blocks : List (List ℕ)) (t : Trunk) (tips : List Tip) → AllByRecursion (LeadsAlong blocks t) tips
    → first_pair (fork_of before blocks) (map tip_seen (filter (is_beyond t) tips)) ≡ first_pair (fork_of before blocks) (map tip_seen tips)
beyond_alone before tells blocks t tips all =
    pairs_kept tip_seen (fork_of before blocks) (is_beyond t) (LeadsAlong blocks t)
    (λ x y f g e. let below = is_below t.ends x.seq e in (no_fork before tells blocks t x y f g (inl below), no_fork before tells blocks t y x g f (inr below))) tips all

each_of : {X : Type 0} (P : X → Type 0) (xs : List X) → All P xs → AllByRecursion P xs
each_of P [] h = tt
each_of P (x ∷ xs) h = (h 0 x (omega arith), each_of P xs (λ k d lt. h (suc k) d (omega (arith, lt))))

pub found_beyond : (before : Before) → TellsRecords before → (heads blocks named : List (List ℕ)) (t : Trunk) (tips beyond : List Tip) (walks : List model.Tip) → All (LeadsAlong named t) tips
    → map tip_seen tips ≡ filter_map tip_of heads → named ≡ blocks → beyond ≡ filter (is_beyond t) tips → walks ≡ map tip_seen beyond → first_pair (fork_of before named) walks ≡ find_fork before heads blocks
found_beyond before tells heads blocks named t tips beyond walks along are same left led =
    ap (first_pair (fork_of before named)) (led ∙ ap (map tip_seen) left)
    ∙ beyond_alone before tells named t tips (each_of (LeadsAlong named t) tips along)
    ∙ ap (first_pair (fork_of before named)) are
    ∙ ap (λ (l : List (List ℕ)). first_pair (fork_of before l) (filter_map tip_of heads)) same

pub found_of : (before : Before) → TellsRecords before → (heads blocks named : List (List ℕ)) (t : Trunk) (tips seen beyond after : List Tip) (walks last : List Walk) → seen ≡ tips → All (LeadsAlong named t) seen
    → map tip_seen tips ≡ filter_map tip_of heads → named ≡ blocks → beyond ≡ filter (is_beyond t) tips → after ≡ beyond → map walk_seen walks ≡ map tip_seen after → last ≡ walks
    → first_pair (fork_of before named) (map walk_seen last) ≡ find_fork before heads blocks
found_of before tells heads blocks named t tips seen beyond after walks last same along are one left held led all =
    found_beyond before tells heads blocks named t tips beyond (map walk_seen last) (subst (λ (ts : List Tip). All (LeadsAlong named t) ts) same along) are one left
    (ap (map walk_seen) all ∙ led ∙ ap (map tip_seen) held)
