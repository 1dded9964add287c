-- The topmost block of a list, and the list blocks that are left below it.
use Rattle.std.proofs.Common.{◌≡◌, ℕ, zero, suc, ◌+◌, ◌*◌, ◌<◌, ◌≤◌, Bool, true, false, cond, List, [], ◌∷◌, ◌++◌, length, map, refl, sym, ap, ◌∙◌, subst, arith}
use Rattle.std.specs.Prelude.{nat_le}
use Rattle.std.specs.List.{flat_map}
use Rattle.std.proofs.lemmas.Bool.{cond-true}
use Rattle.std.proofs.lemmas.List.{append-nil, append_assoc, length-append, length-map, map-append}
use Rattle.ivy_base.specs.declared.key.Key.{Key}
use Rattle.ivy_base.specs.Naming.{name}
use Rattle.snapshot_model.specs.Blocks.{list_block}
use Rattle.snapshot_model.specs.Spelling.{Made, in_pieces, list_made, list_of, list_blocks_over, made_name, named_by, with_block}
use Rattle.snapshot_blocks.specs.declared.listed.Listed.{Listed}
use Rattle.snapshot_blocks.specs.Parsed.{listed_of}
use Rattle.snapshot_store.specs.declared.levels.Levels.{Levels}
use Rattle.snapshot_store.specs.Puts.{PutsList, put_all}
use Rattle.snapshot_store.specs.Levels.{AreFull, Closes, ClosesRest, IsCut, IsOver, top_listed}
use Rattle.snapshot_store.proofs.Puts.{put_above, put_over}
use Rattle.snapshot_store.proofs.Cuts.{pieces_cut, rest_piece, one_piece, within_piece}
use Rattle.snapshot_store.proofs.Waiting.{as_many}

-- ---- levels of the definition

few_is : (n : ℕ) → n ≤ 512 → nat_le n 512 ≡ true
few_is n h = grind (arith, h)

-- a list block is enough for up to 512
one_list : (n level : ℕ) (items : List Made) → 1 ≤ length items → length items ≤ 512 → list_blocks_over (suc n) level items ≡ (level, list_made level items ∷ [])
one_list n level [] some few = absurd (omega (arith, some))
one_list n level (x ∷ xs) some few =
    cond-true (nat_le (length (x ∷ xs)) 512) (level, list_made level (x ∷ xs) ∷ []) (list_blocks_over n (level + 1) (map (list_made level) (in_pieces 512 (x ∷ xs)))) (few_is (length (x ∷ xs)) few)

-- more of them need a level more
level_more : (n level : ℕ) (items : List Made) → 2 ≤ length (map (list_made level) (in_pieces 512 items)) → list_blocks_over (suc n) level items ≡ list_blocks_over n (level + 1) (map (list_made level) (in_pieces 512 items))
level_more n level [] more = absurd (omega (arith, more))
level_more n level (x ∷ xs) more = by (nat_le (length (x ∷ xs)) 512) refl
  where
    by : (b : Bool) → nat_le (length (x ∷ xs)) 512 ≡ b
        → cond b (level, list_made level (x ∷ xs) ∷ []) (list_blocks_over n (level + 1) (map (list_made level) (in_pieces 512 (x ∷ xs)))) ≡ list_blocks_over n (level + 1) (map (list_made level) (in_pieces 512 (x ∷ xs)))
    by false is = refl
    by true is =
        let few : length (x ∷ xs) ≤ 512 = grind (arith, is) in
        absurd (omega (arith, more, length-map (in_pieces 512 (x ∷ xs)) (list_made level), one_piece 512 (x ∷ xs) few))

-- where its list blocks are one at most, that one is the topmost
top_is : (n level : ℕ) (items lists : List Made) → map (list_made level) (in_pieces 512 items) ≡ lists → length lists ≤ 1
    → ((list_blocks_over (suc n) level items).1 ≡ lists) × (named_by (list_blocks_over (suc n) level items) ≡ top_listed level (map made_name lists))
top_is n level [] lists all one = (all, ap (λ ms. top_listed level (map made_name ms)) all)
top_is n level (x ∷ xs) lists all one =
    let few = within_piece 512 (x ∷ xs) (omega arith) (omega (arith, length-map (in_pieces 512 (x ∷ xs)) (list_made level), ap length all, one)) in
    let is = one_list n level (x ∷ xs) (omega arith) few in
    let whole : IsCut (x ∷ xs) [] (x ∷ xs) = record { whole = refl; full = tt } in
    let made : list_made level (x ∷ xs) ∷ [] ≡ lists = ap (map (list_made level)) (sym (pieces_cut whole few)) ∙ all in
    (ap (λ (p : ℕ × List Made). p.1) is ∙ made, ap named_by is ∙ ap (λ ms. top_listed level (map made_name ms)) made)

-- ---- names that are left

-- their list block was put, if there are any
rest_closed : (before : List (List ℕ)) (level : ℕ) (others uppers left : List Made) (names above above_then : List Key) (blocks after : List (List ℕ))
    → names ≡ map made_name left → above ≡ map made_name uppers → blocks ≡ put_all before (others ++ uppers ++ left) → ClosesRest level names above blocks above_then after
    → (above_then ≡ map made_name (uppers ++ map (list_made level) (rest_piece left))) × (after ≡ put_all before (others ++ (uppers ++ map (list_made level) (rest_piece left))))
rest_closed before level others uppers left names above above_then blocks after named above_named put closes =
    by left put (subst (λ ns. ClosesRest level ns above blocks above_then after) named closes)
  where
    by : (ms : List Made) → blocks ≡ put_all before (others ++ uppers ++ ms) → ClosesRest level (map made_name ms) above blocks above_then after
        → (above_then ≡ map made_name (uppers ++ map (list_made level) (rest_piece ms))) × (after ≡ put_all before (others ++ (uppers ++ map (list_made level) (rest_piece ms))))
    by [] is c = (
      c.0 ∙ above_named ∙ ap (map made_name) (sym (append-nil uppers)),
      c.1 ∙ is ∙ ap (put_all before) (append-nil (others ++ uppers) ∙ ap (λ ms. others ++ ms) (sym (append-nil uppers))),
    )
    by (m ∷ ms) is c =
        let bytes = list_block level (map made_name (m ∷ ms)) in (
          c.0 ∙ ap (λ keys. keys ++ name bytes ∷ []) above_named ∙ sym (map-append made_name uppers (list_made level (m ∷ ms) ∷ [])),
          c.1 ∙ ap (λ b. with_block b bytes) is ∙ put_over before (others ++ uppers) (m ∷ ms) bytes ∙ ap (put_all before) (append_assoc others uppers (list_made level (m ∷ ms) ∷ [])),
        )

few_rest : {A : Type 0} (xs : List A) → length (rest_piece xs) ≤ 1
few_rest [] = omega arith
few_rest (x ∷ xs) = omega arith

module _ (before blocks : List (List ℕ)) (items : List Made) (l : Levels) (over : IsOver before items blocks l)
    (seconds : List Key) (b1 : List (List ℕ)) (first : ClosesRest 1 l.firsts.items l.seconds.items blocks seconds b1) where
  abbrev uppers : List Made
  uppers = map (list_made 2) over.middle

  -- the list blocks of level 1, and those of them that no list block has yet
  abbrev ones : List Made
  ones = map (list_made 1) (in_pieces 512 items)

  abbrev ones_left : List Made
  ones_left = over.seconds ++ map (list_made 1) (rest_piece over.firsts)

  ones_put : (seconds ≡ map made_name ones_left) × (b1 ≡ put_all before (uppers ++ ones_left))
  ones_put = rest_closed before 1 uppers over.seconds over.firsts l.firsts.items l.seconds.items seconds blocks b1 over.firsts_wait over.seconds_wait over.blocks first

  ones_cut : IsCut ones over.middle ones_left
  ones_cut = record {
    whole =
        ap (map (list_made 1)) (pieces_cut over.items_cut (omega (arith, over.few_firsts))) ∙ map-append (list_made 1) over.lowest (rest_piece over.firsts)
        ∙ ap (λ ms. ms ++ map (list_made 1) (rest_piece over.firsts)) over.lists_cut.whole
        ∙ append_assoc (flat_map (λ p. p) over.middle) over.seconds (map (list_made 1) (rest_piece over.firsts));
    full = over.lists_cut.full;
  }

  few_ones : length ones_left ≤ 512
  few_ones = omega (arith, length-append over.seconds (map (list_made 1) (rest_piece over.firsts)), length-map (rest_piece over.firsts) (list_made 1), few_rest over.firsts, over.few_seconds)

  -- one of level 1 is enough
  pub low_list : (made : Listed) → l.thirds.items ≡ [] → length seconds ≤ 1 → listed_of made ≡ top_listed 1 seconds → PutsList before items b1 made
  low_list made none one is =
      let top = top_is 2 1 items ones_left (ones_cut.whole ∙ ap (λ ps. flat_map (λ p. p) ps ++ ones_left) no_middle) (omega (arith, as_many seconds ones_left ones_put.0, one)) in
      record {
        blocks = ones_put.1 ∙ (λ i. put_all before (map (list_made 2) (no_middle i) ++ ones_left)) ∙ ap (put_all before) (sym top.0);
        named = is ∙ ap (top_listed 1) ones_put.0 ∙ sym top.1;
      }
    where
      none_made : (ps : List (List Made)) → map made_name (map (list_made 2) ps) ≡ [] → ps ≡ []
      none_made [] e = refl
      none_made (p ∷ ps) e = cc

      no_middle : over.middle ≡ []
      no_middle = none_made over.middle (sym over.thirds_wait ∙ none)

  -- more than one of level 1 stand below one of level 2, or below more
  module _ (more : (l.thirds.items ≡ []) × (length seconds ≤ 1) → ⊥) (thirds : List Key) (b2 : List (List ℕ)) (second : ClosesRest 2 seconds l.thirds.items b1 thirds b2) where
    abbrev twos : List Made
    twos = map (list_made 2) (in_pieces 512 ones)

    many_ones : 2 ≤ length ones
    many_ones = by over.middle refl ones_cut.whole over.lists_cut.full
      where
        low : (n : ℕ) → n ≡ length seconds → (n ≤ 1 → ⊥) → 2 ≤ n
        low zero e h = absurd (h (omega arith))
        low (suc zero) e h = absurd (h (omega arith))
        low (suc (suc n)) e h = omega arith

        by : (ps : List (List Made)) → over.middle ≡ ps → ones ≡ flat_map (λ p. p) ps ++ ones_left → AreFull ps → 2 ≤ length ones
        by [] none is full =
            let long = low (length seconds) refl (λ h. more (over.thirds_wait ∙ ap (λ ps. map made_name (map (list_made 2) ps)) none, h)) in
            omega (arith, ap length is, as_many seconds ones_left ones_put.0, long)
        by (p ∷ ps) some is full =
            omega (arith, ap length is, length-append (p ++ flat_map (λ p. p) ps) ones_left, length-append p (flat_map (λ p. p) ps), full.0)

    twos_put : (thirds ≡ map made_name twos) × (b2 ≡ put_all before twos)
    twos_put =
        let put = rest_closed before 2 [] uppers ones_left seconds l.thirds.items thirds b1 b2 ones_put.0 over.thirds_wait ones_put.1 second in
        let all : uppers ++ map (list_made 2) (rest_piece ones_left) ≡ twos = sym (map-append (list_made 2) over.middle (rest_piece ones_left)) ∙ ap (map (list_made 2)) (sym (pieces_cut ones_cut few_ones)) in
        (put.0 ∙ ap (map made_name) all, put.1 ∙ ap (put_all before) all)

    -- one of level 2 is enough
    pub middle_list : (made : Listed) → length thirds ≤ 1 → listed_of made ≡ top_listed 2 thirds → PutsList before items b2 made
    middle_list made one is =
        let top = top_is 1 2 ones twos refl (omega (arith, as_many thirds twos twos_put.0, one)) in
        record {
          blocks = twos_put.1 ∙ ap (put_all before) (sym top.0 ∙ ap (λ (p : ℕ × List Made). p.1) (sym (level_more 2 1 items many_ones)));
          named = is ∙ ap (top_listed 2) twos_put.0 ∙ sym top.1 ∙ ap named_by (sym (level_more 2 1 items many_ones));
        }

    -- one of level 3 stands above them
    pub upper_list : (key : Key) (b3 : List (List ℕ)) → 1 < length thirds → length thirds ≤ 512 → Closes 3 thirds b2 b3 key → (made : Listed) → listed_of made ≡ record { level = 3; top = key } → PutsList before items b3 made
    upper_list key b3 several few closes made is =
        let is_three : list_of items ≡ (3, list_made 3 twos ∷ []) =
        level_more 2 1 items many_ones ∙ level_more 1 2 ones (omega (arith, as_many thirds twos twos_put.0, several))
        ∙ one_list 0 3 twos (omega (arith, as_many thirds twos twos_put.0, several)) (omega (arith, as_many thirds twos twos_put.0, few)) in
        record {
          blocks =
              closes.blocks ∙ (λ i. with_block (twos_put.1 i) (list_block 3 (twos_put.0 i))) ∙ put_above before twos (list_block 3 (map made_name twos))
              ∙ ap (λ (p : ℕ × List Made). put_all before p.1) (sym is_three);
          named = is ∙ ap (λ k. record { level = 3; top = k }) (closes.named ∙ ap (λ ks. name (list_block 3 ks)) twos_put.0) ∙ ap named_by (sym is_three);
        }
