-- Names that wait for their list block: what an item more changes.
use Rattle.std.proofs.Common.{◌≡◌, ℕ, List, [], ◌∷◌, ◌++◌, length, map, Some, None, refl, sym, ap, ◌∙◌, subst, arith}
use Rattle.std.proofs.lemmas.List.{append-nil, append_assoc, length-map, map-append}
use Rattle.ivy_base.specs.declared.key.Key.{Key}
use Rattle.ivy_base.specs.Naming.{name}
use Rattle.snapshot_model.specs.Blocks.{list_block}
use Rattle.snapshot_model.specs.Spelling.{Made, list_made, made_name, with_block}
use Rattle.snapshot_store.specs.declared.levels.Levels.{Levels}
use Rattle.snapshot_store.specs.Puts.{put_all}
use Rattle.snapshot_store.specs.Levels.{Appends, IsCut, IsOver}
use Rattle.snapshot_store.proofs.Puts.{put_both, put_over}
use Rattle.snapshot_store.proofs.Cuts.{cut_more, cut_full}

pub nothing_waits : (blocks : List (List ℕ)) (l : Levels) → l.firsts.items ≡ [] → l.seconds.items ≡ [] → l.thirds.items ≡ [] → IsOver blocks [] blocks l
nothing_waits blocks l first second third = record {
  lowest = [];
  firsts = [];
  middle = [];
  seconds = [];
  items_cut = record { whole = refl; full = tt };
  lists_cut = record { whole = refl; full = tt };
  firsts_wait = first;
  seconds_wait = second;
  thirds_wait = third;
  few_firsts = omega arith;
  few_seconds = omega arith;
  blocks = refl;
}

-- one name more
name_more : (names : List Key) (key : Key) (made : List Made) (one : Made) → names ≡ map made_name made → key ≡ made_name one → names ++ key ∷ [] ≡ map made_name (made ++ one ∷ [])
name_more names key made one all is = (λ i. all i ++ is i ∷ []) ∙ sym (map-append made_name made (one ∷ []))

pub as_many : (names : List Key) (made : List Made) → names ≡ map made_name made → length made ≡ length names
as_many names made all = sym (length-map made made_name) ∙ ap length (sym all)

module _ (before between now : List (List ℕ)) (items : List Made) (one : Made) (item : Key) (l : Levels)
    (over : IsOver before items between l) (put : now ≡ put_all between (one ∷ [])) (named : item ≡ made_name one) where
  abbrev uppers : List Made
  uppers = map (list_made 2) over.middle

  abbrev all_firsts : List Made
  all_firsts = over.firsts ++ one ∷ []

  item_named : l.firsts.items ++ item ∷ [] ≡ map made_name all_firsts
  item_named = name_more l.firsts.items item over.firsts one over.firsts_wait named

  item_put : now ≡ put_all before (uppers ++ over.seconds ++ all_firsts)
  item_put =
      put ∙ ap (λ blocks. put_all blocks (one ∷ [])) over.blocks ∙ put_both before (uppers ++ over.seconds ++ over.firsts) (one ∷ [])
      ∙ ap (put_all before) (append_assoc (uppers ++ over.seconds) over.firsts (one ∷ []))

  -- the item's name waits
  pub item_waits : (after : List (List ℕ)) (m : Levels) → Appends 1 (l.firsts.items ++ item ∷ []) now m.firsts.items after None → m.seconds.items ≡ l.seconds.items → m.thirds.items ≡ l.thirds.items
      → IsOver before (items ++ one ∷ []) after m
  item_waits after m (waits, few, same) second third = record {
    lowest = over.lowest;
    firsts = all_firsts;
    middle = over.middle;
    seconds = over.seconds;
    items_cut = cut_more one over.items_cut;
    lists_cut = over.lists_cut;
    firsts_wait = waits ∙ item_named;
    seconds_wait = second ∙ over.seconds_wait;
    thirds_wait = third ∙ over.thirds_wait;
    few_firsts = omega (arith, few, as_many (l.firsts.items ++ item ∷ []) all_firsts item_named);
    few_seconds = over.few_seconds;
    blocks = same ∙ item_put;
  }

  -- its list block is full
  module _ (m : Levels) (first : Key) (mid : List (List ℕ)) (closed : Appends 1 (l.firsts.items ++ item ∷ []) now m.firsts.items mid (Some first)) where
    abbrev full_list : Made
    full_list = list_made 1 all_firsts

    abbrev all_seconds : List Made
    all_seconds = over.seconds ++ full_list ∷ []

    first_named : first ≡ made_name full_list
    first_named = closed.2.named ∙ ap (λ names. name (list_block 1 names)) item_named

    list_named : l.seconds.items ++ first ∷ [] ≡ map made_name all_seconds
    list_named = name_more l.seconds.items first over.seconds full_list over.seconds_wait first_named

    list_put : mid ≡ put_all before (uppers ++ all_seconds)
    list_put =
        closed.2.blocks ∙ (λ i. with_block (item_put i) (list_block 1 (item_named i))) ∙ put_over before (uppers ++ over.seconds) all_firsts full_list.bytes
        ∙ ap (put_all before) (append_assoc uppers over.seconds (full_list ∷ []))

    items_left : IsCut (items ++ one ∷ []) (over.lowest ++ all_firsts ∷ []) []
    items_left = cut_full (cut_more one over.items_cut) (as_many (l.firsts.items ++ item ∷ []) all_firsts item_named ∙ closed.1)

    lists_left : IsCut (map (list_made 1) (over.lowest ++ all_firsts ∷ [])) over.middle all_seconds
    lists_left = subst (λ (ms : List Made). IsCut ms over.middle all_seconds) (sym (map-append (list_made 1) over.lowest (all_firsts ∷ []))) (cut_more full_list over.lists_cut)

    -- the list block's name waits
    pub list_waits : (after : List (List ℕ)) → Appends 2 (l.seconds.items ++ first ∷ []) mid m.seconds.items after None → m.thirds.items ≡ l.thirds.items → IsOver before (items ++ one ∷ []) after m
    list_waits after (waits, few, same) third = record {
      lowest = over.lowest ++ all_firsts ∷ [];
      firsts = [];
      middle = over.middle;
      seconds = all_seconds;
      items_cut = items_left;
      lists_cut = lists_left;
      firsts_wait = closed.0;
      seconds_wait = waits ∙ list_named;
      thirds_wait = third ∙ over.thirds_wait;
      few_firsts = omega arith;
      few_seconds = omega (arith, few, as_many (l.seconds.items ++ first ∷ []) all_seconds list_named);
      blocks = same ∙ list_put ∙ ap (put_all before) (sym (append-nil (uppers ++ all_seconds)));
    }

    -- the one above is full, too
    pub upper_waits : (after : List (List ℕ)) (second : Key) → Appends 2 (l.seconds.items ++ first ∷ []) mid m.seconds.items after (Some second) → m.thirds.items ≡ l.thirds.items ++ second ∷ []
        → IsOver before (items ++ one ∷ []) after m
    upper_waits after second (none, full, closes) third = record {
      lowest = over.lowest ++ all_firsts ∷ [];
      firsts = [];
      middle = over.middle ++ all_seconds ∷ [];
      seconds = [];
      items_cut = items_left;
      lists_cut = cut_full lists_left (as_many (l.seconds.items ++ first ∷ []) all_seconds list_named ∙ full);
      firsts_wait = closed.0;
      seconds_wait = none;
      thirds_wait = third ∙ name_more l.thirds.items second uppers (list_made 2 all_seconds) over.thirds_wait (closes.named ∙ ap (λ names. name (list_block 2 names)) list_named) ∙ ap (map made_name) (sym uppers_more);
      few_firsts = omega arith;
      few_seconds = omega arith;
      blocks =
          closes.blocks ∙ (λ i. with_block (list_put i) (list_block 2 (list_named i))) ∙ put_over before uppers all_seconds (list_made 2 all_seconds).bytes
          ∙ ap (put_all before) (sym (append-nil (map (list_made 2) (over.middle ++ all_seconds ∷ []) ++ []) ∙ append-nil (map (list_made 2) (over.middle ++ all_seconds ∷ [])) ∙ uppers_more));
    }
      where
        uppers_more : map (list_made 2) (over.middle ++ all_seconds ∷ []) ≡ uppers ++ list_made 2 all_seconds ∷ []
        uppers_more = map-append (list_made 2) over.middle (all_seconds ∷ [])
