-- A put at one node that holds the block then, or a newer head.
use Rattle.std.proofs.Common.{◌≡◌, ◌⊎◌, ⊎_elim, ℕ, ◌<◌, Bool, true, false, cond, List, refl, sym, ap, ◌∙◌, subst, Option, Some, None, arith, nat_lt, nat_le, option_map, option_and_then}
use Rattle.std.specs.Option.{option_map_or, option_or}
use Rattle.std.specs.Ordering.{eq_by_cmp}
use Rattle.std.specs.FinMap.Entries.{find as value_at, find-put, put}
use Rattle.std.proofs.lemmas.Bool.{cond-true, cond-false, le-ltb, lt-ltb, leb-true, leb-false}
use Rattle.ivy_base.specs.declared.key.Key.{Key}
use Rattle.ivy_base.specs.Naming.{key_cmp, name}
use Rattle.ring_model.specs.Blocks.{raised}
use Rattle.dht_ids.specs.declared.ask.Answer.TheVariants as answer
use Rattle.dht_ids.specs.declared.ask.StoreFault.{StoreFault}
use Rattle.dht_ids.specs.declared.ask.StoreFault.TheVariants.{WrongName, Older, Full}
use Rattle.dht_ids.specs.declared.judge.Judged.{Judged}
use Rattle.dhash_model.specs.Puts.{holds}
use Rattle.dhash_model.specs.Stores.{Block, Blocks, content, content_fault, full, head, head_fault, not_judged, number_at, number_of, older}
use Rattle.dhash_model.specs.declared.kind.BlockKind.{BlockKind}
use Rattle.dhash_model.specs.declared.kind.BlockKind.TheVariants.{Content, Head}
use Rattle.node_store.proofs.Maps.{keys_total}
use Rattle.world_model.specs.Nodes.{Node, answered, stored}
use Rattle.world_model.specs.Rounds.{question_as}
use Rattle.world_model.specs.Holding.{block_rank as rank}
use Rattle.round_laws.proofs.Nodes.{id_itself, not_tied}

abbrev pub under : Key → Node → Option Block
under key n = value_at key_cmp key n.blocks

-- what a put did at a node
pub record StoresAt (judged : Key → List ℕ → Option Judged) (key : Key) (kind : BlockKind) (bytes : List ℕ) (old new : Node) : Type 0 where
  pub rank_then : option_map (rank judged key) (under key new) ≡ raised (rank judged key (record { kind = kind; bytes = bytes })) (option_map (rank judged key) (under key old))
  pub kind_then : (c : Block) → under key new ≡ Some c → c.kind ≡ kind
  pub others : (other : Key) → (other ≡ key → ⊥) → under other new ≡ under other old

put_here : (key : Key) (block : Block) (n : Node) → under key (record n { blocks = put key_cmp key block n.blocks }) ≡ Some block
put_here key block n = find-put key_cmp keys_total key key block n.blocks ∙ cond-true (eq_by_cmp key_cmp key key) (Some block) (under key n) (id_itself key)

put_there : (key other : Key) (block : Block) (n : Node) → (other ≡ key → ⊥) → under other (record n { blocks = put key_cmp key block n.blocks }) ≡ under other n
put_there key other block n d = find-put key_cmp keys_total other key block n.blocks ∙ cond-false (eq_by_cmp key_cmp other key) (Some block) (under other n) (not_tied other key d)

the_same : (b c : Block) → Some b ≡ Some c → b ≡ c
the_same b c e = ap (λ o. option_map_or (λ x. x) o b) e

-- ---- content

content_raised : (judged : Key → List ℕ → Option Judged) (key : Key) (o : Option Block) → ((c : Block) → o ≡ Some c → c.kind ≡ Content) → Some 0 ≡ raised 0 (option_map (rank judged key) o)
content_raised judged key None k = refl
content_raised judged key (Some c) k = by (rank judged key c) (of_content c.kind c.bytes (k c refl))
  where
    of_content : (kind : BlockKind) (bytes : List ℕ) → kind ≡ Content → rank judged key (record { kind = kind; bytes = bytes }) ≡ 0
    of_content Content bytes e = refl
    of_content Head bytes e = cc

    by : (w : ℕ) → w ≡ 0 → Some 0 ≡ raised 0 (Some w)
    by w e = sym (ap (λ x. raised 0 (Some x)) e)

content_stored : (judged : Key → List ℕ → Option Judged) (key : Key) (bytes : List ℕ) (n : Node) (fault : Option StoreFault) → ((f : StoreFault) → fault ≡ Some f → holds (answer.Refused f) ≡ true → ⊥) → ((c : Block) → under key n ≡ Some c → c.kind ≡ Content)
    → holds (stored n key (content bytes) fault).0 ≡ true → StoresAt judged key Content bytes n (stored n key (content bytes) fault).1
content_stored judged key bytes n (Some f) never k h = absurd (never f refl h)
content_stored judged key bytes n None never k h = record {
  rank_then = ap (option_map (rank judged key)) (put_here key (content bytes) n) ∙ content_raised judged key (under key n) k;
  kind_then = λ c e. ap (λ (x : Block). x.kind) (sym (the_same (content bytes) c (sym (put_here key (content bytes) n) ∙ e)));
  others = λ other d. put_there key other (content bytes) n d;
}

never_older : (key : Key) (bytes : List ℕ) (blocks : Blocks) (f : StoreFault) → content_fault key bytes blocks ≡ Some f → holds (answer.Refused f) ≡ true → ⊥
never_older key bytes blocks f = by (eq_by_cmp key_cmp key (name bytes)) (nat_lt _ _)
  where
    by : (a b : Bool) → option_or (cond a None (Some WrongName)) (cond b (Some Full) None) ≡ Some f → holds (answer.Refused f) ≡ true → ⊥
    by true true e h = let s = subst (λ (o : Option StoreFault). holds (answer.Refused (option_map_or (λ x. x) o Full)) ≡ true) (sym e) h in cc
    by true false e h = cc
    by false b e h = let s = subst (λ (o : Option StoreFault). holds (answer.Refused (option_map_or (λ x. x) o Full)) ≡ true) (sym e) h in cc

-- ---- heads

head_rank : (judged : Key → List ℕ → Option Judged) (key : Key) (bytes : List ℕ) (j : Judged) → judged key bytes ≡ Some j → rank judged key (head bytes) ≡ j.seq
head_rank judged key bytes j e = ap (λ (o : Option Judged). option_map_or (λ seq. seq) (option_map (λ (x : Judged). x.seq) o) 0) e

head_raised : (judged : Key → List ℕ → Option Judged) (key : Key) (v : ℕ) (o : Option Block) → ((c : Block) → o ≡ Some c → (seq : ℕ) → number_of (judged key) c ≡ Some seq → nat_le v seq ≡ false)
    → Some v ≡ raised v (option_map (rank judged key) o)
head_raised judged key v None h = refl
head_raised judged key v (Some c) h = by (number_of (judged key) c) refl
  where
    zero_or : (b : Bool) → nat_lt 0 v ≡ b → Some v ≡ cond b (Some v) (Some 0)
    zero_or true e = refl
    zero_or false e = let z : v ≡ 0 = at_most v (λ l. let t = lt-ltb 0 v l in cc) in ap (λ x. Some x) z
      where
        at_most : (v : ℕ) → (0 < v → ⊥) → v ≡ 0
        at_most v d = ⊎_elim (λ e. e) (λ l. absurd (d l)) (zero_or_more v)
          where
            zero_or_more : (m : ℕ) → (m ≡ 0) ⊎ (0 < m)
            zero_or_more m = grind arith

    by : (s : Option ℕ) → number_of (judged key) c ≡ s → Some v ≡ raised v (Some (option_map_or (λ seq. seq) (number_of (judged key) c) 0))
    by None e = zero_or (nat_lt 0 v) refl ∙ sym (ap (λ (x : Option ℕ). raised v (Some (option_map_or (λ seq. seq) x 0))) e)
    by (Some seq) e =
        let below : nat_lt seq v ≡ true = lt-ltb seq v (less seq v (leb-false v seq (h c refl seq e))) in
        sym (cond-true (nat_lt seq v) (Some v) (Some seq) below) ∙ sym (ap (λ (x : Option ℕ). raised v (Some (option_map_or (λ seq. seq) x 0))) e)
      where
        less : (m n : ℕ) → m < n → m < n
        less m n l = l

module _ (judged : Key → List ℕ → Option Judged) (key : Key) (bytes : List ℕ) (n : Node) where
  -- what was held is newer
  kept : ((c : Block) → under key n ≡ Some c → c.kind ≡ Head) → (j : Judged) (seq : ℕ) → judged key bytes ≡ Some j → number_at judged key n.blocks ≡ Some seq → nat_le j.seq seq ≡ true → StoresAt judged key Head bytes n n
  kept k j seq e f l = record { rank_then = by (under key n) refl; kind_then = k; others = λ other d. refl }
    where
      by : (o : Option Block) → under key n ≡ o → option_map (rank judged key) (under key n) ≡ raised (rank judged key (head bytes)) (option_map (rank judged key) (under key n))
      by None g = let m : None ≡ Some seq = sym (ap (option_and_then (number_of (judged key))) g) ∙ f in absurd cc
      by (Some c) g =
          let of : number_of (judged key) c ≡ Some seq = sym (ap (option_and_then (number_of (judged key))) g) ∙ f in
          let is : rank judged key c ≡ seq = ap (λ (x : Option ℕ). option_map_or (λ y. y) x 0) of in
          let now : option_map (rank judged key) (under key n) ≡ Some seq = ap (option_map (rank judged key)) g ∙ ap (λ x. Some x) is in
          now ∙ sym (ap (λ o. raised (rank judged key (head bytes)) o) now ∙ ap (λ v. raised v (Some seq)) (head_rank judged key bytes j e) ∙ cond-false (nat_lt seq j.seq) (Some j.seq) (Some seq) (le-ltb seq j.seq (leb-true j.seq seq l)))

  put_now : (j : Judged) → judged key bytes ≡ Some j → ((c : Block) → under key n ≡ Some c → (seq : ℕ) → number_of (judged key) c ≡ Some seq → nat_le j.seq seq ≡ false) → StoresAt judged key Head bytes n (record n { blocks = put key_cmp key (head bytes) n.blocks })
  put_now j e newer = record {
    rank_then = ap (option_map (rank judged key)) (put_here key (head bytes) n) ∙ ap (λ x. Some x) (head_rank judged key bytes j e) ∙ head_raised judged key j.seq (under key n) newer ∙ ap (λ v. raised v (option_map (rank judged key) (under key n))) (sym (head_rank judged key bytes j e));
    kind_then = λ c f. ap (λ (x : Block). x.kind) (sym (the_same (head bytes) c (sym (put_here key (head bytes) n) ∙ f)));
    others = λ other d. put_there key other (head bytes) n d;
  }

  abbrev Done : Option StoreFault → Type 0
  Done fault = StoresAt judged key Head bytes n (stored n key (head bytes) fault).1

  by_full : (j : Judged) (b : Bool) → judged key bytes ≡ Some j → ((c : Block) → under key n ≡ Some c → (seq : ℕ) → number_of (judged key) c ≡ Some seq → nat_le j.seq seq ≡ false)
      → holds (stored n key (head bytes) (cond b (Some Full) None)).0 ≡ true → Done (cond b (Some Full) None)
  by_full j true e newer g = absurd cc
  by_full j false e newer g = put_now j e newer

  by_number : ((c : Block) → under key n ≡ Some c → c.kind ≡ Head) → (j : Judged) (o : Option ℕ) → judged key bytes ≡ Some j → number_at judged key n.blocks ≡ o → holds (stored n key (head bytes) (option_or (older o (Some j)) (full key (head bytes) n.blocks))).0 ≡ true
      → Done (option_or (older o (Some j)) (full key (head bytes) n.blocks))
  by_number k j None e f g = by_full j (nat_lt _ _) e (λ c i seq of. let m : None ≡ Some seq = sym f ∙ ap (option_and_then (number_of (judged key))) i ∙ of in absurd cc) g
  by_number k j (Some seq) e f g = test (nat_le j.seq seq) refl g
    where
      test : (b : Bool) → nat_le j.seq seq ≡ b → holds (stored n key (head bytes) (option_or (cond b (Some (Older seq)) None) (full key (head bytes) n.blocks))).0 ≡ true → Done (option_or (cond b (Some (Older seq)) None) (full key (head bytes) n.blocks))
      test true l u = kept k j seq e f l
      test false l u = by_full j (nat_lt _ _) e (λ c i other of. let m : Some seq ≡ Some other = sym f ∙ ap (option_and_then (number_of (judged key))) i ∙ of in subst (λ x. nat_le j.seq x ≡ false) (ap (λ (o : Option ℕ). option_map_or (λ y. y) o seq) m) l) u

  head_by : holds (stored n key (head bytes) (head_fault judged key bytes n.blocks)).0 ≡ true → ((c : Block) → under key n ≡ Some c → c.kind ≡ Head) → (o : Option Judged) → judged key bytes ≡ o → Done (head_fault judged key bytes n.blocks)
  head_by h k None e = let g = subst (λ (o : Option Judged). holds (stored n key (head bytes) (option_or (not_judged o) (option_or (older (number_at judged key n.blocks) o) (full key (head bytes) n.blocks)))).0 ≡ true) e h in absurd cc
  head_by h k (Some j) e = subst (λ (o : Option Judged). Done (option_or (not_judged o) (option_or (older (number_at judged key n.blocks) o) (full key (head bytes) n.blocks)))) (sym e)
      (by_number k j (number_at judged key n.blocks) e refl (subst (λ (o : Option Judged). holds (stored n key (head bytes) (option_or (not_judged o) (option_or (older (number_at judged key n.blocks) o) (full key (head bytes) n.blocks)))).0 ≡ true) e h))

-- a put that is answered so, of either kind
pub stores_at : (judged : Key → List ℕ → Option Judged) (key : Key) (kind : BlockKind) (bytes : List ℕ) (n : Node) → holds (answered judged n (question_as kind key bytes)).0 ≡ true → ((c : Block) → under key n ≡ Some c → c.kind ≡ kind)
    → StoresAt judged key kind bytes n (answered judged n (question_as kind key bytes)).1
stores_at judged key Content bytes n h k = content_stored judged key bytes n (content_fault key bytes n.blocks) (never_older key bytes n.blocks) k h
stores_at judged key Head bytes n h k = head_by judged key bytes n h k (judged key bytes) refl
