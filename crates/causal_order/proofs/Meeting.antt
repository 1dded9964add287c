-- What a record cites is looked for in one member's log alone, at one place.
use Rattle.std.proofs.Common.{◌≡◌, inl, inr, ⊎_elim, ◌↔◌, ◌+◌, ◌<◌, ◌≤◌, Bool, true, false, not, List, [], ◌∷◌, ◌++◌, map, sym, ap, ◌∙◌, subst, arith, Contains, IsTrue}
use Rattle.std.specs.List.{All, AllByRecursion, list_all}
use Rattle.std.proofs.lemmas.List.Elements.{Contains-append_left, All-contains, All-map, recursion_from_All, All-from_recursion}
use Rattle.ivy_base.specs.declared.key.Key.{Key}
use Rattle.ivy_base.specs.declared.key.PubKey.{PubKey}
use Rattle.ivy_base.specs.Naming.{head_key_of}
use Rattle.tree_model.specs.Tree.{same_key}
use Rattle.tree_model.proofs.Keys.{same_key_is, same_key_itself}
use Rattle.tree_model.proofs.Sound.{both_true}
use Rattle.log_model.specs.View.{View, IsView, is_member, have_own_head_keys}
use Rattle.log_model.specs.Vector.{Vector, Stamp, Entry, reach, seq_of, Dominates}
use Rattle.log_model.specs.Record.{Record}
use Rattle.log_model.specs.Rank.{own_entry, full_vector, weight}
use Rattle.log_model.specs.Spelling.{HasSpelling}
use Rattle.log_model.specs.Chain.{IsGood}
use Rattle.log_model.specs.Closed.{log_of}
use Rattle.log_model.proofs.Lists.{here, there, in_cons, in_nothing, each, some_passes, who_passes, passes}
use Rattle.log_model.proofs.Part.{numbers_from}
use Rattle.log_model.proofs.Sets.{numbered_one}
use Rattle.version_vectors.specs.declared.entry.Entry as kept
use Rattle.version_vectors.specs.Entries.{stamped, vector_of}
use Rattle.causal_order.specs.Over.{IsUnder, IsMet}
use Rattle.causal_order.specs.declared.log.Log.{Log}
use Rattle.causal_order.specs.Kept.{IsKept, AreKept}
use Rattle.causal_order.proofs.Logs.{numbers_over, good_over}
use Rattle.causal_order.proofs.Passes.{start, in_log, of_log}
use Rattle.causal_order.proofs.Places.{base_is}

module _ {X Y : Type 0} (f : X → Y) where
  pub to_map : (xs : List X) (x : X) → Contains xs x → Contains (map f xs) (f x)
  to_map [] x c = absurd (in_nothing x c)
  to_map (y ∷ xs) x c = ⊎_elim (λ e. subst (λ (z : Y). Contains (f y ∷ map f xs) z) (ap f e) (here (f y) (map f xs))) (λ d. there (f y) (map f xs) (f x) (to_map xs x d)) (in_cons y xs x c)

  pub from_map : (xs : List X) (z : Y) → Contains (map f xs) z → (x : X) × Contains xs x × (f x ≡ z)
  from_map [] z c = absurd (in_nothing z c)
  from_map (y ∷ xs) z c = ⊎_elim (λ e. (y, here y xs, e)) (λ d. let w = from_map xs z d in (w.0, there y xs w.0 w.1, w.2)) (in_cons (f y) (map f xs) z c)

-- two members of one head key are one
pub one_head : (owners : List PubKey) → have_own_head_keys owners ≡ true → (a b : PubKey) → Contains owners a → Contains owners b → head_key_of a ≡ head_key_of b → a ≡ b
one_head [] h a b ca cb e = absurd (in_nothing a ca)
one_head (k ∷ ks) h a b ca cb e =
    let parts = both_true (list_all (λ other. not (same_key (head_key_of k) (head_key_of other))) ks) (have_own_head_keys ks) h in
    ⊎_elim
    (λ is_a. ⊎_elim (λ is_b. sym is_a ∙ is_b)
    (λ c. absurd (never b (passes (λ other. not (same_key (head_key_of k) (head_key_of other))) ks b parts.0 c) (ap head_key_of is_a ∙ e))) (in_cons k ks b cb))
    (λ c. ⊎_elim (λ is_b. absurd (never a (passes (λ other. not (same_key (head_key_of k) (head_key_of other))) ks a parts.0 c) (ap head_key_of is_b ∙ sym e)))
    (λ d. one_head ks parts.1 a b c d e) (in_cons k ks b cb))
    (in_cons k ks a ca)
  where
    never : (other : PubKey) → not (same_key (head_key_of k) (head_key_of other)) ≡ true → head_key_of k ≡ head_key_of other → ⊥
    never other apart same = let tied = subst (λ (x : Key). same_key (head_key_of k) x ≡ true) same (same_key_itself (head_key_of k)) in by (same_key (head_key_of k) (head_key_of other)) tied apart
      where
        by : (b : Bool) → b ≡ true → not b ≡ true → ⊥
        by true t f = cc
        by false t f = cc

module _ (view : View) (front : Vector) (known : List Record) (logs : List Log) (legal : IsView view) (k : AreKept view front known logs) where
  member_is : (log : Log) → Contains logs log → Contains view.members log.owner
  member_is log c = subst (λ (os : List PubKey). Contains os log.owner) k.owners (to_map (λ (l : Log). l.owner) logs log c)

  kept_is : (log : Log) → Contains logs log → IsKept front known log
  kept_is log c = All-contains (IsKept front known) logs log k.kept c

  -- a key that no log has is no member's
  pub no_member : (e : Entry) → All (λ l. l.key ≡ e.0 → ⊥) logs → IsTrue (is_member view e.0) → ⊥
  no_member e none member =
      let w = who_passes (λ owner. same_key (head_key_of owner) e.0) view.members member in
      let v = from_map (λ (l : Log). l.owner) logs w.0 (subst (λ (os : List PubKey). Contains os w.0) (sym k.owners) w.1) in
      All-contains (λ l. l.key ≡ e.0 → ⊥) logs v.0 none v.1 ((kept_is v.0 v.1).key ∙ ap head_key_of v.2 ∙ same_key_is (head_key_of w.0) e.0 w.2)

  module _ (l : Log) (stands : Contains logs l) (e : Entry) (keyed : l.key ≡ e.0) where
    keyed_owner : head_key_of l.owner ≡ e.0
    keyed_owner = sym (kept_is l stands).key ∙ keyed

    pub is_a_member : IsTrue (is_member view e.0)
    is_a_member = some_passes (λ owner. same_key (head_key_of owner) e.0) view.members l.owner (member_is l stands)
        (subst (λ (x : Key). same_key x e.0 ≡ true) (sym keyed_owner) (same_key_itself e.0))

    log : List Record
    log = log_of l.owner known

    base_of : l.base ≡ seq_of front e.0
    base_of = (kept_is l stands).base ∙ ap (λ (x : Key). seq_of front x) keyed

    -- a known record that is cited by the entry is one of this log's
    cited_here : (c : Record) → Contains known c → own_entry c ≡ e → Contains (log_of l.owner known) c
    cited_here c within cited =
        let member : Contains view.members c.owner = each (λ r. Contains view.members r.owner) known c k.passed.members within in
        let head : head_key_of c.owner ≡ head_key_of l.owner = ap (λ (x : Entry). x.0) cited ∙ sym keyed_owner in
        in_log l.owner known c within (one_head (view.members ++ view.former) legal.apart c.owner l.owner (Contains-append_left view.members view.former c.owner member) (Contains-append_left view.members view.former l.owner (member_is l stands)) head)

    good_here : (c : Record) → Contains (log_of l.owner known) c → IsGood view l.owner c
    good_here c within = each (IsGood view l.owner) (log_of l.owner known) c (good_over view l.owner (start view front l.owner) (log_of l.owner known) (k.passed.logs l.owner)) within

    -- one at or under the front isn't among them
    pub not_behind : e.1.seq ≤ l.base → (c : Record) → Contains known c → own_entry c ≡ e → ⊥
    not_behind low c within cited =
        let o = start view front l.owner in
        let numbers = numbers_over view l.owner o (log_of l.owner known) (k.passed.logs l.owner) in
        let above : reach o + 1 ≤ c.seq = each (λ q. reach o + 1 ≤ q.seq) (log_of l.owner known) c (numbers_from (reach o + 1) (log_of l.owner known) numbers (reach o + 1) (omega arith)) (cited_here c within cited) in
        let base : l.base ≡ reach o = base_is front known l (kept_is l stands) in
        let seq : c.seq ≡ e.1.seq = ap (λ (x : Entry). x.1.seq) cited in
        omega (arith, above, base, seq, low)

    -- and what is after it isn't under it
    pub not_under : l.base < e.1.seq → IsUnder front e → ⊥
    not_under high (inl below) = let b = base_of in omega (arith, b, high, below)
    not_under high (inr own) = let b = base_of in let r : seq_of front e.0 ≡ e.1.seq = ap reach own in omega (arith, b, high, r)

    -- two of them that the entry cites are one
    pub one_cited : (c d : Record) → Contains (log_of l.owner known) c → Contains (log_of l.owner known) d → (own_entry c).1 ≡ e.1 → (own_entry d).1 ≡ e.1 → c ≡ d
    one_cited c d inc ind ec ed = numbered_one (reach (start view front l.owner) + 1) (log_of l.owner known) (numbers_over view l.owner (start view front l.owner) (log_of l.owner known) (k.passed.logs l.owner)) c d inc ind (ap (λ (x : Stamp). x.seq) ec ∙ sym (ap (λ (x : Stamp). x.seq) ed))

    pub cites : (c : Record) → Contains (log_of l.owner known) c → (own_entry c).1 ≡ e.1 → own_entry c ≡ e
    cites c within stamp = made (head_key_of c.owner) e.0 (own_entry c).1 e.1 (ap head_key_of (of_log l.owner known c within).1 ∙ keyed_owner) stamp
      where
        made : (a b : Key) (s t : Stamp) → a ≡ b → s ≡ t → (let x : Entry = (a, s) in x) ≡ (let y : Entry = (b, t) in y)
        made a b s t h g = cc

    -- at or under the front it is met there alone
    pub met_under : (b : Bool) (r : Record) → e.1.seq ≤ l.base → (IsTrue b ↔ IsUnder front e) → IsTrue b ↔ IsMet view front known r e
    met_under b r low h = (
      λ holds member. inl (h.0 holds),
      λ met. ⊎_elim h.1 (λ w. absurd (not_behind low w.0 w.1 w.2.cited)) (met is_a_member),
    )

    -- where the log has no such record it isn't met
    pub not_met : (r : Record) → l.base < e.1.seq → ((c : Record) → Contains (log_of l.owner known) c → (own_entry c).1 ≡ e.1 → ⊥) → IsMet view front known r e → ⊥
    not_met r high none met = ⊎_elim (not_under high) (λ w. none w.0 (cited_here w.0 w.1 w.2.cited) (ap (λ (x : Entry). x.1) w.2.cited)) (met is_a_member)

    -- where it has one, that decides
    pub met_by : (b : Bool) (r c : Record) → l.base < e.1.seq → Contains (log_of l.owner known) c → (own_entry c).1 ≡ e.1
        → (IsTrue b ↔ ((weight c < weight r) × Dominates (full_vector r) (full_vector c))) → IsTrue b ↔ IsMet view front known r e
    met_by b r c high within stamp h = (
      λ holds member. let p = h.0 holds in inr (c, (of_log l.owner known c within).0, record { cited = cites c within stamp; lighter = p.0; known = p.1 }),
      λ met. ⊎_elim (λ u. absurd (not_under high u))
          (λ w. h.1 (subst (λ (x : Record). (weight x < weight r) × Dominates (full_vector r) (full_vector x)) (one_cited w.0 c (cited_here w.0 w.1 w.2.cited) within (ap (λ (x : Entry). x.1) w.2.cited) stamp) (w.2.lighter, w.2.known)))
          (met is_a_member),
    )

    pub cause_key : (r x : Record) → x ≡ r → Contains (log_of l.owner known) r → l.key ≡ head_key_of x.owner
    cause_key r x same within = (kept_is l stands).key ∙ ap head_key_of (sym (of_log l.owner known r within).1 ∙ sym (ap (λ (y : Record). y.owner) same))

    pub cause_spelled : (r x : Record) → x ≡ r → Contains (log_of l.owner known) r → HasSpelling x
    cause_spelled r x same within = subst HasSpelling (sym same) (good_here r within).spelled

-- entries as they are kept
module _ (P : Entry → Type 0) where
  pub all_entries : (es : List kept.Entry) → All (λ e. P (stamped e)) es → AllByRecursion P (vector_of es)
  all_entries es h = recursion_from_All P (vector_of es) (All-map P stamped es h)

  pub each_entry : (es : List kept.Entry) → AllByRecursion P (vector_of es) → All (λ e. P (stamped e)) es
  each_entry es h = All-from_recursion (λ e. P (stamped e)) es (by es h)
    where
      by : (es : List kept.Entry) → AllByRecursion P (vector_of es) → AllByRecursion (λ (e : kept.Entry). P (stamped e)) es
      by [] g = tt
      by (e ∷ es) g = (g.0, by es g.1)
