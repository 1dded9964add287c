-- The set that a turn leaves: what it took, or that with the records that it writes, which stand over all of it.
use Rattle.std.proofs.Common.{◌≡◌, ◌⊎◌, inl, inr, ℕ, ◌+◌, ◌≤◌, Bool, true, false, cond, not, ◌||◌, List, [], ◌∷◌, ◌++◌, length, map, refl, sym, ap, ◌∙◌, subst, arith, append_assoc}
use Rattle.std.specs.Prelude.{nat_lt, ◌==◌, None}
use Rattle.std.specs.List.{AllByRecursion}
use Rattle.std.specs.Cmp.{eq_by_cmp_equiv}
use Rattle.std.specs.Ordering.{eq_by_cmp}
use Rattle.std.proofs.lemmas.List.{append-nil}
use Rattle.ivy_base.specs.declared.format.Format.TheVariants.{One}
use Rattle.ivy_base.specs.declared.key.Key.{Key}
use Rattle.ivy_base.specs.declared.key.PubKey.{PubKey}
use Rattle.ivy_base.specs.declared.operation.Moment.{Moment}
use Rattle.ivy_base.specs.declared.operation.Op.{Op}
use Rattle.ivy_base.specs.Naming.{head_key_of, key_cmp}
use Rattle.tree_model.proofs.Keys.{keys_total, same_key_is, same_key_itself}
use Rattle.log_model.specs.Rank.{front, full_vector}
use Rattle.log_model.specs.Record.{Heading, Record}
use Rattle.log_model.specs.Replay.{replay}
use Rattle.log_model.specs.Signing.{Signing}
use Rattle.log_model.specs.Spelling.{most_records, new_record}
use Rattle.log_model.specs.Vector.{Dominates, Vector, reach, seq_of, stamp_at, without_log}
use Rattle.log_model.specs.View.{View}
use Rattle.log_model.proofs.Later.{seq_with}
use Rattle.log_model.proofs.Lists.{each, each_append, each_from}
use Rattle.log_model.proofs.Weights.{joins_keep}
use Rattle.nfs_model.specs.Changing.{Nothing, Operations, Plan, Refuse, is_changing, plan}
use Rattle.turn_laws.proofs.Fronts.{front_is_joined}
use Rattle.turn_laws.proofs.Starts.{stamp_at-without_log}
use Rattle.turn_model.specs.Basis.{Holding, HoldsAll, IsAboveTide}
use Rattle.turn_model.specs.Turn.{Inputs, Asked, Turned, appended, by_plan, heading_over, linked, own_name, own_seq, turn_on}
use Rattle.agent_model.specs.Agent.{Agent}
use Rattle.agent_model.specs.Turning.{inputs, inputs_before, with_held}

-- ---- a turn's set

module _ (x : Inputs) (s : List Record) (asked : Asked) (now : Moment) where
  -- it stays, or records are appended to it
  abbrev IsStillOrMore : Turned → Type 0
  IsStillOrMore t = (t.set ≡ s) ⊎ ((ops : List Op) × (t.set ≡ appended x.own One now s ops))

  chosen : (b c : Bool) (t u v : Turned) → IsStillOrMore t → IsStillOrMore u → IsStillOrMore v → IsStillOrMore (cond b t (cond c u v))
  chosen true c t u v f g h = f
  chosen false true t u v f g h = g
  chosen false false t u v f g h = h

  in_plan : (p : Plan) → IsStillOrMore (by_plan x s asked now p)
  in_plan (Refuse reply) = inl refl
  in_plan (Nothing reply) = inl refl
  in_plan (Operations ops) = chosen (x.leaves == 0 || nat_lt most_records (own_seq x.own s + length ops)) x.has_failed _ _ _ (inl refl) (inl refl) (inr (ops, refl))

  either : (b : Bool) (t u : Turned) → IsStillOrMore t → IsStillOrMore u → IsStillOrMore (cond b t u)
  either true t u f g = f
  either false t u f g = g

  still_or_more : IsStillOrMore (turn_on x s asked now)
  still_or_more = either (is_changing asked.args) _ _ (in_plan (plan (replay s) x.view asked.caller asked.args now x.own (own_seq x.own s + 1))) (inl refl)

  -- it stays, where the keeper has failed
  module _ (failed : x.has_failed ≡ true) where
    chosen_still : (b c : Bool) (t u v : Turned) → t.set ≡ s → u.set ≡ s → c ≡ true → (cond b t (cond c u v)).set ≡ s
    chosen_still true c t u v f g e = f
    chosen_still false true t u v f g e = g
    chosen_still false false t u v f g e = cc e

    still_in_plan : (p : Plan) → (by_plan x s asked now p).set ≡ s
    still_in_plan (Refuse reply) = refl
    still_in_plan (Nothing reply) = refl
    still_in_plan (Operations ops) = chosen_still (x.leaves == 0 || nat_lt most_records (own_seq x.own s + length ops)) x.has_failed _ _ _ refl refl failed

    either_still : (b : Bool) (t u : Turned) → t.set ≡ s → u.set ≡ s → (cond b t u).set ≡ s
    either_still true t u f g = f
    either_still false t u f g = g

    still_after : (turn_on x s asked now).set ≡ s
    still_after = either_still (is_changing asked.args) _ _ (still_in_plan (plan (replay s) x.view asked.caller asked.args now x.own (own_seq x.own s + 1))) refl

-- with what becomes of the save
module _ {S : Type 0} (signs : Signing S) (a : Agent S) (view : View) (s : List Record) (asked : Asked) (now : Moment) where
  or_true : (b : Bool) → (b || true) ≡ true
  or_true true = refl
  or_true false = refl

  or_false : (b : Bool) → (b || false) ≡ b
  or_false true = refl
  or_false false = refl

  pub lost_set : (fails : Bool) → fails ≡ true → (turn_on (inputs signs a view fails) s asked now).set ≡ s
  lost_set true e = still_after (inputs signs a view true) s asked now (or_true a.has_failed)
  lost_set false e = cc e

  pub saved_set : (fails : Bool) → fails ≡ false → (turn_on (inputs signs a view fails) s asked now).set ≡ (turn_on (inputs_before signs a view) s asked now).set
  saved_set true e = cc e
  saved_set false e = ap (λ (b : Bool). (turn_on (record (inputs_before signs a view) { has_failed = b }) s asked now).set) (or_false a.has_failed)

  -- where nothing is written the set stays
  pub read_set : (fails : Bool) → s ++ [] ≡ (turn_on (inputs_before signs a view) s asked now).set → (turn_on (inputs signs a view fails) s asked now).set ≡ s
  read_set true e = lost_set true refl
  read_set false e = saved_set false refl ∙ sym e ∙ append-nil s

-- ---- what is written

pub same_behind : (xs ys zs : List Record) → xs ++ ys ≡ xs ++ zs → ys ≡ zs
same_behind [] ys zs e = e
same_behind (x ∷ xs) ys zs e = same_behind xs ys zs (cc e)

-- of the own log, after that number, and citing that
record IsCiting (own : PubKey) (v : Vector) (seq : ℕ) (r : Record) : Type 0 where
  owned : r.owner ≡ own
  cites : r.vector ≡ v
  later : seq ≤ r.seq

citing_later : (own : PubKey) (v : Vector) (m n : ℕ) (r : Record) → m ≤ n → IsCiting own v n r → IsCiting own v m r
citing_later own v m n r le h = record { owned = h.owned; cites = h.cites; later = let later = h.later in omega (arith, le, later) }

linked_citing : (h : Heading) (seq : ℕ) (prev : Key) (ops : List Op) → AllByRecursion (IsCiting h.owner h.vector seq) (linked h seq prev ops)
linked_citing h seq prev [] = tt
linked_citing h seq prev (op ∷ ops) = (
  record { owned = refl; cites = refl; later = omega arith },
  each_from (IsCiting h.owner h.vector seq) (linked h (seq + 1) (new_record h seq prev op).name ops) (λ r c.
      citing_later h.owner h.vector seq (seq + 1) r (omega arith)
      (each (IsCiting h.owner h.vector (seq + 1)) (linked h (seq + 1) (new_record h seq prev op).name ops) r (linked_citing h (seq + 1) (new_record h seq prev op).name ops) c)),
)

module _ (view : View) (own : PubKey) (s : List Record) (h : Holding) (holds : HoldsAll view s h) where
  others : Vector
  others = without_log (head_key_of own) (front s)

  module _ (r : Record) (citing : IsCiting own (without_log (head_key_of own) (front s)) (own_seq own s + 1) r) where
    abbrev log_of_r : Key
    log_of_r = head_key_of r.owner

    own_left_out : stamp_at r.vector log_of_r ≡ None
    own_left_out =
        ap (λ (o : PubKey). stamp_at r.vector (head_key_of o)) citing.owned ∙ ap (λ (v : Vector). stamp_at v (head_key_of own)) citing.cites
        ∙ stamp_at-without_log (front s) (head_key_of own) (head_key_of own) ∙ ap (λ (b : Bool). cond (not b) (stamp_at (front s) (head_key_of own)) None) (same_key_itself (head_key_of own))

    goes_far : Dominates (full_vector r) (front s)
    goes_far log = by (eq_by_cmp key_cmp log log_of_r) refl
      where
        at : seq_of (full_vector r) log ≡ cond (eq_by_cmp key_cmp log log_of_r) r.seq (seq_of r.vector log)
        at = seq_with r.vector r log own_left_out

        by : (b : Bool) → eq_by_cmp key_cmp log log_of_r ≡ b → seq_of (front s) log ≤ seq_of (full_vector r) log
        by true is =
            let mine : seq_of (full_vector r) log ≡ r.seq = at ∙ ap (λ (b : Bool). cond b r.seq (seq_of r.vector log)) is in
            let same : seq_of (front s) log ≡ own_seq own s = ap (seq_of (front s)) (same_key_is log log_of_r is ∙ ap head_key_of citing.owned) in
            let later = citing.later in
            omega (arith, mine, same, later)
        by false is =
            let its : seq_of (full_vector r) log ≡ seq_of r.vector log = at ∙ ap (λ (b : Bool). cond b r.seq (seq_of r.vector log)) is in
            let other : eq_by_cmp key_cmp (head_key_of own) log ≡ false = ap (λ (o : PubKey). eq_by_cmp key_cmp (head_key_of o) log) (sym citing.owned) ∙ (eq_by_cmp_equiv keys_total).symm log_of_r log ∙ is in
            let cited : seq_of r.vector log ≡ seq_of (front s) log =
            ap (λ (v : Vector). seq_of v log) citing.cites ∙ ap reach (stamp_at-without_log (front s) (head_key_of own) log ∙ ap (λ (b : Bool). cond (not b) (stamp_at (front s) log) None) other) in
            omega (arith, its, cited)

    below_front : Dominates (front s) h.basis.front
    below_front log = subst (λ (v : Vector). seq_of h.basis.front log ≤ seq_of v log) (sym (front_is_joined view s h holds)) (joins_keep (map full_vector h.held) h.basis.front log)

    is_above : IsAboveTide h.basis r
    is_above = record {
      knows = λ log. let far = goes_far log in let low = below_front log in omega (arith, far, low);
      later =
          let low = below_front log_of_r in
          let same : seq_of (front s) log_of_r ≡ own_seq own s = ap (λ (o : PubKey). seq_of (front s) (head_key_of o)) citing.owned in
          let later = citing.later in
          omega (arith, low, same, later);
    }

  pub holds_more : (written : List Record) → AllByRecursion (IsAboveTide h.basis) written → HoldsAll view (s ++ written) (with_held h written)
  holds_more written above = record {
    below = holds.below;
    stands = holds.stands;
    whole = ap (λ (l : List Record). l ++ written) holds.whole ∙ append_assoc holds.below h.held written;
    above = each_append (IsAboveTide h.basis) h.held written holds.above above;
  }

  pub holds_written : (x : Inputs) → x.own ≡ own → (asked : Asked) (now : Moment) (written : List Record) → s ++ written ≡ (turn_on x s asked now).set → HoldsAll view (s ++ written) (with_held h written)
  holds_written x mine asked now written is = holds_more written (by (still_or_more x s asked now))
    where
      by : ((turn_on x s asked now).set ≡ s) ⊎ ((ops : List Op) × ((turn_on x s asked now).set ≡ appended x.own One now s ops)) → AllByRecursion (IsAboveTide h.basis) written
      by (inl same) = subst (AllByRecursion (IsAboveTide h.basis)) (sym (same_behind s written [] (is ∙ same ∙ sym (append-nil s)))) tt
      by (inr (ops, more)) =
          let linked_ops : List Record = linked (heading_over own One now (front s)) (own_seq own s + 1) (own_name own s) ops in
          let one : written ≡ linked_ops = same_behind s written linked_ops (is ∙ more ∙ ap (λ (o : PubKey). appended o One now s ops) mine) in
          subst (AllByRecursion (IsAboveTide h.basis)) (sym one)
          (each_from (IsAboveTide h.basis) linked_ops (λ r c. is_above r (each (IsCiting own (without_log (head_key_of own) (front s)) (own_seq own s + 1)) linked_ops r
          (linked_citing (heading_over own One now (front s)) (own_seq own s + 1) (own_name own s) ops) c)))
