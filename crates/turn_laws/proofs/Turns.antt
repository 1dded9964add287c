-- A turn of a member whose log has begun leaves a closed set.
use Rattle.std.proofs.Common.{◌≡◌, ◌≢◌, ℕ, ◌+◌, Bool, true, false, cond, ◌||◌, List, [], ◌∷◌, ◌++◌, length, map, Option, refl, sym, ap, ◌∙◌, subst, inl, arith, Contains}
use Rattle.std.specs.Prelude.{nat_lt, ◌==◌}
use Rattle.std.specs.List.{AllByRecursion}
use Rattle.std.specs.Option.{option_map_or}
use Rattle.std.specs.Ordering.{eq_by_cmp}
use Rattle.std.proofs.lemmas.Bool.{ltb-false}
use Rattle.ivy_base.specs.declared.format.Format.{Format}
use Rattle.ivy_base.specs.declared.format.Format.TheVariants.{One}
use Rattle.ivy_base.specs.declared.key.Key.{Key}
use Rattle.ivy_base.specs.declared.key.PubKey.{PubKey}
use Rattle.ivy_base.specs.declared.operation.Moment.{Moment}
use Rattle.ivy_base.specs.declared.operation.Op.{Op}
use Rattle.ivy_base.specs.Naming.{owner_cmp}
use Rattle.tree_model.specs.Apply.{empty_tree, apply_all}
use Rattle.tree_model.proofs.Sound.{both_false}
use Rattle.log_model.specs.View.{View, IsView}
use Rattle.log_model.specs.Vector.{Stamp, reach}
use Rattle.log_model.specs.Record.{Heading, Record}
use Rattle.log_model.specs.Spelling.{IsMoment, OperationFits, no_name, most_records}
use Rattle.log_model.specs.Rank.{front}
use Rattle.log_model.specs.Chain.{AllMayBeWritten}
use Rattle.log_model.specs.Closed.{log_of, IsClosed}
use Rattle.log_model.specs.Laws.{NumbersAreKeys}
use Rattle.log_model.specs.Replay.{effect, replay}
use Rattle.log_model.proofs.Lists.{here, in_nothing, each_from, in_filter, from_filter}
use Rattle.log_model.proofs.Later.{EndsWith, written, next_record, all_go, good_of}
use Rattle.log_model.proofs.Numbers.{records_make_keys}
use Rattle.log_model.proofs.Sets.{ascending_in_order}
use Rattle.wire_model.specs.Rpc.{IsIdentity}
use Rattle.nfs_model.specs.Arguments.{ArgumentsFit}
use Rattle.nfs_model.specs.Changing.{is_changing, Plan, Refuse, Nothing, Operations, plan}
use Rattle.turn_model.specs.Turn.{Inputs, Asked, Turned, own_seq, own_name, linked, heading_over, appended, by_plan, turn_on}
use Rattle.turn_model.proofs.Plans.{plan_may_be_written}
use Rattle.turn_laws.specs.Closed.{TurnSetIsClosed}
use Rattle.turn_laws.proofs.Starts.{ends_with, own_stamp, over_front}

-- ---- what is appended is what is written after the own log's last record

linked_is_written : (h : Heading) (p : Record) (ops : List Op) → linked h (p.seq + 1) p.name ops ≡ written h p ops
linked_is_written h p [] = refl
linked_is_written h p (op ∷ ops) = ap (λ (l : List Record). next_record h p op ∷ l) (linked_is_written h (next_record h p op) ops)

-- ---- the tree of a closed set

effects_fit : (s : List Record) → AllByRecursion (λ r. OperationFits r.op) s → AllByRecursion (λ o. OperationFits o.1) (map effect s)
effects_fit [] h = tt
effects_fit (r ∷ s) h = (h.0, effects_fit s h.1)

-- its inodes have keys as their numbers
pub closed_makes_keys : (view : View) (s : List Record) → IsClosed view s → NumbersAreKeys (replay s)
closed_makes_keys view s closed =
    subst (λ (l : List Record). NumbersAreKeys (apply_all empty_tree (map effect l))) (sym (ascending_in_order s closed.ascending))
    (records_make_keys (map effect s) (effects_fit s (each_from (λ r. OperationFits r.op) s (λ r c. (good_of view s r closed c).spelled.operation))))

-- ---- one turn

module _ (a : Inputs) (s : List Record) (asked : Asked) (now : Moment) (p : Record)
    (well : IsView a.view) (member : Contains a.view.members a.own) (closed : IsClosed a.view s) (ends : EndsWith s a.own p)
    (caller : IsIdentity asked.caller) (fits : ArgumentsFit asked.args) (moment : IsMoment now) where
  own_seq_is : own_seq a.own s ≡ p.seq
  own_seq_is = ap reach (own_stamp a.view s a.own p well closed member ends)

  own_name_is : own_name a.own s ≡ p.name
  own_name_is = ap (λ (o : Option Stamp). option_map_or (λ t. t.name) o no_name) (own_stamp a.view s a.own p well closed member ends)

  appended_is : (format : Format) (ops : List Op) → appended a.own format now s ops ≡ s ++ written (heading_over a.own format now (front s)) p ops
  appended_is format ops =
      let h : Heading = heading_over a.own format now (front s) in
      ap (λ (n : ℕ). s ++ linked h (n + 1) (own_name a.own s) ops) own_seq_is
      ∙ ap (λ (k : Key). s ++ linked h (p.seq + 1) k ops) own_name_is
      ∙ ap (λ (l : List Record). s ++ l) (linked_is_written h p ops)

  -- in each format
  pub appended_closed : (format : Format) (ops : List Op) → AllMayBeWritten a.own (p.seq + 1) ops → IsClosed a.view (appended a.own format now s ops)
  appended_closed format ops may =
      subst (λ (l : List Record). IsClosed a.view l) (sym (appended_is format ops))
      (all_go a.view s (heading_over a.own format now (front s)) p ops closed member moment ends (over_front a.view s a.own p well closed member ends) may)

  chosen : (b c : Bool) (x y z : Turned) → IsClosed a.view x.set → IsClosed a.view y.set → (b ≡ false → IsClosed a.view z.set) → IsClosed a.view (cond b x (cond c y z)).set
  chosen true c x y z p q o = p
  chosen false true x y z p q o = q
  chosen false false x y z p q o = o refl

  either : (b : Bool) (x y : Turned) → IsClosed a.view x.set → IsClosed a.view y.set → IsClosed a.view (cond b x y).set
  either true x y p q = p
  either false x y p q = q

  in_plan : (q : Plan) → plan (replay s) a.view asked.caller asked.args now a.own (own_seq a.own s + 1) ≡ q → IsClosed a.view (by_plan a s asked now q).set
  in_plan (Refuse reply) planned = closed
  in_plan (Nothing reply) planned = closed
  in_plan (Operations ops) planned =
      chosen (a.leaves == 0 || nat_lt most_records (own_seq a.own s + length ops)) a.has_failed _ _ _ closed closed (λ room.
      let few = ltb-false most_records (own_seq a.own s + length ops) (both_false (a.leaves == 0) _ room).1 in
      let may : AllMayBeWritten a.own (own_seq a.own s + 1) ops =
      plan_may_be_written (replay s) a.view asked.caller asked.args now a.own (own_seq a.own s + 1) ops (closed_makes_keys a.view s closed) caller fits moment planned (omega (arith, few)) in
      appended_closed One ops (subst (λ (n : ℕ). AllMayBeWritten a.own (n + 1) ops) own_seq_is may))

  pub turn_closed : IsClosed a.view (turn_on a s asked now).set
  turn_closed = either (is_changing asked.args) _ _ (in_plan _ refl) closed

-- a log that is begun in a set is begun in a larger one
still_begun : (own : PubKey) (known taken : List Record) (log : List Record) → log_of own known ≡ log → ((r : Record) → Contains known r → Contains taken r) → log ≢ [] → log_of own taken ≢ []
still_begun own known taken [] e within some none = some refl
still_begun own known taken (r ∷ log) e within some none =
    let first = from_filter (λ (x : Record). eq_by_cmp owner_cmp own x.owner) known r (subst (λ (l : List Record). Contains l r) (sym e) (here r log)) in
    in_nothing r (subst (λ (l : List Record). Contains l r) none (in_filter (λ (x : Record). eq_by_cmp owner_cmp own x.owner) taken r (within r first.0) first.1))

pub turn_set_is_closed : TurnSetIsClosed
turn_set_is_closed a known candidates asked now turned well member closed some caller fits moment turn =
    let begun : log_of a.own turn.taken ≢ [] = still_begun a.own known turn.taken (log_of a.own known) refl
    (λ r c. turn.largest.largest known (λ q d. inl d) closed r c) some in
    let last = ends_with turn.taken a.own begun in
    subst (λ (t : Turned). IsClosed a.view t.set) (sym turn.by_set)
    (turn_closed a turn.taken asked now last.0 well member turn.largest.closed last.1 caller fits moment)
