-- A turn's set has all that was known before it.
use Rattle.std.proofs.Common.{◌+◌, Bool, true, false, cond, ◌||◌, List, length, sym, subst, inl, Contains}
use Rattle.std.specs.Prelude.{nat_lt, ◌==◌}
use Rattle.std.proofs.lemmas.List.Elements.{Contains-append_left}
use Rattle.ivy_base.specs.declared.operation.Moment.{Moment}
use Rattle.log_model.specs.Record.{Record}
use Rattle.log_model.specs.Replay.{replay}
use Rattle.log_model.specs.Spelling.{most_records}
use Rattle.nfs_model.specs.Changing.{is_changing, Plan, Refuse, Nothing, Operations, plan}
use Rattle.turn_model.specs.Turn.{TurnKeepsKnown, Inputs, Asked, Turned, by_plan, turn_on, own_seq}

module _ (a : Inputs) (s : List Record) (asked : Asked) (now : Moment) (r : Record) (within : Contains s r) where
  chosen : (b c : Bool) (x y z : Turned) → Contains x.set r → Contains y.set r → Contains z.set r → Contains (cond b x (cond c y z)).set r
  chosen true c x y z p q o = p
  chosen false true x y z p q o = q
  chosen false false x y z p q o = o

  in_plan : (p : Plan) → Contains (by_plan a s asked now p).set r
  in_plan (Refuse reply) = within
  in_plan (Nothing reply) = within
  in_plan (Operations ops) = chosen (a.leaves == 0 || nat_lt most_records (own_seq a.own s + length ops)) a.has_failed _ _ _ within within (Contains-append_left s _ r within)

  either : (b : Bool) (x y : Turned) → Contains x.set r → Contains y.set r → Contains (cond b x y).set r
  either true x y p q = p
  either false x y p q = q

  pub in_turn : Contains (turn_on a s asked now).set r
  in_turn = either (is_changing asked.args) _ _ (in_plan (plan (replay s) a.view asked.caller asked.args now a.own (own_seq a.own s + 1))) within

pub turn_keeps : TurnKeepsKnown
turn_keeps a known candidates asked now turned closed turn r within =
    let taken = turn.largest.largest known (λ q c. inl c) closed r within in
    subst (λ (t : Turned). Contains t.set r) (sym turn.by_set) (in_turn a turn.taken asked now r taken)
