-- A turn tries to save exactly where it writes records, since a plan of operations has some.
use Rattle.std.proofs.Common.{◌≡◌, inl, inr, ◌+◌, ◌≤◌, Bool, true, false, cond, ◌||◌, ◌&&◌, not, List, [], ◌∷◌, length, refl, arith}
use Rattle.std.specs.Prelude.{nat_lt, ◌==◌}
use Rattle.ivy_base.specs.declared.format.Format.TheVariants.{One}
use Rattle.ivy_base.specs.declared.operation.Moment.{Moment}
use Rattle.ivy_base.specs.declared.operation.Op.{Op}
use Rattle.log_model.specs.Record.{Record}
use Rattle.log_model.specs.Replay.{replay}
use Rattle.log_model.specs.Spelling.{most_records}
use Rattle.nfs_model.specs.Changing.{Plan, Refuse, Nothing, Operations, is_changing, plan}
use Rattle.nfs_laws.proofs.Plans.{plans_are_few}
use Rattle.turn_model.specs.Turn.{Asked, Inputs, Turned, appended, by_plan, may_save, own_seq, tries_save, turn_on}
use Rattle.agent_laws.specs.Laws.{IsToSave, SavesWhatItWrites}

module _ (x : Inputs) (s : List Record) (asked : Asked) (now : Moment) where
  chosen : (full failed : Bool) (t u v : Turned) (o : Op) (ops : List Op) → x.has_failed ≡ failed → t.set ≡ s → u.set ≡ s → v.set ≡ appended x.own One now s (o ∷ ops)
      → IsToSave x s now (not full && not failed) (cond full t (cond failed u v))
  chosen true failed t u v o ops is e f g = inr (refl, e)
  chosen false true t u v o ops is e f g = inr (refl, f)
  chosen false false t u v o ops is e f g = inl (refl, is, o, ops, g)

  in_plan : (p : Plan) → plan (replay s) x.view asked.caller asked.args now x.own (own_seq x.own s + 1) ≡ p → IsToSave x s now (may_save x s p) (by_plan x s asked now p)
  in_plan (Refuse reply) planned = inr (refl, refl)
  in_plan (Nothing reply) planned = inr (refl, refl)
  in_plan (Operations []) planned =
      let some = (plans_are_few (replay s) x.view asked.caller asked.args now x.own (own_seq x.own s + 1) [] planned).0 in absurd (omega (arith, some))
  in_plan (Operations (o ∷ ops)) planned = chosen (x.leaves == 0 || nat_lt most_records (own_seq x.own s + length (o ∷ ops))) x.has_failed _ _ _ o ops refl refl refl refl

  either : (b tries : Bool) (t u : Turned) → IsToSave x s now tries t → u.set ≡ s → IsToSave x s now (b && tries) (cond b t u)
  either true tries t u f e = f
  either false tries t u f e = inr (refl, e)

  to_save : IsToSave x s now (tries_save x s asked now) (turn_on x s asked now)
  to_save =
      let planned : Plan = plan (replay s) x.view asked.caller asked.args now x.own (own_seq x.own s + 1) in
      either (is_changing asked.args) (may_save x s planned) _ _ (in_plan planned refl) refl

pub is_to_save : SavesWhatItWrites
is_to_save x s asked now = to_save x s asked now
