-- What a turn answers on a tree, or what it is to write.
use Rattle.std.specs.Prelude.{ℕ, ◌+◌, nat_lt, Bool, ◌||◌, ◌==◌, List, length, if◌then◌else◌}
use Rattle.ivy_base.specs.declared.format.Format.TheVariants.{One}
use Rattle.ivy_base.specs.declared.operation.Moment.{Moment}
use Rattle.ivy_base.specs.declared.operation.Op.{Op}
use Rattle.tree_model.specs.Tree.{Tree}
use Rattle.log_model.specs.Record.{Record}
use Rattle.log_model.specs.Replay.{replay}
use Rattle.log_model.specs.Spelling.{most_records}
use Rattle.nfs_model.specs.declared.arguments.Args.{Args}
use Rattle.nfs_model.specs.declared.replies.NfsStatus.TheVariants.{RoFs, ServerFault}
use Rattle.nfs_model.specs.declared.replies.Reply.{Reply}
use Rattle.nfs_model.specs.declared.replies.Reply.TheVariants.{Refused}
use Rattle.nfs_model.specs.Reading.{answer}
use Rattle.nfs_model.specs.Changing.{is_changing, Plan, Refuse, Nothing, Operations, plan, finish}
use Rattle.turn_model.specs.Turn.{Inputs, Asked, Turned, bare_tail, appended}

-- a reply, and nothing is written; or operations that are to be written before the reply
pub data Served : Type 0 where
  Replies : (reply : Reply) → Served
  Writes : (ops : List Op) → Served

-- no signature is left, or no numbers for the operations after that one
abbrev pub is_full : ℕ → ℕ → List Op → Bool
is_full leaves seq ops = leaves == 0 || nat_lt most_records (seq + length ops)

-- what is made of a plan, where the own log goes so far
abbrev pub serve_plan : Inputs → ℕ → Args → Plan → Served
serve_plan a seq args (Refuse reply) = Replies reply
serve_plan a seq args (Nothing reply) = Replies reply
serve_plan a seq args (Operations ops) =
    if is_full a.leaves seq ops then Replies (Refused RoFs (bare_tail args))
    else if a.has_failed then Replies (Refused ServerFault (bare_tail args))
    else Writes ops

-- a reading call is answered on the tree, and a changing one goes by its plan
abbrev pub serve_on : Inputs → Tree → ℕ → Asked → Moment → Served
serve_on a t seq asked now =
    if is_changing asked.args
    then serve_plan a seq asked.args (plan t a.view asked.caller asked.args now a.own (seq + 1))
    else Replies (answer t a.view asked.caller asked.args)

-- the turn on the set for which that was served: what is written is appended, and answered on the trees before and after
abbrev pub turned_by : Inputs → List Record → Asked → Moment → Served → Turned
turned_by a s asked now (Replies reply) = record { reply = reply; set = s }
turned_by a s asked now (Writes ops) =
    (let more = appended a.own One now s ops in record {
      reply = finish (replay s) (replay more) a.view asked.caller asked.args ops;
      set = more;
    })
