-- What follows for a turn from what is served on its set's tree.
use Rattle.std.specs.Prelude.{◌≡◌, ℕ, ◌+◌, ◌<◌, ◌≤◌, Bool, true, false, ◌||◌, List, length}
use Rattle.ivy_base.specs.declared.operation.Moment.{Moment}
use Rattle.ivy_base.specs.declared.operation.Op.{Op}
use Rattle.tree_model.specs.Tree.{Tree}
use Rattle.log_model.specs.Record.{Record}
use Rattle.log_model.specs.Replay.{replay}
use Rattle.log_model.specs.Spelling.{most_records}
use Rattle.nfs_model.specs.declared.replies.NfsStatus.TheVariants.{ServerFault}
use Rattle.nfs_model.specs.declared.replies.Reply.{Reply}
use Rattle.nfs_model.specs.declared.replies.Reply.TheVariants.{Refused}
use Rattle.nfs_model.specs.Changing.{is_changing, Operations, plan}
use Rattle.turn_model.specs.Turn.{Inputs, Asked, bare_tail, own_seq, turn_on}
use Rattle.ivy_agent.specs.Serving.{Replies, Writes, serve_on, turned_by}

-- A turn on a set is what is served on its replay, from where the own log ends in the set.
abbrev pub TurnIsServed : Type 0
TurnIsServed = (a : Inputs) (s : List Record) (asked : Asked) (now : Moment)
    → turn_on a s asked now ≡ turned_by a s asked now (serve_on a (replay s) (own_seq a.own s) asked now)

-- ---- saves that fail

-- what a turn goes by, with what becomes of its save: `inputs` of `agent_model` for its `inputs_before`
abbrev pub with_save : Inputs → Bool → Inputs
with_save a fails = record a { has_failed = a.has_failed || fails }

-- Where nothing is written, the turn gives that reply and leaves the set as it is, whatever would become of a save.
abbrev pub RepliesWhateverIsSaved : Type 0
RepliesWhateverIsSaved = (a : Inputs) (s : List Record) (asked : Asked) (now : Moment) (reply : Reply)
    → serve_on a (replay s) (own_seq a.own s) asked now ≡ Replies reply
    → (turn_on a s asked now ≡ record { reply = reply; set = s })
    × ((fails : Bool) → turn_on (with_save a fails) s asked now ≡ record { reply = reply; set = s })

-- Where operations are written, the turn appends them; it is the same with a save that doesn't fail, and with one that fails it says so and
-- leaves the set as it is.
abbrev pub WritesAreSaved : Type 0
WritesAreSaved = (a : Inputs) (s : List Record) (asked : Asked) (now : Moment) (ops : List Op)
    → serve_on a (replay s) (own_seq a.own s) asked now ≡ Writes ops
    → (turn_on a s asked now ≡ turned_by a s asked now (Writes ops))
    × (turn_on (with_save a false) s asked now ≡ turned_by a s asked now (Writes ops))
    × (turn_on (with_save a true) s asked now ≡ record { reply = Refused ServerFault (bare_tail asked.args); set = s })

-- ---- what is written

-- no save has failed, a signature and numbers are left, and the call is a changing one with that plan
pub record IsPlanned (a : Inputs) (t : Tree) (seq : ℕ) (asked : Asked) (now : Moment) (ops : List Op) : Type 0 where
  pub unfailed : a.has_failed ≡ false
  pub is_left : 0 < a.leaves
  pub few : seq + length ops ≤ most_records
  pub changing : is_changing asked.args ≡ true
  pub planned : plan t a.view asked.caller asked.args now a.own (seq + 1) ≡ Operations ops

-- What is to be written is planned so.
abbrev pub WritesArePlanned : Type 0
WritesArePlanned = (a : Inputs) (t : Tree) (seq : ℕ) (asked : Asked) (now : Moment) (ops : List Op)
    → serve_on a t seq asked now ≡ Writes ops → IsPlanned a t seq asked now ops
