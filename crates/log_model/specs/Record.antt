-- A record of a log: one step of its owner's, written once.
use Rattle.std.specs.Prelude.{ℕ}
use Rattle.ivy_base.specs.declared.key.Key.{Key}
use Rattle.ivy_base.specs.declared.key.PubKey.{PubKey}
use Rattle.ivy_base.specs.declared.format.Format.{Format}
use Rattle.ivy_base.specs.declared.operation.Moment.{Moment}
use Rattle.ivy_base.specs.declared.operation.Op.{Op}
use Rattle.log_model.specs.Vector.{Vector}

-- whose log it is of, its number there from 1 on, the name of the record before it, what its writer held of the other logs, and what it
-- does at which moment; in which format it is written; and its own name, which is that of its block
pub record Record : Type 0 where
  pub owner : PubKey
  pub seq : ℕ
  pub prev : Key
  pub vector : Vector
  pub moment : Moment
  pub op : Op
  pub format : Format
  pub name : Key

-- What records that are written together have in common: whose log they are of, in which format they are written, what their writer holds
-- of the other logs, and the moment.
pub record Heading : Type 0 where
  pub owner : PubKey
  pub format : Format
  pub vector : Vector
  pub moment : Moment

abbrev pub heading_of : Record → Heading
heading_of r = record { owner = r.owner; format = r.format; vector = r.vector; moment = r.moment }
