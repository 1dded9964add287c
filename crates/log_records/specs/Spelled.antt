-- Rules that a record has as a whole, apart from those of its parts.
use Rattle.std.specs.Prelude.{◌≡◌, ◌↔◌, []}
use Rattle.ivy_base.specs.declared.format.Format.TheVariants.{One}
use Rattle.log_model.specs.Record.{Record}
use Rattle.log_model.specs.Spelling.{no_name, IsEndOp}

-- a log begins with End, which stands nowhere else, and its first record cites nothing and has format 1
pub record IsInPlace (r : Record) : Type 0 where
  pub ends_first : (r.seq ≡ 1) ↔ IsEndOp r.op
  pub first_alone : r.seq ≡ 1 → (r.prev ≡ no_name) × (r.vector ≡ [])
  pub first_plain : r.seq ≡ 1 → r.format ≡ One
