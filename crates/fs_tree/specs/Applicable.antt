-- The operations that can be applied: all that the body of a record may have.
use Rattle.std.specs.Prelude.{◌≡◌}
use Rattle.ivy_base.specs.declared.key.Key.{Key}
use Rattle.ivy_base.specs.declared.operation.Op.{Op}
use Rattle.ivy_base.specs.declared.operation.Op.TheVariants as op
use Rattle.inode_replay.specs.Contents.{ChangesContent}

-- a Write or a SetAttrs lets no file end past its limit
abbrev pub IsApplicable : Op → Type 0
IsApplicable (op.Write number offset bytes) = ChangesContent (op.Write number offset bytes)
IsApplicable (op.SetAttrs number change) = ChangesContent (op.SetAttrs number change)
IsApplicable _ = Unit {0}

-- a Link or an Unlink of a name in that directory
abbrev pub IsInOne : Key → Op → Type 0
IsInOne dir (op.Link d name number) = d ≡ dir
IsInOne dir (op.Unlink d name) = d ≡ dir
IsInOne dir _ = ⊥
