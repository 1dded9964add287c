-- The keys of views as they stand in blocks.
use Rattle.std.specs.List.{AllByRecursion}
use Rattle.ivy_base.specs.declared.key.PubKey.{PubKey}
use Rattle.log_model.specs.Spelling.{IsBlock}
use Rattle.log_model.specs.View.{View}

-- a public key as it stands in a block: 60 bytes
abbrev pub IsPubKey : PubKey → Type 0
IsPubKey key = IsBlock 60 key.0

-- each key of the view has 60 bytes
pub record HasKeys (view : View) : Type 0 where
  pub members : AllByRecursion IsPubKey view.members
  pub former : AllByRecursion IsPubKey view.former
