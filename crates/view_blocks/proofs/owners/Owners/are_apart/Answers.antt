use Rattle.std.proofs.Common.{◌∙◌, ap, sym, map, List}
use Rattle.ivy_base.specs.declared.key.PubKey.{PubKey}
use Rattle.ivy_base.specs.Naming.{head_key_of}
use Rattle.view_blocks.proofs.Heads.{apart_where_none}
use Rattle.view_blocks.proofs.owners.Owners.are_apart.Goals as goal
use Rattle.view_blocks.proofs.owners.Owners.are_apart.Goals.{then-have_own_heads, else-have_own_heads}

pub returns-then-have_own_heads-2 : goal.returns-then-have_own_heads-2
returns-then-have_own_heads-2 c = elim c.if-have_own_heads.branch [
  | then-have_own_heads w ↦
      apart_where_none c.args.self.now c.args.others.now c.deref.result.now c.has_none.result
      (c.deref.ensures.value ∙ c.self.invariant.heads_are ∙ ap (λ (keys : List PubKey). map head_key_of keys) c.self.view_is)
      (sym c.have_own_heads.ensures ∙ w.if-have_own_heads.true)
      (sym w.have_own_heads-then-have_own_heads.ensures ∙ sym w.value-is ∙ c.if-have_own_heads-2.true)
      c.has_none.ensures
  | else-have_own_heads w ↦ cc
]
