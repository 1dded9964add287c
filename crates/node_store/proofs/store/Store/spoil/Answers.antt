use Rattle.std.proofs.Common.{sym, ap}
use Rattle.node_store.proofs.Puts.{corrupted, corrupted_valid, not_corrupted}
use Rattle.node_store.proofs.store.Store.spoil.Goals as goal
use Rattle.node_store.proofs.store.Store.spoil.Goals.{in-Some, in-None}

pub invariant_of-self : goal.invariant_of-self
invariant_of-self c = elim c.match-get_mut.branch [
  | in-Some w ↦ rw w.self-inside-is (corrupted_valid c.args.key.now c.args.offset c.args.byte c.self.inside.blocks.entries _ c.self.invariant.1 _ _ (sym w.in-Some.ensures.value) (c.get_mut.follows.holds _).0 c.self.inside.total _ c.self.invariant.0 w.spoil.ensures)
  | in-None w ↦ rw (w.self-inside-is, c.get_mut.follows.holds-at-none) c.self.invariant
]

pub returns-clause-spoiled : goal.returns-clause-spoiled
returns-clause-spoiled c = elim c.match-get_mut.branch [
  | in-Some w ↦ rw (w.self-inside-is, w.result-is, ← c.self.view_is) (corrupted c.args.key.now c.args.offset c.args.byte c.self.inside.blocks.entries _ c.self.invariant.1 _ _ (sym w.in-Some.ensures.value) (c.get_mut.follows.holds _).0 _ w.spoil.ensures)
  | in-None w ↦ rw (w.self-inside-is, w.result-is, ← c.self.view_is) (not_corrupted c.args.key.now c.args.offset c.args.byte c.self.inside.blocks.entries _ c.self.invariant.1 (sym w.in-None.ensures.value) (ap (λ m. m.entries) c.get_mut.follows.holds-at-none))
]

pub returns-clause-valid : goal.returns-clause-valid
returns-clause-valid c = elim c.match-get_mut.branch [
  | in-Some w ↦ rw w.self-inside-is (corrupted_valid c.args.key.now c.args.offset c.args.byte c.self.inside.blocks.entries _ c.self.invariant.1 _ _ (sym w.in-Some.ensures.value) (c.get_mut.follows.holds _).0 c.self.inside.total _ c.self.invariant.0 w.spoil.ensures).1
  | in-None w ↦ rw (w.self-inside-is, c.get_mut.follows.holds-at-none) c.self.invariant.1
]
