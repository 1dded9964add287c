-- Which chains of a batch a closed part may be taken of.
use Rattle.std.proofs.Common.{◌≡◌, ℕ, List, [], ◌∷◌, ◌++◌, Option, refl, Contains}
use Rattle.std.specs.List.{AllByRecursion}
use Rattle.ivy_base.specs.declared.key.Key.{Key}
use Rattle.ivy_base.specs.declared.key.PubKey.{PubKey}
use Rattle.ivy_base.specs.declared.operation.Op.{Op}
use Rattle.ivy_base.specs.declared.operation.Op.TheVariants as op
use Rattle.ivy_base.specs.Naming.{head_key_of}
use Rattle.log_model.specs.View.{View}
use Rattle.log_model.specs.Vector.{Vector, Stamp}
use Rattle.log_model.specs.Record.{Record}
use Rattle.log_model.specs.Spelling.{HasSpelling, IsEndOp}
use Rattle.log_model.specs.Chain.{IsFirst}
use Rattle.log_model.specs.Fetched.{Edge, owner_of, stamp_in, EndsAtStamp, GoesOnFrom}
use Rattle.log_records.specs.Batches.{Batch, Extends}
use Rattle.causal_order.specs.Available.{held_to, BeginsBy, IsLinked, IsFetched}
use Rattle.causal_order.specs.Laws.{BatchesAreFetched}

end_is : (o : Op) → IsEndOp o → o ≡ op.End
end_is (op.Inode number kind mode uid gid target) h = absurd h
end_is (op.Write number offset bytes) h = absurd h
end_is (op.Link dir name number) h = absurd h
end_is (op.Unlink dir name) h = absurd h
end_is (op.Rename dir name to_dir to_name) h = absurd h
end_is (op.Prepare dir name verifier) h = absurd h
end_is (op.Cancel seq) h = absurd h
end_is (op.SetAttrs number change) h = absurd h
end_is op.End h = refl

-- a record of number 1 that has a spelling opens its log
opens : (r : Record) → HasSpelling r → r.seq ≡ 1 → IsFirst r
opens r h one = record { seq = one; ends = end_is r.op (h.ends_first.0 one); prev = (h.first_alone one).0; vector = (h.first_alone one).1 }

nothing_ends : (t : Stamp) → EndsAtStamp t [] → ⊥
nothing_ends t ([], last, is, same) = cc
nothing_ends t (b ∷ before, last, is, same) = cc

linked : (view : View) (t : Stamp) (held : Option Stamp) (edge : Option Edge) (chain : List Record) → EndsAtStamp t chain → GoesOnFrom view held edge chain → IsLinked view chain
linked view t held edge [] ends goes = nothing_ends t ends
linked view t held edge (r ∷ rs) ends goes = (goes.0, opens r goes.0.spelled, goes.3)

pub batches_are_fetched : BatchesAreFetched
batches_are_fetched view edges batch front held is under members near = each batch.chains is.extend under members near
  where
    each : (chains : List (Stamp × List Record)) → AllByRecursion (λ c. Extends batch.held batch.floor c.0 c.1) chains
        → AllByRecursion (λ c. GoesOnFrom view (stamp_in batch.held c.1) (edges (head_key_of (owner_of c.1))) c.1) chains
        → AllByRecursion (λ c. Contains view.members (owner_of c.1)) chains → AllByRecursion (λ c. BeginsBy (held_to front held (owner_of c.1)) c.1) chains
        → AllByRecursion (λ c. IsFetched view front held c.1) chains
    each [] a b c d = tt
    each (x ∷ chains) a b c d = (
      record { member = c.0; linked = linked view x.0 (stamp_in batch.held x.1) (edges (head_key_of (owner_of x.1))) x.1 a.0.ends b.0; near = d.0 },
      each chains a.1 b.1 c.1 d.1,
    )
