-- What walks over rows of records make.
use Rattle.std.proofs.Common.{◌≡◌, ℕ, ◌+◌, ◌<◌, zero, suc, List, [], ◌∷◌, ◌++◌, length, get_or, take, map, refl, sym, ap, ◌∙◌, subst, arith}
use Rattle.std.specs.Prelude.{reverse}
use Rattle.std.specs.List.{AllByRecursion}
use Rattle.std.proofs.lemmas.List.{take_more, map-append, reverse-append}
use Rattle.ivy_base.specs.declared.operation.Op.{Op}
use Rattle.ivy_base.specs.declared.operation.Op.TheVariants as op
use Rattle.tree_model.specs.Tree.{Tree}
use Rattle.tree_model.specs.Apply.{apply, apply_all, empty_tree}
use Rattle.log_model.specs.Record as log
use Rattle.log_model.specs.Closed.{IsAscending}
use Rattle.log_model.specs.Replay.{effect, in_order, replay}
use Rattle.log_model.specs.Spelling.{HasSpelling, OperationFits}
use Rattle.log_model.proofs.Later.{apply_more}
use Rattle.log_model.proofs.Sets.{ascending_in_order}
use Rattle.log_records.specs.declared.record.Record.{Record}
use Rattle.log_records.specs.Records.{record_of, records_of}
use Rattle.fs_tree.specs.Applicable.{IsApplicable}
use Rattle.replay_engine.specs.Rows.{union}
use Rattle.replay_engine.proofs.Unions.{union_in_order}

pub spelled_at : (rs : List Record) (i : ℕ) (x : Record) → i < length rs → x ≡ get_or rs i x → AllByRecursion HasSpelling (records_of rs) → HasSpelling (record_of x)
spelled_at [] i x lt e all = absurd (omega arith)
spelled_at (r ∷ rs) zero x lt e all = subst (λ (y : Record). HasSpelling (record_of y)) (sym e) all.0
spelled_at (r ∷ rs) (suc i) x lt e all = spelled_at rs i x (omega arith) e all.1

-- a record's operation may be applied
pub may_apply : (o : Op) → OperationFits o → IsApplicable o
may_apply (op.Inode number kind mode uid gid target) h = tt
may_apply (op.Write number offset bytes) h = h.3
may_apply (op.Link dir name number) h = tt
may_apply (op.Unlink dir name) h = tt
may_apply (op.Rename dir name to_dir to_name) h = tt
may_apply (op.Prepare dir name verifier) h = tt
may_apply (op.Cancel seq) h = tt
may_apply (op.SetAttrs number change) h = h.1.size
may_apply op.End h = tt

pub seen_more : (rs : List Record) (i : ℕ) (x : Record) → i < length rs → x ≡ get_or rs i x → records_of (take (i + 1) rs) ≡ records_of (take i rs) ++ record_of x ∷ []
seen_more rs i x lt e = ap records_of (take_more rs i x lt) ∙ map-append record_of (take i rs) (get_or rs i x ∷ []) ∙ ap (λ (y : Record). records_of (take i rs) ++ record_of y ∷ []) (sym e)

pub applied_more : (first before now : Tree) (rs : List Record) (i : ℕ) (x : Record) → i < length rs → x ≡ get_or rs i x → before ≡ apply_all first (map effect (records_of (take i rs))) → now ≡ apply before x.moment x.op
    → now ≡ apply_all first (map effect (records_of (take (i + 1) rs)))
applied_more first before now rs i x lt e so_far step =
    let seen = records_of (take i rs) in
    step ∙ ap (λ (t : Tree). apply t x.moment x.op) so_far
    ∙ sym (ap (λ (l : List log.Record). apply_all first (map effect l)) (seen_more rs i x lt e)
    ∙ ap (λ l. apply_all first l) (map-append effect seen (record_of x ∷ []))
    ∙ apply_more first (map effect seen) (map effect (record_of x ∷ [])))

pub replayed : (empty tree : Tree) (rs : List log.Record) → IsAscending rs → empty ≡ empty_tree → tree ≡ apply_all empty (map effect rs) → tree ≡ replay rs
replayed empty tree rs up e all = all ∙ ap (λ (t : Tree). apply_all t (map effect rs)) e ∙ ap (λ (l : List log.Record). apply_all empty_tree (map effect l)) (sym (ascending_in_order rs up))

seen_reversed : (rs : List Record) → records_of (reverse rs) ≡ reverse (records_of rs)
seen_reversed [] = refl
seen_reversed (r ∷ rs) =
    ap records_of (reverse-append (r ∷ []) rs) ∙ map-append record_of (reverse rs) (r ∷ []) ∙ ap (λ (l : List log.Record). l ++ record_of r ∷ []) (seen_reversed rs) ∙ sym (reverse-append (record_of r ∷ []) (records_of rs))

pub all_merged : (held new held_left new_left merged result : List Record) → union (records_of held_left) (records_of new_left) ++ reverse (records_of merged) ≡ union (records_of held) (records_of new)
    → (held_left ≡ []) × (new_left ≡ []) → result ≡ reverse merged → IsAscending (records_of held) → records_of result ≡ in_order (records_of held ++ records_of new)
all_merged held new held_left new_left merged result so_far none e up =
    ap records_of e ∙ seen_reversed merged
    ∙ ap (λ (l : List Record). union (records_of l) [] ++ reverse (records_of merged)) (sym none.0)
    ∙ ap (λ (l : List Record). union (records_of held_left) (records_of l) ++ reverse (records_of merged)) (sym none.1)
    ∙ so_far ∙ sym (union_in_order (records_of held) (records_of new) up)
