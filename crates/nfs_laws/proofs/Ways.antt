-- What holds of a refusal, and of what stands after an object and its checks, holds of an answer and of a plan.
use Rattle.std.proofs.Common.{◌≡◌, ℕ, Bool, true, false, cond, not, ◌&&◌, List, [], ◌∷◌, length, take, drop, Some, Result, Ok, Err, refl, ap, ◌∙◌, arith, length-drop}
use Rattle.std.specs.Prelude.{◌==◌}
use Rattle.std.specs.List.{AllByRecursion}
use Rattle.std.proofs.lemmas.Bool.{eqb-true}
use Rattle.ivy_base.specs.declared.key.Key.{Key}
use Rattle.tree_model.specs.Tree.{Tree, inode_at}
use Rattle.tree_model.proofs.Sound.{both_true, not_false}
use Rattle.log_model.specs.View.{View, view_name}
use Rattle.nfs_model.specs.declared.replies.NfsStatus.{NfsStatus}
use Rattle.nfs_model.specs.declared.replies.NfsStatus.TheVariants.{BadHandle, Stale}
use Rattle.nfs_model.specs.declared.replies.Tail.{Tail}
use Rattle.nfs_model.specs.declared.replies.Reply.{Reply}
use Rattle.nfs_model.specs.declared.replies.Reply.TheVariants as reply
use Rattle.nfs_model.specs.Checks.{Check, same_bytes}
use Rattle.nfs_model.specs.Objects.{Object, object_of, handle_tag}
use Rattle.nfs_model.specs.Answers.{about, unless}
use Rattle.nfs_model.proofs.Objects.{object_at}
use Rattle.nfs_model.specs.Changing.{Plan, Refuse, plan_about, plan_unless}

-- no check fails
abbrev pub Pass : List Check → Type 0
Pass checks = AllByRecursion (λ c. c.0 ≡ false) checks

-- after checks, and after the object of a handle, with this tail
module _ (P : Reply → Type 0) (with : Tail) (refused : (fault : NfsStatus) → P (reply.Refused fault with)) where
  answer_check : (b : Bool) (fault : NfsStatus) (checks : List Check) (r : Reply)
      → ((b ≡ false) × Pass checks → P r) → ((Pass checks → P r) → P (unless checks with r)) → P (unless ((b, fault) ∷ checks) with r)
  answer_check true fault checks r h again = refused fault
  answer_check false fault checks r h again = again (λ rest. h (refl, rest))

  pub with_unless : (checks : List Check) (r : Reply) → (Pass checks → P r) → P (unless checks with r)
  with_unless [] r h = h tt
  with_unless (c ∷ checks) r h = answer_check c.0 c.1 checks r h (λ g. with_unless checks r g)

  pub with_about : (found : Result Object NfsStatus) (answer : Object → Reply) → ((o : Object) → found ≡ Ok o → P (answer o)) → P (about found with answer)
  with_about (Err fault) answer h = refused fault
  with_about (Ok o) answer h = h o refl

-- whatever the tail
module _ (P : Reply → Type 0) (refused : (fault : NfsStatus) (with : Tail) → P (reply.Refused fault with)) where
  pub of_unless : (checks : List Check) (with : Tail) (r : Reply) → (Pass checks → P r) → P (unless checks with r)
  of_unless checks with r h = with_unless P with (λ fault. refused fault with) checks r h

  pub of_about : (found : Result Object NfsStatus) (none : Tail) (answer : Object → Reply) → ((o : Object) → found ≡ Ok o → P (answer o)) → P (about found none answer)
  of_about found none answer h = with_about P none (λ fault. refused fault none) found answer h

-- likewise of plans
module _ (P : Plan → Type 0) (with : Tail) (refused : (fault : NfsStatus) → P (Refuse (reply.Refused fault with))) where
  plan_check : (b : Bool) (fault : NfsStatus) (checks : List Check) (p : Plan)
      → ((b ≡ false) × Pass checks → P p) → ((Pass checks → P p) → P (plan_unless checks with p)) → P (plan_unless ((b, fault) ∷ checks) with p)
  plan_check true fault checks p h again = refused fault
  plan_check false fault checks p h again = again (λ rest. h (refl, rest))

  pub with_plan_unless : (checks : List Check) (p : Plan) → (Pass checks → P p) → P (plan_unless checks with p)
  with_plan_unless [] p h = h tt
  with_plan_unless (c ∷ checks) p h = plan_check c.0 c.1 checks p h (λ g. with_plan_unless checks p g)

  pub with_plan_about : (found : Result Object NfsStatus) (plan : Object → Plan) → ((o : Object) → found ≡ Ok o → P (plan o)) → P (plan_about found with plan)
  with_plan_about (Err fault) plan h = refused fault
  with_plan_about (Ok o) plan h = h o refl

module _ (P : Plan → Type 0) (refused : (fault : NfsStatus) (with : Tail) → P (Refuse (reply.Refused fault with))) where
  pub of_plan_unless : (checks : List Check) (with : Tail) (p : Plan) → (Pass checks → P p) → P (plan_unless checks with p)
  of_plan_unless checks with p h = with_plan_unless P with (λ fault. refused fault with) checks p h

  pub of_plan_about : (found : Result Object NfsStatus) (none : Tail) (plan : Object → Plan) → ((o : Object) → found ≡ Ok o → P (plan o)) → P (plan_about found none plan)
  of_plan_about found none plan h = with_plan_about P none (λ fault. refused fault none) found plan h

-- after a test
module _ (P : Plan → Type 0) where
  pub of_plan_if : (b : Bool) (p q : Plan) → (b ≡ true → P p) → (b ≡ false → P q) → P (cond b p q)
  of_plan_if true p q h g = h refl
  of_plan_if false p q h g = g refl

-- ---- the object of a handle

passed_test : (b : Bool) (fault : NfsStatus) (r : Result Object NfsStatus) (o : Object) → cond b (Err fault) r ≡ Ok o → (b ≡ false) × (r ≡ Ok o)
passed_test true fault r o e = cc
passed_test false fault r o e = (refl, e)

-- its number has 20 bytes, and its inode is the one that the number has
pub record IsObject (t : Tree) (o : Object) : Type 0 where
  pub number : length o.number.0 ≡ 20
  pub inode : inode_at t o.number ≡ Some o.inode

pub is_object : (t : Tree) (view : View) (handle : List ℕ) (o : Object) → object_of t view handle ≡ Ok o → IsObject t o
is_object t view handle o e =
    let tagged = passed_test (not (length handle == 44 && same_bytes (take 4 handle) handle_tag)) BadHandle _ o e in
    let here = passed_test (not (same_bytes (take 20 (drop 4 handle)) (view_name view).0)) Stale _ o tagged.1 in
    let at = object_at t (record { 0 = drop 24 handle }) o here.1 in
    let long = eqb-true (length handle) 44 (both_true _ _ (not_false (length handle == 44 && same_bytes (take 4 handle) handle_tag) tagged.0)).0 in
    record {
      number = omega (arith, ap (λ (n : Key). length n.0) at.number_is, long, length-drop 24 handle);
      inode = ap (λ (n : Key). inode_at t n) at.number_is ∙ at.inode_is;
    }
