-- The object that a handle of the view leads to.
use Rattle.std.proofs.Common.{◌≡◌, ℕ, Bool, true, false, not, ◌&&◌, List, [], ◌∷◌, ◌++◌, length, take, drop, Option, Some, None, Result, Ok, Err, refl, sym, ap, ◌∙◌, arith, length-append}
use Rattle.std.specs.Prelude.{◌==◌, if◌then◌else◌}
use Rattle.std.specs.Option.{option_map_or}
use Rattle.std.proofs.Math.Seq.{take-append_seam, drop-append_seam}
use Rattle.std.proofs.lemmas.Bool.{eq-eqb}
use Rattle.ivy_base.specs.declared.key.Key.{Key}
use Rattle.tree_model.specs.Tree.{Tree, Inode, inode_at, is_live}
use Rattle.log_model.specs.View.{View, view_name}
use Rattle.nfs_model.specs.declared.replies.NfsStatus.{NfsStatus}
use Rattle.nfs_model.specs.declared.replies.NfsStatus.TheVariants.{BadHandle, Stale}
use Rattle.nfs_model.specs.Checks.{same_bytes}
use Rattle.nfs_model.specs.Objects.{Object, handle_of, handle_tag, object_of, live_object}
use Rattle.nfs_model.proofs.NameChecks.{same_bytes_itself}

-- the definition with the view's name as a variable
opened : Tree → List ℕ → List ℕ → Result Object NfsStatus
opened t view handle =
    if not (length handle == 44 && same_bytes (take 4 handle) handle_tag) then Err BadHandle
    else if not (same_bytes (take 20 (drop 4 handle)) view) then Err Stale
    else live_object t (record { 0 = drop 24 handle })

by_tests : (a b c : Bool) (x y z : Result Object NfsStatus) → a ≡ true → b ≡ true → c ≡ true → (if not (a && b) then x else if not c then y else z) ≡ z
by_tests a b c x y z p q r = rw (p, q, r) refl

front_is : (v n : List ℕ) → length v ≡ 20 → take 20 (v ++ n) ≡ v
front_is v n e = ap (λ (k : ℕ). take k (v ++ n)) (sym e) ∙ take-append_seam v n

rest_is : (v n : List ℕ) → length v ≡ 20 → drop 20 (v ++ n) ≡ n
rest_is v n e = ap (λ (k : ℕ). drop k (v ++ n)) (sym e) ∙ drop-append_seam v n

length_is : (v n : List ℕ) → length v ≡ 20 → length n ≡ 20 → length (handle_tag ++ v ++ n) ≡ 44
length_is v n d e = omega (arith, length-append v n)

opened_handle : (t : Tree) (v n : List ℕ) → length v ≡ 20 → length n ≡ 20 → opened t v (handle_tag ++ v ++ n) ≡ live_object t (record { 0 = n })
unfolding opened
opened_handle t v n d e =
    let h : List ℕ = handle_tag ++ v ++ n in
    by_tests (length h == 44) (same_bytes (take 4 h) handle_tag) (same_bytes (take 20 (drop 4 h)) v) _ _ _
    (eq-eqb (length h) 44 (length_is v n d e)) refl (ap (λ (front : List ℕ). same_bytes front v) (front_is v n d) ∙ same_bytes_itself v)
    ∙ ap (λ (rest : List ℕ). live_object t (record { 0 = rest })) (rest_is v n d)

-- a handle that the view gives leads to the object of its number
pub object_of_handle : (t : Tree) (view : View) (number : Key) → length (view_name view).0 ≡ 20 → length number.0 ≡ 20 → object_of t view (handle_of view number) ≡ live_object t number
unfolding opened
object_of_handle t view number d e = opened_handle t (view_name view).0 number.0 d e

-- ---- the object of a number

abbrev object_with : Key → Inode → Object
object_with number i = record { number = number; inode = i }

pub not_live : (t : Tree) (number : Key) → is_live t number ≡ false → live_object t number ≡ Err Stale
not_live t number h = ap (λ (b : Bool). if b then option_map_or (λ i. Ok (object_with number i)) (inode_at t number) (Err Stale) else Err Stale) h

-- what is known of a number that leads to an object
pub record IsObjectAt (t : Tree) (number : Key) (o : Object) : Type 0 where
  pub live : is_live t number ≡ true
  pub number_is : o.number ≡ number
  pub inode_is : inode_at t number ≡ Some o.inode

object_parts : (number : Key) (b : Bool) (i : Option Inode) (o : Object)
    → (if b then option_map_or (λ i. Ok (object_with number i)) i (Err Stale) else Err Stale) ≡ Ok o
    → (b ≡ true) × (o.number ≡ number) × (i ≡ Some o.inode)
object_parts number false i o e = cc
object_parts number true None o e = cc
object_parts number true (Some i) o e = let d : object_with number i ≡ o = cc in (refl, ap (λ (p : Object). p.number) (sym d), ap (λ (p : Object). Some p.inode) d)

pub object_at : (t : Tree) (number : Key) (o : Object) → live_object t number ≡ Ok o → IsObjectAt t number o
object_at t number o e = let p = object_parts number (is_live t number) (inode_at t number) o e in record { live = p.0; number_is = p.1; inode_is = p.2 }

pub live_object_is : (t : Tree) (number : Key) (i : Inode) → is_live t number ≡ true → inode_at t number ≡ Some i → live_object t number ≡ Ok (record { number = number; inode = i })
live_object_is t number i live there =
    ap (λ (b : Bool). if b then option_map_or (λ i. Ok (object_with number i)) (inode_at t number) (Err Stale) else Err Stale) live
    ∙ ap (λ (found : Option Inode). option_map_or (λ i. Ok (object_with number i)) found (Err Stale)) there

stale_in : (number : Key) (b : Bool) (i : Option Inode) (fault : NfsStatus)
    → (if b then option_map_or (λ i. Ok (object_with number i)) i (Err Stale) else Err Stale) ≡ Err fault → fault ≡ Stale
stale_in number false i fault e = cc
stale_in number true None fault e = cc
stale_in number true (Some i) fault e = cc

-- a number that leads to no object is stale, and nothing else
pub only_stale : (t : Tree) (number : Key) (fault : NfsStatus) → live_object t number ≡ Err fault → fault ≡ Stale
only_stale t number fault e = stale_in number (is_live t number) (inode_at t number) fault e
