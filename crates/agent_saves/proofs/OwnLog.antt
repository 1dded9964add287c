-- What is tested of the parts, once the public key is known.
use Rattle.std.proofs.Common.{◌≡◌, Bool, true, false, List, [], ◌∷◌, Contains, refl, sym, ap, ◌∙◌, subst}
use Rattle.std.specs.Prelude.{IsTrue}
use Rattle.std.specs.Cmp.{tied_itself}
use Rattle.std.specs.Cmp.Lexicographic.{nat_list_cmp_total}
use Rattle.std.specs.List.{AllByRecursion, list_all, list_any}
use Rattle.std.specs.Ordering.{eq_by_cmp, is_eq}
use Rattle.ivy_base.specs.declared.key.PubKey.{PubKey}
use Rattle.ivy_base.specs.Naming.{owner_cmp}
use Rattle.log_model.specs.View.{View, is_named}
use Rattle.log_model.specs.Vector.{Vector}
use Rattle.log_model.proofs.Lists.{some_passes, who_passes, both}
use Rattle.log_model.proofs.Opening.{same_owner}
use Rattle.tree_model.proofs.Sound.{both_true}
use Rattle.version_vectors.specs.declared.entry.Entry.{Entry}
use Rattle.version_vectors.specs.Entries.{vector_of}

-- ---- members

has_member : (keys : List PubKey) (owner : PubKey) → list_any (eq_by_cmp owner_cmp owner) keys ≡ true → Contains keys owner
has_member keys owner h = let w = who_passes (eq_by_cmp owner_cmp owner) keys h in subst (λ (o : PubKey). Contains keys o) (same_owner owner w.0 w.2) w.1

member_passes : (keys : List PubKey) (owner : PubKey) → Contains keys owner → list_any (eq_by_cmp owner_cmp owner) keys ≡ true
member_passes keys owner h = some_passes (eq_by_cmp owner_cmp owner) keys owner h (ap is_eq (tied_itself nat_list_cmp_total owner.0))

-- ---- logs

each_named : (view : View) (entries : List Entry) → list_all (λ e. is_named view e.log) entries ≡ true → AllByRecursion (λ e. IsTrue (is_named view e.0)) (vector_of entries)
each_named view [] h = tt
each_named view (e ∷ entries) h =
    let p = both_true (is_named view e.log) (list_all (λ x. is_named view x.log) entries) h in
    (p.0, each_named view entries p.1)

all_pass : (view : View) (entries : List Entry) → AllByRecursion (λ e. IsTrue (is_named view e.0)) (vector_of entries) → list_all (λ e. is_named view e.log) entries ≡ true
all_pass view [] h = refl
all_pass view (e ∷ entries) h = both (is_named view e.log) (list_all (λ x. is_named view x.log) entries) h.0 (all_pass view entries h.1)

-- ---- both

abbrev pub Stands : PubKey → Vector → View → Type 0
Stands owner floor v = Contains v.members owner × AllByRecursion (λ e. IsTrue (is_named v e.0)) floor

module _ (view : View) (owner : PubKey) (floor : Vector) (members : List PubKey) (members_are : members ≡ view.members) (among : Bool) (among_is : among ≡ list_any (eq_by_cmp owner_cmp owner) members) where
  is_member : among ≡ true → Contains view.members owner
  is_member h = subst (λ (keys : List PubKey). Contains keys owner) members_are (has_member members owner (sym among_is ∙ h))

  pub no_member : among ≡ false → (IsTrue among → Stands owner floor view) × (Stands owner floor view → IsTrue among)
  no_member h = (λ t. absurd (cc (t, h)), λ s. among_is ∙ member_passes members owner (subst (λ (keys : List PubKey). Contains keys owner) (sym members_are) s.0))

  pub named_or_not : (entries : List Entry) → vector_of entries ≡ floor → (named : Bool) → named ≡ list_all (λ e. is_named view e.log) entries → among ≡ true
      → (IsTrue named → Stands owner floor view) × (Stands owner floor view → IsTrue named)
  named_or_not entries entries_are named named_is h = (
    λ t. (is_member h, subst (AllByRecursion (λ e. IsTrue (is_named view e.0))) entries_are (each_named view entries (sym named_is ∙ t))),
    λ s. named_is ∙ all_pass view entries (subst (AllByRecursion (λ e. IsTrue (is_named view e.0))) (sym entries_are) s.1),
  )
