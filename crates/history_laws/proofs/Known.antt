-- An agent that has just opened its log and entered a view knows its first record.
use Rattle.std.proofs.Common.{◌≡◌, Bool, true, false, cond, [], ◌∷◌, Some, None, refl, sym, ap, ◌∙◌, inl, Contains}
use Rattle.std.specs.Ordering.{eq_by_cmp}
use Rattle.ivy_base.specs.declared.key.PubKey.{PubKey}
use Rattle.ivy_base.specs.declared.operation.Moment.{Moment}
use Rattle.ivy_base.specs.Naming.{head_key_of, key_cmp, owner_cmp}
use Rattle.tree_model.proofs.Keys.{same_key_is, same_key_itself}
use Rattle.log_model.specs.Chain.{opening}
use Rattle.log_model.specs.Rank.{own_entry}
use Rattle.log_model.specs.Record.{Record}
use Rattle.log_model.specs.Spelling.{IsMoment}
use Rattle.log_model.specs.Vector.{reach, seq_of}
use Rattle.log_model.specs.View.{View, IsView}
use Rattle.log_model.proofs.Opening.{opening_is_closed, same_owner}
use Rattle.log_model.proofs.Owners.{owner_itself}
use Rattle.turn_model.specs.Basis.{Knows, nothing_held}
use Rattle.turn_model.specs.Known.{EndsAt}
use Rattle.turn_laws.proofs.Heads.{one_member}

module _ (view : View) (own : PubKey) (now : Moment) (well : IsView view) (member : Contains view.members own) where
  abbrev first : Record
  first = opening own now

  -- of each member's log the floor names what is known of it
  ends_by : (owner : PubKey) → Contains view.members owner → (is_log is_own : Bool) → eq_by_cmp key_cmp (head_key_of owner) (head_key_of own) ≡ is_log → eq_by_cmp owner_cmp owner own ≡ is_own
      → EndsAt (cond is_log (Some (own_entry first).1) None) (cond is_own (first ∷ []) [])
  ends_by owner its true true log is = ([], first, refl, refl)
  ends_by owner its false false log is = refl
  ends_by owner its true false log is =
      let one : owner ≡ own = one_member view owner own well its member (same_key_is (head_key_of owner) (head_key_of own) log) in
      absurd (cc (sym (owner_itself own) ∙ ap (λ (o : PubKey). eq_by_cmp owner_cmp o own) (sym one) ∙ is))
  ends_by owner its false true log is =
      absurd (cc (sym (same_key_itself (head_key_of owner)) ∙ ap (λ (o : PubKey). eq_by_cmp key_cmp (head_key_of owner) (head_key_of o)) (sym (same_owner owner own is)) ∙ log))

  pub knows_first : IsMoment now → Knows view (own_entry first ∷ []) nothing_held (first ∷ [])
  knows_first fits = let closed = opening_is_closed view own now fits member in record {
    by_floor = record {
      ascending = closed.ascending;
      members = closed.members;
      chains = closed.chains;
      ends = λ owner its. ends_by owner its (eq_by_cmp key_cmp (head_key_of owner) (head_key_of own)) (eq_by_cmp owner_cmp owner own) refl refl;
    };
    closed = closed;
    holds = inl refl;
  }

pub reaches_first : (own : PubKey) (now : Moment) → seq_of (own_entry (opening own now) ∷ []) (head_key_of own) ≡ 1
reaches_first own now = ap (λ (b : Bool). reach (cond b (Some (own_entry (opening own now)).1) None)) (same_key_itself (head_key_of own))
