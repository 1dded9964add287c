-- What a turn takes is verified, and of the own log it has just what was known.
use Rattle.std.proofs.Common.{◌≡◌, ◌⊎◌, inl, inr, ⊎_elim, ℕ, ◌+◌, Bool, List, [], ◌∷◌, sym, ap, ◌∙◌, subst, Contains}
use Rattle.std.specs.Ordering.{eq_by_cmp}
use Rattle.ivy_base.specs.declared.key.PubKey.{PubKey}
use Rattle.ivy_base.specs.Naming.{head_key_of, owner_cmp}
use Rattle.log_model.specs.View.{View}
use Rattle.log_model.specs.Vector.{Entry}
use Rattle.log_model.specs.Record.{Record}
use Rattle.log_model.specs.Spelling.{no_name}
use Rattle.log_model.specs.Rank.{front}
use Rattle.log_model.specs.Chain.{IsGood, GoesOn, IsChain, LinkedFrom}
use Rattle.log_model.specs.Closed.{log_of, IsAscending}
use Rattle.log_model.proofs.Lists.{each, each_from, in_filter, from_filter}
use Rattle.log_model.proofs.Opening.{same_owner}
use Rattle.log_model.proofs.Part.{chain_good}
use Rattle.log_model.proofs.Sets.{same_list, filter_ascends}
use Rattle.turn_model.specs.Known.{IsBacked}
use Rattle.turn_model.specs.Turn.{Candidate, IsAvailable}
use Rattle.turn_model.specs.Candidates.{AreCandidates, Evidence, IsCandidate}
use Rattle.turn_laws.specs.Verified.{WereReceived, by_front, TakenIsVerified, OwnLogIsKnown}
use Rattle.turn_laws.proofs.OneCandidate.{IsNewest, IsOne, cases_of}

-- ---- a chain is linked by name

linked_after : (view : View) (owner : PubKey) (p : Record) (rs : List Record) → GoesOn view owner p rs → LinkedFrom owner (p.seq + 1) p.name rs
linked_after view owner p [] g = tt
linked_after view owner p (r ∷ rs) g =
    (g.0.owned, g.0.spelled, g.1.seq, g.1.prev, subst (λ (n : ℕ). LinkedFrom owner (n + 1) r.name rs) g.1.seq (linked_after view owner r rs g.2))

linked_chain : (view : View) (owner : PubKey) (chain : List Record) → IsChain view owner chain → LinkedFrom owner 1 no_name chain
linked_chain view owner [] c = tt
linked_chain view owner (r ∷ rs) c =
    (c.0.owned, c.0.spelled, c.1.seq, c.1.prev, subst (λ (n : ℕ). LinkedFrom owner (n + 1) r.name rs) c.1.seq (linked_after view owner r rs c.2))

module _ (e : Evidence) where
  -- a candidate's record is known, or of the chain of a head of another member's log
  abbrev pub IsNew : PubKey → List Record → Record → Type 0
  IsNew owner chain r = (r.owner ≡ owner) × (owner ≡ e.own → ⊥) × IsNewest (by_front e) owner chain

  in_log : (owner : PubKey) (chain : List Record) (r : Record) → chain ≡ log_of owner e.known → Contains chain r → Contains e.known r
  in_log owner chain r same c = (from_filter (λ (x : Record). eq_by_cmp owner_cmp owner x.owner) e.known r (subst (λ (l : List Record). Contains l r) same c)).0

  of_candidate : (owner : PubKey) (chain : List Record) (r : Record) → IsOne (by_front e) owner chain → Contains chain r → Contains e.known r ⊎ IsNew owner chain r
  of_candidate owner chain r (inl a) c = inl (in_log owner chain r a.1 c)
  of_candidate owner chain r (inr (apart, inl n)) c = inr ((each (IsGood e.view owner) chain r (chain_good e.view owner chain n.2.chain_of_log) c).owned, apart, n)
  of_candidate owner chain r (inr (apart, inr k)) c = inl (in_log owner chain r k.1 c)

  -- so is each available record
  pub of_hand : (candidates : List Candidate) → AreCandidates (by_front e) candidates → (r : Record) → IsAvailable e.known candidates r
      → Contains e.known r ⊎ ((c : Candidate) × Contains c.chain r × IsNew c.owner c.chain r)
  of_hand candidates are r (inl k) = inl k
  of_hand candidates are r (inr (c, within, goes_on, in_chain)) =
      let one = cases_of (by_front e) c.owner c.chain (each (λ (d : Candidate). IsCandidate (by_front e) d.owner d.chain) candidates c are.each within) in
      ⊎_elim (λ k. inl k) (λ n. inr (c, in_chain, n)) (of_candidate c.owner c.chain r one in_chain)

  new_is_backed : (received : List Entry) → WereReceived e.heads received → (owner : PubKey) (chain : List Record) (r : Record) → IsNew owner chain r → Contains chain r
      → IsBacked e.blocks e.own (front e.known) received r
  new_is_backed received were owner chain r n c = inr (
    λ mine. n.1 (sym n.0 ∙ mine),
    record {
      head = (head_key_of owner, n.2.0);
      received = were (head_key_of owner) n.2.0 n.2.1.0;
      log = chain;
      linked = subst (λ (o : PubKey). LinkedFrom o 1 no_name chain) (sym n.0) (linked_chain e.view owner chain n.2.2.chain_of_log);
      stand = n.2.2.stand;
      of_log = ap head_key_of (sym n.0);
      ends = n.2.2.ends;
      below = c;
    },
  )

pub taken_is_verified : TakenIsVerified
taken_is_verified e candidates received taken are were closed backed part = record {
  chains = part.closed.chains;
  backed = each_from (IsBacked e.blocks e.own (front e.known) received) taken (λ r within. ⊎_elim
      (λ k. each (IsBacked e.blocks e.own (front e.known) received) e.known r backed k)
      (λ n. new_is_backed e received were n.0.owner n.0.chain r n.2 n.1)
      (of_hand e candidates are r (part.part r within)));
}

-- ---- of the own log

module _ (own : PubKey) (known taken : List Record) where
  abbrev is_owned : Record → Bool
  is_owned r = eq_by_cmp owner_cmp own r.owner

  in_both : (s t : List Record) → ((r : Record) → Contains s r → own ≡ r.owner → Contains t r) → (r : Record) → Contains (log_of own s) r → Contains (log_of own t) r
  in_both s t to r c = let w = from_filter is_owned s r c in in_filter is_owned t r (to r w.0 (sym (same_owner own r.owner w.1))) w.1

  one_log : IsAscending known → IsAscending taken → ((r : Record) → Contains taken r → own ≡ r.owner → Contains known r) → ((r : Record) → Contains known r → Contains taken r)
      → log_of own taken ≡ log_of own known
  one_log up_known up_taken back kept =
      same_list (log_of own taken) (log_of own known) (filter_ascends is_owned taken up_taken) (filter_ascends is_owned known up_known)
      (in_both taken known back) (in_both known taken (λ r c e. kept r c))

pub own_log_is_known : OwnLogIsKnown
own_log_is_known e candidates taken are closed part =
    one_log e.own e.known taken closed.ascending part.closed.ascending
    (λ r c mine. ⊎_elim (λ k. k) (λ n. absurd (n.2.1 (sym n.2.0 ∙ sym mine))) (of_hand e candidates are r (part.part r c)))
    (part.largest e.known (λ r k. inl k) closed)
