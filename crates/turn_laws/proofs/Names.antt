-- Chains by the names of their records: where no names collide, a chain that has another one's last record has all of it.
use Rattle.std.proofs.Common.{◌≡◌, ◌⊎◌, inl, inr, ⊎_elim, ℕ, List, [], ◌∷◌, ◌++◌, Some, refl, sym, ap, ◌∙◌, subst, Contains}
use Rattle.std.proofs.lemmas.List.Elements.{Contains-append_left, Contains-append_right}
use Rattle.ivy_base.specs.declared.key.PubKey.{PubKey}
use Rattle.ivy_base.specs.Naming.{IsCollisionFree}
use Rattle.log_model.specs.View.{View}
use Rattle.log_model.specs.Vector.{Stamp}
use Rattle.log_model.specs.Record.{Record}
use Rattle.log_model.specs.Rank.{own_entry}
use Rattle.log_model.specs.Chain.{IsGood, IsChain}
use Rattle.log_model.specs.Standing.{StandsAmong, Stand}
use Rattle.log_model.proofs.Lists.{here, each_left}
use Rattle.log_model.proofs.Part.{chain_front}
use Rattle.log_model.specs.Fetched.{HasRecord}
use Rattle.log_records.proofs.Batches.{passes_through}
use Rattle.log_records.proofs.OneRecord.{one_among}
use Rattle.turn_model.specs.Known.{EndsAt}
use Rattle.turn_model.specs.Turn.{IsPrefixOf}
use Rattle.turn_laws.proofs.OneChain.{one_chain}

-- a list is empty, or ends at a record
pub ends_some : (xs : List Record) → (xs ≡ []) ⊎ ((t : Stamp) × EndsAt (Some t) xs)
ends_some [] = inl refl
ends_some (x ∷ xs) = ⊎_elim
    (λ none. inr ((own_entry x).1, ([], x, ap (λ (l : List Record). x ∷ l) none, refl)))
    (λ w. inr (w.0, (x ∷ w.1.0, w.1.1, ap (λ (l : List Record). x ∷ l) w.1.2, w.1.3)))
    (ends_some xs)

-- it has the record that it ends at
pub has_end : (t : Stamp) (xs : List Record) → EndsAt (Some t) xs → HasRecord t xs
has_end t xs e = (e.1, subst (λ (l : List Record). Contains l e.1) (sym e.2) (Contains-append_right e.0 (e.1 ∷ []) e.1 (here e.1 [])), e.3)

pub prefix_has : (xs ys : List Record) → IsPrefixOf xs ys → (r : Record) → Contains xs r → Contains ys r
prefix_has xs ys p r c = subst (λ (l : List Record). Contains l r) p.1 (Contains-append_left xs p.0 r c)

module _ (blocks : List (List ℕ)) (apart : IsCollisionFree blocks) (view : View) (owner : PubKey) where
  pub one_of_name : (p q : Record) → IsGood view owner p → IsGood view owner q → StandsAmong blocks p → StandsAmong blocks q → p.name ≡ q.name → p ≡ q
  one_of_name p q good_p good_q in_p in_q e = one_among owner blocks apart p q good_p.owned good_q.owned good_p.spelled good_q.spelled in_p in_q e

  pub prefix_to : (t : Stamp) (xs ys : List Record) → IsChain view owner xs → IsChain view owner ys → Stand blocks xs → Stand blocks ys → EndsAt (Some t) xs → HasRecord t ys → IsPrefixOf xs ys
  prefix_to t xs ys cx cy sx sy ends has =
      let w = passes_through t ys has in
      let chain = chain_front view owner w.0 w.1 (subst (λ (l : List Record). IsChain view owner l) w.2 cy) in
      let stand = each_left (StandsAmong blocks) w.0 w.1 (subst (λ (l : List Record). Stand blocks l) w.2 sy) in
      let same : xs ≡ w.0 = one_chain (record { blocks = blocks; view = view; floor = [] }) apart owner t xs w.0
      (record { chain_of_log = cx; stand = sx; ends = ends; passes = tt })
      (record { chain_of_log = chain; stand = stand; ends = w.3; passes = tt }) in
      (w.1, ap (λ (l : List Record). l ++ w.1) same ∙ sym w.2)

  pub prefix_within : (xs ys : List Record) → IsChain view owner xs → IsChain view owner ys → Stand blocks xs → Stand blocks ys → ((r : Record) → Contains xs r → Contains ys r) → IsPrefixOf xs ys
  prefix_within xs ys cx cy sx sy within = ⊎_elim
      (λ none. (ys, ap (λ (l : List Record). l ++ ys) none))
      (λ e. let h = has_end e.0 xs e.1 in prefix_to e.0 xs ys cx cy sx sy e.1 (h.0, within h.0 h.1, h.2))
      (ends_some xs)
