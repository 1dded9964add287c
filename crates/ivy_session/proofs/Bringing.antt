-- What is kept of what a get brought; and what failed brought a miss last.
use Rattle.std.proofs.Common.{◌≡◌, ℕ, List, [], ◌∷◌, ◌++◌, Option, Some, None, Ok, Err, refl, sym, ap, ◌∙◌, subst}
use Rattle.ivy_base.specs.declared.key.Key.{Key}
use Rattle.dht_ids.specs.declared.judge.Judged.{Judged}
use Rattle.dhash_model.specs.declared.miss.Miss.{Miss}
use Rattle.agent_model.specs.Standing.{Standing}
use Rattle.session_model.specs.Brought.{Brought, BlockOf, HeadsOf, Part, brought_in}
use Rattle.session_model.specs.Refreshing.{FailsBy}
use Rattle.session_model.specs.Sessions.{Cache, keeping}
use Rattle.session_laws.specs.Going.{IsMissed}
use Rattle.session_laws.proofs.Missing.{fails_by_the_last}
use Rattle.log_fetch.specs.Fetching.{block_in}
use Rattle.view_refresh.specs.Steps.{Stands}
use Rattle.view_refresh.proofs.Bringing.{brought_more}

-- ---- what is kept of what a get brought

pub none_kept : (brought : Brought) (cache : Cache) (judged : Key → List ℕ → Option Judged) (r : ℕ) → block_in brought ≡ None → keeping judged r brought cache ≡ cache
none_kept (HeadsOf owner came) cache judged r e = refl
none_kept (BlockOf key (Ok bytes)) cache judged r e = cc e
none_kept (BlockOf key (Err miss)) cache judged r e = refl

same_pair : (a b : Key × List ℕ) → Some a ≡ Some b → a ≡ b
same_pair a b e = cc e

pub one_kept : (brought : Brought) (key : Key) (bytes : List ℕ) → block_in brought ≡ Some (key, bytes) → brought ≡ BlockOf key (Ok bytes)
one_kept (HeadsOf owner came) key bytes e = cc e
one_kept (BlockOf other (Ok given)) key bytes e = ap (λ (x : Key × List ℕ). BlockOf x.0 (Ok x.1)) (same_pair (other, given) (key, bytes) e)
one_kept (BlockOf other (Err miss)) key bytes e = cc e

-- ---- what failed

nil_or_more : {X : Type 0} (xs : List X) (x : X) → [] ≡ xs ++ x ∷ [] → ⊥
nil_or_more [] x e = cc e
nil_or_more (y ∷ ys) x e = cc e

same_first : {X : Type 0} (x y : X) (xs ys : List X) → x ∷ xs ≡ y ∷ ys → x ≡ y
same_first x y xs ys e = cc e

same_rest : {X : Type 0} (x y : X) (xs ys : List X) → x ∷ xs ≡ y ∷ ys → xs ≡ ys
same_rest x y xs ys e = cc e

same_last : {X : Type 0} (xs ys : List X) (x y : X) → xs ++ x ∷ [] ≡ ys ++ y ∷ [] → x ≡ y
same_last [] [] x y e = same_first x y [] [] e
same_last [] (b ∷ ys) x y e = absurd (nil_or_more ys y (same_rest x b [] (ys ++ y ∷ []) e))
same_last (a ∷ xs) [] x y e = absurd (nil_or_more xs x (sym (same_rest a y (xs ++ x ∷ []) [] e)))
same_last (a ∷ xs) (b ∷ ys) x y e = same_last xs ys x y (same_rest a b (xs ++ x ∷ []) (ys ++ y ∷ []) e)

-- a block that came right wasn't missed
pub not_missed : (s : Standing) (parts : List Part) (p : Part) (miss : Miss) (key : Key) (bytes : List ℕ) → p.brought ≡ BlockOf key (Ok bytes) → Stands s (parts ++ p ∷ []) (FailsBy miss) → ⊥
not_missed s parts p miss key bytes right failed =
    let m = fails_by_the_last s (brought_in (parts ++ p ∷ [])) failed.notes failed.given miss failed.refreshes in
    let last : m.1 ≡ BlockOf key (Ok bytes) = same_last m.0 (brought_in parts) m.1 p.brought (sym m.2 ∙ brought_more parts p) ∙ right in
    subst (IsMissed miss) last m.3
