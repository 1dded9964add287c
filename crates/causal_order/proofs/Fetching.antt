-- A chain that a batch took is one that a closed part may be taken of.
use Rattle.std.proofs.Common.{◌≡◌, ℕ, ◌+◌, ◌≤◌, List, [], ◌∷◌, ◌++◌, refl, arith, Option, Some, None, Contains}
use Rattle.log_model.specs.View.{View}
use Rattle.log_model.specs.Vector.{Vector, Stamp, reach}
use Rattle.log_model.specs.Record.{Record}
use Rattle.log_model.specs.Fetched.{Edge, owner_of, stamp_in, EndsAtStamp, IsSound, GoesOnFrom}
use Rattle.causal_order.specs.Available.{IsLinked, BeginsBy, IsFetched, held_to}

module _ (view : View) (n : ℕ) (edge : Option Edge) where
  linked : (o : Option Stamp) (chain : List Record) (head : Stamp) → GoesOnFrom view o edge chain → EndsAtStamp head chain → ((s : Stamp) → o ≡ Some s → 1 ≤ s.seq) → IsLinked view chain
  linked o [] head g e some = absurd (empty e.0 e.1 e.2)
    where
      empty : (before : List Record) (last : Record) → [] ≡ before ++ last ∷ [] → ⊥
      empty [] last h = cc
      empty (y ∷ before) last h = cc
  linked None (r ∷ rs) head g e some = (g.0, λ one. g.1, g.3)
  linked (Some s) (r ∷ rs) head g e some = (g.0, λ one. absurd (let low = some s refl in let next : r.seq ≡ s.seq + 1 = g.1 in omega (arith, one, low, next)), g.3)

  begins : (o : Option Stamp) (chain : List Record) → GoesOnFrom view o edge chain → reach o ≤ n → BeginsBy n chain
  begins o [] g le = tt
  begins None (r ∷ rs) g le = let one : r.seq ≡ 1 = g.1.seq in omega (arith, one)
  begins (Some s) (r ∷ rs) g le = let next : r.seq ≡ s.seq + 1 = g.1 in omega (arith, next, le)

-- where the batch was made over no more than is held
pub sound_is_fetched : (view : View) (front : Vector) (held : List Record) (started : Vector) (edge : Option Edge) (head : Stamp) (chain : List Record)
    → Contains view.members (owner_of chain) → reach (stamp_in started chain) ≤ held_to front held (owner_of chain)
    → ((s : Stamp) → stamp_in started chain ≡ Some s → 1 ≤ s.seq)
    → IsSound view started edge head chain → IsFetched view front held chain
sound_is_fetched view front held started edge head chain member near some sound = record {
  member = member;
  linked = linked view (held_to front held (owner_of chain)) edge (stamp_in started chain) chain head sound.goes_on sound.ends some;
  near = begins view (held_to front held (owner_of chain)) edge (stamp_in started chain) chain sound.goes_on near;
}
