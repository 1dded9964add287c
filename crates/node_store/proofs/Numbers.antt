-- A head that can't have a number so great makes no put an older one.
use Rattle.std.proofs.Common.{◌≡◌, ℕ, ◌<◌, List, Bool, false, Option, Some, None, option_and_then, option_map, refl, sym, ap, subst}
use Rattle.std.specs.Prelude.{nat_le, if◌then◌else◌}
use Rattle.std.proofs.lemmas.Bool.{lt-leb}
use Rattle.dht_ids.specs.declared.ask.StoreFault.{StoreFault}
use Rattle.dht_ids.specs.declared.ask.StoreFault.TheVariants.{Older}
use Rattle.dht_ids.specs.declared.judge.Judged.{Judged}
use Rattle.dhash_model.specs.declared.kind.BlockKind.{BlockKind}
use Rattle.dhash_model.specs.declared.kind.BlockKind.TheVariants.{Content, Head}
use Rattle.dhash_model.specs.Stores.{Block, number_of, older}
use Rattle.node_store.specs.Numbers.{IsBelow}

-- a lower number is no older one
pub not_older : (held : Option ℕ) (new : Judged) → IsBelow new.seq held → None ≡ older held (Some new)
not_older None new below = refl
not_older (Some seq) new below = ap (λ (b : Bool). if b then Some (Older seq) else None) (sym (lt-leb new.seq seq below))

-- what the judge would say of a block
below_if : (judges : List ℕ → Option Judged) (bytes : List ℕ) (seq : ℕ) → ((judged : Judged) → judges bytes ≡ Some judged → judged.seq < seq) → (o : Option Judged) → judges bytes ≡ o → IsBelow seq (option_map (λ j. j.seq) o)
below_if judges bytes seq below None is = tt
below_if judges bytes seq below (Some judged) is = below judged is

number_below : (judges : List ℕ → Option Judged) (kind : BlockKind) (bytes : List ℕ) (seq : ℕ) → ((judged : Judged) → judges bytes ≡ Some judged → judged.seq < seq) → IsBelow seq (number_of judges (record { kind = kind; bytes = bytes }))
number_below judges Content bytes seq below = tt
number_below judges Head bytes seq below = below_if judges bytes seq below (judges bytes) refl

-- and of what is held
pub held_below : (judges : List ℕ → Option Judged) (held : Option Block) (block : Block) (seq : ℕ) → held ≡ Some block → ((judged : Judged) → judges block.bytes ≡ Some judged → judged.seq < seq) → IsBelow seq (option_and_then (number_of judges) held)
held_below judges held block seq is below = subst (λ (h : Option Block). IsBelow seq (option_and_then (number_of judges) h)) (sym is) (number_below judges block.kind block.bytes seq below)

pub none_below : (judges : List ℕ → Option Judged) (held : Option Block) (seq : ℕ) → held ≡ None → IsBelow seq (option_and_then (number_of judges) held)
none_below judges held seq is = subst (λ (h : Option Block). IsBelow seq (option_and_then (number_of judges) h)) (sym is) tt
