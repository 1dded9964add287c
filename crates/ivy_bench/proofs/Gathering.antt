-- A batch over nothing, as its chains are added.
use Rattle.std.proofs.Common.{◌≡◌, ◌<◌, length, true, false, List, [], ◌∷◌, ◌++◌, refl, sym, ap, ◌∙◌, subst, arith, Some, None, Contains}
use Rattle.std.specs.Bool.{◌==◌}
use Rattle.std.specs.List.{All, AllByRecursion}
use Rattle.std.proofs.lemmas.List.{map-append}
use Rattle.std.proofs.lemmas.List.Elements.{All-head, All-tail}
use Rattle.ivy_base.specs.declared.key.PubKey.{PubKey}
use Rattle.log_model.specs.View.{View}
use Rattle.log_model.specs.Vector.{Stamp}
use Rattle.log_model.specs.Record.{Record}
use Rattle.log_model.proofs.Lists.{each_append}
use Rattle.log_records.specs.declared.record.Record as kept
use Rattle.log_records.specs.Records.{record_of, records_of}
use Rattle.log_model.specs.Fetched.{IsSound, owner_of}
use Rattle.log_records.specs.Batches.{AreOfOneOwner, Batch}
use Rattle.causal_order.specs.Available.{IsFetched}
use Rattle.causal_order.specs.Over.{IsClosed}
use Rattle.causal_order.proofs.Fetching.{sound_is_fetched}
use Rattle.ivy_bench.specs.Gathered.{IsGathered}

pub nothing_is_closed : (view : View) → IsClosed view [] []
nothing_is_closed view = record { ascending = tt; members = tt; chains = λ owner. tt; causes = tt }

not_some : (s : Stamp) → None ≡ Some s → ⊥
not_some s e = cc

fetched : (view : View) (head : Stamp) (chain : List Record) → Contains view.members (owner_of chain) → IsSound view [] None head chain → IsFetched view [] [] chain
fetched view head chain member sound = sound_is_fetched view [] [] [] None head chain member (omega (arith)) (λ s e. absurd (not_some s e)) sound

pub begins : (view : View) (b : Batch) → b ≡ record { held = []; floor = []; chains = [] } → IsGathered view [] b
begins view b e = subst (IsGathered view []) (sym e) (record { held = refl; of_these = refl; fetched = tt })

pub goes_on : (view : View) (owners : List PubKey) (b : Batch) (head : Stamp) (chain : List Record) → IsGathered view owners b → Contains view.members (owner_of chain)
    → IsSound view b.held None head chain → IsGathered view (owners ++ owner_of chain ∷ []) (record b { chains = b.chains ++ (head, chain) ∷ [] })
goes_on view owners b head chain g member sound = record {
  held = g.held;
  of_these = map-append (λ (c : Stamp × List Record). owner_of c.1) b.chains ((head, chain) ∷ []) ∙ ap (λ (os : List PubKey). os ++ owner_of chain ∷ []) g.of_these;
  fetched = each_append (λ (c : Stamp × List Record). IsFetched view [] [] c.1) b.chains ((head, chain) ∷ []) g.fetched (fetched view head chain member (subst (λ h. IsSound view h None head chain) g.held sound), tt);
}

not_nothing : (r : Record) (rs : List Record) → r ∷ rs ≡ [] → ⊥
not_nothing r rs e = cc

owned : (owner first : PubKey) (rs : List kept.Record) → first ≡ owner → All (λ (r : kept.Record). r.owner ≡ owner) rs → AllByRecursion (λ (r : Record). r.owner ≡ first) (records_of rs)
owned owner first [] e h = tt
owned owner first (r ∷ rs) e h = (All-head (λ (r : kept.Record). r.owner ≡ owner) r rs h ∙ sym e, owned owner first rs e (All-tail (λ (r : kept.Record). r.owner ≡ owner) r rs h))

pub is_owners : (owner : PubKey) (rs : List kept.Record) → 0 < length rs → All (λ (r : kept.Record). r.owner ≡ owner) rs → owner_of (records_of rs) ≡ owner
is_owners owner [] some h = absurd (omega (arith, some))
is_owners owner (r ∷ rs) some h = All-head (λ (r : kept.Record). r.owner ≡ owner) r rs h

pub are_of_one : (owner : PubKey) (rs : List kept.Record) → 0 < length rs → All (λ (r : kept.Record). r.owner ≡ owner) rs → AreOfOneOwner (records_of rs)
are_of_one owner [] some h = absurd (omega (arith, some))
are_of_one owner (r ∷ rs) some h = record {
  some = not_nothing (record_of r) (records_of rs);
  owned = owned owner r.owner (r ∷ rs) (is_owners owner (r ∷ rs) some h) h;
}

pub have_some : (rs : List kept.Record) → (length rs == 0) ≡ false → 0 < length rs
have_some [] e = absurd (true_not_false e)
  where
    true_not_false : true ≡ false → ⊥
    true_not_false e = cc
have_some (r ∷ rs) e = omega (arith)

pub is_added : (view : View) (owners more : List PubKey) (owner : PubKey) (b new : Batch) (head : Stamp) (chain : List Record) → IsGathered view owners b → Contains view.members owner → owner_of chain ≡ owner
    → IsSound view b.held None head chain → more ≡ owners ++ owner ∷ [] → new ≡ record b { chains = b.chains ++ (head, chain) ∷ [] } → IsGathered view more new
is_added view owners more owner b new head chain g member own sound grown added =
    subst (IsGathered view more) (sym added)
    (subst (λ (os : List PubKey). IsGathered view os (record b { chains = b.chains ++ (head, chain) ∷ [] })) (sym (grown ∙ ap (λ (o : PubKey). owners ++ o ∷ []) (sym own)))
    (goes_on view owners b head chain g (subst (Contains view.members) (sym own) member) sound))
