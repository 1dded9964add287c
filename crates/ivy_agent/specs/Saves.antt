-- What is saved of an agent, and how a save ends.
use Rattle.std.specs.Prelude.{◌≡◌, ◌<◌, ◌^◌, ℕ, Bool, true, false, List, length, Option, Some, None, Result, Ok, Err}
use Rattle.std.specs.List.{All}
use Rattle.dht_ids.specs.declared.post.Post.{Post}
use Rattle.agent_model.specs.Agent as model
use Rattle.ivy_agent.specs.declared.saving.Kept.{Kept}
use Rattle.ivy_agent.specs.declared.saving.SaveFault.{SaveFault}
use Rattle.ivy_agent.specs.declared.saving.SaveFault.TheVariants as fault

-- what is kept, as the definitions have it
abbrev pub saved_of : {S : Type 0} → Kept S → model.Kept S
saved_of k = record { signer = k.signer; view = k.view; floor = k.floor; pending = k.pending; snapshot = k.snapshot }

-- a word counts the bytes of each
abbrev pub AreShort : List Post → Type 0
AreShort posts = All (λ p. length p.bytes < 2 ^ 32) posts

-- The keeper afterwards, by what is to be saved and whether the save fails. Where nothing is to be saved it stays as it is.
abbrev pub Saves : {K : Type 0} → (K → List ℕ → Bool → K → Type 0) → K → Option (List ℕ) → Bool → K → Type 0
Saves saves before None fails after = after ≡ before
Saves saves before (Some bytes) fails after = saves before bytes fails after

-- the keeper after a save of these bytes, by how it ended
abbrev pub HasSaved : {K A : Type 0} → (K → List ℕ → Bool → K → Type 0) → K → List ℕ → Result A SaveFault → K → Type 0
HasSaved saves before bytes (Ok done) after = saves before bytes false after
HasSaved saves before bytes (Err fault.Keeper) after = saves before bytes true after
HasSaved saves before bytes (Err fault.Memory) after = after ≡ before

-- where the keeper was asked, the key is one that can be
abbrev pub IsWholeAfter : {A : Type 0} → Type 0 → Result A SaveFault → Type 0
IsWholeAfter whole (Ok done) = whole
IsWholeAfter whole (Err fault.Keeper) = whole
IsWholeAfter whole (Err fault.Memory) = Unit {0}
