-- The records that a log gives are the owner's, and keep the rules.
use Rattle.std.proofs.Common.{◌≡◌, ℕ, List, [], ◌∷◌, ◌++◌, reverse, Option}
use Rattle.std.specs.List.{AllByRecursion}
use Rattle.ivy_base.specs.declared.key.Key.{Key}
use Rattle.ivy_base.specs.declared.key.PubKey.{PubKey}
use Rattle.log_model.specs.View.{View}
use Rattle.log_model.specs.Vector.{Stamp, Vector}
use Rattle.log_model.specs.Record.{Record}
use Rattle.log_model.specs.declared.chain_fault.ChainFault.{ChainFault}
use Rattle.log_model.specs.Fetched.{Edge, EndsAtStamp, GoesOnFrom, owner_of, stamp_in}
use Rattle.session_model.specs.Brought.{Brought}
use Rattle.session_model.specs.Walks.{Walks, WalkEnd, Tries, LogEnd, Lacks, Stops, Gives, GivesNone}
use Rattle.session_model.specs.Walks.Walks.{came as all_came, wants as next_wanted, misses as one_misses, garbled as one_garbled, back as one_back}
use Rattle.session_model.specs.Walks.Tries.{none as none_left, wants as head_wants, misses as head_misses, gives as head_gives, passes as head_passes, garbled as head_garbled}
use Rattle.log_fetch.proofs.Lists.{each_reverse}

are_owned : (owner : PubKey) {n : ℕ} {key : Key} {brought : List Brought} {records : List Record} {end : WalkEnd} → Walks owner n key brought records end → AllByRecursion (λ r. r.owner ≡ owner) records
are_owned owner all_came = tt
are_owned owner next_wanted = tt
are_owned owner (one_misses miss) = tt
are_owned owner (one_garbled bytes none) = tt
are_owned owner (one_back bytes r is more) = (is.owned, are_owned owner more)

nothing : {X : Type 0} (before : List X) (last : X) → [] ≡ before ++ last ∷ [] → ⊥
nothing [] last e = cc e
nothing (x ∷ xs) last e = cc e

first_owner : (owner : PubKey) (t : Stamp) (chain : List Record) → AllByRecursion (λ r. r.owner ≡ owner) chain → EndsAtStamp t chain → owner_of chain ≡ owner
first_owner owner t [] all ends = absurd (nothing ends.0 ends.1 ends.2)
first_owner owner t (r ∷ rs) all ends = all.0

module _ (view : View) (owner : PubKey) (start floor : Vector) (edge : Option Edge) where
  -- what is given is of the owner, and goes on from what is held
  abbrev pub GivesOwn : LogEnd → Type 0
  GivesOwn (Lacks want) = Unit {0}
  GivesOwn (Stops miss) = Unit {0}
  GivesOwn (Gives records) = (owner_of records ≡ owner) × GoesOnFrom view (stamp_in start records) edge records
  GivesOwn GivesNone = Unit {0}

  pub gives_own : {all : List Stamp} {brought : List Brought} {faults : List ChainFault} {end : LogEnd} → Tries (record { view = view; owner = owner; start = start; floor = floor; edge = edge }) all brought faults end → GivesOwn end
  gives_own none_left = tt
  gives_own (head_wants w) = tt
  gives_own (head_misses w) = tt
  gives_own (head_gives {t} {records} w sound onward) = (first_owner owner t (reverse records) (each_reverse (λ r. r.owner ≡ owner) records (are_owned owner w)) sound.ends, sound.goes_on)
  gives_own (head_passes w some fails more) = gives_own more
  gives_own (head_garbled w more) = gives_own more
