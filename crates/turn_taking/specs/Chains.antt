-- The chains of a batch within the floor, and which of their records are new.
use Rattle.std.specs.Prelude.{◌≡◌, ℕ, nat_lt, Bool, ◌&&◌, List, [], ◌∷◌, map, flat_map, Option, Some, None, Contains}
use Rattle.ivy_base.specs.declared.key.Key.{Key}
use Rattle.ivy_base.specs.declared.key.PubKey.{PubKey}
use Rattle.ivy_base.specs.Naming.{head_key_of}
use Rattle.log_model.specs.View.{View}
use Rattle.log_model.specs.Vector.{Vector, seq_of}
use Rattle.log_model.specs.Record.{Record}
use Rattle.log_model.specs.Rank.{full_vector}
use Rattle.log_model.specs.Fetched.{owner_of}
use Rattle.log_records.specs.declared.batch.Chain.{Chain}
use Rattle.log_records.specs.Records.{records_of}
use Rattle.causal_order.specs.Available.{IsLinked}
use Rattle.agent_model.specs.Standing.{Chain as Brought, beyond, dominates}
use Rattle.turn_laws.specs.Taking.{within}
use Rattle.agent_model.specs.Turning.{AreNext}

-- some records of one log as a chain of a refresh
abbrev pub as_chain : List Record → Brought
as_chain records = record { owner = owner_of records; records = records }

-- the records of chains as they are kept
abbrev pub chains_in : List Chain → List (List Record)
chains_in chains = map (λ c. records_of c.records) chains

-- what is left of a chain, if there is something
abbrev pub some_of : List Record → List (List Record)
some_of [] = []
some_of (r ∷ rs) = (r ∷ rs) ∷ []

-- what is left of each chain within the floor
abbrev pub all_within : PubKey → Vector → List (List Record) → List (List Record)
all_within own floor chains = flat_map (λ c. some_of (within own floor (as_chain c))) chains

-- the chains' records beyond the front, of each chain that goes on from it
abbrev pub new_of : Vector → List (List Record) → List Record
new_of front chains = flat_map (λ c. beyond front (as_chain c)) chains

-- they are numbered one after the other
abbrev pub AreNumbered : List Record → Type 0
AreNumbered records = (n : ℕ) × AreNext n records

-- each record is named by the next one, as the one before it, and the last one by the head
abbrev pub AreNamed : List Record → Key → Type 0
AreNamed [] head = ⊥
AreNamed (r ∷ []) head = r.name ≡ head
AreNamed (r ∷ q ∷ rs) head = (r.name ≡ q.prev) × AreNamed (q ∷ rs) head

-- a chain as it is kept: some records, numbered and named one after the other
pub record IsRow (c : Chain) : Type 0 where
  pub numbered : AreNumbered (records_of c.records)
  pub named : AreNamed (records_of c.records) c.head.name

-- it is of a member's log, and its records are linked
pub record IsWhole (view : View) (c : Chain) : Type 0 where
  pub member : Contains view.members (owner_of (records_of c.records))
  pub linked : IsLinked view (records_of c.records)
  pub row : IsRow c

-- what is left of a chain, as it is kept
abbrev pub IsLeftRow : List Record → Option Chain → Type 0
IsLeftRow records None = records ≡ []
IsLeftRow records (Some c) = (records_of c.records ≡ records) × IsRow c

abbrev pub IsLeft : View → List Record → Option Chain → Type 0
IsLeft view records None = records ≡ []
IsLeft view records (Some c) = (records_of c.records ≡ records) × IsWhole view c

-- the record knows all that the front does, and is later in its own log
abbrev pub is_over : Vector → Record → Bool
is_over base r = dominates (full_vector r) base && nat_lt (seq_of base (head_key_of r.owner)) r.seq
