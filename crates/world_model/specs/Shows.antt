-- Lines that show something: they change nothing.
use Rattle.std.specs.Prelude.{◌≡◌, List, ℕ, nat_lt, Bool, [], ◌∷◌, ◌++◌, codes, length, Option, Some, None, is_some, filter, if◌then◌else◌}
use Rattle.std.specs.List.{flat_map}
use Rattle.std.specs.Fmt.{decimal}
use Rattle.std.specs.Ordering.{eq_by_cmp}
use Rattle.hex.specs.Hex.{encode_lower}
use Rattle.ivy_base.specs.declared.key.PubKey.{PubKey}
use Rattle.ivy_base.specs.Naming.{owner_cmp}
use Rattle.log_model.specs.Conflicts.{Clash, clashes, most_clashes}
use Rattle.log_model.specs.Heads.{owner_in}
use Rattle.log_model.specs.Record.{Record}
use Rattle.log_model.specs.Rank.{weight}
use Rattle.fork_model.specs.Before.{Before, TellsRecords}
use Rattle.fork_model.specs.Finding.{find_fork}
use Rattle.script_driver.specs.Run.{Outcome, Goes, Refuses, Exceeds}
use Rattle.script_model.specs.declared.command.Shown.{Shown}
use Rattle.script_model.specs.declared.command.Shown.TheVariants as shown
use Rattle.world_model.specs.Agents.{own_hss_key}
use Rattle.world_model.specs.Nodes.{Node}
use Rattle.world_model.specs.World.{World, Participant, participant, peer_of, name_of_owner}
use Rattle.world_model.specs.Faults.{node_named}

-- what there is to show: nothing, more than a line may show, or this
pub data Showing : Type 0 where
  Absent : Showing
  TooMuch : Showing
  Text : List ℕ → Showing

-- ---- what a live node holds

abbrev pub holds_text : Node → List ℕ
holds_text n = decimal (peer_of n).number ++ 32 ∷ decimal (length n.blocks) ++ 10 ∷ flat_map (λ e. encode_lower e.0.0 ++ 10 ∷ []) n.blocks

abbrev pub of_live : Option Node → Showing
of_live None = Absent
of_live (Some n) = if n.is_live then Text (holds_text n) else Absent

-- ---- what a participant holds above its basis, and how much its last turn applied

-- a record by its weight, its log and its number
abbrev pub record_line : World → Record → List ℕ
record_line w r = decimal (weight r) ++ 32 ∷ name_of_owner w r.owner ++ 32 ∷ decimal r.seq ++ 10 ∷ []

abbrev pub order_text : World → Participant → List ℕ
order_text w p = p.name ++ 32 ∷ decimal (length p.agent.holding.held) ++ 10 ∷ flat_map (record_line w) p.agent.holding.held

abbrev pub work_text : Participant → List ℕ
work_text p = p.name ++ 32 ∷ decimal p.work ++ 10 ∷ []

-- ---- which of the records that it holds are in conflict

-- what both touch: bytes of a file, or else a name in a directory
abbrev pub touched_text : Bool → List ℕ
touched_text bytes = if bytes then codes "bytes" else codes "name"

-- two records by their logs and numbers, the one of the smaller rank first, and what both touch
abbrev pub clash_line : World → Clash → List ℕ
clash_line w c =
    name_of_owner w c.first.owner ++ 32 ∷ decimal c.first.seq ++ 32 ∷ name_of_owner w c.second.owner ++ 32 ∷ decimal c.second.seq
    ++ 32 ∷ touched_text c.bytes ++ 10 ∷ []

abbrev pub clashes_text : World → List ℕ → List Clash → List ℕ
clashes_text w name list = name ++ 32 ∷ decimal (length list) ++ 10 ∷ flat_map (clash_line w) list

-- of the log of that name, unless there are too many
abbrev pub clashes_shown : World → List ℕ → List Clash → Showing
clashes_shown w name list = if nat_lt most_clashes (length list) then TooMuch else Text (clashes_text w name list)

abbrev pub conflicts_shown : World → Participant → Showing
conflicts_shown w p = clashes_shown w p.name (clashes p.agent.holding.held)

-- ---- that its log was signed into two histories

-- the blocks met in which its public key stands where a head has its owner's, in the order in which they were made
abbrev pub heads_met_of : World → PubKey → List (List ℕ)
heads_met_of w owner = filter (λ b. eq_by_cmp owner_cmp (owner_in b) owner) w.met

abbrev pub proof_text : Option (List ℕ) → List ℕ
proof_text None = codes "none" ++ 10 ∷ []
proof_text (Some bytes) = encode_lower bytes ++ 10 ∷ []

-- of the blocks met, by what tells which of them are records
abbrev pub proof_shown : Before → World → Participant → Showing
proof_shown before w p = Text (proof_text (find_fork before (heads_met_of w (own_hss_key p.agent)) w.met))

-- ---- the line

-- a participant shows this, whether it entered a view or not
abbrev pub of_known : (Participant → Showing) → Option Participant → Showing
of_known shows None = Absent
of_known shows (Some p) = shows p

-- a participant that entered a view shows this
abbrev pub of_entered : (Participant → Showing) → Option Participant → Showing
of_entered shows None = Absent
of_entered shows (Some p) = if is_some p.agent.view then shows p else Absent

-- the word that the line and what it shows begin with
abbrev pub word_of : Shown → List ℕ
word_of (shown.Holds node) = codes "holds"
word_of (shown.Order log) = codes "order"
word_of (shown.Work log) = codes "work"
word_of (shown.Conflicts log) = codes "conflicts"
word_of (shown.Proof log) = codes "proof"

-- what is shown after that word
abbrev pub showing : Before → World → Shown → Showing
showing before w (shown.Holds node) = of_live (node_named w node)
showing before w (shown.Order log) = of_entered (λ p. Text (order_text w p)) (participant w log)
showing before w (shown.Work log) = of_entered (λ p. Text (work_text p)) (participant w log)
showing before w (shown.Conflicts log) = of_entered (conflicts_shown w) (participant w log)
showing before w (shown.Proof log) = of_known (proof_shown before w) (participant w log)

-- a line that shows nothing is refused, and one that would show too much meets a limit
abbrev pub shown_as : World → List ℕ → Showing → Outcome World
shown_as w word Absent = Refuses
shown_as w word TooMuch = Exceeds
shown_as w word (Text text) = Goes w (word ++ 32 ∷ text)

abbrev pub show_line : Before → World → Shown → Outcome World
show_line before w s = shown_as w (word_of s) (showing before w s)

-- The line does what it does by whatever tells which blocks are records: all that do tell the same.
abbrev pub Shows : World → Shown → Outcome World → Type 0
Shows w s outcome = (before : Before) × TellsRecords before × (outcome ≡ show_line before w s)
