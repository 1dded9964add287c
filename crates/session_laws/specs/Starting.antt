-- From where a refresh starts: what is held, or what a loaded basis covers, ends at records that were known.
use Rattle.std.specs.Prelude.{◌≡◌, List, IfSome, IsTrue}
use Rattle.std.specs.FinMap.Entries.{is_sorted}
use Rattle.ivy_base.specs.Naming.{key_cmp}
use Rattle.log_model.specs.View.{IsView}
use Rattle.log_model.specs.Record.{Record}
use Rattle.turn_model.specs.Basis.{Holding, Knows, nothing_held}
use Rattle.agent_model.specs.Agent.{joined}
use Rattle.agent_model.specs.Standing.{Standing, Refresh, edges_of}
use Rattle.agent_model.specs.Candidates.{StandsWithin}
use Rattle.session_model.specs.Brought.{Brought}
use Rattle.session_model.specs.Refreshing.{Note, RefreshEnd, Refreshes}
use Rattle.session_laws.specs.Bringing.{StartsFrom}

-- Whatever a refresh has come to, it starts from known records, where its standing is that of an agent which knew these records and held
-- this. Where it has a snapshot to load, nothing is held; and a basis that it goes by stands for a part of what was known.
abbrev pub StartIsKnown : Type 0
StartIsKnown = (s : Standing) (of : Holding) (knew : List Record) (brought : List Brought) (notes : List Note) (given : Refresh)
    (end : RefreshEnd)
    → IsView s.view → Knows s.view s.floor of knew → s.held ≡ joined of → s.edges ≡ edges_of of
    → IfSome s.to_load (λ root. of ≡ nothing_held) → IfSome given.basis (StandsWithin s.view knew)
    → Refreshes s brought notes given end → StartsFrom s given.started knew

-- And what it starts from has each log once.
abbrev pub StartIsSorted : Type 0
StartIsSorted = (s : Standing) (of : Holding) (knew : List Record) (brought : List Brought) (notes : List Note) (given : Refresh)
    (end : RefreshEnd)
    → Knows s.view s.floor of knew → s.held ≡ joined of → IfSome given.basis (StandsWithin s.view knew)
    → Refreshes s brought notes given end
    → IsTrue (is_sorted key_cmp given.started)
