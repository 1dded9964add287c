-- How much is left to a session: a number that falls with each answer, turn and settling.
use Rattle.std.specs.Prelude.{ℕ, ◌+◌, ◌-◌, ◌*◌, ◌^◌, ◌<◌, ◌≤◌}
use Rattle.view_refresh.specs.States.{most_refresh, refresh_left}
use Rattle.ivy_session.specs.Publishing.{most_asks, puts_left}
use Rattle.ivy_session.specs.declared.session.Next.{Next}
use Rattle.ivy_session.specs.declared.session.Next.TheVariants as next
use Rattle.ivy_session.specs.declared.session.Stage.{Stage}
use Rattle.ivy_session.specs.declared.session.Stage.TheVariants as stage
use Rattle.ivy_session.specs.States.{SessionState}

-- more asks than the posts of a turn may take, which are in memory
unfoldable pub most_puts : ℕ
most_puts = most_asks * 2 ^ 64

-- that far, where it began again so often
abbrev pub left_at : {J : Type 0} → ℕ → Stage J → ℕ
left_at starts (stage.Refreshing c r) = refresh_left r + 2 + most_puts + most_refresh * (2 - starts)
left_at starts (stage.Turning c) = 2 + most_puts + most_refresh * (2 - starts)
left_at starts (stage.Publishing told p) = 1 + puts_left p
left_at starts (stage.Over told) = 0
left_at starts stage.Told = 0

-- counted from above, how many answers, turns and settlings are left to it
abbrev pub session_left : {J : Type 0} → SessionState J → ℕ
session_left st = left_at st.starts st.stage

-- no more is left, however often it began again
abbrev pub StaysLeft : {J : Type 0} → Stage J → Stage J → Type 0
StaysLeft old new = (starts : ℕ) → left_at starts new ≤ left_at starts old

-- less is left
abbrev pub FallsLeft : {J : Type 0} → Stage J → Stage J → Type 0
FallsLeft old new = (starts : ℕ) → left_at starts new < left_at starts old

-- No more is left than before this was wanted, and less where it is a settling.
abbrev pub LeavesNoMore : {J : Type 0} → SessionState J → SessionState J → Next → Type 0
LeavesNoMore old new (next.Ask node question) = session_left new ≤ session_left old
LeavesNoMore old new (next.Turn refresh) = session_left new ≤ session_left old
LeavesNoMore old new (next.Settle acks) = session_left new < session_left old
LeavesNoMore old new (next.Done told) = session_left new ≤ session_left old
