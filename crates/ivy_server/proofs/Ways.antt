-- The ways of sessions, and what follows them, one after another.
use Rattle.std.proofs.Common.{List, [], ◌∷◌, ◌++◌, sym, subst}
use Rattle.std.proofs.lemmas.List.{append_assoc, append-nil}
use Rattle.server_model.specs.Acts.{Act}
use Rattle.server_model.specs.Driving.{Does, Driven, Went}
use Rattle.server_model.specs.Driving.Went.{none, more, lacks_memory, is_cut}
use Rattle.server_model.specs.Takers.{Follows, Ring, Taker}
use Rattle.server_model.specs.Takers.Follows.{none as follows_none, asks as follows_asks, turns as follows_turns, settles as follows_settles}

abbrev pub WentTo : Ring → Driven → Driven → List Act → Type 0
WentTo ring start there acts = Went ring start acts there

pub went_then : {ring : Ring} {start here there : Driven} {acts next : List Act} → Went ring start acts here → Went ring here next there → Went ring start (acts ++ next) there
went_then {ring = ring} {start = start} {here = here} {acts = acts} way none = subst (WentTo ring start here) (sym (append-nil acts)) way
went_then {ring = ring} {start = start} {there = there} {acts = acts} way (more {acts = between} act on does) =
    subst (WentTo ring start there) (append_assoc acts between (act ∷ [])) (more act (went_then way on) does)
went_then way (lacks_memory taken t on takes lacking) = lacks_memory taken t (went_then way on) takes lacking
went_then way (is_cut said posts acks on at) = is_cut said posts acks (went_then way on) at

pub one_act : {ring : Ring} {here there : Driven} (act : Act) → Does ring here act there → Went ring here (act ∷ []) there
one_act act does = more act none does

abbrev FollowsTo : {P : Type 0} → Taker P → P → P → List Act → Type 0
FollowsTo taker p q acts = Follows taker p acts q

module _ {P : Type 0} {taker : Taker P} where
  pub follows_then : {p q after : P} {acts next : List Act} → Follows taker p acts q → Follows taker q next after → Follows taker p (acts ++ next) after
  follows_then {p = p} {q = q} {acts = acts} way follows_none = subst (FollowsTo taker p q) (sym (append-nil acts)) way
  follows_then {p = p} {after = after} {acts = acts} way (follows_asks {acts = between} node question answer on) =
      subst (FollowsTo taker p after) (append_assoc acts between _) (follows_asks node question answer (follows_then way on))
  follows_then {p = p} {after = after} {acts = acts} way (follows_turns {acts = between} turn gave on takes) =
      subst (FollowsTo taker p after) (append_assoc acts between _) (follows_turns turn gave (follows_then way on) takes)
  follows_then {p = p} {after = after} {acts = acts} way (follows_settles {acts = between} acks on settles) =
      subst (FollowsTo taker p after) (append_assoc acts between _) (follows_settles acks (follows_then way on) settles)
