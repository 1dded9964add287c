-- What acts leave marks on, one after the other.
use Rattle.std.proofs.Common.{◌≡◌, ℕ, List, [], ◌∷◌, ◌++◌, Option, Some, None, refl, sym, ap, ◌∙◌, subst}
use Rattle.std.specs.Prelude.{option_map}
use Rattle.std.proofs.lemmas.List.{append_assoc, append-nil}
use Rattle.std.proofs.lemmas.List.Concat.{flat_map-append}
use Rattle.ivy_base.specs.declared.operation.Moment.{Moment}
use Rattle.dht_ids.specs.Asked.{longer, told}
use Rattle.dht_ids.specs.declared.ask.Answer.{Answer}
use Rattle.dht_ids.specs.declared.ask.Ask.{Ask}
use Rattle.dht_ids.specs.declared.ask.Heard.{Heard}
use Rattle.dht_ids.specs.declared.peer.Peer.{Peer}
use Rattle.dht_ids.specs.declared.post.Ack.{Ack}
use Rattle.ivy_agent.specs.Calls.{Made}
use Rattle.server_model.specs.Acts.{Act, Asking, Lacked, Refused, Replied, Settling, TakingTurn, TurnAnswered, TurnAsked, asks_in, moments_in, trail_of, turns_in}
use Rattle.ivy_server.specs.Served.{AreTurns, Gave, IsTurn, Leave, Marks, moment_of}
use Rattle.ivy_server.specs.Served.AreTurns.{none as turns_none, more as turns_more}
use Rattle.ivy_server.specs.Served.Gave.{none as gave_none, more as gave_more}

longer_none : (trail : Option (List Heard)) → trail ≡ longer trail []
longer_none None = refl
longer_none (Some asks) = ap (λ l. Some l) (sym (append-nil asks))

longer_then : (trail : Option (List Heard)) (asks more : List Heard) → longer (longer trail asks) more ≡ longer trail (asks ++ more)
longer_then None asks more = refl
longer_then (Some before) asks more = ap (λ l. Some l) (append_assoc before asks more)

told_none : (made : Option (List Made)) → made ≡ option_map (λ ms. ms ++ []) made
told_none None = refl
told_none (Some ms) = ap (λ l. Some l) (sym (append-nil ms))

told_then : (made : Option (List Made)) (first second : List Made) → option_map (λ ms. ms ++ second) (option_map (λ ms. ms ++ first) made) ≡ option_map (λ ms. ms ++ (first ++ second)) made
told_then None first second = refl
told_then (Some ms) first second = ap (λ l. Some l) (append_assoc ms first second)

turns_then : {ms ns : List Made} {ts us : List TurnAnswered} → AreTurns ms ts → AreTurns ns us → AreTurns (ms ++ ns) (ts ++ us)
turns_then {ms = ms} {ts = ts} first turns_none = subst (λ (l : List Made). AreTurns l (ts ++ [])) (sym (append-nil ms)) (subst (AreTurns ms) (sym (append-nil ts)) first)
turns_then {ms = ms} {ts = ts} first (turns_more {ms = ns} {ts = us} m t rest is) =
    subst (λ (l : List Made). AreTurns l (ts ++ (us ++ t ∷ []))) (append_assoc ms ns (m ∷ []))
    (subst (AreTurns ((ms ++ ns) ++ m ∷ [])) (append_assoc ts us (t ∷ [])) (turns_more m t (turns_then first rest) is))

abbrev GaveTo : {C : Type 0} → (C → ℕ × ℕ → C → Type 0) → C → C → List Moment → Type 0
GaveTo gives clock later moments = Gave gives clock moments later

module _ {C : Type 0} {gives : C → ℕ × ℕ → C → Type 0} where
  gave_then : {clock between later : C} {first second : List Moment} → Gave gives clock first between → Gave gives between second later → Gave gives clock (first ++ second) later
  gave_then {clock = clock} {between = between} {first = first} a gave_none = subst (GaveTo gives clock between) (sym (append-nil first)) a
  gave_then {clock = clock} {later = later} {first = first} a (gave_more {moments = middle} m rest given) =
      subst (GaveTo gives clock later) (append_assoc first middle (moment_of m ∷ [])) (gave_more m (gave_then a rest) given)

  -- no acts leave no marks
  pub leave_none : (marks : Marks C) → Leave gives marks [] marks
  leave_none marks = record { trail = longer_none marks.trail; moments = gave_none; made = []; are_turns = turns_none; told = told_none marks.made }

  pub leave_same : (before after : Marks C) → after ≡ before → Leave gives before [] after
  leave_same before after same = subst (Leave gives before []) (sym same) (leave_none before)

  -- those of acts, one after the other
  pub leave_then : (before between after : Marks C) (acts next : List Act) → Leave gives before acts between → Leave gives between next after → Leave gives before (acts ++ next) after
  leave_then before between after acts next a b = record {
    trail = b.trail ∙ ap (λ l. longer l (trail_of next)) a.trail ∙ longer_then before.trail (trail_of acts) (trail_of next)
        ∙ ap (λ l. longer before.trail l) (sym (flat_map-append asks_in acts next));
    moments = subst (GaveTo gives before.clock after.clock) (sym (flat_map-append moments_in acts next)) (gave_then a.moments b.moments);
    made = a.made ++ b.made;
    are_turns = subst (AreTurns (a.made ++ b.made)) (sym (flat_map-append turns_in acts next)) (turns_then a.are_turns b.are_turns);
    told = b.told ∙ ap (λ l. option_map (λ ms. ms ++ b.made) l) a.told ∙ told_then before.made a.made b.made;
  }

  -- ---- one act

  -- an ask stands on the trail
  pub leave_ask : (before : Marks C) (later : Option (List Heard)) (node : Peer) (question : Ask) (answer : Answer) → later ≡ longer before.trail (told node question answer)
      → Leave gives before (Asking node question answer ∷ []) (record before { trail = later })
  leave_ask before later node question answer is = record {
    trail = is ∙ ap (λ l. longer before.trail l) (sym (append-nil (told node question answer)));
    moments = gave_none;
    made = [];
    are_turns = turns_none;
    told = told_none before.made;
  }

  -- a settling leaves none
  pub leave_settle : (marks : Marks C) (acks : List Ack) → Leave gives marks (Settling acks ∷ []) marks
  leave_settle marks acks = record { trail = longer_none marks.trail; moments = gave_none; made = []; are_turns = turns_none; told = told_none marks.made }

  -- a turn has its moment, and stands among those that were made, where it was answered
  module _ (before after : Marks C) (m : ℕ × ℕ) (turn : TurnAsked) (now : turn.now ≡ moment_of m) (given : gives before.clock m after.clock) (same : after.trail ≡ before.trail) where
    the_moment : Gave gives before.clock (turn.now ∷ []) after.clock
    the_moment = subst (λ (n : Moment). Gave gives before.clock (n ∷ []) after.clock) (sym now) (gave_more m gave_none given)

    pub leave_refused : (standing : _) → after.made ≡ before.made → Leave gives before (TakingTurn turn (Refused standing) ∷ []) after
    leave_refused standing made = record { trail = same ∙ longer_none before.trail; moments = the_moment; made = []; are_turns = turns_none; told = made ∙ told_none before.made }

    pub leave_lacked : after.made ≡ before.made → Leave gives before (TakingTurn turn Lacked ∷ []) after
    leave_lacked made = record { trail = same ∙ longer_none before.trail; moments = the_moment; made = []; are_turns = turns_none; told = made ∙ told_none before.made }

    pub leave_replied : (reply : _) (posts : _) (one : Made) → IsTurn one (record { turn = turn; reply = reply }) → after.made ≡ option_map (λ ms. ms ++ one ∷ []) before.made
        → Leave gives before (TakingTurn turn (Replied reply posts) ∷ []) after
    leave_replied reply posts one is made = record { trail = same ∙ longer_none before.trail; moments = the_moment; made = one ∷ []; are_turns = turns_more one _ turns_none is; told = made }
