-- A link over whoever takes the turns is one over whoever does all of that; over `Single` that is one agent.
use Rattle.std.proofs.Common.{◌≡◌, ⊎_elim, inl, inr, ℕ, Bool, List, Option, Some, None, refl, sym, ap, ◌∙◌, subst}
use Rattle.dht_ids.specs.declared.post.Ack.{Ack}
use Rattle.dht_ids.specs.declared.post.Post.{Post}
use Rattle.log_model.specs.Signing.{Signing}
use Rattle.agent_model.specs.Others.{settled}
use Rattle.agent_model.specs.Standing.{Standing}
use Rattle.ivy_agent.specs.Holders.{Holder}
use Rattle.ivy_agent.specs.Saves as agents
use Rattle.server_model.specs.Acts.{Act, Gave, Replied, TurnAsked}
use Rattle.server_model.specs.Alone.{Saves, SettlesAlone, StandsAlone, TurnsAlone, one_agent}
use Rattle.server_model.specs.Alone.TurnsAlone.{replies as replies_alone, refuses as refuses_alone, lacks_memory as lacks_alone}
use Rattle.server_model.specs.Links.{Execution, HasServedNext, Link}
use Rattle.server_model.specs.Links.Link.{done, cut, too_long, not_a_call, read_fault, write_fault, unwritten, was_cut, stopped}
use Rattle.server_model.specs.Serving.{Answer, Between, Serves, ServesEach}
use Rattle.server_model.specs.Serving.Serves.{serves}
use Rattle.server_model.specs.Serving.ServesEach.{none as each_none, more as each_more}
use Rattle.server_model.specs.Takers.{Follows, MayHaveLooked, Ring, Taker}
use Rattle.server_model.specs.Takers.Follows.{none as follows_none, asks as follows_asks, turns as follows_turns, settles as follows_settles}
use Rattle.server_model.specs.declared.ended.Ended.{Ended}
use Rattle.ivy_server.specs.Laws.{AloneIsOneAgent, itself, owner_of}
use Rattle.ivy_server.specs.Passes.{GivesNothing, GivesSettling, GivesStanding, GivesTurn, by_passes}
use Rattle.ivy_server.specs.Passes.GivesTurn.{replies, refuses, lacks_memory}

-- ---- from one to another

-- whatever the first does, the other does too
pub record Does {A B : Type 0} (f : A → B) (first : Taker A) (other : Taker B) : Type 0 where
  pub stands : (a : A) (standing : Standing) (b : A) → first.stands a standing b → other.stands (f a) standing (f b)
  pub takes_turn : (a : A) (turn : TurnAsked) (gave : Gave) (b : A) → first.takes_turn a turn gave b → other.takes_turn (f a) turn gave (f b)
  pub settles : (a : A) (acks : List Ack) (b : A) → first.settles a acks b → other.settles (f a) acks (f b)
  pub looks : (a b : A) → first.looks a b → other.looks (f a) (f b)

module _ {A B : Type 0} (f : A → B) (first : Taker A) (other : Taker B) (does : Does f first other) (ring : Ring) where
  abbrev moved : Between A → Between B
  moved b = record { taker = f b.taker; cache = b.cache }

  follows_too : {a b : A} {acts : List Act} → Follows first a acts b → Follows other (f a) acts (f b)
  follows_too follows_none = follows_none
  follows_too (follows_asks node question answer way) = follows_asks node question answer (follows_too way)
  follows_too (follows_turns {q = q} {after = after} turn gave way takes) = follows_turns turn gave (follows_too way) (does.takes_turn q turn gave after takes)
  follows_too (follows_settles {q = q} {after = after} acks way settles) = follows_settles acks (follows_too way) (does.settles q acks after settles)

  serves_too : {before after : Between A} {message : List ℕ} {acts : List Act} {answer : Answer} → Serves first ring before message acts answer after → Serves other ring (moved before) message acts answer (moved after)
  serves_too {before = before} (serves standing began after s last acts said stands begins way over follows) =
      serves standing (f began) (f after) s last acts said (does.stands before.taker standing began stands) begins way over (follows_too follows)

  each_too : {before after : Between A} {messages replies : List (List ℕ)} {acts : List Act} → ServesEach first ring before messages acts replies after → ServesEach other ring (moved before) messages acts replies (moved after)
  each_too each_none = each_none
  each_too (each_more message reply earlier is) = each_more message reply (each_too earlier) (serves_too is)

  next_too : {p q : A} {read : List ℕ} {acts : List Act} {replies : List (List ℕ)} {answer : Answer} → HasServedNext first ring p read acts replies answer q → HasServedNext other ring (f p) read acts replies answer (f q)
  next_too h = record {
    messages = h.messages;
    message = h.message;
    earlier = h.earlier;
    next = h.next;
    before = moved h.before;
    after = moved h.after;
    are = h.are;
    served = each_too h.served;
    in_order = h.in_order;
    serves = serves_too h.serves;
    taker_is = ap f h.taker_is;
  }

  looked_too : {a b : A} → MayHaveLooked first a b → MayHaveLooked other (f a) (f b)
  looked_too {a = a} {b = b} looked = ⊎_elim (λ same. inl (ap f same)) (λ looks. inr (does.looks a b looks)) looked

  pub link_too : {p q : A} {execution : Execution} {how : Ended} → Link first ring p execution how q → Link other ring (f p) execution how (f q)
  link_too (done split served) = done split (each_too served)
  link_too (cut rest some split served) = cut rest some split (each_too served)
  link_too (too_long over served) = too_long over (each_too served)
  link_too (not_a_call is_cut next) = not_a_call is_cut (next_too next)
  link_too (read_fault rest split served) = read_fault rest split (each_too served)
  link_too (write_fault reply is_cut count next less) = write_fault reply is_cut count (next_too next) less
  link_too (unwritten reply is_cut count next less) = unwritten reply is_cut count (next_too next) less
  link_too (was_cut reply next) = was_cut reply (next_too next)
  link_too (stopped rest more begins served looked) = stopped rest more begins (each_too served) (looked_too looked)

-- ---- an agent that is its own pass

saves_so : {K : Type 0} (saves : K → List ℕ → Bool → K → Type 0) (before after : K) (bytes : Option (List ℕ)) (fails : Bool) → agents.Saves saves before bytes fails after → Saves saves before bytes fails after
saves_so saves before after None fails h = h
saves_so saves before after (Some bytes) fails h = h

module _ {K S : Type 0} (signs : Signing S) (is_whole : S → Type 0) (saves : K → List ℕ → Bool → K → Type 0) where
  stands_so : (p : Holder K S) (standing : Standing) (q : Holder K S) → GivesStanding (itself signs is_whole saves) p standing q → StandsAlone signs saves (owner_of p) standing (owner_of q)
  stands_so p standing q g =
      subst (λ (x : Holder K S). StandsAlone signs saves (owner_of x) standing (owner_of q)) g.came
      (subst (λ (y : Holder K S). StandsAlone signs saves (owner_of g.found) standing (owner_of y)) g.left (record { view = g.view; in_view = g.in_view; stands = g.stands; same = refl }))

  abbrev TurnsTo : TurnAsked → Gave → Holder K S → Holder K S → Type 0
  TurnsTo turn gave x y = TurnsAlone signs saves (owner_of x) turn gave (owner_of y)

  carried : (turn : TurnAsked) (gave : Gave) (found p after q : Holder K S) → found ≡ p → after ≡ q → TurnsTo turn gave found after → TurnsTo turn gave p q
  carried turn gave found p after q came left h = subst (λ (x : Holder K S). TurnsTo turn gave x q) came (subst (TurnsTo turn gave found) left h)

  turns_so : (p : Holder K S) (turn : TurnAsked) (gave : Gave) (q : Holder K S) → GivesTurn (itself signs is_whole saves) p turn gave q → TurnsAlone signs saves (owner_of p) turn gave (owner_of q)
  turns_so p turn _ q (replies found after view fails reply turned _ came left in_view turns gives) =
      carried turn (Replied reply turned.posts) found p after q came left
      (subst (λ (posts : List Post). TurnsTo turn (Replied reply posts) found after) (sym gives.posts)
      (replies_alone view fails reply turned.applied (owner_of after) turns.saving in_view turns.turns (saves_so saves found.keeper after.keeper _ fails turns.keeper)))
  turns_so p turn gave q (refuses found after view end _ came left in_view refusal turns) =
      carried turn gave found p after q came left (refuses_alone view end (owner_of after) turns.saving in_view refusal turns.turns (saves_so saves found.keeper after.keeper _ _ turns.keeper))
  turns_so p turn gave q (lacks_memory found _ came left) = carried turn gave found p found q came left lacks_alone

  settles_so : (p : Holder K S) (acks : List Ack) (q : Holder K S) → GivesSettling (itself signs is_whole saves) p acks q → SettlesAlone signs saves (owner_of p) acks (owner_of q)
  settles_so p acks q g = ap owner_of (sym g.left) ∙ ap (λ (x : Holder K S). record (owner_of x) { agent = settled x.agent acks }) g.came

  looks_so : (p q : Holder K S) → GivesNothing (itself signs is_whole saves) p q → owner_of q ≡ owner_of p
  looks_so p q g = ap owner_of (sym g.left ∙ g.came)

  pub alone_is_one_agent : AloneIsOneAgent signs is_whole saves
  alone_is_one_agent ring p q execution how link =
      link_too owner_of (by_passes (itself signs is_whole saves)) (one_agent signs saves) (record { stands = stands_so; takes_turn = turns_so; settles = settles_so; looks = looks_so }) ring link
