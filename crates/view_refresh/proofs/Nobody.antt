-- Where no node is known nobody is asked, and what is wanted is missed.
use Rattle.std.proofs.Common.{◌≡◌, ◌⊎◌, ⊎_elim, ℕ, List, [], ◌∷◌, ◌++◌, Option, None, Result, Ok, Err, refl, sym, ap, ◌∙◌, subst}
use Rattle.ivy_base.specs.declared.key.Key.{Key}
use Rattle.dht_ids.specs.Asked.{told, routes}
use Rattle.dht_ids.specs.declared.ask.Answer.{Answer}
use Rattle.dht_ids.specs.declared.ask.Ask.{Ask}
use Rattle.dht_ids.specs.declared.ask.Ask.TheVariants as ask
use Rattle.dht_ids.specs.declared.ask.Heard.{Heard}
use Rattle.dht_ids.specs.declared.judge.Judged.{Judged}
use Rattle.dht_ids.specs.declared.peer.Peer.{Peer}
use Rattle.ring_model.specs.Route.{Route}
use Rattle.ring_model.specs.Lookup.{IsLookup}
use Rattle.ring_model.specs.Lookup.IsLookup.{over, spent, known, silent, answered}
use Rattle.dhash_model.specs.declared.miss.Miss.TheVariants as miss
use Rattle.dhash_model.specs.declared.miss.Miss.{Miss}
use Rattle.dhash_model.specs.Execution.{Told, IsExecution, told_all, outcome}
use Rattle.dhash_model.specs.Execution.IsExecution.{no_route, of_owners}
use Rattle.session_model.specs.Asking.{AsksNext}
use Rattle.session_model.specs.Brought.{Brought, BlockOf, HeadsOf, WantedOfRing}
use Rattle.session_model.specs.Sessions.{Gets, IsGet, wanted_key}
use Rattle.session_model.specs.Sessions.Gets.{heads, content}
use Rattle.view_refresh.proofs.Bringing.{IsMissed}

look_nobody : {asked : List Peer} {last : Option (List Peer)} {ps : List Peer} {trail : List (Peer × Option (Route Peer))} {found : Option (List Peer)} → IsLookup asked last ps trail found → ps ≡ [] → (trail ≡ []) × (found ≡ last)
look_nobody over e = (refl, refl)
look_nobody (spent many) e = (refl, refl)
look_nobody (known h rest) e = cc e
look_nobody (silent few new rest) e = cc e
look_nobody (answered few new rest) e = cc e

none_looked : (looks : Told) → routes looks ≡ [] → looks ≡ []
none_looked [] e = refl
none_looked (l ∷ looks) e = cc e

-- of an execution that nobody is known for
pub record Nobody {T : Type 0} (trail : List Heard) (result : Result T Miss) : Type 0 where
  pub none : trail ≡ []
  pub why : Miss
  pub missed : result ≡ Err why

found_or_none : (key : Key) (owners : List Peer) → outcome key None ≡ Ok owners → ⊥
found_or_none key owners e = cc e

pub nobody_asked : {T : Type 0} (key : Key) (question : Ask) (Ends : List Peer → Told → Result T Miss → Type 0) (trail : List Heard) (result : Result T Miss) → IsExecution key question [] Ends trail result → Nobody trail result
nobody_asked key question Ends trail result (no_route looks found is looked nobody missed) = record {
  none = is ∙ ap (told_all (ask.Route key)) (none_looked looks (look_nobody looked refl).0);
  why = miss.NoRoute key;
  missed = missed;
}
nobody_asked key question Ends trail result (of_owners looks asks found owners is looked some ends) = absurd (found_or_none key owners (ap (outcome key) (sym (look_nobody looked refl).1) ∙ some))

pub gets_nobody : (judged : Key → List ℕ → Option Judged) (r : ℕ) {want : WantedOfRing} {asks : List Heard} {brought : Brought} → Gets judged r [] want asks brought → (asks ≡ []) × IsMissed brought
gets_nobody judged r {asks = asks} (heads {owner} came get) = let n = nobody_asked _ _ _ asks came get in (n.none, subst (λ x. IsMissed (HeadsOf owner x)) (sym n.missed) tt)
gets_nobody judged r {asks = asks} (content {key} came get) = let n = nobody_asked _ _ _ asks came get in (n.none, subst (λ x. IsMissed (BlockOf key x)) (sym n.missed) tt)

pub nil_middle : {X : Type 0} (xs : List X) (x : X) (more : List X) → (xs ++ x ∷ []) ++ more ≡ [] → ⊥
nil_middle [] x more e = cc e
nil_middle (y ∷ ys) x more e = cc e

-- what is asked is told
abbrev pub TellsOne : Ask → Type 0
TellsOne question = (node : Peer) (given : Answer) (trail more : List Heard) → (trail ++ told node question given) ++ more ≡ [] → ⊥

route_told : (key : Key) → TellsOne (ask.Route key)
route_told key node given trail more e = nil_middle trail _ more e

get_told : (key : Key) → TellsOne (ask.Get key)
get_told key node given trail more e = nil_middle trail _ more e

pub asks_nobody : (key : Key) (own : Ask) (Whole : List Heard → Type 0) (trail : List Heard) (node : Peer) (question : Ask) → TellsOne own → ((asks : List Heard) → Whole asks → asks ≡ []) → AsksNext key own Whole trail node question → ⊥
asks_nobody key own Whole trail node question tells none next = by next.is_of
  where
    by : (question ≡ ask.Route key) ⊎ (question ≡ own) → ⊥
    by is = ⊎_elim (λ e. subst TellsOne (sym e) (route_told key) node next.answer trail next.more (none _ next.whole)) (λ e. subst TellsOne (sym e) tells node next.answer trail next.more (none _ next.whole)) is

pub get_asks_somebody : (judged : Key → List ℕ → Option Judged) (r : ℕ) (want : WantedOfRing) (entries : List Peer) (trail : List Heard) (node : Peer) (question : Ask) → AsksNext (wanted_key want) (ask.Get (wanted_key want)) (IsGet judged r entries want) trail node question
    → entries ≡ [] → ⊥
get_asks_somebody judged r want entries trail node question next e =
    asks_nobody (wanted_key want) (ask.Get (wanted_key want)) (IsGet judged r [] want) trail node question (get_told (wanted_key want)) (λ asks whole. (gets_nobody judged r whole.1).0)
    (subst (λ (es : List Peer). AsksNext (wanted_key want) (ask.Get (wanted_key want)) (IsGet judged r es want) trail node question) e next)
