-- What nodes answer is what a ring answers.
use Rattle.std.proofs.Common.{◌≡◌, ℕ, Bool, List, [], ◌∷◌, Some, sym, subst, ⊎_elim, MatchBool}
use Rattle.std.specs.List.{AllByRecursion}
use Rattle.std.proofs.lemmas.Bool.{cases_Bool}
use Rattle.ivy_base.specs.declared.key.Key.{Key}
use Rattle.dht_ids.specs.Asked.{route_in, routes}
use Rattle.dht_ids.specs.declared.ask.Answer.{Answer}
use Rattle.dht_ids.specs.declared.ask.Answer.TheVariants as answer
use Rattle.dht_ids.specs.declared.ask.Ask.TheVariants as ask
use Rattle.dht_ids.specs.declared.peer.Peer.{Peer}
use Rattle.dht_ids.specs.Peers.{place}
use Rattle.ring_model.specs.Circle.{number}
use Rattle.ring_model.specs.Ring.{Links}
use Rattle.ring_model.specs.Route.{nearer_part, owners_part, HasOneAtEach, IsRoute}
use Rattle.ring_model.specs.Lookup.{IsFate}
use Rattle.ring_model.proofs.Lists.{some_same}
use Rattle.ring_model.proofs.Routes.{route_is}
use Rattle.dhash_model.specs.State.{State}
use Rattle.chord_core.specs.State.{ring_answer}
use Rattle.chord_core.specs.Laws.{links_of, AreNodes, IsAnswered}

-- the route of a node that is the peer, and by which r nodes own a key
computed : (r replicas : ℕ) (p me : Peer) (links : Links Peer) (key : ℕ) → me ≡ p → replicas ≡ r → HasOneAtEach place links → IsRoute place r p links key (record { nearer = nearer_part place me links key; owners = owners_part place replicas me links.list key })
computed r replicas p me links key m s one =
    subst (λ n. IsRoute place r p links key (record { nearer = nearer_part place n links key; owners = owners_part place replicas n links.list key })) (sym m)
    (subst (λ k. IsRoute place r p links key (record { nearer = nearer_part place p links key; owners = owners_part place k p links.list key })) (sym s)
    (route_is place r p links key one))

fate : (r : ℕ) (lives : Peer → Bool) (nodes : Peer → State) (key : Key) → AreNodes r lives nodes → (p : Peer) (given : Answer) → IsAnswered lives nodes key (p, given) → IsFate place r lives (links_of nodes) (number key) (p, route_in given)
fate r lives nodes key are p given h =
    ⊎_elim
    (λ t.
    let gives : ring_answer (nodes p) (ask.Route key) ≡ Some given = subst (λ b. MatchBool b (ring_answer (nodes p) (ask.Route key) ≡ Some given) (given ≡ answer.Silent)) t h in
    subst (λ g. IsFate place r lives (links_of nodes) (number key) (p, route_in g)) (some_same (answer.Route (nearer_part place (nodes p).me (nodes p).links (number key)) (owners_part place (nodes p).replicas (nodes p).me (nodes p).links.list (number key))) given gives)
    (t, computed r (nodes p).replicas p (nodes p).me (nodes p).links (number key) (are.itself p t) (are.replicas p t) (are.places p t)))
    (λ f.
    let quiet : given ≡ answer.Silent = subst (λ b. MatchBool b (ring_answer (nodes p) (ask.Route key) ≡ Some given) (given ≡ answer.Silent)) f h in
    subst (λ g. IsFate place r lives (links_of nodes) (number key) (p, route_in g)) (sym quiet) f)
    (cases_Bool (lives p))

pub answers_are_fates : (r : ℕ) (lives : Peer → Bool) (nodes : Peer → State) (key : Key) (looks : List (Peer × Answer)) → AreNodes r lives nodes
    → AllByRecursion (IsAnswered lives nodes key) looks → AllByRecursion (IsFate place r lives (links_of nodes) (number key)) (routes looks)
answers_are_fates r lives nodes key [] are h = tt
answers_are_fates r lives nodes key ((p, given) ∷ looks) are h = (fate r lives nodes key are p given h.0, answers_are_fates r lives nodes key looks are h.1)
