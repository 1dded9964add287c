-- What a driver of a look-up keeps: what may follow now, after what it was told so far, may follow from the start.
use Rattle.std.proofs.Common.{◌++◌, List, [], Option, None, subst, sym}
use Rattle.std.proofs.lemmas.List.{append_assoc, append-nil}
use Rattle.ivy_base.specs.declared.key.Key.{Key}
use Rattle.dht_ids.specs.declared.peer.Peer.{Peer}
use Rattle.ring_model.specs.Lookup.{IsLookup}
use Rattle.dhash_client.specs.Machine.{State, Trail, Follow, FollowsAfter, fresh}

pub follows_both : (first second : Trail) (a b c : State) → FollowsAfter first a b → FollowsAfter second b c → FollowsAfter (first ++ second) a c
follows_both first second a b c f g = λ trail found h. subst (λ t. Follow a t found) (sym (append_assoc first second trail)) (f (second ++ trail) found (g trail found h))

-- at the end the asks and answers are a look-up of the definition, from the entries
pub is_look_up : (key : Key) (entries : List Peer) (trail : Trail) (found : Option (List Peer)) (now : State) → FollowsAfter trail (fresh key entries) now → Follow now [] found → IsLookup [] None entries trail found
is_look_up key entries trail found now f h = subst (λ t. IsLookup [] None entries t found) (append-nil trail) (f [] found h)
