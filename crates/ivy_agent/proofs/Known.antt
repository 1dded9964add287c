-- Of posts that have their names, the same ones are acknowledged by their keys as by their names.
use Rattle.std.proofs.Common.{◌≡◌, ◌⊎◌, ⊎_elim, Bool, true, false, cond, not, ◌&&◌, List, [], ◌∷◌, filter, refl, sym, ap, ◌∙◌}
use Rattle.std.specs.List.{AllByRecursion, list_any}
use Rattle.std.specs.Prelude.{IsTrue}
use Rattle.ivy_base.specs.declared.key.Key.{Key}
use Rattle.ivy_base.specs.Naming.{name}
use Rattle.tree_model.specs.Tree.{same_key}
use Rattle.dht_ids.specs.declared.post.Ack.{Ack}
use Rattle.dht_ids.specs.declared.post.Post.{Post}
use Rattle.agent_model.specs.Agent.{is_head}
use Rattle.agent_model.specs.Others.{is_of}
use Rattle.agent_model.specs.SavedBytes.{HasItsName}
use Rattle.ivy_agent.specs.Settling.{is_known_settled, known_name}

named_either : (head : Bool) (n k : Key) → (head ≡ true) ⊎ (k ≡ n) → cond head n k ≡ n
named_either true n k h = refl
named_either false n k h = ⊎_elim (λ is. absurd (cc is)) (λ same. same) h

named : (p : Post) → HasItsName p → known_name p ≡ name p.bytes
named p h = named_either (is_head p.kind) (name p.bytes) p.key h

settled : (acks : List Ack) (p : Post) → HasItsName p → is_known_settled acks p ≡ list_any (λ ack. is_of ack p) acks
settled acks p h = ap (λ (n : Key). list_any (λ (ack : Ack). same_key ack.key p.key && same_key ack.name n) acks) (named p h)

pub unsettled : (acks : List Ack) (posts : List Post) → AllByRecursion HasItsName posts → filter (λ p. not (is_known_settled acks p)) posts ≡ filter (λ p. not (list_any (λ ack. is_of ack p) acks)) posts
unsettled acks [] h = refl
unsettled acks (p ∷ posts) h = λ i. cond (not (settled acks p h.0 i)) (p ∷ unsettled acks posts h.1 i) (unsettled acks posts h.1 i)
