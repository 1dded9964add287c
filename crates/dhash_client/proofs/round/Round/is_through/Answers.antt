use Rattle.std.proofs.Common.{rules, ◌≡◌, [], MatchBool, nat_eq, subst}
use Rattle.dhash_client.proofs.Rounds.{through}
use Rattle.dhash_client.proofs.round.Round.is_through.Goals as goal

pub returns : goal.returns
returns c =
    subst (λ s. MatchBool (nat_eq c.self.inside.at c.len.result) (s.rest ≡ []) (s.rest ≡ [] → ⊥)) c.self.view_is
    (through c.self.inside.owners.items c.self.inside.at c.len.result c.self.invariant.0 (search rules))
