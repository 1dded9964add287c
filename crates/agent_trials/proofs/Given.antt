-- What an agent of the trials may be asked.
use Rattle.std.proofs.Common.{◌≡◌, List, [], ◌∷◌, ◌++◌, Option, Some, None, IfSome, Result, sym, ◌∙◌, subst, Contains}
use Rattle.std.specs.Prelude.{IsSomeAnd}
use Rattle.std.specs.List.{AllByRecursion, slice_get}
use Rattle.ivy_base.specs.declared.key.PubKey.{PubKey}
use Rattle.log_model.specs.Record.{Record}
use Rattle.log_model.specs.Vector.{Stamp}
use Rattle.log_model.specs.View.{View}
use Rattle.log_model.proofs.Lists.{here}
use Rattle.log_model.specs.Fetched.{GoesOnFrom, IsSound, owner_of, stamp_in}
use Rattle.log_records.specs.Batches.{Batch}
use Rattle.nfs_model.specs.declared.arguments.Args.{Args}
use Rattle.nfs_model.specs.Arguments.{ArgumentsFit}
use Rattle.rpc_wire.specs.Callers.{identity_of}
use Rattle.rpc_wire.specs.declared.call.Caller.{Caller}
use Rattle.wire_model.specs.Rpc.{IsIdentity}
use Rattle.ivy_agent.specs.Turns.{IsFetchedIn}
use Rattle.ivy_agent.specs.Holders.{Holder}
use Rattle.ivy_agent.specs.Turns.{TakesTurn}
use Rattle.log_fetch.specs.Standings.{asked_of, refresh_of}
use Rattle.log_fetch.specs.declared.turned.Turned.{Turned}
use Rattle.log_fetch.specs.declared.turned.TurnFault.{TurnFault}
use Rattle.agent_gate.specs.Taking.{AgentKind}
use Rattle.agent_gate.specs.declared.request.TurnRequest.{TurnRequest}
use Rattle.agent_gate.proofs.Left.{took_left}
use Rattle.agent_trials.specs.Agents.{IsAsked}

pub in_each_view : (P : View → Type 0) (o : Option View) → IsSomeAnd o (λ view. Unit {0}) → ((view : View) → P view) → IsSomeAnd o P
in_each_view P (Some view) some each = each view
in_each_view P None some each = absurd some

pub is_asked : (caller : Caller) (args : Args) → IsIdentity (identity_of caller) → ArgumentsFit args → IsAsked (record { caller = caller; args = args })
is_asked caller args identity fits = λ now moment. record { caller = identity; args = fits; moment = moment }

pub none_fetched : (view : View) (b : Batch) → b.chains ≡ [] → IsFetchedIn view b
none_fetched view b none = record {
  under = (λ log. None, subst (AllByRecursion (λ (c : Stamp × List Record). GoesOnFrom view (stamp_in b.held c.1) None c.1)) (sym none) tt);
  members = subst (AllByRecursion (λ (c : Stamp × List Record). Contains view.members (owner_of c.1))) (sym none) tt;
}

pub one_fetched : (view : View) (old b : Batch) (head : Stamp) (records : List Record) → old.chains ≡ [] → b ≡ record old { chains = old.chains ++ (head, records) ∷ [] } → IsSound view old.held None head records
    → Contains view.members (owner_of records) → IsFetchedIn view b
one_fetched view old b head records none is sound member = subst (IsFetchedIn view) (sym is) (record {
  under = (λ log. None, subst (λ (l : List (Stamp × List Record)). AllByRecursion (λ (c : Stamp × List Record). GoesOnFrom view (stamp_in old.held c.1) None c.1) (l ++ (head, records) ∷ [])) (sym none) (sound.goes_on, tt));
  members = subst (λ (l : List (Stamp × List Record)). AllByRecursion (λ (c : Stamp × List Record). Contains view.members (owner_of c.1)) (l ++ (head, records) ∷ [])) (sym none) (member, tt);
})

pub first_contained : (xs : List PubKey) (x : PubKey) → Some x ≡ slice_get xs 0 → Contains xs x
first_contained [] x e = absurd (cc e)
first_contained (y ∷ ys) x e = let same : y ≡ x = cc e in subst (λ (z : PubKey). Contains (y ∷ ys) z) same (here y ys)

-- after a turn an agent is in a view, where it was before
pub stays_in_view : {K S : Type 0} (kind : AgentKind K S) (before after : Holder K S) (asked : TurnRequest) (result : Result Turned TurnFault) (P : View → Type 0) (o : Option View) → before.agent.view ≡ o → IsSomeAnd o P
    → IfSome o (λ view. TakesTurn kind.signs kind.IsWhole kind.saves view (refresh_of asked.refresh) (asked_of asked.asked) asked.now before result after) → IsSomeAnd after.agent.view (λ view. Unit {0})
stays_in_view kind before after asked result P (Some view) is some turn =
    let left = took_left kind before asked result after (record { view = view; in_view = is; turn = turn }) in
    subst (λ (o : Option View). IsSomeAnd o (λ view. Unit {0})) (sym (left.view ∙ is)) tt
stays_in_view kind before after asked result P None is some turn = absurd some
