-- There is one turn at most, and where the candidates bring nothing that isn't known it is on what is known. They bring nothing where the agent is its
-- view's only member.
use Rattle.std.proofs.Common.{◌≡◌, ⊎_elim, inl, List, [], ◌∷◌, map, Contains, refl, sym, ap, ◌∙◌, subst}
use Rattle.ivy_base.specs.declared.operation.Moment.{Moment}
use Rattle.log_model.specs.View.{View}
use Rattle.log_model.specs.Record.{Record}
use Rattle.log_model.specs.Closed.{IsClosed, IsClosedPart}
use Rattle.std.specs.Ordering.{eq_by_cmp}
use Rattle.ivy_base.specs.declared.key.PubKey.{PubKey}
use Rattle.ivy_base.specs.Naming.{owner_cmp}
use Rattle.turn_model.specs.Candidates.{Evidence, IsCandidate, own_log, newest, as_known, OnlyMemberHasNothingNew}
use Rattle.log_model.proofs.Lists.{here, there, in_cons, in_nothing, each, from_filter}
use Rattle.log_model.proofs.Sets.{same_list}
use Rattle.turn_model.specs.Turn.{Inputs, Asked, Candidate, Turned, IsAvailable, IsTurn, BringNothing, TurnIsUnique, TurnIsOnKnown, turn_on}

available_known : (known : List Record) (candidates : List Candidate) → BringNothing known candidates → (r : Record) → IsAvailable known candidates r → Contains known r
available_known known candidates nothing r h = ⊎_elim (λ k. k) (λ c. nothing c.0 c.1 r c.3) h

pub part_is_known : (view : View) (known : List Record) (candidates : List Candidate) → IsClosed view known → BringNothing known candidates → IsClosedPart view (IsAvailable known candidates) known
part_is_known view known candidates closed nothing = record {
  part = λ r c. inl c;
  closed = closed;
  largest = λ t within closed_t r c. available_known known candidates nothing r (within r c);
}

pub turn_is_unique : TurnIsUnique
turn_is_unique a known candidates asked now one other t u =
    let same : t.taken ≡ u.taken = same_list t.taken u.taken t.largest.closed.ascending u.largest.closed.ascending
    (u.largest.largest t.taken t.largest.part t.largest.closed)
    (t.largest.largest u.taken u.largest.part u.largest.closed) in
    t.by_set ∙ ap (λ (s : List Record). turn_on a s asked now) same ∙ sym u.by_set

pub turn_of_known : (a : Inputs) (known : List Record) (candidates : List Candidate) (asked : Asked) (now : Moment) → IsClosed a.view known → BringNothing known candidates
    → IsTurn a known candidates asked now (turn_on a known asked now)
turn_of_known a known candidates asked now closed nothing = record { taken = known; largest = part_is_known a.view known candidates closed nothing; by_set = refl }

pub turn_is_of_known : (a : Inputs) (known : List Record) (candidates : List Candidate) (asked : Asked) (now : Moment) (turned : Turned) → IsClosed a.view known → BringNothing known candidates
    → IsTurn a known candidates asked now turned → turned ≡ turn_on a known asked now
turn_is_of_known a known candidates asked now turned closed nothing turn =
    let same : turn.taken ≡ known = same_list turn.taken known turn.largest.closed.ascending closed.ascending
    (λ r c. available_known known candidates nothing r (turn.largest.part r c))
    (λ r c. turn.largest.largest known (λ q d. inl d) closed r c) in
    turn.by_set ∙ ap (λ (s : List Record). turn_on a s asked now) same

pub turn_is_on_known : TurnIsOnKnown
turn_is_on_known a known candidates asked now turned closed nothing = (
  turn_is_of_known a known candidates asked now turned closed nothing,
  λ e. subst (λ (t : Turned). IsTurn a known candidates asked now t) (sym e) (turn_of_known a known candidates asked now closed nothing),
)

in_owners : (candidates : List Candidate) (c : Candidate) → Contains candidates c → Contains (map (λ d. d.owner) candidates) c.owner
in_owners [] c within = absurd (in_nothing c within)
in_owners (d ∷ candidates) c within = ⊎_elim
    (λ e. subst (λ (x : Candidate). Contains (d.owner ∷ map (λ y. y.owner) candidates) x.owner) e (here d.owner (map (λ y. y.owner) candidates)))
    (λ more. there d.owner (map (λ y. y.owner) candidates) c.owner (in_owners candidates c more))
    (in_cons d candidates c within)

own_chain : (e : Evidence) (owner : PubKey) (chain : List Record) → IsCandidate e owner chain → owner ≡ e.own → (r : Record) → Contains chain r → Contains e.known r
own_chain e owner _ (own_log mine) same r c = (from_filter (λ (x : Record). eq_by_cmp owner_cmp owner x.owner) e.known r c).0
own_chain e owner _ (newest head chain apart tried makes first) same r c = absurd (apart same)
own_chain e owner _ (as_known apart none) same r c = absurd (apart same)

pub only_member_has_nothing_new : OnlyMemberHasNothingNew
only_member_has_nothing_new e candidates alone are c within r in_chain =
    let named : Contains (e.own ∷ []) c.owner = subst (λ (owners : List PubKey). Contains owners c.owner) (are.of_members ∙ alone) (in_owners candidates c within) in
    let same : c.owner ≡ e.own = ⊎_elim (λ is. sym is) (λ none. absurd (in_nothing c.owner none)) (in_cons e.own [] c.owner named) in
    own_chain e c.owner c.chain (each (λ (d : Candidate). IsCandidate e d.owner d.chain) candidates c are.each within) same r in_chain
