-- An agent without a basis holds a record of each log that its front names for a member, so its standing has an edge of it: a refresh that starts there isn't misled.
use Rattle.std.proofs.Common.{◌≡◌, ◌⊎◌, inl, inr, ⊎_elim, ◌≤◌, ◌++◌, Bool, true, false, cond, List, [], ◌∷◌, Option, Some, None, refl, sym, ap, ◌∙◌, subst, arith, Contains}
use Rattle.std.specs.Prelude.{find, fold, is_some, option_map}
use Rattle.std.specs.Cmp.{eq_by_cmp_equiv}
use Rattle.std.specs.FinMap.Entries.{find as value_at, find-put, put}
use Rattle.std.specs.Ordering.{eq_by_cmp}
use Rattle.ivy_base.specs.declared.key.Key.{Key}
use Rattle.ivy_base.specs.declared.key.PubKey.{PubKey}
use Rattle.ivy_base.specs.Naming.{head_key_of, key_cmp}
use Rattle.tree_model.specs.Tree.{same_key}
use Rattle.tree_model.proofs.Keys.{keys_total, same_key_itself}
use Rattle.log_model.specs.Closed.{IsClosed}
use Rattle.log_model.specs.Fetched.{Edge, as_edge}
use Rattle.log_model.specs.Rank.{front, full_vector}
use Rattle.log_model.specs.Record.{Record}
use Rattle.log_model.specs.Vector.{Entry, Stamp, Vector, seq_of, stamp_at}
use Rattle.log_model.specs.View.{View, is_member}
use Rattle.log_model.proofs.Later.{good_of, seq_with}
use Rattle.log_model.proofs.Lists.{each, each_from, here, in_cons, in_nothing}
use Rattle.log_model.proofs.Part.{found_stamp}
use Rattle.turn_model.specs.Basis.{Basis, Holding, HoldsAll, fresh_basis}
use Rattle.turn_model.specs.Candidates.{IsCandidate}
use Rattle.turn_model.specs.Turn.{Candidate}
use Rattle.turn_laws.proofs.Heads.{member_is}
use Rattle.turn_laws.proofs.Starts.{Stands, front_dominates, front_stands}
use Rattle.agent_model.specs.Agent.{joined}
use Rattle.agent_model.specs.Candidates.{Grounds, IsCandidateOf, IsMisled, evidence_in}
use Rattle.agent_model.specs.Candidates.IsCandidateOf.{misled, by_heads}
use Rattle.agent_model.specs.Standing.{Standing, edge_at, edges_of}
use Rattle.session_model.specs.Executions.{grounds_of}
use Rattle.session_laws.proofs.Starting.{joined_front}
use Rattle.world_laws.specs.Laws.{FreshCandidatesAreByHeads, FreshStandingsDontMislead}
use Rattle.world_laws.proofs.Frames.{into_map}
use Rattle.world_laws.proofs.SecondTurns.{started_held}

-- ---- edges of what is held

abbrev Edges : Type 0
Edges = List (Key × Edge)

with_edge : Edges → Record → Edges
with_edge edges r = put key_cmp (head_key_of r.owner) (as_edge r) edges

HasEdge : Key → Edges → Type 0
HasEdge log edges = is_some (value_at key_cmp log edges) ≡ true

some_either : (b : Bool) (e : Edge) (o : Option Edge) → (b ≡ true) ⊎ (is_some o ≡ true) → is_some (cond b (Some e) o) ≡ true
some_either true e o h = refl
some_either false e o h = ⊎_elim (λ yes. cc yes) (λ some. some) h

has_with : (log : Key) (edges : Edges) (r : Record) → (eq_by_cmp key_cmp log (head_key_of r.owner) ≡ true) ⊎ HasEdge log edges → HasEdge log (with_edge edges r)
unfolding HasEdge with_edge
has_with log edges r h = ap is_some (find-put key_cmp keys_total log (head_key_of r.owner) (as_edge r) edges)
    ∙ some_either (eq_by_cmp key_cmp log (head_key_of r.owner)) (as_edge r) (value_at key_cmp log edges) h

keeps_edge : (log : Key) (edges : Edges) (rs : List Record) → HasEdge log edges → HasEdge log (fold with_edge edges rs)
keeps_edge log edges [] has = has
keeps_edge log edges (r ∷ rs) has = keeps_edge log (with_edge edges r) rs (has_with log edges r (inr has))

-- each held record's log has an edge
held_has_edge : (edges : Edges) (held : List Record) (r : Record) → Contains held r → HasEdge (head_key_of r.owner) (fold with_edge edges held)
held_has_edge edges [] r c = absurd (in_nothing r c)
held_has_edge edges (q ∷ held) r c = ⊎_elim
    (λ same. keeps_edge (head_key_of r.owner) (with_edge edges q) held (has_with (head_key_of r.owner) edges q
    (inl (subst (λ (x : Record). eq_by_cmp key_cmp (head_key_of r.owner) (head_key_of x.owner) ≡ true) (sym same) (same_key_itself (head_key_of r.owner))))))
    (λ later. held_has_edge (with_edge edges q) held r later)
    (in_cons q held r c)

abbrev Finds : Key → Edges → Type 0
Finds log edges = is_some (option_map (λ (e : Key × Edge). e.1) (find (λ (e : Key × Edge). same_key e.0 log) edges)) ≡ true

is_found : (log : Key) (edges : Edges) → is_some (value_at key_cmp log edges) ≡ true → Finds log edges
is_found log [] some = some
is_found log (e ∷ edges) some = by (same_key e.0 log) (eq_by_cmp key_cmp log e.0) ((eq_by_cmp_equiv keys_total).symm e.0 log) some (is_found log edges)
  where
    by : (b c : Bool) → b ≡ c → is_some (cond c (Some e.1) (value_at key_cmp log edges)) ≡ true → (is_some (value_at key_cmp log edges) ≡ true → Finds log edges)
        → is_some (option_map (λ (x : Key × Edge). x.1) (cond b (Some e) (find (λ (x : Key × Edge). same_key x.0 log) edges))) ≡ true
    by true c same some rest = refl
    by false true same some rest = cc same
    by false false same some rest = rest some

edge_is_some : (log : Key) (h : Holding) (r : Record) → Contains h.held r → head_key_of r.owner ≡ log
    → Finds log (edges_of h)
unfolding HasEdge with_edge
edge_is_some log h r c same = is_found log (edges_of h) (subst (λ (k : Key). is_some (value_at key_cmp k (edges_of h)) ≡ true) same (held_has_edge [] h.held r c))

-- ---- where a basis covers nothing, all that is known is held

none_covered : (view : View) (below : List Record) → IsClosed view below → [] ≡ front below → below ≡ []
none_covered view [] closed none = refl
none_covered view (r ∷ rs) closed none =
    let good = good_of view (r ∷ rs) r closed (here r rs) in
    let log = head_key_of r.owner in
    let far : seq_of (full_vector r) log ≤ seq_of (front (r ∷ rs)) log = front_dominates (r ∷ rs) r (here r rs) log in
    let nowhere : 0 ≡ seq_of (front (r ∷ rs)) log = ap (λ (v : Vector). seq_of v log) none in
    let itself : seq_of (full_vector r) log ≡ r.seq = seq_with r.vector r log good.spelled.of_others ∙ ap (λ (b : Bool). cond b r.seq (seq_of r.vector log)) (same_key_itself log) in
    let some = good.spelled.some in
    absurd (omega (arith, far, nowhere, itself, some))

all_is_held : (view : View) (known : List Record) (h : Holding) → HoldsAll view known h → h.basis ≡ fresh_basis → known ≡ h.held
all_is_held view known h all fresh =
    let none : all.below ≡ [] = none_covered view all.below all.stands.closed (ap (λ (b : Basis). b.front) (sym fresh) ∙ all.stands.front) in
    all.whole ∙ ap (λ (below : List Record). below ++ h.held) none

-- a member's entry of what is held comes of a held record
of_held : (view : View) (known : List Record) (h : Holding) (owner : PubKey) (t : Stamp) → IsClosed view known → HoldsAll view known h → h.basis ≡ fresh_basis
    → Contains view.members owner → stamp_at (joined h) (head_key_of owner) ≡ Some t → (r : Record) × Contains h.held r × (head_key_of r.owner ≡ head_key_of owner)
of_held view known h owner t closed all fresh member is = ⊎_elim
    (λ none. absurd (not_some (stamp_at (front known) (head_key_of owner)) t none at))
    (λ f.
    let named : is_member view f.0.0 ≡ true = subst (λ (k : Key). is_member view k ≡ true) (sym f.2) (member_is view owner member) in
    let w = each (Stands view known closed) (front known) f.0 (front_stands view known closed) f.1 named in
    (w.0, subst (λ (s : List Record). Contains s w.0) (all_is_held view known h all fresh) w.1, ap (λ (x : Entry). x.0) w.2 ∙ f.2))
    (found_stamp (front known) (head_key_of owner))
  where
    at : stamp_at (front known) (head_key_of owner) ≡ Some t
    at = ap (λ (v : Vector). stamp_at v (head_key_of owner)) (sym (joined_front view known h all)) ∙ is

    not_some : (o : Option Stamp) (u : Stamp) → o ≡ None → o ≡ Some u → ⊥
    not_some o u none some = cc (sym none ∙ some)

-- ---- the laws

no_edge_at : (s : Standing) (log : Key) (edges : Edges) → s.edges ≡ edges → Finds log edges
    → edge_at s log ≡ None → ⊥
no_edge_at s log edges are some none =
    cc (sym some ∙ ap (λ (es : Edges). is_some (option_map (λ (e : Key × Edge). e.1) (find (λ (e : Key × Edge). same_key e.0 log) es))) (sym are) ∙ ap is_some none)

nothing_at : (o : Option Stamp) (t : Stamp) → o ≡ None → o ≡ Some t → ⊥
nothing_at o t none some = cc (sym none ∙ some)

pub fresh_standings_dont_mislead : FreshStandingsDontMislead
fresh_standings_dont_mislead g view of owner records knows fresh held edges member m = ⊎_elim
    (λ nothing. nothing_at (stamp_at (joined of) (head_key_of owner)) m.from (ap (λ (h : Holding). stamp_at (joined h) (head_key_of owner)) nothing) starts)
    (λ all.
    let one = of_held view g.knew of owner m.from knows.closed all fresh member starts in
    no_edge_at g.standing (head_key_of owner) (edges_of of) edges (edge_is_some (head_key_of owner) of one.0 one.1 one.2) m.no_edge)
    knows.holds
  where
    starts : stamp_at (joined of) (head_key_of owner) ≡ Some m.from
    starts = ap (λ (v : Vector). stamp_at v (head_key_of owner)) (sym held) ∙ m.starts

-- where nothing misleads, a candidate is one by the heads
by_its_heads : (g : Grounds) (view : View) (started : Vector) (owner : PubKey) (chain : List Record) → ((records : List Record) → IsMisled g view started owner records → ⊥)
    → IsCandidateOf g view started owner chain → IsCandidate (evidence_in g view) owner chain
by_its_heads g view started owner _ none (misled records m) = absurd (none records m)
by_its_heads g view started owner _ none (by_heads chain not_misled candidate) = candidate

pub fresh_candidates_are_by_heads : FreshCandidatesAreByHeads
fresh_candidates_are_by_heads w st s b met notes given candidates sound fresh done are = record {
  of_members = are.of_members;
  each = each_from (λ (c : Candidate). IsCandidate (evidence_in g s.standing.view) c.owner c.chain) candidates (λ c within.
      by_its_heads g s.standing.view given.started c.owner c.chain (not_misled c within)
      (each (λ (d : Candidate). IsCandidateOf g s.standing.view given.started d.owner d.chain) candidates c are.each within));
}
  where
    g : Grounds
    g = grounds_of met s b.knew

    member : (c : Candidate) → Contains candidates c → Contains s.standing.view.members c.owner
    member c within = subst (λ (l : List PubKey). Contains l c.owner) are.of_members (into_map (λ (d : Candidate). d.owner) candidates c within)

    not_misled : (c : Candidate) → Contains candidates c → (records : List Record) → IsMisled g s.standing.view given.started c.owner records → ⊥
    not_misled c within records m = fresh_standings_dont_mislead g s.standing.view sound.of c.owner records sound.knows fresh.1 sound.held sound.edges (member c within)
        (subst (λ (v : Vector). IsMisled g s.standing.view v c.owner records) (started_held done.1 fresh.0) m)
