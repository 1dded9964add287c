-- The line that opens a session leaves a world in which the invariant holds.
use Rattle.std.proofs.Common.{◌≡◌, ◌⊎◌, inl, inr, ⊎_elim, ℕ, ◌+◌, ◌<◌, Bool, true, false, cond, List, [], ◌∷◌, ◌++◌, map, Option, Some, None, refl, sym, ap, ◌∙◌, subst, arith, Contains}
use Rattle.std.specs.Prelude.{is_some, option_map}
use Rattle.std.specs.List.{find}
use Rattle.std.specs.Option.{option_map_or}
use Rattle.std.specs.Str.{bytes_eq}
use Rattle.std.proofs.lemmas.List.Elements.{Contains-append_cases}
use Rattle.std.proofs.lemmas.Slice.Eq.{bytes_eq-Decides}
use Rattle.dhash_model.specs.Signed.{hss_judged}
use Rattle.log_model.proofs.Lists.{each, here, in_cons, in_nothing, there}
use Rattle.log_model.specs.View.{View}
use Rattle.script_driver.specs.Run.{Outcome, Goes}
use Rattle.script_model.specs.Words.{◌>>=◌}
use Rattle.script_model.specs.declared.command.Piece.{Piece}
use Rattle.script_model.specs.Messages.{message_of}
use Rattle.session_model.specs.Sessions.{Session}
use Rattle.world_model.specs.Calls.{BeginsWith, OpenLine, Sending, sending_of}
use Rattle.world_model.specs.Calls.OpenLine.{sends_nothing, is_open, opens}
use Rattle.world_model.specs.World.{World, NamedSession, Participant, participant, session_named}
use Rattle.world_model.specs.GhostState.{Began, GhostState, began_nothing, began_of, beginning, having_begun}
use Rattle.world_model.specs.Logs.{Played}
use Rattle.world_laws.specs.Invariant.{AreApart, HasRing, IsInHand, Invariant}
use Rattle.world_laws.specs.Laws.{OpenLineKeeps}
use Rattle.world_laws.proofs.Beginning.{calls_begin}
use Rattle.world_laws.proofs.Bringing.{found_named}
use Rattle.world_laws.proofs.Frames.{into_map}
use Rattle.world_laws.proofs.OpenSessions.{open_hand, configuration, sessions_keep}

-- ---- lists

map_one : {A B : Type 0} (f : A → B) (xs : List A) (x : A) → map f (xs ++ x ∷ []) ≡ map f xs ++ f x ∷ []
map_one f [] x = refl
map_one f (y ∷ xs) x = ap (λ l. f y ∷ l) (map_one f xs x)

apart_one : (names : List (List ℕ)) (name : List ℕ) → AreApart names → (Contains names name → ⊥) → AreApart (names ++ name ∷ [])
apart_one [] name h new = (λ c. in_nothing name c, tt)
apart_one (n ∷ names) name h new = (
  λ c. ⊎_elim (λ old. h.0 old) (λ one. ⊎_elim (λ is. new (subst (Contains (n ∷ names)) (sym is) (here n names))) (λ none. in_nothing n none) (in_cons name [] n one)) (Contains-append_cases names (name ∷ []) n c),
  apart_one names name h.1 (λ c. new (there n names name c)),
)

-- ---- what is told of sessions

abbrev Named : Type 0
Named = List ℕ × Began

found_before : (bs : List Named) (b : Named) (name : List ℕ) → Contains (map (λ (x : Named). x.0) bs) name
    → find (λ (x : Named). bytes_eq x.0 name) (bs ++ b ∷ []) ≡ find (λ (x : Named). bytes_eq x.0 name) bs
found_before [] b name h = absurd (in_nothing name h)
found_before (x ∷ bs) b name h = by (bytes_eq x.0 name) refl (λ later. found_before bs b name later)
  where
    by : (t : Bool) → bytes_eq x.0 name ≡ t
        → (Contains (map (λ (y : Named). y.0) bs) name → find (λ (y : Named). bytes_eq y.0 name) (bs ++ b ∷ []) ≡ find (λ (y : Named). bytes_eq y.0 name) bs)
        → cond t (Some x) (find (λ (y : Named). bytes_eq y.0 name) (bs ++ b ∷ [])) ≡ cond t (Some x) (find (λ (y : Named). bytes_eq y.0 name) bs)
    by true same again = refl
    by false other again = again (⊎_elim (λ is. absurd (let same : bytes_eq x.0 name ≡ true = (bytes_eq-Decides x.0 name).1 is in cc (sym same ∙ other))) (λ later. later) (in_cons x.0 (map (λ (y : Named). y.0) bs) name h))

found_last : (bs : List Named) (b : Named) → (Contains (map (λ (x : Named). x.0) bs) b.0 → ⊥) → find (λ (x : Named). bytes_eq x.0 b.0) (bs ++ b ∷ []) ≡ Some b
found_last [] b new = ap (λ (t : Bool). cond t (Some b) None) ((bytes_eq-Decides b.0 b.0).1 refl)
found_last (x ∷ bs) b new = by (bytes_eq x.0 b.0) refl (found_last bs b (λ later. new (there x.0 (map (λ (y : Named). y.0) bs) b.0 later)))
  where
    by : (t : Bool) → bytes_eq x.0 b.0 ≡ t → find (λ (y : Named). bytes_eq y.0 b.0) (bs ++ b ∷ []) ≡ Some b → cond t (Some x) (find (λ (y : Named). bytes_eq y.0 b.0) (bs ++ b ∷ [])) ≡ Some b
    by true same found = absurd (new (subst (Contains (x.0 ∷ map (λ (y : Named). y.0) bs)) ((bytes_eq-Decides x.0 b.0).0 same) (here x.0 (map (λ (y : Named). y.0) bs))))
    by false other found = found

not_open : (sessions : List NamedSession) (name : List ℕ) → is_some (option_map (λ (s : NamedSession). s.session) (find (λ s. bytes_eq s.name name) sessions)) ≡ false → Contains (map (λ s. s.name) sessions) name → ⊥
not_open [] name closed h = in_nothing name h
not_open (s ∷ sessions) name closed h = by (bytes_eq s.name name) refl closed (λ f g. not_open sessions name f g)
  where
    by : (t : Bool) → bytes_eq s.name name ≡ t → is_some (option_map (λ (x : NamedSession). x.session) (cond t (Some s) (find (λ x. bytes_eq x.name name) sessions))) ≡ false
        → (is_some (option_map (λ (x : NamedSession). x.session) (find (λ x. bytes_eq x.name name) sessions)) ≡ false → Contains (map (λ x. x.name) sessions) name → ⊥) → ⊥
    by true same f again = cc f
    by false other f again = again f (⊎_elim (λ is. absurd (let same : bytes_eq s.name name ≡ true = (bytes_eq-Decides s.name name).1 is in cc (sym same ∙ other))) (λ later. later) (in_cons s.name (map (λ x. x.name) sessions) name h))

-- ---- the line

module _ (w : Played) (name : List ℕ) (s : Sending) (t : Session) (keeps : Invariant w) (is_by : participant w.0 s.by.name ≡ Some s.by) (in_view : s.by.agent.view ≡ Some s.view) (closed : is_some (session_named w.0 name) ≡ false)
    (begins : BeginsWith w.0 s t) where
  abbrev new : NamedSession
  new = record { name = name; session = t }

  abbrev its : Began
  its = beginning w.1 s.by.name

  abbrev opened : World
  opened = record w.0 { sessions = w.0.sessions ++ new ∷ [] }

  abbrev ghost_state : GhostState
  ghost_state = record (having_begun w.1) { sessions = w.1.sessions ++ (name, its) ∷ [] }

  not_named : Contains (map (λ (x : NamedSession). x.name) w.0.sessions) name → ⊥
  not_named h = not_open w.0.sessions name closed h

  same_began : (x : NamedSession) → Contains w.0.sessions x → began_of ghost_state x.name ≡ began_of w.1 x.name
  same_began x among = ap (λ (o : Option Named). option_map_or (λ (b : Named). b.1) o began_nothing)
      (found_before w.1.sessions (name, its) x.name (subst (λ (names : List (List ℕ)). Contains names x.name) (sym keeps.fits.sessions) (into_map (λ (y : NamedSession). y.name) w.0.sessions x among)))

  its_began : began_of ghost_state name ≡ its
  its_began = ap (λ (o : Option Named). option_map_or (λ (b : Named). b.1) o began_nothing)
      (found_last w.1.sessions (name, its) (λ h. not_named (subst (λ (names : List (List ℕ)). Contains names name) keeps.fits.sessions h)))

  hand_in : (r : ℕ) → w.0.replicas ≡ Some r → IsInHand (record { world = w.0; ghost_state = having_begun w.1; session = t; began = its }) r
  hand_in r ringed = calls_begin w r s t keeps ringed is_by in_view begins

  there_is : (ps : List Participant) → ps ≡ [] → Contains ps s.by → ⊥
  there_is [] e h = in_nothing s.by h
  there_is (q ∷ ps) e h = cc e

  module _ (r : ℕ) (ringed : w.0.replicas ≡ Some r) where
    hand : IsInHand (record { world = w.0; ghost_state = having_begun w.1; session = t; began = its }) r
    hand = hand_in r ringed

    number_of : (x : NamedSession) → Contains w.0.sessions x → (began_of ghost_state x.name).number < w.1.begun
    number_of x among = subst (λ (b : Began). b.number < w.1.begun) (sym (same_began x among)) (each (λ (y : NamedSession). (began_of w.1 y.name).number < w.1.begun) w.0.sessions x keeps.numbers.sessions among)

    number_is : (began_of ghost_state name).number ≡ w.1.begun
    number_is = ap (λ (b : Began). b.number) its_began

    by_number : (x y : NamedSession) → Contains w.0.sessions x ⊎ Contains (new ∷ []) x → Contains w.0.sessions y ⊎ Contains (new ∷ []) y → (began_of ghost_state x.name).number ≡ (began_of ghost_state y.name).number → x ≡ y
    by_number x y (inl a) (inl b) e = keeps.numbers.apart x y a b (sym (ap (λ (o : Began). o.number) (same_began x a)) ∙ e ∙ ap (λ (o : Began). o.number) (same_began y b))
    by_number x y (inl a) (inr b) e = ⊎_elim
        (λ is. absurd (let below = number_of x a in let same : (began_of ghost_state y.name).number ≡ w.1.begun = subst (λ (o : NamedSession). (began_of ghost_state o.name).number ≡ w.1.begun) is number_is in omega (arith, below, same, e)))
        (λ none. absurd (in_nothing y none)) (in_cons new [] y b)
    by_number x y (inr a) (inl b) e = ⊎_elim
        (λ is. absurd (let below = number_of y b in let same : (began_of ghost_state x.name).number ≡ w.1.begun = subst (λ (o : NamedSession). (began_of ghost_state o.name).number ≡ w.1.begun) is number_is in omega (arith, below, same, e)))
        (λ none. absurd (in_nothing x none)) (in_cons new [] x a)
    by_number x y (inr a) (inr b) e = ⊎_elim (λ is. ⊎_elim (λ also. sym is ∙ also) (λ none. absurd (in_nothing y none)) (in_cons new [] y b)) (λ none. absurd (in_nothing x none)) (in_cons new [] x a)

    hand_of : (x : NamedSession) → Contains opened.sessions x → IsInHand (configuration w keeps r ringed (w.1.begun + 1) x.session (began_of ghost_state x.name)) r
    hand_of x among = ⊎_elim
        (λ old. subst (λ (b : Began). IsInHand (configuration w keeps r ringed (w.1.begun + 1) x.session b) r) (sym (same_began x old)) (open_hand w keeps r ringed (w.1.begun + 1) (omega arith) x old))
        (λ one. ⊎_elim
        (λ is. subst (λ (y : NamedSession). IsInHand (configuration w keeps r ringed (w.1.begun + 1) y.session (began_of ghost_state y.name)) r) is (subst (λ (b : Began). IsInHand (configuration w keeps r ringed (w.1.begun + 1) t b) r) (sym its_began) hand))
        (λ none. absurd (in_nothing x none)) (in_cons new [] x one))
        (Contains-append_cases w.0.sessions (new ∷ []) x among)

    keeps_then : Invariant (opened, ghost_state)
    keeps_then = sessions_keep w keeps r ringed opened.sessions ghost_state.sessions (w.1.begun + 1) (omega arith) (record {
      told_of = map_one (λ (b : Named). b.0) w.1.sessions (name, its) ∙ ap (λ (names : List (List ℕ)). names ++ name ∷ []) keeps.fits.sessions ∙ sym (map_one (λ (x : NamedSession). x.name) w.0.sessions new);
      named_once = subst AreApart (sym (map_one (λ (x : NamedSession). x.name) w.0.sessions new)) (apart_one (map (λ (x : NamedSession). x.name) w.0.sessions) name keeps.named_once not_named);
      numbered = λ x y a b e. by_number x y (Contains-append_cases w.0.sessions (new ∷ []) x a) (Contains-append_cases w.0.sessions (new ∷ []) y b) e;
      each_hand = hand_of;
    })

  opened_so : (o : Option ℕ) → w.0.replicas ≡ o → Invariant (opened, ghost_state)
  opened_so None none = absurd (there_is w.0.participants (subst (HasRing w.0) none keeps.ring).1 (found_named w.0.participants s.by.name s.by is_by).0)
  opened_so (Some r) ringed = keeps_then r ringed

-- ---- what is sent

pub record IsSent (w : World) (name : List ℕ) (pieces : List Piece) (s : Sending) : Type 0 where
  pub is_by : participant w name ≡ Some s.by
  pub in_view : s.by.agent.view ≡ Some s.view
  pub is_message : message_of w.replies s.view pieces ≡ Some s.message

sent_message : (p : Participant) (view : View) (m : Option (List ℕ)) (s : Sending) → (m >>= (λ message. Some (let x : Sending = record { by = p; view = view; message = message } in x))) ≡ Some s → (p ≡ s.by) × (view ≡ s.view) × (m ≡ Some s.message)
sent_message p view None s e = cc e
sent_message p view (Some message) s e = let is : (let x : Sending = record { by = p; view = view; message = message } in x) ≡ s = cc e in (ap (λ (x : Sending). x.by) is, ap (λ (x : Sending). x.view) is, ap (λ (x : Sending). Some x.message) is)

sent_view : (w : World) (pieces : List Piece) (p : Participant) (o : Option View) (s : Sending) → p.agent.view ≡ o
    → (o >>= (λ view. message_of w.replies view pieces >>= (λ message. Some (let x : Sending = record { by = p; view = view; message = message } in x)))) ≡ Some s
    → (p ≡ s.by) × (s.by.agent.view ≡ Some s.view) × (message_of w.replies s.view pieces ≡ Some s.message)
sent_view w pieces p None s is e = cc e
sent_view w pieces p (Some view) s is e =
    let parts = sent_message p view (message_of w.replies view pieces) s e in
    (parts.0, ap (λ (q : Participant). q.agent.view) (sym parts.0) ∙ is ∙ ap Some parts.1, ap (λ (v : View). message_of w.replies v pieces) (sym parts.1) ∙ parts.2)

sent_of : (w : World) (name : List ℕ) (pieces : List Piece) (o : Option Participant) (s : Sending) → participant w name ≡ o
    → (o >>= (λ p. p.agent.view >>= (λ view. message_of w.replies view pieces >>= (λ message. Some (let x : Sending = record { by = p; view = view; message = message } in x))))) ≡ Some s → IsSent w name pieces s
sent_of w name pieces None s is e = cc e
sent_of w name pieces (Some p) s is e = let parts = sent_view w pieces p p.agent.view s refl e in record { is_by = is ∙ ap Some parts.0; in_view = parts.1; is_message = parts.2 }

-- what a line sends is of the participant that it names
pub sent_by : (w : World) (name : List ℕ) (pieces : List Piece) (s : Sending) → sending_of w name pieces ≡ Some s → IsSent w name pieces s
sent_by w name pieces s is = sent_of w name pieces (participant w name) s refl is

by_line : (session name : List ℕ) (pieces : List Piece) (w next : Played) (output : List ℕ) (o : Option Sending) (result : Outcome Played) → Invariant w → sending_of w.0 name pieces ≡ o → OpenLine hss_judged w session o result → result ≡ Goes next output → Invariant next
by_line session name pieces w next output _ _ keeps is sends_nothing e = cc e
by_line session name pieces w next output _ _ keeps is (is_open s already) e = cc e
by_line session name pieces w next output _ _ keeps is (opens s t closed begins) e =
    let sent = sent_by w.0 name pieces s is in
    let named : s.by.name ≡ name = (found_named w.0.participants name s.by sent.is_by).1 in
    subst Invariant (cc e) (opened_so w session s t keeps (subst (λ (n : List ℕ). participant w.0 n ≡ Some s.by) (sym named) sent.is_by) sent.in_view closed begins w.0.replicas refl)

pub open_line_keeps : OpenLineKeeps
open_line_keeps session log pieces w next output keeps does = by_line session log pieces w next output (sending_of w.0 log pieces) (Goes next output) keeps refl does refl
