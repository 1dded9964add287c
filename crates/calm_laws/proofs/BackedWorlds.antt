-- A world with its ghost state in which all is so, and what leaves it so: nodes that an ask changes, and one participant in place of
-- another.
use Rattle.std.proofs.Common.{◌≡◌, ℕ, Bool, true, false, cond, List, [], ◌∷◌, map, find, Some, refl, sym, ap, ◌∙◌, subst, Contains}
use Rattle.std.specs.List.{AllByRecursion}
use Rattle.std.specs.Str.{bytes_eq}
use Rattle.log_model.specs.Record.{Record}
use Rattle.ring_model.proofs.Lists.{all_weaker}
use Rattle.dht_ids.specs.declared.post.Post.{Post}
use Rattle.world_model.specs.World.{NamedSession, Participant, World, participant, with_participant}
use Rattle.world_model.specs.GhostState.{GhostState, knowing_of, known_of}
use Rattle.world_laws.proofs.Bringing.{found_named}
use Rattle.world_laws.proofs.Placed.{same_name}
use Rattle.calm_laws.proofs.HeldHeads.{AllHoldPut, more_hold}
use Rattle.calm_laws.proofs.Stages.{IsEntryPut, SessionSo, more_entry, more_session}
use Rattle.calm_laws.proofs.Backed.{IsBackedIn, in_more}

abbrev pub AgentsBacked : World → GhostState → Type 0
AgentsBacked w st = (n : List ℕ) (p : Participant) → participant w n ≡ Some p → IsBackedIn w.met st.acked p (known_of st n)

-- of each participant, the heads that it received
abbrev pub AllReceived : List (List ℕ) → List Post → GhostState → Type 0
AllReceived met acked st = (n : List ℕ) → AllByRecursion (IsEntryPut met acked) (knowing_of st n).received

abbrev pub IsStagedIn : World → GhostState → NamedSession → Type 0
IsStagedIn w st s = SessionSo w.met st.acked s.session

pub record IsBackedWorld (w : World) (st : GhostState) : Type 0 where
  pub nodes : AllHoldPut w.met st.acked w.nodes
  pub agents : AgentsBacked w st
  pub sessions : AllByRecursion (IsStagedIn w st) w.sessions
  pub put_met : (p : Post) → Contains st.acked p → Contains w.met p.bytes
  pub received : AllReceived w.met st.acked st

-- ---- the same participants, and more

pub record IsLater (w : World) (st : GhostState) (v : World) (su : GhostState) : Type 0 where
  pub participants : v.participants ≡ w.participants
  pub known : (n : List ℕ) → known_of su n ≡ known_of st n
  pub met : (b : List ℕ) → Contains w.met b → Contains v.met b
  pub acked : (p : Post) → Contains st.acked p → Contains su.acked p

agents_later : (w v : World) (st su : GhostState) → IsLater w st v su → AgentsBacked w st → AgentsBacked v su
agents_later w v st su l h n p is =
    subst (IsBackedIn v.met su.acked p) (sym (l.known n))
    (in_more w.met v.met st.acked su.acked p (known_of st n) (known_of st n) l.met l.acked (λ one c mine. c) (h n p (subst (λ ps. find (λ (x : Participant). bytes_eq x.name n) ps ≡ Some p) l.participants is)))

pub sessions_later : (w v : World) (st su : GhostState) (ss : List NamedSession) → ((b : List ℕ) → Contains w.met b → Contains v.met b) → ((p : Post) → Contains st.acked p → Contains su.acked p) → AllByRecursion (IsStagedIn w st) ss → AllByRecursion (IsStagedIn v su) ss
sessions_later w v st su ss met acked h = all_weaker (IsStagedIn w st) (IsStagedIn v su) ss (λ s g. more_session w.met v.met st.acked su.acked met acked s.session g) h

-- nodes and what was acknowledged are so then
pub later_backed : (w v : World) (st su : GhostState) → IsLater w st v su → AllHoldPut v.met su.acked v.nodes → AllByRecursion (IsStagedIn w st) v.sessions → ((p : Post) → Contains su.acked p → Contains v.met p.bytes) → AllReceived v.met su.acked su → IsBackedWorld w st → IsBackedWorld v su
later_backed w v st su l nodes sessions put_met received h = record {
  nodes = nodes;
  agents = agents_later w v st su l h.agents;
  sessions = sessions_later w v st su v.sessions l.met l.acked sessions;
  put_met = put_met;
  received = received;
}

-- ---- one participant in place of another

found_back : (f : Participant → Participant) → ((p : Participant) → (f p).name ≡ p.name) → (ps : List Participant) (n : List ℕ) (q : Participant) → find (λ o. bytes_eq o.name n) (map f ps) ≡ Some q → (p : Participant) × (find (λ o. bytes_eq o.name n) ps ≡ Some p) × (q ≡ f p)
found_back f same [] n q is = cc is
found_back f same (p ∷ ps) n q is =
    by (bytes_eq p.name n) (subst (λ m. cond (bytes_eq m n) (Some (f p)) (find (λ o. bytes_eq o.name n) (map f ps)) ≡ Some q) (same p) is) (λ h. found_back f same ps n q h)
  where
    by : (b : Bool) → cond b (Some (f p)) (find (λ o. bytes_eq o.name n) (map f ps)) ≡ Some q → (find (λ o. bytes_eq o.name n) (map f ps) ≡ Some q → (p : Participant) × (find (λ o. bytes_eq o.name n) ps ≡ Some p) × (q ≡ f p))
        → (o : Participant) × (cond b (Some p) (find (λ o. bytes_eq o.name n) ps) ≡ Some o) × (q ≡ f o)
    by true h later = (p, refl, cc h)
    by false h later = later h

module _ (w : World) (st su : GhostState) (p q : Participant) (met : List (List ℕ)) (named : q.name ≡ p.name) (meets : (b : List ℕ) → Contains w.met b → Contains met b) (set : List Record)
    (its : known_of su p.name ≡ set) (others : (n : List ℕ) → bytes_eq n p.name ≡ false → known_of su n ≡ known_of st n) (same_acked : su.acked ≡ st.acked) (same_received : (n : List ℕ) → (knowing_of su n).received ≡ (knowing_of st n).received) where
  abbrev put_in : Participant → Participant
  put_in o = cond (bytes_eq o.name q.name) q o

  put_name : (o : Participant) → (put_in o).name ≡ o.name
  put_name o = by (bytes_eq o.name q.name) refl
    where
      by : (b : Bool) → bytes_eq o.name q.name ≡ b → (cond b q o).name ≡ o.name
      by true e = sym (same_name o.name q.name e)
      by false e = refl

  pub agents_placed : (v : World) → v.participants ≡ (with_participant w q).participants → v.met ≡ met → IsBackedIn met su.acked q set → AgentsBacked w st → AgentsBacked v su
  agents_placed v placed met_is new h n x is =
      subst (λ m. IsBackedIn m su.acked x (known_of su n)) (sym met_is)
      (by (bytes_eq back.0.name q.name) refl)
    where
      back : (o : Participant) × (participant w n ≡ Some o) × (x ≡ put_in o)
      back = found_back put_in put_name w.participants n x (subst (λ ps. find (λ (o : Participant). bytes_eq o.name n) ps ≡ Some x) placed is)

      at_n : back.0.name ≡ n
      at_n = (found_named w.participants n back.0 back.1).1

      by : (b : Bool) → bytes_eq back.0.name q.name ≡ b → IsBackedIn met su.acked x (known_of su n)
      by true e =
          let name_is : n ≡ p.name = sym at_n ∙ same_name back.0.name q.name e ∙ named in
          let x_is : x ≡ q = back.2 ∙ ap (λ b. cond b q back.0) e in
          subst (λ m. IsBackedIn met su.acked x (known_of su m)) (sym name_is) (subst (IsBackedIn met su.acked x) (sym its) (subst (λ o. IsBackedIn met su.acked o set) (sym x_is) new))
      by false e =
          let x_is : x ≡ back.0 = back.2 ∙ ap (λ b. cond b q back.0) e in
          let other : bytes_eq n p.name ≡ false = subst (λ m. bytes_eq m p.name ≡ false) at_n (subst (λ m. bytes_eq back.0.name m ≡ false) named e) in
          subst (λ o. IsBackedIn met su.acked o (known_of su n)) (sym x_is) (subst (IsBackedIn met su.acked back.0) (sym (others n other))
          (in_more w.met met st.acked su.acked back.0 (known_of st n) (known_of st n) meets (λ o c. subst (λ l. Contains l o) (sym same_acked) c) (λ one c mine. c) (h n back.0 back.1)))

  -- nodes as they were, and sessions that were there
  pub placed_backed : (v : World) → v.participants ≡ (with_participant w q).participants → v.met ≡ met → v.nodes ≡ w.nodes → AllByRecursion (IsStagedIn w st) v.sessions → IsBackedIn met su.acked q set → IsBackedWorld w st → IsBackedWorld v su
  placed_backed v placed met_is same_nodes sessions new h = record {
    nodes = subst (λ ns. AllHoldPut v.met su.acked ns) (sym same_nodes) (more_hold w.met v.met st.acked su.acked grows (λ o c. subst (λ l. Contains l o) (sym same_acked) c) w.nodes h.nodes);
    agents = agents_placed v placed met_is new h.agents;
    sessions = sessions_later w v st su v.sessions (λ b c. subst (λ m. Contains m b) (sym met_is) (meets b c)) (λ o c. subst (λ l. Contains l o) (sym same_acked) c) sessions;
    put_met = λ o c. grows o.bytes (h.put_met o (subst (λ l. Contains l o) same_acked c));
    received = λ n. subst (AllByRecursion (IsEntryPut v.met su.acked)) (sym (same_received n))
        (all_weaker (IsEntryPut w.met st.acked) (IsEntryPut v.met su.acked) (knowing_of st n).received (λ e g. more_entry w.met v.met st.acked su.acked grows (λ o c. subst (λ l. Contains l o) (sym same_acked) c) e g) (h.received n));
  }
    where
      grows : (b : List ℕ) → Contains w.met b → Contains v.met b
      grows b c = subst (λ m. Contains m b) (sym met_is) (meets b c)
