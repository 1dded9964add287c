-- What is to be asked is the next ask of a get.
use Rattle.std.proofs.Common.{◌≡◌, ℕ, List, Option, Some, None, sym, subst}
use Rattle.ivy_base.specs.declared.key.Key.{Key}
use Rattle.ivy_base.specs.Naming.{head_key_of}
use Rattle.log_model.specs.Vector.{Vector}
use Rattle.dht_ids.specs.declared.ask.Ask.{Ask}
use Rattle.dht_ids.specs.declared.ask.Ask.TheVariants as ask
use Rattle.dht_ids.specs.declared.ask.Heard.{Heard}
use Rattle.dht_ids.specs.declared.judge.Judged.{Judged}
use Rattle.dht_ids.specs.declared.peer.Peer.{Peer}
use Rattle.dhash_client.specs.GetHead.{Judges}
use Rattle.agent_model.specs.Standing.{Standing}
use Rattle.session_model.specs.Asking.{AsksNext}
use Rattle.session_model.specs.Brought.{Brought, Part, WantedOfRing, Heads, Content}
use Rattle.session_model.specs.Sessions.{IsGet, wanted_key}
use Rattle.log_fetch.specs.declared.fetch.State.{State}
use Rattle.log_fetch.specs.declared.fetch.State.TheVariants as state
use Rattle.log_fetch.specs.declared.gather.Stage.{Stage}
use Rattle.log_fetch.specs.declared.get.Get.{Get}
use Rattle.log_fetch.specs.declared.get.Get.TheVariants as get
use Rattle.log_fetch.specs.Fetching.{Fetching, FetchIsAfter, IsAsking, IsFor, IsSound, aim, aim_in, awaited_in, fetch_aim, fetch_awaited}
use Rattle.log_fetch.specs.Gets.{GetIsAfter, get_awaited}
use Rattle.session_laws.proofs.AskedMachines.{heads_are_asked_next, content_is_asked_next}
use Rattle.view_refresh.specs.States.{IsGetOf}

some_or_none : {T : Type 0} (x : T) → Some x ≡ None → ⊥
some_or_none x e = cc e

same_some : {T : Type 0} (x y : T) → Some x ≡ Some y → x ≡ y
same_some x y e = cc e

-- that is the next ask of a get for that want
abbrev pub GetAsksNext : (Key → List ℕ → Option Judged) → ℕ → List Peer → WantedOfRing → List Heard → Peer → Ask → Type 0
GetAsksNext judged replicas entries want = AsksNext (wanted_key want) (ask.Get (wanted_key want)) (IsGet judged replicas entries want)

module _ {J : Type 0} (judges : Judges J) (judge : J) (replicas : ℕ) (entries : List Peer) (at : Stage) (current : List Heard) (node : Peer) (question : Ask) where
  get_next : (x : Get J) → IsFor judge replicas at x → GetIsAfter judges entries current x → get_awaited x ≡ Some (node, question) → GetAsksNext (judges judge) replicas entries (aim x) current node question
  get_next (get.Heads owner s) fits h waits =
      subst (λ (r : ℕ). AsksNext (head_key_of owner) (ask.Get (head_key_of owner)) (IsGet (judges judge) r entries (Heads owner)) current node question) fits.2
      (subst (λ (j : J). AsksNext (head_key_of owner) (ask.Get (head_key_of owner)) (IsGet (judges j) s.execution.replicas entries (Heads owner)) current node question) fits.1
      (heads_are_asked_next judges entries current s owner node question h.0 h.1 waits))
  get_next (get.Block s) fits h waits =
      subst (λ (r : ℕ). AsksNext s.execution.look.key (ask.Get s.execution.look.key) (IsGet (judges judge) r entries (Content s.execution.look.key)) current node question) fits.1
      (content_is_asked_next (judges judge) entries current s node question h waits)

module _ {J : Type 0} (judges : Judges J) (judge : J) (replicas : ℕ) (entries : List Peer) (s : Standing) (start : Vector) (brought : List Brought) (current : List Heard) (node : Peer) (question : Ask) where
  next_in : (st : State J) (want : WantedOfRing) → IsSound judge replicas st → IsAsking judges entries s start brought current st → awaited_in st ≡ Some (node, question) → aim_in st ≡ Some want
      → GetAsksNext (judges judge) replicas entries want current node question
  next_in (state.Free g) want sound h waits aims = absurd (some_or_none (node, question) (sym waits))
  next_in (state.Asking g x) want sound h waits aims =
      subst (λ (w : WantedOfRing). GetAsksNext (judges judge) replicas entries w current node question) (same_some (aim x.get) want aims)
      (get_next judges judge replicas entries g.stage current node question x.get sound.0 h.2 waits)
  next_in (state.Ended fetched) want sound h waits aims = absurd (some_or_none (node, question) (sym waits))
  next_in state.Over want sound h waits aims = absurd h

-- a fetch is to ask this next of a get of what it is for
pub fetch_asks_next : {J : Type 0} (judges : Judges J) (s : Standing) (start : Vector) (f : Fetching J) {parts : List Part} (current : List Heard) (node : Peer) (question : Ask) (want : WantedOfRing) → FetchIsAfter judges s start parts current f
    → fetch_awaited f ≡ Some (node, question) → fetch_aim f ≡ Some want → GetAsksNext (judges f.judge) f.replicas f.entries want current node question
fetch_asks_next judges s start f current node question want h waits aims = next_in judges f.judge f.replicas f.entries s start _ current node question f.state want h.sound h.asking waits aims

-- by the same judge, from as many owners and the same nodes on
pub next_as : {J : Type 0} (judges : Judges J) {judge other : J} {replicas many : ℕ} {entries nodes : List Peer} (want : WantedOfRing) (current : List Heard) (node : Peer) (question : Ask) → judge ≡ other → replicas ≡ many → entries ≡ nodes
    → GetAsksNext (judges judge) replicas entries want current node question → GetAsksNext (judges other) many nodes want current node question
next_as {J} judges {judge} {other} {replicas} {many} {entries} {nodes} want current node question j r e next =
    subst (λ (es : List Peer). GetAsksNext (judges other) many es want current node question) e
    (subst (λ (n : ℕ). GetAsksNext (judges other) n entries want current node question) r
    (subst (λ (x : J). GetAsksNext (judges x) replicas entries want current node question) j next))

-- ---- of a block of a snapshot

pub load_asks_next : {J : Type 0} (judges : Judges J) (judged : Key → List ℕ → Option Judged) (replicas : ℕ) (entries : List Peer) (key : Key) (x : Get J) (current : List Heard) (node : Peer) (question : Ask) → IsGetOf replicas entries key x
    → GetIsAfter judges entries current x → get_awaited x ≡ Some (node, question) → GetAsksNext judged replicas entries (Content key) current node question
load_asks_next judges judged replicas entries key (get.Heads owner s) current node question fits h waits = absurd fits
load_asks_next judges judged replicas entries key (get.Block s) current node question fits h waits =
    subst (λ (k : Key). GetAsksNext judged replicas entries (Content k) current node question) fits.0
    (subst (λ (r : ℕ). GetAsksNext judged r entries (Content s.execution.look.key) current node question) fits.1
    (content_is_asked_next judged entries current s node question h waits))
