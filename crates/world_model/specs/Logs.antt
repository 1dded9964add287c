-- Lines of participants: a log begins, a view is made, a participant enters one, starts again, or makes a snapshot.
use Rattle.std.specs.Prelude.{◌≡◌, ℕ, ◌+◌, nat_lt, Bool, true, false, ◌&&◌, ◌||◌, not, List, [], ◌∷◌, ◌++◌, codes, fold, filter, map}
use Rattle.std.specs.Prelude.{length, IfSome, IsSomeAnd, Option, Some, None, is_some, if◌then◌else◌, Result, Ok}
use Rattle.std.specs.List.{list_any}
use Rattle.std.specs.FinMap.Entries.{by_order}
use Rattle.std.specs.Ordering.{eq_by_cmp}
use Rattle.std.specs.Str.{bytes_eq}
use Rattle.hex.specs.Hex.{encode_lower}
use Rattle.ivy_base.specs.declared.key.Key.{Key}
use Rattle.ivy_base.specs.declared.key.PubKey.{PubKey}
use Rattle.ivy_base.specs.Naming.{IsCollisionFree, owner_cmp}
use Rattle.hash_signature_model.specs.declared.set.Set.{Set}
use Rattle.hash_signature_model.specs.Signer.{Signer}
use Rattle.log_model.specs.View.{View, have_own_head_keys, most_former, most_members, view_block, view_name}
use Rattle.log_model.specs.Record.{Record}
use Rattle.log_model.specs.Chain.{opening}
use Rattle.log_model.specs.Standing.{Stand}
use Rattle.turn_model.specs.Known.{IsKnown}
use Rattle.dht_ids.specs.declared.judge.Judged.{Judged}
use Rattle.dht_ids.specs.declared.post.Post.{Post}
use Rattle.dhash_model.specs.declared.miss.Miss.{Miss}
use Rattle.dht_ids.specs.declared.ask.Ask.TheVariants as ask
use Rattle.snapshot_model.specs.Spelling.{root_name, snapshot_blocks}
use Rattle.agent_model.specs.Agent.{kept_of, restored}
use Rattle.agent_model.specs.SavedBytes.{ArePostsSpelled}
use Rattle.agent_model.specs.Views.{Entered, NotMember, NotNamed, KeeperFailed}
use Rattle.agent_model.specs.Others.{basis_of, block_post, snapping}
use Rattle.session_model.specs.Sessions.{Session}
use Rattle.session_model.specs.Executions.{publishing_session}
use Rattle.script_driver.specs.Run.{Outcome, Goes, Ends, Refuses, Exceeds}
use Rattle.script_model.specs.Words.{◌>>=◌}
use Rattle.world_model.specs.Agents.{HssAgent, HssEntering, IsHssKept, HssKept, hss_entering, hss_kept_bytes, hss_opened, own_hss_key}
use Rattle.world_model.specs.Agents.{hss_standing_in}
use Rattle.world_model.specs.Keepers.{asked_to_save, fails_next, fresh_keeper, with_fault}
use Rattle.world_model.specs.World.{World, Participant, participant, view_named, with_participant, without_sessions_of, named_bytes, meets}
use Rattle.world_model.specs.World.{entries}
use Rattle.world_model.specs.GhostState.{GhostState, Knowing, began_nothing, known_of, knowing_now}
use Rattle.world_model.specs.Fates.{Puts}
use Rattle.world_model.specs.Steps.{Configuration, RunsOut, having_made, met_by}

-- a world with its ghost state
abbrev pub Played : Type 0
Played = World × GhostState

-- an outcome that leaves the ghost state as it is
abbrev pub beside : GhostState → Outcome World → Outcome Played
beside st (Goes next output) = Goes (next, st) output
beside st Ends = Ends
beside st Refuses = Refuses
beside st Exceeds = Exceeds

-- where the test holds the world goes on to the next one, and shows nothing
abbrev pub goes_if : Bool → World → Outcome World
goes_if allowed next = if allowed then Goes next [] else Refuses

-- ---- at

abbrev pub at_line : World → ℕ → ℕ → Outcome World
at_line w sec nsec = goes_if (nat_lt sec 4294967296 && nat_lt nsec 1000000000) (record w { now = record { sec = sec; nsec = nsec } })

-- ---- publishing alone

-- a session that only publishes has no use for a view
abbrev pub empty_view : View
empty_view = record { members = []; former = [] }

abbrev pub to_publish : World → Participant → Session
to_publish w p = publishing_session p.name (entries w) (hss_standing_in p.agent empty_view) p.agent.pending

-- all that the participant's agent has pending is put, and settled
abbrev pub Publishes : (Key → List ℕ → Option Judged) → ℕ → Played → Participant → Played → Type 0
Publishes judged r w p next = (end : Configuration)
    × RunsOut judged r p.name (record { world = w.0; ghost_state = w.1; session = to_publish w.0 p; began = began_nothing }) end
    × (next ≡ (end.world, end.ghost_state))

-- ---- log

abbrev pub fresh_signer : List ℕ → List ℕ → List Set → Signer
fresh_signer id seed sets = record { id = id; seed = seed; sets = sets; made = 0 }

-- a participant whose agent opens its log, and is saved; its first posts count as made
abbrev pub new_participant : List ℕ → HssAgent → Participant
new_participant name a = having_made (record {
  name = name;
  agent = a;
  keeper = asked_to_save fresh_keeper (Some (kept_of a));
  cache = [];
  made = [];
  printed = None;
  work = 0;
  left = [];
}) a.pending

-- it knows its opening record
abbrev pub with_new_participant : Played → Participant → Played
with_new_participant w p = (
  record w.0 { participants = w.0.participants ++ p ∷ []; met = met_by w.0.met p.agent.pending },
  record w.1 {
    participants = w.1.participants
        ++ record { name = p.name; known = opening (own_hss_key p.agent) w.0.now ∷ []; received = [] } ∷ [];
  },
)

-- A log begins with its opening record, at the present moment, which is published with its head. Two logs may have one key.
pub data LogLine (judged : Key → List ℕ → Option Judged) (w : Played) (name id seed : List ℕ) (sets : List Set) : Outcome Played
    → Type 0 where
  before_ring : is_some w.0.replicas ≡ false → LogLine judged w name id seed sets Refuses
  known : is_some (participant w.0 name) ≡ true → LogLine judged w name id seed sets Refuses
  begins : (r : ℕ) (p : Participant) (next : Played) → w.0.replicas ≡ Some r → is_some (participant w.0 name) ≡ false
      → p ≡ new_participant name (hss_opened (fresh_signer id seed sets) w.0.now)
      → Publishes judged r (with_new_participant w p) p next → LogLine judged w name id seed sets (Goes next [])

-- ---- view

-- the keys in ascending order
abbrev pub with_key : List PubKey → PubKey → List PubKey
with_key [] k = k ∷ []
with_key (l ∷ ls) k = by_order (owner_cmp k l) (k ∷ l ∷ ls) (k ∷ l ∷ ls) (l ∷ with_key ls k)

abbrev pub in_key_order : List PubKey → List PubKey
in_key_order keys = fold with_key [] keys

-- the public keys of the logs of these names, where each is there
abbrev pub keys_of : World → List (List ℕ) → Option (List PubKey)
keys_of w [] = Some []
keys_of w (name ∷ names) = do
  p ← participant w name
  keys ← keys_of w names
  Some (own_hss_key p.agent ∷ keys)

abbrev pub with_view : World → List ℕ → View → World
with_view w name view = record w { views = w.views ++ record { name = name; view = view } ∷ []; met = meets w.met (view_block view) }

-- a view's block, where its put was acknowledged
abbrev pub acked_view : View → Result Bool Miss → List Post
acked_view view (Ok true) = block_post (view_block view) ∷ []
acked_view view _ = []

-- it has too many members or former logs
abbrev pub is_too_large : List PubKey → List PubKey → Bool
is_too_large members former = nat_lt most_members (length members) || nat_lt most_former (length former)

-- A view is refused where its name is taken, a log isn't there, or two of its logs have one head key; else it meets a limit where it has
-- more than 16 members or former logs. Its block is put.
pub data ViewLine (judged : Key → List ℕ → Option Judged) (w : Played) (name : List ℕ) : Option (List PubKey) → Option (List PubKey)
    → Outcome Played → Type 0 where
  known : {members former : Option (List PubKey)} → is_some (view_named w.0 name) ≡ true → ViewLine judged w name members former Refuses
  no_members : {former : Option (List PubKey)} → ViewLine judged w name None former Refuses
  no_former : {members : Option (List PubKey)} → ViewLine judged w name members None Refuses
  one_head_key : (members former : List PubKey) → have_own_head_keys (members ++ former) ≡ false
      → ViewLine judged w name (Some members) (Some former) Refuses
  exceeds : (members former : List PubKey) → is_some (view_named w.0 name) ≡ false → have_own_head_keys (members ++ former) ≡ true
      → is_too_large members former ≡ true
      → ViewLine judged w name (Some members) (Some former) Exceeds
  makes : (members former : List PubKey) (r : ℕ) (view : View) (next : World) → is_some (view_named w.0 name) ≡ false
      → have_own_head_keys (members ++ former) ≡ true
      → is_too_large members former ≡ false → w.0.replicas ≡ Some r
      → view ≡ record { members = in_key_order members; former = in_key_order former }
      → (put : Puts judged (with_view w.0 name view) r (view_name view) (ask.PutBlock (view_name view) (view_block view)) next)
      → ViewLine judged w name (Some members) (Some former) (Goes (next, record w.1 { acked = w.1.acked ++ acked_view view put.came }) [])

-- ---- use

abbrev pub failed_text : List ℕ → List ℕ → List ℕ
failed_text word name = word ++ codes " " ++ name ++ codes " failed" ++ 10 ∷ []

-- the participant's sessions are gone, and its cache is empty
abbrev pub afresh : World → Participant → World
afresh w p = without_sessions_of (with_participant w (record p { cache = [] })) p.name

abbrev pub names_of_sessions : World → List ℕ → List (List ℕ)
names_of_sessions w by = map (λ t. t.name) (filter (λ t. bytes_eq t.session.by by) w.sessions)

abbrev pub afresh_told : Played → List ℕ → List Record → GhostState
afresh_told w by set = record (knowing_now w.1 by set)
    { sessions = filter (λ c. not (list_any (bytes_eq c.0) (names_of_sessions w.0 by))) w.1.sessions }

-- the records of the view's members
abbrev pub of_members : View → List Record → List Record
of_members view s = filter (λ r. list_any (eq_by_cmp owner_cmp r.owner) view.members) s

-- in another view it knows what it knew of that one's members
abbrev pub after_entering : Played → Participant → View → HssEntering → Option HssKept → Outcome Played
after_entering w p view (Entered after) saving =
    Goes (
      afresh w.0 (record p { agent = after; keeper = asked_to_save p.keeper saving }),
      afresh_told w p.name
          (of_members view (known_of w.1 p.name)),
    ) []
after_entering w p view NotMember saving = Refuses
after_entering w p view (NotNamed log) saving = Refuses
after_entering w p view (KeeperFailed after) saving =
    Goes (with_participant w.0 (record p { agent = after; keeper = asked_to_save p.keeper saving }), w.1) (failed_text (codes "use") p.name)

abbrev pub use_by : Played → Option Participant → Option View → Outcome Played
use_by w (Some p) (Some view) = (let came = hss_entering p.agent view (fails_next p.keeper) in after_entering w p view came.0 came.1)
use_by w _ _ = Refuses

abbrev pub use_line : Played → List ℕ → List ℕ → Outcome Played
use_line w log view = use_by w (participant w.0 log) (view_named w.0 view)

-- ---- keep

-- the save of that number from now is to fail
abbrev pub keep_by : World → Option Participant → ℕ → Bool → Outcome World
keep_by w None count new = Refuses
keep_by w (Some p) count new =
    goes_if (nat_lt 0 count) (with_participant w (record p { keeper = with_fault p.keeper count new }))

abbrev pub keep_line : World → List ℕ → ℕ → Bool → Outcome World
keep_line w log count new = keep_by w (participant w log) count new

-- ---- restart

-- what becomes of the participant whose agent starts again from what was saved; what it then has to publish counts as made and met from now
-- on
abbrev pub restarted : World → Participant → HssKept → World
restarted w p k = record (afresh w (having_made (record p { agent = restored k }) k.pending)) { met = met_by w.met k.pending }

-- it knows what the floor that was saved names, where no names collide
abbrev pub IsKnownAgain : World → HssKept → List Record → Type 0
IsKnownAgain next k set = (view : View) → k.view ≡ Some view → IsCollisionFree (named_bytes next)
    → IsKnown view k.floor set × Stand next.met set

-- The agent starts again from what its keeper's bytes say.
pub data RestartLine (w : Played) : Option Participant → Outcome Played → Type 0 where
  nobody : RestartLine w None Refuses
  outside : (p : Participant) → p.agent.view ≡ None → RestartLine w (Some p) Refuses
  starts : (p : Participant) (view : View) (k : HssKept) (set : List Record) → p.agent.view ≡ Some view → IsHssKept k
      → p.keeper.kept ≡ Some (hss_kept_bytes k)
      → IsKnownAgain (restarted w.0 p k) k set
      → RestartLine w (Some p) (Goes (restarted w.0 p k, afresh_told w p.name set) [])

-- ---- snap

abbrev pub snap_text : List ℕ → Key → List ℕ
snap_text name root = codes "snap " ++ name ++ 32 ∷ encode_lower root.0 ++ 10 ∷ []

-- what a participant's snapshot is made of
abbrev pub snapping_in : Participant → View → (HssAgent × Bool) × Option HssKept
snapping_in p view = snapping p.agent (root_name view (basis_of p.agent.holding)) (snapshot_blocks view (basis_of p.agent.holding))
    (fails_next p.keeper)

-- the participant after it, and with the snapshot that was printed
abbrev pub having_tried : Participant → View → Participant
having_tried p view = record p { agent = (snapping_in p view).0.0; keeper = asked_to_save p.keeper (snapping_in p view).1 }

abbrev pub having_snapped : Participant → View → Participant
having_snapped p view = record (having_tried p view) { printed = Some (root_name view (basis_of p.agent.holding)) }

-- A snapshot is made of what the participant holds, saved and published. Where what would be saved can't be spelled, as with 2^32 posts and
-- more, its bytes would be read again as something else, or not at all. So there the keeper isn't asked, nothing changes, and the line
-- shows what it shows of a save that fails. These cases exclude each other: where the keeper is asked, the posts are spelled or they
-- aren't.
pub data SnapLine (judged : Key → List ℕ → Option Judged) (w : Played) : Option Participant → Outcome Played → Type 0 where
  nobody : SnapLine judged w None Refuses
  outside : (p : Participant) → p.agent.view ≡ None → SnapLine judged w (Some p) Refuses
  fails : (p : Participant) (view : View) → p.agent.view ≡ Some view → (snapping_in p view).0.1 ≡ false
      → IfSome (snapping_in p view).1 (λ k. ArePostsSpelled k.pending)
      → SnapLine judged w (Some p) (Goes (with_participant w.0 (having_tried p view), w.1) (failed_text (codes "snap") p.name))
  makes : (p q : Participant) (view : View) (r : ℕ) (next : Played) → p.agent.view ≡ Some view → (snapping_in p view).0.1 ≡ true
      → w.0.replicas ≡ Some r → q ≡ having_snapped p view
      → ArePostsSpelled q.agent.pending
      → Publishes judged r (record (with_participant w.0 q) { met = met_by w.0.met q.agent.pending }, w.1) q next
      → SnapLine judged w (Some p) (Goes next (snap_text p.name (root_name view (basis_of p.agent.holding))))
  cannot : (p : Participant) (view : View) → p.agent.view ≡ Some view
      → IsSomeAnd (snapping_in p view).1 (λ k. ArePostsSpelled k.pending → ⊥)
      → SnapLine judged w (Some p) (Goes w (failed_text (codes "snap") p.name))
