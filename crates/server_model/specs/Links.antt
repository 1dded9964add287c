-- A whole link: the bytes that were read, what was done for them, the bytes that were written, and how it ended.
use Rattle.std.specs.Prelude.{◌≡◌, ◌≢◌, ◌⊎◌, ◌<◌, ℕ, Bool, true, List, [], ◌∷◌, ◌++◌, length, take, Some, None}
use Rattle.std.specs.List.{flat_map}
use Rattle.rpc_wire.specs.Frames.{Begins, IsSplit, IsTooLong, fragment}
use Rattle.server_model.specs.Acts.{Act}
use Rattle.server_model.specs.Serving.{Answer, Between, Serves, ServesEach}
use Rattle.server_model.specs.Takers.{MayHaveLooked, Ring, Taker}
use Rattle.server_model.specs.declared.ended.Ended.{Ended}
use Rattle.server_model.specs.declared.ended.Ended.TheVariants as ended

-- What is seen of a link: the bytes read, the acts, and the bytes written.
pub record Execution : Type 0 where
  pub read : List ℕ
  pub acts : List Act
  pub written : List ℕ

-- each reply is one fragment (RFC 5531, section 11)
abbrev pub sent : List (List ℕ) → List ℕ
sent replies = flat_map (fragment true) replies

-- the bytes begin with these messages, each within the limit
abbrev pub HasRead : List ℕ → List (List ℕ) → Type 0
HasRead read messages = (rest : List ℕ) × Begins read messages rest

-- whoever takes the turns, before the first message
abbrev pub at_first : {P : Type 0} → P → Between P
at_first p = record { taker = p; cache = [] }

module _ {P : Type 0} (taker : Taker P) (ring : Ring) (p : P) where
  -- these messages were served, one after the other, each with its reply
  abbrev pub HasServed : List (List ℕ) → List Act → List (List ℕ) → Between P → Type 0
  HasServed = ServesEach taker ring (at_first p)

  -- The next message was read, after those that were served, and served.
  pub record HasServedNext (read : List ℕ) (acts : List Act) (replies : List (List ℕ)) (answer : Answer) (q : P) : Type 0 where
    pub messages : List (List ℕ)
    pub message : List ℕ
    pub earlier : List Act
    pub next : List Act
    pub before : Between P
    pub after : Between P
    pub are : acts ≡ earlier ++ next
    pub served : HasServed messages earlier replies before
    pub in_order : HasRead read (messages ++ message ∷ [])
    pub serves : Serves taker ring before message next answer after
    pub taker_is : q ≡ after.taker

  -- The messages of the bytes read are served in their order, and the bytes written are the replies to them, each as one fragment. Where
  -- the link ends by a fault, all is the beginning of that, and the last reply may be written in part.
  pub data Link : Execution → Ended → P → Type 0 where
    done : {read : List ℕ} {messages replies : List (List ℕ)} {acts : List Act} {after : Between P} → IsSplit read messages []
        → HasServed messages acts replies after → Link (record { read = read; acts = acts; written = sent replies }) ended.Done after.taker
    -- the rest is the beginning of a message
    cut : {read : List ℕ} {messages replies : List (List ℕ)} {acts : List Act} {after : Between P} (rest : List ℕ) → rest ≢ []
        → IsSplit read messages rest → HasServed messages acts replies after
        → Link (record { read = read; acts = acts; written = sent replies }) ended.Cut after.taker
    -- it stands after these messages
    too_long : {read : List ℕ} {messages replies : List (List ℕ)} {acts : List Act} {after : Between P} → IsTooLong read messages
        → HasServed messages acts replies after
        → Link (record { read = read; acts = acts; written = sent replies }) ended.TooLong after.taker
    not_a_call : {read : List ℕ} {replies : List (List ℕ)} {acts : List Act} {q : P} (is_cut : Bool)
        → HasServedNext read acts replies (record { reply = None; is_cut = is_cut }) q
        → Link (record { read = read; acts = acts; written = sent replies }) ended.NotACall q
    read_fault : {read : List ℕ} {messages replies : List (List ℕ)} {acts : List Act} {after : Between P} (rest : List ℕ)
        → IsSplit read messages rest → HasServed messages acts replies after
        → Link (record { read = read; acts = acts; written = sent replies }) ended.ReadFault after.taker
    -- the next reply was written in part
    write_fault : {read : List ℕ} {replies : List (List ℕ)} {acts : List Act} {q : P} (reply : List ℕ) (is_cut : Bool) (count : ℕ)
        → HasServedNext read acts replies (record { reply = Some reply; is_cut = is_cut }) q → count < length (fragment true reply)
        → Link (record { read = read; acts = acts; written = sent replies ++ take count (fragment true reply) }) ended.WriteFault q
    -- so, as memory ran out
    unwritten : {read : List ℕ} {replies : List (List ℕ)} {acts : List Act} {q : P} (reply : List ℕ) (is_cut : Bool) (count : ℕ)
        → HasServedNext read acts replies (record { reply = Some reply; is_cut = is_cut }) q → count < length (fragment true reply)
        → Link (record { read = read; acts = acts; written = sent replies ++ take count (fragment true reply) }) ended.Memory q
    -- the next session was cut, and its reply was written
    was_cut : {read : List ℕ} {replies : List (List ℕ)} {acts : List Act} {q : P} (reply : List ℕ)
        → HasServedNext read acts replies (record { reply = Some reply; is_cut = true }) q
        → Link (record { read = read; acts = acts; written = sent (replies ++ reply ∷ []) }) ended.Memory q
    -- Memory ran out before anything was read, or for more than what was served: for a piece, or for a session that could not begin.
    stopped : {read : List ℕ} {messages replies : List (List ℕ)} {acts : List Act} {q : P} {before : Between P} (rest : List ℕ)
        → (read ≡ []) ⊎ (rest ≢ []) → Begins read messages rest → HasServed messages acts replies before
        → MayHaveLooked taker before.taker q
        → Link (record { read = read; acts = acts; written = sent replies }) ended.Memory q
