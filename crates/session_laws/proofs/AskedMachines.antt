-- After its trail, what a machine of a get or a put is to ask is next.
use Rattle.std.proofs.Common.{◌≡◌, ℕ, ◌≤◌, Bool, List, Option, Some, None, Result, refl, subst, arith, ⊎_elim}
use Rattle.ivy_base.specs.Naming.{head_key_of}
use Rattle.dht_ids.specs.declared.ask.Ask.{Ask}
use Rattle.dht_ids.specs.declared.ask.Ask.TheVariants as ask
use Rattle.dht_ids.specs.declared.ask.Heard.{Heard}
use Rattle.dht_ids.specs.declared.peer.Peer.{Peer}
use Rattle.ring_model.specs.Gets.{answered_in}
use Rattle.ring_model.proofs.Lists.{none_some}
use Rattle.dhash_model.specs.Execution.{IsExecution}
use Rattle.dhash_model.specs.GetBlock.{is_of_get, EndsGet}
use Rattle.dhash_model.specs.GetHead.{EndsHeadGet}
use Rattle.dhash_model.specs.Puts.{is_of_put, EndsPut}
use Rattle.dhash_model.specs.declared.miss.Miss.{Miss}
use Rattle.dhash_client.specs.Execution.{ExecutionState, IsOnExecution}
use Rattle.dhash_client.specs.GetBlock.{IsEnoughBlock, SumsBlock, block_awaited_at}
use Rattle.dhash_client.specs.Puts.{question_of}
use Rattle.session_model.specs.Brought.{Heads, Content}
use Rattle.session_model.specs.Sessions.{IsGet}
use Rattle.session_model.specs.Asking.{AsksNext}
use Rattle.session_laws.specs.Laws.{IsWholeGetOfHead, IsWholeGetOfBlock, IsWholePutOf, HeadAsksNext, BlockAsksNext, PutAsksNext, HeadsAreAskedNext, ContentIsAskedNext, PostIsAskedNext}
use Rattle.session_laws.proofs.AskedPlans.{next_alike}
use Rattle.session_laws.proofs.AskedExecutions.{awaited_is_next}
use Rattle.session_laws.proofs.AskedGets.{at_most_or_not, enough_or_not, get_entries, block_end, head_end, is_get}
use Rattle.session_laws.proofs.AskedPuts.{put_entries, told_put, put_end, of_post}

-- after a trail a machine of a get of heads has its next ask
pub head_asks_next : {J : Type 0} → HeadAsksNext J
head_asks_next judges entries trail s node question h waits =
    awaited_is_next (get_entries s.execution.look.key) (ask.Get s.execution.look.key) (λ node given. refl) (λ t. s.execution.replicas ≤ answered_in is_of_get t) (λ t. at_most_or_not s.execution.replicas (answered_in is_of_get t))
    (EndsHeadGet (judges s.judge s.execution.look.key) s.execution.look.key s.execution.replicas) (λ owners asks result e. e.1.asks) (head_end (judges s.judge s.execution.look.key) s.execution.look.key s.execution.replicas) entries
    is_of_get s.execution trail h.looks h.asks s.execution.asking node question refl h.told h.stage (λ few enough. absurd (omega (arith, few, enough))) waits

block_asks_next_at : (entries : List Peer) (trail : List Heard) (c : ExecutionState) (found : Option (List ℕ)) (wrong : Option Peer) (node : Peer) (question : Ask)
    → IsOnExecution (λ key. ask.Get key) is_of_get IsEnoughBlock (λ key. SumsBlock key found wrong) entries trail c → block_awaited_at found c ≡ Some (node, question)
    → AsksNext c.look.key (ask.Get c.look.key) (IsWholeGetOfBlock c.look.key c.replicas entries) trail node question
block_asks_next_at entries trail c None wrong node question h waits =
    awaited_is_next (get_entries c.look.key) (ask.Get c.look.key) (λ node given. refl) (IsEnoughBlock c.look.key c.replicas) (enough_or_not c.look.key c.replicas) (EndsGet c.look.key c.replicas) (λ owners asks result e. e.1.asks)
    (block_end c.look.key c.replicas) entries is_of_get c trail h.looks h.asks c.asking node question refl h.told h.stage (λ few enough. ⊎_elim (λ e. absurd (omega (arith, few, e))) (λ b. h.sums.0 b) enough) waits
block_asks_next_at entries trail c (Some bytes) wrong node question h waits = absurd (none_some (node, question) waits)

pub block_asks_next : BlockAsksNext
block_asks_next entries trail s node question h waits = block_asks_next_at entries trail s.execution s.found s.wrong node question h waits

pub put_asks_next : PutAsksNext
put_asks_next entries trail s node question h waits =
    awaited_is_next (put_entries s.what s.bytes s.execution.look.key) (question_of s.what s.bytes s.execution.look.key) (told_put s.what s.bytes s.execution.look.key) (λ t. s.execution.replicas ≤ answered_in is_of_put t)
    (λ t. at_most_or_not s.execution.replicas (answered_in is_of_put t)) (EndsPut s.execution.replicas) (λ owners asks result e. e.1.asks) (put_end s.execution.replicas) entries is_of_put s.execution trail h.looks h.asks s.execution.asking node question refl h.told
    h.stage (λ few enough. absurd (omega (arith, few, enough))) waits

-- ---- the same in the words of sessions

-- what is next of a get of heads or of a block is next of the session's get
pub heads_are_asked_next : {J : Type 0} → HeadsAreAskedNext J
heads_are_asked_next judges entries trail s owner node question h of_owner waits =
    next_alike (head_key_of owner) (ask.Get (head_key_of owner)) (IsWholeGetOfHead (judges s.judge (head_key_of owner)) (head_key_of owner) s.execution.replicas entries) (IsGet (judges s.judge) s.execution.replicas entries (Heads owner))
    (is_get (judges s.judge) s.execution.replicas entries (Heads owner)) trail node question
    (subst (λ k. AsksNext k (ask.Get k) (IsWholeGetOfHead (judges s.judge k) k s.execution.replicas entries) trail node question) of_owner (head_asks_next judges entries trail s node question h waits))

pub content_is_asked_next : ContentIsAskedNext
content_is_asked_next judged entries trail s node question h waits =
    next_alike s.execution.look.key (ask.Get s.execution.look.key) (IsWholeGetOfBlock s.execution.look.key s.execution.replicas entries) (IsGet judged s.execution.replicas entries (Content s.execution.look.key))
    (is_get judged s.execution.replicas entries (Content s.execution.look.key)) trail node question (block_asks_next entries trail s node question h waits)

pub post_is_asked_next : PostIsAskedNext
post_is_asked_next entries trail s p node question h puts waits =
    of_post (λ q. AsksNext p.key q (λ asks. (came : Result Bool Miss) × IsExecution p.key q entries (EndsPut s.execution.replicas) asks came) trail node question) p
    (subst (λ w. AsksNext p.key (question_of w p.bytes p.key) (IsWholePutOf w p.bytes p.key s.execution.replicas entries) trail node question) puts.what
    (subst (λ b. AsksNext p.key (question_of s.what b p.key) (IsWholePutOf s.what b p.key s.execution.replicas entries) trail node question) puts.bytes
    (subst (λ k. AsksNext k (question_of s.what s.bytes k) (IsWholePutOf s.what s.bytes k s.execution.replicas entries) trail node question) puts.key (put_asks_next entries trail s node question h waits))))
