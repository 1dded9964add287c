-- Where no node is known nobody is asked for a put.
use Rattle.std.proofs.Common.{◌≡◌, ℕ, Bool, true, false, List, [], if◌then◌else◌, subst}
use Rattle.dht_ids.specs.declared.ask.Ask.{Ask}
use Rattle.dht_ids.specs.declared.ask.Ask.TheVariants as ask
use Rattle.dht_ids.specs.declared.ask.Heard.{Heard}
use Rattle.dht_ids.specs.declared.peer.Peer.{Peer}
use Rattle.dht_ids.specs.declared.post.Post.{Post}
use Rattle.agent_model.specs.Agent.{is_head}
use Rattle.session_model.specs.Asking.{AsksNext}
use Rattle.session_model.specs.Sessions.{put_question}
use Rattle.session_laws.specs.Laws.{IsWholePutOfPost}
use Rattle.view_refresh.proofs.Nobody.{TellsOne, asks_nobody, nil_middle, nobody_asked}

put_told : (p : Post) → TellsOne (put_question p)
put_told p = by (is_head p.kind)
  where
    by : (b : Bool) → TellsOne (if b then ask.PutHead p.key p.bytes else ask.PutBlock p.key p.bytes)
    by true node given trail more e = nil_middle trail _ more e
    by false node given trail more e = nil_middle trail _ more e

pub put_asks_somebody : (r : ℕ) (entries : List Peer) (p : Post) (trail : List Heard) (node : Peer) (question : Ask) → AsksNext p.key (put_question p) (IsWholePutOfPost r entries p) trail node question → entries ≡ [] → ⊥
put_asks_somebody r entries p trail node question next e =
    asks_nobody p.key (put_question p) (IsWholePutOfPost r [] p) trail node question (put_told p) (λ asks whole. (nobody_asked p.key (put_question p) _ asks whole.0 whole.1).none)
    (subst (λ (es : List Peer). AsksNext p.key (put_question p) (IsWholePutOfPost r es p) trail node question) e next)
