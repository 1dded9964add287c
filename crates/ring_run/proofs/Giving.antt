-- What an ask gives.
use Rattle.std.proofs.Common.{◌≡◌, ℕ, Bool, true, false, cond, List, refl, sym, subst, Option, Some, None, Result, Ok, Err, IfOk}
use Rattle.std.specs.Option.{option_map_or, option_or}
use Rattle.std.specs.Ordering.{eq_by_cmp}
use Rattle.std.specs.FinMap.Entries.{put}
use Rattle.std.specs.Prelude.{◌↔◌, nat_le, nat_lt}
use Rattle.ivy_base.specs.Naming.{key_cmp, name}
use Rattle.ivy_base.specs.declared.key.Key.{Key}
use Rattle.ivy_base.specs.declared.memory.Memory.{Memory}
use Rattle.chord_core.specs.State.{IsOfNear}
use Rattle.dht_ids.specs.Asked.{IsAnswerTo}
use Rattle.dht_ids.specs.declared.ask.Answer.{Answer}
use Rattle.dht_ids.specs.declared.ask.Answer.TheVariants as answer
use Rattle.dht_ids.specs.declared.ask.Ask.{Ask}
use Rattle.dht_ids.specs.declared.ask.Ask.TheVariants as ask
use Rattle.dht_ids.specs.declared.ask.StoreFault.{StoreFault}
use Rattle.dht_ids.specs.declared.ask.StoreFault.TheVariants as fault
use Rattle.dht_ids.specs.declared.judge.Judged.{Judged}
use Rattle.dht_ids.specs.declared.peer.Peer.{Peer}
use Rattle.dhash_model.specs.Stores.{Block, bytes_at, bytes_held, store_capacity, content, content_fault, head, head_fault, not_judged, number_at, older}
use Rattle.world_model.specs.Nodes.{Node, answered, stored}
use Rattle.ring_run.specs.Laws.{AnswersAreOfTheForm, NotJudgedIsByBytes, SilenceIsOfTheDead, WrongNamesAreByBytes}
use Rattle.ring_run.specs.Live.{Gives, LiveState, lives}
use Rattle.ring_run.specs.Live.Gives.{silent as dead, answers as alive}

-- ---- a node that answers isn't silent

stored_speaks : (n : Node) (key : Key) (block : Block) (f : Option StoreFault) → (stored n key block f).0 ≡ answer.Silent → ⊥
stored_speaks n key block None e = absurd cc
stored_speaks n key block (Some why) e = absurd cc

found_speaks : (o : Option (List ℕ)) → option_map_or (λ bytes. answer.Found bytes) o answer.Nothing ≡ answer.Silent → ⊥
found_speaks None e = absurd cc
found_speaks (Some bytes) e = absurd cc

speaks : (judged : Key → List ℕ → Option Judged) (n : Node) (question : Ask) → (answered judged n question).0 ≡ answer.Silent → ⊥
speaks judged n (ask.Route key) e = absurd cc
speaks judged n ask.Near e = absurd cc
speaks judged n (ask.Notify peer) e = absurd cc
speaks judged n (ask.Get key) e = found_speaks (bytes_at key n.blocks) e
speaks judged n (ask.PutBlock key bytes) e = stored_speaks n key (content bytes) (content_fault key bytes n.blocks) e
speaks judged n (ask.PutHead key bytes) e = stored_speaks n key (head bytes) (head_fault judged key bytes n.blocks) e

not_both : (b : Bool) → b ≡ true → b ≡ false → ⊥
not_both true t f = absurd cc
not_both false t f = absurd cc

pub silence : (judged : Key → List ℕ → Option Judged) (r : LiveState) (to : Peer) (given : Answer) → SilenceIsOfTheDead judged r to given
silence judged r to given question (dead none) = (λ e. none, λ d. refl)
silence judged r to given question (alive n one) = (λ e. absurd (speaks judged n question e), λ d. absurd (not_both (lives r to) one d))

-- ---- its answer is of the ask's form

stored_form : (n : Node) (key : Key) (bytes : List ℕ) (block : Block) (f : Option StoreFault) → IsAnswerTo (ask.PutBlock key bytes) (stored n key block f).0 × IsAnswerTo (ask.PutHead key bytes) (stored n key block f).0
stored_form n key bytes block None = (tt, tt)
stored_form n key bytes block (Some why) = (tt, tt)

found_form : (key : Key) (o : Option (List ℕ)) → IsAnswerTo (ask.Get key) (option_map_or (λ bytes. answer.Found bytes) o answer.Nothing)
found_form key None = tt
found_form key (Some bytes) = tt

of_the_form : (judged : Key → List ℕ → Option Judged) (n : Node) (question : Ask) → IsAnswerTo question (answered judged n question).0
of_the_form judged n (ask.Route key) = tt
of_the_form judged n ask.Near = tt
of_the_form judged n (ask.Notify peer) = tt
of_the_form judged n (ask.Get key) = found_form key (bytes_at key n.blocks)
of_the_form judged n (ask.PutBlock key bytes) = (stored_form n key bytes (content bytes) (content_fault key bytes n.blocks)).0
of_the_form judged n (ask.PutHead key bytes) = (stored_form n key bytes (head bytes) (head_fault judged key bytes n.blocks)).1

pub form : (judged : Key → List ℕ → Option Judged) (r : LiveState) (to : Peer) (given : Answer) → AnswersAreOfTheForm judged r to given
form judged r to given question (dead none) = tt
form judged r to given question (alive n one) = of_the_form judged n question

pub near_form : (given : Answer) → IsAnswerTo ask.Near given → IsOfNear given
near_form (answer.Route nearer owners) h = absurd h
near_form (answer.Near before list) h = tt
near_form (answer.Found bytes) h = absurd h
near_form answer.Nothing h = absurd h
near_form answer.Stored h = absurd h
near_form (answer.Refused why) h = absurd h
near_form answer.Noted h = absurd h
near_form answer.Silent h = tt

-- so it is with what a call gives
pub gives_answer : (judged : Key → List ℕ → Option Judged) (r : LiveState) (to : Peer) (question : Ask) (n : Node) (result : Result Answer Memory) → lives r to ≡ true → IfOk result (λ given. given ≡ (answered judged n question).0)
    → IfOk result (Gives judged r to question)
gives_answer judged r to question n (Ok given) one e = subst (Gives judged r to question) (sym e) (alive n one)
gives_answer judged r to question n (Err fault) one e = tt

pub answer_form : (judged : Key → List ℕ → Option Judged) (question : Ask) (n : Node) (result : Result Answer Memory) → IfOk result (λ given. given ≡ (answered judged n question).0) → IfOk result (IsAnswerTo question)
answer_form judged question n (Ok given) e = subst (IsAnswerTo question) (sym e) (of_the_form judged n question)
answer_form judged question n (Err fault) e = tt

-- ---- what it refuses by the bytes

by_name : (n : Node) (key : Key) (block : Block) (b t : Bool)
    → ((stored n key block (option_or (cond b None (Some fault.WrongName)) (cond t (Some fault.Full) None))).0 ≡ answer.Refused fault.WrongName) ↔ (b ≡ false)
by_name n key block false t = (λ e. refl, λ d. refl)
by_name n key block true true = (λ e. absurd cc, λ d. absurd cc)
by_name n key block true false = (λ e. absurd cc, λ d. absurd cc)

pub wrong_names : (judged : Key → List ℕ → Option Judged) (r : LiveState) (to : Peer) (given : Answer) → WrongNamesAreByBytes judged r to given
wrong_names judged r to given key bytes one (dead none) = absurd (not_both (lives r to) one none)
wrong_names judged r to given key bytes one (alive n there) = by_name n key (content bytes) (eq_by_cmp key_cmp key (name bytes)) (nat_lt store_capacity (bytes_held (put key_cmp key (content bytes) n.blocks)))

by_age : (n : Node) (key : Key) (block : Block) (new : Judged) (seq : ℕ) (a t : Bool)
    → (stored n key block (option_or (cond a (Some (fault.Older seq)) None) (cond t (Some fault.Full) None))).0 ≡ answer.Refused fault.NotJudged → ⊥
by_age n key block new seq true t e = absurd cc
by_age n key block new seq false true e = absurd cc
by_age n key block new seq false false e = absurd cc

by_judge : (n : Node) (key : Key) (block : Block) (o : Option Judged) (held : Option ℕ) (t : Bool)
    → ((stored n key block (option_or (not_judged o) (option_or (older held o) (cond t (Some fault.Full) None)))).0 ≡ answer.Refused fault.NotJudged) ↔ (o ≡ None)
by_judge n key block None held t = (λ e. refl, λ d. refl)
by_judge n key block (Some new) (Some seq) t = (λ e. absurd (by_age n key block new seq (nat_le new.seq seq) t e), λ d. absurd cc)
by_judge n key block (Some new) None true = (λ e. absurd cc, λ d. absurd cc)
by_judge n key block (Some new) None false = (λ e. absurd cc, λ d. absurd cc)

pub not_heads : (judged : Key → List ℕ → Option Judged) (r : LiveState) (to : Peer) (given : Answer) → NotJudgedIsByBytes judged r to given
not_heads judged r to given key bytes one (dead none) = absurd (not_both (lives r to) one none)
not_heads judged r to given key bytes one (alive n there) =
    by_judge n key (head bytes) (judged key bytes) (number_at judged key n.blocks) (nat_lt store_capacity (bytes_held (put key_cmp key (head bytes) n.blocks)))
