-- Puts and look-ups as plans whose asks are known: where entry nodes were made, and answers name nodes that were made, only such nodes are asked.
use Rattle.std.proofs.Common.{◌≡◌, ◌⊎◌, ℕ, zero, suc, ◌≤◌, Bool, true, false, List, [], ◌∷◌, ◌++◌, Option, Some, None, IfSome, Result, refl, sym, ap, subst, inl, inr}
use Rattle.std.specs.List.{AllByRecursion}
use Rattle.dht_ids.specs.Asked.{route_in}
use Rattle.dht_ids.specs.declared.ask.Answer.{Answer}
use Rattle.dht_ids.specs.declared.ask.Answer.TheVariants as answer
use Rattle.dht_ids.specs.declared.ask.Ask.{Ask}
use Rattle.dht_ids.specs.declared.ask.Heard.{Heard}
use Rattle.dht_ids.specs.declared.peer.Peer.{Peer}
use Rattle.ring_model.specs.Members.{IsAmong}
use Rattle.ring_model.specs.Gets.{AreAsks, answered_in}
use Rattle.ring_model.proofs.Lists.{all-left, all-right, cons_head, cons_tail, nil_cons}
use Rattle.dhash_model.specs.Execution.{IsExecution, Told}
use Rattle.dhash_model.specs.Puts.{EndsPut, is_of_put}
use Rattle.dhash_model.specs.declared.miss.Miss.{Miss}
use Rattle.session_laws.proofs.AskedPlans.{Entries, Follows, IsToldBy, Plan, asking, ended, entry}
use Rattle.session_laws.proofs.AskedExecutions.{IsWhole, after_plan, execution_back, execution_fits}
use Rattle.session_laws.proofs.AskedOwners.{choose, owners_plan}
use Rattle.session_laws.proofs.AskedLookups.{among_or_not, firsts, last_after, look_plan, rest_after, round_plan}
use Rattle.session_laws.proofs.AskedGets.{at_most_or_not}
use Rattle.session_laws.proofs.AskedPuts.{put_end}

-- ---- whom a plan asks

-- the nodes that an answer names
abbrev pub Names : (Peer → Type 0) → Answer → Type 0
Names P (answer.Route nearer owners) = AllByRecursion P (nearer ++ owners)
Names P _ = Unit {0}

-- each node that is asked is such, where answers name such nodes
abbrev pub AsksOnly : (Peer → Type 0) → Plan → Type 0
AsksOnly P ended = Unit {0}
AsksOnly P (asking node looks next) = P node × ((given : Answer) → Names P given → AsksOnly P (next given))

last_names : (P : Peer → Type 0) (last : Option (List Peer)) (given : Answer) → IfSome last (AllByRecursion P) → Names P given → IfSome (last_after last (route_in given)) (AllByRecursion P)
last_names P last (answer.Route nearer owners) h names = all-right P nearer owners names
last_names P last (answer.Near before list) h names = h
last_names P last (answer.Found bytes) h names = h
last_names P last answer.Nothing h names = h
last_names P last answer.Stored h names = h
last_names P last (answer.Refused why) h names = h
last_names P last answer.Noted h names = h
last_names P last answer.Silent h names = h

rest_names : (P : Peer → Type 0) (rest : List Peer) (given : Answer) → AllByRecursion P rest → Names P given → AllByRecursion P (rest_after rest (route_in given))
rest_names P rest (answer.Route nearer owners) h names = all-left P nearer owners names
rest_names P rest (answer.Near before list) h names = h
rest_names P rest (answer.Found bytes) h names = h
rest_names P rest answer.Nothing h names = h
rest_names P rest answer.Stored h names = h
rest_names P rest (answer.Refused why) h names = h
rest_names P rest answer.Noted h names = h
rest_names P rest answer.Silent h names = h

pub firsts_only : (P : Peer → Type 0) (seen ps : List Peer) → AllByRecursion P ps → AllByRecursion P (firsts seen ps)
firsts_only P seen [] h = tt
firsts_only P seen (p ∷ ps) h = by (among_or_not p seen) (firsts_only P seen ps h.1) (firsts_only P (p ∷ seen) ps h.1)
  where
    by : (d : IsAmong p seen ⊎ (IsAmong p seen → ⊥)) → AllByRecursion P (firsts seen ps) → AllByRecursion P (firsts (p ∷ seen) ps) → AllByRecursion P (choose d (firsts seen ps) (p ∷ firsts (p ∷ seen) ps))
    by (inl i) same later = same
    by (inr i) same later = (h.0, later)

pub owners_only : (e : Entries) (IsEnough : Told → Type 0) (decided : (t : Told) → IsEnough t ⊎ (IsEnough t → ⊥)) (P : Peer → Type 0) (ps : List Peer) (before : Told) → AllByRecursion P ps → AsksOnly P (owners_plan e IsEnough decided ps before)
owners_only e IsEnough decided P [] before h = tt
owners_only e IsEnough decided P (p ∷ ps) before h = by (decided before) (λ given. owners_only e IsEnough decided P ps (before ++ (p, given) ∷ []) h.1)
  where
    by : (d : IsEnough before ⊎ (IsEnough before → ⊥)) → ((given : Answer) → AsksOnly P (owners_plan e IsEnough decided ps (before ++ (p, given) ∷ [])))
        → AsksOnly P (choose d ended (asking p false (λ given. owners_plan e IsEnough decided ps (before ++ (p, given) ∷ []))))
    by (inl enough) rest = tt
    by (inr not_yet) rest = (h.0, λ given names. rest given)

module _ (e : Entries) (After : Option (List Peer) → Plan) (P : Peer → Type 0) (after_only : (last : Option (List Peer)) → IfSome last (AllByRecursion P) → AsksOnly P (After last)) where
  round_only : (next : List Peer → Option (List Peer) → List Peer → Plan) → ((asked : List Peer) (last : Option (List Peer)) (ps : List Peer) → IfSome last (AllByRecursion P) → AllByRecursion P ps → AsksOnly P (next asked last ps))
      → (asked : List Peer) (last : Option (List Peer)) (ps : List Peer) → IfSome last (AllByRecursion P) → AllByRecursion P ps → AsksOnly P (round_plan e After next asked last ps)
  round_only next only asked last [] owners rest = after_only last owners
  round_only next only asked last (p ∷ ps) owners rest = by (among_or_not p asked) (round_only next only asked last ps owners rest.1)
    where
      by : (d : IsAmong p asked ⊎ (IsAmong p asked → ⊥)) → AsksOnly P (round_plan e After next asked last ps)
          → AsksOnly P (choose d (round_plan e After next asked last ps) (asking p true (λ given. next (p ∷ asked) (last_after last (route_in given)) (rest_after ps (route_in given)))))
      by (inl i) same = same
      by (inr i) same = (rest.0, λ given names. only (p ∷ asked) (last_after last (route_in given)) (rest_after ps (route_in given)) (last_names P last given owners names) (rest_names P ps given rest.1 names))

  pub look_only : (n : ℕ) (asked : List Peer) (last : Option (List Peer)) (ps : List Peer) → IfSome last (AllByRecursion P) → AllByRecursion P ps → AsksOnly P (look_plan e After n asked last ps)
  look_only zero asked last ps owners rest = after_only last owners
  look_only (suc n) asked last ps owners rest = round_only (look_plan e After n) (look_only n) asked last ps owners rest

-- ---- the plan that is left after a trail

pub record Behind (P : Peer → Type 0) (e : Entries) (plan : Plan) (asked : List Heard) : Type 0 where
  pub left : Plan
  pub only : AsksOnly P left
  pub whole : (trail : List Heard) → Follows e left trail → Follows e plan (asked ++ trail)

pub left_behind : (P : Peer → Type 0) (e : Entries) (plan : Plan) (asked more : List Heard) → AsksOnly P plan → AllByRecursion (λ h. Names P h.got) asked → Follows e plan (asked ++ more) → Behind P e plan asked
left_behind P e plan [] more only named f = record { left = plan; only = only; whole = λ trail g. g }
left_behind P e ended (h ∷ asked) more only named f = absurd (nil_cons h (asked ++ more) (sym f))
left_behind P e (asking node looks next) (h ∷ asked) more only named f =
    let is : h ≡ entry e looks node f.0 = cons_head h (asked ++ more) (entry e looks node f.0) f.1 f.2 in
    let then_is : Follows e (next f.0) (asked ++ more) = subst (Follows e (next f.0)) (sym (cons_tail h (asked ++ more) (entry e looks node f.0) f.1 f.2)) f.3 in
    let rest = left_behind P e (next f.0) asked more (only.1 f.0 (subst (λ (x : Heard). Names P x.got) is named.0)) named.1 then_is in
    record {
      left = rest.left;
      only = rest.only;
      whole = λ trail g. (f.0, asked ++ trail, ap (λ (x : Heard). x ∷ (asked ++ trail)) is, rest.whole trail g);
    }

-- ---- executions

-- the whole trails are those that follow a plan, by which only such nodes are asked
pub record IsPlannedOf (P : Peer → Type 0) (e : Entries) (Whole : List Heard → Type 0) : Type 0 where
  pub plan : Plan
  pub fits : (trail : List Heard) → Whole trail → Follows e plan trail
  pub back : (trail : List Heard) → Follows e plan trail → Whole trail
  pub only : AsksOnly P plan

module _ {T : Type 0} (e : Entries) (question : Ask) (told_by : IsToldBy e question) (IsEnough : Told → Type 0) (decided : (t : Told) → IsEnough t ⊎ (IsEnough t → ⊥)) (Ends : List Peer → Told → Result T Miss → Type 0)
    (asks_of : (owners : List Peer) (asks : Told) (result : Result T Miss) → Ends owners asks result → AreAsks owners IsEnough asks)
    (end_of : (owners : List Peer) (asks : Told) → AreAsks owners IsEnough asks → (result : Result T Miss) × Ends owners asks result) (entries : List Peer) (P : Peer → Type 0) (made : AllByRecursion P entries) where
  abbrev After : Option (List Peer) → Plan
  After = after_plan e question told_by IsEnough decided Ends asks_of end_of entries

  abbrev Whole : List Heard → Type 0
  Whole = IsWhole e question told_by IsEnough decided Ends asks_of end_of entries

  after_only : (last : Option (List Peer)) → IfSome last (AllByRecursion P) → AsksOnly P (After last)
  after_only None h = tt
  after_only (Some []) h = tt
  after_only (Some (p ∷ ps)) h = owners_only e IsEnough decided P (firsts [] (p ∷ ps)) [] (firsts_only P [] (p ∷ ps) h)

  planned_from : (n : ℕ) → n ≡ 512 → IsPlannedOf P e Whole
  planned_from n s = record {
    plan = look_plan e After n [] None entries;
    fits = execution_fits e question told_by IsEnough decided Ends asks_of end_of entries n s;
    back = execution_back e question told_by IsEnough decided Ends asks_of end_of entries n s;
    only = look_only e After P after_only n [] None entries tt made;
  }

  pub execution_planned : IsPlannedOf P e Whole
  execution_planned = planned_from 512 refl

-- ---- puts

module _ (e : Entries) (question : Ask) (told_by : IsToldBy e question) (r : ℕ) (entries : List Peer) where
  abbrev pub IsWholePut : List Heard → Type 0
  IsWholePut trail = (result : Result Bool Miss) × IsExecution e.key question entries (EndsPut r) trail result

  pub put_planned : (P : Peer → Type 0) → AllByRecursion P entries → IsPlannedOf P e IsWholePut
  put_planned P made = execution_planned e question told_by (λ t. r ≤ answered_in is_of_put t) (λ t. at_most_or_not r (answered_in is_of_put t)) (EndsPut r) (λ owners asks result h. h.1.asks) (put_end r) entries P made
