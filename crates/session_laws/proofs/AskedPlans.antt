-- Gets and puts as plans. Where the whole trails are those that follow a plan, a whole one begins no other, one ask is the next, and it goes on whatever is answered.
use Rattle.std.proofs.Common.{◌≡◌, ◌≢◌, ◌⊎◌, Bool, true, false, List, [], ◌∷◌, ◌++◌, Option, Some, None, refl, sym, ap, ◌∙◌, subst, inl, inr, ⊎_elim}
use Rattle.std.proofs.lemmas.List.{append_assoc}
use Rattle.std.proofs.lemmas.Grind.{flat_map-append}
use Rattle.ivy_base.specs.Naming.{name}
use Rattle.ivy_base.specs.declared.key.Key.{Key}
use Rattle.dht_ids.specs.declared.ask.Answer.{Answer}
use Rattle.dht_ids.specs.declared.ask.Answer.TheVariants as answer
use Rattle.dht_ids.specs.declared.ask.Ask.{Ask}
use Rattle.dht_ids.specs.declared.ask.Ask.TheVariants as ask
use Rattle.dht_ids.specs.declared.ask.AskKind.{AskKind}
use Rattle.dht_ids.specs.declared.ask.AskKind.TheVariants as kind
use Rattle.dht_ids.specs.declared.ask.Heard.{Heard}
use Rattle.dht_ids.specs.declared.peer.Peer.{Peer}
use Rattle.dht_ids.specs.Asked.{told, IsForData}
use Rattle.ring_model.proofs.Lists.{cons_head, cons_tail, nil_cons}
use Rattle.dhash_model.specs.Execution.{Told, told_all}
use Rattle.session_laws.specs.Laws.{NextIsNotWhole}
use Rattle.session_model.specs.Asking.{IsBegun, AsksNext, BeginsNoOther, AsksOneNext, GoesOnAlways}

-- a plan is over, or a node is asked, for the route or as an owner, and the answer tells how it goes on
pub data Plan : Type 0 where
  ended : Plan
  asking : (node : Peer) → (looks : Bool) → (next : Answer → Plan) → Plan

-- ---- entries of a trail

-- what the entries of the owners' asks have beside the node and the answer: they are of another kind than those of the look-up
pub record Entries : Type 0 where
  pub key : Key
  pub what : AskKind
  pub put : Option Key
  pub other : what ≡ kind.Route → ⊥

abbrev pub kind_of : Entries → Bool → AskKind
kind_of e true = kind.Route
kind_of e false = e.what

abbrev pub put_of : Entries → Bool → Option Key
put_of e true = None
put_of e false = e.put

-- the entry that tells of an ask for the route, or of an owner
abbrev pub entry : Entries → Bool → Peer → Answer → Heard
entry e looks node given = record { node = node; kind = kind_of e looks; key = e.key; put = put_of e looks; got = given }

same_kind : (e : Entries) (a b : Bool) → kind_of e a ≡ kind_of e b → a ≡ b
same_kind e true true h = refl
same_kind e true false h = absurd (e.other (sym h))
same_kind e false true h = absurd (e.other h)
same_kind e false false h = refl

same_entry : (e : Entries) (a b : Bool) (n m : Peer) (x y : Answer) → entry e a n x ≡ entry e b m y → (a ≡ b) × (n ≡ m) × (x ≡ y)
same_entry e a b n m x y h = (same_kind e a b (ap (λ (s : Heard). s.kind) h), ap (λ (s : Heard). s.node) h, ap (λ (s : Heard). s.got) h)

-- ---- trails that follow a plan

abbrev pub Follows : Entries → Plan → List Heard → Type 0
Follows e ended trail = trail ≡ []
Follows e (asking node looks next) trail = (given : Answer) × (rest : List Heard) × (trail ≡ entry e looks node given ∷ rest) × Follows e (next given) rest

after_entry : (e : Entries) (node : Peer) (looks : Bool) (next : Answer → Plan) (h : Heard) (rest : List Heard) → Follows e (asking node looks next) (h ∷ rest) → (given : Answer) × (h ≡ entry e looks node given) × Follows e (next given) rest
after_entry e node looks next h rest f =
    (f.0, cons_head h rest (entry e looks node f.0) f.1 f.2, subst (Follows e (next f.0)) (sym (cons_tail h rest (entry e looks node f.0) f.1 f.2)) f.3)

pub some_follows : (e : Entries) (plan : Plan) → (trail : List Heard) × Follows e plan trail
some_follows e ended = ([], refl)
some_follows e (asking node looks next) = let r = some_follows e (next answer.Silent) in (entry e looks node answer.Silent ∷ r.0, (answer.Silent, r.0, refl, r.1))

begins_itself : (e : Entries) (plan : Plan) (trail more : List Heard) → Follows e plan trail → Follows e plan (trail ++ more) → more ≡ []
begins_itself e ended trail more f g = ap (λ t. t ++ more) (sym f) ∙ g
begins_itself e (asking node looks next) [] more f g = absurd (nil_cons (entry e looks node f.0) f.1 f.2)
begins_itself e (asking node looks next) (h ∷ trail) more f g =
    let a = after_entry e node looks next h trail f in
    let b = after_entry e node looks next h (trail ++ more) g in
    let same : b.0 ≡ a.0 = (same_entry e looks looks node node b.0 a.0 (sym b.1 ∙ a.1)).2 in
    begins_itself e (next a.0) trail more a.2 (subst (λ x. Follows e (next x) (trail ++ more)) same b.2)

one_next : (e : Entries) (plan : Plan) (trail : List Heard) (a b : Bool) (n m : Peer) (x y : Answer) (more others : List Heard) → Follows e plan (trail ++ entry e a n x ∷ more) → Follows e plan (trail ++ entry e b m y ∷ others)
    → (a ≡ b) × (n ≡ m)
one_next e ended [] a b n m x y more others f g = absurd (nil_cons (entry e a n x) more (sym f))
one_next e ended (h ∷ trail) a b n m x y more others f g = absurd (nil_cons h (trail ++ entry e a n x ∷ more) (sym f))
one_next e (asking node looks next) [] a b n m x y more others f g =
    let p = same_entry e a looks n node x f.0 (cons_head (entry e a n x) more (entry e looks node f.0) f.1 f.2) in
    let q = same_entry e b looks m node y g.0 (cons_head (entry e b m y) others (entry e looks node g.0) g.1 g.2) in
    (p.0 ∙ sym q.0, p.1 ∙ sym q.1)
one_next e (asking node looks next) (h ∷ trail) a b n m x y more others f g =
    let p = after_entry e node looks next h (trail ++ entry e a n x ∷ more) f in
    let q = after_entry e node looks next h (trail ++ entry e b m y ∷ others) g in
    let same : q.0 ≡ p.0 = (same_entry e looks looks node node q.0 p.0 (sym q.1 ∙ p.1)).2 in
    one_next e (next p.0) trail a b n m x y more others p.2 (subst (λ z. Follows e (next z) (trail ++ entry e b m y ∷ others)) same q.2)

goes_on : (e : Entries) (plan : Plan) (trail : List Heard) (a : Bool) (n : Peer) (x y : Answer) (more : List Heard) → Follows e plan (trail ++ entry e a n x ∷ more) → (others : List Heard) × Follows e plan (trail ++ entry e a n y ∷ others)
goes_on e ended [] a n x y more f = absurd (nil_cons (entry e a n x) more (sym f))
goes_on e ended (h ∷ trail) a n x y more f = absurd (nil_cons h (trail ++ entry e a n x ∷ more) (sym f))
goes_on e (asking node looks next) [] a n x y more f =
    let p = same_entry e a looks n node x f.0 (cons_head (entry e a n x) more (entry e looks node f.0) f.1 f.2) in
    let r = some_follows e (next y) in
    (r.0, (y, r.0, ap (λ (z : Bool). entry e z n y ∷ r.0) p.0 ∙ ap (λ (z : Peer). entry e looks z y ∷ r.0) p.1, r.1))
goes_on e (asking node looks next) (h ∷ trail) a n x y more f =
    let p = after_entry e node looks next h (trail ++ entry e a n x ∷ more) f in
    let r = goes_on e (next p.0) trail a n x y more p.2 in
    (r.0, (p.0, trail ++ entry e a n y ∷ r.0, ap (λ (z : Heard). z ∷ (trail ++ entry e a n y ∷ r.0)) p.1, r.1))

-- ---- the laws

-- the whole trails are those that follow a plan
pub record IsPlanned (e : Entries) (Whole : List Heard → Type 0) : Type 0 where
  pub plan : Plan
  pub fits : (trail : List Heard) → Whole trail → Follows e plan trail
  pub back : (trail : List Heard) → Follows e plan trail → Whole trail

-- what is whole where that is has the same plan
pub planned_alike : (e : Entries) (Whole Other : List Heard → Type 0) → IsPlanned e Whole → ((trail : List Heard) → Whole trail → Other trail) → ((trail : List Heard) → Other trail → Whole trail) → IsPlanned e Other
planned_alike e Whole Other p to from = record { plan = p.plan; fits = λ trail w. p.fits trail (from trail w); back = λ trail f. to trail (p.back trail f) }

pub begins_none : (e : Entries) (Whole : List Heard → Type 0) → IsPlanned e Whole → BeginsNoOther Whole
begins_none e Whole p asked more one other = begins_itself e p.plan asked more (p.fits asked one) (p.fits (asked ++ more) other)

-- an ask of the owners is determined by their entry
abbrev pub IsToldBy : Entries → Ask → Type 0
IsToldBy e question = (node : Peer) (given : Answer) → told node question given ≡ entry e false node given ∷ []

abbrev question_of : Entries → Ask → Bool → Ask
question_of e own true = ask.Route e.key
question_of e own false = own

told_by : (e : Entries) (own : Ask) → IsToldBy e own → (looks : Bool) (node : Peer) (given : Answer) → told node (question_of e own looks) given ≡ entry e looks node given ∷ []
told_by e own t true node given = refl
told_by e own t false node given = t node given

which : (e : Entries) (own question : Ask) → (question ≡ ask.Route e.key) ⊎ (question ≡ own) → (looks : Bool) × (question ≡ question_of e own looks)
which e own question (inl h) = (true, h)
which e own question (inr h) = (false, h)

in_place : (e : Entries) (plan : Plan) (trail said more : List Heard) (x : Heard) → said ≡ x ∷ [] → Follows e plan ((trail ++ said) ++ more) → Follows e plan (trail ++ x ∷ more)
in_place e plan trail said more x is f = subst (Follows e plan) (append_assoc trail (x ∷ []) more) (subst (λ (l : List Heard). Follows e plan ((trail ++ l) ++ more)) is f)

-- the next ask, by its entry
record IsNext (e : Entries) (own : Ask) (plan : Plan) (trail : List Heard) (node : Peer) (question : Ask) : Type 0 where
  looks : Bool
  is : question ≡ question_of e own looks
  given : Answer
  more : List Heard
  follows : Follows e plan (trail ++ entry e looks node given ∷ more)

is_next : (e : Entries) (own : Ask) (Whole : List Heard → Type 0) → IsToldBy e own → (p : IsPlanned e Whole) → (trail : List Heard) (node : Peer) (question : Ask) → AsksNext e.key own Whole trail node question
    → IsNext e own p.plan trail node question
is_next e own Whole t p trail node question n =
    let w = which e own question n.is_of in
    record {
      looks = w.0;
      is = w.1;
      given = n.answer;
      more = n.more;
      follows = in_place e p.plan trail (told node question n.answer) n.more (entry e w.0 node n.answer) (ap (λ (q : Ask). told node q n.answer) w.1 ∙ told_by e own t w.0 node n.answer) (p.fits (trail ++ told node question n.answer ++ n.more) n.whole);
    }

one_is_next : (e : Entries) (own : Ask) (Whole : List Heard → Type 0) → IsToldBy e own → IsPlanned e Whole → AsksOneNext e.key own Whole
one_is_next e own Whole t p asked node other question another m n =
    let a = is_next e own Whole t p asked node question m in
    let b = is_next e own Whole t p asked other another n in
    let s = one_next e p.plan asked a.looks b.looks node other a.given b.given a.more b.more a.follows b.follows in
    (s.1, a.is ∙ ap (question_of e own) s.0 ∙ sym b.is)

by_rest : (e : Entries) (Whole : List Heard → Type 0) (p : IsPlanned e Whole) (asked : List Heard) (x : Heard) (said more : List Heard) → x ∷ [] ≡ said → Follows e p.plan (asked ++ x ∷ more) → Whole (asked ++ said) ⊎ IsBegun Whole (asked ++ said)
by_rest e Whole p asked x said [] is f = inl (subst (λ (l : List Heard). Whole (asked ++ l)) is (p.back (asked ++ x ∷ []) f))
by_rest e Whole p asked x said (y ∷ more) is f =
    let whole : Whole ((asked ++ said) ++ y ∷ more) =
    subst (λ (l : List Heard). Whole ((asked ++ l) ++ y ∷ more)) is (subst Whole (sym (append_assoc asked (x ∷ []) (y ∷ more))) (p.back (asked ++ x ∷ y ∷ more) f)) in
    inr ((λ w. nil_cons y more (sym (begins_none e Whole p (asked ++ said) (y ∷ more) w whole))), y ∷ more, whole)

goes_on_always : (e : Entries) (own : Ask) (Whole : List Heard → Type 0) → IsToldBy e own → IsPlanned e Whole → GoesOnAlways e.key own Whole
goes_on_always e own Whole t p asked node question given m =
    let a = is_next e own Whole t p asked node question m in
    let r = goes_on e p.plan asked a.looks node a.given given a.more a.follows in
    by_rest e Whole p asked (entry e a.looks node given) (told node question given) r.0 (sym (ap (λ (q : Ask). told node q given) a.is ∙ told_by e own t a.looks node given)) r.1

begun : (e : Entries) (Whole : List Heard → Type 0) → IsPlanned e Whole → (Whole [] → ⊥) → IsBegun Whole []
begun e Whole p none = let r = some_follows e p.plan in (none, r.0, p.back r.0 r.1)

-- what is said of gets and of puts, from these entry nodes
abbrev pub AreDeterministic : Key → Ask → List Peer → (List Heard → Type 0) → Type 0
AreDeterministic key own entries Whole = BeginsNoOther Whole × AsksOneNext key own Whole × GoesOnAlways key own Whole × (entries ≢ [] → IsBegun Whole [])

pub are_deterministic : (e : Entries) (own : Ask) (entries : List Peer) (Whole : List Heard → Type 0) → IsToldBy e own → IsPlanned e Whole → (entries ≢ [] → Whole [] → ⊥) → AreDeterministic e.key own entries Whole
are_deterministic e own entries Whole t p some = (begins_none e Whole p, one_is_next e own Whole t p, goes_on_always e own Whole t p, λ h. begun e Whole p (some h))

-- ---- what is asked next

-- an ask for data is told
told_some : (question : Ask) → IsForData question → (node : Peer) (given : Answer) (more : List Heard) → told node question given ++ more ≡ [] → ⊥
told_some (ask.Route key) ok node given more h = nil_cons (record { node = node; kind = kind.Route; key = key; put = None; got = given }) more (sym h)
told_some ask.Near ok node given more h = ok
told_some (ask.Notify peer) ok node given more h = ok
told_some (ask.Get key) ok node given more h = nil_cons (record { node = node; kind = kind.Get; key = key; put = None; got = given }) more (sym h)
told_some (ask.PutBlock key bytes) ok node given more h = nil_cons (record { node = node; kind = kind.PutBlock; key = key; put = Some (name bytes); got = given }) more (sym h)
told_some (ask.PutHead key bytes) ok node given more h = nil_cons (record { node = node; kind = kind.PutHead; key = key; put = Some (name bytes); got = given }) more (sym h)

-- Where a whole one begins no other, none is whole that goes on. Owners must be asked for data, since other asks are not told.
pub next_is_not_whole : (key : Key) (own : Ask) (Whole : List Heard → Type 0) → IsForData own → BeginsNoOther Whole → NextIsNotWhole key own Whole
next_is_not_whole key own Whole ok one trail node question n whole =
    let asks : IsForData question = ⊎_elim (λ h. subst IsForData (sym h) tt) (λ h. subst IsForData (sym h) ok) n.is_of in
    told_some question asks node n.answer n.more (one trail (told node question n.answer ++ n.more) whole (subst Whole (append_assoc trail (told node question n.answer) n.more) n.whole))

-- what is next of one is next of another that is whole wherever that is
pub next_alike : (key : Key) (own : Ask) (Whole Other : List Heard → Type 0) → ((trail : List Heard) → Whole trail → Other trail) → (trail : List Heard) (node : Peer) (question : Ask) → AsksNext key own Whole trail node question
    → AsksNext key own Other trail node question
next_alike key own Whole Other to trail node question n = record { is_of = n.is_of; answer = n.answer; more = n.more; whole = to ((trail ++ told node question n.answer) ++ n.more) n.whole }

-- an ask in a trail, and what follows it
pub told_between : (question : Ask) (trail front : List Heard) (asks : Told) (node : Peer) (given : Answer) (more : Told) → trail ≡ front ++ told_all question asks
    → (trail ++ told node question given) ++ told_all question more ≡ front ++ told_all question (asks ++ (node, given) ∷ more)
told_between question trail front asks node given more is =
    ap (λ (l : List Heard). (l ++ told node question given) ++ told_all question more) is
    ∙ append_assoc (front ++ told_all question asks) (told node question given) (told_all question more)
    ∙ append_assoc front (told_all question asks) (told node question given ++ told_all question more)
    ∙ ap (λ (l : List Heard). front ++ l) (sym (flat_map-append (λ s. told s.0 question s.1) asks ((node, given) ∷ more)))
