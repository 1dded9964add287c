-- The fetch of all members takes heads, or a block.
use Rattle.std.proofs.Common.{◌≡◌, ℕ, zero, suc, ◌+◌, ◌^◌, ◌<◌, length, List, [], ◌∷◌, ◌++◌, map, drop, Option, Some, None, Result, Ok, Err, IfOk, get_or, refl, sym, ap, ◌∙◌, subst, arith}
use Rattle.std.specs.Prelude.{◌≢◌, OnOk}
use Rattle.std.proofs.lemmas.List.{append-nil, append_assoc}
use Rattle.ivy_base.specs.declared.key.Key.{Key}
use Rattle.ivy_base.specs.declared.key.PubKey.{PubKey}
use Rattle.ivy_base.specs.declared.memory.Memory.{Memory}
use Rattle.ivy_base.specs.Naming.{head_key_of}
use Rattle.log_model.specs.View.{IsView}
use Rattle.log_model.specs.Vector.{Stamp, Vector, stamp_at, seq_of}
use Rattle.log_model.specs.declared.chain_fault.ChainFault.{ChainFault}
use Rattle.dht_ids.specs.declared.judge.Judged.{Judged}
use Rattle.session_model.specs.Brought.{Brought, HeadsOf, BlockOf, stamp_of}
use Rattle.log_records.specs.Batches.{Batch}
use Rattle.log_fetch.specs.declared.trial.Settled.{Settled}
use Rattle.log_fetch.specs.Order.{AreToTry}
use Rattle.log_fetch.specs.Walking.{wanted_at}
use Rattle.log_fetch.specs.Trying.{Trying, HasTried, trial_left}
use Rattle.log_fetch.specs.declared.gather.Known.{Known}
use Rattle.log_fetch.specs.declared.gather.Passed.{Passed}
use Rattle.log_fetch.specs.declared.gather.Stage.{Stage}
use Rattle.log_fetch.specs.declared.gather.Stage.TheVariants as stage
use Rattle.log_fetch.specs.declared.note.Note.{Note}
use Rattle.log_fetch.specs.Edges.{edge_in}
use Rattle.log_fetch.specs.Gathering.{Gathering, HeadsCame, StandsSo, HasPassed, Gathers, IsPassing, IsNext, IsGathering, BeginsLog, GoesOnLog, GathersFrom, Advances, HeadsTaken, BlockTaken, HeadsGathered, BlockGathered, gathering_of, at_behind, heads_wanted, block_wanted, gets_in, noted_for, noted_at, seen}
use Rattle.log_fetch.specs.Gathering.HeadsCame.{of_other}
use Rattle.log_fetch.specs.Logs.{GoesOn}
use Rattle.log_fetch.proofs.Advancing.{InProgress, in_progress, awaits, log_gathering, log_gathers, at_next, next_at}
use Rattle.log_fetch.proofs.Lefts.{one_fewer, went_behind}
use Rattle.log_fetch.proofs.Members.{rest_is, within}
use Rattle.log_fetch.proofs.Passing.{one_passed, settled_passing}

pub is_heads : (at : Stage) (owner : PubKey) → heads_wanted at ≡ Some owner → at ≡ stage.Heads owner
is_heads (stage.Heads o) owner e = cc e
is_heads (stage.Log t) owner e = cc e
is_heads stage.Through owner e = cc e

is_next : (k : Known) (p : Passed) (owner : PubKey) (rest : List PubKey) → IsView k.view → drop p.at k.view.members ≡ owner ∷ rest → IsNext k p owner
is_next k p owner rest is_view e = record { is_view = is_view; owner_is = e ∙ ap (λ (l : List PubKey). owner ∷ l) (rest_is k.view.members p.at owner rest e) }

-- ---- heads

module _ (k : Known) (p : Passed) (owner : PubKey) (is : IsGathering (gathering_of k p (stage.Heads owner))) where
  abbrev wanting : Gathering
  wanting = gathering_of k p (stage.Heads owner)

  pub heads_next : IsNext k p owner
  heads_next = let a = awaits (seen k) p.batch.held (drop p.at k.view.members) is.now owner is.stands in is_next k p owner a.rest is.is_view a.owners_are

  module _ (heads : List Judged) (new : Passed) where
    brings : (all : List Stamp) → AreToTry (map stamp_of heads) (stamp_at k.floor (head_key_of owner)) (seq_of p.batch.held (head_key_of owner)) all → HeadsCame (seen k) p.batch.held owner (HeadsOf owner (Ok heads) ∷ []) all
    brings all are = of_other heads all (awaits (seen k) p.batch.held (drop p.at k.view.members) is.now owner is.stands).other are

    -- nothing was brought for it before
    brought_before : (start : Vector) (brought : List Brought) (h : Gathers start brought wanting) → brought ≡ h.before
    brought_before start brought h =
        h.brought_is ∙ ap (λ (l : List Brought). h.before ++ l) (awaits (seen k) start (drop p.at k.view.members) h.now owner h.stands).now_is ∙ append-nil h.before

    pub heads_waiting : (t : Trying) → trial_left t < 2 ^ 96 → BeginsLog k p new owner (map stamp_of heads) (Some t) → HeadsTaken k p new owner heads (stage.Log t)
    heads_waiting t few b = record {
      legal = log_gathering k p new owner heads_next b.0 (HeadsOf owner (Ok heads) ∷ []) [] (brings b.0 b.1) t b.2 is.passing;
      gathered = λ start brought h.
          log_gathers k p new owner heads_next b.0 (HeadsOf owner (Ok heads) ∷ []) [] (brings b.0 b.1) t b.2 start h.before (brought ++ HeadsOf owner (Ok heads) ∷ [])
          (ap (λ (l : List Brought). l ++ HeadsOf owner (Ok heads) ∷ []) (brought_before start brought h)) h.passed;
      left = one_fewer (length k.view.members) p.at new.at (1 + 2 ^ 96) (trial_left t) (ap (λ (q : Passed). q.at) b.2.0) (omega (arith, few));
    }

    module _ (b : BeginsLog k p new owner (map stamp_of heads) None) where
      passed_on : (after : Gathering) → GathersFrom k new after → HeadsGathered wanting owner heads after
      passed_on after from = λ start brought h. from start (brought ++ HeadsOf owner (Ok heads) ∷ [])
          (subst (λ (l : List Brought). HasPassed k start (l ++ HeadsOf owner (Ok heads) ∷ []) new) (sym (brought_before start brought h))
          (one_passed k p new owner heads_next b.0 [] b.2 start h.before h.passed (HeadsOf owner (Ok heads) ∷ [])
          (subst (λ (v : Vector). HeadsCame (seen k) v owner (HeadsOf owner (Ok heads) ∷ []) b.0) h.passed.started (brings b.0 b.1))))

      pub heads_passed : (last : Passed) (r : Result Stage Memory) → IfOk r (Advances k new last) → IfOk r (HeadsTaken k p last owner heads)
      heads_passed last (Ok at) a = record {
        legal = a.legal;
        gathered = passed_on (gathering_of k last at) a.from;
        left = went_behind (length k.view.members) p.at new.at (1 + 2 ^ 96) (gets_in (gathering_of k last at)) (at_next k p new owner heads_next b) (omega arith) a.left;
      }
      heads_passed last (Err e) a = tt

-- ---- a block

is_key : (left : ℕ) (next key : Key) → wanted_at left next ≡ Some key → next ≡ key
is_key zero next key e = cc e
is_key (suc left) next key e = cc e

first_same : {X : Type 0} (x y : X) (xs ys : List X) → x ∷ xs ≡ y ∷ ys → x ≡ y
first_same x y xs ys e = cc e

-- where nothing is wanted, all members are through
pub is_through : (g : Gathering) → IsGathering g → heads_wanted g.stage ≡ None → block_wanted g.stage ≡ None → g.stage ≡ stage.Through
is_through g is no_heads no_block = by g.stage is.stands no_heads no_block
  where
    some_left : (left : ℕ) (next : Key) → left ≢ 0 → wanted_at left next ≡ None → ⊥
    some_left zero next some e = some refl
    some_left (suc left) next some e = cc e

    by : (at : Stage) → StandsSo (seen g.known) g.passed.batch.held (drop g.passed.at g.known.view.members) is.now at → heads_wanted at ≡ None → block_wanted at ≡ None → at ≡ stage.Through
    by (stage.Heads owner) stands e f = cc e
    by (stage.Log t) stands e f = absurd (some_left t.walk.left t.walk.next (in_progress (seen g.known) g.passed.batch.held (drop g.passed.at g.known.view.members) is.now t stands).left f)
    by stage.Through stands e f = refl

pub block_wants : (k : Known) (p : Passed) (t : Trying) → IsGathering (gathering_of k p (stage.Log t)) → t.walk.left ≢ 0
block_wants k p t is = (in_progress (seen k) p.batch.held (drop p.at k.view.members) is.now t is.stands).left

pub block_within : (k : Known) (p : Passed) (t : Trying) → IsGathering (gathering_of k p (stage.Log t)) → p.at < length k.view.members
block_within k p t is =
    let u = in_progress (seen k) p.batch.held (drop p.at k.view.members) is.now t is.stands in
    within k.view.members p.at u.owner u.rest u.owners_are

module _ (k : Known) (p : Passed) (t : Trying) (owner : PubKey) (next : IsNext k p owner) (is : IsGathering (gathering_of k p (stage.Log t))) where
  abbrev before : Gathering
  before = gathering_of k p (stage.Log t)

  -- the log in progress is the next member's
  record Goes (now : List Brought) : Type 0 where
    pub came : List Brought
    pub walked : List Brought
    pub all : List Stamp
    pub now_is : now ≡ came ++ walked
    pub heads_came : HeadsCame (seen k) p.batch.held owner came all
    pub of_owner : t.walk.owner ≡ owner
    pub tried : HasTried k.view owner p.batch.held k.floor (edge_in k.edges (head_key_of owner)) all walked t

  goes : (start : Vector) → p.batch.held ≡ start → (now : List Brought) → StandsSo (seen k) start (drop p.at k.view.members) now (stage.Log t) → Goes now
  goes start started now stands = record {
    came = u.came;
    walked = u.walked;
    all = u.all;
    now_is = u.now_is;
    heads_came = subst (λ (o : PubKey). HeadsCame (seen k) p.batch.held o u.came u.all) same u.heads_came;
    of_owner = u.of_owner ∙ same;
    tried = subst (λ (o : PubKey). HasTried k.view o p.batch.held k.floor (edge_in k.edges (head_key_of o)) u.all u.walked t) same u.tried;
  }
    where
      u : InProgress (seen k) p.batch.held (drop p.at k.view.members) now t
      u = in_progress (seen k) p.batch.held (drop p.at k.view.members) now t (subst (λ (v : Vector). StandsSo (seen k) v (drop p.at k.view.members) now (stage.Log t)) (sym started) stands)

      same : u.owner ≡ owner
      same = first_same u.owner owner u.rest (drop (p.at + 1) k.view.members) (sym u.owners_are ∙ next.owner_is)

  pub block_owner : t.walk.owner ≡ owner
  block_owner = (goes p.batch.held refl is.now is.stands).of_owner

  some_left : 0 < trial_left t
  some_left = let some = block_wants k p t is in omega (arith, some)

  module _ (bytes : List ℕ) (new : Passed) where
    -- the block after what was brought before
    longer : (start : Vector) (brought : List Brought) (h : Gathers start brought before) (w : Goes h.now) (key : Key) → t.walk.next ≡ key
        → brought ++ BlockOf key (Ok bytes) ∷ [] ≡ h.before ++ (w.came ++ (w.walked ++ BlockOf t.walk.next (Ok bytes) ∷ []))
    longer start brought h w key key_is =
        ap (λ (b : List Brought). b ++ BlockOf key (Ok bytes) ∷ []) (h.brought_is ∙ ap (λ (b : List Brought). h.before ++ b) w.now_is) ∙ append_assoc h.before (w.came ++ w.walked) (BlockOf key (Ok bytes) ∷ [])
        ∙ ap (λ (b : List Brought). h.before ++ b) (append_assoc w.came w.walked (BlockOf key (Ok bytes) ∷ []))
        ∙ ap (λ (x : Key). h.before ++ (w.came ++ (w.walked ++ BlockOf x (Ok bytes) ∷ []))) (sym key_is)

    pub block_waiting : (after : Trying) → trial_left after < trial_left t → GoesOnLog k p new owner t bytes (Some after) → BlockTaken k p new t bytes (stage.Log after)
    block_waiting after less b =
        let w0 = goes p.batch.held refl is.now is.stands in
        record {
          legal = log_gathering k p new owner next w0.all w0.came (w0.walked ++ BlockOf t.walk.next (Ok bytes) ∷ []) w0.heads_came after (b w0.all w0.walked w0.tried) is.passing;
          gathered = λ start brought key want h.
              let w = goes start h.passed.started h.now h.stands in
              log_gathers k p new owner next w.all w.came (w.walked ++ BlockOf t.walk.next (Ok bytes) ∷ []) w.heads_came after (b w.all w.walked w.tried) start h.before (brought ++ BlockOf key (Ok bytes) ∷ [])
              (longer start brought h w key (is_key t.walk.left t.walk.next key want)) h.passed;
          left = one_fewer (length k.view.members) p.at new.at (trial_left t) (trial_left after) (ap (λ (q : Passed). q.at) (b w0.all w0.walked w0.tried).0) less;
        }

    module _ (b : GoesOnLog k p new owner t bytes None) where
      passes_on : (after : Gathering) → GathersFrom k new after → BlockGathered before bytes after
      passes_on after from = λ start brought key want h.
          let w = goes start h.passed.started h.now h.stands in
          from start (brought ++ BlockOf key (Ok bytes) ∷ [])
          (subst (λ (l : List Brought). HasPassed k start l new) (sym (longer start brought h w key (is_key t.walk.left t.walk.next key want)))
          (one_passed k p new owner next w.all (w.walked ++ BlockOf t.walk.next (Ok bytes) ∷ []) (b w.all w.walked w.tried) start h.before h.passed w.came
          (subst (λ (v : Vector). HeadsCame (seen k) v owner w.came w.all) h.passed.started w.heads_came)))

      pub block_passed : (last : Passed) (r : Result Stage Memory) → IfOk r (Advances k new last) → IfOk r (BlockTaken k p last t bytes)
      block_passed last (Ok at) a =
          let w = goes p.batch.held refl is.now is.stands in
          record {
            legal = a.legal;
            gathered = passes_on (gathering_of k last at) a.from;
            left = went_behind (length k.view.members) p.at new.at (trial_left t) (gets_in (gathering_of k last at)) (ap (λ (q : Passed). q.at) (b w.all w.walked w.tried).4) some_left a.left;
          }
      block_passed last (Err e) a = tt

    -- the batch is as it is to be
    pub block_passing : (batch : Batch) (s : Settled) → GoesOn k.view owner (edge_in k.edges (head_key_of owner)) t bytes p.batch batch s → new.batch ≡ batch → new.at ≡ at_behind p.at s → IsPassing k new
    block_passing batch s on batch_is at_is =
        let w = goes p.batch.held refl is.now is.stands in
        let tried : HasTried k.view owner p.batch.held p.batch.floor (edge_in k.edges (head_key_of owner)) w.all w.walked t =
        subst (λ (v : Vector). HasTried k.view owner p.batch.held v (edge_in k.edges (head_key_of owner)) w.all w.walked t) (sym is.passing.floor_is) w.tried in
        settled_passing k p new batch owner is.passing next w.all (w.walked ++ BlockOf t.walk.next (Ok bytes) ∷ []) s (on w.all w.walked tried) batch_is at_is

-- ---- what is noted of the log in progress

module _ (k : Known) (p : Passed) (at : Stage) (t : Trying) (at_is : at ≡ stage.Log t) (is : IsGathering (gathering_of k p at)) where
  abbrev at_log : IsGathering (gathering_of k p (stage.Log t))
  at_log = subst (λ (s : Stage). IsGathering (gathering_of k p s)) at_is is

  pub stage_within : p.at < length k.view.members
  stage_within = block_within k p t at_log

  pub block_noted : (items : List PubKey) (d : PubKey) → items ≡ k.view.members → (fault : Option ChainFault) → fault ≡ t.fault → (notes : List Note)
      → {E : Type 0} (r : Result Unit E) → OnOk r (notes ≡ p.notes ++ noted_for (head_key_of (get_or items p.at d)) fault) → OnOk r (record p { notes = notes } ≡ record p { notes = p.notes ++ noted_at at })
  block_noted items d same fault fault_is notes (Err e) h = tt
  block_noted items d same fault fault_is notes (Ok u) h =
      let next = next_at k p items k.view.members d same refl is.is_view stage_within in
      let noted : notes ≡ p.notes ++ noted_at at =
      h ∙ ap (λ (f : Option ChainFault). p.notes ++ noted_for (head_key_of (get_or items p.at d)) f) fault_is
      ∙ ap (λ (o : PubKey). p.notes ++ noted_for (head_key_of o) t.fault) (sym (block_owner k p t (get_or items p.at d) next at_log)) ∙ ap (λ (s : Stage). p.notes ++ noted_at s) (sym at_is) in
      ap (λ (n : List Note). record p { notes = n }) noted
