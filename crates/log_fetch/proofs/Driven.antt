-- What a driver of the heads of one log keeps: after what it was brought so far, how far the heads have come. So it is at the start; `give`
-- and `conclude` keep it; and by it the log wants a block, or stops where that can't be had.
use Rattle.std.proofs.Common.{◌≡◌, ℕ, zero, suc, ◌-◌, List, [], ◌∷◌, ◌++◌, Option, Some, None, Err, refl, sym, ap, ◌∙◌, subst}
use Rattle.std.proofs.lemmas.List.{append-nil, append_assoc}
use Rattle.ivy_base.specs.declared.key.Key.{Key}
use Rattle.ivy_base.specs.declared.key.PubKey.{PubKey}
use Rattle.ivy_base.specs.Naming.{head_key_of}
use Rattle.log_model.specs.View.{View}
use Rattle.log_model.specs.Vector.{Stamp, Vector, seq_of}
use Rattle.log_model.specs.Record.{Record}
use Rattle.log_model.specs.Fetched.{Edge}
use Rattle.log_model.specs.declared.chain_fault.ChainFault.{ChainFault}
use Rattle.dhash_model.specs.declared.miss.Miss.{Miss}
use Rattle.session_model.specs.Brought.{Brought, BlockOf, Content}
use Rattle.session_model.specs.Walks.{Walks, Tries, Lacks, Stops, Wants}
use Rattle.session_model.specs.Walks.Tries.{wants as head_wants, misses as head_misses}
use Rattle.log_fetch.specs.Walking.{Walking, HasCome, wanted_at, wanted_of}
use Rattle.log_fetch.specs.Walking.HasCome.{wants as still_wants}
use Rattle.log_fetch.specs.Trying.{Trying, HasTried, IsBegunAt, first_of}
use Rattle.log_fetch.proofs.Further.{is_missed}
use Rattle.log_fetch.proofs.Trying.{begins}

no_key : (key : Key) → None ≡ Some key → ⊥
no_key key e = cc e

some_key : (a b : Key) → Some a ≡ Some b → a ≡ b
some_key a b e = cc e

-- the walk that wants a block wants it by the definition
wanting : (owner : PubKey) (count : ℕ) (newest : Key) (brought : List Brought) (left : ℕ) (next : Key) (found : Option (List Record)) → HasCome owner count newest brought left next found → (key : Key) → wanted_at left next ≡ Some key
    → (records : List Record) × Walks owner count newest brought records (Wants key)
wanting owner count newest brought zero next found h key e = absurd (no_key key e)
wanting owner count newest brought (suc left) next found (still_wants {records = records} w some l k) key e =
    (records, subst (λ (n : Key). Walks owner count newest brought records (Wants n)) (some_key next key e) w)

module _ (view : View) (owner : PubKey) (start floor : Vector) (edge : Option Edge) where
  -- with the first head nothing was brought
  pub tries_first : (all : List Stamp) (t : Trying) → IsBegunAt owner (seq_of start (head_key_of owner)) all None t → HasTried view owner start floor edge all [] t
  tries_first all t is = record {
    passed = [];
    walked = [];
    faults = [];
    brought_is = refl;
    goes_on = λ {more} {others} {end} tries. subst (λ (l : List Stamp). Tries (record { view = view; owner = owner; start = start; floor = floor; edge = edge }) l more others end) is.0 tries;
    fault_is = is.3;
    owner_is = ap (λ (w : Walking). w.owner) is.1;
    held_is = is.2;
    walk_is = subst (λ (w : Walking). HasCome w.owner (count t.head) t.head.name [] w.left w.next w.found) (sym is.1) (begins owner (count t.head) t.head.name);
  }
    where
      count : Stamp → ℕ
      count s = s.seq - seq_of start (head_key_of owner)

  module _ (all : List Stamp) (brought : List Brought) (t : Trying) (h : HasTried view owner start floor edge all brought t) (key : Key) (want : wanted_of t.walk ≡ Some key) where
    walks : (records : List Record) × Walks owner (t.head.seq - seq_of start (head_key_of owner)) t.head.name h.walked records (Wants key)
    walks =
        wanting owner (t.head.seq - seq_of start (head_key_of owner)) t.head.name h.walked t.walk.left t.walk.next t.walk.found
        (subst (λ (o : PubKey). HasCome o (t.head.seq - seq_of start (head_key_of owner)) t.head.name h.walked t.walk.left t.walk.next t.walk.found) h.owner_is h.walk_is) key want

    -- the log wants that block
    pub log_wants : (faults : List ChainFault) × Tries (record { view = view; owner = owner; start = start; floor = floor; edge = edge }) all brought faults (Lacks (Content key)) × (t.fault ≡ first_of faults)
    log_wants = (
      h.faults ++ [],
      subst (λ (b : List Brought). Tries (record { view = view; owner = owner; start = start; floor = floor; edge = edge }) all b (h.faults ++ []) (Lacks (Content key))) (sym h.brought_is) (h.goes_on (head_wants walks.1)),
      h.fault_is ∙ ap first_of (sym (append-nil h.faults)),
    )

    -- and where the block can't be had, it stops
    pub log_stops : (miss : Miss) → (faults : List ChainFault) × Tries (record { view = view; owner = owner; start = start; floor = floor; edge = edge }) all (brought ++ BlockOf key (Err miss) ∷ []) faults (Stops miss) × (t.fault ≡ first_of faults)
    log_stops miss = (
      h.faults ++ [],
      subst (λ (b : List Brought). Tries (record { view = view; owner = owner; start = start; floor = floor; edge = edge }) all b (h.faults ++ []) (Stops miss)) (sym (append_assoc h.passed h.walked (BlockOf key (Err miss) ∷ [])) ∙ ap (λ (b : List Brought). b ++ BlockOf key (Err miss) ∷ []) (sym h.brought_is))
          (h.goes_on (head_misses (is_missed owner walks.1 miss))),
      h.fault_is ∙ ap first_of (sym (append-nil h.faults)),
    )
