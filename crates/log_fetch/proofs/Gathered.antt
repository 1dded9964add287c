-- What the members' fetch wants by how far it has come, and how it goes on.
use Rattle.std.proofs.Common.{◌≡◌, ℕ, List, [], ◌∷◌, ◌++◌, map, Some, None, Err, refl, sym, ap, ◌∙◌, subst}
use Rattle.std.proofs.lemmas.List.{append_assoc}
use Rattle.ivy_base.specs.declared.key.Key.{Key}
use Rattle.ivy_base.specs.declared.key.PubKey.{PubKey}
use Rattle.ivy_base.specs.Naming.{head_key_of}
use Rattle.log_model.specs.Vector.{Stamp, Vector, stamp_at, seq_of}
use Rattle.log_model.proofs.Lists.{here, in_nothing}
use Rattle.log_model.specs.declared.chain_fault.ChainFault.TheVariants as fault
use Rattle.log_model.specs.declared.chain_fault.ChainFault.{ChainFault}
use Rattle.dhash_model.specs.declared.miss.Miss.{Miss}
use Rattle.agent_model.specs.Standing.{Standing, Chain, edge_at}
use Rattle.session_model.specs.Brought.{Brought, HeadsOf, BlockOf, Heads, Content}
use Rattle.session_model.specs.Walks.{Tries, AreTried, LogEnd, Lacks, Stops}
use Rattle.session_model.specs.Refreshing.{Note, note_of, floors_own, RefreshEnd, Needs, FailsBy, Done, end_of_log, chains_of, Fetches, FetchesAll}
use Rattle.session_model.specs.Refreshing.Fetches.{wants_heads, no_heads, of_heads, of_own as own_log}
use Rattle.session_model.specs.Refreshing.FetchesAll.{all as all_done, stays, goes_on as one_more}
use Rattle.log_fetch.specs.Walking.{wanted_of}
use Rattle.log_fetch.specs.Trying.{Trying, first_of}
use Rattle.log_fetch.proofs.Driven.{log_wants, log_stops}
use Rattle.log_fetch.specs.declared.gather.Stage.TheVariants as stage
use Rattle.log_fetch.specs.Gathering.{HeadsCame, StandsSo, noted_for}
use Rattle.log_fetch.specs.Standings.{note_of as kept_note}
use Rattle.log_fetch.specs.Gathering.HeadsCame.{of_own as came_own, of_other as came_other}
use Rattle.log_fetch.specs.Gathering.StandsSo.{wants_heads as heads_next, wants_block as log_next, all_through}

-- of no heads none are tried
none_tried : (floor : ℕ) (tried : List Stamp) → AreTried floor [] tried → tried ≡ []
none_tried floor [] are = refl
none_tried floor (t ∷ ts) are = absurd (in_nothing t ((are.each t).0 (here t ts)).0)

-- what is noted, of the first fault and of all
pub same_notes : (log : Key) (faults : List ChainFault) → noted_for log (first_of faults) ≡ map kept_note (note_of log faults)
same_notes log [] = refl
same_notes log (fault.Bad ∷ others) = refl
same_notes log (fault.Fork ∷ others) = refl
same_notes log (fault.Memory ∷ others) = refl

module _ (s : Standing) (start : Vector) where
  -- what the heads' tries have come to, the member's log has come to
  pub log_fetches : (owner : PubKey) (came : List Brought) (all : List Stamp) → HeadsCame s start owner came all → (walked : List Brought) (faults : List ChainFault) (end : LogEnd)
      → Tries (record { view = s.view; owner = owner; start = start; floor = s.floor; edge = edge_at s (head_key_of owner) }) all walked faults end → Fetches (record { standing = s; start = start }) owner (came ++ walked) (note_of (head_key_of owner) faults) end
  log_fetches owner came all (came_own all2 own are) walked faults end tries =
      let none : are.0 ≡ [] = none_tried _ are.0 are.1 in
      let same : all ≡ floors_own (stamp_at s.floor (head_key_of owner)) (seq_of start (head_key_of owner)) = are.2 ∙ ap (λ (l : List Stamp). l ++ floors_own (stamp_at s.floor (head_key_of owner)) (seq_of start (head_key_of owner))) none in
      own_log walked faults end own (subst (λ (l : List Stamp). Tries (record { view = s.view; owner = owner; start = start; floor = s.floor; edge = edge_at s (head_key_of owner) }) l walked faults end) same tries)
  log_fetches owner came all (came_other heads all2 other are) walked faults end tries =
      of_heads heads are.0 walked faults end other are.1 (subst (λ (l : List Stamp). Tries (record { view = s.view; owner = owner; start = start; floor = s.floor; edge = edge_at s (head_key_of owner) }) l walked faults end) are.2 tries)

  -- a block is wanted, or can't be had: so it is of the member's log
  pub log_lacks : (owners : List PubKey) (now : List Brought) (t : Trying) → StandsSo s start owners now (stage.Log t) → (key : Key) → wanted_of t.walk ≡ Some key → (notes : List Note) × FetchesAll (record { standing = s; start = start }) owners now notes [] (Needs (Content key))
  log_lacks owners now t (log_next owner rest came walked all t2 heads_came left of_owner tried) key want =
      let w = log_wants s.view owner start s.floor (edge_at s (head_key_of owner)) all walked t tried key want in
      (note_of (head_key_of owner) w.0, stays (log_fetches owner came all heads_came walked w.0 (Lacks (Content key)) w.1) refl)

  pub log_misses : (owners : List PubKey) (now : List Brought) (t : Trying) → StandsSo s start owners now (stage.Log t) → (key : Key) → wanted_of t.walk ≡ Some key → (miss : Miss)
      → (notes : List Note) × FetchesAll (record { standing = s; start = start }) owners (now ++ BlockOf key (Err miss) ∷ []) notes [] (FailsBy miss) × (noted_for (head_key_of t.walk.owner) t.fault ≡ map kept_note notes)
  log_misses owners now t (log_next owner rest came walked all t2 heads_came left of_owner tried) key want miss =
      let w = log_stops s.view owner start s.floor (edge_at s (head_key_of owner)) all walked t tried key want miss in (
        note_of (head_key_of owner) w.0,
        subst (λ (b : List Brought). FetchesAll (record { standing = s; start = start }) (owner ∷ rest) b (note_of (head_key_of owner) w.0) [] (FailsBy miss)) (sym (append_assoc came walked (BlockOf key (Err miss) ∷ [])))
            (stays (log_fetches owner came all heads_came (walked ++ BlockOf key (Err miss) ∷ []) w.0 (Stops miss) w.1) refl),
        ap (λ (o : PubKey). noted_for (head_key_of o) t.fault) of_owner ∙ ap (noted_for (head_key_of owner)) w.2 ∙ same_notes (head_key_of owner) w.0,
      )

  -- the heads are wanted, or can't be had
  pub heads_lack : (owners : List PubKey) (now : List Brought) (owner : PubKey) → StandsSo s start owners now (stage.Heads owner) → FetchesAll (record { standing = s; start = start }) owners now [] [] (Needs (Heads owner))
  heads_lack owners now owner (heads_next o os other) = stays (wants_heads other) refl

  pub heads_miss : (owners : List PubKey) (now : List Brought) (owner : PubKey) → StandsSo s start owners now (stage.Heads owner) → (miss : Miss) → FetchesAll (record { standing = s; start = start }) owners (now ++ HeadsOf owner (Err miss) ∷ []) [] [] (FailsBy miss)
  heads_miss owners now owner (heads_next o os other) miss = stays (no_heads miss other) refl

  -- all is done
  pub all_done_at : (owners : List PubKey) (now : List Brought) → StandsSo s start owners now stage.Through → FetchesAll (record { standing = s; start = start }) owners now [] [] Done
  all_done_at owners now all_through = all_done

  -- a member's log is through, and the next one begins
  pub one_through : (owner : PubKey) (owners : List PubKey) (came walked : List Brought) (all : List Stamp) (faults : List ChainFault) (end : LogEnd) → HeadsCame s start owner came all
      → Tries (record { view = s.view; owner = owner; start = start; floor = s.floor; edge = edge_at s (head_key_of owner) }) all walked faults end → end_of_log end ≡ None
      → {more : List Brought} {others : List Note} {chains : List Chain} {last : RefreshEnd} → FetchesAll (record { standing = s; start = start }) owners more others chains last
      → FetchesAll (record { standing = s; start = start }) (owner ∷ owners) ((came ++ walked) ++ more) (note_of (head_key_of owner) faults ++ others) (chains_of owner end ++ chains) last
  one_through owner owners came walked all faults end heads_came tries over rest = one_more (log_fetches owner came all heads_came walked faults end tries) over rest
