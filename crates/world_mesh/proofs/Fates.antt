-- What becomes of an ask.
use Rattle.std.proofs.Common.{◌≡◌, ◌⊎◌, inl, inr, ℕ, Bool, true, false, cond, List, [], ◌∷◌, ◌++◌, map, find, refl, sym, ap, ◌∙◌, subst, Option, Some, None, ◌==◌, ◌&&◌, Result, Ok, Err, IfOk}
use Rattle.ivy_base.specs.declared.memory.Memory.{Memory}
use Rattle.std.specs.Option.{option_map_or}
use Rattle.std.proofs.lemmas.Bool.{eqb-true, eq-eqb}
use Rattle.std.specs.Ordering.{eq_by_cmp}
use Rattle.ivy_base.specs.Naming.{key_cmp}
use Rattle.ivy_base.specs.declared.key.Key.{Key}
use Rattle.ring_model.specs.Members.{IsAmong}
use Rattle.ring_model.proofs.Lists.{all-among, none_some, some_same}
use Rattle.dht_ids.specs.Asked.{IsAnswerTo, IsForData, told}
use Rattle.dht_ids.specs.declared.ask.Heard.{Heard}
use Rattle.dht_ids.specs.NodeIds.{node_id_of}
use Rattle.dht_ids.specs.declared.ask.Answer.{Answer}
use Rattle.dht_ids.specs.declared.ask.Answer.TheVariants as answer
use Rattle.dht_ids.specs.declared.ask.Ask.{Ask}
use Rattle.dht_ids.specs.declared.ask.Ask.TheVariants as ask
use Rattle.dht_ids.specs.declared.ask.StoreFault.{StoreFault}
use Rattle.dht_ids.specs.declared.judge.Judged.{Judged}
use Rattle.dht_ids.specs.declared.peer.Peer.{Peer}
use Rattle.dhash_model.specs.Stores.{Block, bytes_at, content, content_fault, head, head_fault}
use Rattle.world_model.specs.Fates.{FateOf, ask_counted as counted}
use Rattle.world_model.specs.Fates.FateOf.{lost, stopped, answers}
use Rattle.world_model.specs.Nodes.{Node, answered, stored}
use Rattle.world_model.specs.World.{World, empty_world, peer_of, with_node}
use Rattle.round_laws.specs.RingOf.{AreApart}
use Rattle.round_laws.proofs.Nodes.{at_among, same_id, same_peer, ties}
use Rattle.ring_nodes.specs.NodesState.{AreSound, BringsOnly, IsNodesOf, IsPeerOf, NodesState, made_peers, with_nodes}
use Rattle.ring_nodes.proofs.Parts.{replaced_itself}
use Rattle.world_mesh.specs.Answers.{IsOfRead}
use Rattle.world_mesh.specs.Trails.{Becomes, LeadsTo, one_more}
use Rattle.world_mesh.specs.Trails.LeadsTo.{asked, untold}
use Rattle.world_mesh.specs.Trails.Becomes.{fated, nobody}

-- ---- the answer is of the ask's form

stored_form : (n : Node) (key : Key) (bytes : List ℕ) (block : Block) (f : Option StoreFault)
    → IsAnswerTo (ask.PutBlock key bytes) (stored n key block f).0 × IsAnswerTo (ask.PutHead key bytes) (stored n key block f).0
stored_form n key bytes block None = (tt, tt)
stored_form n key bytes block (Some why) = (tt, tt)

found_form : (key : Key) (o : Option (List ℕ)) → IsAnswerTo (ask.Get key) (option_map_or (λ bytes. answer.Found bytes) o answer.Nothing)
found_form key None = tt
found_form key (Some bytes) = tt

answered_form : (judged : Key → List ℕ → Option Judged) (n : Node) (question : Ask) → IsAnswerTo question (answered judged n question).0
answered_form judged n (ask.Route key) = tt
answered_form judged n ask.Near = tt
answered_form judged n (ask.Notify peer) = tt
answered_form judged n (ask.Get key) = found_form key (bytes_at key n.blocks)
answered_form judged n (ask.PutBlock key bytes) = (stored_form n key bytes (content bytes) (content_fault key bytes n.blocks)).0
answered_form judged n (ask.PutHead key bytes) = (stored_form n key bytes (head bytes) (head_fault judged key bytes n.blocks)).1

fate_form : (judged : Key → List ℕ → Option Judged) (w v : World) (node : Peer) (question : Ask) (given : Answer)
    → FateOf judged w node question given v → IsAnswerTo question given
fate_form judged w v node question given (lost l) = tt
fate_form judged w v node question given (stopped n l found dead) = tt
fate_form judged w v node question given (answers n l found live) = answered_form judged n question

pub becomes_form : (judged : Key → List ℕ → Option Judged) (here there : NodesState) (node : Peer) (question : Ask) (given : Answer)
    → Becomes judged here node question given there → IsAnswerTo question given
becomes_form judged here there node question given (fated fate) =
    fate_form judged (with_nodes empty_world here) (with_nodes empty_world there) node question given (fate (with_nodes empty_world here) (refl, refl, refl))
becomes_form judged here there node question given (nobody never) = tt

-- ---- a read changes no node

stored_reads : (n : Node) (key : Key) (block : Block) (f : Option StoreFault) → IsOfRead (stored n key block f).0 → ⊥
stored_reads n key block None read = read
stored_reads n key block (Some why) read = read

module _ (judged : Key → List ℕ → Option Judged) (w : World) (node : Peer) (n : Node) (found : find (λ m. eq_by_cmp key_cmp (peer_of m).id node.id) w.nodes ≡ Some n) (apart : AreApart (map peer_of w.nodes)) where
  itself : with_node (counted w) n ≡ counted w
  itself = λ i. record (counted w) { nodes = replaced_itself w.nodes n node.id apart found i }

  read_leaves : (question : Ask) → IsForData question → IsOfRead (answered judged n question).0 → with_node (counted w) (answered judged n question).1 ≡ counted w
  read_leaves (ask.Route key) data_ read = itself
  read_leaves ask.Near data_ read = absurd data_
  read_leaves (ask.Notify peer) data_ read = absurd data_
  read_leaves (ask.Get key) data_ read = itself
  read_leaves (ask.PutBlock key bytes) data_ read = absurd (stored_reads n key (content bytes) (content_fault key bytes n.blocks) read)
  read_leaves (ask.PutHead key bytes) data_ read = absurd (stored_reads n key (head bytes) (head_fault judged key bytes n.blocks) read)

read_counts : (judged : Key → List ℕ → Option Judged) (w v : World) (node : Peer) (question : Ask) (given : Answer) → AreApart (map peer_of w.nodes)
    → IsForData question → IsOfRead given → FateOf judged w node question given v → v ≡ counted w
read_counts judged w v node question given apart data_ read (lost l) = refl
read_counts judged w v node question given apart data_ read (stopped n l found dead) = refl
read_counts judged w v node question given apart data_ read (answers n l found live) = read_leaves judged w node n found apart question data_ read

pub read_is : (judged : Key → List ℕ → Option Judged) (here there : NodesState) (node : Peer) (question : Ask) (given : Answer) → AreSound here.nodes
    → IsForData question → IsOfRead given → Becomes judged here node question given there → there ≡ one_more here
read_is judged here there node question given sound data_ read (fated fate) =
    let w : World = with_nodes empty_world here in
    let e : with_nodes empty_world there ≡ counted w = read_counts judged w (with_nodes empty_world there) node question given sound.apart data_ read (fate w (refl, refl, refl)) in
    λ i. record { nodes = (e i).nodes; asked = (e i).asked; lost = (e i).lost }
read_is judged here there node question given sound data_ read (nobody never) = absurd read

-- ---- who was made

abbrev has_number : ℕ → Node → Bool
has_number number n = (peer_of n).number == number

peers_among : (n : Node) (nodes : List Node) → IsAmong n nodes → IsAmong (peer_of n) (map peer_of nodes)
peers_among n [] i = absurd i
peers_among n (m ∷ nodes) (inl e) = inl (ap peer_of e)
peers_among n (m ∷ nodes) (inr i) = inr (peers_among n nodes i)

-- a peer that a number finds was made
pub found_made : (s : NodesState) (o : Option Node) (found : Option Peer) (peer : Peer) → IsPeerOf s o found → found ≡ Some peer → IsAmong peer (made_peers s)
found_made s None found peer is e = absurd (none_some peer (sym is ∙ e))
found_made s (Some n) found peer is e =
    subst (λ p. IsAmong p (made_peers s)) (some_same (peer_of n) peer (sym is.0 ∙ e)) (peers_among n s.nodes (at_among s.nodes (peer_of n).id n is.1))

-- one that was made is found by its number
finds : (nodes : List Node) (node : Peer) → IsAmong node (map peer_of nodes)
    → (n : Node) × (find (has_number node.number) nodes ≡ Some n) × IsAmong (peer_of n) (map peer_of nodes) × ((peer_of n).number ≡ node.number)
finds [] node i = absurd i
finds (m ∷ nodes) node i = by (has_number node.number m) refl i (finds nodes node)
  where
    by : (t : Bool) → has_number node.number m ≡ t → (peer_of m ≡ node) ⊎ IsAmong node (map peer_of nodes)
        → (IsAmong node (map peer_of nodes) → (n : Node) × (find (has_number node.number) nodes ≡ Some n) × IsAmong (peer_of n) (map peer_of nodes) × ((peer_of n).number ≡ node.number))
        → (n : Node) × (cond t (Some m) (find (has_number node.number) nodes) ≡ Some n) × IsAmong (peer_of n) (map peer_of (m ∷ nodes)) × ((peer_of n).number ≡ node.number)
    by true t i rest = (m, refl, inl refl, eqb-true (peer_of m).number node.number t)
    by false t (inl e) rest = let u = eq-eqb (peer_of m).number node.number (ap (λ (p : Peer). p.number) e) in absurd cc
    by false t (inr i) rest = let f = rest i in (f.0, f.1, inr f.2, f.3)

pub never_made : (s : NodesState) (node : Peer) (found : Option Peer) → AreSound s.nodes → IsPeerOf s (find (has_number node.number) s.nodes) found
    → (found ≡ Some node → ⊥) → IsAmong node (made_peers s) → ⊥
never_made s node found sound is differs among =
    let f = finds s.nodes node among in
    let n : Node = f.0 in
    let named : (p : Peer) → IsAmong p (made_peers s) → p.id ≡ node_id_of p.number = λ p i. all-among (λ (q : Peer). q.id ≡ node_id_of q.number) p (made_peers s) sound.named i in
    let same : peer_of n ≡ node = same_peer (peer_of n) node f.3 (named (peer_of n) f.2 ∙ ap node_id_of f.3 ∙ sym (named node among)) in
    differs ((subst (λ o. IsPeerOf s o found) f.1 is).0 ∙ ap (λ (p : Peer). Some p) same)

-- ---- two peers that are compared

compares : (a b : Peer) (s t : Bool) → (a.number == b.number) ≡ s → eq_by_cmp key_cmp a.id b.id ≡ t → (s && t) ≡ true → a ≡ b
compares a b true true n i e = same_peer a b (eqb-true a.number b.number n) (same_id a.id b.id i)
compares a b true false n i e = absurd cc
compares a b false t n i e = absurd cc

pub is_one : (a b : Peer) → (a.number == b.number && eq_by_cmp key_cmp a.id b.id) ≡ true → a ≡ b
is_one a b e = compares a b (a.number == b.number) (eq_by_cmp key_cmp a.id b.id) refl refl e

pub are_two : (a b : Peer) → (a.number == b.number && eq_by_cmp key_cmp a.id b.id) ≡ false → a ≡ b → ⊥
are_two a b d e =
    let n : (a.number == b.number) ≡ true = eq-eqb a.number b.number (ap (λ (p : Peer). p.number) e) in
    let i : eq_by_cmp key_cmp a.id b.id ≡ true = ties a.id b.id (ap (λ (p : Peer). p.id) e) in
    cc (ap (λ x. x && eq_by_cmp key_cmp a.id b.id) n)

-- ---- an ask for data names no peer

pub brings : (made : List Peer) (question : Ask) → IsForData question → BringsOnly made question
brings made (ask.Route key) data_ = tt
brings made ask.Near data_ = absurd data_
brings made (ask.Notify peer) data_ = absurd data_
brings made (ask.Get key) data_ = tt
brings made (ask.PutBlock key bytes) data_ = tt
brings made (ask.PutHead key bytes) data_ = tt

-- ---- what a call gives

pub gives_fate : (judged : Key → List ℕ → Option Judged) (here there : NodesState) (node : Peer) (question : Ask) (result : Result Answer Memory)
    → IfOk result (λ given. (w : World) → IsNodesOf w here → FateOf judged w node question given (with_nodes w there))
    → IfOk result (λ given. Becomes judged here node question given there)
gives_fate judged here there node question (Ok given) fate = fated fate
gives_fate judged here there node question (Err lacks) fate = tt

pub gives_form : (judged : Key → List ℕ → Option Judged) (here there : NodesState) (node : Peer) (question : Ask) (result : Result Answer Memory)
    → IfOk result (λ given. Becomes judged here node question given there) → IfOk result (IsAnswerTo question)
gives_form judged here there node question (Ok given) becomes = becomes_form judged here there node question given becomes
gives_form judged here there node question (Err lacks) becomes = tt

-- ---- a trail grows

pub leads_more : (judged : Key → List ℕ → Option Judged) (start here there : NodesState) (trail reserved pushed : List Heard) (node : Peer) (question : Ask)
    (given got : Answer) (entry : Heard) → LeadsTo judged start trail here → IsForData question → Becomes judged here node question given there
    → reserved ≡ trail → pushed ≡ reserved ++ entry ∷ [] → told node question got ≡ entry ∷ [] → got ≡ given → LeadsTo judged start pushed there
leads_more judged start here there trail reserved pushed node question given got entry leads data_ becomes kept more is same =
    let all : pushed ≡ trail ++ told node question given = more ∙ ap (λ (l : List Heard). l ++ entry ∷ []) kept ∙ ap (λ (l : List Heard). trail ++ l) (sym is)
    ∙ ap (λ (a : Answer). trail ++ told node question a) same in
    subst (λ (l : List Heard). LeadsTo judged start l there) (sym all) (asked node question given leads data_ becomes)

pub leads_untold : (judged : Key → List ℕ → Option Judged) (start here there : NodesState) (trail reserved : List Heard) (node : Peer) (question : Ask)
    (given : Answer) → LeadsTo judged start trail here → AreSound here.nodes → IsForData question → IsOfRead given
    → Becomes judged here node question given there → reserved ≡ trail → LeadsTo judged start reserved there
leads_untold judged start here there trail reserved node question given leads sound data_ read becomes kept =
    subst (λ (l : List Heard). LeadsTo judged start l there) (sym kept)
    (subst (λ s. LeadsTo judged start trail s) (sym (read_is judged here there node question given sound data_ read becomes)) (untold leads))
