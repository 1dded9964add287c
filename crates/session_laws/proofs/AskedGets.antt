-- Gets of blocks and of heads are executions: whether enough was heard is decided, and each ends somehow.
use Rattle.std.proofs.Common.{◌≡◌, ◌⊎◌, ℕ, ◌≤◌, Bool, true, false, List, [], ◌∷◌, Option, Some, None, Result, refl, sym, ap, ◌∙◌, arith, inl, inr, ⊎_elim}
use Rattle.std.specs.Str.{bytes_eq}
use Rattle.std.proofs.lemmas.Bool.{true≢false, cases_lt}
use Rattle.std.proofs.lemmas.Slice.Eq.{bytes_eq-Decides}
use Rattle.ivy_base.specs.declared.key.Key.{Key}
use Rattle.ivy_base.specs.Naming.{name, head_key_of}
use Rattle.dht_ids.specs.declared.ask.Ask.TheVariants as ask
use Rattle.dht_ids.specs.declared.ask.AskKind.TheVariants as kind
use Rattle.dht_ids.specs.declared.ask.Heard.{Heard}
use Rattle.dht_ids.specs.declared.judge.Judged.{Judged}
use Rattle.dht_ids.specs.declared.peer.Peer.{Peer}
use Rattle.ring_model.specs.Members.{IsAmong}
use Rattle.ring_model.specs.Gets.{AreAsks, Got, Right, Damaged, Missing, nodes, answered_in, given, first_giver, judged, HasBlock, EndsBlock, EndsHeads}
use Rattle.ring_model.proofs.Lists.{nil_cons}
use Rattle.dhash_model.specs.Execution.{Told, result_of}
use Rattle.dhash_model.specs.GetBlock.{is_of_get, block_in, EndsGet}
use Rattle.dhash_model.specs.GetHead.{EndsHeadGet}
use Rattle.dhash_model.specs.declared.miss.Miss.{Miss}
use Rattle.dhash_client.specs.GetBlock.{IsEnoughBlock}
use Rattle.session_model.specs.Brought.{Brought, HeadsOf, BlockOf, WantedOfRing, Heads, Content}
use Rattle.session_model.specs.Sessions.{Gets, IsGet, wanted_key}
use Rattle.session_model.specs.Sessions.Gets.{heads as got_heads, content as got_content}
use Rattle.session_laws.specs.Laws.{GetsAreDeterministic, IsWholeGetOfHead, IsWholeGetOfBlock, HeadNextIsNotWhole, BlockNextIsNotWhole, GetNextIsNotWhole, NoneIsWhole, NoneIsWholeHead, NoneIsWholeBlock, NoneIsWholeGet}
use Rattle.session_laws.proofs.AskedPlans.{Entries, IsPlanned, planned_alike, begins_none, are_deterministic, next_is_not_whole}
use Rattle.session_laws.proofs.AskedExecutions.{planned, not_whole}

-- ---- what is decided

pub at_most_or_not : (a b : ℕ) → (a ≤ b) ⊎ (a ≤ b → ⊥)
at_most_or_not a b = ⊎_elim (λ h. inr (λ g. absurd (omega (arith, h, g)))) (λ h. inl (omega (arith, h))) (cases_lt b a)

one_key : (a b : Key) → a.0 ≡ b.0 → a ≡ b
one_key a b h = λ i. record { 0 = h i }

key_or_not : (a b : Key) → (a ≡ b) ⊎ (a ≡ b → ⊥)
key_or_not a b = by (bytes_eq a.0 b.0) refl
  where
    by : (t : Bool) → bytes_eq a.0 b.0 ≡ t → (a ≡ b) ⊎ (a ≡ b → ⊥)
    by true h = inl (one_key a b ((bytes_eq-Decides a.0 b.0).0 h))
    by false h = inr (λ same. true≢false (sym ((bytes_eq-Decides a.0 b.0).1 (ap (λ (k : Key). k.0) same)) ∙ h))

-- a block of that name is among those given
abbrev HasIn : Key → List (Peer × List ℕ) → Type 0
HasIn key blocks = (bytes : List ℕ) × ((node : Peer) × IsAmong {X = Peer × List ℕ} (node, bytes) blocks × (name bytes ≡ key))

has_or_not : (key : Key) (blocks : List (Peer × List ℕ)) → HasIn key blocks ⊎ (HasIn key blocks → ⊥)
has_or_not key [] = inr (λ h. elim h.1.1 [ ])
has_or_not key (x ∷ blocks) = by (key_or_not (name x.1) key) (has_or_not key blocks)
  where
    by : (name x.1 ≡ key) ⊎ (name x.1 ≡ key → ⊥) → HasIn key blocks ⊎ (HasIn key blocks → ⊥) → HasIn key (x ∷ blocks) ⊎ (HasIn key (x ∷ blocks) → ⊥)
    by (inl named) others = inl (x.1, (x.0, inl refl, named))
    by (inr other) (inl h) = inl (h.0, (h.1.0, inr h.1.1, h.1.2))
    by (inr other) (inr none) =
        inr (λ h. ⊎_elim (λ same. other (ap (λ (y : Peer × List ℕ). name y.1) same ∙ h.1.2)) (λ later. none (h.0, (h.1.0, later, h.1.2))) h.1.1)

block_or_not : (key : Key) (asks : Told) → HasBlock block_in key asks ⊎ (HasBlock block_in key asks → ⊥)
block_or_not key asks = has_or_not key (given block_in asks)

pub enough_or_not : (key : Key) (r : ℕ) (asks : Told) → IsEnoughBlock key r asks ⊎ (IsEnoughBlock key r asks → ⊥)
enough_or_not key r asks = by (at_most_or_not r (answered_in is_of_get asks)) (block_or_not key asks)
  where
    by : (r ≤ answered_in is_of_get asks) ⊎ (r ≤ answered_in is_of_get asks → ⊥) → HasBlock block_in key asks ⊎ (HasBlock block_in key asks → ⊥) → IsEnoughBlock key r asks ⊎ (IsEnoughBlock key r asks → ⊥)
    by (inl h) b = inl (inl h)
    by (inr h) (inl b) = inl (inr b)
    by (inr h) (inr b) = inr (λ g. ⊎_elim (λ i. h i) (λ i. b i) g)

-- ---- gets

pub get_other : kind.Get ≡ kind.Route → ⊥
get_other h = cc

abbrev pub get_entries : Key → Entries
get_entries key = record { key = key; what = kind.Get; put = None; other = get_other }

block_ends : (key : Key) (asks : Told) → HasBlock block_in key asks ⊎ (HasBlock block_in key asks → ⊥) → (first : Option Peer) → first_giver block_in asks ≡ first → (got : Got Peer (List ℕ)) × EndsBlock block_in key asks got
block_ends key asks (inl h) first is = (Right h.0, h.1)
block_ends key asks (inr h) (Some node) is = (Damaged node, (h, is))
block_ends key asks (inr h) None is = (Missing (nodes asks), (h, is, refl))

pub block_end : (key : Key) (r : ℕ) (owners : List Peer) (asks : Told) → AreAsks owners (IsEnoughBlock key r) asks → (result : Result (List ℕ) Miss) × EndsGet key r owners asks result
block_end key r owners asks a =
    let g = block_ends key asks (block_or_not key asks) (first_giver block_in asks) refl in
    (result_of key g.0, (g.0, record { asks = a; ends = g.1 }, refl))

head_ends : (judge : List ℕ → Option Judged) (asks : Told) (heads : List Judged) → judged block_in judge asks ≡ heads → (first : Option Peer) → first_giver block_in asks ≡ first → (got : Got Peer (List Judged)) × EndsHeads block_in judge asks got
head_ends judge asks (j ∷ js) are first is = (Right (j ∷ js), ((λ h. nil_cons j js (sym h)), sym are))
head_ends judge asks [] are (Some node) is = (Damaged node, (are, is))
head_ends judge asks [] are None is = (Missing (nodes asks), (are, is, refl))

pub head_end : (judge : List ℕ → Option Judged) (key : Key) (r : ℕ) (owners : List Peer) (asks : Told) → AreAsks owners (λ (t : Told). r ≤ answered_in is_of_get t) asks → (result : Result (List Judged) Miss) × EndsHeadGet judge key r owners asks result
head_end judge key r owners asks a =
    let g = head_ends judge asks (judged block_in judge asks) refl (first_giver block_in asks) refl in
    (result_of key g.0, (g.0, record { asks = a; ends = g.1 }, refl))

blocks_planned : (key : Key) (r : ℕ) (entries : List Peer) → IsPlanned (get_entries key) (IsWholeGetOfBlock key r entries)
blocks_planned key r entries =
    planned (get_entries key) (ask.Get key) (λ node given. refl) (IsEnoughBlock key r) (enough_or_not key r) (EndsGet key r) (λ owners asks result h. h.1.asks) (block_end key r) entries

heads_planned : (judge : List ℕ → Option Judged) (key : Key) (r : ℕ) (entries : List Peer) → IsPlanned (get_entries key) (IsWholeGetOfHead judge key r entries)
heads_planned judge key r entries =
    planned (get_entries key) (ask.Get key) (λ node given. refl) (λ t. r ≤ answered_in is_of_get t) (λ t. at_most_or_not r (answered_in is_of_get t)) (EndsHeadGet judge key r) (λ owners asks result h. h.1.asks) (head_end judge key r) entries

pub none_is_whole_block : NoneIsWholeBlock
none_is_whole_block key r entries =
    not_whole (get_entries key) (ask.Get key) (λ node given. refl) (IsEnoughBlock key r) (enough_or_not key r) (EndsGet key r) (λ owners asks result h. h.1.asks) (block_end key r) entries

pub none_is_whole_head : NoneIsWholeHead
none_is_whole_head judge key r entries =
    not_whole (get_entries key) (ask.Get key) (λ node given. refl) (λ t. r ≤ answered_in is_of_get t) (λ t. at_most_or_not r (answered_in is_of_get t)) (EndsHeadGet judge key r) (λ owners asks result h. h.1.asks) (head_end judge key r) entries

pub block_next_is_not_whole : BlockNextIsNotWhole
block_next_is_not_whole key r entries = next_is_not_whole key (ask.Get key) (IsWholeGetOfBlock key r entries) tt (begins_none (get_entries key) (IsWholeGetOfBlock key r entries) (blocks_planned key r entries))

pub head_next_is_not_whole : HeadNextIsNotWhole
head_next_is_not_whole judge key r entries =
    next_is_not_whole key (ask.Get key) (IsWholeGetOfHead judge key r entries) tt (begins_none (get_entries key) (IsWholeGetOfHead judge key r entries) (heads_planned judge key r entries))

-- a get of what is wanted
abbrev IsWholeGet : (Key → List ℕ → Option Judged) → ℕ → List Peer → WantedOfRing → List Heard → Type 0
IsWholeGet judged r entries (Heads owner) = IsWholeGetOfHead (judged (head_key_of owner)) (head_key_of owner) r entries
IsWholeGet judged r entries (Content key) = IsWholeGetOfBlock key r entries

whole_get : (judged : Key → List ℕ → Option Judged) (r : ℕ) (entries : List Peer) {want : WantedOfRing} {trail : List Heard} {brought : Brought} → Gets judged r entries want trail brought → IsWholeGet judged r entries want trail
whole_get judged r entries (got_heads came h) = (came, h)
whole_get judged r entries (got_content came h) = (came, h)

pub is_get : (judged : Key → List ℕ → Option Judged) (r : ℕ) (entries : List Peer) (want : WantedOfRing) (trail : List Heard) → IsWholeGet judged r entries want trail → IsGet judged r entries want trail
is_get judged r entries (Heads owner) trail w = (HeadsOf owner w.0, got_heads w.0 w.1)
is_get judged r entries (Content key) trail w = (BlockOf key w.0, got_content w.0 w.1)

whole_planned : (judged : Key → List ℕ → Option Judged) (r : ℕ) (entries : List Peer) (want : WantedOfRing) → IsPlanned (get_entries (wanted_key want)) (IsWholeGet judged r entries want)
whole_planned judged r entries (Heads owner) = heads_planned (judged (head_key_of owner)) (head_key_of owner) r entries
whole_planned judged r entries (Content key) = blocks_planned key r entries

gets_planned : (judged : Key → List ℕ → Option Judged) (r : ℕ) (entries : List Peer) (want : WantedOfRing) → IsPlanned (get_entries (wanted_key want)) (IsGet judged r entries want)
gets_planned judged r entries want =
    planned_alike (get_entries (wanted_key want)) (IsWholeGet judged r entries want) (IsGet judged r entries want) (whole_planned judged r entries want) (is_get judged r entries want) (λ trail w. whole_get judged r entries w.1)

none_is_whole_of : (judged : Key → List ℕ → Option Judged) (r : ℕ) (entries : List Peer) (want : WantedOfRing) → NoneIsWhole entries (IsWholeGet judged r entries want)
none_is_whole_of judged r entries (Heads owner) = none_is_whole_head (judged (head_key_of owner)) (head_key_of owner) r entries
none_is_whole_of judged r entries (Content key) = none_is_whole_block key r entries

pub none_is_whole_get : NoneIsWholeGet
none_is_whole_get judged r entries want some w = none_is_whole_of judged r entries want some (whole_get judged r entries w.1)

pub get_next_is_not_whole : GetNextIsNotWhole
get_next_is_not_whole judged r entries want =
    next_is_not_whole (wanted_key want) (ask.Get (wanted_key want)) (IsGet judged r entries want) tt (begins_none (get_entries (wanted_key want)) (IsGet judged r entries want) (gets_planned judged r entries want))

pub gets_are_deterministic : GetsAreDeterministic
gets_are_deterministic judged r entries want =
    are_deterministic (get_entries (wanted_key want)) (ask.Get (wanted_key want)) entries (IsGet judged r entries want) (λ node given. refl) (gets_planned judged r entries want) (none_is_whole_get judged r entries want)
