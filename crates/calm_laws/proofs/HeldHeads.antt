-- What nodes hold: a content block has its name, and of each record up to the one that a head names a put was acknowledged. An ask leaves that, where what it puts is so;
-- and what is heard of a get is so.
use Rattle.std.proofs.Common.{◌≡◌, ◌⊎◌, inl, inr, ⊎_elim, ℕ, Bool, true, false, cond, List, [], ◌∷◌, map, Option, Some, None, refl, sym, ◌∙◌, subst, Contains}
use Rattle.std.specs.Prelude.{option_map}
use Rattle.std.specs.List.{AllByRecursion, find}
use Rattle.std.specs.Option.{option_map_or, option_or}
use Rattle.std.specs.Ordering.{eq_by_cmp}
use Rattle.std.specs.FinMap.Entries.{find as value_at, find-put}
use Rattle.ivy_base.specs.declared.key.Key.{Key}
use Rattle.ivy_base.specs.Naming.{key_cmp, name}
use Rattle.dhash_model.specs.Signed.{hss_judged}
use Rattle.log_model.proofs.Lists.{here, in_cons, in_nothing, there}
use Rattle.dht_ids.specs.Asked.{told}
use Rattle.dht_ids.specs.declared.ask.Answer.{Answer}
use Rattle.dht_ids.specs.declared.ask.Answer.TheVariants as answer
use Rattle.dht_ids.specs.declared.ask.Heard.{Heard}
use Rattle.dht_ids.specs.declared.ask.StoreFault.TheVariants.{WrongName}
use Rattle.dhash_model.specs.GetBlock.{block_in}
use Rattle.dhash_model.specs.Stores.{Block, Blocks, bytes_at, content, content_fault, full, head, head_fault}
use Rattle.dhash_model.specs.declared.kind.BlockKind.{BlockKind}
use Rattle.dhash_model.specs.declared.kind.BlockKind.TheVariants.{Content, Head}
use Rattle.dht_ids.specs.declared.ask.Ask.{Ask}
use Rattle.dht_ids.specs.declared.ask.Ask.TheVariants as ask
use Rattle.dht_ids.specs.declared.ask.StoreFault.{StoreFault}
use Rattle.dht_ids.specs.declared.judge.Judged.{Judged}
use Rattle.dht_ids.specs.declared.peer.Peer.{Peer}
use Rattle.dht_ids.specs.declared.post.Post.{Post}
use Rattle.node_store.proofs.Maps.{keys_total}
use Rattle.round_laws.proofs.Nodes.{same_id}
use Rattle.ring_model.proofs.Lists.{all_weaker, some_same}
use Rattle.world_model.specs.Nodes.{Node, answered, stored}
use Rattle.world_model.specs.World.{World, peer_of}
use Rattle.world_model.specs.Fates.{FateOf}
use Rattle.world_model.specs.Fates.FateOf.{answers, lost, stopped}
use Rattle.calm_laws.specs.Put.{IsHeadOver, WasPut}
use Rattle.calm_laws.proofs.UpTo.{more_put, over_weaker}

-- where these bytes are a head under the key it is over what was put
abbrev pub IsHeadPut : List Post → Key → List ℕ → Type 0
IsHeadPut acked key bytes = (j : Judged) → hss_judged key bytes ≡ Some j → IsHeadOver (WasPut acked) key j

-- a block that was met, under its name
abbrev pub IsNamed : List (List ℕ) → Key → List ℕ → Type 0
IsNamed met key bytes = (name bytes ≡ key) × Contains met bytes

abbrev pub IsPutAs : List (List ℕ) → List Post → BlockKind → Key → List ℕ → Type 0
IsPutAs met acked Content key bytes = IsNamed met key bytes
IsPutAs met acked Head key bytes = IsHeadPut acked key bytes

abbrev pub HoldsPut : List (List ℕ) → List Post → Blocks → Type 0
HoldsPut met acked blocks = (key : Key) (block : Block) → value_at key_cmp key blocks ≡ Some block → IsPutAs met acked block.kind key block.bytes

-- so is each block that a node holds
abbrev pub AllHoldPut : List (List ℕ) → List Post → List Node → Type 0
AllHoldPut met acked nodes = (n : Node) → Contains nodes n → HoldsPut met acked n.blocks

-- what is put by an ask is so
abbrev pub PutsPut : List (List ℕ) → List Post → Ask → Type 0
PutsPut met acked (ask.PutHead key bytes) = IsHeadPut acked key bytes
PutsPut met acked (ask.PutBlock key bytes) = Contains met bytes
PutsPut met acked _ = Unit {0}

-- what was given is one or the other
abbrev pub IsPutUnder : List (List ℕ) → List Post → Key → List ℕ → Type 0
IsPutUnder met acked key bytes = IsHeadPut acked key bytes ⊎ IsNamed met key bytes

abbrev pub IsHeardPut : List (List ℕ) → List Post → Heard → Type 0
IsHeardPut met acked h = (bytes : List ℕ) → block_in h.got ≡ Some bytes → IsPutUnder met acked h.key bytes

-- ---- more

pub more_head : (acked more : List Post) → ((p : Post) → Contains acked p → Contains more p) → (key : Key) (bytes : List ℕ) → IsHeadPut acked key bytes → IsHeadPut more key bytes
more_head acked more grows key bytes h j judged = over_weaker (WasPut acked) (WasPut more) key j (more_put acked more grows) (h j judged)

module _ (met now : List (List ℕ)) (acked more : List Post) (meets : (b : List ℕ) → Contains met b → Contains now b) (grows : (p : Post) → Contains acked p → Contains more p) where
  more_as : (kind : BlockKind) (key : Key) (bytes : List ℕ) → IsPutAs met acked kind key bytes → IsPutAs now more kind key bytes
  more_as Content key bytes h = (h.0, meets bytes h.1)
  more_as Head key bytes h = more_head acked more grows key bytes h

  pub more_hold : (nodes : List Node) → AllHoldPut met acked nodes → AllHoldPut now more nodes
  more_hold nodes h n among key block found = more_as block.kind key block.bytes (h n among key block found)

  pub more_under : (key : Key) (bytes : List ℕ) → IsPutUnder met acked key bytes → IsPutUnder now more key bytes
  more_under key bytes (inl h) = inl (more_head acked more grows key bytes h)
  more_under key bytes (inr h) = inr (h.0, meets bytes h.1)

  pub more_heard : (hs : List Heard) → AllByRecursion (IsHeardPut met acked) hs → AllByRecursion (IsHeardPut now more) hs
  more_heard hs h = all_weaker (IsHeardPut met acked) (IsHeardPut now more) hs (λ x f bytes is. more_under x.key bytes (f bytes is)) h

-- ---- lists

pub found_in : {A : Type 0} (test : A → Bool) (xs : List A) (x : A) → find test xs ≡ Some x → Contains xs x
found_in test [] x is = cc is
found_in test (y ∷ xs) x is = by (test y) is (found_in test xs x)
  where
    by : (b : Bool) → cond b (Some y) (find test xs) ≡ Some x → (find test xs ≡ Some x → Contains xs x) → Contains (y ∷ xs) x
    by true h later = subst (Contains (y ∷ xs)) (some_same y x h) (here y xs)
    by false h later = there y xs x (later h)

pub new_or_old : {A : Type 0} (test : A → Bool) (new : A) (xs : List A) (x : A) → Contains (map (λ a. cond (test a) new a) xs) x → (x ≡ new) ⊎ Contains xs x
new_or_old test new [] x h = absurd (in_nothing x h)
new_or_old test new (y ∷ xs) x h = ⊎_elim (λ e. by (test y) e) (λ later. ⊎_elim (λ e. inl e) (λ c. inr (there y xs x c)) (new_or_old test new xs x later)) (in_cons _ _ x h)
  where
    by : (b : Bool) → cond b new y ≡ x → (x ≡ new) ⊎ Contains (y ∷ xs) x
    by true e = inl (sym e)
    by false e = inr (subst (Contains (y ∷ xs)) e (here y xs))

-- ---- an ask

module _ (met : List (List ℕ)) (acked : List Post) where
  stored_so : (n : Node) (key : Key) (block : Block) (fault : Option StoreFault) → (fault ≡ None → IsPutAs met acked block.kind key block.bytes) → HoldsPut met acked n.blocks → HoldsPut met acked (stored n key block fault).1.blocks
  stored_so n key block (Some fault) new h other c found = h other c found
  stored_so n key block None new h other c found = by (eq_by_cmp key_cmp other key) refl (sym (find-put key_cmp keys_total other key block n.blocks) ∙ found)
    where
      by : (b : Bool) → eq_by_cmp key_cmp other key ≡ b → cond b (Some block) (value_at key_cmp other n.blocks) ≡ Some c → IsPutAs met acked c.kind other c.bytes
      by true same f = subst (λ (x : Block). IsPutAs met acked x.kind other x.bytes) (some_same block c f) (subst (λ k. IsPutAs met acked block.kind k block.bytes) (sym (same_id other key same)) (new refl))
      by false differ f = h other c f

  named_so : (key : Key) (bytes : List ℕ) (blocks : Blocks) → content_fault key bytes blocks ≡ None → name bytes ≡ key
  named_so key bytes blocks e = by (eq_by_cmp key_cmp key (name bytes)) refl e
    where
      by : (b : Bool) → eq_by_cmp key_cmp key (name bytes) ≡ b → option_or (cond b None (Some WrongName)) (full key (content bytes) blocks) ≡ None → name bytes ≡ key
      by true same f = sym (same_id key (name bytes) same)
      by false differ f = cc f

  answered_so : (n : Node) (question : Ask) → PutsPut met acked question → HoldsPut met acked n.blocks → HoldsPut met acked (answered hss_judged n question).1.blocks
  answered_so n (ask.Route key) puts h = h
  answered_so n ask.Near puts h = h
  answered_so n (ask.Notify peer) puts h = h
  answered_so n (ask.Get key) puts h = h
  answered_so n (ask.PutBlock key bytes) puts h = stored_so n key (content bytes) (content_fault key bytes n.blocks) (λ e. (named_so key bytes n.blocks e, puts)) h
  answered_so n (ask.PutHead key bytes) puts h = stored_so n key (head bytes) (head_fault hss_judged key bytes n.blocks) (λ e. puts) h

  pub fate_holds : {w next : World} {to : Peer} {question : Ask} {given : Answer} → FateOf hss_judged w to question given next → PutsPut met acked question → AllHoldPut met acked w.nodes → AllHoldPut met acked next.nodes
  fate_holds (lost l) puts h = h
  fate_holds (stopped n l is dead) puts h = h
  fate_holds {w = w} {to = to} {question = question} (answers n l is live) puts h = λ m among.
      ⊎_elim
      (λ new. subst (λ (x : Node). HoldsPut met acked x.blocks) (sym new) (answered_so n question puts (h n (found_in (λ (x : Node). eq_by_cmp key_cmp (peer_of x).id to.id) w.nodes n is))))
      (λ old. h m old)
      (new_or_old (λ (x : Node). eq_by_cmp key_cmp (peer_of x).id (peer_of (answered hss_judged n question).1).id) (answered hss_judged n question).1 w.nodes m among)

  -- ---- what is heard

  of_kind : (kind : BlockKind) (key : Key) (bytes : List ℕ) → IsPutAs met acked kind key bytes → IsPutUnder met acked key bytes
  of_kind Content key bytes h = inr h
  of_kind Head key bytes h = inl h

  found_so : (key : Key) (blocks : Blocks) → HoldsPut met acked blocks → (bytes : List ℕ) → block_in (option_map_or (λ b. answer.Found b) (bytes_at key blocks) answer.Nothing) ≡ Some bytes → IsPutUnder met acked key bytes
  found_so key blocks h bytes is = by (value_at key_cmp key blocks) refl is
    where
      by : (o : Option Block) → value_at key_cmp key blocks ≡ o → block_in (option_map_or (λ b. answer.Found b) (option_map (λ (b : Block). b.bytes) o) answer.Nothing) ≡ Some bytes → IsPutUnder met acked key bytes
      by None found e = cc e
      by (Some c) found e = let same : c.bytes ≡ bytes = cc e in subst (IsPutUnder met acked key) same (of_kind c.kind key c.bytes (h key c found))

  no_block : (n : Node) (key : Key) (block : Block) (fault : Option StoreFault) (bytes : List ℕ) → block_in (stored n key block fault).0 ≡ Some bytes → ⊥
  no_block n key block (Some fault) bytes e = cc e
  no_block n key block None bytes e = cc e

  given_so : (n : Node) (to : Peer) (question : Ask) → HoldsPut met acked n.blocks → AllByRecursion (IsHeardPut met acked) (told to question (answered hss_judged n question).0)
  given_so n to (ask.Route key) h = (λ bytes e. cc e, tt)
  given_so n to ask.Near h = tt
  given_so n to (ask.Notify peer) h = tt
  given_so n to (ask.Get key) h = (found_so key n.blocks h, tt)
  given_so n to (ask.PutBlock key bytes) h = (λ b e. absurd (no_block n key (content bytes) (content_fault key bytes n.blocks) b e), tt)
  given_so n to (ask.PutHead key bytes) h = (λ b e. absurd (no_block n key (head bytes) (head_fault hss_judged key bytes n.blocks) b e), tt)

  silent_so : (to : Peer) (question : Ask) → AllByRecursion (IsHeardPut met acked) (told to question answer.Silent)
  silent_so to (ask.Route key) = (λ bytes e. cc e, tt)
  silent_so to ask.Near = tt
  silent_so to (ask.Notify peer) = tt
  silent_so to (ask.Get key) = (λ bytes e. cc e, tt)
  silent_so to (ask.PutBlock key bytes) = (λ b e. cc e, tt)
  silent_so to (ask.PutHead key bytes) = (λ b e. cc e, tt)

  pub fate_heard : {w next : World} {to : Peer} {question : Ask} {given : Answer} → FateOf hss_judged w to question given next → AllHoldPut met acked w.nodes → AllByRecursion (IsHeardPut met acked) (told to question given)
  fate_heard {to = to} {question = question} (lost l) h = silent_so to question
  fate_heard {to = to} {question = question} (stopped n l is dead) h = silent_so to question
  fate_heard {w = w} {to = to} {question = question} (answers n l is live) h = given_so n to question (h n (found_in (λ (x : Node). eq_by_cmp key_cmp (peer_of x).id to.id) w.nodes n is))
