-- Which blocks may stand under a key: what was met under its name, and heads that left an agent under their owner's key. While no names
-- collide, no key has both.
use Rattle.std.proofs.Common.{◌≡◌, ℕ, Bool, true, false, cond, ◌&&◌, List, Some, None, refl, sym, ap, ◌∙◌, Contains, is_some}
use Rattle.std.specs.Str.{bytes_eq}
use Rattle.std.proofs.lemmas.Slice.Eq.{bytes_eq-Decides}
use Rattle.ivy_base.specs.declared.key.Key.{Key}
use Rattle.ivy_base.specs.Naming.{head_key_of, name}
use Rattle.dht_ids.specs.declared.judge.Judged.{Judged}
use Rattle.dht_ids.specs.declared.post.Post.{Post}
use Rattle.dhash_model.specs.Signed.{hss_judged, is_signed_head, signature_in, is_head_with as is_head_block}
use Rattle.dhash_model.specs.declared.kind.BlockKind.{BlockKind}
use Rattle.dhash_model.specs.declared.kind.BlockKind.TheVariants.{Content, Head}
use Rattle.log_model.specs.Heads.{name_in, owner_in, seq_in}
use Rattle.agent_model.specs.Agent.{is_head}
use Rattle.dht_ids.specs.declared.ask.Ask.{Ask}
use Rattle.dht_ids.specs.declared.ask.Ask.TheVariants as ask
use Rattle.session_model.specs.Sessions.{put_question}
use Rattle.world_model.specs.Nodes.{Node}
use Rattle.world_model.specs.World.{World}
use Rattle.world_model.specs.Rounds.{question_as}
use Rattle.calm_laws.proofs.CalmNodes.{Fits, HoldsKinds, IsOfKind}
use Rattle.calm_laws.proofs.CalmStates.{IsLeft, IsMore, IsOwnPost}

-- blocks that are met in that world, and heads that left in it
abbrev pub OfContent : World → Key → List ℕ → Type 0
OfContent end key b = Contains end.met b × (name b ≡ key)

abbrev pub OfHeads : World → Key → List ℕ → Type 0
OfHeads end key b = Contains end.met b × IsLeft end b × (is_some (hss_judged key b) ≡ true)

abbrev pub IsOf : World → Key → BlockKind → List ℕ → Type 0
IsOf end = IsOfKind (OfContent end) (OfHeads end)

abbrev pub FitsIn : World → Ask → Type 0
FitsIn end = Fits (OfContent end) (OfHeads end)

abbrev pub HoldsOf : World → Node → Type 0
HoldsOf end = HoldsKinds (OfContent end) (OfHeads end)

-- no key is that of content and of heads
abbrev pub AreApart : World → Type 0
AreApart end = (key : Key) (b c : List ℕ) → OfContent end key b → OfHeads end key c → ⊥

pub fewer_apart : (w end : World) → IsMore w end → AreApart end → AreApart w
fewer_apart w end more apart key b c content heads = apart key b c (more.met b content.0, content.1) (more.met c heads.0, more.left c heads.1, heads.2)

pub one_kind : (end : World) → AreApart end → (key : Key) (a b : BlockKind) (x y : List ℕ) → IsOf end key a x → IsOf end key b y → a ≡ b
one_kind end apart key Content Content x y h g = refl
one_kind end apart key Content Head x y h g = absurd (apart key x y h g)
one_kind end apart key Head Content x y h g = absurd (apart key y x g h)
one_kind end apart key Head Head x y h g = refl

pub of_more : (w end : World) → IsMore w end → (key : Key) (kind : BlockKind) (x : List ℕ) → IsOf w key kind x → IsOf end key kind x
of_more w end more key Content x h = (more.met x h.0, h.1)
of_more w end more key Head x h = (more.met x h.0, more.left x h.1, h.2)

pub is_met : (end : World) (key : Key) (kind : BlockKind) (x : List ℕ) → IsOf end key kind x → Contains end.met x
is_met end key Content x h = h.0
is_met end key Head x h = h.0

-- what a node takes, where it has room
abbrev pub IsFit : BlockKind → Key → List ℕ → Type 0
IsFit Content key b = name b ≡ key
IsFit Head key b = is_some (hss_judged key b) ≡ true

pub of_fit : (end : World) (key : Key) (kind : BlockKind) (x : List ℕ) → IsOf end key kind x → IsFit kind key x
of_fit end key Content x h = h.1
of_fit end key Head x h = h.2

-- what a session puts fits
pub post_fits : (w end : World) (p : Post) → IsMore w end → IsOwnPost w p → FitsIn end (put_question p)
post_fits w end p more own = by (is_head p.kind) own.1
  where
    by : (b : Bool) → (b ≡ true → IsLeft w p.bytes) → FitsIn end (cond b (ask.PutHead p.key p.bytes) (ask.PutBlock p.key p.bytes))
    by true h = λ is. (more.met p.bytes own.0, more.left p.bytes (h refl), is)
    by false h = λ is. (more.met p.bytes own.0, is)

pub fit_of : (end : World) (kind : BlockKind) (key : Key) (x : List ℕ) → FitsIn end (question_as kind key x) → IsFit kind key x → IsOf end key kind x
fit_of end Content key x f h = f h
fit_of end Head key x f h = f h

-- ---- a head is judged under one key

first : (a b : Bool) → (a && b) ≡ true → a ≡ true
first true b h = refl
first false b h = cc

second : (a b : Bool) → (a && b) ≡ true → b ≡ true
second true b h = h
second false b h = cc

some_judged : (t : Bool) (j : Judged) → is_some (cond t (Some j) None) ≡ true → t ≡ true
some_judged true j h = refl
some_judged false j h = absurd cc

judged_key : (key : Key) (bytes : List ℕ) → is_some (hss_judged key bytes) ≡ true → key ≡ head_key_of (owner_in bytes)
judged_key key bytes some =
    let signed : is_signed_head key bytes ≡ true = some_judged (is_signed_head key bytes) (record { seq = seq_in bytes; name = name_in bytes }) some in
    let tested : bytes_eq key.0 (head_key_of (owner_in bytes)).0 ≡ true = second (is_head_block bytes (owner_in bytes) (seq_in bytes) (name_in bytes) (signature_in bytes)) _ (first _ _ signed) in
    ap (λ (x : List ℕ). record { 0 = x }) ((bytes_eq-Decides key.0 (head_key_of (owner_in bytes)).0).0 tested)

-- so each block fits one key of a kind
pub one_key : (kind : BlockKind) (j k : Key) (bytes : List ℕ) → IsFit kind j bytes → IsFit kind k bytes → j ≡ k
one_key Content j k bytes h g = sym h ∙ g
one_key Head j k bytes h g = judged_key j bytes h ∙ sym (judged_key k bytes g)
