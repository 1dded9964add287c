-- A view that a line makes.
use Rattle.std.proofs.Common.{◌≡◌, ◌≢◌, ◌≤◌, ◌<◌, ◌⊎◌, inl, inr, ℕ, Bool, true, false, ◌||◌, List, [], ◌∷◌, ◌++◌, length, map, refl, sym, ap, ◌∙◌, subst, Option, Some, None, Result}
use Rattle.std.specs.Prelude.{find, is_some, nat_lt, option_map, IfOk, Ok, Err}
use Rattle.std.specs.Str.{bytes_eq}
use Rattle.std.proofs.lemmas.Bool.{le-ltb, lt-ltb}
use Rattle.ivy_base.specs.declared.key.Key.{Key}
use Rattle.ivy_base.specs.declared.key.PubKey.{PubKey}
use Rattle.ivy_base.specs.declared.memory.Memory.{Memory}
use Rattle.log_model.specs.View.{View, have_own_head_keys, most_former, most_members, view_block, view_name}
use Rattle.dht_ids.specs.declared.ask.Ask.TheVariants as ask
use Rattle.dht_ids.specs.declared.judge.Judged.{Judged}
use Rattle.dhash_model.specs.declared.miss.Miss.{Miss}
use Rattle.script_driver.specs.Run.{Outcome, Goes, Refuses, Exceeds}
use Rattle.script_model.specs.Words.{◌>>=◌}
use Rattle.world_model.specs.Agents.{own_hss_key as own}
use Rattle.world_model.specs.Logs.{Played, ViewLine, acked_view, is_too_large, keys_of, with_view}
use Rattle.world_model.specs.Logs.ViewLine.{exceeds, makes, no_former, no_members, one_head_key}
use Rattle.world_model.specs.World.{NamedView, Participant, World, empty_world, meets, participant, view_named}
use Rattle.session_steps.specs.MetState.{AreMet, MetState}
use Rattle.ring_nodes.specs.Looking.{PutsSo}
use Rattle.ring_nodes.specs.NodesState.{IsNodesOf, NodesState, with_nodes}
use Rattle.script_participants.specs.ParticipantState.{HasParticipants, ParticipantState, state_of}
use Rattle.script_world.specs.Made.{IsMade, view_of_keys}
use Rattle.script_world.specs.declared.made_views.Made.{Made}
use Rattle.script_world.specs.declared.made_views.Made.TheVariants as made
use Rattle.script_world.specs.PartsState.{AreKept, GoesOn, HasParts, PartsState}
use Rattle.script_world.specs.Views.{MakesOf, PutsView}

-- ---- the keys of logs

nobody_there : (ps : List Participant) → map state_of ps ≡ [] → ps ≡ []
nobody_there [] e = refl
nobody_there (p ∷ ps) e = absurd cc

keys_of_nobody : (w : World) (names : List (List ℕ)) → w.participants ≡ [] → names ≢ [] → keys_of w names ≡ None
keys_of_nobody w [] none some = absurd (some refl)
keys_of_nobody w (name ∷ names) none some =
    ap (λ (ps : List Participant). find (λ (p : Participant). bytes_eq p.name name) ps >>= λ p. keys_of w names >>= λ keys. Some (own p.agent ∷ keys)) none

-- where there are names there are keys
keys_are_some : (w : World) (names : List (List ℕ)) (keys : List PubKey) → names ≢ [] → keys_of w names ≡ Some keys → keys ≢ []
keys_are_some w [] keys some is = absurd (some refl)
keys_are_some w (name ∷ names) [] some is = λ e. by (participant w name) (keys_of w names) is
  where
    by : (p : Option Participant) (rest : Option (List PubKey)) → (p >>= λ p. rest >>= λ keys. Some (own p.agent ∷ keys)) ≡ Some [] → ⊥
    by None rest e = absurd cc
    by (Some p) None e = absurd cc
    by (Some p) (Some keys) e = let none : own p.agent ∷ keys ≡ [] = cc e in absurd cc
keys_are_some w (name ∷ names) (k ∷ keys) some is = λ e. absurd cc

-- some world has these participants
abbrev seen : ParticipantState → Participant
seen p = record { name = p.name; agent = p.agent; keeper = p.keeper; cache = p.cache; made = p.made; printed = p.printed; work = p.work; left = [] }

seen_are : (ps : List ParticipantState) → map state_of (map seen ps) ≡ ps
seen_are [] = refl
seen_are (p ∷ ps) = λ i. p ∷ seen_are ps i

-- keys as they are told
module _ {B : Type 0} (f : B → List PubKey) (o : Option B) (ps : List ParticipantState) (names : List (List ℕ)) (are : (w : World) → HasParticipants w ps → option_map f o ≡ keys_of w names) where
  pub some_keys : (b : B) → o ≡ Some b → names ≢ [] → f b ≢ []
  some_keys b is some =
      let w : World = record empty_world { participants = map seen ps } in
      keys_are_some w names (f b) some (sym (are w (seen_are ps)) ∙ ap (option_map f) is)

  pub keys_in : (w : World) → HasParticipants w ps → (b : B) → o ≡ Some b → keys_of w names ≡ Some (f b)
  keys_in w has b is = sym (are w has) ∙ ap (option_map f) is

  pub no_keys_in : (w : World) → HasParticipants w ps → o ≡ None → keys_of w names ≡ None
  no_keys_in w has none = sym (are w has) ∙ ap (option_map f) none

-- ---- the line

some_mapped : {A B : Type 0} (f : A → B) (o : Option A) → is_some (option_map f o) ≡ is_some o
some_mapped f None = refl
some_mapped f (Some x) = refl

or_true : (b : Bool) → (b || true) ≡ true
or_true true = refl
or_true false = refl

large : (members former : List PubKey) → (most_members < length members) ⊎ (most_former < length former) → is_too_large members former ≡ true
large members former (inl more) = ap (λ (b : Bool). b || nat_lt most_former (length former)) (lt-ltb most_members (length members) more)
large members former (inr more) = ap (λ (b : Bool). nat_lt most_members (length members) || b) (lt-ltb most_former (length former) more) ∙ or_true (nat_lt most_members (length members))

-- whether a view has that name, as it is told
pub viewed : {B : Type 0} (f : B → View) (o : Option B) (s : PartsState) (said name : List ℕ) (t : Bool) → said ≡ name → ((w : World) → HasParts w s → option_map f o ≡ view_named w said) → t ≡ is_some o → (w : World) → HasParts w s → is_some (view_named w name) ≡ t
viewed f o s said name t same are told w has = ap (λ (l : List ℕ). is_some (view_named w l)) (sym same) ∙ ap is_some (sym (are w has)) ∙ some_mapped f o ∙ sym told

module _ (judged : Key → List ℕ → Option Judged) (w : Played) (s : PartsState) (has : HasParts w.0 s) (name : List ℕ) (members former : List (List ℕ)) where
  abbrev Line : Outcome Played → Type 0
  Line outcome = ViewLine judged w name (keys_of w.0 members) (keys_of w.0 former) outcome

  pub no_such_member : keys_of w.0 members ≡ None → Line Refuses
  no_such_member none = subst (λ (o : Option (List PubKey)). ViewLine judged w name o (keys_of w.0 former) Refuses) (sym none) no_members

  pub no_such_former : keys_of w.0 former ≡ None → Line Refuses
  no_such_former none = subst (λ (o : Option (List PubKey)). ViewLine judged w name (keys_of w.0 members) o Refuses) (sym none) no_former

  -- before the ring there is nobody
  pub nobody_yet : members ≢ [] → s.replicas ≡ None → AreKept s.replicas s.participants → Line Refuses
  nobody_yet some none kept = no_such_member (keys_of_nobody w.0 members (nobody_there w.0.participants (has.participants ∙ kept.nobody none)) some)

  module _ (ms fs : List PubKey) (of_members : keys_of w.0 members ≡ Some ms) (of_former : keys_of w.0 former ≡ Some fs) where
    told : (outcome : Outcome Played) → ViewLine judged w name (Some ms) (Some fs) outcome → Line outcome
    told outcome line = subst (λ (o : Option (List PubKey) × Option (List PubKey)). ViewLine judged w name o.0 o.1 outcome) (λ i. (sym of_members i, sym of_former i)) line

    pub same_heads : have_own_head_keys (ms ++ fs) ≡ false → Line Refuses
    same_heads same = told Refuses (one_head_key ms fs same)

    module _ (unknown : is_some (view_named w.0 name) ≡ false) (apart : have_own_head_keys (ms ++ fs) ≡ true) where
      pub too_many : (most_members < length ms) ⊎ (most_former < length fs) → Line Exceeds
      too_many more = told Exceeds (exceeds ms fs unknown apart (large ms fs more))

      pub view_goes : (r : ℕ) (made : View) (after : PartsState) (output : List ℕ) → s.replicas ≡ Some r → length ms ≤ most_members → length fs ≤ most_former → made ≡ view_of_keys ms fs → PutsView judged r name made s after → output ≡ []
          → (next : Played) × Line (Goes next output) × GoesOn w.0 after next.0
      view_goes r made after output ring few few_former made_is puts nothing =
          let its = puts w.0 has in
          let small : is_too_large ms fs ≡ false = λ i. le-ltb most_members (length ms) few i || le-ltb most_former (length fs) few_former i in
          let next : Played = (its.0, record w.1 { acked = w.1.acked ++ acked_view made its.1.came }) in (
            next,
            subst (λ (o : List ℕ). Line (Goes next o)) (sym nothing)
                (told (Goes next []) (makes ms fs r made its.0 unknown apart small (has.replicas ∙ ring) made_is its.1)),
            its.2,
          )

-- what comes of the keys of logs that are there
pub made_of : (s : PartsState) (name : List ℕ) (members former : List (List ℕ)) (ms fs : List PubKey) (result : Result Made Memory) → ((w : World) → HasParts w s → keys_of w members ≡ Some ms) → ((w : World) → HasParts w s → keys_of w former ≡ Some fs)
    → ((w : World) → HasParts w s → is_some (view_named w name) ≡ false) → IfOk result (λ (m : Made). IsMade ms fs m) → IfOk result (λ (m : Made). MakesOf name members former s m)
made_of s name members former ms fs (Ok m) of_members of_former free is = by m is
  where
    by : (m : Made) → IsMade ms fs m → MakesOf name members former s m
    by made.Refused its = λ w has judged. same_heads judged w s has name members former ms fs (of_members w.0 has) (of_former w.0 has) its
    by made.TooMany its = λ w has judged. too_many judged w s has name members former ms fs (of_members w.0 has) (of_former w.0 has) (free w.0 has) its.0 its.1
    by (made.View view) its = λ w has judged r after output ring puts nothing.
        view_goes judged w s has name members former ms fs (of_members w.0 has) (of_former w.0 has) (free w.0 has) its.0 r view after output ring its.1 its.2 its.3 puts nothing
made_of s name members former ms fs (Err fault) of_members of_former free is = tt

-- ---- its block is met and put

view_put : (judged : Key → List ℕ → Option Judged) (s : PartsState) (r : ℕ) (name : List ℕ) (view : View) (nodes : NodesState) (views : List NamedView) (met : MetState) (came : Result Bool Miss)
    → ((blocks : List (List ℕ)) → AreMet blocks s.met → AreMet (meets blocks (view_block view)) met) → views ≡ s.views ++ record { name = name; view = view } ∷ []
    → ((w : World) → IsNodesOf w s.nodes → PutsSo judged w r (view_name view) (ask.PutBlock (view_name view) (view_block view)) came (with_nodes w nodes)) → PutsView judged r name view s (record s { nodes = nodes; views = views; met = met })
view_put judged s r name view nodes views met came meets_it views_are puts = λ w has.
    let stood : World = with_view w name view in (
      with_nodes stood nodes,
      (puts stood has.nodes).0,
      (
        record {
          replicas = has.replicas;
          nodes = (refl, refl, refl);
          participants = has.participants;
          views = ap (λ (vs : List NamedView). vs ++ record { name = name; view = view } ∷ []) has.views ∙ sym views_are;
          replies = has.replies;
          moment = has.moment;
          met = meets_it w.met has.met;
        },
        refl,
      ),
    )

pub puts_in : (judged : Key → List ℕ → Option Judged) (before s : PartsState) → s ≡ before → (r : ℕ) (name : List ℕ) (view : View) (nodes : NodesState) (views : List NamedView) (met : MetState) (key : Key) (block told : List ℕ) (came : Result Bool Miss)
    → key ≡ view_name view → block ≡ view_block view → told ≡ block → ((blocks : List (List ℕ)) → AreMet blocks s.met → AreMet (meets blocks told) met) → views ≡ s.views ++ record { name = name; view = view } ∷ []
    → ((w : World) → IsNodesOf w s.nodes → PutsSo judged w r key (ask.PutBlock key block) came (with_nodes w nodes)) → PutsView judged r name view before (record s { nodes = nodes; views = views; met = met })
puts_in judged before s same r name view nodes views met key block told came key_is block_is told_is meets_it views_are puts =
    subst (λ (t : PartsState). PutsView judged r name view t (record s { nodes = nodes; views = views; met = met })) same
    (view_put judged s r name view nodes views met came (subst (λ (b : List ℕ). (blocks : List (List ℕ)) → AreMet blocks s.met → AreMet (meets blocks b) met) (told_is ∙ block_is) meets_it) views_are
    (subst (λ (x : Key × List ℕ). (w : World) → IsNodesOf w s.nodes → PutsSo judged w r x.0 (ask.PutBlock x.0 x.1) came (with_nodes w nodes)) (λ i. (key_is i, block_is i)) puts))
