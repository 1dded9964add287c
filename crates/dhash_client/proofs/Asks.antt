-- Who was asked, and what follows then.
use Rattle.std.proofs.Common.{◌≡◌, Bool, true, false, eqb, ◌&&◌, ◌||◌, refl, ℕ, List, [], ◌∷◌, ◌++◌, Option, Some, None, reverse, sym, ap, ◌∙◌, subst, inl, inr, ⊎_elim, MatchBool, ◌<◌, ◌≤◌, length, IfSome, MatchOption, arith}
use Rattle.std.specs.List.{list_any}
use Rattle.std.specs.Option.{is_some}
use lib.Pointwise.{pointwise}
use Rattle.std.proofs.lemmas.Slice.Eq.{slice_eq-Decides}
use Rattle.std.proofs.lemmas.Bool.Decides.{Decides-eqb}
use Rattle.std.proofs.lemmas.Bool.{and_parts, and_from, eqb-true, eq-eqb, true≢false}
use Rattle.std.proofs.lemmas.Grind.{reverse_onto}
use Rattle.std.proofs.lemmas.List.{reverse-reverse, reverse-append, length-reverse}
use Rattle.ivy_base.specs.declared.key.Key.{Key}
use Rattle.dht_ids.specs.Asked.{route_in}
use Rattle.dht_ids.specs.declared.ask.Answer.{Answer}
use Rattle.dht_ids.specs.declared.ask.Answer.TheVariants as answer
use Rattle.dht_ids.specs.declared.peer.Peer.{Peer}
use Rattle.ring_model.specs.Members.{IsAmong}
use Rattle.ring_model.specs.Route.{Route}
use Rattle.ring_model.specs.Lookup.{IsLookup}
use Rattle.ring_model.specs.Lookup.IsLookup.{over, spent, known, silent, answered}
use Rattle.ring_model.proofs.Lists.{among-left, among-right}
use Rattle.dhash_client.specs.Machine.{State, Trail, to_ask, IsRest, HasHeard}

pub among_reverse : {X : Type 0} (x : X) (xs : List X) → IsAmong x xs → IsAmong x (reverse xs)
among_reverse x [] h = h
among_reverse x (y ∷ ys) (inl e) = subst (IsAmong x) (sym (reverse_onto ys y [])) (among-right x (reverse ys) (y ∷ []) (inl e))
among_reverse x (y ∷ ys) (inr h) = subst (IsAmong x) (sym (reverse_onto ys y [])) (among-left x (reverse ys) (y ∷ []) (among_reverse x ys h))

pub among_reversed : {X : Type 0} (x : X) (xs : List X) → IsAmong x (reverse xs) → IsAmong x xs
among_reversed x xs h = subst (IsAmong x) (reverse-reverse xs) (among_reverse x (reverse xs) h)

-- the test that `==` of peers is
abbrev pub is_peer : Peer → Peer → Bool
is_peer a b = eqb a.number b.number && pointwise eqb a.id.0 b.id.0

same_peer : (a b : Peer) → is_peer a b ≡ true → a ≡ b
same_peer a b h =
    let p = and_parts (eqb a.number b.number) (pointwise eqb a.id.0 b.id.0) h in
    let n : a.number ≡ b.number = eqb-true a.number b.number p.0 in
    let i : a.id.0 ≡ b.id.0 = (slice_eq-Decides Decides-eqb a.id.0 b.id.0 (pointwise eqb a.id.0 b.id.0) refl).0 p.1 in
    ap (λ k. peer_of k a.id.0) n ∙ ap (λ l. peer_of b.number l) i
  where
    peer_of : ℕ → List ℕ → Peer
    peer_of n l = record { number = n; id = record { 0 = l } }

peer_itself : (a b : Peer) → a ≡ b → is_peer a b ≡ true
peer_itself a b e = subst (λ z. is_peer a z ≡ true) e (and_from (eqb a.number a.number) (pointwise eqb a.id.0 a.id.0) (eq-eqb a.number a.number refl) ((slice_eq-Decides Decides-eqb a.id.0 a.id.0 (pointwise eqb a.id.0 a.id.0) refl).1 refl))

among_any : (p : Peer) (xs : List Peer) → MatchBool (list_any (λ y. is_peer y p) xs) (IsAmong p xs) (IsAmong p xs → ⊥)
among_any p [] = λ h. h
among_any p (x ∷ xs) = by_test (among_any p xs) (is_peer x p) refl
  where
    later : (t : Bool) → MatchBool t (IsAmong p xs) (IsAmong p xs → ⊥) → (x ≡ p → ⊥) → MatchBool t (IsAmong p (x ∷ xs)) (IsAmong p (x ∷ xs) → ⊥)
    later true h ne = inr h
    later false h ne = λ i. ⊎_elim ne h i

    by_test : MatchBool (list_any (λ y. is_peer y p) xs) (IsAmong p xs) (IsAmong p xs → ⊥) → (b : Bool) → is_peer x p ≡ b → MatchBool (list_any (λ y. is_peer y p) (x ∷ xs)) (IsAmong p (x ∷ xs)) (IsAmong p (x ∷ xs) → ⊥)
    by_test h true e = subst (λ t. MatchBool (t || list_any (λ y. is_peer y p) xs) (IsAmong p (x ∷ xs)) (IsAmong p (x ∷ xs) → ⊥)) (sym e) (inl (same_peer x p e))
    by_test h false e = subst (λ t. MatchBool (t || list_any (λ y. is_peer y p) xs) (IsAmong p (x ∷ xs)) (IsAmong p (x ∷ xs) → ⊥)) (sym e) (later (list_any (λ y. is_peer y p) xs) h (λ q. true≢false (sym (peer_itself x p q) ∙ e)))

-- whether the peer was asked
pub asked_any : (p : Peer) (xs : List Peer) (b : Bool) → b ≡ list_any (λ y. is_peer y p) xs → MatchBool b (IsAmong p (reverse xs)) (IsAmong p (reverse xs) → ⊥)
asked_any p xs b e = subst (λ t. MatchBool t (IsAmong p (reverse xs)) (IsAmong p (reverse xs) → ⊥)) (sym e) (turned (list_any (λ y. is_peer y p) xs) (among_any p xs))
  where
    turned : (t : Bool) → MatchBool t (IsAmong p xs) (IsAmong p xs → ⊥) → MatchBool t (IsAmong p (reverse xs)) (IsAmong p (reverse xs) → ⊥)
    turned true h = among_reverse p xs h
    turned false h = λ i. h (among_reversed p xs i)

-- a node that was asked is left out
pub leaves_out : (asked ps qs rest : List Peer) (p : Peer) → IsRest asked ps qs → qs ≡ p ∷ rest → IsAmong p asked → IsRest asked ps rest
leaves_out asked ps qs rest p h e k = λ last trail found l. h last trail found (subst (λ q. IsLookup asked last q trail found) (sym e) (known k l))

same_some : {X : Type 0} (x y : X) → Some x ≡ Some y → x ≡ y
same_some {X = X} x y e = ap (λ o. some_or o) e
  where
    some_or : Option X → X
    some_or None = x
    some_or (Some z) = z

-- one ask and its answer
heard_step : (key : Key) (asked asked2 : List Peer) (last last2 : Option (List Peer)) (rest rest2 : List Peer) (waiting waiting2 : Option Peer) (node : Peer) (given : Answer) (route : Option (Route Peer))
    → waiting ≡ Some node → waiting2 ≡ None → asked2 ≡ asked ++ node ∷ [] → route_in given ≡ route
    → ((trail : Trail) (found : Option (List Peer)) → IsLookup (node ∷ reverse asked) last2 rest2 trail found → IsLookup (reverse asked) last (node ∷ rest) ((node, route) ∷ trail) found)
    → HasHeard (record { key = key; asked = reverse asked; last = last; rest = rest; waiting = waiting }) (record { key = key; asked = reverse asked2; last = last2; rest = rest2; waiting = waiting2 }) given
heard_step key asked asked2 last last2 rest rest2 waiting waiting2 node given route w w2 a r step =
    record {
      key = refl;
      waiting = w2;
      asked = λ n e. turned ∙ ap (λ p. p ∷ reverse asked) (same_some node n (sym w ∙ e));
      follows = λ n e trail found h.
          subst (λ q. IsLookup (reverse asked) last q ((n, route_in given) ∷ trail) found) (sym (ap (λ x. to_ask x rest) w))
          (subst (λ m. IsLookup (reverse asked) last (node ∷ rest) ((m, route_in given) ∷ trail) found) (same_some node n (sym w ∙ e))
          (subst (λ o. IsLookup (reverse asked) last (node ∷ rest) ((node, o) ∷ trail) found) (sym r)
          (step trail found
          (subst (λ q. IsLookup (node ∷ reverse asked) last2 q trail found) (ap (λ x. to_ask x rest2) w2)
          (subst (λ l. IsLookup l last2 (to_ask waiting2 rest2) trail found) turned h)))));
    }
  where
    turned : reverse asked2 ≡ node ∷ reverse asked
    turned = ap (λ l. reverse l) a ∙ reverse-append asked (node ∷ [])

abbrev pub IsReady : List Peer → Peer → Type 0
IsReady asked p = (length asked < 512) × (IsAmong p (reverse asked) → ⊥)

pub heard_route : (key : Key) (asked asked2 : List Peer) (last : Option (List Peer)) (rest rest2 nearer owners : List Peer) (waiting waiting2 : Option Peer) (node : Peer) (given : Answer) (old new : State)
    → waiting ≡ Some node → IfSome waiting (IsReady asked) → waiting2 ≡ None → asked2 ≡ asked ++ node ∷ [] → given ≡ answer.Route nearer owners → rest2 ≡ nearer
    → (record { key = key; asked = reverse asked; last = last; rest = rest; waiting = waiting }) ≡ old → new ≡ (record { key = key; asked = reverse asked2; last = Some owners; rest = rest2; waiting = waiting2 }) → HasHeard old new given
heard_route key asked asked2 last rest rest2 nearer owners waiting waiting2 node given old new w ready w2 a r n o e =
    let at : IsReady asked node = subst (λ o. IfSome o (IsReady asked)) w ready in
    subst (λ s. HasHeard s new given) o (subst (λ s. HasHeard (record { key = key; asked = reverse asked; last = last; rest = rest; waiting = waiting }) s given) (sym e)
    (heard_step key asked asked2 last (Some owners) rest rest2 waiting waiting2 node given (Some (record { nearer = nearer; owners = owners })) w w2 a (ap (λ g. route_in g) r)
    (λ trail found h. answered (omega (arith, length-reverse asked, at.0)) at.1 (subst (λ q. IsLookup (node ∷ reverse asked) (Some owners) q trail found) n h))))

pub heard_silence : (key : Key) (asked asked2 : List Peer) (last : Option (List Peer)) (rest : List Peer) (waiting waiting2 : Option Peer) (node : Peer) (given : Answer) (old new : State)
    → waiting ≡ Some node → IfSome waiting (IsReady asked) → waiting2 ≡ None → asked2 ≡ asked ++ node ∷ [] → route_in given ≡ None
    → (record { key = key; asked = reverse asked; last = last; rest = rest; waiting = waiting }) ≡ old → new ≡ (record { key = key; asked = reverse asked2; last = last; rest = rest; waiting = waiting2 }) → HasHeard old new given
heard_silence key asked asked2 last rest waiting waiting2 node given old new w ready w2 a r o e =
    let at : IsReady asked node = subst (λ o. IfSome o (IsReady asked)) w ready in
    subst (λ s. HasHeard s new given) o (subst (λ s. HasHeard (record { key = key; asked = reverse asked; last = last; rest = rest; waiting = waiting }) s given) (sym e)
    (heard_step key asked asked2 last last rest rest waiting waiting2 node given None w w2 a r
    (λ trail found h. silent (omega (arith, length-reverse asked, at.0)) at.1 h)))

pub ends_all_asked : (asked : List Peer) (last : Option (List Peer)) (ps rest : List Peer) (waiting chosen : Option Peer) (P : Peer → Type 0)
    → IsRest asked ps (to_ask chosen rest) → MatchOption chosen (rest ≡ []) P → waiting ≡ None → chosen ≡ None → IsLookup asked last (to_ask waiting ps) [] last
ends_all_asked asked last ps rest waiting chosen P skips none w e =
    let empty : rest ≡ [] = subst (λ o. MatchOption o (rest ≡ []) P) e none in
    let nothing : to_ask chosen rest ≡ [] = ap (λ o. to_ask o rest) e ∙ empty in
    subst (λ o. IsLookup asked last (to_ask o ps) [] last) (sym w) (skips last [] last (subst (λ q. IsLookup asked last q [] last) (sym nothing) over))

pub ends_spent : (asked : List Peer) (last : Option (List Peer)) (ps : List Peer) → 512 ≤ length asked → IsLookup (reverse asked) last ps [] last
ends_spent asked last ps h = spent (omega (arith, length-reverse asked, h))

pub none_not_some : {X : Type 0} (o : Option X) → o ≡ None → is_some o ≡ true → ⊥
none_not_some o e h = true≢false (sym h ∙ ap (λ x. is_some x) e)

pub no_route : (given : Answer) → ((nearer owners : List Peer) → given ≡ answer.Route nearer owners → ⊥) → route_in given ≡ None
no_route (answer.Route nearer owners) f = absurd (f nearer owners refl)
no_route (answer.Near before list) f = refl
no_route (answer.Found bytes) f = refl
no_route answer.Nothing f = refl
no_route answer.Stored f = refl
no_route (answer.Refused fault) f = refl
no_route answer.Noted f = refl
no_route answer.Silent f = refl
