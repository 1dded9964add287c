-- What holds of each world while its ring stays: nodes hold what they should, an owner holds each acknowledged post, and what sessions were answered is true.
use Rattle.std.proofs.Common.{◌≡◌, ◌⊎◌, inl, inr, ⊎_elim, ℕ, Bool, true, false, cond, List, [], ◌∷◌, map, Some, refl, sym, ap, ◌∙◌, subst, Contains}
use Rattle.std.specs.Prelude.{find}
use Rattle.std.specs.List.{AllByRecursion}
use Rattle.std.specs.Str.{bytes_eq}
use Rattle.ring_model.proofs.Lists.{all_weaker}
use Rattle.dhash_model.specs.Signed.{hss_judged}
use Rattle.log_model.proofs.Lists.{each_from}
use Rattle.dht_ids.specs.declared.ask.Answer.{Answer}
use Rattle.dht_ids.specs.declared.ask.Ask.{Ask}
use Rattle.dht_ids.specs.declared.peer.Peer.{Peer}
use Rattle.dht_ids.specs.declared.post.Post.{Post}
use Rattle.agent_model.specs.Agent.{is_head}
use Rattle.session_model.specs.Sessions.{Over, Publishing, Refreshing, Stage}
use Rattle.world_model.specs.World.{Participant, World, participant, with_participant}
use Rattle.world_model.specs.Fates.{FateOf}
use Rattle.world_model.specs.Steps.{having_made, heads_by, met_by}
use Rattle.world_laws.proofs.Bringing.{found_named}
use Rattle.world_laws.proofs.Frames.{found_mapped, into_map}
use Rattle.world_laws.proofs.NodeFates.{fate_rest}
use Rattle.world_laws.proofs.Placed.{found_in_place, same_name}
use Rattle.world_laws.proofs.SignedAmong.{met_stays, met_then}
use Rattle.log_model.proofs.Lists.{in_filter}

-- ---- heads that left, and posts

-- it left some agent as a head
abbrev pub IsLeft : World → List ℕ → Type 0
IsLeft w b = (n : List ℕ) × (q : Participant) × (participant w n ≡ Some q) × Contains q.left b

-- its block is met, and left as a head where it is one
abbrev pub IsOwnPost : World → Post → Type 0
IsOwnPost w p = Contains w.met p.bytes × (is_head p.kind ≡ true → IsLeft w p.bytes)

-- so is each post that an agent has to publish
abbrev pub ArePending : World → Type 0
ArePending w = (n : List ℕ) (q : Participant) → participant w n ≡ Some q → AllByRecursion (IsOwnPost w) q.agent.pending

-- nothing that was met or that left is forgotten
pub record IsMore (w v : World) : Type 0 where
  pub met : (b : List ℕ) → Contains w.met b → Contains v.met b
  pub left : (b : List ℕ) → IsLeft w b → IsLeft v b

pub same_more : (w : World) → IsMore w w
same_more w = record { met = λ b h. h; left = λ b h. h }

pub more_then : (u v w : World) → IsMore u v → IsMore v w → IsMore u w
more_then u v w f g = record { met = λ b h. g.met b (f.met b h); left = λ b h. g.left b (f.left b h) }

pub more_post : (w v : World) (p : Post) → IsMore w v → IsOwnPost w p → IsOwnPost v p
more_post w v p m h = (m.met p.bytes h.0, λ e. m.left p.bytes (h.1 e))

pub more_posts : (w v : World) (ps : List Post) → IsMore w v → AllByRecursion (IsOwnPost w) ps → AllByRecursion (IsOwnPost v) ps
more_posts w v ps m h = all_weaker (IsOwnPost w) (IsOwnPost v) ps (λ p g. more_post w v p m g) h

-- an ask changes neither
pub asked_more : {w next : World} {to : Peer} {question : Ask} {given : Answer} → FateOf hss_judged w to question given next → IsMore w next
asked_more {w = w} fate = subst (IsMore w) (sym (fate_rest fate)) (record { met = λ b h. h; left = λ b h. h })

pub asked_pending : {w next : World} {to : Peer} {question : Ask} {given : Answer} → FateOf hss_judged w to question given next → ArePending w → ArePending next
asked_pending fate h = subst ArePending (sym (fate_rest fate)) h

-- ---- a participant in place of another

found_back : (f : Participant → Participant) → ((p : Participant) → (f p).name ≡ p.name) → (ps : List Participant) (n : List ℕ) (q : Participant) → find (λ o. bytes_eq o.name n) (map f ps) ≡ Some q → (p : Participant) × (find (λ o. bytes_eq o.name n) ps ≡ Some p) × (q ≡ f p)
found_back f same [] n q is = cc is
found_back f same (p ∷ ps) n q is =
    by (bytes_eq p.name n) (subst (λ m. cond (bytes_eq m n) (Some (f p)) (find (λ o. bytes_eq o.name n) (map f ps)) ≡ Some q) (same p) is) (λ h. found_back f same ps n q h)
  where
    by : (b : Bool) → cond b (Some (f p)) (find (λ o. bytes_eq o.name n) (map f ps)) ≡ Some q → (find (λ o. bytes_eq o.name n) (map f ps) ≡ Some q → (p : Participant) × (find (λ o. bytes_eq o.name n) ps ≡ Some p) × (q ≡ f p))
        → (o : Participant) × (cond b (Some p) (find (λ o. bytes_eq o.name n) ps) ≡ Some o) × (q ≡ f o)
    by true h later = (p, refl, cc h)
    by false h later = later h

module _ (w : World) (n : List ℕ) (p q : Participant) (met : List (List ℕ)) (is_p : participant w n ≡ Some p) (named : q.name ≡ p.name) (grows : (b : List ℕ) → Contains w.met b → Contains met b) (left : (b : List ℕ) → Contains p.left b → Contains q.left b) where
  abbrev pub placed : World
  placed = record (with_participant w q) { met = met }

  abbrev put_in : Participant → Participant
  put_in o = cond (bytes_eq o.name q.name) q o

  put_name : (o : Participant) → (put_in o).name ≡ o.name
  put_name o = by (bytes_eq o.name q.name) refl
    where
      by : (b : Bool) → bytes_eq o.name q.name ≡ b → (cond b q o).name ≡ o.name
      by true e = sym (same_name o.name q.name e)
      by false e = refl

  -- who is in its place
  is_other : (m : List ℕ) (o : Participant) → participant w m ≡ Some o → (put_in o ≡ o) ⊎ ((o ≡ p) × (put_in o ≡ q))
  is_other m o is = by (bytes_eq o.name q.name) refl
    where
      one : o.name ≡ q.name → o ≡ p
      one e =
          let at_m : o.name ≡ m = (found_named w.participants m o is).1 in
          let at_n : p.name ≡ n = (found_named w.participants n p is_p).1 in
          let same : m ≡ n = sym at_m ∙ e ∙ named ∙ at_n in
          cc (sym is ∙ ap (participant w) same ∙ is_p)

      by : (b : Bool) → bytes_eq o.name q.name ≡ b → (cond b q o ≡ o) ⊎ ((o ≡ p) × (cond b q o ≡ q))
      by true e = inr (one (same_name o.name q.name e), refl)
      by false e = inl refl

  pub found_placed : participant placed n ≡ Some q
  found_placed = found_in_place w n p q is_p named

  pub placed_more : IsMore w placed
  placed_more = record {
    met = grows;
    left = λ b h.
        let found : participant placed h.0 ≡ Some (put_in h.1) = found_mapped put_in put_name w.participants h.0 h.1 h.2 in (
          h.0,
          put_in h.1,
          found,
          ⊎_elim
              (λ same. subst (λ (o : Participant). Contains o.left b) (sym same) h.3)
              (λ mine. subst (λ (o : Participant). Contains o.left b) (sym mine.1) (left b (subst (λ (o : Participant). Contains o.left b) mine.0 h.3)))
              (is_other h.0 h.1 h.2),
        );
  }

  pub placed_pending : ArePending w → AllByRecursion (IsOwnPost placed) q.agent.pending → ArePending placed
  placed_pending h own m o is =
      let back = found_back put_in put_name w.participants m o is in
      ⊎_elim
      (λ same. subst (λ (x : Participant). AllByRecursion (IsOwnPost placed) x.agent.pending) (sym (back.2 ∙ same)) (more_posts w placed back.0.agent.pending placed_more (h m back.0 back.1)))
      (λ mine. subst (λ (x : Participant). AllByRecursion (IsOwnPost placed) x.agent.pending) (sym (back.2 ∙ mine.1)) own)
      (is_other m back.0 back.1)

-- what a participant's posts make known: they are own posts of it
pub made_left : (p : Participant) (posts : List Post) (b : List ℕ) → Contains p.left b → Contains (having_made p posts).left b
made_left p posts b h = met_stays p.left (heads_by posts) b h

pub made_own : (v : World) (n : List ℕ) (p : Participant) (met : List (List ℕ)) (posts : List Post) → participant v n ≡ Some (having_made p posts) → v.met ≡ met_by met posts → AllByRecursion (IsOwnPost v) posts
made_own v n p met posts is e = each_from (IsOwnPost v) posts (λ post among. (
  subst (λ m. Contains m post.bytes) (sym e) (met_then met (map (λ (x : Post). x.bytes) posts) post.bytes (into_map (λ (x : Post). x.bytes) posts post among)),
  λ head. (n, having_made p posts, is, met_then p.left (heads_by posts) post.bytes (into_map (λ (x : Post). x.bytes) _ post (in_filter (λ (x : Post). is_head x.kind) posts post among head))),
))

-- ---- sessions and worlds

-- the posts that are still to be put
abbrev pub posts_at : Stage → List Post
posts_at Refreshing = []
posts_at (Publishing said posts acks) = posts
posts_at (Over said) = []
