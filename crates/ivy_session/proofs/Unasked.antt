-- A put that is over with no ask knows no node.
use Rattle.std.proofs.Common.{◌≡◌, List, [], ◌∷◌, ◌++◌, length, Bool, Option, Some, None, Result, ℕ, refl, sym, ap, ◌∙◌, subst, arith}
use Rattle.std.proofs.lemmas.List.{append-nil}
use Rattle.ivy_base.specs.declared.key.Key.{Key}
use Rattle.dht_ids.specs.Asked.{routes}
use Rattle.dht_ids.specs.declared.ask.Ask.TheVariants as ask
use Rattle.dht_ids.specs.declared.ask.AskKind.TheVariants as kind
use Rattle.dht_ids.specs.declared.ask.Heard.{Heard}
use Rattle.dht_ids.specs.declared.peer.Peer.{Peer}
use Rattle.dht_ids.specs.declared.post.Post.{Post}
use Rattle.dhash_model.specs.declared.miss.Miss.{Miss}
use Rattle.dhash_model.specs.Execution.{Told, IsExecution, told_all}
use Rattle.dhash_model.specs.Execution.IsExecution.{no_route, of_owners}
use Rattle.dhash_model.specs.Puts.{EndsPut}
use Rattle.dhash_client.specs.Machine.{Trail}
use Rattle.ring_model.specs.Members.{IsAmong}
use Rattle.ring_model.specs.Route.{Route}
use Rattle.ring_model.specs.Lookup.{IsLookup}
use Rattle.ring_model.specs.Lookup.IsLookup.{over, spent, known, silent, answered}
use Rattle.ring_model.proofs.Lists.{nil_cons}
use Rattle.session_model.specs.Sessions.{IsPutOfPost, put_question}

-- a look-up with no ask has no node to ask
no_look : {asked : List Peer} {last : Option (List Peer)} {ps : List Peer} {trail : Trail} {found : Option (List Peer)} → IsLookup asked last ps trail found → asked ≡ [] → trail ≡ [] → ps ≡ []
no_look over a t = refl
no_look (spent many) a t = let size = ap (λ (l : List Peer). length l) a in absurd (omega (arith, many, size))
no_look (known {p = p} h more) a t = absurd (subst (IsAmong p) a h)
no_look (silent {p = p} {trail = trail} few not_yet more) a t = absurd (nil_cons {X = Peer × Option (Route Peer)} (p, None) trail (sym t))
no_look (answered {p = p} {route = route} {trail = trail} few not_yet more) a t = absurd (nil_cons {X = Peer × Option (Route Peer)} (p, Some route) trail (sym t))

nobody_looked : (key : Key) (entries : List Peer) (looks : Told) (rest : List Heard) (found : Option (List Peer)) → [] ≡ told_all (ask.Route key) looks ++ rest → IsLookup [] None entries (routes looks) found → entries ≡ []
nobody_looked key entries [] rest found is looked = no_look looked refl refl
nobody_looked key entries (l ∷ looks) rest found is looked = absurd (nil_cons (record { node = l.0; kind = kind.Route; key = key; put = None; got = l.1 }) (told_all (ask.Route key) looks ++ rest) is)

pub nobody_asked : (r : ℕ) (entries : List Peer) (p : Post) (came : Result Bool Miss) → IsPutOfPost r entries p [] came → entries ≡ []
nobody_asked r entries p came whole = by whole
  where
    by : IsExecution p.key (put_question p) entries (EndsPut r) [] came → entries ≡ []
    by (no_route looks found is looked nobody result_is) = nobody_looked p.key entries looks [] found (is ∙ sym (append-nil (told_all (ask.Route p.key) looks))) looked
    by (of_owners looks asks found owners is looked nodes ends) = nobody_looked p.key entries looks (told_all (put_question p) asks) found is looked
