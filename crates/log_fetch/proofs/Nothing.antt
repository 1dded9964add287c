-- A get that made no ask brought nothing, and nobody could be asked.
use Rattle.std.proofs.Common.{◌≡◌, ℕ, List, [], ◌∷◌, ◌++◌, length, Option, None, Result, Err, refl, sym, ap, ◌∙◌, subst, arith}
use Rattle.ivy_base.specs.declared.key.Key.{Key}
use Rattle.ivy_base.specs.Naming.{head_key_of}
use Rattle.std.proofs.lemmas.List.{append-nil}
use Rattle.dht_ids.specs.Asked.{routes}
use Rattle.dht_ids.specs.declared.ask.Ask.{Ask}
use Rattle.dht_ids.specs.declared.ask.Ask.TheVariants as ask
use Rattle.dht_ids.specs.declared.ask.Heard.{Heard}
use Rattle.dht_ids.specs.declared.judge.Judged.{Judged}
use Rattle.dht_ids.specs.declared.peer.Peer.{Peer}
use Rattle.dhash_model.specs.Execution.{Told, IsExecution, told_all, result_of}
use Rattle.dhash_model.specs.Execution.IsExecution.{no_route, of_owners}
use Rattle.dhash_model.specs.GetBlock.{EndsGet, IsGetOfBlock, block_in}
use Rattle.dhash_model.specs.GetHead.{EndsHeadGet, IsGetOfHead}
use Rattle.dhash_model.specs.declared.miss.Miss.{Miss}
use Rattle.dhash_client.specs.Machine.{Trail}
use Rattle.dhash_client.specs.GetHead.{Judges}
use Rattle.ring_model.specs.Lookup.{IsLookup}
use Rattle.ring_model.specs.Lookup.IsLookup.{over, spent, known, silent, answered}
use Rattle.ring_model.specs.Members.{IsAmong}
use Rattle.ring_model.specs.Gets.{Got, Right, Damaged, Missing, EndsBlock, EndsHeads}
use Rattle.session_model.specs.Brought.{Brought, HeadsOf, BlockOf, WantedOfRing, Heads, Content}
use Rattle.session_model.specs.Sessions.{Gets}
use Rattle.session_model.specs.Sessions.Gets.{heads as of_heads, content as of_content}
use Rattle.log_fetch.specs.declared.get.Came.{Came}
use Rattle.log_fetch.specs.declared.get.Came.TheVariants as came
use Rattle.log_fetch.specs.declared.get.Get.{Get}
use Rattle.log_fetch.specs.declared.get.Get.TheVariants as get
use Rattle.log_fetch.specs.Gets.{HasCame}
use Rattle.log_fetch.specs.Stepping.{HasNothing, BroughtNothing}

something : {X : Type 0} (before : List X) (x : X) (more : List X) → [] ≡ before ++ x ∷ more → ⊥
something [] x more e = cc e
something (y ∷ ys) x more e = cc e

no_asks : (key : Key) (before : List Heard) (asks : Told) → [] ≡ before ++ told_all (ask.Get key) asks → asks ≡ []
no_asks key before [] e = refl
no_asks key before (x ∷ xs) e = absurd (something before _ _ e)

failed : {T : Type 0} (result : Result T Miss) (miss : Miss) → result ≡ Err miss → HasNothing result
failed result miss e = subst HasNothing (sym e) tt

module _ (key : Key) (r : ℕ) (entries : List Peer) where
  heads_end : (judge : List ℕ → Option Judged) (got : Got Peer (List Judged)) (asks : Told) → asks ≡ [] → EndsHeads block_in judge asks got → (given : Result (List Judged) Miss) → given ≡ result_of key got → HasNothing given
  heads_end judge (Right heads) asks none ends given e =
      let there : EndsHeads {A = Peer} block_in judge [] (Right heads) = subst (λ (l : Told). EndsHeads {A = Peer} block_in judge l (Right heads)) none ends in absurd (there.0 there.1)
  heads_end judge (Damaged node) asks none ends given e = failed given _ e
  heads_end judge (Missing asked) asks none ends given e = failed given _ e

  block_end : (got : Got Peer (List ℕ)) (asks : Told) → asks ≡ [] → EndsBlock block_in key asks got → (given : Result (List ℕ) Miss) → given ≡ result_of key got → HasNothing given
  block_end (Right bytes) asks none ends given e = let there : EndsBlock {A = Peer} block_in key [] (Right bytes) = subst (λ (l : Told). EndsBlock {A = Peer} block_in key l (Right bytes)) none ends in absurd there.1
  block_end (Damaged node) asks none ends given e = failed given _ e
  block_end (Missing asked) asks none ends given e = failed given _ e

  no_heads : (judge : List ℕ → Option Judged) (trail : List Heard) → [] ≡ trail → (given : Result (List Judged) Miss) → IsGetOfHead judge key r entries trail given → HasNothing given
  no_heads judge trail none given (no_route looks found told_is looked out is) = failed given _ is
  no_heads judge trail none given (of_owners looks asks found owners told_is looked out ends) =
      heads_end judge ends.0 asks (no_asks key (told_all (ask.Route key) looks) asks (none ∙ told_is)) ends.1.ends given ends.2

  no_block : (trail : List Heard) → [] ≡ trail → (given : Result (List ℕ) Miss) → IsGetOfBlock key r entries trail given → HasNothing given
  no_block trail none given (no_route looks found told_is looked out is) = failed given _ is
  no_block trail none given (of_owners looks asks found owners told_is looked out ends) =
      block_end ends.0 asks (no_asks key (told_all (ask.Route key) looks) asks (none ∙ told_is)) ends.1.ends given ends.2

abbrev Nothing : Brought → Type 0
Nothing (HeadsOf owner given) = HasNothing given
Nothing (BlockOf key given) = HasNothing given

gets_nothing : (judged : Key → List ℕ → Option Judged) (r : ℕ) (entries : List Peer) (want : WantedOfRing) (trail : List Heard) → [] ≡ trail → (brought : Brought) → Gets judged r entries want trail brought → Nothing brought
gets_nothing judged r entries want trail none brought (of_heads {owner} given is) = no_heads (head_key_of owner) r entries (judged (head_key_of owner)) trail none given is
gets_nothing judged r entries want trail none brought (of_content {key} given is) = no_block key r entries trail none given is

pub brings_nothing : {J : Type 0} (judges : Judges J) (entries : List Peer) (x : Get J) (given : Came) → HasCame judges entries [] x given → BroughtNothing given
brings_nothing judges entries (get.Heads owner t) (came.Heads heads) h = gets_nothing (judges t.judge) t.execution.replicas entries (Heads owner) [] refl (HeadsOf owner heads) h
brings_nothing judges entries (get.Heads owner t) (came.Block block) h = absurd h
brings_nothing judges entries (get.Block t) (came.Heads heads) h = absurd h
brings_nothing judges entries (get.Block t) (came.Block block) h = gets_nothing (λ key bytes. None) t.execution.replicas entries (Content t.execution.look.key) [] refl (BlockOf t.execution.look.key block) (h (λ key bytes. None))

-- ---- nobody could be asked

-- a look-up from a node on asks it
nobody : {asked : List Peer} {last : Option (List Peer)} {ps : List Peer} {trail : Trail} {found : Option (List Peer)} → IsLookup asked last ps trail found → asked ≡ [] → [] ≡ trail → ps ≡ []
nobody over none empty = refl
nobody (spent many) none empty = let size = ap (λ (l : List Peer). length l) none in absurd (omega (arith, many, size))
nobody (known {p = p} among more) none empty = absurd (subst (IsAmong p) none among)
nobody (silent few not_yet more) none empty = absurd (something [] _ _ empty)
nobody (answered few not_yet more) none empty = absurd (something [] _ _ empty)

no_looks : (key : Key) (looks : Told) (rest : List Heard) → [] ≡ told_all (ask.Route key) looks ++ rest → [] ≡ routes looks
no_looks key [] rest e = refl
no_looks key (l ∷ looks) rest e = absurd (something [] _ _ e)

no_execution : {T : Type 0} (key : Key) (question : Ask) (entries : List Peer) (Ends : List Peer → Told → Result T Miss → Type 0) (trail : List Heard) (result : Result T Miss) → [] ≡ trail → IsExecution key question entries Ends trail result → entries ≡ []
no_execution key question entries Ends trail result none (no_route looks found told_is looked out is) = nobody looked refl (no_looks key looks [] (none ∙ told_is ∙ sym (append-nil (told_all (ask.Route key) looks))))
no_execution key question entries Ends trail result none (of_owners looks asks found owners told_is looked out ends) = nobody looked refl (no_looks key looks (told_all question asks) (none ∙ told_is))

no_get : (judged : Key → List ℕ → Option Judged) (r : ℕ) (entries : List Peer) (want : WantedOfRing) (trail : List Heard) → [] ≡ trail → (brought : Brought) → Gets judged r entries want trail brought → entries ≡ []
no_get judged r entries want trail none brought (of_heads {owner} given is) = no_execution (head_key_of owner) (ask.Get (head_key_of owner)) entries (EndsHeadGet (judged (head_key_of owner)) (head_key_of owner) r) trail given none is
no_get judged r entries want trail none brought (of_content {key} given is) = no_execution key (ask.Get key) entries (EndsGet key r) trail given none is

pub asks_nobody : {J : Type 0} (judges : Judges J) (entries : List Peer) (x : Get J) (given : Came) → HasCame judges entries [] x given → entries ≡ []
asks_nobody judges entries (get.Heads owner t) (came.Heads heads) h = no_get (judges t.judge) t.execution.replicas entries (Heads owner) [] refl (HeadsOf owner heads) h
asks_nobody judges entries (get.Heads owner t) (came.Block block) h = absurd h
asks_nobody judges entries (get.Block t) (came.Heads heads) h = absurd h
asks_nobody judges entries (get.Block t) (came.Block block) h = no_get (λ key bytes. None) t.execution.replicas entries (Content t.execution.look.key) [] refl (BlockOf t.execution.look.key block) (h (λ key bytes. None))
