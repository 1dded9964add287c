-- What an ask of a live ring tells.
use Rattle.std.specs.Prelude.{◌≡◌, ◌↔◌, ℕ, true, false, List, Option, None}
use Rattle.ivy_base.specs.Naming.{name}
use Rattle.ivy_base.specs.declared.key.Key.{Key}
use Rattle.tree_model.specs.Tree.{same_key}
use Rattle.dht_ids.specs.Asked.{IsAnswerTo}
use Rattle.dht_ids.specs.declared.ask.Answer.{Answer}
use Rattle.dht_ids.specs.declared.ask.Answer.TheVariants as answer
use Rattle.dht_ids.specs.declared.ask.Ask.{Ask}
use Rattle.dht_ids.specs.declared.ask.Ask.TheVariants as ask
use Rattle.dht_ids.specs.declared.ask.StoreFault.TheVariants as fault
use Rattle.dht_ids.specs.declared.judge.Judged.{Judged}
use Rattle.dht_ids.specs.declared.peer.Peer.{Peer}
use Rattle.ring_run.specs.Live.{Gives, LiveState, lives}

module _ (judged : Key → List ℕ → Option Judged) (r : LiveState) (to : Peer) (given : Answer) where
  -- Silence comes exactly of a peer that doesn't live.
  abbrev pub SilenceIsOfTheDead : Type 0
  SilenceIsOfTheDead = (question : Ask) → Gives judged r to question given → (given ≡ answer.Silent) ↔ (lives r to ≡ false)

  -- Each answer is of the ask's form.
  abbrev pub AnswersAreOfTheForm : Type 0
  AnswersAreOfTheForm = (question : Ask) → Gives judged r to question given → IsAnswerTo question given

  -- A live node refuses a content block by its name exactly where the bytes have another.
  abbrev pub WrongNamesAreByBytes : Type 0
  WrongNamesAreByBytes = (key : Key) (bytes : List ℕ) → lives r to ≡ true → Gives judged r to (ask.PutBlock key bytes) given
      → (given ≡ answer.Refused fault.WrongName) ↔ (same_key key (name bytes) ≡ false)

  -- It refuses a head as none exactly where the judge takes the bytes for none.
  abbrev pub NotJudgedIsByBytes : Type 0
  NotJudgedIsByBytes = (key : Key) (bytes : List ℕ) → lives r to ≡ true → Gives judged r to (ask.PutHead key bytes) given
      → (given ≡ answer.Refused fault.NotJudged) ↔ (judged key bytes ≡ None)
