-- A line that shows something leaves the world as it is, or is refused, or meets a limit; and what it shows is no reply.
use Rattle.std.proofs.Common.{◌≡◌, ℕ, Bool, true, false, ◌&&◌, List, [], ◌∷◌, ◌++◌, codes, refl, sym, ap, ◌∙◌, subst, nat_eq}
use Rattle.script_driver.specs.Run.{Outcome, Goes, Refuses, Exceeds}
use Rattle.script_model.specs.declared.command.Shown.{Shown}
use Rattle.script_model.specs.declared.command.Shown.TheVariants as shown
use Rattle.world_model.specs.Calls.{reply_line}
use Rattle.world_model.specs.Shows.{Showing, Absent, TooMuch, Text, Shows, showing, shown_as, word_of}
use Rattle.world_model.specs.World.{World}

-- so a law holds of such a line if it holds of going on in that world with any text after the line's word
pub shows_are_still : (w : World) (s : Shown) (Law : Outcome World → Type 0) → ((text : List ℕ) → Law (Goes w (word_of s ++ 32 ∷ text))) → Law Refuses → Law Exceeds → (outcome : Outcome World) → Shows w s outcome
    → Law outcome
shows_are_still w s Law goes refuses exceeds outcome shows = subst Law (sym shows.2) (by (showing shows.0 w s))
  where
    by : (x : Showing) → Law (shown_as w (word_of s) x)
    by Absent = refuses
    by TooMuch = exceeds
    by (Text text) = goes text

abbrev begins_with : List ℕ → List ℕ → Bool
begins_with [] text = true
begins_with (b ∷ front) [] = false
begins_with (b ∷ front) (c ∷ text) = nat_eq b c && begins_with front text

-- whichever word it is
other_word : (s : Shown) (text : List ℕ) → begins_with (codes "reply ") (word_of s ++ 32 ∷ text) ≡ false
other_word (shown.Holds node) text = refl
other_word _ text = refl

pub shows_no_reply : (s : Shown) (text message rest : List ℕ) → word_of s ++ 32 ∷ text ≡ reply_line message ++ rest → ⊥
shows_no_reply s text message rest e = both (sym (other_word s text) ∙ ap (begins_with (codes "reply ")) e)
  where
    both : false ≡ true → ⊥
    both h = cc h
