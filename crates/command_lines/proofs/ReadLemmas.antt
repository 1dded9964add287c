-- Reading words one after the other, each as a value.
use Rattle.std.proofs.Common.{◌≡◌, ℕ, ◌^◌, ◌<◌, ◌≤◌, List, [], ◌∷◌, ◌++◌, length, get_or, map, Option, Some, None, Bor, refl, sym, ap, ◌∙◌, nat_le, if◌then◌else◌, arith}
use Rattle.std.specs.Option.{option_map}
use Rattle.std.proofs.lemmas.Bool.{le-leb}
use Rattle.std.proofs.lemmas.List.{length-map}
use Rattle.hash_signature_model.specs.declared.set.Set.{Set}
use Rattle.script_model.specs.declared.command.NodeWord.{NodeWord}
use Rattle.script_model.specs.declared.command.KeyWord.{KeyWord}
use Rattle.script_model.specs.declared.command.Command.{Command}
use Rattle.script_model.specs.declared.command.Shown.{Shown}
use Rattle.script_model.specs.declared.command.Command.TheVariants as command
use Rattle.script_model.specs.Words.{◌>>=◌, each_of, piece_of, parts_at, set_of, sets_of, number_below, node_word_of, key_of, byte_of}
use Rattle.script_model.specs.Lines.{damage_of, of_node, open_of, show_command, shown_of}
use Rattle.command_lines.specs.Steps.{pieces_of}

abbrev pub seen : List (Bor (List ℕ)) → List (List ℕ)
seen words = map (λ w. w.now) words

-- values that were read so far, and those of the other words after them
abbrev pub behind : {A : Type 0} → List A → Option (List A) → Option (List A)
behind values None = None
behind values (Some others) = Some (values ++ others)

abbrev sets_in : List (List ℕ) → Option (List Set)
sets_in parts = if nat_le (length parts) 3 then each_of set_of parts else None

-- three sets at most
pub few_sets : (words : List (Bor (List ℕ))) (word : List ℕ) → seen words ≡ parts_at 44 word → length words ≤ 3 → each_of set_of (seen words) ≡ sets_of word
few_sets words word are few =
    let here : sets_in (seen words) ≡ each_of set_of (seen words) = rw (le-leb (length (seen words)) 3 (omega (arith, few, length-map words (λ (w : Bor (List ℕ)). w.now)))) refl in
    sym here ∙ ap sets_in are

-- one piece at least
pub some_pieces : (words : List (Bor (List ℕ))) → 1 ≤ length words → each_of piece_of (seen words) ≡ pieces_of (seen words)
some_pieces [] some = absurd (omega (arith, some))
some_pieces (w ∷ words) some = refl

-- ---- the wrong number of words

pub too_few_for_damage : (words : List (Bor (List ℕ))) → length words < 4 → damage_of (seen words) ≡ None
too_few_for_damage [] few = refl
too_few_for_damage (n ∷ []) few = refl
too_few_for_damage (n ∷ k ∷ []) few = refl
too_few_for_damage (n ∷ k ∷ o ∷ []) few = refl
too_few_for_damage (n ∷ k ∷ o ∷ b ∷ words) few = absurd (omega (arith, few))

pub too_many_for_damage : (words : List (Bor (List ℕ))) → 5 ≤ length words → damage_of (seen words) ≡ None
too_many_for_damage [] many = refl
too_many_for_damage (n ∷ []) many = refl
too_many_for_damage (n ∷ k ∷ []) many = refl
too_many_for_damage (n ∷ k ∷ o ∷ []) many = refl
too_many_for_damage (n ∷ k ∷ o ∷ b ∷ []) many = absurd (omega (arith, many))
too_many_for_damage (n ∷ k ∷ o ∷ b ∷ x ∷ words) many = refl

pub too_few_to_open : (words : List (Bor (List ℕ))) → length words < 2 → open_of (seen words) ≡ None
too_few_to_open [] few = refl
too_few_to_open (s ∷ []) few = refl
too_few_to_open (s ∷ p ∷ words) few = absurd (omega (arith, few))

-- ---- a word of a line that is none, whatever those in front of it are

-- the parts of a damage
abbrev damaged : Option NodeWord → Option KeyWord → Option ℕ → Option ℕ → Option Command
damaged node key offset byte = node >>= λ n. key >>= λ k. offset >>= λ o. byte >>= λ b. Some (command.Damage n k o b)

no_offset : (node : Option NodeWord) (key : Option KeyWord) (byte : Option ℕ) → damaged node key None byte ≡ None
no_offset None key byte = refl
no_offset (Some n) None byte = refl
no_offset (Some n) (Some k) byte = refl

damage_parts : (words : List (Bor (List ℕ))) (d : Bor (List ℕ)) → length words ≡ 4
    → damage_of (seen words) ≡ damaged (node_word_of (get_or words 0 d).now) (key_of (get_or words 1 d).now) (number_below (2 ^ 64) (get_or words 2 d).now) (byte_of (get_or words 3 d).now)
damage_parts [] d four = absurd (omega (arith, four))
damage_parts (n ∷ []) d four = absurd (omega (arith, four))
damage_parts (n ∷ k ∷ []) d four = absurd (omega (arith, four))
damage_parts (n ∷ k ∷ o ∷ []) d four = absurd (omega (arith, four))
damage_parts (n ∷ k ∷ o ∷ b ∷ []) d four = refl
damage_parts (n ∷ k ∷ o ∷ b ∷ x ∷ words) d four = absurd (omega (arith, four))

pub damage_without_offset : (words : List (Bor (List ℕ))) (d : Bor (List ℕ)) → length words ≡ 4 → number_below (2 ^ 64) (get_or words 2 d).now ≡ None → None ≡ damage_of (seen words)
damage_without_offset words d four none = rw (damage_parts words d four, none) (sym (no_offset (node_word_of (get_or words 0 d).now) (key_of (get_or words 1 d).now) (byte_of (get_or words 3 d).now)))

-- ---- a line of one node

pub too_few_for_node : (words : List (Bor (List ℕ))) → length words < 1 → of_node (λ node. node) (seen words) ≡ None
too_few_for_node [] few = refl
too_few_for_node (n ∷ words) few = absurd (omega (arith, few))

pub too_many_for_node : (words : List (Bor (List ℕ))) → 2 ≤ length words → of_node (λ node. node) (seen words) ≡ None
too_many_for_node [] many = absurd (omega (arith, many))
too_many_for_node (n ∷ []) many = absurd (omega (arith, many))
too_many_for_node (n ∷ x ∷ words) many = refl

pub without_node : (words : List (Bor (List ℕ))) (d : Bor (List ℕ)) → length words ≡ 1 → node_word_of (get_or words 0 d).now ≡ None → of_node (λ node. node) (seen words) ≡ None
without_node [] d one none = absurd (omega (arith, one))
without_node (n ∷ []) d one none = rw none refl
without_node (n ∷ x ∷ words) d one none = absurd (omega (arith, one))

-- what is made of that node
pub made_of_node : {Made : Type 0} (make : NodeWord → Made) (words : List (List ℕ)) (o : Option NodeWord) → o ≡ of_node (λ node. node) words → option_map make o ≡ of_node make words
made_of_node make [] o is = ap (option_map make) is
made_of_node make (n ∷ []) o is = ap (option_map make) is ∙ by (node_word_of n)
  where
    by : (p : Option NodeWord) → option_map make (p >>= λ node. Some node) ≡ (p >>= λ node. Some (make node))
    by None = refl
    by (Some node) = refl
made_of_node make (n ∷ x ∷ words) o is = ap (option_map make) is

-- a line that shows what was read
pub made_to_show : (word : List ℕ) (words : List (List ℕ)) (o : Option Shown) → o ≡ shown_of word words → option_map command.Show o ≡ show_command word words
made_to_show word words o is = ap (option_map command.Show) is ∙ by (shown_of word words)
  where
    by : (p : Option Shown) → option_map command.Show p ≡ (p >>= λ some. Some (command.Show some))
    by None = refl
    by (Some some) = refl
