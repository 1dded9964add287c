-- A line that makes a view names a member, and one that begins a log a key that can be saved.
use Rattle.std.proofs.Common.{◌≡◌, ◌≢◌, ℕ, ◌^◌, Bool, true, false, cond, List, [], ◌∷◌, length, Option, Some, None, refl, ap, ◌∙◌, subst, arith, nat_lt}
use Rattle.std.specs.Prelude.{◌==◌, IfSome, IsTrue, codes}
use Rattle.std.specs.List.{AllByRecursion}
use Rattle.std.specs.Str.{bytes_eq}
use Rattle.std.proofs.lemmas.List.Splits.{length-slice_split}
use Rattle.hash_signature_model.specs.Saved.{IsSigner}
use Rattle.script_driver.specs.Run.{line_limit}
use Rattle.script_model.specs.declared.command.Command.{Command}
use Rattle.script_model.specs.declared.command.Command.TheVariants as command
use Rattle.script_model.specs.declared.command.NodeWord.{NodeWord}
use Rattle.script_model.specs.Lines.{as_of, at_of, call_command, command_of, command_of_words, damage_of, end_line_of, is_comment, join_of, keep_of, kept_word_of, log_line_of, lose_of, of_log, of_node, open_of, ring_command, ring_of, round_of, setup_command, show_command, shown_of, step_line_of, use_of, view_of}
use Rattle.script_model.specs.Words.{◌>>=◌, byte_of, each_of, hex_bytes, key_of, name_of, names_of, node_word_of, number_below, parts_at, piece_of, sets_of, words_of}
use Rattle.world_model.specs.Logs.{fresh_signer}
use Rattle.world_laws.proofs.LineKeys.{key_is_signer}
use Rattle.world_laws.proofs.PieceBytes.{IsOfBytes, byte_is, pieces_are}

-- what a line's command fits: its pieces are of bytes
abbrev pub Fits : Command → Type 0
Fits (command.View view members former) = members ≢ []
Fits (command.Log log id seed sets) = IsSigner (fresh_signer id seed sets)
Fits (command.As log pieces) = AllByRecursion IsOfBytes pieces
Fits (command.Open session log pieces) = AllByRecursion IsOfBytes pieces
Fits _ = Unit {0}

-- the same, and the byte by which a block is damaged is one
abbrev pub FitsWholly : Command → Type 0
FitsWholly (command.View view members former) = members ≢ []
FitsWholly (command.Log log id seed sets) = IsSigner (fresh_signer id seed sets)
FitsWholly (command.As log pieces) = AllByRecursion IsOfBytes pieces
FitsWholly (command.Open session log pieces) = AllByRecursion IsOfBytes pieces
FitsWholly (command.Damage node key offset byte) = IsTrue (nat_lt byte 256)
FitsWholly _ = Unit {0}

fits_so : (c : Command) → FitsWholly c → Fits c
fits_so (command.Damage node key offset byte) h = tt
fits_so _ h = h

abbrev SomeFits : Option Command → Type 0
SomeFits o = IfSome o FitsWholly

-- ---- values one after the other

fits1 : {A : Type 0} (o : Option A) (make : A → Command) → ((x : A) → FitsWholly (make x)) → SomeFits (o >>= λ x. Some (make x))
fits1 None make h = tt
fits1 (Some x) make h = h x

fits2 : {A B : Type 0} (o : Option A) (p : Option B) (make : A → B → Command) → ((x : A) (y : B) → p ≡ Some y → FitsWholly (make x y)) → SomeFits (o >>= λ x. p >>= λ y. Some (make x y))
fits2 None p make h = tt
fits2 (Some x) None make h = tt
fits2 (Some x) (Some y) make h = h x y refl

fits3 : {A B C : Type 0} (o : Option A) (p : Option B) (q : Option C) (make : A → B → C → Command) → ((x : A) (y : B) (z : C) → p ≡ Some y → q ≡ Some z → FitsWholly (make x y z)) → SomeFits (o >>= λ x. p >>= λ y. q >>= λ z. Some (make x y z))
fits3 None p q make h = tt
fits3 (Some x) None q make h = tt
fits3 (Some x) (Some y) None make h = tt
fits3 (Some x) (Some y) (Some z) make h = h x y z refl refl

fits4 : {A B C D : Type 0} (o : Option A) (p : Option B) (q : Option C) (r : Option D) (make : A → B → C → D → Command) → ((x : A) (y : B) (z : C) (u : D) → p ≡ Some y → q ≡ Some z → r ≡ Some u → FitsWholly (make x y z u)) → SomeFits (o >>= λ x. p >>= λ y. q >>= λ z. r >>= λ u. Some (make x y z u))
fits4 None p q r make h = tt
fits4 (Some x) None q r make h = tt
fits4 (Some x) (Some y) None r make h = tt
fits4 (Some x) (Some y) (Some z) None make h = tt
fits4 (Some x) (Some y) (Some z) (Some u) make h = h x y z u refl refl refl

-- ---- names

each_none : {A : Type 0} (value : List ℕ → Option A) (words : List (List ℕ)) → each_of value words ≡ Some [] → words ≡ []
each_none value [] e = refl
each_none {A = A} value (w ∷ words) e = by (value w) (each_of value words) e
  where
    by : (o : Option A) (p : Option (List A)) → (o >>= λ x. p >>= λ xs. Some (x ∷ xs)) ≡ Some [] → w ∷ words ≡ []
    by None p h = cc h
    by (Some x) None h = cc h
    by (Some x) (Some xs) h = cc h

some_names : (word : List ℕ) (names : List (List ℕ)) → names_of word ≡ Some names → names ≢ []
some_names word names is none =
    let empty : parts_at 44 word ≡ [] = each_none name_of (parts_at 44 word) (is ∙ ap Some none) in
    omega (arith, length-slice_split (λ b. b == 44) word, ap length empty)

-- ---- commands

ring_fits : (ws : List (List ℕ)) → SomeFits (ring_of ws)
ring_fits [] = tt
ring_fits (n ∷ []) = tt
ring_fits (n ∷ r ∷ []) = fits2 (number_below (2 ^ 64) n) (number_below (2 ^ 64) r) (λ x y. command.Ring x y) (λ x y e. tt)
ring_fits (n ∷ r ∷ w ∷ ws) = tt

log_fits : (ws : List (List ℕ)) → SomeFits (log_line_of ws)
log_fits [] = tt
log_fits (p ∷ []) = tt
log_fits (p ∷ i ∷ []) = tt
log_fits (p ∷ i ∷ s ∷ []) = tt
log_fits (p ∷ i ∷ s ∷ w ∷ []) = fits4 (name_of p) (hex_bytes 16 i) (hex_bytes 32 s) (sets_of w) (λ x y z u. command.Log x y z u) (λ x y z u e f g. key_is_signer i s w y z u e f g)
log_fits (p ∷ i ∷ s ∷ w ∷ v ∷ ws) = tt

view_fits : (ws : List (List ℕ)) → SomeFits (view_of ws)
view_fits [] = tt
view_fits (v ∷ []) = tt
view_fits (v ∷ m ∷ []) = fits2 (name_of v) (names_of m) (λ x y. command.View x y []) (λ x y e. some_names m y e)
view_fits (v ∷ m ∷ f ∷ []) = fits3 (name_of v) (names_of m) (names_of f) (λ x y z. command.View x y z) (λ x y z e f. some_names m y e)
view_fits (v ∷ m ∷ f ∷ w ∷ ws) = tt

use_fits : (ws : List (List ℕ)) → SomeFits (use_of ws)
use_fits [] = tt
use_fits (p ∷ []) = tt
use_fits (p ∷ v ∷ []) = fits2 (name_of p) (name_of v) (λ x y. command.Use x y) (λ x y e. tt)
use_fits (p ∷ v ∷ w ∷ ws) = tt

at_fits : (ws : List (List ℕ)) → SomeFits (at_of ws)
at_fits [] = tt
at_fits (s ∷ []) = tt
at_fits (s ∷ n ∷ []) = fits2 (number_below (2 ^ 64) s) (number_below (2 ^ 64) n) (λ x y. command.At x y) (λ x y e. tt)
at_fits (s ∷ n ∷ w ∷ ws) = tt

as_fits : (ws : List (List ℕ)) → SomeFits (as_of ws)
as_fits [] = tt
as_fits (p ∷ []) = tt
as_fits (p ∷ w ∷ ws) = fits2 (name_of p) (each_of piece_of (w ∷ ws)) (λ x y. command.As x y) (λ x y e. pieces_are (w ∷ ws) y e)

open_fits : (ws : List (List ℕ)) → SomeFits (open_of ws)
open_fits [] = tt
open_fits (s ∷ []) = tt
open_fits (s ∷ p ∷ []) = tt
open_fits (s ∷ p ∷ w ∷ ws) = fits3 (name_of s) (name_of p) (each_of piece_of (w ∷ ws)) (λ x y z. command.Open x y z) (λ x y z e f. pieces_are (w ∷ ws) z f)

step_fits : (ws : List (List ℕ)) → SomeFits (step_line_of ws)
step_fits [] = tt
step_fits (s ∷ []) = tt
step_fits (s ∷ k ∷ []) = fits2 (name_of s) (number_below (2 ^ 64) k) (λ x y. command.Step x y) (λ x y e. tt)
step_fits (s ∷ k ∷ w ∷ ws) = tt

end_fits : (ws : List (List ℕ)) → SomeFits (end_line_of ws)
end_fits [] = tt
end_fits (s ∷ []) = fits1 (name_of s) (λ x. command.Finish x) (λ x. tt)
end_fits (s ∷ w ∷ ws) = tt

join_fits : (ws : List (List ℕ)) → SomeFits (join_of ws)
join_fits [] = tt
join_fits (i ∷ []) = fits1 (number_below (2 ^ 32) i) (λ x. command.Join x) (λ x. tt)
join_fits (i ∷ w ∷ ws) = tt

round_fits : (ws : List (List ℕ)) → SomeFits (round_of ws)
round_fits [] = tt
round_fits (w ∷ ws) = tt

lose_fits : (ws : List (List ℕ)) → SomeFits (lose_of ws)
lose_fits [] = tt
lose_fits (k ∷ []) = fits1 (number_below (2 ^ 64) k) (λ x. command.Lose x) (λ x. tt)
lose_fits (k ∷ w ∷ ws) = tt

damage_fits : (ws : List (List ℕ)) → SomeFits (damage_of ws)
damage_fits [] = tt
damage_fits (n ∷ []) = tt
damage_fits (n ∷ k ∷ []) = tt
damage_fits (n ∷ k ∷ o ∷ []) = tt
damage_fits (n ∷ k ∷ o ∷ b ∷ []) = fits4 (node_word_of n) (key_of k) (number_below (2 ^ 64) o) (byte_of b) (λ x y z u. command.Damage x y z u) (λ x y z u e f g. byte_is b u g)
damage_fits (n ∷ k ∷ o ∷ b ∷ w ∷ ws) = tt

keep_fits : (ws : List (List ℕ)) → SomeFits (keep_of ws)
keep_fits [] = tt
keep_fits (p ∷ []) = tt
keep_fits (p ∷ k ∷ []) = tt
keep_fits (p ∷ k ∷ w ∷ []) = fits3 (name_of p) (number_below (2 ^ 64) k) (kept_word_of w) (λ x y z. command.Keep x y z) (λ x y z e f. tt)
keep_fits (p ∷ k ∷ w ∷ v ∷ ws) = tt

of_node_fits : (make : NodeWord → Command) → ((node : NodeWord) → FitsWholly (make node)) → (ws : List (List ℕ)) → SomeFits (of_node make ws)
of_node_fits make h [] = tt
of_node_fits make h (n ∷ []) = fits1 (node_word_of n) make h
of_node_fits make h (n ∷ w ∷ ws) = tt

of_log_fits : (make : List ℕ → Command) → ((log : List ℕ) → FitsWholly (make log)) → (ws : List (List ℕ)) → SomeFits (of_log make ws)
of_log_fits make h [] = tt
of_log_fits make h (p ∷ []) = fits1 (name_of p) make h
of_log_fits make h (p ∷ w ∷ ws) = tt

-- ---- lines

-- the first whose test holds
abbrev choose : List (Bool × Option Command) → Option Command → Option Command
choose [] other = other
choose (c ∷ cs) other = cond c.0 c.1 (choose cs other)

choose_fits : (cs : List (Bool × Option Command)) (other : Option Command) → AllByRecursion (λ c. SomeFits c.1) cs → SomeFits other → SomeFits (choose cs other)
choose_fits [] other h g = g
choose_fits (c ∷ cs) other h g = by c.0 (choose_fits cs other h.1 g)
  where
    by : (b : Bool) → SomeFits (choose cs other) → SomeFits (cond b c.1 (choose cs other))
    by true later = h.0
    by false later = later

show_fits : (word : List ℕ) (ws : List (List ℕ)) → SomeFits (show_command word ws)
show_fits word ws = fits1 (shown_of word ws) (λ x. command.Show x) (λ x. tt)

setup_fits : (word : List ℕ) (ws : List (List ℕ)) → SomeFits (setup_command word ws)
setup_fits word ws = choose_fits
    ((bytes_eq word (codes "ring"), ring_of ws) ∷ (bytes_eq word (codes "log"), log_line_of ws) ∷ (bytes_eq word (codes "view"), view_of ws) ∷ (bytes_eq word (codes "use"), use_of ws) ∷ (bytes_eq word (codes "at"), at_of ws) ∷ [])
    (show_command word ws) (ring_fits ws, (log_fits ws, (view_fits ws, (use_fits ws, (at_fits ws, tt))))) (show_fits word ws)

call_fits : (word : List ℕ) (ws : List (List ℕ)) → SomeFits (call_command word ws)
call_fits word ws = choose_fits
    ((bytes_eq word (codes "as"), as_of ws) ∷ (bytes_eq word (codes "open"), open_of ws) ∷ (bytes_eq word (codes "step"), step_line_of ws) ∷ (bytes_eq word (codes "end"), end_line_of ws) ∷ [])
    (setup_command word ws) (as_fits ws, (open_fits ws, (step_fits ws, (end_fits ws, tt)))) (setup_fits word ws)

ring_command_fits : (word : List ℕ) (ws : List (List ℕ)) → SomeFits (ring_command word ws)
ring_command_fits word ws = choose_fits
    ((bytes_eq word (codes "join"), join_of ws) ∷ (bytes_eq word (codes "stop"), of_node (λ x. command.Stop x) ws) ∷ (bytes_eq word (codes "round"), round_of ws) ∷ (bytes_eq word (codes "lose"), lose_of ws) ∷ (bytes_eq word (codes "damage"), damage_of ws) ∷ [])
    (call_command word ws) (join_fits ws, (of_node_fits (λ x. command.Stop x) (λ x. tt) ws, (round_fits ws, (lose_fits ws, (damage_fits ws, tt))))) (call_fits word ws)

words_fit : (ws : List (List ℕ)) → SomeFits (command_of_words ws)
words_fit [] = tt
words_fit (word ∷ ws) = choose_fits
    ((bytes_eq word (codes "snap"), of_log (λ x. command.Snap x) ws) ∷ (bytes_eq word (codes "restart"), of_log (λ x. command.Restart x) ws) ∷ (bytes_eq word (codes "keep"), keep_of ws) ∷ [])
    (ring_command word ws)
    (of_log_fits (λ x. command.Snap x) (λ x. tt) ws, (of_log_fits (λ x. command.Restart x) (λ x. tt) ws, (keep_fits ws, tt)))
    (ring_command_fits word ws)

line_fits : (line : List ℕ) → SomeFits (command_of line)
unfolding command_of
line_fits line = choose_fits ((nat_lt line_limit (length line), None) ∷ (is_comment line, Some command.Nothing) ∷ []) (command_of_words (words_of line)) (tt, (tt, tt)) (words_fit (words_of line))

-- the command that a line is fits, wholly
pub command_fits_wholly : (line : List ℕ) (c : Command) → command_of line ≡ Some c → FitsWholly c
command_fits_wholly line c is = subst SomeFits is (line_fits line)

pub command_fits : (line : List ℕ) (c : Command) → command_of line ≡ Some c → Fits c
command_fits line c is = fits_so c (command_fits_wholly line c is)
