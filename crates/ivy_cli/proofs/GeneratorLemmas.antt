-- The script, call by call.
use Rattle.std.proofs.Common.{◌≡◌, ℕ, ◌+◌, ◌*◌, List, [], ◌∷◌, ◌++◌, codes, refl, sym, ap, ◌∙◌, arith, append_assoc, add-one}
use Rattle.std.specs.List.{flat_map}
use Rattle.std.proofs.lemmas.Grind.{flat_map-append}
use Rattle.std.proofs.lemmas.List.{append-nil}
use Rattle.ivy_cli.specs.Generator.{next, state, drawn, draw, opening, call_line, moment_line, call_lines, script_of}

-- lines, each with its newline
abbrev pub text_of : List (List ℕ) → List ℕ
text_of lines = flat_map (λ line. line ++ 10 ∷ []) lines

-- the script up to its first calls
abbrev pub script_before : ℕ → ℕ → List ℕ
script_before seed i = text_of (opening ++ call_lines seed i)

-- ---- draws

state_next : (seed n m : ℕ) → m ≡ n + 1 → state seed m ≡ next (state seed n)
unfolding state
state_next seed n m one = ap (state seed) (one ∙ add-one n)

pub no_draws : (seed : ℕ) → state seed 0 ≡ seed
unfolding state
no_draws seed = refl

first_draw : (seed i draws : ℕ) → draws ≡ state seed (3 * i) → next draws ≡ state seed (3 * i + 1)
first_draw seed i draws at = ap next at ∙ sym (state_next seed (3 * i) (3 * i + 1) refl)

second_draw : (seed i draws : ℕ) → draws ≡ state seed (3 * i) → next (next draws) ≡ state seed (3 * i + 2)
second_draw seed i draws at = ap next (first_draw seed i draws at) ∙ sym (state_next seed (3 * i + 1) (3 * i + 2) (omega arith))

third_draw : (seed i draws : ℕ) → draws ≡ state seed (3 * i) → next (next (next draws)) ≡ state seed (3 * i + 3)
third_draw seed i draws at = ap next (second_draw seed i draws at) ∙ sym (state_next seed (3 * i + 2) (3 * i + 3) (omega arith))

-- where three draws lead
pub three_draws : (seed i draws moved : ℕ) → draws ≡ state seed (3 * i) → moved ≡ next (next (next draws)) → moved ≡ state seed (3 * (i + 1))
three_draws seed i draws moved at is = is ∙ third_draw seed i draws at ∙ ap (state seed) (omega arith)

-- ---- lines

two_more : (lines : List (List ℕ)) (a b : List ℕ) → text_of (lines ++ a ∷ b ∷ []) ≡ text_of lines ++ a ++ 10 ∷ [] ++ b ++ 10 ∷ []
two_more lines a b = flat_map-append (λ line. line ++ 10 ∷ []) lines (a ∷ b ∷ []) ∙ simp (append_assoc, append-nil)

lines_next : (seed i : ℕ) → call_lines seed (i + 1)
    ≡ call_lines seed i ++ moment_line (i + 1) ∷ call_line (draw seed (3 * i + 1)) (draw seed (3 * i + 2)) (draw seed (3 * i + 3)) ∷ []
unfolding call_lines
lines_next seed i = ap (call_lines seed) (add-one i)

same_call : (a b c d e f : ℕ) → a ≡ d → b ≡ e → c ≡ f → call_line (drawn a) (drawn b) (drawn c) ≡ call_line (drawn d) (drawn e) (drawn f)
same_call a b c d e f first second third =
    ap (λ x. call_line (drawn x) (drawn b) (drawn c)) first ∙ ap (λ x. call_line (drawn d) (drawn x) (drawn c)) second ∙ ap (λ x. call_line (drawn d) (drawn e) (drawn x)) third

call_of_state : (seed i draws : ℕ) → draws ≡ state seed (3 * i)
    → call_line (drawn (next draws)) (drawn (next (next draws))) (drawn (next (next (next draws)))) ≡ call_line (draw seed (3 * i + 1)) (draw seed (3 * i + 2)) (draw seed (3 * i + 3))
call_of_state seed i draws at = same_call _ _ _ _ _ _ (first_draw seed i draws at) (second_draw seed i draws at) (third_draw seed i draws at)

put_lines : (lines : List (List ℕ)) (text more a b c : List ℕ) → text ≡ text_of lines → b ≡ c → more ≡ text ++ a ++ 10 ∷ [] ++ b ++ 10 ∷ [] → more ≡ text_of (lines ++ a ∷ c ∷ [])
put_lines lines text more a b c before same put = rw (two_more lines a c, ← same, ← before) put

-- the lines of one more call
pub one_more : (seed i number draws : ℕ) (text more : List ℕ) → draws ≡ state seed (3 * i) → text ≡ script_before seed i → number ≡ i
    → more ≡ text ++ moment_line (number + 1) ++ 10 ∷ [] ++ call_line (drawn (next draws)) (drawn (next (next draws))) (drawn (next (next (next draws)))) ++ 10 ∷ []
    → more ≡ script_before seed (i + 1)
one_more seed i number draws text more at before same put =
    put_lines (opening ++ call_lines seed i) text more (moment_line (number + 1)) _ _ before (call_of_state seed i draws at) put
    ∙ ap (λ n. text_of (opening ++ call_lines seed i ++ moment_line (n + 1) ∷ call_line (draw seed (3 * i + 1)) (draw seed (3 * i + 2)) (draw seed (3 * i + 3)) ∷ [])) same
    ∙ ap text_of (append_assoc opening _ _) ∙ ap (λ lines. text_of (opening ++ lines)) (sym (lines_next seed i))

-- no call yet
pub no_calls : (seed : ℕ) (text nothing front : List ℕ) → nothing ≡ []
    → front ≡ codes "ring 5 3\nlog a 1 1 w4h10\nlog b 2 2 w4h10\nlog c 3 3 w4h10\nview v a,b,c\nuse a v\nuse b v\nuse c v\n"
    → text ≡ nothing ++ front → text ≡ script_before seed 0
unfolding opening call_lines
no_calls seed text nothing front empty is put = put ∙ ap (λ n. n ++ front) empty ∙ is

-- the last line after all calls
pub all_calls : (seed i calls : ℕ) (text last whole : List ℕ) → text ≡ script_before seed i → i ≡ calls → last ≡ codes "end\n" → whole ≡ text ++ last → whole ≡ script_of seed calls
all_calls seed i calls text last whole before done is put =
    put ∙ ap (λ l. text ++ l) is ∙ ap (λ t. t ++ codes "end\n") (before ∙ ap (script_before seed) done)
    ∙ sym (flat_map-append (λ line. line ++ 10 ∷ []) (opening ++ call_lines seed calls) (codes "end" ∷ []))
