-- What was read and taken: lines that are obeyed one after the other, and the part of a line after them.
use Rattle.std.proofs.Common.{◌≡◌, ℕ, ◌+◌, ◌≤◌, ◌^◌, List, [], ◌∷◌, ◌++◌, length, Option, Some, None, refl, sym, ap, ◌∙◌, append_assoc, arith, length-append}
use Rattle.std.specs.List.{AllByRecursion}
use Rattle.std.proofs.lemmas.List.{append-nil, take_all}
use Rattle.std.proofs.lemmas.Grind.{flat_map-append}
use Rattle.ivy_io.specs.Known.{onto}
use Rattle.script_driver.specs.declared.script.Script.{Script}
use Rattle.script_driver.specs.Lines.{HasNoNewline, with_newlines}
use Rattle.script_driver.specs.Run.{line_limit, shown, Outcome, Goes, Ran, Obeys}
use Rattle.script_driver.specs.Script.{ahead, Takes, Waits}
use Rattle.script_driver.specs.Told.{ObeysLines, Advances, TellsOn, StopsShort}

onto-nil : (known : Option (List ℕ)) → onto [] known ≡ known
onto-nil None = refl
onto-nil (Some bytes) = refl

onto-onto : (a b : List ℕ) (known : Option (List ℕ)) → onto a (onto b known) ≡ onto (a ++ b) known
onto-onto a b None = refl
onto-onto a b (Some bytes) = ap (λ (l : List ℕ). Some l) (sym (append_assoc a b bytes))

pub takes_nothing : (script : Script) (left : Option (List ℕ)) → Takes [] script script left left
takes_nothing script left = record { same = sym (onto-nil (onto (ahead script) left)); most = omega arith; budget = omega arith }

pub takes_more : (first second : List ℕ) (old mid new : Script) (before between left : Option (List ℕ)) → Takes first old mid before between → Takes second mid new between left → Takes (first ++ second) old new before left
takes_more first second old mid new before between left a b = record {
  same = a.same ∙ ap (onto first) b.same ∙ onto-onto first second (onto (ahead new) left);
  most = omega (arith, a.most, b.most, length-append first second);
  budget = omega (arith, a.budget, b.budget);
}

module _ {World : Type 0} (step : World → List ℕ → Outcome World → Type 0) where
  obeys_nothing : (world : World) → Obeys step world [] [] world
  unfolding Obeys
  obeys_nothing world = (refl, refl)

  obeys_one : (world next : World) (line output : List ℕ) → step world (shown line) (Goes next output) → Obeys step world (line ∷ []) output next
  unfolding Obeys
  obeys_one world next line output does = (next, output, [], does, (refl, refl), sym (append-nil output))

  obeys_more : (first mid last : World) (lines others : List (List ℕ)) (text more : List ℕ) → Obeys step first lines text mid → Obeys step mid others more last → Obeys step first (lines ++ others) (text ++ more) last
  unfolding Obeys
  obeys_more first mid last [] others text more a b = rw (a.0, ← a.1) b
  obeys_more first mid last (line ∷ lines) others text more a b = (
    a.0,
    a.1,
    a.2 ++ more,
    a.3,
    obeys_more a.0 mid last lines others a.2 more a.4 b,
    ap (λ (t : List ℕ). t ++ more) a.5 ∙ append_assoc a.1 a.2 more,
  )

  all_of_both : {A : Type 0} (P : A → Type 0) (xs ys : List A) → AllByRecursion P xs → AllByRecursion P ys → AllByRecursion P (xs ++ ys)
  all_of_both P [] ys a b = b
  all_of_both P (x ∷ xs) ys a b = (a.0, all_of_both P xs ys a.1 b)

  -- nothing was taken
  pub no_line : (world : World) (script : Script) (left : Option (List ℕ)) → ObeysLines step world world [] script script left left
  no_line world script left = record { lines = []; whole = tt; obeyed = obeys_nothing world; takes = takes_nothing script left }

  -- a line that isn't too long was taken
  pub one_line : (world next : World) (line output : List ℕ) → length line ≤ line_limit → (old new : Script) (before left : Option (List ℕ)) → step world line (Goes next output)
      → Takes (line ++ 10 ∷ []) old new before left × HasNoNewline line → ObeysLines step world next output old new before left
  one_line world next line output few old new before left does took =
      let all : shown line ≡ line = take_all (line_limit + 1) line (omega (arith, few)) in
      record {
        lines = line ∷ [];
        whole = (took.1, tt);
        obeyed = obeys_one world next line output (rw all does);
        takes = rw append-nil took.0;
      }

  pub lines_more : (first mid last : World) (text more : List ℕ) (old script new : Script) (before between left : Option (List ℕ)) → ObeysLines step first mid text old script before between → ObeysLines step mid last more script new between left
      → ObeysLines step first last (text ++ more) old new before left
  lines_more first mid last text more old script new before between left a b = record {
    lines = a.lines ++ b.lines;
    whole = all_of_both HasNoNewline a.lines b.lines a.whole b.whole;
    obeyed = obeys_more first mid last a.lines b.lines text more a.obeyed b.obeyed;
    takes = rw (flat_map-append (λ (line : List ℕ). line ++ 10 ∷ []) a.lines b.lines) (takes_more (with_newlines a.lines) (with_newlines b.lines) old script new before between left a.takes b.takes);
  }

  -- a reader waits after those lines
  pub stops_short : (first : World) (IsLast : World → Type 0) (from : World → Ran → Type 0) (old script new : Script) (before between left : Option (List ℕ)) (start : Ran → Type 0) (held holds next : Option (List ℕ)) → ahead old ≡ [] → old.budget ≡ 2 ^ 40
      → TellsOn (Advances step first IsLast from old script before between) start held holds → Waits script new between left → next ≡ holds → StopsShort step first before left held next
  stops_short first IsLast from old script new before between left start held holds next nothing budget a waits same =
      let lines = a.1.obeyed (omega (arith, waits.more, waits.takes.budget)) in
      let all = takes_more (with_newlines lines.lines) [] old script new before between left lines.takes waits.takes in
      record {
        lines = lines.lines;
        partial = ahead new;
        read = sym (onto-nil before) ∙ rw (nothing, append-nil) at all.same ∙ onto-onto (with_newlines lines.lines) (ahead new) left;
        few = omega (arith, all.most, waits.more, budget, ap length nothing, length-append (with_newlines lines.lines) (ahead new), length-append (with_newlines lines.lines) []);
        whole = lines.whole;
        no_newline = waits.partial;
        short = waits.short;
        told = a.0;
        last = a.1.last;
        obeyed = lines.obeyed;
        sink = same ∙ a.2;
      }
