-- Two tokens at the end of a walk: no variables, or two variables and their names.
use Prim.Native.Nat.{ℕ, ◌≤◌, ◌<◌}
use native.Mathlib.Omega.{arith}
use mathlib.Core.Path.{◌≡◌, sym, ap, ◌∙◌}
use mathlib.Core.Bool.{true}
use mathlib.Core.List.{List, [], ◌∷◌}
use lib.ListN.{length, get_or, length-drop}
use Rattle.program.specs.Syntax.{Name}
use Rattle.program.specs.Limits.{Mode}
use Rattle.image.specs.Parts.{TermsAt}
use Rattle.patterns.specs.Names.{caseless}
use Rattle.symbols.proofs.Parts.{part_rest}
use Rattle.configuration.specs.Lockstep.{first_name, Pair, first_both, alike, names_met, WalkedTo}
use Rattle.configuration.proofs.Tokens.{pattern-room, names-none, variable-here}
use Rattle.configuration.proofs.Scan.{part, to_part}

alike-none : (l k : List Name) (ps : List Pair) → l ≡ [] → alike l k ps ≡ true
unfolding alike
alike-none l k ps e = ap (λ (z : List Name). alike z k ps) e

alike-names : (l k : List Name) (n m : Name) (ps : List Pair) → l ≡ n ∷ [] → k ≡ m ∷ [] → alike l k ps ≡ first_both n m ps
unfolding alike
alike-names l k n m ps e f = ap (λ (z : List Name). alike z k ps) e ∙ ap (λ (z : List Name). alike (n ∷ []) z ps) f

module _ (a b : List ℕ) (i j : ℕ) (w : WalkedTo a b i j) where
  abbrev pub one_part : TermsAt Mode.pattern (part a i)
  one_part = to_part a i w.one

  abbrev pub two_part : TermsAt Mode.pattern (part b j)
  two_part = to_part b j w.two

  pub walked-within : (i < length a) × (j < length b)
  walked-within = (omega (arith, pattern-room w.one, length-drop i a), omega (arith, pattern-room w.two, length-drop j b))

  pub marks-alike : get_or (part a i) 0 0 ≡ get_or (part b j) 0 0
  marks-alike = ap (λ (l : List ℕ). get_or l 0 0) (part_rest a i) ∙ (w.marks ∙ sym (ap (λ (l : List ℕ). get_or l 0 0) (part_rest b j)))

  pub no_variables : (3 < get_or (part a i) 0 0 → get_or (part a i) 0 0 ≤ 6 → ⊥) → alike (first_name w.one.terms) (first_name w.two.terms) (names_met w.walked.steps) ≡ true
  no_variables h = alike-none (first_name w.one.terms) (first_name w.two.terms) (names_met w.walked.steps) (names-none one_part h)

  module _ (l : 3 < get_or (part a i) 0 0) (u : get_or (part a i) 0 0 ≤ 6) where
    pub second-low : 3 < get_or (part b j) 0 0
    second-low = omega (arith, l, marks-alike)

    pub second-high : get_or (part b j) 0 0 ≤ 6
    second-high = omega (arith, u, marks-alike)

    pub two_variables : (n m : Name) → n ≡ (variable-here one_part l u).name → m ≡ (variable-here two_part second-low second-high).name
        → first_both (caseless n) (caseless m) (names_met w.walked.steps) ≡ alike (first_name w.one.terms) (first_name w.two.terms) (names_met w.walked.steps)
    two_variables n m e f =
        sym (alike-names (first_name w.one.terms) (first_name w.two.terms) (caseless n) (caseless m) (names_met w.walked.steps) ((variable-here one_part l u).first ∙ ap (λ (z : Name). caseless z ∷ []) (sym e)) ((variable-here two_part second-low second-high).first ∙ ap (λ (z : Name). caseless z ∷ []) (sym f)))
