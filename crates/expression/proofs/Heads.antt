-- Two heads in an image by their marks: which of them is written, free.
use Prim.Native.Nat.{ℕ, ◌+◌, ◌<◌, ◌≤◌}
use native.Mathlib.Omega.{arith}
use mathlib.Core.Path.{◌≡◌, refl, sym, ap, ap₂, ◌∙◌, subst}
use mathlib.Core.Bool.{Bool, true, false}
use mathlib.Core.List.{List, [], ◌∷◌, ◌++◌}
use lib.ListN.{length, get_or, length-append}
use Rattle.program.specs.Syntax.{character, identifier, number, Terms}
use Rattle.program.specs.Bytes.{put32, put_span}
use Rattle.program.specs.Encode.{put_symbol}
use Rattle.program.specs.Limits.{Mode}
use Rattle.image.specs.Parts.{TermsAt}
use Rattle.patterns.specs.Expression.{Expression, void, atom, group}
use Rattle.patterns.specs.Marks.{zero_span, put_expression}
use Rattle.patterns.specs.Search.{One, View, start}
use Rattle.patterns.specs.Meet.{letter, free_one, meet_of_terms, meet_sequence}
use Rattle.patterns.proofs.Marks.{group-bytes}
use Rattle.patterns.proofs.Plain.{PlainOne, PlainView, valid-plain, view-plain}
use Rattle.rows.specs.Parts.{HeadAt}
use Rattle.rows.proofs.Readings.{head_mark, view_mark, pattern-mark, head_at, is-absorbing}
use Rattle.rows.proofs.Heads.{BracketAt, LiteralAt, bracket-at, literal-at}
use Rattle.expression.specs.Free.{free_view, free_bytes, first_bytes}
use Rattle.expression.specs.Walk.{meet_bytes, head_bytes}

bytes : Expression → List ℕ
bytes v = put_expression v []

-- ---- one head

module _ {s : List ℕ} (x : HeadAt s) where
  head-mark : get_or s 0 0 ≡ head_mark x.head
  head-mark = pattern-mark x.pattern ∙ ap view_mark x.is

  head_plain : PlainOne x.head
  head_plain = (subst PlainView x.is (view-plain x.pattern.terms (valid-plain x.pattern.terms 0 x.pattern.valid))).0

  -- The first term of the pattern is the head.
  pub head_first : first_bytes x.pattern.terms ≡ put_expression (free_one x.head) []
  unfolding free_view
  head_first = ap (λ (v : View). put_expression (free_view v) []) x.is

  -- A head is not at its close.
  pub head_open : get_or s 0 0 ≡ 15 → ⊥
  head_open e = not-close x.head (head_plain) (sym head-mark ∙ e)
    where
      not-close : (y : One) → PlainOne y → head_mark y ≡ 15 → ⊥
      not-close (One.literal (character c)) p m = omega arith
      not-close (One.literal (identifier n)) p m = omega arith
      not-close (One.literal (number n)) p m = omega arith
      not-close One.any-symbol p m = omega arith
      not-close One.any_term p m = omega arith
      not-close One.no-pattern p m = absurd p
      not-close (One.brackets i) p m = omega arith

free-variable : (y : One) → PlainOne y → 3 < head_mark y → (head_mark y ≡ 7 → ⊥) → free_one y ≡ atom letter void
unfolding free_one
free-variable (One.literal (character c)) p l m = absurd (omega arith)
free-variable (One.literal (identifier n)) p l m = absurd (omega arith)
free-variable (One.literal (number n)) p l m = absurd (omega arith)
free-variable One.any-symbol p l m = refl
free-variable One.any_term p l m = refl
free-variable One.no-pattern p l m = absurd p
free-variable (One.brackets i) p l m = absurd (m refl)

-- The first term of a pattern, by its mark.
module _ {s : List ℕ} (t : TermsAt Mode.pattern s) where
  pub first-absorbing : get_or s 0 0 ≡ 6 → first_bytes t.terms ≡ []
  unfolding free_view put_expression
  first-absorbing m = ap (λ (v : View). put_expression (free_view v) []) (is-absorbing t m)

  module _ (n : get_or s 0 0 ≡ 15 → ⊥) where
    pub six : {m : ℕ} → get_or s 0 0 ≡ m → (m ≡ 6 → ⊥) → get_or s 0 0 ≡ 6 → ⊥
    six e k h = k (sym e ∙ h)

    abbrev pub first-bracket : (m : get_or s 0 0 ≡ 7) → BracketAt (head_at t n (six m (λ e. omega arith)))
    first-bracket m = bracket-at (head_at t n (six m (λ e. omega arith))) m

    pub first_bracket_bytes : (m : get_or s 0 0 ≡ 7) → (7 ∷ put_span zero_span []) ++ (free_bytes (first-bracket m).inner.terms ++ (15 ∷ [])) ≡ first_bytes t.terms
    unfolding free_one
    first_bracket_bytes m =
        let x = head_at t n (six m (λ e. omega arith)) in
        sym (head_first x ∙ ap (λ (o : One). put_expression (free_one o) []) (first-bracket m).is ∙ group-bytes _)

    -- Nine bytes, those inside and the close.
    pub first_bracket_long : (m : get_or s 0 0 ≡ 7) → 10 + length (free_bytes (first-bracket m).inner.terms) ≡ length (first_bytes t.terms)
    unfolding put_span put32
    first_bracket_long m = omega (arith, ap length (first_bracket_bytes m), length-append (free_bytes (first-bracket m).inner.terms) (15 ∷ []))

    pub low : get_or s 0 0 < 4 → get_or s 0 0 ≡ 6 → ⊥
    low l e = omega (arith, l, e)

    abbrev pub first-literal : (l : get_or s 0 0 < 4) → LiteralAt (head_at t n (low l))
    first-literal l = literal-at (head_at t n (low l)) (omega (arith, l))

    pub first_literal_bytes : (l : get_or s 0 0 < 4) → put_symbol zero_span (first-literal l).symbol.symbol [] ≡ first_bytes t.terms
    unfolding free_one put_expression
    first_literal_bytes l =
        let x = head_at t n (low l) in
        sym (head_first x ∙ ap (λ (o : One). put_expression (free_one o) []) (first-literal l).is)

    pub first_variable_bytes : (get_or s 0 0 ≡ 7 → ⊥) → (get_or s 0 0 < 4 → ⊥) → (get_or s 0 0 ≡ 6 → ⊥) → put_symbol zero_span letter [] ≡ first_bytes t.terms
    unfolding put_expression
    first_variable_bytes k l m =
        let x = head_at t n m in
        sym (head_first x ∙ ap (λ (v : Expression). put_expression v []) (free-variable x.head (head_plain x) (omega (arith, head-mark x, l)) (λ e. k (head-mark x ∙ e))))

-- ---- two heads

both-bracket : (c : Bool) (i j : Terms) → meet_of_terms meet_sequence c (One.brackets i) (One.brackets j) ≡ group (meet_sequence c start i j) void
unfolding meet_of_terms
both-bracket c i j = refl

bracket_over : (c : Bool) (i : Terms) (y : One) → head_mark y ≡ 5 → meet_of_terms meet_sequence c (One.brackets i) y ≡ free_one (One.brackets i)
unfolding meet_of_terms free_one
bracket_over c i (One.literal (character a)) m = absurd (omega arith)
bracket_over c i (One.literal (identifier n)) m = absurd (omega arith)
bracket_over c i (One.literal (number n)) m = absurd (omega arith)
bracket_over c i One.any-symbol m = absurd (omega arith)
bracket_over c i One.any_term m = refl
bracket_over c i One.no-pattern m = absurd (omega arith)
bracket_over c i (One.brackets j) m = absurd (omega arith)

bracket-apart : (c : Bool) (i : Terms) (y : One) → (head_mark y ≡ 5 → ⊥) → (head_mark y ≡ 7 → ⊥) → meet_of_terms meet_sequence c (One.brackets i) y ≡ void
unfolding meet_of_terms
bracket-apart c i (One.literal x) m n = refl
bracket-apart c i One.any-symbol m n = refl
bracket-apart c i One.any_term m n = absurd (m refl)
bracket-apart c i One.no-pattern m n = refl
bracket-apart c i (One.brackets j) m n = absurd (n refl)

variable-first : (c : Bool) (x y : One) → PlainOne x → 3 < head_mark x → (head_mark x ≡ 7 → ⊥) → meet_of_terms meet_sequence c x y ≡ free_one y
unfolding meet_of_terms
variable-first c (One.literal (character a)) y p l m = absurd (omega arith)
variable-first c (One.literal (identifier n)) y p l m = absurd (omega arith)
variable-first c (One.literal (number n)) y p l m = absurd (omega arith)
variable-first c One.any-symbol y p l m = refl
variable-first c One.any_term y p l m = refl
variable-first c One.no-pattern y p l m = absurd p
variable-first c (One.brackets i) y p l m = absurd (m refl)

literal-apart : (c : Bool) (x y : One) → head_mark x ≤ 3 → head_mark y ≡ 7 → meet_of_terms meet_sequence c x y ≡ void
unfolding meet_of_terms
literal-apart c (One.literal x) (One.literal (character a)) l m = absurd (omega arith)
literal-apart c (One.literal x) (One.literal (identifier n)) l m = absurd (omega arith)
literal-apart c (One.literal x) (One.literal (number n)) l m = absurd (omega arith)
literal-apart c (One.literal x) One.any-symbol l m = absurd (omega arith)
literal-apart c (One.literal x) One.any_term l m = absurd (omega arith)
literal-apart c (One.literal x) One.no-pattern l m = absurd (omega arith)
literal-apart c (One.literal x) (One.brackets j) l m = refl
literal-apart c One.any-symbol y l m = absurd (omega arith)
literal-apart c One.any_term y l m = absurd (omega arith)
literal-apart c One.no-pattern y l m = absurd (omega arith)
literal-apart c (One.brackets i) y l m = absurd (omega arith)

literal-second : (x y : One) → head_mark x ≤ 3 → head_mark y < 4 → meet_of_terms meet_sequence true x y ≡ free_one y
unfolding meet_of_terms free_one
literal-second (One.literal x) (One.literal y) l m = refl
literal-second (One.literal x) One.any-symbol l m = absurd (omega arith)
literal-second (One.literal x) One.any_term l m = absurd (omega arith)
literal-second (One.literal x) One.no-pattern l m = absurd (omega arith)
literal-second (One.literal x) (One.brackets j) l m = absurd (omega arith)
literal-second One.any-symbol y l m = absurd (omega arith)
literal-second One.any_term y l m = absurd (omega arith)
literal-second One.no-pattern y l m = absurd (omega arith)
literal-second (One.brackets i) y l m = absurd (omega arith)

-- A literal of the first pattern, or against a variable.
literal-first : (c : Bool) (x y : One) → PlainOne y → head_mark x ≤ 3 → (head_mark y ≡ 7 → ⊥) → (c ≡ true → head_mark y < 4 → ⊥) → meet_of_terms meet_sequence c x y ≡ free_one x
unfolding meet_of_terms free_one
literal-first true (One.literal x) (One.literal (character a)) p l m n = absurd (n refl (omega arith))
literal-first true (One.literal x) (One.literal (identifier a)) p l m n = absurd (n refl (omega arith))
literal-first true (One.literal x) (One.literal (number a)) p l m n = absurd (n refl (omega arith))
literal-first false (One.literal x) (One.literal y) p l m n = refl
literal-first c (One.literal x) One.any-symbol p l m n = refl
literal-first c (One.literal x) One.any_term p l m n = refl
literal-first c (One.literal x) One.no-pattern p l m n = absurd p
literal-first c (One.literal x) (One.brackets j) p l m n = absurd (m refl)
literal-first c One.any-symbol y p l m n = absurd (omega arith)
literal-first c One.any_term y p l m n = absurd (omega arith)
literal-first c One.no-pattern y p l m n = absurd (omega arith)
literal-first c (One.brackets i) y p l m n = absurd (omega arith)

-- What is written of the heads x and y.
module _ {s t : List ℕ} (c : Bool) (x : HeadAt s) (y : HeadAt t) where
  abbrev written : List ℕ
  written = head_bytes c x.head y.head

  by : {v : Expression} → meet_of_terms meet_sequence c x.head y.head ≡ v → written ≡ put_expression v []
  by e = ap (λ (v : Expression). put_expression v []) e

  -- Nothing, the first or the second.
  nothing_of : meet_of_terms meet_sequence c x.head y.head ≡ void → [] ≡ written
  unfolding put_expression
  nothing_of e = sym (by e)

  first_of : meet_of_terms meet_sequence c x.head y.head ≡ free_one x.head → first_bytes x.pattern.terms ≡ written
  first_of e = head_first x ∙ sym (by e)

  second_of : meet_of_terms meet_sequence c x.head y.head ≡ free_one y.head → first_bytes y.pattern.terms ≡ written
  second_of e = head_first y ∙ sym (by e)

  pub both-brackets : (k : BracketAt x) (l : BracketAt y) → (7 ∷ put_span zero_span []) ++ (meet_bytes c start k.inner.terms l.inner.terms ++ (15 ∷ [])) ≡ written
  both-brackets k l =
      sym (by (ap₂ (meet_of_terms meet_sequence c) k.is l.is ∙ both-bracket c k.inner.terms l.inner.terms) ∙ group-bytes _)

  pub both_brackets_long : (k : BracketAt x) (l : BracketAt y) → 10 + length (meet_bytes c start k.inner.terms l.inner.terms) ≡ length written
  unfolding put_span put32
  both_brackets_long k l = omega (arith, ap length (both-brackets k l), length-append (meet_bytes c start k.inner.terms l.inner.terms) (15 ∷ []))

  module _ (m : get_or s 0 0 ≡ 7) where
    first-is : meet_of_terms meet_sequence c x.head y.head ≡ meet_of_terms meet_sequence c (One.brackets (bracket-at x m).inner.terms) y.head
    first-is = ap (λ (o : One). meet_of_terms meet_sequence c o y.head) (bracket-at x m).is

    pub bracket_over_term : get_or t 0 0 ≡ 5 → first_bytes x.pattern.terms ≡ written
    bracket_over_term n = first_of (first-is ∙ bracket_over c _ y.head (sym (head-mark y) ∙ n) ∙ ap free_one (sym (bracket-at x m).is))

    pub bracket_over_none : (get_or t 0 0 ≡ 5 → ⊥) → (get_or t 0 0 ≡ 7 → ⊥) → [] ≡ written
    bracket_over_none n k = nothing_of (first-is ∙ bracket-apart c _ y.head (λ e. n (head-mark y ∙ e)) (λ e. k (head-mark y ∙ e)))

  module _ (m : get_or s 0 0 ≡ 7 → ⊥) where
    pub variable_over : 3 < get_or s 0 0 → first_bytes y.pattern.terms ≡ written
    variable_over l = second_of (variable-first c x.head y.head (head_plain x) (omega (arith, head-mark x, l)) (λ e. m (head-mark x ∙ e)))

  module _ (l : 3 < get_or s 0 0 → ⊥) where
    at_most : head_mark x.head ≤ 3
    at_most = omega (arith, head-mark x, l)

    pub literal_against_bracket : get_or t 0 0 ≡ 7 → [] ≡ written
    literal_against_bracket n = nothing_of (literal-apart c x.head y.head at_most (sym (head-mark y) ∙ n))

    pub second-literal : c ≡ true → get_or t 0 0 < 4 → first_bytes y.pattern.terms ≡ written
    second-literal e n =
        second_of (ap (λ (d : Bool). meet_of_terms meet_sequence d x.head y.head) e ∙ literal-second x.head y.head at_most (omega (arith, head-mark y, n)))

    pub first_literal_only : (get_or t 0 0 ≡ 7 → ⊥) → (c ≡ true → get_or t 0 0 < 4 → ⊥) → first_bytes x.pattern.terms ≡ written
    first_literal_only n k =
        first_of (literal-first c x.head y.head (head_plain y) at_most (λ e. n (head-mark y ∙ e)) (λ d z. k d (omega (arith, head-mark y, z))))
