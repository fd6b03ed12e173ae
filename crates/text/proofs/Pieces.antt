-- The report's last line by its numbers, and the report in the pieces in which it is emitted.
use Prim.Native.Nat.{ℕ, ◌+◌, ◌<◌}
use native.Mathlib.Omega.{arith}
use mathlib.Core.Path.{◌≡◌, refl, sym, ap, ap₂, ◌∙◌}
use mathlib.Core.Bool.{Bool, false, not, cond}
use mathlib.Core.List.{[], ◌∷◌, ◌++◌, append_assoc, append-nil, flatten, flat_map}
use lib.Dec.{eqb}
use lib.ListN.{length}
use borrow.Author.Tests.{eq-eqb, ne_eqb}
use Rattle.program.specs.Syntax.{Program}
use Rattle.program.specs.Encode.{own_sentence_count}
use Rattle.patterns.specs.Ascii.{ascii}
use Rattle.meaning.specs.Text.{Text}
use Rattle.meaning.specs.CleanReport.{CleanReport}
use Rattle.told.specs.ToldReport.{unchanged_report}
use Rattle.meaning.specs.Decimal.{decimal}
use Rattle.meaning.specs.Report.{graph_line, removed_line, undecided_line, uncovered_line, uncharacterised_line, dispatch_line, last_lines, format_clean_report}
use Rattle.text.specs.Counts.{counted, count_line, top_text, unchanged_text, clean_text, untested_text, graph_text}

-- ---- the verdict by its numbers

pub graph_empty : (f u v w : ℕ) → f ≡ 0 → ascii "graph: empty\n" ≡ graph_text f u v w
unfolding graph_text
graph_empty f u v w e = sym (ap (λ (t : Bool). cond t (ascii "graph: empty\n") (cond (not (eqb w 0)) (untested_text u v w) (cond (eqb (u + v) 0) (ascii "graph: perfect\n") (clean_text u v)))) (eq-eqb f 0 e))

-- Of a program with functions.
graph_some : (f u v w : ℕ) → (f ≡ 0 → ⊥) → cond (not (eqb w 0)) (untested_text u v w) (cond (eqb (u + v) 0) (ascii "graph: perfect\n") (clean_text u v)) ≡ graph_text f u v w
unfolding graph_text
graph_some f u v w d = sym (ap (λ (t : Bool). cond t (ascii "graph: empty\n") (cond (not (eqb w 0)) (untested_text u v w) (cond (eqb (u + v) 0) (ascii "graph: perfect\n") (clean_text u v)))) (ne_eqb f 0 d))

pub graph_untested : (f u v w : ℕ) → (f ≡ 0 → ⊥) → 0 < w → untested_text u v w ≡ graph_text f u v w
graph_untested f u v w d l = sym (ap (λ (t : Bool). cond (not t) (untested_text u v w) (cond (eqb (u + v) 0) (ascii "graph: perfect\n") (clean_text u v))) (ne_eqb w 0 (λ e. absurd (omega (arith, l, e))))) ∙ graph_some f u v w d

-- And with all of them characterised.
graph_tested : (f u v w : ℕ) → (f ≡ 0 → ⊥) → w ≡ 0 → cond (eqb (u + v) 0) (ascii "graph: perfect\n") (clean_text u v) ≡ graph_text f u v w
graph_tested f u v w d e = sym (ap (λ (t : Bool). cond (not t) (untested_text u v w) (cond (eqb (u + v) 0) (ascii "graph: perfect\n") (clean_text u v))) (eq-eqb w 0 e)) ∙ graph_some f u v w d

pub graph_perfect : (f u v w : ℕ) → (f ≡ 0 → ⊥) → w ≡ 0 → u + v ≡ 0 → ascii "graph: perfect\n" ≡ graph_text f u v w
graph_perfect f u v w d e n = sym (ap (λ (t : Bool). cond t (ascii "graph: perfect\n") (clean_text u v)) (eq-eqb (u + v) 0 n)) ∙ graph_tested f u v w d e

pub graph_clean : (f u v w : ℕ) → (f ≡ 0 → ⊥) → w ≡ 0 → (u + v ≡ 0 → ⊥) → clean_text u v ≡ graph_text f u v w
graph_clean f u v w d e n = sym (ap (λ (t : Bool). cond t (ascii "graph: perfect\n") (clean_text u v)) (ne_eqb (u + v) 0 n)) ∙ graph_tested f u v w d e

clean_text_lem : (u v : ℕ) → clean_text u v ≡ flatten (ascii "graph: clean (undecided " ∷ decimal u ∷ ascii ", uncovered " ∷ decimal v ∷ ascii ")\n" ∷ [])
unfolding clean_text flatten counted
clean_text_lem u v = simp (append_assoc, append-nil) refl

untested_text_lem : (u v w : ℕ) → untested_text u v w ≡ flatten (ascii "graph: clean (undecided " ∷ decimal u ∷ ascii ", uncovered " ∷ decimal v ∷ ascii ", uncharacterised " ∷ decimal w ∷ ascii ")\n" ∷ [])
unfolding untested_text flatten counted
untested_text_lem u v w = simp (append_assoc, append-nil) refl

-- It is the report's last line, if there is no dynamic dispatch.
pub graph_told : (r : CleanReport) → r.dynamic_dispatch ≡ false → graph_text r.functions (length r.undecided) (length r.uncovered) (length r.uncharacterised) ≡ graph_line r
unfolding graph_text graph_line
graph_told r e =
    let u = length r.undecided in
    let v = length r.uncovered in
    let w = length r.uncharacterised in
    (λ i. cond (eqb r.functions 0) (ascii "graph: empty\n") (cond (not (eqb w 0)) (untested_text_lem u v w i) (cond (eqb (u + v) 0) (ascii "graph: perfect\n") (clean_text_lem u v i))))
    ∙ by r.dynamic_dispatch (ascii "graph: unknown\n") _ e
  where
    by : (t : Bool) (a b : Text) → t ≡ false → b ≡ cond t a b
    by t a b d = sym (ap (λ (x : Bool). cond x a b) d)

-- ---- the report in pieces

regroup : (a b c d e f g h i j k r l m n u o p q v z : Text)
    → flatten (a ∷ b ∷ c ∷ d ∷ e ∷ f ∷ g ∷ h ∷ i ∷ j ∷ k ∷ r ∷ l ∷ m ∷ n ∷ u ∷ o ∷ p ∷ q ∷ v ∷ z ∷ []) ≡ ((a ++ b) ++ ((c ++ d) ++ ((e ++ f) ++ ((g ++ h) ++ ((i ++ j) ++ k))))) ++ (r ++ (((l ++ m) ++ n) ++ (u ++ (((o ++ p) ++ q) ++ (v ++ z)))))
unfolding flatten
regroup a b c d e f g h i j k r l m n u o p q v z = simp (append_assoc, append-nil) refl

pub report_pieces : (r : CleanReport)
    → top_text r.functions r.sentences_before r.sentences_after r.rounds (length r.removed)
    ++ (flat_map removed_line r.removed ++ (count_line (ascii "undecided: ") (length r.undecided) ++ (flat_map undecided_line r.undecided ++ (count_line (ascii "uncovered: ") (length r.uncovered) ++ (flat_map uncovered_line r.uncovered ++ last_lines r)))))
    ≡ format_clean_report r
unfolding top_text count_line counted format_clean_report
report_pieces r = sym (regroup (ascii "functions: ") (decimal r.functions) (ascii "\nsentences: ") (decimal r.sentences_before) (ascii " -> ") (decimal r.sentences_after) (ascii "\nrounds: ") (decimal r.rounds) (ascii "\nremoved: ") (decimal (length r.removed)) (ascii "\n") (flat_map removed_line r.removed)
    (ascii "undecided: ") (decimal (length r.undecided)) (ascii "\n") (flat_map undecided_line r.undecided) (ascii "uncovered: ") (decimal (length r.uncovered)) (ascii "\n") (flat_map uncovered_line r.uncovered) (last_lines r))

-- The report of a program that is left alone.
pub unchanged_text_lem : (w : Program) (functions sentences : ℕ) → length w.functions ≡ functions → own_sentence_count w.functions ≡ sentences → unchanged_text functions sentences ≡ format_clean_report (unchanged_report w)
unfolding unchanged_text unchanged_report last_lines uncharacterised_line dispatch_line graph_line flat_map flatten ascii
unchanged_text_lem w functions sentences e f = sym (ap₂ (λ (n m : ℕ). unchanged_text n m) e f) ∙ report_pieces (unchanged_report w)
