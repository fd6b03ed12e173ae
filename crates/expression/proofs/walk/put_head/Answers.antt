-- `expression::walk::put_head` meets its contract: each answer follows the marks.
use native.Mathlib.Omega.{arith}
use mathlib.Core.Path.{◌≡◌, sym, ap, ◌∙◌}
use Prim.Native.Nat.{◌<◌}
use mathlib.Core.Bool.{true, true≢false}
use lib.ListN.{length, get_or}
use Rattle.rows.proofs.Heads.{head-room}
use Rattle.text.proofs.Written.{same, written-nothing}
use Rattle.expression.proofs.Heads.{head_open, bracket_over_term, bracket_over_none, variable_over, literal_against_bracket, second-literal, first_literal_only}
use Rattle.expression.proofs.walk.put_head.Goals as goal
use Rattle.expression.proofs.walk.put_head.Goals.{then-swapped+else-n-lt4, else-swapped}

pub bounds-s-0 : goal.bounds-s-0
bounds-s-0 c = omega (arith, head-room c.requires.0.first)

pub bounds-t-0 : goal.bounds-t-0
bounds-t-0 c = omega (arith, head-room c.requires.0.second)

pub put_free_term-requires : goal.put_free_term-requires
put_free_term-requires c =
    let p = c.requires.0 in
    (record { pattern = p.first.pattern; short = omega (arith, ap length (bracket_over_term c.args.swapped p.first p.second c.in-7.is c.if-n-eq5.true), p.short) }, head_open p.first)

pub returns-in-7 : goal.returns-in-7
returns-in-7 c = λ x y. same c.args.out.now (bracket_over_term c.args.swapped x y c.in-7.is c.if-n-eq5.true) (c.put_free_term.ensures x.pattern)

pub returns-else-n-eq5 : goal.returns-else-n-eq5
returns-else-n-eq5 c = λ x y. same c.args.out.now (bracket_over_none c.args.swapped x y c.in-7.is c.if-n-eq5.false (c.requires.1 c.in-7.is)) (written-nothing c.args.out.now)

pub put_free_term-requires-in-4-to-255 : goal.put_free_term-requires-in-4-to-255
put_free_term-requires-in-4-to-255 c =
    let p = c.requires.0 in
    (record { pattern = p.second.pattern; short = omega (arith, ap length (variable_over c.args.swapped p.first p.second (λ e. omega (arith, e)) (omega arith)), p.short) }, head_open p.second)

pub returns-in-4-to-255 : goal.returns-in-4-to-255
returns-in-4-to-255 c = λ x y. same c.args.out.now (variable_over c.args.swapped x y (λ e. omega (arith, e)) (omega arith)) (c.put_free_term-in-4-to-255.ensures y.pattern)

pub returns-in_default : goal.returns-in_default
returns-in_default c = λ x y. same c.args.out.now (literal_against_bracket c.args.swapped x y (λ l. omega (arith, l)) c.if-n-eq7.true) (written-nothing c.args.out.now)

pub put_free_term-requires-in_default-2 : goal.put_free_term-requires-in_default-2
put_free_term-requires-in_default-2 c =
    let p = c.requires.0 in
    (record { pattern = p.second.pattern; short = omega (arith, ap length (second-literal c.args.swapped p.first p.second (λ l. omega (arith, l)) c.if-swapped.true c.if-n-lt4.true), p.short) }, head_open p.second)

pub returns-in_default-2 : goal.returns-in_default-2
returns-in_default-2 c = λ x y. same c.args.out.now (second-literal c.args.swapped x y (λ l. omega (arith, l)) c.if-swapped.true c.if-n-lt4.true) (c.put_free_term-in_default-2.ensures y.pattern)

pub put_free_term-requires-in_default-3 : goal.put_free_term-requires-in_default-3
put_free_term-requires-in_default-3 c =
    let p = c.requires.0 in
    let n : c.args.swapped ≡ true → get_or c.args.t.now 0 0 < 4 → ⊥ = λ e l. elim c.if-swapped.branch [ then-swapped+else-n-lt4 w ↦ omega (arith, w.if-n-lt4.false, l) | else-swapped w ↦ true≢false (sym e ∙ w.if-swapped.false) ] in
    (record { pattern = p.first.pattern; short = omega (arith, ap length (first_literal_only c.args.swapped p.first p.second (λ l. omega (arith, l)) c.if-n-eq7.false n), p.short) }, head_open p.first)

pub returns-in_default-3 : goal.returns-in_default-3
returns-in_default-3 c =
    let n : c.args.swapped ≡ true → get_or c.args.t.now 0 0 < 4 → ⊥ = λ e l. elim c.if-swapped.branch [ then-swapped+else-n-lt4 w ↦ omega (arith, w.if-n-lt4.false, l) | else-swapped w ↦ true≢false (sym e ∙ w.if-swapped.false) ] in
    λ x y. same c.args.out.now (first_literal_only c.args.swapped x y (λ l. omega (arith, l)) c.if-n-eq7.false n) (c.put_free_term-in_default-3.ensures x.pattern)
