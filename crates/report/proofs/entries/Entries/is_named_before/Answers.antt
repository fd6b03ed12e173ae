use Prim.Native.Nat.{ℕ}
use native.Mathlib.Omega.{arith}
use mathlib.Core.Path.{◌≡◌, sym, ap, ◌∙◌}
use Rattle.patterns.specs.Names.{same_name}
use Rattle.meaning.specs.Lists.{any}
use Rattle.report.proofs.Places.{function_of}
use Rattle.report.proofs.Uncharacterised.{names_to, none_before, found_before, none_yet}
use Rattle.report.proofs.entries.Entries.is_named_before.Goals as goal

pub loop-g-init : goal.loop-g-init
loop-g-init c = λ w x d e. none_before (λ n. same_name n x.name) c.args.root w

pub is_namesake-requires : goal.is_namesake-requires
is_namesake-requires c = (c.requires.0, omega (arith, c.loop-g-test.true, c.requires.1), c.requires.1)

pub returns-then-is_namesake : goal.returns-then-is_namesake
returns-then-is_namesake c = λ w x d e.
    let y = function_of d c.loop-g.g (omega (arith, c.loop-g-test.true, c.requires.1)) in
    found_before (λ n. same_name n x.name) c.args.root w c.loop-g.g c.args.f y.element y.is c.loop-g-test.true (sym (c.is_namesake.ensures w y.element x d y.is e) ∙ c.if-is_namesake.true)

pub loop-g-preserved : goal.loop-g-preserved
loop-g-preserved c =
    λ w x d e.
    let y = function_of d c.loop-g.g (omega (arith, c.loop-g-test.true, c.requires.1)) in
    none_yet (λ n. same_name n x.name) c.args.root w c.loop-g.g y.element y.is (c.loop-g.invariant w x d e) (sym (c.is_namesake.ensures w y.element x d y.is e) ∙ c.if-is_namesake.false)

pub returns : goal.returns
returns c = λ w x d e.
    let q : c.loop-g.g ≡ c.args.f = omega (arith, c.loop-g-test.false) in
    sym (c.loop-g.invariant w x d e) ∙ ap (λ (n : ℕ). any (λ m. same_name m x.name) (names_to c.args.root w n)) q
