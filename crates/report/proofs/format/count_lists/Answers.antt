-- `report::format::count_lists` meets its contract. Assumes nothing.
use native.Mathlib.Omega.{arith}
use mathlib.Core.Path.{◌≡◌, ap, ◌∙◌}
use mathlib.Core.List.{List, flat_map}
use lib.ListN.{length, length-map}
use Rattle.program.specs.Syntax.{Name}
use Rattle.meaning.specs.Lists.{firsts}
use Rattle.cleaning.specs.Indexed.{fell_of}
use Rattle.told.specs.ToldReport.{fallen_from, same_fallen, removed_of}
use Rattle.meaning.specs.Report.{removed_line, undecided_line, uncovered_line, uncharacterised_line}
use Rattle.text.proofs.Written.{count}
use Rattle.report.proofs.Whole.{removed-few, undecided-few, uncovered-few, removed_now, undecided_now, uncovered_now, names-told, figures-told, kept, kept-anew, kept-then, kept-length}
use Rattle.report.proofs.format.count_lists.Goals as goal

pub shape_of-work : goal.shape_of-work
shape_of-work c = c.put_uncovered-bare.ensures.keeps.length

pub returns : goal.returns
returns c =
    let a = c.args in
    let fell = fell_of a.plan a.work.now in
    let w = c.requires.0.program in
    let x = c.requires.0.removing in
    let m₁ = c.measured-uncharacterised.ensures in
    let m₂ = c.measured-removed.ensures in
    let m₃ = c.measured-undecided.ensures in
    let m₄ = c.measured-uncovered.ensures in
    let e₁ = c.put_uncharacterised-names.ensures in
    let e₂ = c.put_removed-gone.ensures in
    let e₃ = c.put_undecided-open.ensures in
    let e₄ = c.put_uncovered-bare.ensures in
    let removed : c.measured-removed.result.at ≡ length (flat_map removed_line (removed_now w fell a.rounds)) = omega (arith, m₂.0, ap count (e₂.written w x), ap count m₁.2) in
    let undecided : c.measured-undecided.result.at ≡ length (flat_map undecided_line (undecided_now w fell a.rounds)) = omega (arith, m₃.0, ap count (e₃.told w x.readable), ap count m₂.2) in
    let uncovered : c.measured-uncovered.result.at ≡ length (flat_map uncovered_line (uncovered_now w fell a.rounds)) = omega (arith, m₄.0, ap count (e₄.told w x.readable), ap count m₃.2) in
    record {
      counted = λ z y e k. (
        figures-told z fell a.rounds y.below c.requires.1 _ e (m₂.1 ∙ e₂.counted z y) (m₃.1 ∙ e₃.counted z y.readable) (m₄.1 ∙ e₄.counted z y.readable)
            (omega (arith, m₂.0, ap count (e₂.written z y), ap count m₁.2)) (omega (arith, m₃.0, ap count (e₃.told z y.readable), ap count m₂.2)) (omega (arith, m₄.0, ap count (e₄.told z y.readable), ap count m₃.2))
            (m₁.1 ∙ (e₁.counted z y.readable ∙ ap length (names-told z fell a.rounds a.root k))) (omega (arith, m₁.0, ap count (e₁.written z y.readable), ap (λ (l : List Name). length (uncharacterised_line l)) (names-told z fell a.rounds a.root k))),
        kept-length (kept-then (kept _ _ (e₁.written z y.readable)) (kept-then (kept-anew _ m₁.2) (kept-then (kept _ _ (e₂.written z y)) (kept-then (kept-anew _ m₂.2) (kept-then (kept _ _ (e₃.told z y.readable)) (kept-then (kept-anew _ m₃.2) (kept-then (kept _ _ (e₄.told z y.readable)) (kept-anew _ m₄.2)))))))) search,
      );
      few = record {
        after = omega (arith, c.requires.2);
        removed = omega (arith, m₂.1, e₂.counted w x, length-map (firsts same_fallen (fallen_from w fell 1 a.rounds)) (removed_of w fell), removed-few (removed_now w fell a.rounds), removed, m₂.0, e₂.short, ap count m₁.2);
        undecided = omega (arith, m₃.1, e₃.counted w x.readable, undecided-few (undecided_now w fell a.rounds), undecided, m₃.0, e₃.short, ap count m₂.2);
        uncovered = omega (arith, m₄.1, e₄.counted w x.readable, uncovered-few (uncovered_now w fell a.rounds), uncovered, m₄.0, e₄.short, ap count m₃.2);
        uncharacterised = omega (arith, m₁.1, e₁.short.1);
        removed-length = omega (arith, m₂.0, e₂.short, ap count m₁.2);
        undecided-length = omega (arith, m₃.0, e₃.short, ap count m₂.2);
        uncovered-length = omega (arith, m₄.0, e₄.short, ap count m₃.2);
        uncharacterised-length = omega (arith, m₁.0, e₁.short.0);
      };
      keeps = e₄.keeps;
    }
