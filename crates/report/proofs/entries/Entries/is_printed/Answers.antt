-- `report::entries::Entries::is_printed` meets its contract. Assumes nothing.
use native.Mathlib.Omega.{arith}
use mathlib.Core.Bool.{◌&&◌, Bool, not, ◌||◌}
use mathlib.Core.Path.{ap, sym, ◌∙◌, ◌≡◌}
use lib.Dec.{eqb, ltb}
use Rattle.cleaning.specs.Indexed.{fell_of}
use Rattle.meaning.specs.Text.{format_terms}
use Rattle.report.specs.Removed.{prints}
use Rattle.patterns.specs.Names.{eq_bytes}
use Rattle.report.proofs.entries.Entries.is_printed.Goals as goal

pub fell-requires : goal.fell-requires
fell-requires c = let d = c.requires.0.readable.indexed in (c.requires.1, (omega (arith, d.fits), d.small))

pub returns-else-is_earlier : goal.returns-else-is_earlier
unfolding prints
returns-else-is_earlier c =
    let same : let a = c.args in let k = fell_of a.self.now.plan a.self.now.work.now a.t in c.is_earlier.result ≡ (not (eqb k 0) && (ltb k a.round || (eqb k a.round && ltb a.t a.s))) = let a = c.args in c.is_earlier.ensures (fell_of a.self.now.plan a.self.now.work.now a.t) c.fell.ensures in
    λ w u y d e g. c.if-is_earlier.false ∙ sym (ap (λ (t : Bool). t && eq_bytes (format_terms u.pattern) (format_terms y.pattern)) (sym same ∙ c.if-is_earlier.false))

pub same_pattern-requires : goal.same_pattern-requires
same_pattern-requires c = (c.requires.0, c.requires.1, c.requires.2)

pub returns-then-is_earlier : goal.returns-then-is_earlier
unfolding prints
returns-then-is_earlier c =
    let same : let a = c.args in let k = fell_of a.self.now.plan a.self.now.work.now a.t in c.is_earlier.result ≡ (not (eqb k 0) && (ltb k a.round || (eqb k a.round && ltb a.t a.s))) = let a = c.args in c.is_earlier.ensures (fell_of a.self.now.plan a.self.now.work.now a.t) c.fell.ensures in
    λ w u y d e g.
    c.same_pattern.ensures w u y d e g ∙ sym (ap (λ (t : Bool). t && eq_bytes (format_terms u.pattern) (format_terms y.pattern)) (sym same ∙ c.if-is_earlier.true))
