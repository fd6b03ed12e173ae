-- `report::uncovered::put_if_uncovered` meets its contract. Assumes nothing.
use native.Mathlib.Omega.{arith}
use mathlib.Core.Path.{◌≡◌, refl, sym, ap, subst, ◌∙◌}
use mathlib.Core.Bool.{true, not}
use mathlib.Core.Option.{some}
use lib.ListN.{get_elem?}
use Rattle.program.specs.Syntax.{Function, Program}
use Rattle.told.specs.Numbered.{Held, sentences_before, sites_of}
use Rattle.told.specs.Calls.{is_listed}
use Rattle.told.specs.History.{is_there, after_all}
use Rattle.cleaning.specs.Indexed.{fell_of}
use Rattle.cleaning.specs.Room.{Used}
use Rattle.cleaning.proofs.Room.{used_same}
use Rattle.report.specs.Emitting.{Readable}
use Rattle.report.specs.Listing.{candidate}
use Rattle.report.proofs.Places.{function_of}
use Rattle.report.proofs.RoomUsed.{used_back, used_readable, used_site}
use Rattle.report.proofs.UncoveredLists.{leading_there, not_leading, is_covered, is_candidate}
use Rattle.report.specs.Uncovered.{uncovered_named}
use Rattle.report.proofs.Telling.{listing-nothing, listing-same}
use Rattle.report.proofs.uncovered.put_if_uncovered.Goals as goal
use Rattle.report.proofs.uncovered.put_if_uncovered.Goals.{then-not-leading-via-then-not-leading, then-not-leading-via-else-not-leading+then-is_covered}

pub leads-leading-requires : goal.leads-leading-requires
leads-leading-requires c =
    let p = c.requires.0 in
    record { body = c.args.b.now; program = p.program; indexed = p.readable.indexed; place = p.place; function = p.function; is = p.is; site = p.site; at = p.at; listed = p.listed }

pub is_covered-requires : goal.is_covered-requires
is_covered-requires c = let p = c.requires in (p.0, p.1)

pub returns-then-not-leading : goal.returns-then-not-leading
returns-then-not-leading c =
    let a = c.args in
    elim c.then-not-leading.branch [
      | then-not-leading-via-then-not-leading z ↦ record {
        told = λ w x y d e g l.
            listing-same uncovered_named
            (not_leading ((is_there (fell_of c.args.plan c.args.work.now) after_all)) (sites_of w) x (sentences_before a.f w.functions) a.i y (sym (c.leads-leading.ensures a.b.now w a.f x y d e g l) ∙ z.if-not-leading.true))
            (listing-nothing a.listed.last a.out.now a.listed.count);
        short = (omega arith, c.requires.4);
        keeps = subst (Used a.plan a.work.now) (sym z.work-is) used_same;
      }
      | then-not-leading-via-else-not-leading+then-is_covered z ↦ record {
        told = λ w x y d e g l.
            listing-same uncovered_named (is_covered ((is_there (fell_of c.args.plan c.args.work.now) after_all)) (sites_of w) x (sentences_before a.f w.functions) a.i y (z.is_covered.ensures.answers w x y d e g l (leading_there (is_there (fell_of c.args.plan c.args.work.now) after_all) x.name (sites_of w) a.i y (sym (c.leads-leading.ensures a.b.now w a.f x y d e g l) ∙ z.if-not-leading.false)) ∙ ap not z.if-is_covered.true))
            (listing-nothing a.listed.last a.out.now a.listed.count);
        short = (omega arith, c.requires.4);
        keeps = subst (Used a.plan a.work.now) (sym z.work-is) z.is_covered.ensures.keeps;
      }
    ]

pub argument_of-requires : goal.argument_of-requires
argument_of-requires c = used_site c.is_covered.ensures.keeps c.requires.0

pub put_candidate-requires : goal.put_candidate-requires
put_candidate-requires c =
    let p = c.requires in
    let s = p.0 in
    let u = c.is_covered.ensures.keeps in
    let r = c.argument_of.ensures.1 s.program s.place s.function s.site (used_readable u s.readable) s.is s.at s.listed in (
      record { program = s.program; readable = used_readable u s.readable },
      λ w d.
          let x = function_of d c.args.f p.1 in
          ((_, candidate (record { function = x.is; reading = r.reading; is = refl })), p.2 w (used_readable (used_back u) d)),
      omega arith,
      p.3,
      p.4,
    )

pub returns : goal.returns
returns c =
    let there : (w : Program) (x : Function) (y : Held) → let a = c.args in Readable a.b.now w a.work.now a.plan → get_elem? w.functions a.f ≡ some x → get_elem? (sites_of w) a.i ≡ some y → is_listed true x.name y ≡ true → (is_there (fell_of c.args.plan c.args.work.now) after_all) y.sentence ≡ true = λ w x y d e g l. let a = c.args in
    leading_there ((is_there (fell_of c.args.plan c.args.work.now) after_all)) x.name (sites_of w) a.i y (sym (c.leads-leading.ensures a.b.now w a.f x y d e g l) ∙ c.if-not-leading.false) in
    let a = c.args in let u = c.is_covered.ensures.keeps in record {
      told = λ w x y d e g l.
          listing-same uncovered_named
          (is_candidate ((is_there (fell_of c.args.plan c.args.work.now) after_all)) (sites_of w) x (sentences_before a.f w.functions) a.i y
          (sym (c.leads-leading.ensures a.b.now w a.f x y d e g l) ∙ c.if-not-leading.false)
          (c.is_covered.ensures.answers w x y d e g l (there w x y d e g l) ∙ ap not c.if-is_covered.false))
          (let r = c.argument_of.ensures.1 w a.f x y (used_readable u d) e g l in
          c.put_candidate.ensures.told w x y.site.argument (used_readable u d) (record { function = e; reading = r.reading; is = r.is }));
      short = c.put_candidate.ensures.short;
      keeps = u;
    }
