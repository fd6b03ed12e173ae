-- `report::entries::Entries::put_if_undecided` meets its contract. Assumes nothing.
use native.Mathlib.Omega.{arith}
use mathlib.Core.Path.{◌≡◌, refl, sym, ◌∙◌}
use Rattle.program.specs.Syntax.{Function, Program}
use Rattle.program.specs.Sentences.{Sentence}
use Rattle.told.specs.History.{is_there, after_all}
use Rattle.told.specs.Numbered.{sites_of}
use Rattle.cleaning.specs.Indexed.{fell_of}
use Rattle.cleaning.specs.Walks.{Owns}
use Rattle.report.specs.Emitting.{Readable}
use Rattle.report.specs.Notes.{open_at}
use Rattle.report.specs.Undecided.{undecided_named}
use Rattle.report.specs.Listing.{candidate}
use Rattle.report.proofs.Places.{function_of, sentence_of, pattern-at, owner_below, owned_below}
use Rattle.report.proofs.Telling.{listing-nothing, listing-same}
use Rattle.report.proofs.UndecidedLists.{not_open, is_open_lem}
use Rattle.report.proofs.entries.Entries.put_if_undecided.Goals as goal

pub is_undecided-requires : goal.is_undecided-requires
is_undecided-requires c = let p = c.requires.0 in (owned_below p.readable p.owns, (omega (arith, p.readable.indexed.fits), p.readable.indexed.small))

pub returns-then-not-is_undecided : goal.returns-then-not-is_undecided
returns-then-not-is_undecided c =
    let same : let a = c.args in (w : Program) (x : Function) (y : Sentence) → Readable a.self.now.b.now w a.self.now.work.now a.self.now.plan → Owns w a.f x a.s y → open_at ((is_there (fell_of c.args.self.now.plan c.args.self.now.work.now) after_all)) (sites_of w) x a.s y ≡ c.is_undecided.result = λ w x y d o. sym (c.is_undecided.ensures ∙ c.requires.4.told w c.args.f x c.args.s y d o (c.requires.5.is w x d o.function)) in
    let a = c.args in record {
      told = λ w x y d o.
          listing-same undecided_named (not_open ((is_there (fell_of c.args.self.now.plan c.args.self.now.work.now) after_all)) (sites_of w) x a.s y (same w x y d o ∙ c.if-not-is_undecided.true))
          (listing-nothing a.listed.last a.out.now a.listed.count);
      short = (omega arith, c.requires.3);
    }

pub pattern_place-requires : goal.pattern_place-requires
pattern_place-requires c = let p = c.requires.0 in (owned_below p.readable p.owns, (omega (arith, p.readable.indexed.fits), p.readable.indexed.small))

pub put_candidate-requires : goal.put_candidate-requires
put_candidate-requires c =
    let p = c.requires in
    let a = c.args in (
      record { program = p.0.program; readable = p.0.readable },
      λ w d.
          let x = function_of d a.f (owner_below p.0.readable p.0.owns) in
          let y = sentence_of d a.s (owned_below p.0.readable p.0.owns) in
          ((_, candidate (record { function = x.is; reading = pattern-at d a.s y.element y.is c.pattern_place.result c.pattern_place.ensures.0; is = refl })), p.1 w d),
      omega arith,
      p.2,
      p.3,
    )

pub returns : goal.returns
returns c =
    let same : let a = c.args in (w : Program) (x : Function) (y : Sentence) → Readable a.self.now.b.now w a.self.now.work.now a.self.now.plan → Owns w a.f x a.s y → open_at ((is_there (fell_of c.args.self.now.plan c.args.self.now.work.now) after_all)) (sites_of w) x a.s y ≡ c.is_undecided.result = λ w x y d o. sym (c.is_undecided.ensures ∙ c.requires.4.told w c.args.f x c.args.s y d o (c.requires.5.is w x d o.function)) in
    record {
      told = λ w x y d o.
          listing-same undecided_named (is_open_lem ((is_there (fell_of c.args.self.now.plan c.args.self.now.work.now) after_all)) (sites_of w) x c.args.s y (same w x y d o ∙ c.if-not-is_undecided.false))
          (c.put_candidate.ensures.told w x y.pattern d (record { function = o.function; reading = pattern-at d c.args.s y o.sentence c.pattern_place.result c.pattern_place.ensures.0; is = refl }));
      short = c.put_candidate.ensures.short;
    }
