-- `report::notes::note_site` meets its contract. Assumes nothing.
use Prim.Native.Nat.{ℕ, ◌+◌}
use native.Mathlib.Omega.{arith}
use mathlib.Core.Path.{◌≡◌, ap, ◌∙◌}
use lib.ListN.{get_or, length-set}
use Rattle.restrictions.specs.Entries.{entry_sentence}
use Rattle.index.specs.Layout.{calls, links}
use Rattle.index.specs.Links.{entry_class}
use Rattle.cleaning.specs.Indexed.{fell_of}
use Rattle.cleaning.proofs.Indexed.{fell-number}
use Rattle.report.proofs.SiteNotes.{noted-first, noted-repeat}
use Rattle.report.proofs.notes.note_site.Goals as goal

pub fell-requires : goal.fell-requires
fell-requires c =
    let same : let a = c.args in c.sentence_of-s.result ≡ entry_sentence (get_or a.work.now (calls a.plan + a.i) 0) = let a = c.args in
    c.sentence_of-s.ensures.0 ∙ ap (λ (k : ℕ). entry_sentence (get_or a.work.now (k + a.i) 0)) c.calls.ensures in
    let p = c.requires in (
      omega (
        arith,
        same,
        p.1,
      ),
      (omega (arith, p.2), p.2.1),
    )

pub returns-then-i-c : goal.returns-then-i-c
returns-then-i-c c =
    let same : let a = c.args in c.class_of-c.result ≡ entry_class (get_or a.work.now (links a.plan + a.i) 0) = let a = c.args in
    c.class_of-c.ensures.0 ∙ ap (λ (k : ℕ). entry_class (get_or a.work.now (k + a.i) 0)) c.links.ensures in
    let same_2 : let a = c.args in c.sentence_of-s.result ≡ entry_sentence (get_or a.work.now (calls a.plan + a.i) 0) = let a = c.args in
    c.sentence_of-s.ensures.0 ∙ ap (λ (k : ℕ). entry_sentence (get_or a.work.now (k + a.i) 0)) c.calls.ensures in
    let same_3 : let a = c.args in c.unwrap_or-k.result ≡ fell_of a.plan a.work.now (entry_sentence (get_or a.work.now (calls a.plan + a.i) 0)) = let a = c.args in
    c.unwrap_or-k.ensures ∙ fell-number (fell_of a.plan a.work.now c.sentence_of-s.result) c.fell.result c.fell.ensures ∙ ap (fell_of a.plan a.work.now) same_2 in
    noted-first c.args.plan c.args.work.now c.notes-notes.result c.args.i c.notes-notes.ensures (omega (arith, c.notes-notes.ensures, c.requires.0, c.requires.2)) same same_3 c.if-i-c.true

pub bounds-work-first-2 : goal.bounds-work-first-2
bounds-work-first-2 c =
    omega (arith, length-set c.args.work.now (c.notes-notes.result + c.args.i) (get_or c.args.work.now (c.notes-notes.result + c.class_of-c.result) 0), c.notes-notes.ensures, c.requires.0, c.requires.2, c.if-i-c.false)

pub returns : goal.returns
returns c =
    let same : let a = c.args in c.class_of-c.result ≡ entry_class (get_or a.work.now (links a.plan + a.i) 0) = let a = c.args in
    c.class_of-c.ensures.0 ∙ ap (λ (k : ℕ). entry_class (get_or a.work.now (k + a.i) 0)) c.links.ensures in
    let same_2 : let a = c.args in c.sentence_of-s.result ≡ entry_sentence (get_or a.work.now (calls a.plan + a.i) 0) = let a = c.args in
    c.sentence_of-s.ensures.0 ∙ ap (λ (k : ℕ). entry_sentence (get_or a.work.now (k + a.i) 0)) c.calls.ensures in
    let same_3 : let a = c.args in c.unwrap_or-k.result ≡ fell_of a.plan a.work.now (entry_sentence (get_or a.work.now (calls a.plan + a.i) 0)) = let a = c.args in
    c.unwrap_or-k.ensures ∙ fell-number (fell_of a.plan a.work.now c.sentence_of-s.result) c.fell.result c.fell.ensures ∙ ap (fell_of a.plan a.work.now) same_2 in
    noted-repeat c.args.plan c.args.work.now c.notes-notes.result c.args.i c.notes-notes.ensures (omega (arith, c.notes-notes.ensures, c.requires.0, c.requires.2)) same same_3 (omega (arith, c.if-i-c.false)) c.later.result c.later.ensures
