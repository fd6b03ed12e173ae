-- `cleaning::walks::site_there` meets its contract. Assumes nothing.
use Prim.Native.Nat.{ℕ, ◌+◌}
use native.Mathlib.Omega.{arith}
use mathlib.Core.Path.{◌≡◌, ap, ◌∙◌}
use lib.ListN.{get_or}
use Rattle.restrictions.specs.Entries.{entry_sentence}
use Rattle.index.specs.Layout.{calls}
use Rattle.told.specs.History.{is_there}
use Rattle.cleaning.specs.Indexed.{fell_of}
use Rattle.cleaning.proofs.walks.site_there.Goals as goal

pub is_there-requires : goal.is_there-requires
is_there-requires c =
    let same : let a = c.args in c.sentence_of-s.result ≡ entry_sentence (get_or a.work.now (calls a.plan + a.i) 0) = let a = c.args in
    c.sentence_of-s.ensures.0 ∙ ap (λ (k : ℕ). entry_sentence (get_or a.work.now (k + a.i) 0)) c.calls.ensures in
    let p = c.requires in (
      omega (
        arith,
        same,
        p.1,
      ),
      (omega (arith, p.2), p.2.1),
    )

pub returns : goal.returns
returns c =
    let same : let a = c.args in c.sentence_of-s.result ≡ entry_sentence (get_or a.work.now (calls a.plan + a.i) 0) = let a = c.args in
    c.sentence_of-s.ensures.0 ∙ ap (λ (k : ℕ). entry_sentence (get_or a.work.now (k + a.i) 0)) c.calls.ensures in
    let a = c.args in
    c.is_there.ensures ∙ ap (is_there (fell_of a.plan a.work.now) a.round) (same)
