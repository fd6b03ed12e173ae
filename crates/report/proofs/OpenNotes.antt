-- Which sentences are undecided, in their entries: what writing a bit leaves, and what the loops over sentences and functions have told.
use Prim.Native.Nat.{ℕ, suc, ◌+◌, ◌/◌, ◌%◌, ◌<◌, ◌≤◌}
use native.Mathlib.Omega.{arith}
use mathlib.Core.Path.{◌≡◌, refl, sym, ap, ap₂, subst, ◌∙◌}
use mathlib.Core.Bool.{Bool, true, false, ◌&&◌, not, true≢false}
use mathlib.Core.List.{List}
use mathlib.Core.Option.{some}
use borrow.Author.Tests.{eqb-true, eqb-false}
use lib.Dec.{eqb}
use lib.ListN.{length, get_or, get_elem?, set, length-set}
use lib.Seq.{get_or-set_same, get_or-set_other}
use Rattle.program.specs.Syntax.{Function, Program}
use Rattle.program.specs.Sentences.{Sentence, own_sentences}
use Rattle.meaning.specs.Lists.{any}
use Rattle.told.specs.Numbered.{Held, sentences_before, sites_of}
use Rattle.told.specs.Asked.{is_judged}
use Rattle.told.specs.History.{is_there, after_all}
use Rattle.told.specs.ToldReport.{overlaps}
use Rattle.index.specs.declared.Plan.{Plan}
use Rattle.index.specs.Layout.{lines, witnesses}
use Rattle.index.proofs.First.{element_same}
use Rattle.cleaning.specs.Indexed.{fell_of, OnlyRounds}
use Rattle.cleaning.specs.Room.{Used}
use Rattle.cleaning.specs.Walks.{Owns, Witnessed}
use Rattle.cleaning.proofs.Indexed.{fell_by, only_rounds_indexed}
use Rattle.cleaning.proofs.Owned.{before-later}
use Rattle.cleaning.proofs.Witnesses.{witnessed-kept}
use Rattle.report.specs.Emitting.{Readable, Decided}
use Rattle.report.specs.Notes.{is_open, open_at, OpenSet, OnlyOpen, OpenUpto, FunctionOpen, DecidedUpto}
use Rattle.report.proofs.Places.{owner_below}
use Rattle.report.proofs.SiteNotes.{noted-same}

-- ---- whether a sentence is undecided

module _ (keep : ℕ → Bool) (sites : List Held) (x : Function) (s : ℕ) (y : Sentence) where
  pub open_gone : keep s ≡ false → false ≡ open_at keep sites x s y
  unfolding open_at
  open_gone e = sym (ap (λ (t : Bool). t && not (any (overlaps keep x.name y.pattern) sites)) e)

  pub open_asked : keep s ≡ true → (r : Bool) → r ≡ any (overlaps keep x.name y.pattern) sites → not r ≡ open_at keep sites x s y
  unfolding open_at
  open_asked e r h = ap₂ (λ (t u : Bool). t && not u) (sym e) h

-- ---- the bit of a sentence, where the entries begin at n

pub open_read : (p : Plan) (m : List ℕ) (n s : ℕ) → n ≡ lines p → eqb (get_or m (n + s) 0 / 134217728) 1 ≡ is_open p m s
unfolding is_open
open_read p m n s e = ap (λ (k : ℕ). eqb (get_or m (k + s) 0 / 134217728) 1) e

pub open_written : (p : Plan) (m : List ℕ) (n s v : ℕ) (r : Bool) → n ≡ lines p → n + s < length m → v % 134217728 ≡ get_or m (n + s) 0 % 134217728 → eqb (v / 134217728) 1 ≡ r → OpenSet p m (set m (n + s) v) s r
unfolding is_open
open_written p m n s v r e l h t =
    let k : get_or (set m (n + s) v) (lines p + s) 0 ≡ v = ap (λ (a : ℕ). get_or (set m (n + s) v) (a + s) 0) (sym e) ∙ get_or-set_same m (n + s) v 0 l in
    record {
      length = length-set m (n + s) v;
      others = λ a u. get_or-set_other m (n + s) a v 0 (λ q. u (omega (arith, q, e)));
      entry = ap (λ (a : ℕ). a % 134217728) k ∙ (h ∙ ap (λ (a : ℕ). get_or m (a + s) 0 % 134217728) e);
      is = ap (λ (a : ℕ). eqb (a / 134217728) 1) k ∙ t;
    }

open_entry : (p : Plan) (old new : List ℕ) (s : ℕ) → get_or new (lines p + s) 0 ≡ get_or old (lines p + s) 0 → is_open p new s ≡ is_open p old s
unfolding is_open
open_entry p old new s e = ap (λ (a : ℕ). eqb (a / 134217728) 1) e

-- ---- only bits are written

pub open_same : (p : Plan) (m : List ℕ) → OnlyOpen p m m
open_same p m = record { length = refl; before = λ k l. refl; after = λ k l i. refl; entry = λ s l. refl }

pub open_then : {p : Plan} {one two three : List ℕ} → OnlyOpen p one two → OnlyOpen p two three → OnlyOpen p one three
open_then a b = record {
  length = b.length ∙ a.length;
  before = λ k l. b.before k l ∙ a.before k l;
  after = λ k l i. b.after k l i ∙ a.after k l i;
  entry = λ s l. b.entry s l ∙ a.entry s l;
}

open_back : {p : Plan} {old new : List ℕ} → OnlyOpen p old new → OnlyOpen p new old
open_back o = record { length = sym o.length; before = λ k l. sym (o.before k l); after = λ k l i. sym (o.after k l i); entry = λ s l. sym (o.entry s l) }

open_used : {p : Plan} {old new : List ℕ} → Used p old new → OnlyOpen p old new
open_used {p} u = record {
  length = u.length;
  before = λ k l. u.columns k (omega (arith, l));
  after = λ k l i. u.columns k i;
  entry = λ s l. ap (λ (a : ℕ). a % 134217728) (u.columns (lines p + s) (omega (arith, l)));
}

open_set : {p : Plan} {old new : List ℕ} {s : ℕ} {r : Bool} → s < p.sentences → OpenSet p old new s r → OnlyOpen p old new
open_set {p} {old} {new} {s} l o = record {
  length = o.length;
  before = λ k i. o.others k (λ q. omega (arith, q, i));
  after = λ k i j. o.others k (λ q. omega (arith, q, i, l));
  entry = λ t i. by t (eqb t s) refl;
}
  where
    by : (t : ℕ) (u : Bool) → eqb t s ≡ u → get_or new (lines p + t) 0 % 134217728 ≡ get_or old (lines p + t) 0 % 134217728
    by t true e = subst (λ (n : ℕ). get_or new (lines p + n) 0 % 134217728 ≡ get_or old (lines p + n) 0 % 134217728) (sym (eqb-true t s e)) o.entry
    by t false e = ap (λ (a : ℕ). a % 134217728) (o.others (lines p + t) (λ q. eqb-false t s e (omega (arith, q))))

module _ {p : Plan} {old new : List ℕ} (o : OnlyOpen p old new) where
  pub open_only : OnlyRounds p old new
  open_only = record {
    length = o.length;
    before = o.before;
    after = λ k l i. o.after k (omega (arith, l)) (omega (arith, i));
    place = λ s l. let q = o.entry s l in omega (arith, q);
  }

  pub open_fell : fell_of p new ≡ fell_of p old
  open_fell = fell_by p old new (λ s l. let q = o.entry s l in omega (arith, q))

  pub open_readable : {b : List ℕ} {w : Program} → Readable b w old p → Readable b w new p
  open_readable {b} {w} d = record {
    indexed = only_rounds_indexed open_only d.indexed;
    short = d.short;
    witnessed = subst (λ (f : ℕ → ℕ). Witnessed (is_there f after_all) w new p) (sym open_fell) (witnessed-kept d.indexed.sentences (λ s l. o.after (witnesses p + s) (omega arith) (omega arith)) d.witnessed);
    noted = noted-same old new w d.indexed.sites open_fell (λ k l i. o.after k (omega (arith, l)) i) d.noted;
  }

-- ---- the sentences of a function, one after another

module _ (w : Program) (p : Plan) (f : ℕ) (x : Function) (old : List ℕ) where
  pub open_first : (s : ℕ) → s ≡ sentences_before f w.functions → OpenUpto w old old p f x s
  open_first s e = record {
    from = omega (arith, e);
    only = open_same p old;
    kept = λ t l. refl;
    told = λ t y l o. absurd (omega (arith, e, l, o.from));
  }

  module _ {new : List ℕ} {s : ℕ} (g : OpenUpto w old new p f x s) where
    pub open_end : sentences_before (suc f) w.functions ≤ s → OpenUpto w old new p f x (sentences_before (suc f) w.functions)
    open_end l = record {
      from = before-later w.functions f (suc f) (omega arith);
      only = g.only;
      kept = g.kept;
      told = λ t y i o. g.told t y (omega (arith, i, l)) o;
    }

    pub open_next : {mid next : List ℕ} {r : Bool} (y : Sentence) → Owns w f x s y → s < p.sentences → Used p new mid → r ≡ open_at (is_there (fell_of p new) after_all) (sites_of w) x s y → OpenSet p mid next s r → OpenUpto w old next p f x (s + 1)
    open_next {mid} {next} {r} y o l u e c = record {
      from = omega (arith, g.from);
      only = open_then g.only (open_then (open_used u) (open_set l c));
      kept = λ t i. same t (omega (arith, i, g.from)) ∙ g.kept t i;
      told = λ t z i q. by t z i q (eqb t s) refl;
    }
      where
        same : (t : ℕ) → t < s → is_open p next t ≡ is_open p new t
        same t i = open_entry p new next t (c.others (lines p + t) (λ q. omega (arith, q, i)) ∙ u.columns (lines p + t) (omega (arith, i, l)))

        by : (t : ℕ) (z : Sentence) → t < s + 1 → Owns w f x t z → (b : Bool) → eqb t s ≡ b → is_open p next t ≡ open_at (is_there (fell_of p old) after_all) (sites_of w) x t z
        by t z i q true h =
            let k = eqb-true t s h in
            let a : y ≡ z = element_same (own_sentences w.functions) s y z o.sentence (subst (λ (n : ℕ). get_elem? (own_sentences w.functions) n ≡ some z) k q.sentence) in
            subst (λ (n : ℕ). is_open p next n ≡ open_at (is_there (fell_of p old) after_all) (sites_of w) x n z) (sym k)
            (c.is ∙ (e ∙ ap₂ (λ (t : ℕ → ℕ) (v : Sentence). open_at (is_there t after_all) (sites_of w) x s v) (open_fell g.only) a))
        by t z i q false h = let k = eqb-false t s h in let n : t < s = below k i in same t n ∙ g.told t z n q
          where
            below : (t ≡ s → ⊥) → t < s + 1 → t < s
            below a j = at (eqb t s) refl
              where
                at : (b : Bool) → eqb t s ≡ b → t < s
                at true v = absurd (a (eqb-true t s v))
                at false v = omega (arith, j, a)

pub function_open : {w : Program} {old new : List ℕ} {p : Plan} {f : ℕ} {x : Function} → OpenUpto w old new p f x (sentences_before (suc f) w.functions) → FunctionOpen w old new p f x
function_open g = record { only = g.only; kept = g.kept; told = λ t y o j. g.told t y o.upto o }

pub function_passed : (w : Program) (m : List ℕ) (p : Plan) (f : ℕ) (x : Function) → is_judged (is_there (fell_of p m) after_all) x.name (sites_of w) ≡ false → FunctionOpen w m m p f x
function_passed w m p f x e = record { only = open_same p m; kept = λ t l. refl; told = λ t y o j. absurd (true≢false (sym j ∙ e)) }

-- ---- one function after another

pub decided-none : (w : Program) (m : List ℕ) (p : Plan) → DecidedUpto w m m p 0
decided-none w m p = record { only = open_same p m; told = λ f x s y l o j. absurd (omega (arith, l)) }

pub decided-next : {w : Program} {old new next : List ℕ} {p : Plan} {f : ℕ} → DecidedUpto w old new p f → (x : Function) → get_elem? w.functions f ≡ some x → FunctionOpen w new next p f x → DecidedUpto w old next p (f + 1)
decided-next {w} {old} {new} {next} {p} {f} k x e h = record { only = open_then k.only h.only; told = λ g z s y l o j. by g z s y l o j (eqb g f) refl }
  where
    by : (g : ℕ) (z : Function) (s : ℕ) (y : Sentence) → g < f + 1 → Owns w g z s y → is_judged (is_there (fell_of p old) after_all) z.name (sites_of w) ≡ true → (b : Bool) → eqb g f ≡ b → is_open p next s ≡ open_at (is_there (fell_of p old) after_all) (sites_of w) z s y
    by g z s y l o j true q =
        let n = eqb-true g f q in
        let c : Owns w f z s y = subst (λ (i : ℕ). Owns w i z s y) n o in
        let a : x ≡ z = element_same w.functions f x z e c.function in
        let t = open_fell k.only in
        h.told s y (subst (λ (v : Function). Owns w f v s y) (sym a) c) (ap₂ (λ (v : ℕ → ℕ) (u : Function). is_judged (is_there v after_all) u.name (sites_of w)) t a ∙ j)
        ∙ ap₂ (λ (v : ℕ → ℕ) (u : Function). open_at (is_there v after_all) (sites_of w) u s y) t a
    by g z s y l o j false q =
        let n = eqb-false g f q in
        let i : g < f = below n in
        h.kept s (omega (arith, o.upto, before-later w.functions (suc g) f (omega (arith, i)))) ∙ k.told g z s y i o j
      where
        below : (g ≡ f → ⊥) → g < f
        below a = at (eqb g f) refl
          where
            at : (b : Bool) → eqb g f ≡ b → g < f
            at true v = absurd (a (eqb-true g f v))
            at false v = omega (arith, l, a)

pub decided-all : {b : List ℕ} {old new : List ℕ} {p : Plan} → OnlyOpen p old new → ((w : Program) → Readable b w old p → DecidedUpto w old new p p.functions) → Decided b new p
decided-all o h = record {
  told = λ w f x s y d c j.
      let e = open_fell o in
      (h w (open_readable (open_back o) d)).told f x s y (owner_below d c) c (subst (λ (t : ℕ → ℕ). is_judged (is_there t after_all) x.name (sites_of w) ≡ true) e j) ∙ ap (λ (t : ℕ → ℕ). open_at (is_there t after_all) (sites_of w) x s y) (sym e);
}
