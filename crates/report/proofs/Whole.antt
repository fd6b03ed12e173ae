-- The numbers and the text of a report, as they are told after n rounds.
use Prim.Native.Nat.{ℕ, suc, ◌+◌, ◌<◌, ◌≤◌}
use native.Mathlib.Omega.{arith}
use mathlib.Core.Path.{◌≡◌, refl, sym, ap, ◌∙◌}
use mathlib.Core.Bool.{Bool}
use mathlib.Core.List.{List, [], ◌∷◌, ◌++◌, map, flatten, flat_map, append_assoc}
use lib.ListN.{length, length-append, length-map}
use Rattle.program.specs.Syntax.{Name, Program}
use Rattle.program.specs.Sentences.{own_sentences}
use Rattle.patterns.specs.Names.{same_name}
use Rattle.meaning.specs.Lists.{firsts}
use Rattle.program.proofs.Own.{own-counted}
use Rattle.index.specs.declared.Plan.{Plan}
use Rattle.meaning.specs.Root.{root_place}
use Rattle.patterns.specs.Ascii.{ascii}
use Rattle.meaning.specs.Text.{Text}
use Rattle.meaning.specs.CleanReport.{RemovedSentence, UndecidedSentence, UncoveredRestriction, CleanReport, same_undecided, same_uncovered}
use Rattle.told.specs.History.{is_there, after_all}
use Rattle.told.specs.Numbered.{sites_of}
use Rattle.told.specs.ToldReport.{fallen_from, same_fallen, removed_of, undecided_told, uncovered_told, runs_after, uncharacterised_names, told_report}
use Rattle.told.proofs.History.{there-after}
use Rattle.text.specs.Counts.{count_line, top_text, graph_text}
use Rattle.text.specs.declared.writer.Writer.{Writer}
use Rattle.text.specs.Fill.{filled, Emitted}
use Rattle.text.specs.Written.{written}
use Rattle.text.proofs.Written.{both, same}
use Rattle.meaning.specs.Report.{removed_line, undecided_line, uncovered_line, uncharacterised_line, dispatch_line, last_lines, format_clean_report}
use Rattle.text.proofs.Pieces.{graph_told, report_pieces}
use Rattle.text.proofs.Fill.{filled-empty, filled-length}
use Rattle.report.specs.declared.format.Figures.{Figures}
use Rattle.report.specs.Format.{lists_text, listed_text}
use Rattle.report.specs.Figures.{FiguresOf, anew}

-- A line has at least one letter, so there are no more lines than letters.
lines-many : {A : Type 0} (line : A → Text) → ((x : A) → 1 ≤ length (line x)) → (l : List A) → length l ≤ length (flat_map line l)
unfolding flat_map
lines-many line h [] = omega arith
lines-many line h (x ∷ l) = omega (arith, h x, lines-many line h l, length-append (line x) (flat_map line l))

removed-some : (x : RemovedSentence) → 1 ≤ length (removed_line x)
unfolding removed_line flatten ascii
removed-some x = omega arith

undecided-some : (x : UndecidedSentence) → 1 ≤ length (undecided_line x)
unfolding undecided_line flatten ascii
undecided-some x = omega arith

uncovered-some : (x : UncoveredRestriction) → 1 ≤ length (uncovered_line x)
unfolding uncovered_line flatten ascii
uncovered-some x = omega arith

pub removed-few : (l : List RemovedSentence) → length l ≤ length (flat_map removed_line l)
removed-few l = lines-many removed_line removed-some l

pub undecided-few : (l : List UndecidedSentence) → length l ≤ length (flat_map undecided_line l)
undecided-few l = lines-many undecided_line undecided-some l

pub uncovered-few : (l : List UncoveredRestriction) → length l ≤ length (flat_map uncovered_line l)
uncovered-few l = lines-many uncovered_line uncovered-some l

module _ (w : Program) (fell : ℕ → ℕ) (n : ℕ) where
  -- The lists as they are emitted.
  abbrev pub removed_now : List RemovedSentence
  removed_now = map (removed_of w fell) (firsts same_fallen (fallen_from w fell 1 n))

  abbrev pub undecided_now : List UndecidedSentence
  undecided_now = runs_after same_undecided [] (undecided_told (is_there fell after_all) (sites_of w) 0 w.functions)

  abbrev pub uncovered_now : List UncoveredRestriction
  uncovered_now = runs_after same_uncovered [] (uncovered_told (is_there fell after_all) (sites_of w) 0 w.functions)

  removed-is : removed_now ≡ (told_report w fell n).removed
  unfolding told_report
  removed-is = refl

module _ (w : Program) (fell : ℕ → ℕ) (n : ℕ) (below : (s : ℕ) → fell s < suc n) (few : n < after_all) where
  after_is : is_there fell after_all ≡ is_there fell (suc n)
  after_is = sym (there-after fell (suc n) below (omega (arith, few)))

  undecided-is : undecided_now w fell n ≡ (told_report w fell n).undecided
  unfolding told_report
  undecided-is = ap (λ (k : ℕ → Bool). runs_after same_undecided [] (undecided_told k (sites_of w) 0 w.functions)) after_is

  uncovered-is : uncovered_now w fell n ≡ (told_report w fell n).uncovered
  unfolding told_report
  uncovered-is = ap (λ (k : ℕ → Bool). runs_after same_uncovered [] (uncovered_told k (sites_of w) 0 w.functions)) after_is

  pub figures-told : (g : Figures) → g.after ≡ (told_report w fell n).sentences_after → g.removed.count ≡ length (firsts same_fallen (fallen_from w fell 1 n)) → g.undecided.count ≡ length (undecided_now w fell n) → g.uncovered.count ≡ length (uncovered_now w fell n)
      → g.removed.at ≡ length (flat_map removed_line (removed_now w fell n)) → g.undecided.at ≡ length (flat_map undecided_line (undecided_now w fell n)) → g.uncovered.at ≡ length (flat_map uncovered_line (uncovered_now w fell n))
      → g.uncharacterised.count ≡ length (told_report w fell n).uncharacterised → g.uncharacterised.at ≡ length (uncharacterised_line (told_report w fell n).uncharacterised) → FiguresOf (told_report w fell n) g
  figures-told g a b c d e h k u v = record {
    after = a;
    removed = b ∙ (sym (length-map (firsts same_fallen (fallen_from w fell 1 n)) (removed_of w fell)) ∙ ap length (removed-is w fell n));
    undecided = c ∙ ap length undecided-is;
    uncovered = d ∙ ap length uncovered-is;
    uncharacterised = u;
    removed-length = e ∙ ap (λ (l : List RemovedSentence). length (flat_map removed_line l)) (removed-is w fell n);
    undecided-length = h ∙ ap (λ (l : List UndecidedSentence). length (flat_map undecided_line l)) undecided-is;
    uncovered-length = k ∙ ap (λ (l : List UncoveredRestriction). length (flat_map uncovered_line l)) uncovered-is;
    uncharacterised-length = v;
  }

  pub lists_told : (g : Figures) → FiguresOf (told_report w fell n) g
      → flat_map removed_line (removed_now w fell n) ++ (count_line (ascii "undecided: ") g.undecided.count ++ (flat_map undecided_line (undecided_now w fell n) ++ (count_line (ascii "uncovered: ") g.uncovered.count ++ flat_map uncovered_line (uncovered_now w fell n)))) ≡ lists_text (told_report w fell n)
  unfolding lists_text
  lists_told g f =
      λ i. flat_map removed_line (removed-is w fell n i) ++ (count_line (ascii "undecided: ") (f.undecided i) ++ (flat_map undecided_line (undecided-is i) ++ (count_line (ascii "uncovered: ") (f.uncovered i) ++ flat_map uncovered_line (uncovered-is i))))

-- Where nothing can be written, a text's length is all that emission takes of it.
pub unwritten : (v : Writer) (t : Text) (n : ℕ) → length v.text.now ≡ 0 → n ≡ length t → v.text.now ≡ filled v.text.now v.filled t × (v.filled + n ≡ v.filled + length t)
unwritten v t n h e = (by v.text.now h, ap (λ (k : ℕ). v.filled + k) e)
  where
    by : (s : List ℕ) → length s ≡ 0 → s ≡ filled s v.filled t
    by [] z = sym (filled-empty t v.filled)
    by (x ∷ s) z = absurd (omega (arith, z))

-- So the line of names, if there is one, is emitted by its length.
pub names_measured : (s : List ℕ) (p : ℕ) (r : CleanReport) (g : Figures) → FiguresOf r g → length s ≡ 0 → Emitted s p (uncharacterised_line r.uncharacterised) (p + g.uncharacterised.at) s
names_measured [] p r g f none = record { after = ap (λ (n : ℕ). p + n) f.uncharacterised-length; left = sym (filled-empty (uncharacterised_line r.uncharacterised) p) }
names_measured (x ∷ s) p r g f none = absurd (omega (arith, none))

-- So the lines between the lists and the lists' lengths make up the lists.
pub lists_measured : (r : CleanReport) (g : Figures) → FiguresOf r g → (v : Writer) {a b c d e : Writer}
    → a ≡ written v (flat_map removed_line r.removed) → b ≡ written a (count_line (ascii "undecided: ") g.undecided.count) → c ≡ written b (flat_map undecided_line r.undecided)
    → d ≡ written c (count_line (ascii "uncovered: ") g.uncovered.count) → e ≡ written d (flat_map uncovered_line r.uncovered) → e ≡ written v (lists_text r)
unfolding lists_text
lists_measured r g f v {a} {b} {c} {d} e₁ e₂ e₃ e₄ e₅ =
    let x = flat_map removed_line r.removed in
    let y = flat_map undecided_line r.undecided in
    let z = flat_map uncovered_line r.uncovered in
    let s = count_line (ascii "undecided: ") g.undecided.count in
    let t = count_line (ascii "uncovered: ") g.uncovered.count in
    same v (λ i. x ++ (count_line (ascii "undecided: ") (f.undecided i) ++ (y ++ (count_line (ascii "uncovered: ") (f.uncovered i) ++ z))))
    (both v x (s ++ (y ++ (t ++ z))) e₁ (both a s (y ++ (t ++ z)) e₂ (both b y (t ++ z) e₃ (both c t z e₄ e₅))))

-- ---- the lent bytes

-- The same lent bytes, of which there are as many.
pub record Kept (w v : Writer) : Type 0 where
  pub lent : w.text.ghost_name ≡ v.text.ghost_name
  pub many : length v.text.now ≡ length w.text.now

pub kept : (w : Writer) (t : Text) {v : Writer} → v ≡ written w t → Kept w v
kept w t e = record { lent = sym (ap (λ (z : Writer). z.text.ghost_name) e); many = ap (λ (z : Writer). length z.text.now) e ∙ filled-length w.text.now w.filled t }

pub kept-anew : (w : Writer) {v : Writer} → v ≡ anew w → Kept w v
kept-anew w e = record { lent = sym (ap (λ (z : Writer). z.text.ghost_name) e); many = ap (λ (z : Writer). length z.text.now) e }

pub kept-then : {w v u : Writer} → Kept w v → Kept v u → Kept w u
kept-then a b = record { lent = a.lent ∙ b.lent; many = b.many ∙ a.many }

pub kept-length : {w v : Writer} {s : List ℕ} → Kept w v → (w.text.ghost_name ≡ v.text.ghost_name → s ≡ v.text.now) → length s ≡ length w.text.now
kept-length k f = ap length (f k.lent) ∙ k.many

-- The names as the code lists them are the report's.
pub names-told : (w : Program) (fell : ℕ → ℕ) (n root : ℕ) → root ≡ root_place w → firsts same_name (uncharacterised_names root (sites_of w) 0 w.functions) ≡ (told_report w fell n).uncharacterised
unfolding told_report
names-told w fell n root k = ap (λ (z : ℕ). firsts same_name (uncharacterised_names z (sites_of w) 0 w.functions)) k

-- The report in the four pieces in which it is emitted.
pub report-whole : (r : CleanReport)
    → top_text r.functions r.sentences_before r.sentences_after r.rounds (length r.removed) ++ (lists_text r ++ last_lines r) ≡ format_clean_report r
unfolding lists_text
report-whole r =
    ap (λ (t : Text). top_text r.functions r.sentences_before r.sentences_after r.rounds (length r.removed) ++ t)
    (regroup (flat_map removed_line r.removed) (count_line (ascii "undecided: ") (length r.undecided)) (flat_map undecided_line r.undecided) (count_line (ascii "uncovered: ") (length r.uncovered)) (flat_map uncovered_line r.uncovered) (last_lines r))
    ∙ report_pieces r
  where
    regroup : (a b c d e z : Text) → (a ++ (b ++ (c ++ (d ++ e)))) ++ z ≡ a ++ (b ++ (c ++ (d ++ (e ++ z))))
    regroup a b c d e z = simp append_assoc refl

pub whole-told : (w : Program) (fell : ℕ → ℕ) (n : ℕ) (p : Plan) (g : Figures) → FiguresOf (told_report w fell n) g → length w.functions ≡ p.functions → length (own_sentences w.functions) ≡ p.sentences
    → top_text p.functions p.sentences g.after n g.removed.count
    ++ (lists_text (told_report w fell n) ++ (uncharacterised_line (told_report w fell n).uncharacterised ++ graph_text p.functions g.undecided.count g.uncovered.count g.uncharacterised.count)) ≡ format_clean_report (told_report w fell n)
unfolding told_report last_lines dispatch_line
whole-told w fell n p g f e h =
    let functions = sym e in
    let sentences = sym h ∙ own-counted w.functions in
    let r = told_report w fell n in
    (λ i. top_text (functions i) (sentences i) (f.after i) n (f.removed i)
    ++ (lists_text r ++ (uncharacterised_line r.uncharacterised ++ graph_text (functions i) (f.undecided i) (f.uncovered i) (f.uncharacterised i))))
    ∙ (ap (λ (t : Text). top_text r.functions r.sentences_before r.sentences_after r.rounds (length r.removed) ++ (lists_text r ++ (uncharacterised_line r.uncharacterised ++ t))) (graph_told r refl)
    ∙ report-whole r)

-- The same, with the uncharacterised functions beside the lists, as it is written.
pub whole-listed : (w : Program) (fell : ℕ → ℕ) (n : ℕ) (p : Plan) (root : ℕ) (g : Figures) → FiguresOf (told_report w fell n) g → length w.functions ≡ p.functions → length (own_sentences w.functions) ≡ p.sentences → root ≡ root_place w
    → top_text p.functions p.sentences g.after n g.removed.count ++ (listed_text w root fell n ++ graph_text p.functions g.undecided.count g.uncovered.count g.uncharacterised.count) ≡ format_clean_report (told_report w fell n)
unfolding listed_text
whole-listed w fell n p root g f e h k =
    let r = told_report w fell n in
    let graph = graph_text p.functions g.undecided.count g.uncovered.count g.uncharacterised.count in
    ap (λ (t : Text). top_text p.functions p.sentences g.after n g.removed.count ++ t)
    (append_assoc (lists_text r) (uncharacterised_line (firsts same_name (uncharacterised_names root (sites_of w) 0 w.functions))) graph ∙ ap (λ (l : List Name). lists_text r ++ (uncharacterised_line l ++ graph)) (names-told w fell n root k))
    ∙ whole-told w fell n p g f e h
