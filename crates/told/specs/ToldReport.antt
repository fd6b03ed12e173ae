-- The report's lists told by numbers: which sentence fell in which round, and which sites are there.
use Rattle.std.specs.Prelude.{ℕ, zero, suc, ◌+◌, Bool, true, false, ◌&&◌, not, cond, List, [], ◌∷◌, ◌++◌, map, eqb, length}
use Rattle.program.specs.Syntax.{Name, Terms, Sentences, empty, sentence, Function, Program}
use Rattle.program.specs.Encode.{sentence_count, own_sentence_count}
use Rattle.program.specs.Sentences.{Sentence}
use Rattle.patterns.specs.Names.{eq_bytes, same_name}
use Rattle.patterns.specs.Search.{patterns_overlap}
use Rattle.meaning.specs.Lists.{any, all, select, firsts}
use Rattle.told.specs.Numbered.{Held, sites_of}
use Rattle.meaning.specs.Restrictions.{entering_restrictions}
use Rattle.meaning.specs.Root.{root_place}
use Rattle.meaning.specs.Cleaning.{is_disjoint}
use Rattle.meaning.specs.Text.{format_terms}
use Rattle.meaning.specs.CleanReport.{RemovedSentence, UndecidedSentence, UncoveredRestriction, CleanReport, is_overlap, same_undecided, same_uncovered}
use Rattle.told.specs.KeptSites.{kept_sites}
use Rattle.told.specs.Asked.{uncharacterises, restricts, is_judged}
use Rattle.told.specs.History.{is_there, start_of, numbered}

-- A sentence that fell: in which round, of which function, its number.
pub record Fallen : Type 0 where
  pub round : ℕ
  pub function : Function
  pub number : ℕ
  pub sentence : Sentence

-- Those of the function x, the first of its sentences number i, that fell in round r.
unfoldable pub fallen_of : (ℕ → ℕ) → ℕ → Function → ℕ → Sentences → List Fallen
fallen_of fell r x i empty = []
fallen_of fell r x i (sentence h p c q b) =
    cond (eqb (fell i) r) (record { round = r; function = x; number = i; sentence = record { head = h; pattern = p; conditions = c; result = q } } ∷ fallen_of fell r x (suc i) b) (fallen_of fell r x (suc i) b)

unfoldable pub fallen_in : (ℕ → ℕ) → ℕ → ℕ → List Function → List Fallen
fallen_in fell r i [] = []
fallen_in fell r i (x ∷ fs) = fallen_of fell r x i x.sentences ++ fallen_in fell r (i + sentence_count x.sentences) fs

-- Those of n rounds, the first of them r.
unfoldable pub fallen_from : Program → (ℕ → ℕ) → ℕ → ℕ → List Fallen
fallen_from w fell r zero = []
fallen_from w fell r (suc n) = fallen_in fell r 0 w.functions ++ fallen_from w fell (suc r) n

-- The restrictions of the functions named f when the sites of the kept sentences are there.
abbrev pub restrictions_at : (ℕ → Bool) → Name → List Held → List Terms
restrictions_at keep f sites = (entering_restrictions f (kept_sites keep sites)).restrictions

unfoldable pub removed_of : Program → (ℕ → ℕ) → Fallen → RemovedSentence
removed_of w fell x = record {
  function = x.function.name;
  pattern = format_terms x.sentence.pattern;
  restrictions = map format_terms (restrictions_at (is_there fell x.round) x.function.name (sites_of w));
}

-- "Removed sentences are listed once per function name (case ignored) and pattern text".
unfoldable pub same_fallen : Fallen → Fallen → Bool
same_fallen x y = same_name x.function.name y.function.name && eq_bytes (format_terms x.sentence.pattern) (format_terms y.sentence.pattern)

-- ---- the final lists

-- A site that is there, and with which the pattern p has an Overlap.
unfoldable pub overlaps : (ℕ → Bool) → Name → Terms → Held → Bool
overlaps keep f p x = restricts keep f x && is_overlap (patterns_overlap p x.site.argument)

-- The sentences of x, the first of them number i, that are there and that no restriction gives Overlap.
unfoldable pub undecided_in : (ℕ → Bool) → List Held → ℕ → Function → List UndecidedSentence
undecided_in keep sites i x = map (λ y. record { function = x.name; pattern = format_terms y.pattern }) (select (λ y. not (any (overlaps keep x.name y.pattern) sites)) (numbered keep i x.sentences))

-- The restrictions of x that are Disjoint from each of its sentences that are there.
unfoldable pub uncovered_in : (ℕ → Bool) → List Held → ℕ → Function → List UncoveredRestriction
uncovered_in keep sites i x = map (λ r. record { function = x.name; input = format_terms r }) (select (λ r. all (λ y. is_disjoint (patterns_overlap y.pattern r)) (numbered keep i x.sentences)) (restrictions_at keep x.name sites))

unfoldable pub judged_only : {A : Type 0} → Bool → List A → List A
judged_only true l = l
judged_only false l = []

-- Functions in file order, the first of them with the first sentence i.
unfoldable pub undecided_told : (ℕ → Bool) → List Held → ℕ → List Function → List UndecidedSentence
undecided_told keep sites i [] = []
undecided_told keep sites i (x ∷ fs) = judged_only (is_judged keep x.name sites) (undecided_in keep sites i x) ++ undecided_told keep sites (i + sentence_count x.sentences) fs

unfoldable pub uncovered_told : (ℕ → Bool) → List Held → ℕ → List Function → List UncoveredRestriction
uncovered_told keep sites i [] = []
uncovered_told keep sites i (x ∷ fs) = judged_only (is_judged keep x.name sites) (uncovered_in keep sites i x) ++ uncovered_told keep sites (i + sentence_count x.sentences) fs

-- "A call or block in any argument makes the callee uncharacterised, and it stays listed if that site later goes": the functions but the root that a site uncharacterises at the beginning, the first of them at place k.
unfoldable pub uncharacterised_names : ℕ → List Held → ℕ → List Function → List Name
uncharacterised_names root sites k [] = []
uncharacterised_names root sites k (x ∷ fs) = cond (not (eqb k root) && any (uncharacterises (λ s. true) x.name) sites) (x.name ∷ uncharacterised_names root sites (suc k) fs) (uncharacterised_names root sites (suc k) fs)

-- The first of each run of neighbours that are the same as the one before; `last` is the one before, if any.
unfoldable pub runs_after : {A : Type 0} → (A → A → Bool) → List A → List A → List A
runs_after same last [] = []
runs_after same last (x ∷ l) = cond (any (λ y. same y x) last) (runs_after same (x ∷ []) l) (x ∷ runs_after same (x ∷ []) l)

-- ---- the whole

-- The report if n rounds were told.
unfoldable pub told_report : Program → (ℕ → ℕ) → ℕ → CleanReport
told_report w fell n = record {
  functions = length w.functions;
  sentences_before = own_sentence_count w.functions;
  sentences_after = own_sentence_count (start_of w fell (suc n)).functions;
  removed = map (removed_of w fell) (firsts same_fallen (fallen_from w fell 1 n));
  undecided = runs_after same_undecided [] (undecided_told (is_there fell (suc n)) (sites_of w) 0 w.functions);
  uncovered = runs_after same_uncovered [] (uncovered_told (is_there fell (suc n)) (sites_of w) 0 w.functions);
  uncharacterised = firsts same_name (uncharacterised_names (root_place w) (sites_of w) 0 w.functions);
  dynamic_dispatch = false;
  rounds = n;
}

-- "Any `Mu` or `Up` call: same bytes out, rounds 0": the report of a program that is left alone.
unfoldable pub unchanged_report : Program → CleanReport
unchanged_report w = record {
  functions = length w.functions;
  sentences_before = own_sentence_count w.functions;
  sentences_after = own_sentence_count w.functions;
  removed = [];
  undecided = [];
  uncovered = [];
  uncharacterised = [];
  dynamic_dispatch = true;
  rounds = 0;
}
