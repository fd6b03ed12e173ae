-- What cleaning reports: the Rust's `CleanReport`, from the rounds and the program that they leave.
use Rattle.std.specs.Prelude.{ℕ, Bool, true, false, ◌&&◌, not, cond, length}
use mathlib.Core.List.{List, [], ◌∷◌, map, flat_map}
use Rattle.program.specs.Syntax.{Name, Terms, Function, Program}
use Rattle.program.specs.Encode.{own_sentence_count}
use Rattle.program.specs.Sentences.{Sentence, sentence_list}
use Rattle.patterns.specs.Names.{eq_bytes, same_name}
use Rattle.patterns.specs.declared.Verdict.{Verdict}
use Rattle.patterns.specs.declared.Verdict.TheVariants.{Disjoint, Overlap, Unknown}
use Rattle.patterns.specs.Search.{patterns_overlap}
use Rattle.meaning.specs.Lists.{all, any, select, firsts}
use Rattle.meaning.specs.Sites.{Site, program_sites}
use Rattle.meaning.specs.Restrictions.{entering_restrictions}
use Rattle.meaning.specs.Dispatch.{residual_dispatches_dynamically}
use Rattle.meaning.specs.Cleaning.{is_disjoint, Standing, standing, Change, Round, rounds, clean_residual_program}
use Rattle.meaning.specs.Text.{Text, format_terms}

pub record RemovedSentence : Type 0 where
  pub function : Name
  pub pattern : Text
  pub restrictions : List Text

pub record UndecidedSentence : Type 0 where
  pub function : Name
  pub pattern : Text

pub record UncoveredRestriction : Type 0 where
  pub function : Name
  pub input : Text

pub record CleanReport : Type 0 where
  pub functions : ℕ
  pub sentences_before : ℕ
  pub sentences_after : ℕ
  pub removed : List RemovedSentence
  pub undecided : List UndecidedSentence
  pub uncovered : List UncoveredRestriction
  pub uncharacterised : List Name
  pub dynamic_dispatch : Bool
  pub rounds : ℕ

-- ---- the lists of the rounds

unfoldable pub restrictions_of : Standing → List Terms
restrictions_of Standing.passed_over = []
restrictions_of Standing.uncharacterised = []
restrictions_of (Standing.judged_by rs) = rs

unfoldable pub removed_sentence : Change → Sentence → RemovedSentence
removed_sentence c x = record {
  function = c.function.name;
  pattern = format_terms x.pattern;
  restrictions = map format_terms (restrictions_of c.standing);
}

unfoldable pub removed_by : Change → List RemovedSentence
removed_by c = map (removed_sentence c) c.dropped

unfoldable pub same_removed : RemovedSentence → RemovedSentence → Bool
same_removed x y = same_name x.function y.function && eq_bytes x.pattern y.pattern

-- "Removed sentences are listed once per function name (case ignored) and pattern text".
unfoldable pub removed : List Round → List RemovedSentence
removed l = firsts same_removed (flat_map (λ r. flat_map removed_by r.changes) l)

unfoldable pub name_if : Standing → Name → List Name
name_if Standing.passed_over n = []
name_if Standing.uncharacterised n = n ∷ []
name_if (Standing.judged_by rs) n = []

-- "A call or block in any argument makes the callee uncharacterised, and it stays listed if that site later goes."
unfoldable pub uncharacterised : List Round → List Name
uncharacterised l = firsts same_name (flat_map (λ r. flat_map (λ c. name_if c.standing c.function.name) r.changes) l)

-- ---- the lists of the program that the rounds leave

unfoldable pub is_overlap : Verdict → Bool
is_overlap Disjoint = false
is_overlap Overlap = true
is_overlap Unknown = false

-- "the final lists include it if the show calls it": nobody is left alone.
unfoldable pub final_standing : List Site → Function → Standing
final_standing sites f = standing false (entering_restrictions f.name sites)

unfoldable pub undecided_sentence : Function → Sentence → UndecidedSentence
undecided_sentence f x = record { function = f.name; pattern = format_terms x.pattern }

unfoldable pub uncovered_restriction : Function → Terms → UncoveredRestriction
uncovered_restriction f r = record { function = f.name; input = format_terms r }

-- "a sentence is undecided if no restriction gives it Overlap". "Functions passed over for missing or uncharacterised restrictions give neither."
unfoldable pub undecided_of : Standing → Function → List UndecidedSentence
undecided_of Standing.passed_over f = []
undecided_of Standing.uncharacterised f = []
undecided_of (Standing.judged_by rs) f = map (undecided_sentence f) (select (λ x. not (any (λ r. is_overlap (patterns_overlap x.pattern r)) rs)) (sentence_list f.sentences))

-- "a restriction is uncovered if it is Disjoint from every sentence, also where there is none"
unfoldable pub uncovered_of : Standing → Function → List UncoveredRestriction
uncovered_of Standing.passed_over f = []
uncovered_of Standing.uncharacterised f = []
uncovered_of (Standing.judged_by rs) f = map (uncovered_restriction f) (select (λ r. all (λ x. is_disjoint (patterns_overlap x.pattern r)) (sentence_list f.sentences)) rs)

unfoldable pub same_undecided : UndecidedSentence → UndecidedSentence → Bool
same_undecided x y = eq_bytes x.function y.function && eq_bytes x.pattern y.pattern

unfoldable pub same_uncovered : UncoveredRestriction → UncoveredRestriction → Bool
same_uncovered x y = eq_bytes x.function y.function && eq_bytes x.input y.input

unfoldable pub begins_with : {A : Type 0} → (A → A → Bool) → A → List A → Bool
begins_with same x [] = false
begins_with same x (y ∷ l) = same x y

-- The Rust's `dedup`: "undecided and uncovered lose neighbouring repeats only".
unfoldable pub dedup : {A : Type 0} → (A → A → Bool) → List A → List A
dedup same [] = []
dedup same (x ∷ l) = cond (begins_with same x l) (dedup same l) (x ∷ dedup same l)

unfoldable pub undecided : Program → List UndecidedSentence
undecided q = dedup same_undecided (flat_map (λ f. undecided_of (final_standing (program_sites q) f) f) q.functions)

unfoldable pub uncovered : Program → List UncoveredRestriction
uncovered q = dedup same_uncovered (flat_map (λ f. uncovered_of (final_standing (program_sites q) f) f) q.functions)

-- ---- the report

-- "Any `Mu` or `Up` call": the lists are empty.
unfoldable pub unless : {A : Type 0} → Bool → List A → List A
unless true l = []
unless false l = l

-- The report of the Rust's `clean_residual_program`.
unfoldable pub clean_report : Program → CleanReport
clean_report p = record {
  functions = length p.functions;
  sentences_before = own_sentence_count p.functions;
  sentences_after = own_sentence_count (clean_residual_program p).functions;
  removed = removed (rounds p);
  undecided = unless (residual_dispatches_dynamically p) (undecided (clean_residual_program p));
  uncovered = unless (residual_dispatches_dynamically p) (uncovered (clean_residual_program p));
  uncharacterised = uncharacterised (rounds p);
  dynamic_dispatch = residual_dispatches_dynamically p;
  rounds = length (rounds p);
}
